-- What slice patterns take apart is what the definitions of reading take apart. Assumes nothing.
use Rattle.std.proofs.Common.{◌≡◌, ℕ, ◌+◌, ◌-◌, ◌*◌, ◌<◌, ◌≤◌, Bool, List, [], ◌∷◌, length, get_or, take, drop, Some, None, refl, sym, ap, ◌∙◌, arith}
use Rattle.std.proofs.lemmas.List.{take_all}
use Rattle.std.proofs.lemmas.Bool.{le-ltb, lt-ltb, eq-eqb, cond-true, cond-false}
use Rattle.records.specs.Records.{from_two}
use Rattle.records.specs.declared.record.Record.{Record}
use Rattle.schedule.specs.Reading.{open_refusal, cut_of, content_at, placed, parted, next_of, handed, malformed, read_record}

-- bytes that begin with 1 and are not too many are opened, and the rest is what follows the first byte
pub opened : (bytes : List ℕ) → 0 < length bytes → get_or bytes 0 0 ≡ 1 → length bytes ≤ 60000 → (open_refusal bytes ≡ None) × (bytes ≡ 1 ∷ take (length bytes - 1) (drop 1 bytes))
opened [] h e l = absurd (omega arith)
opened (b ∷ bytes) h e l = (
  cond-false _ _ _ (le-ltb 60000 (length (b ∷ bytes)) l) ∙ cond-true _ _ _ (eq-eqb b 1 e),
  (λ i. e i ∷ sym (take_all (length (b ∷ bytes) - 1) bytes (omega arith)) i),
)

-- a length that what follows has is where it is cut
pub cut_at : (rest : List ℕ) (n : ℕ) → 2 ≤ length rest → n ≡ get_or rest 0 0 * 256 + get_or rest 1 0 → n ≤ length (take (length rest - 2) (drop 2 rest)) → cut_of rest ≡ Some (take n (take (length rest - 2) (drop 2 rest)), drop n (take (length rest - 2) (drop 2 rest)))
cut_at [] n h e l = absurd (omega arith)
cut_at (high ∷ []) n h e l = absurd (omega arith)
cut_at (high ∷ low ∷ bytes) n h e l =
    let all : take (length (high ∷ low ∷ bytes) - 2) bytes ≡ bytes = take_all (length (high ∷ low ∷ bytes) - 2) bytes (omega arith) in
    cond-false _ _ _ (le-ltb (length bytes) (from_two high low) (omega (arith, ap length all))) ∙ (λ i. Some (take (sym e i) (sym all i), drop (sym e i) (sym all i)))

-- a length that what follows does not have cuts nothing
pub cut_short : (rest : List ℕ) (n : ℕ) → 2 ≤ length rest → n ≡ get_or rest 0 0 * 256 + get_or rest 1 0 → length (take (length rest - 2) (drop 2 rest)) < n → cut_of rest ≡ None
cut_short [] n h e l = refl
cut_short (high ∷ []) n h e l = refl
cut_short (high ∷ low ∷ bytes) n h e l =
    let all : take (length (high ∷ low ∷ bytes) - 2) bytes ≡ bytes = take_all (length (high ∷ low ∷ bytes) - 2) bytes (omega arith) in
    cond-true _ _ _ (lt-ltb (length bytes) (from_two high low) (omega (arith, ap length all)))

-- where a record is cut and may stand, it is handed out
pub hands : (first : Bool) (total : ℕ) (rest bytes left : List ℕ) (r : Record) → cut_of rest ≡ Some (bytes, left) → content_at first bytes ≡ Some r → next_of first total rest ≡ handed (read_record (total - length left - length bytes) bytes r) left
hands first total [] bytes left r e f = let z : ◌≡◌ {A = ℕ} 0 1 = cc in absurd (omega arith)
hands first total (b ∷ rest) bytes left r e f = ap (parted first total) e ∙ ap (placed total bytes left) f

-- where a record is cut and may not stand, it is refused
pub refuses : (first : Bool) (total : ℕ) (rest bytes left : List ℕ) → cut_of rest ≡ Some (bytes, left) → content_at first bytes ≡ None → next_of first total rest ≡ malformed
refuses first total [] bytes left e f = let z : ◌≡◌ {A = ℕ} 0 1 = cc in absurd (omega arith)
refuses first total (b ∷ rest) bytes left e f = ap (parted first total) e ∙ ap (placed total bytes left) f
