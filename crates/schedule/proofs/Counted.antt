-- How many records a schedule has at most: each takes at least four bytes, and the first seven. Assumes nothing.
use Rattle.std.proofs.Common.{◌≡◌, ℕ, zero, suc, ◌+◌, ◌*◌, ◌≤◌, Bool, true, false, cond, ltb, List, [], ◌∷◌, length, Some, None, sym, refl, ◌∙◌, arith, true≢false}
use Rattle.std.proofs.lemmas.Bool.{ltb-false}
use Rattle.records.specs.declared.record.Record.{Record}
use Rattle.records.specs.declared.record.Record.TheVariants.{Join, Leave, Step, Abandon}
use Rattle.records.specs.Records.{is_setup, seat_call, decoded}
use Rattle.schedule.specs.Reading.{Reading, handed, ended, malformed, next_of, no_first_byte, open_refusal}
use Rattle.schedule.specs.Schedules.{read_more, read_on, still, stop_lines, LineNumbers}
use Rattle.schedule.proofs.Writes.{tested, none_left}
use Rattle.schedule.proofs.Askings.{next_handed}

-- a call byte and a seat say no setup
seat_calls : (c seat : ℕ) (r : Record) → seat_call c seat ≡ Some r → is_setup r ≡ false
seat_calls c seat r =
    let test = tested (λ r. is_setup r ≡ false) c r in
    test 1 (Join seat) _ (λ e. refl) (test 2 (Leave seat) _ (λ e. refl) (test 6 (Step seat) _ (λ e. refl) (test 7 (Abandon seat) _ (λ e. refl) none_left)))

-- a setup has five bytes from its call byte on
setup_bytes : (bytes : List ℕ) (r : Record) → decoded bytes ≡ Some r → is_setup r ≡ true → 5 ≤ length bytes
setup_bytes [] r e s = none_left e
setup_bytes (c ∷ []) r e s = none_left e
setup_bytes (c ∷ seat ∷ []) r e s = absurd (true≢false (sym s ∙ seat_calls c seat r e))
setup_bytes (c ∷ seat ∷ x ∷ []) r e s = none_left e
setup_bytes (c ∷ seat ∷ x ∷ y ∷ []) r e s = none_left e
setup_bytes (c ∷ seat ∷ x ∷ y ∷ z ∷ bytes) r e s = omega arith

-- so many askings at later records
later : (n total : ℕ) (rest : List ℕ) → 4 * length (read_on n false total rest).entries + length (read_on n false total rest).rest ≤ length rest
unfolding read_on
later zero total rest = omega arith
later (suc n) total rest =
    elim (next_of false total rest) as (λ a. next_of false total rest ≡ a → 4 * length (read_more (read_on n false total) rest a).entries + length (read_more (read_on n false total) rest a).rest ≤ length rest) [
      | handed x left ↦ λ is. omega (arith, (next_handed false total rest x left is).shorter, later n total left)
      | ended ↦ λ is. omega arith
      | malformed ↦ λ is. omega arith
    ] refl

-- a rest that begins no record is one line more, and has a byte at least
short : (first : Bool) (total : ℕ) (rest : List ℕ) → stop_lines (next_of first total rest) ≤ length rest
short first total [] = omega arith
short first total (b ∷ rest) =
    elim (next_of first total (b ∷ rest)) as (λ a. stop_lines a ≤ length (b ∷ rest)) [ handed x left ↦ omega arith | ended ↦ omega arith | malformed ↦ omega arith ]

one_line : (a : Reading) → stop_lines a ≤ 1
one_line (handed x left) = omega arith
one_line ended = omega arith
one_line malformed = omega arith

-- all of them, from the first on
counted : (n total : ℕ) (rest : List ℕ) → length rest ≤ 59999 → length (read_on n true total rest).entries + stop_lines (next_of (still true (read_on n true total rest).entries) total (read_on n true total rest).rest) ≤ 14999
unfolding read_on
counted zero total rest h = omega (arith, one_line (next_of true total rest))
counted (suc n) total rest h =
    elim (next_of true total rest) as (λ a. next_of true total rest ≡ a
    → length (read_more (read_on n false total) rest a).entries + stop_lines (next_of (still true (read_more (read_on n false total) rest a).entries) total (read_more (read_on n false total) rest a).rest) ≤ 14999) [
      | handed x left ↦ λ is.
          let out = next_handed true total rest x left is in
          let on = read_on n false total left in
          omega (arith, out.cut.shorter, setup_bytes x.bytes x.content out.decodes out.here, later n total left, one_line (next_of false total on.rest), short false total on.rest)
      | ended ↦ λ is. omega (arith, one_line (next_of true total rest))
      | malformed ↦ λ is. omega (arith, one_line (next_of true total rest))
    ] refl

-- bytes that are opened are not too many
not_too_many : (bytes : List ℕ) → open_refusal bytes ≡ None → length bytes ≤ 60000
not_too_many bytes e = go (ltb 60000 (length bytes)) refl e
  where
    go : (b : Bool) → ltb 60000 (length bytes) ≡ b → cond b (Some 9) (no_first_byte bytes) ≡ None → length bytes ≤ 60000
    go true is e = none_left (sym e)
    go false is e = ltb-false _ _ is

pub line_numbers : LineNumbers 14999
line_numbers [] e = none_left (sym e)
line_numbers (b ∷ rest) e = counted (length (b ∷ rest)) (length (b ∷ rest)) rest (omega (arith, not_too_many (b ∷ rest) e))
