-- Where a part of a slice lies. Assumes nothing.
use Rattle.std.proofs.Common.{◌≡◌, ℕ, ◌+◌, ◌-◌, ◌≤◌, List, length, take, drop, sym, ap, ◌∙◌, subst, arith}
use Rattle.std.specs.Borrow.{Bor}
use Rattle.std.proofs.lemmas.List.{length-take-le, length-drop, take_rest, take-take, drop-take, drop-drop}
use Rattle.schedule.specs.Reading.{LiesAt, Reads}
use Rattle.schedule.specs.declared.reader.Reader.{Reader}

-- so many bytes from there on
pub lies_at : (whole part : Bor (List ℕ)) (offset n : ℕ) → part.ref_ptr ≡ (whole.ref_ptr.0, whole.ref_ptr.1 + offset) → part.now ≡ take n (drop offset whole.now) → offset + n ≤ length whole.now → LiesAt whole offset part
lies_at whole part offset n address bytes room =
    let long : length part.now ≡ n = ap length bytes ∙ length-take-le n (drop offset whole.now) (omega (arith, length-drop offset whole.now)) in
    record { address = address; room = omega arith; bytes = bytes ∙ (λ i. take (sym long i) (drop offset whole.now)) }

-- a part of a part
pub within : (whole part inner : Bor (List ℕ)) (a b : ℕ) → LiesAt whole a part → LiesAt part b inner → LiesAt whole (a + b) inner
within whole part inner a b p q =
    let n = length inner.now in
    let m = length part.now in
    let there : inner.ref_ptr ≡ (whole.ref_ptr.0, whole.ref_ptr.1 + (a + b)) =
    q.address ∙ (λ i. ((p.address i).0, (p.address i).1 + b)) ∙ (let e : whole.ref_ptr.1 + a + b ≡ whole.ref_ptr.1 + (a + b) = omega arith in λ i. (whole.ref_ptr.0, e i)) in
    let split : b + (m - b) ≡ m = omega (arith, q.room) in
    let rest : drop b part.now ≡ take (m - b) (drop (a + b) whole.now) =
    ap (drop b) (p.bytes ∙ (λ i. take (sym split i) (drop a whole.now))) ∙ drop-take b (m - b) (drop a whole.now) ∙ ap (take (m - b)) (drop-drop b a whole.now) in
    lies_at whole inner (a + b) n there (q.bytes ∙ ap (take n) rest ∙ take-take n (m - b) (drop (a + b) whole.now) (omega (arith, q.room))) (omega (arith, p.room, q.room))

-- what a length cuts off behind itself, and what is left after that
pub cut_front : (whole part : Bor (List ℕ)) (n : ℕ) → part.ref_ptr ≡ (whole.ref_ptr.0, whole.ref_ptr.1 + 2) → part.now ≡ take n (take (length whole.now - 2) (drop 2 whole.now)) → 2 + n ≤ length whole.now → LiesAt whole 2 part
cut_front whole part n address bytes room = lies_at whole part 2 n address (bytes ∙ ap (take n) (take_rest whole.now 2)) room

pub cut_back : (whole part left : Bor (List ℕ)) (n : ℕ) → LiesAt whole 2 part → length part.now ≡ n → left.ref_ptr ≡ (whole.ref_ptr.0, whole.ref_ptr.1 + (2 + n))
    → left.now ≡ take (length (take (length whole.now - 2) (drop 2 whole.now)) - n) (drop n (take (length whole.now - 2) (drop 2 whole.now))) → LiesAt whole (2 + length part.now) left
cut_back whole part left n lies long address bytes =
    let tail = take (length whole.now - 2) (drop 2 whole.now) in
    let all : tail ≡ drop 2 whole.now = take_rest whole.now 2 in
    let rest : left.now ≡ drop (2 + length part.now) whole.now =
    bytes ∙ take_rest tail n ∙ ap (drop n) all ∙ drop-drop n 2 whole.now ∙ (λ i. drop (2 + sym long i) whole.now) in
    lies_at whole left (2 + length part.now) (length whole.now - (2 + length part.now)) (address ∙ (λ i. (whole.ref_ptr.0, whole.ref_ptr.1 + (2 + sym long i)))) (rest ∙ sym (take_rest whole.now (2 + length part.now))) (omega (arith, lies.room))

-- a reader that was opened: what is left stands behind the first byte
pub behind_first : (schedule rest : Bor (List ℕ)) → 1 ≤ length schedule.now → rest.ref_ptr ≡ (schedule.ref_ptr.0, schedule.ref_ptr.1 + 1) → rest.now ≡ take (length schedule.now - 1) (drop 1 schedule.now) → LiesAt schedule (length schedule.now - length rest.now) rest
behind_first schedule rest some address bytes =
    let long = length-take-le (length schedule.now - 1) (drop 1 schedule.now) (omega (arith, length-drop 1 schedule.now)) in
    let offset : 1 ≡ length schedule.now - length rest.now = omega (arith, ap length bytes) in
    subst (λ n. LiesAt schedule n rest) offset (lies_at schedule rest 1 (length schedule.now - 1) address bytes (omega arith))

-- a reader that handed out a part: the part lies in the schedule that is read, and what is left does
module _ (schedule : Bor (List ℕ)) (before : Reader) (part left : Bor (List ℕ)) (reads : Reads schedule before) (shorter : length left.now + length part.now + 2 ≡ length before.rest.now) where
  pub part_lies : (offset : ℕ) → LiesAt before.rest 2 part → offset ≡ before.total - length left.now - length part.now → LiesAt schedule offset part
  part_lies offset lies is =
      let same : before.total - length before.rest.now + 2 ≡ offset = omega (arith, reads.rest.room, reads.total) in
      subst (λ n. LiesAt schedule n part) same (within schedule before.rest part (before.total - length before.rest.now) 2 reads.rest lies)

  pub still_reads : (after : Reader) → LiesAt before.rest (2 + length part.now) left → after.rest ≡ left → after.total ≡ before.total → Reads schedule after
  still_reads after lies rest total =
      let same : before.total - length before.rest.now + (2 + length part.now) ≡ after.total - length left.now = omega (arith, reads.rest.room, reads.total) in
      let moved = subst (λ n. LiesAt schedule n left) same (within schedule before.rest left (before.total - length before.rest.now) (2 + length part.now) reads.rest lies) in
      record { total = total ∙ reads.total; rest = subst (λ (r : Bor (List ℕ)). LiesAt schedule (after.total - length r.now) r) (sym rest) moved }
