-- What a join and a leave by slip give: the answer that the result stands for, and how it is told; and what it is to hold a seat.
-- Assumes nothing.
use Rattle.std.specs.Prelude.{◌≡◌, ℕ, ◌<◌, true, ◌≢◌, cond, [], ◌∷◌, ◌++◌, length, codes, Result}
use Rattle.std.specs.declared.result.Result.TheVariants as result
use Rattle.basis.specs.declared.answer.Answer.{Answer}
use Rattle.basis.specs.declared.answer.Answer.TheVariants.{Refused}
use Rattle.basis.specs.Answers.{answer}
use Rattle.basis.specs.Cases.{Case, case_of}
use Rattle.basis.specs.Refusals.{refusal}
use Rattle.basis.specs.declared.refusal.Refusal.{Refusal}
use Rattle.ledger.specs.Law.{is_accepted}
use Rattle.list.specs.declared.slip.RefusedLeave.{RefusedLeave}
use Rattle.list.specs.declared.slip.Slip.{Slip}
use Rattle.list_law.specs.Call.{State, away, fits_anchor, row_at}

-- ok, or a refusal with the slip beside it
abbrev pub left : {X : Type 0} → Result X RefusedLeave → Answer
left (result.Ok done) = Answer.Ok
left (result.Err kept) = Refused kept.refusal

-- a case that carries one value more, behind the others
abbrev pub with_value : ℕ → Case → Case
with_value v c = case_of c.number c.word (c.values ++ v ∷ [])

-- a join by slip, told by number, word and values: ok carries the seat of the slip, a refusal its number alone
abbrev pub join_case : Result Slip Refusal → Case
join_case (result.Ok slip) = case_of 2 (codes "ok") (slip.seat ∷ [])
join_case (result.Err r) = case_of 5 (codes "refused") ((refusal r).number ∷ [])

-- a leave by slip, told likewise: ok carries nothing, a refusal its number and, beside it, the seat of the slip that is handed back
abbrev pub leave_case : {X : Type 0} → Result X RefusedLeave → Case
leave_case (result.Ok done) = case_of 2 (codes "ok") []
leave_case (result.Err kept) = case_of 5 (codes "refused") ((refusal kept.refusal).number ∷ kept.slip.seat ∷ [])

-- how a join of seat t is to be told that has this answer, and a leave of seat t
abbrev pub join_due : ℕ → Answer → Case
join_due t a = cond (is_accepted a) (with_value t (answer a)) (answer a)

abbrev pub leave_due : ℕ → Answer → Case
leave_due t a = cond (is_accepted a) (answer a) (with_value t (answer a))

-- seat t is held in an index whose sizes are right: its row is not away. So it is after a join that gave a slip, and it stays so until leave
pub record Held {K M : Type 0} (s : State K M) (t : ℕ) : Type 0 where
  pub seat : t < 16
  pub cells : fits_anchor s.cells s.anchor ≡ true
  pub rows : length s.rows ≡ 16
  pub row : row_at s.rows t ≢ away
