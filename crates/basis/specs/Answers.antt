-- The answers: number, word and values of each, and the text that stands for it. Assumes nothing.
use Rattle.std.specs.Prelude.{ℕ, List, [], ◌∷◌, ◌++◌, Result, codes, decimal}
use Rattle.std.specs.declared.result.Result.TheVariants as result
use Rattle.basis.specs.Cases.{Case, case_of}
use Rattle.basis.specs.Refusals.{refusal}
use Rattle.basis.specs.declared.refusal.Refusal as declared-refusal
use Rattle.basis.specs.declared.answer.Answer.{Answer}
use Rattle.basis.specs.declared.answer.Answer.TheVariants.{No, Yes, Wait, Full, Refused}

abbrev pub answer : Answer → Case
answer No = case_of 0 (codes "no") []
answer Yes = case_of 1 (codes "yes") []
answer Answer.Ok = case_of 2 (codes "ok") []
answer Wait = case_of 3 (codes "wait") []
answer Full = case_of 4 (codes "full") []
answer (Refused r) = case_of 5 (codes "refused") ((refusal r).number ∷ [])

-- each value in decimal, after a space
abbrev pub spaced : List ℕ → List ℕ
spaced [] = []
spaced (v ∷ vs) = 32 ∷ decimal v ++ spaced vs

-- the word of an answer, and then what it carries
abbrev pub spoken : Answer → List ℕ
spoken a = (answer a).word ++ spaced (answer a).values

-- the answer of a call that is accepted or refused, and answers nothing else: ok, whatever is handed out beside it, or the refusal
abbrev pub settled : {X : Type 0} → Result X declared-refusal.Refusal → Answer
settled (result.Ok x) = Answer.Ok
settled (result.Err e) = Refused e
