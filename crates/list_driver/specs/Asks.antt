-- What seats ask of a driven index, as the definitions have it. Assumes nothing.
use Rattle.std.specs.Prelude.{◌≡◌, ℕ, Bool, true, false, cond, ◌&&◌, List, length, ◌==◌}
use Rattle.basis.specs.declared.refusal.Refusal.TheVariants.{WrongSizes}
use Rattle.basis.specs.declared.answer.Answer.{Answer}
use Rattle.basis.specs.declared.answer.Answer.TheVariants.{Refused}
use Rattle.marks.specs.Meaning.{Table, Order}
use Rattle.list_driver.specs.declared.driver.Ask as declared
use Rattle.list_window.specs.Turns.{what_of}
use Rattle.list_law.specs.Call.{State}
use Rattle.list_law.specs.Making.{makes, Makes}
use Rattle.list_law.specs.Performed.{Ask}
use Rattle.list_law.specs.Driven.{Driven}
use Rattle.basis.specs.Cases.{Case}
use Rattle.list_making.specs.Cases.{taken_case}

-- what a seat asks
abbrev pub ask_of : {K : Type 0} → declared.Ask K → Ask K
ask_of k = record { seat = k.seat; level = k.level; what = what_of k.request }

-- as many answers as calls, and sizes that making takes
abbrev pub runnable : ℕ → ℕ → ℕ → ℕ → ℕ → Bool
runnable cells rows window calls answers = calls == answers && makes cells rows window

-- what driving so many calls gives, with room for so many answers: ok where they can be run, else the refusal of wrong sizes
abbrev pub driving_case : ℕ → ℕ → ℕ → ℕ → ℕ → Case
driving_case cells rows window calls answers = taken_case (runnable cells rows window calls answers)

-- an index made over n cells and r rows with window w, and these calls run on it: accepted where that can be done, and then the making is
-- as it is defined, and the answers are those of a lawful run of exactly these calls; else refused, and nothing is altered
pub record Ran {K M : Type 0} (below : K → K → Bool) (table : M → Table) (strict : Bool) (acts : Order → M → M → Type 0)
    (n r w : ℕ) (asks : List (Ask K)) (before : List Answer) (s : State K M) (a : Answer) (after : List Answer) (s' : State K M) : Type 0 where
  pub answer : a ≡ cond (runnable n r w (length asks) (length before)) Answer.Ok (Refused WrongSizes)
  pub driven : runnable n r w (length asks) (length before) ≡ true →
      (start : State K M) × Makes below table strict acts s w Answer.Ok start × Driven below table strict acts n w start asks after s'
  pub same : runnable n r w (length asks) (length before) ≡ false → (s' ≡ s) × (after ≡ before)
