-- What making leaves. Assumes nothing.
use Rattle.std.specs.Prelude.{◌≡◌, ℕ, zero, suc, Bool, true, false, cond, ◌&&◌, List, [], ◌∷◌, length, replicate, None, ◌==◌, nat_le}
use Rattle.basis.specs.declared.refusal.Refusal.TheVariants.{WrongSizes}
use Rattle.basis.specs.declared.answer.Answer.{Answer}
use Rattle.basis.specs.declared.answer.Answer.TheVariants.{Refused}
use Rattle.marks.specs.Meaning.{Table, Order, release, Along}
use Rattle.list_law.specs.Call.{Cell, away, State, Obeys}
use Rattle.list_law.specs.Runs.{onward, chained}
use Rattle.list_law.specs.Continued.{Begins}

-- the sizes that making takes: 1 to 1,008 cells, sixteen rows, and a window of 1 to 64
abbrev pub makes : ℕ → ℕ → ℕ → Bool
makes cells rows window = nat_le 1 cells && nat_le cells 1008 && rows == 16 && nat_le 1 window && nat_le window 64

-- releases of the seats from t on, so many
abbrev pub releases_from : ℕ → ℕ → List Order
releases_from t zero = []
releases_from t (suc n) = release t ∷ releases_from (suc t) n

-- all sixteen marks are released, one after another
abbrev pub releases : List Order
releases = releases_from 0 16

-- an index over the given cells: all free and chained, keys as they were, sixteen seats away
abbrev pub made_of : {K M : Type 0} → List (Cell K) → ℕ → M → State K M
made_of given w marks = record {
  cells = chained 0 given;
  rows = replicate 16 away;
  anchor = record { count = length given; window = w; head = None; free = onward 0 given };
  marks = marks;
}

-- a making with this answer leads from the state s that it is lent to s': accepted where the sizes fit, and then the empty run leads
-- to s'; else refused, and nothing is altered
pub record Makes {K M : Type 0} (below : K → K → Bool) (table : M → Table) (strict : Bool) (acts : Order → M → M → Type 0)
    (s : State K M) (w : ℕ) (a : Answer) (s' : State K M) : Type 0 where
  pub answer : a ≡ cond (makes (length s.cells) (length s.rows) w) Answer.Ok (Refused WrongSizes)
  pub made : makes (length s.cells) (length s.rows) w ≡ true → s' ≡ made_of s.cells w s'.marks
  pub marks : makes (length s.cells) (length s.rows) w ≡ true → Along (Obeys table strict acts) releases s.marks s'.marks
  pub same : makes (length s.cells) (length s.rows) w ≡ false → s' ≡ s
  pub runs : makes (length s.cells) (length s.rows) w ≡ true → Begins below table strict acts (length s.cells) w s'
