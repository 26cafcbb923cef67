-- A walk that has passed a cell. Assumes nothing.
use Rattle.std.specs.Prelude.{ℕ, zero, suc, Bool, Some, None, Option, List}
use Rattle.std.specs.List.{slice_get}
use Rattle.list_law.specs.Call.{Cell, Link, Met, bad, passed, walk}

-- what a walk gives that has passed a cell, at place p and with that link, and may still pass up to `more`: with none it has ended there
unfoldable pub behind : {K : Type 0} → (K → K → Bool) → List (Cell K) → K → ℕ → ℕ → Link → Met
behind below cs x zero p l = passed p l
behind below cs x (suc room) p l = walk below cs x room (Some p) l

-- the same by the cell at place p
abbrev pub goes_on : {K : Type 0} → (K → K → Bool) → List (Cell K) → K → ℕ → ℕ → Option (Cell K) → Met
goes_on below cs x more p None = bad
goes_on below cs x more p (Some c) = behind below cs x more p c.link

-- the same, the cell read first
abbrev pub behind_at : {K : Type 0} → (K → K → Bool) → List (Cell K) → K → ℕ → ℕ → Met
behind_at below cs x more p = goes_on below cs x more p (slice_get cs p)
