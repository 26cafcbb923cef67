-- Entries of a list, by what they name, and those that pass a test cleared. Assumes nothing.
use Rattle.std.specs.Prelude.{ℕ, Bool, false, cond, List, map, Some, None, Option, ◌==◌}

-- whether an entry names that number: a mark that place, an owner that seat
abbrev pub names : ℕ → Option ℕ → Bool
names n None = false
names n (Some m) = m == n

-- the marks, those that pass the test cleared
abbrev pub cleared : {X : Type 0} → (Option X → Bool) → List (Option X) → List (Option X)
cleared test ms = map (λ m. cond (test m) None m) ms
