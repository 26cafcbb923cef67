-- How a making is told. Assumes nothing.
use Rattle.std.specs.Prelude.{ℕ, Bool, cond, [], ◌∷◌, codes}
use Rattle.basis.specs.Cases.{Case, case_of}
use Rattle.list_law.specs.Making.{makes}

-- ok where the sizes are taken, else the refusal of wrong sizes, by its number
abbrev pub taken_case : Bool → Case
taken_case taken = cond taken (case_of 2 (codes "ok") []) (case_of 5 (codes "refused") (2 ∷ []))

-- what a making over so many cells and rows with that window gives
abbrev pub making_case : ℕ → ℕ → ℕ → Case
making_case cells rows window = taken_case (makes cells rows window)
