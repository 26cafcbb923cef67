-- Refusals as a list of tests: the first that fits is given. Assumes nothing.
use Rattle.std.specs.Prelude.{Bool, cond, List, [], ◌∷◌, Some, None, Option}
use Rattle.basis.specs.declared.refusal.Refusal.{Refusal}

-- a refusal and whether it fits
pub record Test : Type 0 where
  pub fits : Bool
  pub gives : Refusal

abbrev pub test : Bool → Refusal → Test
test b r = record { fits = b; gives = r }

-- the refusal of the first test that fits, or none
abbrev pub first : List Test → Option Refusal
first [] = None
first (x ∷ xs) = cond x.fits (Some x.gives) (first xs)
