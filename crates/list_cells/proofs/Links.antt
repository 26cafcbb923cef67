-- Which number of a link is a place. Assumes nothing.
use Rattle.std.proofs.Common.{◌≡◌, ℕ, ◌<◌, ◌≤◌, Some, None, arith}
use Rattle.std.proofs.lemmas.Bool.Decides.{nat_tests}
use Rattle.list_cells.specs.Links.{place_named}

pub named_there : (n : ℕ) → n < 1008 → place_named n ≡ Some n
unfolding place_named
named_there n h = grind (arith, nat_tests)

pub named_end : (n : ℕ) → 1008 ≤ n → place_named n ≡ None
unfolding place_named
named_end n h = grind (arith, nat_tests)
