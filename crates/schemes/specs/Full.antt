-- The full scheme, by numbers: what each order makes of the sixteen marks. Assumes nothing.
use Rattle.std.specs.Prelude.{ℕ, List, map, replicate, Some, None, Option, slice_index_or, slice_set}
use Rattle.schemes.specs.declared.full.Full.{Full}
use Rattle.marks.specs.Meaning.{Order, Table}
use Rattle.marks.specs.Meaning.Order.{release, reserve, revoke}
use Rattle.marks.specs.Marks.{numbered}
use Rattle.schemes.specs.Clearing.{names, cleared}

-- for each seat the number of the place that it has marked, or none
abbrev pub full_state : Full → List (Option ℕ)
full_state s = map numbered s.marks

-- no seat has a mark
abbrev pub full_new : List (Option ℕ)
full_new = replicate 16 None

-- what an order makes of the marks
abbrev pub full_act : Order → List (Option ℕ) → List (Option ℕ)
full_act (release t) ms = slice_set ms t None
full_act (reserve t p) ms = slice_set ms t (Some p)
full_act (revoke p) ms = cleared (names p) ms

-- the mark of a seat
abbrev pub full_get : List (Option ℕ) → Table
full_get ms t = slice_index_or ms t None
