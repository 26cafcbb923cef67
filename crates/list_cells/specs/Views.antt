-- What lent cells and anchor hold, as the definitions of one call have it. Assumes nothing.
use Rattle.std.specs.Prelude.{◌≡◌, List, map, Option, None, Some}
use Rattle.std.specs.Borrow.{Bor}
use Rattle.std.specs.Option.{option_map}
use Rattle.marks.specs.Marks.{numbered}
use Rattle.list_cells.specs.Links.{place_named}
use Rattle.list_cells.specs.declared.cell.Cell as declared
use Rattle.list_cells.specs.declared.cell.Anchor as declared-anchor
use Rattle.list_cells.specs.declared.walk.Met as declared-met
use Rattle.list_cells.specs.declared.walk.Met.TheVariants as variant
use Rattle.list_law.specs.Call as call

-- a cell, with its link by number
abbrev pub cell_of : {K : Type 0} → declared.Cell K → call.Cell K
cell_of c = call.cell c.key (place_named c.link.number) c.listed

abbrev pub found_of : {K : Type 0} → Option (Bor (declared.Cell K)) → Option (call.Cell K)
found_of o = option_map (λ b. cell_of b.now) o

-- where a walk ended, by numbers; none is at a link that leads to no cell or to a free one
abbrev pub met_of : Option declared-met.Met → call.Met
met_of None = call.bad
met_of (Some (variant.Passed p l)) = call.passed p.number (numbered l)
met_of (Some (variant.Present lead p l)) = call.present (numbered lead) p.number (numbered l)
met_of (Some (variant.Absent lead l)) = call.absent (numbered lead) (numbered l)

-- the anchor, with its links by number
abbrev pub anchor_of : declared-anchor.Anchor → call.Anchor
anchor_of a = record { count = a.count; window = a.window; head = numbered a.head; free = numbered a.free }

-- the part that a window writes
abbrev pub lent_memory : {K : Type 0} → List (declared.Cell K) → declared-anchor.Anchor → call.Memory K
lent_memory cs a = call.memory (map cell_of cs) (numbered a.head) (numbered a.free)

-- the numbers that are given at making stay
abbrev pub SameSizes : declared-anchor.Anchor → declared-anchor.Anchor → Type 0
SameSizes a b = (b.count ≡ a.count) × (b.window ≡ a.window)
