use Rattle.std.proofs.Common.{◌≡◌, ◌-◌, ◌<◌, length, map}
use Rattle.list_cells.specs.Behind.{behind_at}
use Rattle.list_cells.specs.Views.{cell_of}
use Rattle.list_cells.proofs.walk.walk_on.Given as goal

-- both numbers name the same cell, and what is left of the walk is the whole of it
abbrev pub invariant-loop-passed : goal.invariant-loop-passed
invariant-loop-passed g l =
    let below = g.K.Key.below in
    let cells = map cell_of l.cells in
    (l.at ≡ l.lead.number)
    × (l.lead.number < length l.cells)
    × (behind_at below cells l.target (l.more - l._passed) l.lead.number ≡ behind_at below cells l.target l.more l.initial.lead.number)
