use Rattle.std.proofs.Common.{map, set, ap, ◌∙◌, arith}
use Rattle.list_cells.specs.Views.{cell_of}
use Rattle.list_cells.proofs.Viewed.{stored, not_stored}
use Rattle.list_cells.proofs.memory.store.Goals as goal

pub returns-then-at-cells : goal.returns-then-at-cells
returns-then-at-cells g c =
    ap (λ i. map cell_of (set c.args.cells.now i c.args.cell)) c.index-at.ensures ∙ stored c.args.cells.now c.args.place.number c.args.cell (omega arith)

pub returns-else-at-cells : goal.returns-else-at-cells
returns-else-at-cells g c = not_stored c.args.cells.now c.args.place.number c.args.cell (omega arith)
