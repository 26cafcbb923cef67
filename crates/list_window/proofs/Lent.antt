-- The state of an index is that of the memory it is over. Assumes nothing.
use Rattle.std.proofs.Common.{◌≡◌, List}
use Rattle.std.specs.Borrow.{MutBor}
use Rattle.list_cells.specs.declared.cell.Cell.{Cell}
use Rattle.list_cells.specs.declared.cell.Anchor.{Anchor}
use Rattle.list_window.specs.declared.row.Row.{Row}
use Rattle.list_window.specs.declared.index.Index.{Index}
use Rattle.list_window.specs.Applied.{state_of}
use Rattle.list_window.specs.Lent.{lent_state, Over}

pub over_state : {K M : Type 0} {cells : MutBor (List (Cell K))} {rows : MutBor (List (Row K))} {anchor : MutBor Anchor} {scheme : MutBor M} {i : Index K M} → Over cells rows anchor scheme i → lent_state i ≡ state_of cells.now rows.now anchor.now scheme.now
over_state o = λ i. state_of (o.cells_now i) (o.rows_now i) (o.anchor_now i) (o.scheme_now i)
