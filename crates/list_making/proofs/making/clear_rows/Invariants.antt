use Rattle.std.proofs.Common.{◌≡◌, map, take, replicate}
use Rattle.list_law.specs.Call.{away}
use Rattle.list_window.specs.Rows.{row_of}
use Rattle.list_making.proofs.making.clear_rows.Given as goal

abbrev pub invariant-loop-row : goal.invariant-loop-row
invariant-loop-row g l = map row_of (take l.row-index l.rows) ≡ replicate l.row-index away
