use Rattle.std.proofs.Common.{◌≡◌, map, length}
use Rattle.list_cells.specs.Views.{cell_of}
use Rattle.list_making.proofs.Makes.{freed_front}
use Rattle.list_making.proofs.making.free_cells.Given as goal

abbrev pub invariant-loop-at : goal.invariant-loop-at
invariant-loop-at g l = (l.count ≡ length l.initial.cells) × (map cell_of l.cells ≡ freed_front l.count l.at 0 (map cell_of l.initial.cells))
