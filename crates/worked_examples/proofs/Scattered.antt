-- Sixteen seats that begin together, computed. Assumes nothing.
use Rattle.std.proofs.Common.{◌++◌, replicate, refl, arith}
use Rattle.key_types.specs.declared.sector.Sector.{Sector}
use Rattle.list_law.specs.Call.{Cell, effect, walk, window, reach}
use Rattle.list_law.specs.Runs.{Sized}
use Rattle.list_law.specs.Performed.{event, next, after, events, answers}
use Rattle.worked_examples.specs.Scattered.{until_all_begin, first_steps, Scattered}
use Rattle.worked_examples.proofs.Worked.{ran}

sixteen_with_16 : Sized 16 16
sixteen_with_16 = record { some_cells = omega arith; few_cells = omega arith; some_window = omega arith; narrow = omega arith }

pub scattered : (given : Cell Sector) → Scattered given 16
unfolding answers after events event next effect walk window reach
scattered given = record {
  run = ran (replicate 16 given) 16 sixteen_with_16 (until_all_begin ++ first_steps);
  waits = refl;
  marks = refl;
}
