use Rattle.std.proofs.Common.{length, vec_items}
use Rattle.schedule.proofs.Sofar.{Filled}
use Rattle.schedule.proofs.contents.read_whole.Given as goal

abbrev pub invariant-loop-part : goal.invariant-loop-part
invariant-loop-part l = Filled l.bytes l.initial.reader (vec_items l.parts) l.reader

abbrev pub decreases-loop-part : goal.decreases-loop-part
decreases-loop-part l = length l.reader.rest.now
