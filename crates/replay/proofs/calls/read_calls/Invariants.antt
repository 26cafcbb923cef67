use Rattle.std.proofs.Common.{map, length, vec_items}
use Rattle.list_driver.specs.Asks.{ask_of}
use Rattle.replay.proofs.Taken.{Taken}
use Rattle.replay.proofs.calls.read_calls.Given as goal

abbrev pub invariant-loop-part : goal.invariant-loop-part
invariant-loop-part l = Taken l.bytes l.reader l.setup (map ask_of (vec_items l.asks))

abbrev pub decreases-loop-part : goal.decreases-loop-part
decreases-loop-part l = length l.reader.rest.now
