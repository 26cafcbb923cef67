use Rattle.std.proofs.Common.{ap}
use Rattle.list_law.specs.Call.{decided, window}
use Rattle.list_window.specs.Lent.{window_memory}
use Rattle.list_window.proofs.Effects.{as_effect}
use Rattle.list_window.proofs.index.Index.run_window.Goals as goal

-- the walk is the one of the definition, so what it decides is the window's effect
pub returns : goal.returns
unfolding window
returns g c = record {
  applied = as_effect (ap (decided c.args.kind c.args.target c.args.seat.number (window_memory c.args.self.now)) c.walk-met.ensures) c.decide.ensures.applied;
  same = c.decide.ensures.same;
}
