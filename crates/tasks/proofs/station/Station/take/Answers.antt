-- The task makes its call on the index that the station lends, so both seats stay held.
use Rattle.std.proofs.Common.{refl, rules}
use Rattle.list_window.proofs.Lent.{over_state}
use Rattle.tasks.proofs.Manned.{called_over, asked_apart, stays_manned}
use Rattle.tasks.proofs.station.Station.take.Goals as goal

pub invariant_of-self : goal.invariant_of-self
invariant_of-self g c = record { manned = stays_manned (over_state c.over-index.ensures) c.show.ensures.called (asked_apart c.args.turn.ask) c.show.ensures.level c.args.self.now.manned }

pub returns-clause-called : goal.returns-clause-called
returns-clause-called g c = called_over (over_state c.over-index.ensures) refl (search rules) c.show.ensures.called
