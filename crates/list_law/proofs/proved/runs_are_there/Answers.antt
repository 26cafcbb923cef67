-- Runs begin and go on, from the laws of the key's order. Assumes nothing.
use Rattle.list_law.proofs.Existence.{runs_are_there}
use Rattle.list_law.proofs.proved.runs_are_there.Goals as goal

pub returns : goal.returns
returns g c =
    runs_are_there g.K.Key.below g.met.K.Key.order
    g.S.Scheme.table g.S.Scheme.strict g.S.Scheme.acts
