-- Seats that begin together wait at different cells, from the laws of the key's order. Assumes nothing.
use Rattle.list_law.proofs.Apart.{stop_apart}
use Rattle.list_law.proofs.proved.first_windows_stop_apart.Goals as goal

pub returns : goal.returns
returns g c =
    stop_apart g.K.Key.below g.met.K.Key.order
    g.S.Scheme.table g.S.Scheme.strict g.S.Scheme.acts
