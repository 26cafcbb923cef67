-- The rule of waits, from the laws of the key's order. Assumes nothing.
use Rattle.list_law.proofs.Lawful.{windows}
use Rattle.list_law.proofs.proved.windows_wait_at_the_last_cell.Goals as goal

pub returns : goal.returns
returns g c =
    windows g.K.Key.below g.met.K.Key.order
    g.S.Scheme.table g.S.Scheme.strict g.S.Scheme.acts
