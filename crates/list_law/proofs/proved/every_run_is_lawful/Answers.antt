-- The law, from the laws of the key's order. Assumes nothing.
use Rattle.list_law.proofs.Lawful.{law}
use Rattle.list_law.proofs.proved.every_run_is_lawful.Goals as goal

pub returns : goal.returns
returns g c =
    law g.K.Key.below g.met.K.Key.order
    g.S.Scheme.table g.S.Scheme.strict g.S.Scheme.acts
