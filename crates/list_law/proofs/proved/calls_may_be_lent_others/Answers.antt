-- A call does the same on other slices that its answer does not look at.
use Rattle.list_law.proofs.Elsewhere.{others_serve}
use Rattle.list_law.proofs.proved.calls_may_be_lent_others.Goals as goal

pub returns : goal.returns
returns g c =
    others_serve g.K.Key.below
    g.S.Scheme.table g.S.Scheme.strict g.S.Scheme.acts
