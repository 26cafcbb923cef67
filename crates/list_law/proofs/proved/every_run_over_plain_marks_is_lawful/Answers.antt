-- The law over plain marks, from the laws of the key's order. Assumes nothing.
use Rattle.list_law.specs.Existence.{unconstrained}
use Rattle.list_law.proofs.Lawful.{law}
use Rattle.list_law.proofs.proved.every_run_over_plain_marks_is_lawful.Goals as goal

pub returns : goal.returns
returns g c =
    λ keeps. law g.K.Key.below g.met.K.Key.order
    (λ m. m) keeps unconstrained
