-- The pair of full and owner can carry out its orders, and so the pair of it and version can. Assumes nothing.
use Rattle.worked_examples.specs.Formed.{full_formed, owner_formed, version_formed, pair_formed}
use Rattle.worked_examples.proofs.proved.runs_are_there_over_a_pair_of_a_pair.Goals as goal

pub returns : goal.returns
returns g c =
    let inner = c.runs_are_there_by_name.ensures in
    let outer = c.runs_are_there_by_name-2.ensures in
    outer.pair (pair_formed full_formed owner_formed) version_formed
    (inner.pair full_formed owner_formed inner.full.able inner.owner.able).able inner.version.able
