-- Each scheme can carry out its orders, and so there are runs. Assumes nothing.
use Rattle.list_law.proofs.Existence.{runs}
use Rattle.worked_examples.proofs.Able.{full_able, owner_able, version_able, pair_able}
use Rattle.worked_examples.proofs.proved.runs_are_there_by_name.Goals as goal

pub returns-clause-full : goal.returns-clause-full
returns-clause-full g c = record { able = full_able; runs = runs g.K.Key.below g.met.K.Key.order _ _ _ _ full_able }

pub returns-clause-owner : goal.returns-clause-owner
returns-clause-owner g c = record { able = owner_able; runs = runs g.K.Key.below g.met.K.Key.order _ _ _ _ owner_able }

pub returns-clause-version : goal.returns-clause-version
returns-clause-version g c = record { able = version_able; runs = runs g.K.Key.below g.met.K.Key.order _ _ _ _ version_able }

pub returns-clause-pair : goal.returns-clause-pair
returns-clause-pair g c first second able_first able_second =
    let able = pair_able g.F.Scheme.table g.F.Scheme.strict g.F.Scheme.acts first able_first g.S.Scheme.table g.S.Scheme.strict g.S.Scheme.acts second able_second in
    record { able = able; runs = runs g.K.Key.below g.met.K.Key.order _ _ _ _ able }
