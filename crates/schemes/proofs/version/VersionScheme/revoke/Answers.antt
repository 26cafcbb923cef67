use Rattle.marks.specs.Meaning.Order.{revoke}
use Rattle.schemes.proofs.VersionLaws.{version_means, version_none_ahead}
use Rattle.schemes.proofs.version.VersionScheme.revoke.Goals as goal

pub invariant_of-self : goal.invariant_of-self
invariant_of-self c = record { none_ahead = version_none_ahead _ _ c.count_revoke.ensures.sixteen c.args.self.now.none_ahead (revoke c.args.p.number) tt c.count_revoke.ensures.exact }

pub returns : goal.returns
returns c =
    let acted = c.count_revoke.ensures.exact in
    record { means = version_means _ _ c.count_revoke.ensures.sixteen c.args.self.now.none_ahead (revoke c.args.p.number) tt acted; acts = acted }
