use Rattle.std.proofs.Common.{rules}
use Rattle.schemes.proofs.VersionLaws.{reserve_means, reserve_acts, reserve_none_ahead}
use Rattle.schemes.proofs.version.VersionScheme.reserve.Goals as goal

pub invariant_of-self : goal.invariant_of-self
invariant_of-self c = search (rules, reserve_none_ahead)

pub returns : goal.returns
returns c = search (rules, reserve_means, reserve_acts)
