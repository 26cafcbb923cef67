use Rattle.std.proofs.Common.{rules}
use Rattle.schemes.proofs.VersionLaws.{release_means, release_acts, release_none_ahead}
use Rattle.schemes.proofs.version.VersionScheme.release.Goals as goal

pub invariant_of-self : goal.invariant_of-self
invariant_of-self c = search (rules, release_none_ahead)

pub returns : goal.returns
returns c = search (rules, release_means, release_acts)
