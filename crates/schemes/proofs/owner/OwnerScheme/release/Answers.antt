use Rattle.std.proofs.Common.{rules}
use Rattle.schemes.proofs.OwnerLaws.{release_means, release_acts}
use Rattle.schemes.proofs.owner.OwnerScheme.release.Goals as goal

pub returns : goal.returns
returns c = search (rules, release_means, release_acts)
