use Rattle.std.proofs.Common.{rules}
use Rattle.schemes.proofs.FullLaws.{release_means, release_acts}
use Rattle.schemes.proofs.full.FullScheme.release.Goals as goal

pub returns : goal.returns
returns c = search (rules, release_means, release_acts)
