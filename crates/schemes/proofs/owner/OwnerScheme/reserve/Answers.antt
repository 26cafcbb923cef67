use Rattle.std.proofs.Common.{rules}
use Rattle.schemes.proofs.OwnerLaws.{reserve_means, reserve_acts}
use Rattle.schemes.proofs.owner.OwnerScheme.reserve.Goals as goal

pub returns : goal.returns
returns c = search (rules, reserve_means, reserve_acts)
