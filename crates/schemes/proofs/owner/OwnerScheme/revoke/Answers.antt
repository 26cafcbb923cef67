use Rattle.std.proofs.Common.{rules}
use Rattle.schemes.proofs.OwnerLaws.{revoke_means, revoke_acts}
use Rattle.schemes.proofs.owner.OwnerScheme.revoke.Goals as goal

pub returns : goal.returns
returns c = search (rules, revoke_means, revoke_acts)
