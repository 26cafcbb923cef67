use Rattle.std.proofs.Common.{rules}
use Rattle.schemes.proofs.FullLaws.{reserve_means, reserve_acts}
use Rattle.schemes.proofs.full.FullScheme.reserve.Goals as goal

pub returns : goal.returns
returns c = search (rules, reserve_means, reserve_acts)
