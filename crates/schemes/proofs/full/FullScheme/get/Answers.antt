use Rattle.std.proofs.Common.{rules}
use Rattle.schemes.proofs.Cleared.{read_mapped}
use Rattle.schemes.proofs.full.FullScheme.get.Goals as goal

pub returns : goal.returns
returns c = record { answer = read_mapped (λ p. p.number) c.args.self.now.marks _ _ _ (search rules) c.index.ensures }
