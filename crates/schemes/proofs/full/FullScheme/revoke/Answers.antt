-- Each mark that names the place is cleared, and after the last one all are done.
use Rattle.std.proofs.Common.{◌≡◌, true, false, length, sym, ◌∙◌, arith, rules}
use Rattle.marks.specs.Marks.{numbered}
use Rattle.schemes.specs.Clearing.{names}
use Rattle.schemes.proofs.Cleared.{cleared_more, cleared_all}
use Rattle.schemes.proofs.FullLaws.{strike_means, strike_acted}
use Rattle.schemes.proofs.full.FullScheme.revoke.Goals as goal
use Rattle.schemes.proofs.full.FullScheme.revoke.Goals.{then-eq, else-eq}

pub loop-mark-preserved : goal.loop-mark-preserved
loop-mark-preserved c =
    let sixteen : length c.args.self.now.marks ≡ 16 = search rules in
    let is : c.eq.result ≡ names c.args.p.number (numbered c.mark-item.result) = search rules in
    let step = cleared_more (λ m. names c.args.p.number (numbered m)) _ _ _ _ (omega arith) c.loop-mark.invariant c.mark-item.is in
    elim c.if-eq.branch [
      | then-eq w ↦ step true (sym w.if-eq.true ∙ is) _ w.mark-items-is
      | else-eq w ↦ step false (sym w.if-eq.false ∙ is) _ w.mark-items-is
    ]

pub returns : goal.returns
returns c =
    let sixteen : length c.args.self.now.marks ≡ 16 = search rules in
    let struck = cleared_all (λ m. names c.args.p.number (numbered m)) c.args.self.now.marks c.loop-mark.mark-items _ (omega arith) c.loop-mark.invariant in
    record { means = strike_means _ _ _ sixteen struck; acts = strike_acted c.args.self.now _ _ struck }
