-- Each mark that is kept in the slot is cleared.
use Rattle.std.proofs.Common.{◌≡◌, true, false, length, sym, ◌∙◌, arith, rules}
use Rattle.std.specs.Option.{option_map}
use Rattle.schemes.specs.Version.{dated_of, kept_in}
use Rattle.schemes.proofs.Cleared.{cleared_more}
use Rattle.schemes.proofs.version.Stamps.restart.Goals as goal
use Rattle.schemes.proofs.version.Stamps.restart.Goals.{then-is_some_and, else-is_some_and}

pub loop-mark-preserved : goal.loop-mark-preserved
loop-mark-preserved c =
    let sixteen : length c.args.self.now.marks ≡ 16 = search rules in
    let is : c.is_some_and.result ≡ kept_in c.args.slot (option_map dated_of c.mark-item.result) = search rules in
    let step = cleared_more (λ m. kept_in c.args.slot (option_map dated_of m)) _ _ _ _ (omega arith) c.loop-mark.invariant c.mark-item.is in
    elim c.if-is_some_and.branch [
      | then-is_some_and w ↦ step true (sym w.if-is_some_and.true ∙ is) _ w.mark-items-is
      | else-is_some_and w ↦ step false (sym w.if-is_some_and.false ∙ is) _ w.mark-items-is
    ]
