-- Each turn is one call more of the run, and one answer more.
use Rattle.std.proofs.Common.{[], ◌∷◌, ◌++◌, map, length, take, sym, ap, ◌∙◌, arith, rules}
use Rattle.std.proofs.lemmas.List.{take_more, take_more_set, get_or-map, length-map}
use Rattle.list_law.proofs.Driven.{driven_as}
use Rattle.list.proofs.Driven.{driven_on}
use Rattle.list_driver.specs.Asks.{ask_of}
use Rattle.list_driver.proofs.driver.drive.Goals as goal

pub loop-at-preserved : goal.loop-at-preserved
loop-at-preserved g c =
    let scheme = g.S.Scheme in
    let at = c.loop-at.at in
    let asks = c.args.asks.now in
    let ask = c.index-asks-at.result in
    let n = length c.args.index.now.cells.now in
    let w = c.args.index.now.anchor.now.window in
    let kept = c.loop-at.invariant.1 in
    let one = take_more (map ask_of asks) at (ask_of ask) (omega (arith, length-map asks ask_of)) ∙ ap (λ k. take at (map ask_of asks) ++ k ∷ []) (get_or-map ask_of asks at ask (ask_of ask) (omega arith) ∙ ap ask_of (sym c.index-asks-at.is)) in (
      driven_as g.K.Key.below scheme.table scheme.strict scheme.acts n w (sym one) (sym (take_more_set c.loop-at.answers at c.run_ask.result (omega (arith, c.loop-at.auto.answers, c.requires.0))))
          (driven_on kept.cells (kept.rows ∙ c.requires.1.0) c.loop-at.invariant.0 c.run_ask.ensures.called),
      search rules,
    )
