-- The cells that are lent are blank, and the answers are those that the run left.
use Rattle.std.proofs.Common.{◌≡◌, map, length, sym, ap, ◌∙◌}
use Rattle.std.proofs.lemmas.List.{with_items_is, length-map, length-replicate}
use Rattle.std.proofs.lemmas.Result.{MatchResult-at_ok, MatchResult-at_err}
use Rattle.list_law.specs.Making.{makes}
use Rattle.list_cells.specs.Views.{cell_of}
use Rattle.list_driver.specs.Asks.{ask_of}
use Rattle.replay.proofs.Ran.{over_as}
use Rattle.replay.proofs.runs.answers_over.Goals as goal

pub returns-in-Err : goal.returns-in-Err
returns-in-Err g c =
    let given = ap (map cell_of) c.as_mut_slice.ensures.value ∙ c.in_ok-cells.ensures in
    let number : length c.as_mut_slice.result.now ≡ c.args.count = sym (length-map c.as_mut_slice.result.now cell_of) ∙ ap length given ∙ length-replicate c.args.count _ in
    let run = MatchResult-at_err _ _ c.in-Err.refusal c.in-Err.is c.run_over-run.ensures in
    (sym (ap (λ n. makes n 16 c.args.window) number) ∙ run.0, run.1)

pub returns : goal.returns
returns g c =
    let scheme = g.S.Scheme in
    let given = ap (map cell_of) c.as_mut_slice.ensures.value ∙ c.in_ok-cells.ensures in
    let number : length c.as_mut_slice.result.now ≡ c.args.count = sym (length-map c.as_mut_slice.result.now cell_of) ∙ ap length given ∙ length-replicate c.args.count _ in
    let run = MatchResult-at_ok _ _ tt c.in_default.is c.run_over-run.ensures in (
      sym (ap (λ n. makes n 16 c.args.window) number) ∙ run.0,
      over_as scheme.table scheme.strict scheme.acts c.args.window c.args.scheme.now (map ask_of c.args.asks.now) given (sym (with_items_is c.in_ok-answers.answers c.run_over-run.new.answers (c.run_over-run.auto.answers ∙ c.as_mut_slice-2.ensures.len))) run.1,
    )
