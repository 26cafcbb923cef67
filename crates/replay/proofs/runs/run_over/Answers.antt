-- The driver's result says whether making took the sizes.
use Rattle.std.proofs.Common.{◌≡◌, List, true, false, map, length, ap, ◌∙◌, subst, refl, rules}
use Rattle.std.proofs.lemmas.List.{length-map}
use Rattle.basis.specs.declared.refusal.Refusal.TheVariants.{WrongSizes}
use Rattle.list_cells.specs.Views.{cell_of}
use Rattle.list_window.specs.Rows.{row_of}
use Rattle.list_law.specs.Making.{makes}
use Rattle.list_driver.specs.Asks.{ask_of}
use Rattle.replay.specs.Runs.{MadeAndRun}
use Rattle.replay.proofs.Ran.{accepted, refused, over}
use Rattle.replay.proofs.runs.run_over.Goals as goal

pub returns : goal.returns
returns g c =
    let scheme = g.S.Scheme in
    let index = c.over-index.result in
    let there = c.over-index.ensures in
    let sixteen : length index.rows.now ≡ 16 = ap length there.rows_now in
    let rows = length-map index.rows.now row_of ∙ sixteen in
    let cells = length-map index.cells.now cell_of in
    let as_many = length-map c.args.asks.now ask_of ∙ c.requires in
    let ran = c.in_ok-run_calls.ensures.ran in
    subst (λ (x : List _ × _). (makes (length x.0) 16 c.args.window ≡ true) × MadeAndRun scheme.table scheme.strict scheme.acts (map cell_of x.0) c.args.window x.1 (map ask_of c.args.asks.now) c.run_calls.new.answers)
    (λ i. (there.cells_now i, there.scheme_now i))
    (accepted scheme.table scheme.strict scheme.acts _ _ _ _ _ _ _ _ _ ran sixteen rows cells as_many refl, over scheme.table scheme.strict scheme.acts _ _ _ _ _ _ _ _ _ ran sixteen rows cells as_many refl)

pub returns-in_err-run_calls : goal.returns-in_err-run_calls
returns-in_err-run_calls g c =
    let scheme = g.S.Scheme in
    let index = c.over-index.result in
    let there = c.over-index.ensures in
    let sixteen : length index.rows.now ≡ 16 = ap length there.rows_now in
    let rows = length-map index.rows.now row_of ∙ sixteen in
    let cells = length-map index.cells.now cell_of in
    let as_many = length-map c.args.asks.now ask_of ∙ c.requires in
    let why =
    subst (λ (x : List _). (makes (length x) 16 c.args.window ≡ false) × (c.in_err-run_calls.field-0.0 ≡ WrongSizes)) there.cells_now
    (refused scheme.table scheme.strict scheme.acts _ _ _ _ _ _ _ _ _ c.in_err-run_calls.ensures.ran sixteen rows cells as_many c.in_err-run_calls.field-0.0 refl) in
    search rules
