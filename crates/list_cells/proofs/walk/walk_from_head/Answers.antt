-- The first cell is passed, and the walk goes on behind it, or it ends there.
use Rattle.std.proofs.Common.{◌≡◌, ℕ, Some, None, map, refl, sym, ap, ◌∙◌, arith}
use Rattle.marks.specs.Marks.{numbered}
use Rattle.list_law.specs.Call.{met, bad, absent, walk}
use Rattle.list_cells.specs.Views.{cell_of, met_of}
use Rattle.list_cells.proofs.Walks.{first_passed, first_ends, passed_here, ends_here, from_here}
use Rattle.list_cells.proofs.walk.walk_from_head.Goals as goal

pub returns-in_default : goal.returns-in_default
returns-in_default g c =
    let below = g.K.Key.below in
    let cells = map cell_of c.args.cells.now in
    let x = c.args.target in
    first_ends below cells x c.args.room None None (absent None None) (λ p k e. let z : ◌≡◌ {A = ℕ} 0 1 = cc in absurd (omega arith)) refl
    ∙ ap (λ h. walk below cells x c.args.room None (numbered h)) (sym c.in_default.is)

pub returns-in_err-cell : goal.returns-in_err-cell
returns-in_err-cell g c =
    let below = g.K.Key.below in
    let cells = map cell_of c.args.cells.now in
    let x = c.args.target in
    let place = c.in-Some.place.number in
    ap met_of c.from_residual.ensures
    ∙ first_ends below cells x c.args.room None (Some place) bad (λ p k e. let z : ◌≡◌ {A = ℕ} 0 1 = cc in absurd (omega arith)) (ap (met below x None place) c.in_err-cell.ensures)
    ∙ ap (λ h. walk below cells x c.args.room None (numbered h)) (sym c.in-Some.is)

pub returns-then-passes : goal.returns-then-passes
returns-then-passes g c =
    let below = g.K.Key.below in
    let cells = map cell_of c.args.cells.now in
    let x = c.args.target in
    let place = c.in-Some.place.number in
    let cell = cell_of c.in_ok-cell.cell.now in
    c.walk_on.ensures
    ∙ sym (from_here below cells x c.args.room place cell (sym c.in_ok-cell.ensures))
    ∙ first_passed below cells x c.args.room None (Some place) place cell.link (passed_here below cells x None place cell c.in_ok-cell.ensures (sym c.if-passes.ensures))
    ∙ ap (λ h. walk below cells x c.args.room None (numbered h)) (sym c.in-Some.is)

pub returns-else-passes : goal.returns-else-passes
returns-else-passes g c =
    let below = g.K.Key.below in
    let cells = map cell_of c.args.cells.now in
    let x = c.args.target in
    let place = c.in-Some.place.number in
    let cell = cell_of c.in_ok-cell.cell.now in
    let found = c.in_ok-cell.ensures in
    let judged = c.judge.ensures ∙ ap (met below x None place) found in
    first_ends below cells x c.args.room None (Some place) _ (λ p k e. ends_here below cells x None place cell found (sym c.if-passes.ensures) p k (sym judged ∙ e)) judged
    ∙ ap (λ h. walk below cells x c.args.room None (numbered h)) (sym c.in-Some.is)
