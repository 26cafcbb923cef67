-- The marked cell is listed, and the walk goes on behind it.
use Rattle.std.proofs.Common.{◌≡◌, ◌≤◌, suc, pred, map, sym, ap, ◌∙◌, arith}
use Rattle.std.proofs.lemmas.Bool.{cond-true}
use Rattle.list_law.specs.Call.{resumed}
use Rattle.list_cells.specs.Behind.{behind}
use Rattle.list_cells.specs.Views.{cell_of}
use Rattle.list_cells.proofs.Walks.{walk_one_more, from_here}
use Rattle.list_cells.proofs.walk.walk_from_mark.Goals as goal

pub returns-then-cell : goal.returns-then-cell
returns-then-cell g c =
    let below = g.K.Key.below in
    let cells = map cell_of c.args.cells.now in
    let x = c.args.target in
    let place = c.args.place.number in
    let cell = cell_of c.in_ok-cell.cell.now in
    let room = pred c.args.width in
    let wide : 1 ≤ c.args.width = c.requires in
    let one_more : ◌≡◌ c.args.width (suc room) = omega (arith, wide) in
    c.walk_on.ensures
    ∙ sym (from_here below cells x c.args.width place cell (sym c.in_ok-cell.ensures))
    ∙ ap (λ n. behind below cells x n place cell.link) one_more
    ∙ walk_one_more below cells x room place cell.link
    ∙ sym (cond-true cell.listed _ _ c.if-cell.true)
    ∙ ap (resumed below cells x room place) c.in_ok-cell.ensures
