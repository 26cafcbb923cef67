-- Making refuses sizes that do not fit, and else leaves what the definition says.
use Rattle.std.proofs.Common.{◌≡◌, ◌≤◌, List, [], ◌∷◌, map, length, replicate, Some, None, sym, refl, ap, ◌∙◌, arith}
use Rattle.std.proofs.lemmas.List.{length-map}
use Rattle.keys.specs.Total.{Total}
use Rattle.list_law.specs.Call.{Link, away}
use Rattle.list_law.specs.Runs.{onward}
use Rattle.list_law.proofs.Made.{fits, makes_accepted}
use Rattle.list_cells.specs.Views.{cell_of}
use Rattle.list_window.specs.Rows.{row_of}
use Rattle.list_window.specs.Lent.{lent_state}
use Rattle.list_making.proofs.Makes.{viewed}
use Rattle.list_making.proofs.making.make.Goals as goal

-- the first of some cells is linked to
first_free : {X : Type 0} (xs : List X) → 1 ≤ length xs → ◌≡◌ {A = Link} (Some 0) (onward 0 xs)
first_free [] h = absurd (omega arith)
first_free (x ∷ xs) h = refl

pub returns-clause-made : goal.returns-clause-made
returns-clause-made g c =
    let key = g.met.K.Key in
    let order : Total g.K.Key.below = key.order in
    let index = c.args.index.now in
    let cells = index.cells.now in
    let rows = index.rows.now in
    let w = c.args.window in
    let marks = c.release_all.new.scheme in
    let right = sym c.if-not-sizes_right.ensures in
    let sized = fits (length cells) (length rows) w right in
    let anchor = c.fresh_anchor-index.ensures ∙ (λ i. record { count = sym (length-map cells cell_of) i; window = w; head = None; free = first_free (map cell_of cells) (omega (arith, length-map cells cell_of, sized.sizes.some_cells)) i }) in
    makes_accepted g.K.Key.below order g.S.Scheme.table g.S.Scheme.strict g.S.Scheme.acts (lent_state index) w _
    (sym (viewed cell_of row_of cells rows w) ∙ right)
    (λ i. record { cells = c.free_cells.ensures i; rows = (c.clear_rows.ensures ∙ ap (λ n. replicate n away) sized.rows) i; anchor = anchor i; marks = marks })
    c.release_all.ensures
