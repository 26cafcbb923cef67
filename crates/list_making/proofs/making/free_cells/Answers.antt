use Rattle.std.proofs.Common.{◌≡◌, false, map, length, set, get_or, sym, refl, ap, ◌∙◌, zero-add, add-one, arith}
use Rattle.std.proofs.lemmas.List.{map-set, length-map}
use Rattle.std.specs.List.{slice_get}
use Rattle.list_law.specs.Call.{cell}
use Rattle.list_cells.specs.Views.{cell_of}
use Rattle.list_making.specs.Chained.{next_number}
use Rattle.list_cells.proofs.Viewed.{viewed}
use Rattle.list_making.proofs.Makes.{freed_front, front_nth, front_more, front_all}
use Rattle.list_making.proofs.making.free_cells.Goals as goal

pub loop-at-preserved : goal.loop-at-preserved
loop-at-preserved g c =
    let cells = c.loop-at.cells in
    let at = c.loop-at.at in
    let count = length c.args.cells.now in
    let given = map cell_of c.args.cells.now in
    let old = get_or cells at c.index-cells-at.result in
    let read : slice_get given at ≡ _ = sym (front_nth count at 0 given) ∙ sym (ap (λ l. slice_get l at) c.loop-at.invariant.1) ∙ viewed cells at c.index-cells-at.result (omega arith) in
    let written = c.freed_cell.ensures ∙ ap (λ l. cell old.key l false) (c.link_after.ensures ∙ ap (λ k. next_number k count) (sym (zero-add at))) in
    (refl, map-set cell_of cells at _ ∙ (λ i. set (c.loop-at.invariant.1 i) at (written i)) ∙ front_more count at 0 given _ read ∙ ap (λ n. freed_front count n 0 given) (sym (add-one at)))

pub returns : goal.returns
returns g c =
    let given = map cell_of c.args.cells.now in
    let count = length c.args.cells.now in
    let long = length-map c.args.cells.now cell_of in
    let all : c.loop-at.at ≡ length given = omega (arith, long) in
    c.loop-at.invariant.1 ∙ ap (λ n. freed_front count n 0 given) all ∙ front_all count 0 given (omega (arith, long))
