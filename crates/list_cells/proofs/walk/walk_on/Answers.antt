-- Each turn passes one cell more; where a cell is not passed, the walk ends.
use Rattle.std.proofs.Common.{◌≡◌, ℕ, ◌-◌, Some, None, map, refl, sym, ap, ◌∙◌, arith}
use Rattle.marks.specs.Marks.{numbered}
use Rattle.list_law.specs.Call.{met, bad, passed}
use Rattle.list_cells.specs.Behind.{behind_at}
use Rattle.list_cells.specs.Views.{cell_of, met_of}
use Rattle.list_cells.proofs.Walks.{turn_goes_on, turn_ends, no_turn_more, ends_here, there}
use Rattle.list_cells.proofs.walk.walk_on.Goals as goal

pub loop-passed-init : goal.loop-passed-init
loop-passed-init g c =
    let all : ◌≡◌ (c.args.more - 0) c.args.more = omega arith in
    (c.index-at.ensures, c.requires, ap (λ n. behind_at g.K.Key.below (map cell_of c.args.cells.now) c.args.target n c.args.lead.number) all)

pub loop-passed-preserved : goal.loop-passed-preserved
loop-passed-preserved g c =
    let l = c.loop-passed in
    let place = c.in-Some.place.number in
    let next = cell_of c.in_ok-next.next.now in (
      c.index-at-in-loop-passed.ensures,
      there c.args.cells.now place next c.in_ok-next.ensures,
      turn_goes_on g.K.Key.below c.args.cells.now c.args.target c.args.more l._passed l.at l.lead.number c.index-cells-at.result _ l.invariant.0 l.invariant.1 l.invariant.2
          place next c.loop-passed-test.true (sym (ap numbered c.in-Some.is) ∙ c.place.ensures) c.in_ok-next.ensures (sym c.if-not-passes.ensures),
    )

pub returns-in_default : goal.returns-in_default
returns-in_default g c =
    let l = c.loop-passed in
    turn_ends g.K.Key.below c.args.cells.now c.args.target c.args.more l._passed l.at l.lead.number c.index-cells-at.result _ l.invariant.0 l.invariant.1 l.invariant.2
    _ None c.loop-passed-test.true (sym (ap numbered c.in_default.is) ∙ c.place.ensures)
    (λ p k e. let z : ◌≡◌ {A = ℕ} 0 1 = cc in absurd (omega arith))
    refl

pub returns-in_err-next : goal.returns-in_err-next
returns-in_err-next g c =
    let l = c.loop-passed in
    let place = c.in-Some.place.number in
    ap met_of c.from_residual.ensures
    ∙ turn_ends g.K.Key.below c.args.cells.now c.args.target c.args.more l._passed l.at l.lead.number c.index-cells-at.result _ l.invariant.0 l.invariant.1 l.invariant.2
    bad (Some place) c.loop-passed-test.true (sym (ap numbered c.in-Some.is) ∙ c.place.ensures)
    (λ p k e. let z : ◌≡◌ {A = ℕ} 0 1 = cc in absurd (omega arith))
    (ap (met g.K.Key.below c.args.target (Some l.lead.number) place) c.in_err-next.ensures)

pub returns-then-not-passes : goal.returns-then-not-passes
returns-then-not-passes g c =
    let l = c.loop-passed in
    let place = c.in-Some.place.number in
    let next = cell_of c.in_ok-next.next.now in
    let judged = c.judge.ensures ∙ ap (met g.K.Key.below c.args.target (Some l.lead.number) place) c.in_ok-next.ensures in
    turn_ends g.K.Key.below c.args.cells.now c.args.target c.args.more l._passed l.at l.lead.number c.index-cells-at.result _ l.invariant.0 l.invariant.1 l.invariant.2
    _ (Some place) c.loop-passed-test.true (sym (ap numbered c.in-Some.is) ∙ c.place.ensures)
    (λ p k e. ends_here g.K.Key.below (map cell_of c.args.cells.now) c.args.target (Some l.lead.number) place next c.in_ok-next.ensures (sym c.if-not-passes.ensures) p k (sym judged ∙ e))
    judged

pub returns : goal.returns
returns g c =
    let l = c.loop-passed in
    ap (passed l.lead.number) c.place-2.ensures
    ∙ no_turn_more g.K.Key.below c.args.cells.now c.args.target c.args.more l._passed l.at l.lead.number c.index-cells-at-2.result _ l.invariant.0 l.invariant.1 l.invariant.2 c.loop-passed-test.false
