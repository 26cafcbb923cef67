-- Both leaves are accepted, since both seats are held, and each is one call more of the run.
use Rattle.std.proofs.Common.{ltb, length, refl, sym, ap, ◌∙◌, inr, rules, append_assoc}
use Rattle.std.proofs.lemmas.List.{length-map}
use Rattle.key_types.specs.Wear.{wear_below}
use Rattle.list_law.proofs.Driven.{driven_as}
use Rattle.list_window.specs.Rows.{row_of}
use Rattle.list_window.proofs.Lent.{over_state}
use Rattle.list.proofs.Held.{held_on, leave_on}
use Rattle.tasks.proofs.Begun.{accepted_more, driven_to}
use Rattle.tasks.proofs.Manned.{held_in, ok_left}
use Rattle.tasks.proofs.station.Station.close.Goals as goal

pub unwrap-requires : goal.unwrap-requires
unwrap-requires g c =
    let held = held_in (sym (over_state c.over-index.ensures)) c.args.self.manned.cleaner in
    ok_left _ (leave_on c.leave.ensures.called refl (ap (λ l. ltb l 7) c.args.self.manned.level) held)

pub unwrap-requires-2 : goal.unwrap-requires-2
unwrap-requires-2 g c =
    let held = held_on c.leave.ensures.called _ (inr c.args.self.manned.apart) (held_in (sym (over_state c.over-index.ensures)) c.args.self.manned.host) in
    ok_left _ (leave_on c.leave-2.ensures.called refl (ap (λ l. ltb l 7) (c.leave.ensures.level ∙ c.args.self.manned.level)) held)

pub returns : goal.returns
returns g c n w start asks answers long run =
    let scheme = g.S.Scheme in
    let there = c.over-index.ensures in
    let d = c.args.self in
    let before = sym (over_state there) in
    let one_ok = leave_on c.leave.ensures.called refl (ap (λ l. ltb l 7) d.manned.level) (held_in before d.manned.cleaner) in
    let held = held_on c.leave.ensures.called _ (inr d.manned.apart) (held_in before d.manned.host) in
    let level = c.leave.ensures.level ∙ d.manned.level in
    let two_ok = leave_on c.leave-2.ensures.called refl (ap (λ l. ltb l 7) level) held in
    let cells = ap length there.cells_now ∙ long in
    let rows = ap length there.rows_now ∙ sym (length-map d.rows row_of) ∙ d.manned.host.rows in
    let one = accepted_more cells rows d.manned.level one_ok (driven_to before run) c.leave.ensures.called in
    let same = c.leave.ensures.called.same in
    let two = accepted_more (same.cells ∙ cells) (same.rows ∙ rows) level two_ok one c.leave-2.ensures.called in
    driven_to (search rules) (driven_as wear_below scheme.table scheme.strict scheme.acts n w (append_assoc asks _ _) (append_assoc answers _ _) two)
