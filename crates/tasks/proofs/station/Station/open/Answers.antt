-- A join that gave a slip holds its seat, and the seat of the second was away while the first was held, so that they are two.
use Rattle.std.proofs.Common.{◌≡◌, true, ltb, ◌≢◌, length, map, Some, sym, refl, ap, ◌∙◌, rules, inl}
use Rattle.std.proofs.lemmas.Bool.{lt-ltb}
use Rattle.std.proofs.lemmas.List.{length-map}
use Rattle.key_types.specs.Wear.{wear_below}
use Rattle.list_law.specs.Call.{away, row_at}
use Rattle.list_law.specs.Making.{makes}
use Rattle.list_law.proofs.Driven.{driven_none, driven_at}
use Rattle.list_cells.specs.Views.{cell_of, anchor_of}
use Rattle.list_window.specs.Rows.{row_of}
use Rattle.list_window.specs.Lent.{lent_state}
use Rattle.list.proofs.Held.{held_on, joined_on, leave_on}
use Rattle.tasks.specs.Stations.{not_opened}
use Rattle.tasks.proofs.Begun.{accepted, accepted_more, driven_to}
use Rattle.tasks.proofs.Refused.{sizes_right, all_away, other_row, refused_away, refused_second, host_refused}
use Rattle.tasks.proofs.Manned.{ok_left, join_apart, manned_by, held_at, held_in}
use Rattle.tasks.proofs.station.Station.open.Goals as goal

pub unwrap-requires : goal.unwrap-requires
unwrap-requires g c =
    let first = joined_on c.in_ok-host.ensures.called refl refl in
    let held = held_on c.in-Err.ensures.called _ (inl join_apart) first.0 in
    let level = c.in-Err.ensures.level ∙ c.in_ok-host.ensures.level in
    ok_left _ (leave_on c.leave.ensures.called refl (ap (λ l. ltb l 7) level) (held_at c.in_ok-host.ensures.seat held))

pub invariant_of-result : goal.invariant_of-result
invariant_of-result g c =
    let first = joined_on c.in_ok-host.ensures.called refl refl in
    let second = joined_on c.in-Ok.ensures.called refl refl in
    let held = held_on c.in-Ok.ensures.called _ (inl join_apart) first.0 in
    record { manned = manned_by _ c.in_ok-host.ensures.seat c.in-Ok.ensures.seat (held_in (search rules) held) (held_in (search rules) second.0) (λ e. first.0.row (ap (row_at _) e ∙ second.1)) (c.in-Ok.ensures.level ∙ c.in_ok-host.ensures.level) }

pub returns-in-Ok-clause-begun : goal.returns-in-Ok-clause-begun
returns-in-Ok-clause-begun g c =
    let there = c.over-index.ensures in
    let index = c.over-index.result in
    let made = c.in_ok-make.ensures.made in
    let fits = accepted _ made.answer in
    let cells = ap length there.cells_now in
    let long = c.make.ensures.same.cells ∙ cells in
    let rows = c.make.ensures.same.rows ∙ ap length there.rows_now in
    let start = driven_at (length-map index.cells.now cell_of ∙ cells) refl (driven_none wear_below g.S.Scheme.table g.S.Scheme.strict g.S.Scheme.acts _ _ _ (made.runs fits)) in
    let one = accepted_more long rows refl refl start c.in_ok-host.ensures.called in
    let two = accepted_more (c.join.ensures.called.same.cells ∙ long) (c.join.ensures.called.same.rows ∙ rows) c.in_ok-host.ensures.level refl one c.in-Ok.ensures.called in
    record { cells = search rules; lent = lent_state index; of_cells = ap (map cell_of) there.cells_now; of_scheme = there.scheme_now; start = _; made = made; run = driven_to (search rules) two }

pub returns-in_err-host-clause-refused : goal.returns-in_err-host-clause-refused
returns-in_err-host-clause-refused g c =
    let there = c.over-index.ensures in
    let index = c.over-index.result in
    let made = c.in_ok-make.ensures.made in
    let fits = accepted _ made.answer in
    let cells = length-map index.cells.now cell_of ∙ ap length there.cells_now in
    let rows = length-map index.rows.now row_of ∙ ap length there.rows_now in
    let right : makes (length c.args.cells) 16 c.args.window ≡ true = (λ i. makes (sym cells i) (sym rows i) c.args.window) ∙ fits in
    let is = made.made fits in
    let after = c.make.new.index in
    let sizes = sizes_right (length c.args.cells) c.args.window (map cell_of after.cells.now) (anchor_of after.anchor.now) (length-map after.cells.now cell_of ∙ c.make.ensures.same.cells ∙ ap length there.cells_now) (ap (λ s. s.anchor.count) is ∙ cells) (ap (λ s. s.anchor.window) is) right in
    let why = refused_away _ _ _ _ c.in_err-host.ensures.called.did refl refl sizes (ap (λ s. length s.rows) is) (ap (λ s. row_at s.rows c.args.host) is ∙ all_away 16 c.args.host) in
    let refusal : not_opened (length c.args.cells) c.args.window c.args.host c.args.cleaner ≡ Some c.in_err-host.field-0.0 = host_refused (length c.args.cells) c.args.window c.args.host c.args.cleaner right why.0 ∙ ap Some (sym why.1) in
    search rules

pub returns-in-Err-clause-refused : goal.returns-in-Err-clause-refused
returns-in-Err-clause-refused g c =
    let there = c.over-index.ensures in
    let index = c.over-index.result in
    let made = c.in_ok-make.ensures.made in
    let fits = accepted _ made.answer in
    let cells = length-map index.cells.now cell_of ∙ ap length there.cells_now in
    let rows = length-map index.rows.now row_of ∙ ap length there.rows_now in
    let right : makes (length c.args.cells) 16 c.args.window ≡ true = (λ i. makes (sym cells i) (sym rows i) c.args.window) ∙ fits in
    let is = made.made fits in
    let first = joined_on c.in_ok-host.ensures.called refl refl in
    let others : (c.args.cleaner ≢ c.args.host → row_at (map row_of c.join.new.index.rows.now) c.args.cleaner ≡ away) =
    λ d. ap (λ rs. row_at rs c.args.cleaner) c.in_ok-host.ensures.called.did.rows ∙ other_row _ c.args.host c.args.cleaner _ d ∙ ap (λ s. row_at s.rows c.args.cleaner) is ∙ all_away 16 c.args.cleaner in
    refused_second _ _ _ _ c.in-Err.ensures.called.did refl (ap (λ l. ltb l 7) c.in_ok-host.ensures.level) first.0.cells first.0.rows (length c.args.cells) c.args.window c.args.host right (lt-ltb c.args.host 16 first.0.seat) others
