-- Promises stronger than the law, each refuted by a worked run. Assumes nothing.
use Rattle.std.proofs.Common.{◌≡◌, ℕ, suc, pred, ◌≤◌, ◌==◌, ◌≢◌, ◌&&◌, nat_le, nat_lt, Bool, true, cond, List, [], ◌∷◌, ◌++◌, length, Some, None, Option, ap, sym, refl, ◌∙◌, arith}
use Rattle.basis.specs.declared.kind.Kind.{Kind}
use Rattle.basis.specs.declared.kind.Kind.TheVariants.{Lookup, Insert}
use Rattle.basis.specs.declared.answer.Answer.TheVariants.{Wait}
use Rattle.key_types.specs.declared.sector.Sector.{Sector}
use Rattle.key_types.specs.Sector.{sector, sector_below}
use Rattle.schemes.specs.Full.{full_act, full_get}
use Rattle.ledger.specs.Ledger.{Ledger, join, begin, step, reply, running}
use Rattle.ledger.specs.Keys.{between}
use Rattle.ledger.specs.Law.{Event, begins_of, steps_of, ends_of, is_accepted, count, changes, fed}
use Rattle.list_law.specs.Call.{Cell, cell, State, effect, walk, window, reach}
use Rattle.list_law.specs.Law.{Waits, Meets, first_link, beyond, limit}
use Rattle.list_law.specs.Performed.{Ask, event, next, after, events, answers}
use Rattle.list_law.proofs.Lists.{some_inj}
use Rattle.list_law.proofs.Performed.{next_is}
use Rattle.worked_examples.specs.Worked.{FullMarks, three_cells, by_seat, begins_on, works_on, state_after, events_of, until_the_lookup, until_the_join, until_the_last_lookup, steps_by, later_events}
use Rattle.worked_examples.specs.Sharp.{LawWith, RuleWith, width_with, Sharp}
use Rattle.worked_examples.proofs.Worked.{obeyed, ran, three_with}

-- three cells
abbrev three : List (Cell Sector)
three = cell (sector 0) None true ∷ (cell (sector 0) None true ∷ (cell (sector 0) None true ∷ []))

-- an index made over them with window w
abbrev made_with : ℕ → State Sector FullMarks
made_with w = three_cells (cell (sector 0) None true) (cell (sector 0) None true) (cell (sector 0) None true) w

-- the begin of seat t's lookup of 40, and the events before
abbrev begun : ℕ → ℕ → Event Sector
begun w t = event sector_below full_get full_act (state_after (made_with w) (until_the_join t)) (begins_on t Lookup 40)

abbrev before : ℕ → ℕ → List (Event Sector)
before w t = events_of (made_with w) (until_the_join t)

-- a bound is refuted where the lookup has had that many steps and has not answered
module _ (less : ℕ → ℕ) (tried : ℕ → ℕ → ℕ → Bool) (law : LawWith less tried) (w t steps : ℕ) (some : 1 ≤ w) (few : w ≤ 64) where
  abbrev bounded_by : ℕ → ℕ
  bounded_by k = cond (tried 3 w t) (less (limit 3 w t Lookup k)) (limit 3 w t Lookup k)

  not_less : events_of (made_with w) (until_the_last_lookup t ++ steps_by t steps) ≡ later_events (made_with w) t steps ++ begun w t ∷ before w t
      → (begun w t).call.what ≡ begin Lookup (sector 40) → begins_of t (begun w t) ≡ true → count (begins_of t) (later_events (made_with w) t steps) ≡ 0
      → bounded_by (changes sector_below 3 t (later_events (made_with w) t steps) (begun w t ∷ before w t)) ≤ count (steps_of t) (later_events (made_with w) t steps)
      → count (ends_of t) (later_events (made_with w) t steps) ≡ 0 → ⊥
  not_less is what begins once many pending =
      let asks = until_the_last_lookup t ++ steps_by t steps in
      let bounded = (law 3 w (events_of (made_with w) asks) (state_after (made_with w) asks) (ran three w (three_with w some few) asks)).bounded refl in
      let ended = bounded t Lookup (sector 40) (later_events (made_with w) t steps) (begun w t) (before w t) is what begins once many in
      omega (arith, ended, pending)

bound_of_seat_0 : LawWith pred (λ n w t. t == 0) → ⊥
unfolding answers after events event next effect walk window reach count changes fed reply
bound_of_seat_0 law = not_less pred (λ n w t. t == 0) law 1 0 3 (omega arith) (omega arith) refl refl refl refl (omega arith) refl

bound_of_others : LawWith pred (λ n w t. nat_lt 1 (reach t w None) && nat_le (reach t w None) n) → ⊥
unfolding answers after events event next effect walk window reach count changes fed reply
bound_of_others law =
    not_less pred (λ n w t. nat_lt 1 (reach t w None) && nat_le (reach t w None) n) law 2 1 1 (omega arith) (omega arith) refl refl refl refl (omega arith) refl

bound_of_few_cells : LawWith pred (λ n w t. nat_lt n (reach t w None)) → ⊥
unfolding answers after events event next effect walk window reach count changes fed reply
bound_of_few_cells law = not_less pred (λ n w t. nat_lt n (reach t w None)) law 4 3 0 (omega arith) (omega arith) refl refl refl refl (omega arith) refl

-- seat 0 inserts 10, 20 and 30, and has waited once on its way to 40
abbrev until_the_second_step : List (Ask Sector)
until_the_second_step =
    by_seat 0 join ∷ works_on 0 Insert 10 1 ++ works_on 0 Insert 20 2 ++ works_on 0 Insert 30 2 ++ works_on 0 Insert 40 1

-- a step of seat t after these calls, with window 2, on its way to a key
abbrev ready : List (Ask Sector) → State Sector FullMarks
ready asks = state_after (made_with 2) asks

abbrev stepped : List (Ask Sector) → ℕ → State Sector FullMarks
stepped asks t = next sector_below full_get full_act (ready asks) (by_seat t step)

abbrev the_step : List (Ask Sector) → ℕ → Event Sector
the_step asks t = event sector_below full_get full_act (ready asks) (by_seat t step)

abbrev ledger : List (Ask Sector) → Ledger Sector
ledger asks = fed sector_below 3 (events_of (made_with 2) asks)

module _ (from_head from_mark place : ℕ → ℕ) (rule : RuleWith from_head from_mark place) (asks : List (Ask Sector)) (t : ℕ) (kind : Kind) (n : ℕ)
    (sixteen : length (ready asks).marks ≡ 16) (row : (ledger asks).row t ≡ running kind (sector n)) (waits : (the_step asks t).answer ≡ Wait) where
  abbrev mark : Option ℕ
  mark = full_get (ready asks).marks t

  abbrev mark' : Option ℕ
  mark' = full_get (stepped asks t).marks t

  abbrev width : ℕ
  width = width_with from_head from_mark t 2 mark

  there : Waits sector_below (ready asks).cells (ready asks).anchor.head (ledger asks).members mark mark' (sector n) width (the_step asks t).answer
      × ((p : ℕ) → Meets sector_below (ready asks).cells (first_link (ready asks).cells (ready asks).anchor.head mark) (sector n) width p → mark' ≡ Some (place p))
  unfolding event
  there = rule 3 2 (events_of (made_with 2) asks) (ready asks) (ran three 2 (three_with 2 (omega arith) (omega arith)) asks) (the_step asks t) (stepped asks t)
      (next_is sector_below full_get true full_act (λ m. length m ≡ 16) obeyed (ready asks) (by_seat t step) sixteen).0 kind (sector n) refl row (ap is_accepted waits)

  -- fewer keys than that are ahead
  not_wider : suc (between sector_below (beyond sector_below (ready asks).cells mark) (sector n) (ledger asks).members) ≤ width → ⊥
  not_wider few = let many = there.0.waits_by_set.0 waits in omega (arith, many, few)

  -- the mark is on the last cell that was met, and not beside it
  not_beside : ((p : ℕ) → p ≢ place p) → ⊥
  not_beside apart =
      let met = there.0.waits.0 waits in
      apart met.0 (some_inj (sym (there.0.marked met.0 met.1) ∙ there.1 met.0 met.1))

width_from_head : RuleWith suc (λ m. m) (λ p. p) → ⊥
unfolding answers after events event next effect walk window reach count changes fed reply
width_from_head rule = not_wider suc (λ m. m) (λ p. p) rule until_the_lookup 1 Lookup 30 refl refl refl (omega arith)

width_from_mark : RuleWith (λ m. m) suc (λ p. p) → ⊥
unfolding answers after events event next effect walk window reach count changes fed reply
width_from_mark rule = not_wider (λ m. m) suc (λ p. p) rule until_the_second_step 0 Insert 40 refl refl refl (omega arith)

next_place : RuleWith (λ m. m) (λ m. m) suc → ⊥
unfolding answers after events event next effect walk window reach count changes fed reply
next_place rule = not_beside (λ m. m) (λ m. m) suc rule until_the_lookup 1 Lookup 30 refl refl refl (λ p same. omega (arith, same))

pub sharp : Sharp pred suc suc
sharp = record {
  bound_of_seat_0 = bound_of_seat_0;
  bound_of_others = bound_of_others;
  bound_of_few_cells = bound_of_few_cells;
  width_from_head = width_from_head;
  width_from_mark = width_from_mark;
  place = next_place;
}
