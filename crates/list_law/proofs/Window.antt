-- One window of a running seat: each end of its walk, for each kind, against the ledger. Assumes nothing.
use Rattle.std.proofs.Common.{◌≡◌, ℕ, pred, ◌<◌, ◌≤◌, Bool, true, false, cond, ◌||◌, eqb, ◌≢◌, ◌⊎◌, List, [], ◌∷◌, ◌++◌, length, Some, None, Option, sym, refl, ap, ◌∙◌, subst, inl, inr, append_assoc, arith}
use Rattle.std.proofs.lemmas.Bool.{both_ways, eq-eqb, ne_eqb}
use Rattle.std.specs.List.{slice_get}
use Rattle.basis.specs.declared.kind.Kind.{Kind}
use Rattle.basis.specs.declared.kind.Kind.TheVariants.{Lookup, Insert, Remove}
use Rattle.basis.specs.declared.answer.Answer.{Answer}
use Rattle.basis.specs.declared.answer.Answer.TheVariants.{No, Yes, Full, Wait}
use Rattle.marks.specs.Meaning.{Along, Table, Order, release}
use Rattle.keys.specs.Total.{Total}
use Rattle.ledger.specs.Ledger as plain
use Rattle.ledger.specs.Ledger.{Ledger, step, nothing, seated, holding, reply, replied, operated, stepped, holds, without}
use Rattle.ledger.specs.Law.{Event, is_accepted, is_final, alters, changed_beside}
use Rattle.list_law.specs.Call.{reach, anchor_after, rows_after, Link, cell, State, Memory, memory_of, Met, present, absent, walked, Effect, effect, Obeys, Did, ended, waiting, unlinked, removed, inserted, taken, taken_from, decided, window}
use Rattle.ledger.specs.Keys.{Every, Rises, Permuted, keep, then}
use Rattle.list_law.specs.Law.{Entry, entry, keys, Leads, Rule}
use Rattle.ledger.proofs.Perms.{permuted_middle, length_permuted, holds_permuted, without_permuted}
use Rattle.list_law.proofs.Chain.{keys_append, length_keys, Lead}
use Rattle.ledger.proofs.Ordered.{every_join, rises_above, same_true, holds_append, holds_low, holds_high, without_append, without_low, without_high, same_above_all}
use Rattle.list_law.proofs.Shape.{shape_removed, shape_inserted, length_removed, length_inserted}
use Rattle.list_law.proofs.Walk.{Walked, waits, finds, misses, Started, started}
use Rattle.list_law.proofs.Waits.{Rules, rules_wait, rules_else, ahead, ahead_finds, ahead_misses}
use Rattle.list_law.proofs.Marks.{Stands, In, in_middle, standing, released, struck, stands_inserted, stands_struck, stands_kept}
use Rattle.list_law.proofs.Invariant.{Placed, Inv}
use Rattle.list_law.proofs.Width.{reach_some}
use Rattle.list_law.proofs.Called.{Outcome, Called, called_outcome}
use Rattle.list_law.proofs.Outcomes.{rule_of, answer_is, cells_is, anchor_is, rows_is, marks_is, told_is, plain_outcome, moved_marks, called_waits}

-- the set, by where the target is among the listed keys
module _ {K : Type 0} (below : K → K → Bool) (order : Total below) (x : K) (xs : List K) (lo : Every (λ z. below z x) xs) where
  holds_present : (y : K) (bs : List K) → below x y ≡ false → below y x ≡ false → holds below x (xs ++ y ∷ bs) ≡ true
  holds_present y bs a b =
      holds_append below x xs (y ∷ bs) ∙ ap (λ c. c || holds below x (y ∷ bs)) (holds_low below x xs lo) ∙ ap (λ c. c || holds below x bs) (same_true below x y a b)

  holds_absent : (bs : List K) → Every (below x) bs → holds below x (xs ++ bs) ≡ false
  holds_absent bs hi = holds_append below x xs bs ∙ ap (λ c. c || holds below x bs) (holds_low below x xs lo) ∙ holds_high below x bs hi

  without_present : (y : K) (bs : List K) → below x y ≡ false → below y x ≡ false → Every (below y) bs → without below x (xs ++ y ∷ bs) ≡ xs ++ bs
  without_present y bs a b hi =
      without_append below x xs (y ∷ bs)
      ∙ ap (λ l. l ++ without below x (y ∷ bs)) (without_low below x xs lo)
      ∙ ap (λ c. xs ++ cond c (without below x bs) (y ∷ without below x bs)) (same_true below x y a b)
      ∙ ap (λ l. xs ++ l) (without_high below x bs (same_above_all below order x y bs a b hi))

module _ {K M : Type 0} (below : K → K → Bool) (order : Total below) (table : M → Table) (strict : Bool) (acts : Order → M → M → Type 0) (n w : ℕ) (a : Ledger K) (s : State K M) (e : Event K) (s' : State K M)
    (v : Inv below table n w a s) (seat : e.call.seat < 16) (did : Did below table strict acts s e.call e.answer s') (told : e.told ≡ (effect below table s e.call).told)
    (k : Kind) (x : K) (row : a.row e.call.seat ≡ plain.running k x) (what : e.call.what ≡ step)
    (steps_as : reply below a e.call e.told ≡ stepped below a e.call.seat e.told) where
  abbrev Goal : Type 0
  Goal = Called below table strict acts n w a s e s'

  -- what the call left, by its effect

  answer_as : (E : Effect K) → effect below table s e.call ≡ E → e.answer ≡ E.answer
  answer_as = answer_is below table strict acts n w a s e s' v seat did told

  cells_as : (E : Effect K) → effect below table s e.call ≡ E → s'.cells ≡ E.memory.cells
  cells_as = cells_is below table strict acts n w a s e s' v seat did told

  anchor_as : (E : Effect K) → effect below table s e.call ≡ E → s'.anchor ≡ anchor_after s.anchor E.memory
  anchor_as = anchor_is below table strict acts n w a s e s' v seat did told

  rows_as : (E : Effect K) → effect below table s e.call ≡ E → s'.rows ≡ rows_after s.rows e.call.seat E.row
  rows_as = rows_is below table strict acts n w a s e s' v seat did told

  marks_as : (E : Effect K) → effect below table s e.call ≡ E → Along (Obeys table strict acts) E.orders s.marks s'.marks
  marks_as = marks_is below table strict acts n w a s e s' v seat did told

  told_as : (E : Effect K) → effect below table s e.call ≡ E → e.told ≡ E.told
  told_as = told_is below table strict acts n w a s e s' v seat did told

  concludes : Outcome below table strict acts n e.call.seat a s e s' v.listed → Goal
  concludes = called_outcome below table strict acts n w a s e s' v seat

  abbrev t : ℕ
  t = e.call.seat

  abbrev mark : Option ℕ
  mark = table s.marks t

  abbrev room : ℕ
  room = pred (reach t s.anchor.window mark)

  abbrev m : Memory K
  m = memory_of s

  wide : 1 ≤ reach t s.anchor.window mark
  wide = reach_some t s.anchor.window mark (omega (arith, v.window, v.sized.some_window))

  start : Started below s.cells s.anchor.head x v.listed room mark
  start = started below order s.cells s.anchor.head x v.listed v.shape.from_head v.shape.rises room mark
      (standing below x v.listed mark (subst (λ r. Placed below v.listed r mark) row (v.placed t seat)))

  abbrev Ruled : Type 0
  Ruled = Rules below order s.cells s.anchor.head x v.listed room mark start e.answer (table s'.marks t) a.members

  rule : Ruled → Rule below table a s e s'
  rule = rule_of below order table a s e s' k x wide row v.listed start

  -- not told wait, the ledger runs the operation whole
  whole_reply : e.told ≡ nothing → (k' : Kind) → k ≡ k' → reply below a e.call e.told ≡ operated below a t k' x
  whole_reply tl k' ek = steps_as ∙ ap (stepped below a t) tl ∙ ap (plain.whole below a t) (row ∙ ap (λ z. plain.running z x) ek)

  -- an end of the operation that leaves the cells
  called_ended : (ans : Answer) → effect below table s e.call ≡ ended t ans m → is_accepted ans ≡ true → is_final ans ≡ true
      → (e.told ≡ nothing → reply below a e.call e.told ≡ replied ans (seated a t plain.idle)) → ahead below order s.cells s.anchor.head x v.listed room mark start ≤ room
      → Goal
  called_ended ans is ok fin rep few =
      concludes
      (plain_outcome below table strict acts n w a s e s' v seat did told ans plain.idle (release t ∷ []) is ok (λ h. both_ways false refl (sym (ap is_final h) ∙ fin)) (rep (told_as E is)) gone.0 gone.1
      (rule (rules_else below order s.cells s.anchor.head x v.listed room mark start e.answer (table s'.marks t) a.members v.members not_wait few)) (λ _. fin) (λ _ _. refl))
    where
      E : Effect K
      E = ended t ans m

      gone : (table s'.marks t ≡ None) × ((u : ℕ) → u < 16 → u ≢ t → table s'.marks u ≡ table s.marks u)
      gone = released strict table (Obeys table strict acts) (λ _ _ _ h. h.1) t s.marks s'.marks (marks_as E is)

      not_wait : e.answer ≢ Wait
      not_wait h = both_ways false refl (sym (ap is_final (sym (answer_as E is) ∙ h)) ∙ fin)

  -- the same where the set changes: everybody else sees a change
  changed : e.answer ≡ Yes → alters (plain.running k x) ≡ true → (u : ℕ) → u ≢ t → changed_beside u a e ≡ true
  changed said alt u d = rw (what, ne_eqb t u (λ h. d (sym h)), said, row, alt)

  -- the walk's end: the entries passed stand before it
  module _ (fs : List (Entry K)) (lo : Every (λ z. below z x) (keys fs)) where
    abbrev front : List (Entry K)
    front = start.done ++ fs

    front_low : Every (λ z. below z x) (keys front)
    front_low = subst (Every (λ z. below z x)) (sym (keys_append start.done fs)) (every_join (λ z. below z x) (keys start.done) (keys fs) start.low lo)

    split : (bs : List (Entry K)) → start.rest ≡ fs ++ bs → v.listed ≡ front ++ bs
    split bs is = start.is ∙ ap (λ l. start.done ++ l) is ∙ sym (append_assoc start.done fs bs)

    listed_keys : (bs : List (Entry K)) → start.rest ≡ fs ++ bs → keys v.listed ≡ keys front ++ keys bs
    listed_keys bs is = ap keys (split bs is) ∙ keys_append front bs

  -- the target is there
  module _ (fs : List (Entry K)) (lead : Option ℕ) (p : ℕ) (y : K) (bs : List (Entry K)) (l : Link) (is : start.rest ≡ fs ++ entry p y ∷ bs) (few : length fs ≤ room) (lo : Every (λ z. below z x) (keys fs))
      (ge : below y x ≡ false) (le : below x y ≡ false) (led : Lead (start.done ++ fs) lead) (at : slice_get s.cells p ≡ Some (cell y l true)) (on : Leads s.cells true l bs None) where
    few_ahead : ahead below order s.cells s.anchor.head x v.listed room mark start ≤ room
    few_ahead = ahead_finds below order s.cells s.anchor.head x v.listed room mark start fs p y bs is few lo ge le

    held_there : holds below x a.members ≡ true
    held_there = holds_permuted below x v.members ∙ ap (holds below x) (listed_keys fs lo (entry p y ∷ bs) is) ∙ holds_present below order x (keys (front fs lo)) (front_low fs lo) y (keys bs) le ge

    up : Every (below y) (keys bs)
    up = rises_above below (keys (front fs lo)) y (keys bs) (subst (Rises below) (listed_keys fs lo (entry p y ∷ bs) is) v.shape.rises)

    called_removed : k ≡ Remove → effect below table s e.call ≡ unlinked t lead p l m → Goal
    called_removed ek eff = concludes (record {
      answer = Yes;
      memory = removed lead p l m;
      row = plain.idle;
      members = without below x a.members;
      listed' = front fs lo ++ bs;
      frees' = entry p y ∷ v.frees;
      is_answer = answer;
      is_told = told_as E eff;
      no_wait = λ h. not_wait (answer ∙ h);
      is_cells = cells_as E eff;
      is_anchor = anchor_as E eff;
      is_rows = rows_as E eff;
      is_reply = whole_reply (told_as E eff) Remove ek
          ∙ ap (λ b. cond b (replied Yes (holding (seated a t plain.idle) (without below x a.members))) (replied No (seated a t plain.idle))) held_there;
      accepted = refl;
      number = length_removed lead p l m;
      shape = shape_removed below m n v.listed v.frees v.shape (front fs lo) p y bs lead l (split fs lo (entry p y ∷ bs) is) led at on;
      permuted = subst (Permuted (without below x a.members)) left_keys (without_permuted below x v.members);
      mark = gone.0;
      other_none = λ u l' d h. none_stays u h (gone.1 u l' d);
      other_marks = λ u l' d z h. stands_struck below z (entry p y) (front fs lo) bs (table s.marks u) (table s'.marks u) (gone.1 u l' d)
          (subst (λ r. Stands below z r (table s.marks u)) (split fs lo (entry p y ∷ bs) is) h);
      rule = rule (rules_else below order s.cells s.anchor.head x v.listed room mark start e.answer (table s'.marks t) a.members v.members not_wait few_ahead);
      final = λ _. refl;
      over = λ _ _. refl;
      held = λ _ u c d ch h. absurd (both_ways (changed_beside u a e) ch (changed answer (ap (λ z. alters (plain.running z x)) ek) u d));
    })
      where
        E : Effect K
        E = unlinked t lead p l m

        answer : e.answer ≡ Yes
        answer = answer_as E eff

        not_wait : e.answer ≢ Wait
        not_wait h = both_ways false refl (sym (ap is_final (sym answer ∙ h)))

        gone : (table s'.marks t ≡ None) × ((u : ℕ) → u < 16 → u ≢ t → (table s'.marks u ≡ None) ⊎ ((table s'.marks u ≡ table s.marks u) × (table s.marks u ≢ Some p)))
        gone = struck strict table (Obeys table strict acts) (λ _ _ _ h. h.1) t s.marks s'.marks p (marks_as E eff)

        none_stays : (u : ℕ) → table s.marks u ≡ None → (table s'.marks u ≡ None) ⊎ ((table s'.marks u ≡ table s.marks u) × (table s.marks u ≢ Some p)) → table s'.marks u ≡ None
        none_stays u h (inl none) = none
        none_stays u h (inr same) = same.0 ∙ h

        left_keys : without below x (keys v.listed) ≡ keys (front fs lo ++ bs)
        left_keys = ap (without below x) (listed_keys fs lo (entry p y ∷ bs) is) ∙ without_present below order x (keys (front fs lo)) (front_low fs lo) y (keys bs) le ge up ∙ sym (keys_append (front fs lo) bs)

    called_present : (k' : Kind) → k ≡ k' → effect below table s e.call ≡ decided k' x t m (present lead p l) → Goal
    called_present Lookup ek eff = called_ended Yes eff refl refl (λ tl. whole_reply tl Lookup ek ∙ ap (λ b. replied (cond b Yes No) (seated a t plain.idle)) held_there) few_ahead
    called_present Insert ek eff = called_ended No eff refl refl
        (λ tl. whole_reply tl Insert ek ∙ ap (λ b. cond b (replied No (seated a t plain.idle)) (cond (eqb (length a.members) a.number) (replied Full (seated a t plain.idle)) (replied Yes (holding (seated a t plain.idle) (x ∷ a.members))))) held_there) few_ahead
    called_present Remove ek eff = called_removed ek eff

  -- the target is missing
  module _ (fs : List (Entry K)) (lead : Option ℕ) (bs : List (Entry K)) (l : Link) (is : start.rest ≡ fs ++ bs) (few : length fs ≤ room) (lo : Every (λ z. below z x) (keys fs)) (hi : Every (below x) (keys bs))
      (led : Lead (start.done ++ fs) lead) (on : Leads s.cells true l bs None) where
    none_ahead : ahead below order s.cells s.anchor.head x v.listed room mark start ≤ room
    none_ahead = ahead_misses below order s.cells s.anchor.head x v.listed room mark start fs bs is few lo hi

    not_there : holds below x a.members ≡ false
    not_there = holds_permuted below x v.members ∙ ap (holds below x) (listed_keys fs lo bs is) ∙ holds_absent below order x (keys (front fs lo)) (front_low fs lo) (keys bs) hi

    size : length a.members ≡ length v.listed
    size = length_permuted v.members ∙ length_keys v.listed

    insert_reply : e.told ≡ nothing → k ≡ Insert → (b : Bool) → eqb (length a.members) a.number ≡ b
        → reply below a e.call e.told ≡ cond b (replied Full (seated a t plain.idle)) (replied Yes (holding (seated a t plain.idle) (x ∷ a.members)))
    insert_reply tl ek b full = whole_reply tl Insert ek
        ∙ ap (λ c. cond c (replied No (seated a t plain.idle)) (cond (eqb (length a.members) a.number) (replied Full (seated a t plain.idle)) (replied Yes (holding (seated a t plain.idle) (x ∷ a.members))))) not_there
        ∙ ap (λ c. cond c (replied Full (seated a t plain.idle)) (replied Yes (holding (seated a t plain.idle) (x ∷ a.members)))) full

    -- no cell is free
    called_full : k ≡ Insert → v.frees ≡ [] → effect below table s e.call ≡ ended t Full m → Goal
    called_full ek none eff = called_ended Full eff refl refl
        (λ tl. insert_reply tl ek true (eq-eqb (length a.members) a.number (omega (arith, size, v.shape.total, ap length none, v.number)))) none_ahead

    -- the front free cell, at place q
    called_inserted : k ≡ Insert → (q : ℕ) (z : K) (f : Link) (frees' : List (Entry K)) → v.frees ≡ entry q z ∷ frees' → Leads s.cells false f frees' None → slice_get s.cells q ≡ Some (cell z f false)
        → effect below table s e.call ≡ ended t Yes (inserted lead l x q f m) → Goal
    called_inserted ek q z f frees' frees-is free_on at eff = concludes (record {
      answer = Yes;
      memory = inserted lead l x q f m;
      row = plain.idle;
      members = x ∷ a.members;
      listed' = front fs lo ++ entry q x ∷ bs;
      frees' = frees';
      is_answer = answer;
      is_told = told_as E eff;
      no_wait = λ h. not_wait (answer ∙ h);
      is_cells = cells_as E eff;
      is_anchor = anchor_as E eff;
      is_rows = rows_as E eff;
      is_reply = insert_reply (told_as E eff) ek false
          (ne_eqb (length a.members) a.number (λ h. omega (arith, h, size, v.shape.total, ap length frees-is, v.number)));
      accepted = refl;
      number = length_inserted lead l x q f m;
      shape = shape_inserted below m n v.listed v.frees v.shape (front fs lo) bs lead l x q z f frees' (split fs lo bs is) led on frees-is free_on at (front_low fs lo) hi;
      permuted = then (keep (subst (Permuted a.members) (listed_keys fs lo bs is) v.members))
          (subst (Permuted (x ∷ (keys (front fs lo) ++ keys bs))) (sym (keys_append (front fs lo) (entry q x ∷ bs))) (permuted_middle x (keys (front fs lo)) (keys bs)));
      mark = gone.0;
      other_none = λ u l' d h. gone.1 u l' d ∙ h;
      other_marks = λ u l' d y h. stands_inserted below y (entry q x) (front fs lo) bs (table s'.marks u)
          (subst (λ r. Stands below y r (table s'.marks u)) (split fs lo bs is) (stands_kept below y v.listed (table s.marks u) (table s'.marks u) (inl (gone.1 u l' d)) h));
      rule = rule (rules_else below order s.cells s.anchor.head x v.listed room mark start e.answer (table s'.marks t) a.members v.members not_wait none_ahead);
      final = λ _. refl;
      over = λ _ _. refl;
      held = λ _ u c d ch h. absurd (both_ways (changed_beside u a e) ch (changed answer (ap (λ z. alters (plain.running z x)) ek) u d));
    })
      where
        E : Effect K
        E = ended t Yes (inserted lead l x q f m)

        answer : e.answer ≡ Yes
        answer = answer_as E eff

        not_wait : e.answer ≢ Wait
        not_wait h = both_ways false refl (sym (ap is_final (sym answer ∙ h)))

        gone : (table s'.marks t ≡ None) × ((u : ℕ) → u < 16 → u ≢ t → table s'.marks u ≡ table s.marks u)
        gone = released strict table (Obeys table strict acts) (λ _ _ _ h. h.1) t s.marks s'.marks (marks_as E eff)

    called_filled : k ≡ Insert → (frees : List (Entry K)) → v.frees ≡ frees → effect below table s e.call ≡ taken_from x t lead l m m.free → Goal
    called_filled ek [] frees-is eff =
        let none : m.free ≡ None = subst (λ r. Leads s.cells false m.free r None) frees-is v.shape.from_free in
        called_full ek frees-is (eff ∙ ap (taken_from x t lead l m) none)
    called_filled ek (g ∷ frees') frees-is eff =
        let h : Leads s.cells false m.free (g ∷ frees') None = subst (λ r. Leads s.cells false m.free r None) frees-is v.shape.from_free in
        called_inserted ek g.place g.key h.0 frees' frees-is h.3 h.2 (eff ∙ ap (taken_from x t lead l m) h.1 ∙ ap (taken x t lead l m g.place) h.2)

    called_absent : (k' : Kind) → k ≡ k' → effect below table s e.call ≡ decided k' x t m (absent lead l) → Goal
    called_absent Lookup ek eff = called_ended No eff refl refl (λ tl. whole_reply tl Lookup ek ∙ ap (λ b. replied (cond b Yes No) (seated a t plain.idle)) not_there) none_ahead
    called_absent Insert ek eff = called_filled ek v.frees refl eff
    called_absent Remove ek eff = called_ended No eff refl refl
        (λ tl. whole_reply tl Remove ek ∙ ap (λ b. cond b (replied Yes (holding (seated a t plain.idle) (without below x a.members))) (replied No (seated a t plain.idle))) not_there) none_ahead

  -- by where the walk ended
  called_walked : (end : Met) → Walked below s.cells x start.done start.rest room end → effect below table s e.call ≡ decided k x t m end → Goal
  called_walked end (waits fs p y bs l is long lo hi) eff =
      called_waits below table strict acts n w a s e s' v seat did told k x row what p eff start fs y bs is long
      (subst (In (entry p y)) (sym (split fs lo (entry p y ∷ bs) is)) (in_middle (entry p y) (front fs lo) bs)) hi
      (steps_as ∙ ap (stepped below a t) (told_as (waiting t p m) eff))
      (rule (rules_wait below order s.cells s.anchor.head x v.listed room mark start e.answer (table s'.marks t) a.members v.members
      (answer_as (waiting t p m) eff) fs p y bs is long lo hi
      (moved_marks below table strict acts n w a s e s' v seat did told k x row what p eff).0))
  called_walked end (finds fs lead p y bs l is few lo ge le led at on) eff = called_present fs lead p y bs l is few lo ge le led at on k refl eff
  called_walked end (misses fs lead bs l is few lo hi led on) eff = called_absent fs lead bs l is few lo hi led on k refl eff

  pub called_window : effect below table s e.call ≡ window below m t s.anchor.window mark k x → Goal
  unfolding window
  called_window eff = called_walked (walked below s.cells s.anchor.head x room mark) start.view eff
