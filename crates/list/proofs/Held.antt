-- A seat is held from the join that gave its slip until its leave, which is accepted. Assumes nothing.
use Rattle.std.proofs.Common.{◌≡◌, ℕ, pred, ◌<◌, Bool, true, false, cond, not, ◌&&◌, eqb, ltb, leb, ◌≢◌, ◌⊎◌, List, [], ◌∷◌, length, set, Some, None, Option, sym, refl, ap, ◌∙◌, inl, inr, arith, length-set}
use Rattle.std.proofs.lemmas.List.{length-map}
use Rattle.std.proofs.lemmas.Bool.{lt-ltb, eq-eqb, ltb-true, eqb-true, both_ways}
use Rattle.std.specs.List.{slice_get}
use Rattle.basis.specs.declared.kind.Kind.{Kind}
use Rattle.basis.specs.declared.kind.Kind.TheVariants.{Lookup, Insert, Remove}
use Rattle.basis.specs.declared.refusal.Refusal.{Refusal}
use Rattle.basis.specs.declared.refusal.Refusal.TheVariants.{OutOfRange, WrongSizes, MaskRaised}
use Rattle.basis.specs.declared.answer.Answer.{Answer}
use Rattle.basis.specs.declared.answer.Answer.TheVariants.{Refused}
use Rattle.marks.specs.Meaning.{Table, Order}
use Rattle.ledger.specs.Tests.{test, first}
use Rattle.ledger.specs.Ledger.{What, join, leave, begin, step, abandon, Call}
use Rattle.list_law.specs.Call.{Link, Cell, Row, away, idle, running, State, Memory, Anchor, memory_of, fits_anchor, early_refusals, row_at, row_or, Effect, Met, bad, passed, present, absent, taken, taken_from, refused, ended, inserted, decided, walked, reach, window, turn, turn_effect, call_effect, effect, rows_after, Did}
use Rattle.list_law.proofs.Lists.{clash, none_some, nth_set_same, nth_set_other, nth_there}
use Rattle.list_law.proofs.Refusals.{tests_pass}
use Rattle.list_cells.specs.Views.{cell_of}
use Rattle.list_window.specs.declared.index.Index.{Index}
use Rattle.list_window.specs.Lent.{lent_state}
use Rattle.list.specs.Calls.{call_on, CalledOn}
use Rattle.list.specs.Slips.{Held}

-- a row that is left, if it changes, is not away
abbrev Seats : {K : Type 0} → Option (Row K) → Type 0
Seats {K} o = (r : Row K) → o ≡ Some r → r ≢ away

same_row : {K : Type 0} → Seats {K = K} None
same_row r h = absurd (none_some h)

idle_row : {K : Type 0} → Seats {K = K} (Some idle)
idle_row r h e = clash (cc)

running_row : {K : Type 0} (k : Kind) (x : K) → Seats (Some (running k x))
running_row k x r h e = clash (cc)

-- no call but leave makes a row away
module _ {K : Type 0} (below : K → K → Bool) (m : Memory K) (t : ℕ) where
  decided_seats : (k : Kind) (x : K) (end : Met) → Seats (decided k x t m end).row
  decided_seats k x bad = same_row
  decided_seats k x (passed p l) = same_row
  decided_seats Lookup x (present lead p l) = idle_row
  decided_seats Insert x (present lead p l) = idle_row
  decided_seats Remove x (present lead p l) = idle_row
  decided_seats Lookup x (absent lead l) = idle_row
  decided_seats Insert x (absent lead l) = filled_seats m.free
    where
      listed_seats : (b : Bool) (f g : Effect K) → Seats f.row → Seats g.row → Seats (cond b f g).row
      listed_seats true f g hf hg = hf
      listed_seats false f g hf hg = hg

      taken_seats : (r : ℕ) (c : Option (Cell K)) → Seats (taken x t lead l m r c).row
      taken_seats r None = same_row
      taken_seats r (Some c) = listed_seats c.listed (refused m _) (ended t _ (inserted lead l x r c.link m)) same_row idle_row

      filled_seats : (f : Link) → Seats (taken_from x t lead l m f).row
      filled_seats None = idle_row
      filled_seats (Some r) = taken_seats r (slice_get m.cells r)
  decided_seats Remove x (absent lead l) = idle_row

  window_seats : (w : ℕ) (mark : Option ℕ) (k : Kind) (x : K) → Seats (window below m t w mark k x).row
  unfolding window
  window_seats w mark k x = decided_seats k x (walked below m.cells m.head x (pred (reach t w mark)) mark)

  turn_seats : (w : ℕ) (mark : Option ℕ) (r : Row K) (what : What K) → what ≢ leave → Seats (turn_effect below m t w mark (turn t r what)).row
  turn_seats w mark away join d = idle_row
  turn_seats w mark away leave d = absurd (d refl)
  turn_seats w mark away (begin k x) d = same_row
  turn_seats w mark away step d = same_row
  turn_seats w mark away abandon d = same_row
  turn_seats w mark idle join d = same_row
  turn_seats w mark idle leave d = absurd (d refl)
  turn_seats w mark idle (begin k x) d = running_row k x
  turn_seats w mark idle step d = same_row
  turn_seats w mark idle abandon d = same_row
  turn_seats w mark (running k x) join d = same_row
  turn_seats w mark (running k x) leave d = absurd (d refl)
  turn_seats w mark (running k x) (begin k' x') d = same_row
  turn_seats w mark (running k x) step d = window_seats w mark k x
  turn_seats w mark (running k x) abandon d = idle_row

-- seat u is not away after seat t's row was set, if that row is not away or is another seat's
module _ {K : Type 0} (rs : List (Row K)) (t u : ℕ) (there : u < length rs) where
  set_own : (r : Row K) → u ≡ t → row_at (set rs t r) u ≡ r
  set_own r e = ap (λ i. row_or (slice_get (set rs i r) u)) (sym e) ∙ ap row_or (nth_set_same rs u r (nth_there rs u there).1)

  row_after : (o : Option (Row K)) → Seats o ⊎ (u ≢ t) → row_at rs u ≢ away → row_at (rows_after rs t o) u ≢ away
  row_after None seats h = h
  row_after (Some r) (inr other) h = λ e. h (sym (ap row_or (nth_set_other rs t u r other)) ∙ e)
  row_after (Some r) (inl seats) h = by (eqb u t) refl
    where
      by : (b : Bool) → eqb u t ≡ b → row_at (set rs t r) u ≢ away
      by true e = λ z. seats r refl (sym (set_own r (eqb-true u t e)) ∙ z)
      by false e = λ z. h (sym (ap row_or (nth_set_other rs t u r (λ same. both_ways (eqb u t) e (eq-eqb u t same)))) ∙ z)

length_after : {K : Type 0} (rs : List (Row K)) (t : ℕ) (o : Option (Row K)) → length (rows_after rs t o) ≡ length rs
length_after rs t None = refl
length_after rs t (Some r) = length-set rs t r

module _ {K M : Type 0} (below : K → K → Bool) (table : M → Table) (strict : Bool) (acts : Order → M → M → Type 0) (s : State K M) (c : Call K) (a : Answer) (s' : State K M)
    (did : Did below table strict acts s c a s') (long : length s'.cells ≡ length s.cells) where
  abbrev t : ℕ
  t = c.seat

  abbrev f : Effect K
  f = effect below table s c

  sizes_stay : fits_anchor s'.cells s'.anchor ≡ fits_anchor s.cells s.anchor
  sizes_stay =
      let count = ap (λ (x : Anchor). x.count) did.anchor in
      let wide = ap (λ (x : Anchor). x.window) did.anchor in
      λ i. leb 1 (long i) && leb (long i) 1008 && eqb (long i) (count i) && leb 1 (wide i) && leb (wide i) 64

  rows_stay : length s'.rows ≡ length s.rows
  rows_stay = ap length did.rows ∙ length_after s.rows t f.row

  -- what the first tests leave to the row
  inner_is : first (early_refusals s c) ≡ None → f ≡ turn_effect below (memory_of s) t s.anchor.window (table s.marks t) (turn t (row_at s.rows t) c.what)
  unfolding effect
  inner_is e = ap (call_effect below table s c) e

  refused_is : (q : Refusal) → first (early_refusals s c) ≡ Some q → a ≡ Refused q
  unfolding effect
  refused_is q e = did.answer ∙ ap (λ o. (call_effect below table s c o).answer) e

  call_seats : c.what ≢ leave → (o : Option Refusal) → Seats (call_effect below table s c o).row
  call_seats d (Some q) = same_row
  call_seats d None = turn_seats below (memory_of s) t s.anchor.window (table s.marks t) (row_at s.rows t) c.what d

  effect_seats : c.what ≢ leave → Seats f.row
  unfolding effect
  effect_seats d = call_seats d (first (early_refusals s c))

  may : (u : ℕ) → (c.what ≢ leave) ⊎ (u ≢ t) → Seats f.row ⊎ (u ≢ t)
  may u (inl d) = inl (effect_seats d)
  may u (inr d) = inr d

  -- a held seat is held after every call but its own leave
  pub stays_held : (u : ℕ) → (c.what ≢ leave) ⊎ (u ≢ t) → Held s u → Held s' u
  stays_held u d h = record {
    seat = h.seat;
    cells = sizes_stay ∙ h.cells;
    rows = rows_stay ∙ h.rows;
    row = λ e. row_after s.rows t u (omega (arith, h.seat, h.rows)) f.row (may u d) h.row (sym (ap (λ rs. row_at rs u) did.rows) ∙ e);
  }

  -- an accepted join: the seat was away, and is held
  pub record Taken : Type 0 where
    pub held : Held s' t
    pub was : row_at s.rows t ≡ away

  pub joined_held : c.what ≡ join → a ≡ Answer.Ok → Taken
  joined_held what ok = by (first (early_refusals s c)) refl
    where
      passed_held : first (early_refusals s c) ≡ None → (r : Row K) → row_at s.rows t ≡ r → Taken
      passed_held e away er =
          let tests = tests_pass (ltb t 16) (fits_anchor s.cells s.anchor) (eqb (length s.rows) 16) (ltb c.level 7) [] e in
          let seat = ltb-true t 16 tests.1 in
          let sixteen = eqb-true (length s.rows) 16 tests.3 in
          let row : f.row ≡ Some idle = ap (λ (x : Effect K). x.row) (inner_is e) ∙ (λ i. (turn_effect below (memory_of s) t s.anchor.window (table s.marks t) (turn t (er i) (what i))).row) in
          record {
            held = record {
              seat = seat;
              cells = sizes_stay ∙ tests.2;
              rows = rows_stay ∙ sixteen;
              row = λ z. idle_row idle refl (sym (set_own s.rows t t (omega (arith, seat, sixteen)) idle refl) ∙ sym (ap (λ rs. row_at rs t) (did.rows ∙ ap (rows_after s.rows t) row)) ∙ z);
            };
            was = er;
          }
      passed_held e idle er = let no = did.answer ∙ ap (λ (x : Effect K). x.answer) (inner_is e) ∙ (λ i. (turn_effect below (memory_of s) t s.anchor.window (table s.marks t) (turn t (er i) (what i))).answer) in absurd (clash (cc))
      passed_held e (running k x) er = let no = did.answer ∙ ap (λ (x : Effect K). x.answer) (inner_is e) ∙ (λ i. (turn_effect below (memory_of s) t s.anchor.window (table s.marks t) (turn t (er i) (what i))).answer) in absurd (clash (cc))

      by : (o : Option Refusal) → first (early_refusals s c) ≡ o → Taken
      by (Some q) e = let no = refused_is q e in absurd (clash (cc))
      by None e = passed_held e (row_at s.rows t) refl

  -- a held seat's leave is accepted, unless the mask is raised already
  pub leave_accepted : c.what ≡ leave → ltb c.level 7 ≡ true → Held s t → a ≡ Answer.Ok
  leave_accepted what low h = did.answer ∙ ap (λ (x : Effect K). x.answer) (inner_is none) ∙ by (row_at s.rows t) h.row
    where
      none : first (early_refusals s c) ≡ None
      none =
          let seat = lt-ltb t 16 h.seat in
          let sixteen = eq-eqb (length s.rows) 16 h.rows in
          λ i. first (test (not (seat i)) OutOfRange ∷ test (not (h.cells i)) WrongSizes ∷ test (not (sixteen i)) WrongSizes ∷ test (not (low i)) MaskRaised ∷ [])

      by : (r : Row K) → r ≢ away → (turn_effect below (memory_of s) t s.anchor.window (table s.marks t) (turn t r c.what)).answer ≡ Answer.Ok
      by away d = absurd (d refl)
      by idle d = λ i. (turn_effect below (memory_of s) t s.anchor.window (table s.marks t) (turn t idle (what i))).answer
      by (running k x) d = λ i. (turn_effect below (memory_of s) t s.anchor.window (table s.marks t) (turn t (running k x) (what i))).answer

-- the same of a call on an index
module _ {K M : Type 0} {below : K → K → Bool} {table : M → Table} {strict : Bool} {acts : Order → M → M → Type 0} {i j : Index K M} {what : What K} {t level : ℕ} {a : Answer}
    (called : CalledOn below table strict acts i what t level a j) where
  long : length (lent_state j).cells ≡ length (lent_state i).cells
  long = length-map j.cells.now cell_of ∙ called.same.cells ∙ sym (length-map i.cells.now cell_of)

  pub held_on : (u : ℕ) → (what ≢ leave) ⊎ (u ≢ t) → Held (lent_state i) u → Held (lent_state j) u
  held_on u d h = stays_held below table strict acts (lent_state i) (call_on i what t level) a (lent_state j) called.did long u d h

  pub joined_on : what ≡ join → a ≡ Answer.Ok → Held (lent_state j) t × (row_at (lent_state i).rows t ≡ away)
  joined_on is ok =
      let taken = joined_held below table strict acts (lent_state i) (call_on i what t level) a (lent_state j) called.did long is ok in
      (taken.held, taken.was)

  pub leave_on : what ≡ leave → ltb level 7 ≡ true → Held (lent_state i) t → a ≡ Answer.Ok
  leave_on is low h = leave_accepted below table strict acts (lent_state i) (call_on i what t level) a (lent_state j) called.did long is low h
