-- Why a station is not opened: what a refused making and refused joins say. Assumes nothing.
use Rattle.std.proofs.Common.{◌≡◌, ℕ, zero, suc, Bool, true, false, not, ◌&&◌, eqb, ltb, leb, ◌≢◌, List, [], ◌∷◌, length, replicate, Some, None, Option, sym, refl, ap, ◌∙◌}
use Rattle.std.proofs.lemmas.Bool.{eq-eqb, both_ways}
use Rattle.basis.specs.declared.refusal.Refusal.{Refusal}
use Rattle.basis.specs.declared.refusal.Refusal.TheVariants.{OutOfRange, WrongSizes, MaskRaised, NotAway}
use Rattle.basis.specs.declared.answer.Answer.TheVariants.{Refused}
use Rattle.key_types.specs.declared.wear.Wear.{Wear}
use Rattle.key_types.specs.Wear.{wear_below}
use Rattle.marks.specs.Meaning.{Table, Order}
use Rattle.ledger.specs.Tests.{test, first}
use Rattle.ledger.specs.Ledger.{Call, join}
use Rattle.list_law.specs.Call.{Cell, Row, away, idle, running, State, Anchor, memory_of, fits_anchor, row_at, row_or, turn, turn_effect, call_effect, effect, rows_after, Did}
use Rattle.list_law.specs.Making.{makes}
use Rattle.list_law.proofs.Lists.{nth_set_other}
use Rattle.tasks.specs.Stations.{not_opened}
use Rattle.tasks.proofs.Manned.{refused_apart}

pub refused_inj : {q r : Refusal} → Refused q ≡ Refused r → q ≡ r
refused_inj h = cc

-- the first test that fits
module _ (n w h k : ℕ) where
  pub sizes_refused : makes n 16 w ≡ false → not_opened n w h k ≡ Some WrongSizes
  sizes_refused e = λ i. first (test (not (e i)) WrongSizes ∷ test (not (ltb h 16)) OutOfRange ∷ test (not (ltb k 16)) OutOfRange ∷ test (eqb k h) NotAway ∷ [])

  pub host_refused : makes n 16 w ≡ true → ltb h 16 ≡ false → not_opened n w h k ≡ Some OutOfRange
  host_refused e f = λ i. first (test (not (e i)) WrongSizes ∷ test (not (f i)) OutOfRange ∷ test (not (ltb k 16)) OutOfRange ∷ test (eqb k h) NotAway ∷ [])

  pub cleaner_refused : makes n 16 w ≡ true → ltb h 16 ≡ true → ltb k 16 ≡ false → not_opened n w h k ≡ Some OutOfRange
  cleaner_refused e f g = λ i. first (test (not (e i)) WrongSizes ∷ test (not (f i)) OutOfRange ∷ test (not (g i)) OutOfRange ∷ test (eqb k h) NotAway ∷ [])

  pub seats_refused : makes n 16 w ≡ true → ltb h 16 ≡ true → ltb k 16 ≡ true → eqb k h ≡ true → not_opened n w h k ≡ Some NotAway
  seats_refused e f g a = λ i. first (test (not (e i)) WrongSizes ∷ test (not (f i)) OutOfRange ∷ test (not (g i)) OutOfRange ∷ test (a i) NotAway ∷ [])

-- sizes that making takes are right in a call
pub sizes_right : (n w : ℕ) (cs : List (Cell Wear)) (a : Anchor) → length cs ≡ n → a.count ≡ n → a.window ≡ w → makes n 16 w ≡ true → fits_anchor cs a ≡ true
sizes_right n w cs a long count wide e =
    (λ i. leb 1 (long i) && leb (long i) 1008 && eqb (long i) (count i) && leb 1 (wide i) && leb (wide i) 64)
    ∙ ap (λ b. leb 1 n && leb n 1008 && b && leb 1 w && leb w 64) (eq-eqb n n refl) ∙ e

-- rows that are all away, and a row that another seat's call leaves
abbrev aways : ℕ → List (Row Wear)
aways n = replicate n away

pub all_away : (n t : ℕ) → row_at (aways n) t ≡ away
all_away zero t = refl
all_away (suc n) zero = refl
all_away (suc n) (suc t) = all_away n t

pub other_row : (rs : List (Row Wear)) (t u : ℕ) (o : Option (Row Wear)) → u ≢ t → row_at (rows_after rs t o) u ≡ row_at rs u
other_row rs t u None d = refl
other_row rs t u (Some r) d = ap row_or (nth_set_other rs t u r d)

-- a join at level 0 of an index whose sizes are right, which was refused
module _ {M : Type 0} {table : M → Table} {strict : Bool} {acts : Order → M → M → Type 0} (s : State Wear M) (c : Call Wear) (q : Refusal) (s' : State Wear M)
    (did : Did wear_below table strict acts s c (Refused q) s') (what : c.what ≡ join) (level : ltb c.level 7 ≡ true) (cells : fits_anchor s.cells s.anchor ≡ true) (rows : length s.rows ≡ 16) where
  answer_is : (b : Bool) → ltb c.seat 16 ≡ b → Refused q ≡ (call_effect wear_below table s c (first (test (not b) OutOfRange ∷ []))).answer
  unfolding effect
  answer_is b e =
      let sixteen = eq-eqb (length s.rows) 16 rows in
      did.answer ∙ (λ i. (call_effect wear_below table s c (first (test (not (e i)) OutOfRange ∷ test (not (cells i)) WrongSizes ∷ test (not (sixteen i)) WrongSizes ∷ test (not (level i)) MaskRaised ∷ []))).answer)

  pub is_out_of_range : ltb c.seat 16 ≡ false → q ≡ OutOfRange
  is_out_of_range e = refused_inj (answer_is false e)

  row_answer : ltb c.seat 16 ≡ true → (r : Row Wear) → row_at s.rows c.seat ≡ r → Refused q ≡ (turn_effect wear_below (memory_of s) c.seat s.anchor.window (table s.marks c.seat) (turn c.seat r join)).answer
  row_answer e r h = answer_is true e ∙ (λ i. (turn_effect wear_below (memory_of s) c.seat s.anchor.window (table s.marks c.seat) (turn c.seat (h i) (what i))).answer)

  pub was_not_away : ltb c.seat 16 ≡ true → row_at s.rows c.seat ≢ away
  was_not_away e h = refused_apart (row_answer e away h)

  pub is_not_away : ltb c.seat 16 ≡ true → q ≡ NotAway
  is_not_away e = by (row_at s.rows c.seat) refl
    where
      by : (r : Row Wear) → row_at s.rows c.seat ≡ r → q ≡ NotAway
      by away h = absurd (was_not_away e h)
      by idle h = refused_inj (row_answer e idle h)
      by (running k x) h = refused_inj (row_answer e (running k x) h)

  -- why, where the row was away
  pub refused_away : row_at s.rows c.seat ≡ away → (ltb c.seat 16 ≡ false) × (q ≡ OutOfRange)
  refused_away h = by (ltb c.seat 16) refl
    where
      by : (b : Bool) → ltb c.seat 16 ≡ b → (ltb c.seat 16 ≡ false) × (q ≡ OutOfRange)
      by true e = absurd (was_not_away e h)
      by false e = (e, is_out_of_range e)

  -- why, after another seat's join on rows that were all away
  pub refused_second : (n w h : ℕ) → makes n 16 w ≡ true → ltb h 16 ≡ true → (c.seat ≢ h → row_at s.rows c.seat ≡ away) → not_opened n w h c.seat ≡ Some q
  refused_second n w h e f others = by (ltb c.seat 16) refl
    where
      same : (b : Bool) → eqb c.seat h ≡ b → ltb c.seat 16 ≡ true → eqb c.seat h ≡ true
      same true is g = is
      same false is g = absurd (was_not_away g (others (λ e. clash_of is e)))
        where
          clash_of : eqb c.seat h ≡ false → c.seat ≡ h → ⊥
          clash_of is e = both_ways (eqb c.seat h) is (eq-eqb c.seat h e)

      by : (b : Bool) → ltb c.seat 16 ≡ b → not_opened n w h c.seat ≡ Some q
      by true g = seats_refused n w h c.seat e f g (same (eqb c.seat h) refl g) ∙ ap Some (sym (is_not_away g))
      by false g = cleaner_refused n w h c.seat e f g ∙ ap Some (sym (is_out_of_range g))
