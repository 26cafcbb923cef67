-- The index's refusals that look at no row are the ledger's first three. Assumes nothing.
use Rattle.std.proofs.Common.{◌≡◌, ℕ, ◌<◌, Bool, true, false, not, ◌&&◌, ◌||◌, eqb, ltb, leb, ◌≢◌, List, [], ◌∷◌, length, Some, None, Option, sym, refl, ap, ◌∙◌}
use Rattle.std.proofs.lemmas.Bool.{and_parts, le-leb, ltb-true, eqb-true}
use Rattle.basis.specs.declared.refusal.Refusal.{Refusal}
use Rattle.basis.specs.declared.refusal.Refusal.TheVariants.{OutOfRange, WrongSizes, MaskRaised, NotAway, Away, AlreadyRunning, NotRunning, BadLink}
use Rattle.marks.specs.Meaning.{Table}
use Rattle.ledger.specs.Tests.{Test, test, first}
use Rattle.ledger.specs.Ledger as plain
use Rattle.ledger.specs.Ledger.{Ledger, Call, What, fitting, joins, begins, steps, abandons}
use Rattle.list_law.specs.Call.{State, Anchor, fits_anchor, early_refusals}
use Rattle.list_law.proofs.Lists.{clash, none_some, some_inj}
use Rattle.list_law.proofs.Invariant.{Inv}

-- the ledger's tests of the row
abbrev pub row_tests : {K : Type 0} → What K → plain.Row K → List Test
row_tests what r =
    test (joins what && not (plain.is_away r)) NotAway ∷
    test (not (joins what) && plain.is_away r) Away ∷
    test (begins what && plain.is_running r) AlreadyRunning ∷
    test ((steps what || abandons what) && plain.is_idle r) NotRunning ∷ []

apart : {r q : Refusal} → Some r ≡ Some q → q ≢ BadLink → r ≢ BadLink
apart e d h = d (sym (some_inj e) ∙ h)

-- states of the same sizes and the same anchor are refused alike by the tests that look at no row
pub tests_alike : {K M : Type 0} (s s₂ : State K M) (c : Call K) → length s.cells ≡ length s₂.cells → s.anchor ≡ s₂.anchor
    → length s.rows ≡ length s₂.rows → first (early_refusals s c) ≡ first (early_refusals s₂ c)
tests_alike {K} s s₂ c cells anchor rows = λ i. first (tests (cells i) (anchor i) (rows i))
  where
    tests : ℕ → Anchor → ℕ → List Test
    tests k an r =
        test (not (ltb c.seat 16)) OutOfRange ∷
        test (not (leb 1 k && leb k 1008 && eqb k an.count && leb 1 an.window && leb an.window 64)) WrongSizes ∷
        test (not (eqb r 16)) WrongSizes ∷ test (not (ltb c.level 7)) MaskRaised ∷ []

-- the four tests before the row, as the index makes them and as the ledger makes them
module _ (seat cells rows level : Bool) (rest : List Test) where
  abbrev ours : Option Refusal
  ours = first (test (not seat) OutOfRange ∷ test (not cells) WrongSizes ∷ test (not rows) WrongSizes ∷ test (not level) MaskRaised ∷ [])

  abbrev theirs : Option Refusal
  theirs = first (test (not seat) OutOfRange ∷ test (not (cells && rows)) WrongSizes ∷ test (not level) MaskRaised ∷ rest)

pub tests_stop : (seat cells rows level : Bool) (rest : List Test) (r : Refusal) → ours seat cells rows level rest ≡ Some r → (theirs seat cells rows level rest ≡ Some r) × (r ≢ BadLink)
tests_stop false cells rows level rest r h = (h, apart (sym h) (λ e. clash (cc)))
tests_stop true false rows level rest r h = (h, apart (sym h) (λ e. clash (cc)))
tests_stop true true false level rest r h = (h, apart (sym h) (λ e. clash (cc)))
tests_stop true true true false rest r h = (h, apart (sym h) (λ e. clash (cc)))
tests_stop true true true true rest r h = absurd (none_some h)

pub tests_pass : (seat cells rows level : Bool) (rest : List Test) → ours seat cells rows level rest ≡ None
    → (theirs seat cells rows level rest ≡ first rest) × (seat ≡ true) × (cells ≡ true) × (rows ≡ true) × (level ≡ true)
tests_pass false cells rows level rest h = absurd (none_some (sym h))
tests_pass true false rows level rest h = absurd (none_some (sym h))
tests_pass true true false level rest h = absurd (none_some (sym h))
tests_pass true true true false rest h = absurd (none_some (sym h))
tests_pass true true true true rest h = (refl, refl, refl, refl, refl)

and_true : (a b : Bool) → b ≡ true → (a && b) ≡ a
and_true true b h = h
and_true false b h = refl

module _ {K M : Type 0} (below : K → K → Bool) (table : M → Table) (n w : ℕ) (a : Ledger K) (s : State K M) (v : Inv below table n w a s) (c : Call K) (lent : State K M)
    (anchor : lent.anchor ≡ s.anchor) (cells : c.cells ≡ length lent.cells) (rows : c.rows ≡ length lent.rows) where
  sizes : fitting a c ≡ (fits_anchor lent.cells lent.anchor && eqb (length lent.rows) 16)
  sizes =
      let l : ℕ = length lent.cells in
      let front : Bool = leb 1 l && leb l 1008 && eqb l n in
      let ours' : fits_anchor lent.cells lent.anchor ≡ front =
      ap (λ an. leb 1 l && leb l 1008 && eqb l an.count && leb 1 an.window && leb an.window 64) anchor
      ∙ ap (λ k. leb 1 l && leb l 1008 && eqb l k && leb 1 s.anchor.window && leb s.anchor.window 64) v.count
      ∙ ap (λ k. front && leb 1 k && leb k 64) v.window
      ∙ and_true (front && leb 1 w) (leb w 64) (le-leb w 64 v.sized.narrow) ∙ and_true front (leb 1 w) (le-leb 1 w v.sized.some_window) in
      ap (λ k. leb 1 k && leb k 1008 && eqb k a.number && eqb c.rows 16) cells
      ∙ ap (λ k. leb 1 l && leb l 1008 && eqb l k && eqb c.rows 16) v.number
      ∙ ap (λ k. front && eqb k 16) rows
      ∙ ap (λ b. b && eqb (length lent.rows) 16) (sym ours')

  same_tests : first (plain.refusals a c (a.row c.seat)) ≡ theirs (ltb c.seat 16) (fits_anchor lent.cells lent.anchor) (eqb (length lent.rows) 16) (ltb c.level 7) (row_tests c.what (a.row c.seat))
  same_tests = ap (λ b. first (test (not (ltb c.seat 16)) OutOfRange ∷ test (not b) WrongSizes ∷ test (not (ltb c.level 7)) MaskRaised ∷ row_tests c.what (a.row c.seat))) sizes

  -- a refusal of the index is the ledger's
  pub stopped : (r : Refusal) → first (early_refusals lent c) ≡ Some r → (first (plain.refusals a c (a.row c.seat)) ≡ Some r) × (r ≢ BadLink)
  stopped r h =
      let t = tests_stop (ltb c.seat 16) (fits_anchor lent.cells lent.anchor) (eqb (length lent.rows) 16) (ltb c.level 7) (row_tests c.what (a.row c.seat)) r h in
      (same_tests ∙ t.0, t.1)

  -- where there is none, the ledger looks at the row, and what was lent has the right sizes
  pub record Passed : Type 0 where
    pub ledger : first (plain.refusals a c (a.row c.seat)) ≡ first (row_tests c.what (a.row c.seat))
    pub seat : c.seat < 16
    pub cells_fit : length lent.cells ≡ length s.cells
    pub rows_fit : length lent.rows ≡ length s.rows

  pub passed : first (early_refusals lent c) ≡ None → Passed
  passed h =
      let t = tests_pass (ltb c.seat 16) (fits_anchor lent.cells lent.anchor) (eqb (length lent.rows) 16) (ltb c.level 7) (row_tests c.what (a.row c.seat)) h in
      let l : ℕ = length lent.cells in
      let an = lent.anchor in
      let w₂ = and_parts (leb 1 l && leb l 1008 && eqb l an.count && leb 1 an.window) (leb an.window 64) t.2 in
      let w₁ = and_parts (leb 1 l && leb l 1008 && eqb l an.count) (leb 1 an.window) w₂.0 in
      let k = and_parts (leb 1 l && leb l 1008) (eqb l an.count) w₁.0 in
      record {
        ledger = same_tests ∙ t.0;
        seat = ltb-true c.seat 16 t.1;
        cells_fit = eqb-true l an.count k.1 ∙ ap (λ an. an.count) anchor ∙ v.count ∙ sym v.cells;
        rows_fit = eqb-true (length lent.rows) 16 t.3 ∙ sym v.rows;
      }
