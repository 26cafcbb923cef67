-- A making that works as defined begins a run. Assumes nothing.
use Rattle.std.proofs.Common.{◌≡◌, ℕ, zero, suc, ◌+◌, ◌<◌, ◌≤◌, Bool, true, false, ◌&&◌, eqb, leb, List, length, None, sym, refl, ap, ◌∙◌, ⊎_elim, arith}
use Rattle.std.proofs.lemmas.Bool.{and_parts, leb-true, eqb-true, cases_eq, both_ways, cond-true, cond-false}
use Rattle.basis.specs.declared.refusal.Refusal.TheVariants.{WrongSizes}
use Rattle.basis.specs.declared.answer.Answer.TheVariants.{Refused}
use Rattle.basis.specs.declared.answer.Answer.{Answer}
use Rattle.keys.specs.Total.{Total}
use Rattle.marks.specs.Meaning.{Table, Order, Along}
use Rattle.list_law.specs.Call.{Cell, State, Obeys}
use Rattle.list_law.specs.Runs.{Sized}
use Rattle.list_law.specs.Continued.{Begins}
use Rattle.list_law.specs.Making.{makes, releases, releases_from, made_of, Makes}
use Rattle.list_law.proofs.Continued.{begins}

-- what the test of the sizes says
pub record Fits (n r w : ℕ) : Type 0 where
  pub sizes : Sized n w
  pub rows : r ≡ 16

pub fits : (n r w : ℕ) → makes n r w ≡ true → Fits n r w
fits n r w e =
    let e4 = and_parts (leb 1 n && leb n 1008 && eqb r 16 && leb 1 w) (leb w 64) e in
    let e3 = and_parts (leb 1 n && leb n 1008 && eqb r 16) (leb 1 w) e4.0 in
    let e2 = and_parts (leb 1 n && leb n 1008) (eqb r 16) e3.0 in
    let e1 = and_parts (leb 1 n) (leb n 1008) e2.0 in
    record {
      sizes = record { some_cells = leb-true 1 n e1.0; few_cells = leb-true n 1008 e1.1; some_window = leb-true 1 w e3.1; narrow = leb-true w 64 e4.1 };
      rows = eqb-true r 16 e2.1;
    }

module _ {K M : Type 0} (below : K → K → Bool) (order : Total below) (table : M → Table) (strict : Bool) (acts : Order → M → M → Type 0) where
  -- a seat that is not among those released keeps its mark
  kept : (t n : ℕ) (a b : M) → Along (Obeys table strict acts) (releases_from t n) a b → (u : ℕ) → u < 16 → u < t → table b u ≡ table a u
  kept t zero a b e u h l = ap (λ m. table m u) e
  kept t (suc n) a b (m, (act, means), rest) u h l = kept (suc t) n m b rest u h (omega arith) ∙ means.others u h (λ e. omega arith)

  -- and every seat that is has none
  pub none : (t n : ℕ) (a b : M) → Along (Obeys table strict acts) (releases_from t n) a b → (u : ℕ) → u < 16 → t ≤ u → u < t + n → table b u ≡ None
  none t zero a b e u h l g = absurd (omega arith)
  none t (suc n) a b (m, (act, means), rest) u h l g =
      ⊎_elim (λ e. kept (suc t) n m b rest u h (omega arith) ∙ ap (table m) e ∙ means.own) (λ e. none (suc t) n m b rest u h (omega arith) (omega arith)) (cases_eq u t)

  pub begins_made : (given : List (Cell K)) (r w : ℕ) (a : M) (s : State K M) → makes (length given) r w ≡ true → s ≡ made_of given w s.marks → Along (Obeys table strict acts) releases a s.marks → Begins below table strict acts (length given) w s
  begins_made given r w a s sizes is along = begins below order table strict acts (length given) w s (record {
    sized = (fits (length given) r w sizes).sizes;
    given = given;
    number = refl;
    cells = ap (λ x. x.cells) is;
    rows = ap (λ x. x.rows) is;
    anchor = ap (λ x. x.anchor) is;
    marks = λ u h. none 0 16 a s.marks along u h (omega arith) (omega arith);
  })

  -- sizes that do not fit are refused
  pub makes_refused : (s : State K M) (w : ℕ) → makes (length s.cells) (length s.rows) w ≡ false → Makes below table strict acts s w (Refused WrongSizes) s
  makes_refused s w e = record {
    answer = sym (cond-false _ _ _ e);
    made = λ t. absurd (both_ways _ e t);
    marks = λ t. absurd (both_ways _ e t);
    same = λ _. refl;
    runs = λ t. absurd (both_ways _ e t);
  }

  -- sizes that fit are accepted
  pub makes_accepted : (s : State K M) (w : ℕ) (s' : State K M) → makes (length s.cells) (length s.rows) w ≡ true → s' ≡ made_of s.cells w s'.marks → Along (Obeys table strict acts) releases s.marks s'.marks → Makes below table strict acts s w Answer.Ok s'
  makes_accepted s w s' e is along = record {
    answer = sym (cond-true _ _ _ e);
    made = λ _. is;
    marks = λ _. along;
    same = λ f. absurd (both_ways _ f e);
    runs = λ _. begins_made s.cells (length s.rows) w s.marks s' e is along;
  }
