-- Runs begin and go on. Assumes nothing.
use Rattle.std.proofs.Common.{◌≡◌, ℕ, zero, suc, ◌+◌, ◌≤◌, Bool, true, false, cond, eqb, ◌≢◌, ◌⊎◌, List, length, replicate, Some, None, Option, sym, refl, ap, ◌∙◌, inl, inr, arith}
use Rattle.std.proofs.lemmas.List.{length-replicate}
use Rattle.std.proofs.lemmas.Bool.{cases_eq, eq-eqb, ne_eqb, cond-true, cond-false}
use Rattle.keys.specs.Total.{Total}
use Rattle.marks.specs.Meaning.{Table, Order, release, reserve, revoke, Means, Along}
use Rattle.ledger.specs.Ledger.{Call}
use Rattle.ledger.specs.Lending.{looks_at_cells, looks_at_rows, Lent}
use Rattle.ledger.specs.Law.{Event}
use Rattle.list_law.specs.Call.{away, State, Effect, effect, anchor_after, rows_after, Obeys}
use Rattle.list_law.specs.Runs.{Next, chained, onward}
use Rattle.list_law.specs.Existence.{Able, Runs, unconstrained, RunsAreThere}
use Rattle.list_law.proofs.Lists.{nth_there}
use Rattle.list_law.specs.Making.{releases, releases_from}
use Rattle.list_law.proofs.Proper.{AllProper, effect_proper, along_there}
use Rattle.list_law.proofs.Made.{none}
use Rattle.list_law.proofs.Lawful.{inv_of}

-- a slice of k elements to lend: the index's own if it has as many, else another
record Slice {X : Type 0} (own : List X) (k : ℕ) : Type 0 where
  lent : List X
  long : k ≡ length lent
  after : List X → List X
  allowed : (looks : Bool) (left : List X) → Lent looks own (after left) lent left

slice : {X : Type 0} (own : List X) (x : X) (k : ℕ) → Slice own k
slice own x k = go (cases_eq k (length own))
  where
    go : (k ≡ length own) ⊎ (k ≡ length own → ⊥) → Slice own k
    go (inl e) = record { lent = own; long = e; after = λ left. left; allowed = λ looks left. (inl refl, refl) }
    go (inr d) = record {
      lent = replicate k x;
      long = sym (length-replicate k x);
      after = λ left. own;
      allowed = λ looks left. (inr (inl (λ h. d (sym (length-replicate k x) ∙ h))), refl);
    }

module _ {K M : Type 0} (below : K → K → Bool) (order : Total below) (table : M → Table) (strict : Bool) (acts : Order → M → M → Type 0) (formed : M → Bool) (able : Able table strict acts formed) where
  next_there : (s : State K M) → 1 ≤ length s.cells → formed s.marks ≡ true → (c : Call K) → (e : Event K) × (s' : State K M) × Next below table strict acts s e s' × (e.call ≡ c) × (formed s'.marks ≡ true)
  next_there s some good c = (
    e,
    s',
    record {
      lent = lent;
      left = left;
      lent_anchor = refl;
      lent_marks = refl;
      anchor = refl;
      marks = refl;
      cells = cs.allowed (looks_at_cells e.answer) left.cells;
      rows = rs.allowed (looks_at_rows e.answer) left.rows;
      cells_number = cs.long;
      rows_number = rs.long;
      did = record { answer = refl; cells = refl; anchor = refl; rows = refl; marks = on.1 };
      told = refl;
    },
    refl,
    on.2,
  )
    where
      cs : Slice s.cells c.cells
      cs = slice s.cells (nth_there s.cells 0 some).0 c.cells

      rs : Slice s.rows c.rows
      rs = slice s.rows away c.rows

      lent : State K M
      lent = record { cells = cs.lent; rows = rs.lent; anchor = s.anchor; marks = s.marks }

      f : Effect K
      f = effect below table lent c

      on : (m : M) × Along (Obeys table strict acts) f.orders s.marks m × (formed m ≡ true)
      on = along_there table strict acts formed able f.orders (effect_proper below table lent c) s.marks good

      left : State K M
      left = record { cells = f.memory.cells; rows = rows_after lent.rows c.seat f.row; anchor = anchor_after s.anchor f.memory; marks = on.0 }

      s' : State K M
      s' = record { cells = cs.after left.cells; rows = rs.after left.rows; anchor = left.anchor; marks = left.marks }

      e : Event K
      e = record { call = c; answer = f.answer; told = f.told }

  -- the releases of seats that there are
  releases_proper : (t n : ℕ) → t + n ≤ 16 → AllProper (releases_from t n)
  releases_proper t zero h = tt
  releases_proper t (suc n) h = (omega arith, releases_proper (suc t) n (omega arith))

  pub runs : Runs below table strict acts formed 1008 64
  runs = record {
    makes = λ n w some few some_w narrow given number m good.
        let on = along_there table strict acts formed able releases (releases_proper 0 16 (omega arith)) m good in (
          record { cells = chained 0 given; rows = replicate 16 away; anchor = record { count = n; window = w; head = None; free = onward 0 given }; marks = on.0 },
          record {
            sized = record { some_cells = some; few_cells = few; some_window = some_w; narrow = narrow };
            given = given;
            number = number;
            cells = refl;
            rows = refl;
            anchor = refl;
            marks = λ u h. none below order table strict acts 0 16 m on.0 on.1 u h (omega arith) (omega arith);
          },
          refl,
          on.1,
          on.2,
        );
    goes_on = λ n w es s r good c.
        let v = inv_of below order table strict acts n w es s r in
        next_there s (omega (arith, v.cells, v.sized.some_cells)) good c;
  }

-- the plain scheme can carry out every order

is_on : Option ℕ → ℕ → Bool
is_on None p = false
is_on (Some q) p = eqb q p

on_same : (o : Option ℕ) (p : ℕ) → o ≡ Some p → is_on o p ≡ true
unfolding is_on
on_same o p h = ap (λ z. is_on z p) h ∙ eq-eqb p p refl

on_other : (o : Option ℕ) (p : ℕ) → o ≢ Some p → is_on o p ≡ false
unfolding is_on
on_other None p h = refl
on_other (Some q) p h = ne_eqb q p (λ e. h (ap Some e))

put : Table → ℕ → Option ℕ → Table
put m t o u = cond (eqb u t) o (m u)

put_own : (m : Table) (t : ℕ) (o : Option ℕ) → put m t o t ≡ o
unfolding put
put_own m t o = cond-true (eqb t t) o (m t) (eq-eqb t t refl)

put_other : (m : Table) (t : ℕ) (o : Option ℕ) (u : ℕ) → u ≢ t → put m t o u ≡ m u
unfolding put
put_other m t o u h = cond-false (eqb u t) o (m u) (ne_eqb u t h)

tables_obey : (strict : Bool) (o : Order) (m : Table) → (b : Table) × Means strict o m b
tables_obey strict (release t) m = (put m t None, record { own = put_own m t None; others = λ u _ h. put_other m t None u h })
tables_obey strict (reserve t p) m = (put m t (Some p), record { own = put_own m t (Some p); others = λ u _ h. inl (put_other m t (Some p) u h) })
tables_obey strict (revoke p) m = (
  (λ u. cond (is_on (m u) p) None (m u)),
  record {
    struck = λ u _ h. cond-true (is_on (m u) p) None (m u) (on_same (m u) p h);
    others = λ u _ h. inl (cond-false (is_on (m u) p) None (m u) (on_other (m u) p h));
  },
)

pub tables_able : (strict : Bool) → Able (λ (m : Table). m) strict unconstrained (λ _. true)
tables_able strict = record {
  one = λ _. None;
  one_formed = refl;
  obeys = λ o _ m _. let r = tables_obey strict o m in (r.0, (tt, r.1), refl);
}

pub runs_are_there : {K M : Type 0} (below : K → K → Bool) → Total below → (table : M → Table) (strict : Bool) (acts : Order → M → M → Type 0) → RunsAreThere below table strict acts 1008 64
runs_are_there below order table strict acts = record {
  over_scheme = runs below order table strict acts;
  over_tables = λ keeps. runs below order (λ m. m) keeps unconstrained (λ _. true) (tables_able keeps);
}
