-- A making: every cell is free, chained in order of places, and the invariant holds of the empty ledger. Assumes nothing.
use Rattle.std.proofs.Common.{◌≡◌, ℕ, zero, suc, ◌+◌, ◌<◌, ◌≤◌, Bool, false, ◌⊎◌, List, [], ◌∷◌, ◌++◌, length, replicate, Some, None, sym, refl, ap, ◌∙◌, subst, inl, inr, append_assoc, arith, length-append}
use Rattle.std.proofs.lemmas.Bool.{cases_eq}
use Rattle.std.specs.List.{slice_get}
use Rattle.marks.specs.Meaning.{Table}
use Rattle.ledger.specs.Ledger.{empty}
use Rattle.list_law.specs.Call.{Cell, cell, away, State, memory_of, memory, row_at}
use Rattle.list_law.specs.Runs.{onward, chained, Made}
use Rattle.ledger.specs.Keys.{none}
use Rattle.list_law.specs.Law.{Entry, entry, Leads, times}
use Rattle.list_law.proofs.Lists.{nth_at}
use Rattle.list_law.proofs.Chain.{times_here, times_there}
use Rattle.list_law.proofs.Shape.{Shape}
use Rattle.list_law.proofs.Invariant.{Inv}

-- the given cells as entries, from place p on
abbrev pub entries : {K : Type 0} → ℕ → List (Cell K) → List (Entry K)
entries p [] = []
entries p (c ∷ cs) = entry p c.key ∷ entries (suc p) cs

module _ {K : Type 0} where
  pub length_entries : (p : ℕ) (cs : List (Cell K)) → length (entries p cs) ≡ length cs
  length_entries p [] = refl
  length_entries p (c ∷ cs) = ap suc (length_entries (suc p) cs)

  pub length_chained : (p : ℕ) (cs : List (Cell K)) → length (chained p cs) ≡ length cs
  length_chained p [] = refl
  length_chained p (c ∷ cs) = ap suc (length_chained (suc p) cs)

  -- the chain from place p on, behind the cells before it
  chained_leads : (front : List (Cell K)) (p : ℕ) (cs : List (Cell K)) → length front ≡ p → Leads (front ++ chained p cs) false (onward p cs) (entries p cs) None
  chained_leads front p [] h = refl
  chained_leads front p (c ∷ cs) h =
      let here : Cell K = cell c.key (onward (suc p) cs) false in (
        onward (suc p) cs,
        refl,
        subst (λ i. slice_get (front ++ here ∷ chained (suc p) cs) i ≡ Some here) h (nth_at front here (chained (suc p) cs)),
        subst (λ l. Leads l false (onward (suc p) cs) (entries (suc p) cs) None) (append_assoc front (here ∷ []) (chained (suc p) cs))
            (chained_leads (front ++ here ∷ []) (suc p) cs (omega (arith, length-append front (here ∷ []), h))),
      )

  times_before : (r p : ℕ) (cs : List (Cell K)) → r < p → times r (entries p cs) ≡ 0
  times_before r p [] h = refl
  times_before r p (c ∷ cs) h = times_there r (entry p c.key) (entries (suc p) cs) (λ e. omega (arith, e)) ∙ times_before r (suc p) cs (omega arith)

  times_within : (r p : ℕ) (cs : List (Cell K)) → p ≤ r → r < p + length cs → times r (entries p cs) ≡ 1
  times_within r p [] lo hi = absurd (omega arith)
  times_within r p (c ∷ cs) lo hi = go (λ lo'. times_within r (suc p) cs lo' (omega arith)) (cases_eq p r)
    where
      go : (suc p ≤ r → times r (entries (suc p) cs) ≡ 1) → (p ≡ r) ⊎ (p ≡ r → ⊥) → times r (entry p c.key ∷ entries (suc p) cs) ≡ 1
      go later (inl e) = subst (λ z. times z (entry p c.key ∷ entries (suc p) cs) ≡ 1) e (times_here p c.key (entries (suc p) cs) ∙ ap suc (times_before p (suc p) cs (omega arith)))
      go later (inr d) = times_there r (entry p c.key) (entries (suc p) cs) d ∙ later (omega arith)

  times_most : (r p : ℕ) (cs : List (Cell K)) → times r (entries p cs) ≤ 1
  times_most r p [] = omega arith
  times_most r p (c ∷ cs) = go (times_most r (suc p) cs) (cases_eq p r)
    where
      go : times r (entries (suc p) cs) ≤ 1 → (p ≡ r) ⊎ (p ≡ r → ⊥) → times r (entry p c.key ∷ entries (suc p) cs) ≤ 1
      go later (inl e) = subst (λ z. times z (entry p c.key ∷ entries (suc p) cs) ≤ 1) e (omega (arith, times_here p c.key (entries (suc p) cs), times_before p (suc p) cs (omega arith)))
      go later (inr d) = omega (arith, times_there r (entry p c.key) (entries (suc p) cs) d)

  all_away : (m u : ℕ) → row_at {K = K} (replicate m away) u ≡ away
  all_away zero u = refl
  all_away (suc m) zero = refl
  all_away (suc m) (suc u) = all_away m u

pub inv_made : {K M : Type 0} (below : K → K → Bool) (table : M → Table) (n w : ℕ) (s : State K M) → Made table n w s → Inv below table n w (empty n) s
inv_made {K} {M} below table n w s d = record {
  sized = d.sized;
  number = refl;
  cells = ap length d.cells ∙ length_chained 0 d.given ∙ d.number;
  count = ap (λ an. an.count) d.anchor;
  window = ap (λ an. an.window) d.anchor;
  rows = ap length d.rows;
  listed = [];
  frees = entries 0 d.given;
  shape = subst (λ m. Shape below m n [] (entries 0 d.given)) (sym memory_is) (record {
    from_head = refl;
    from_free = chained_leads [] 0 d.given refl;
    most = λ r. omega (arith, times_most r 0 d.given);
    once = λ r h. omega (arith, times_within r 0 d.given (omega arith) (omega (arith, h, d.number)));
    total = omega (arith, length_entries 0 d.given, d.number);
    rises = tt;
  });
  members = none;
  alike = λ u l. ap (λ rs. row_at rs u) d.rows ∙ all_away 16 u;
  placed = λ u l. d.marks u l;
}
  where
    memory_is : memory_of s ≡ memory (chained 0 d.given) None (onward 0 d.given)
    memory_is = λ i. memory (d.cells i) (d.anchor i).head (d.anchor i).free
