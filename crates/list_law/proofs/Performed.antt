-- Calls made one after another are a run, where the scheme's acts are a function. Assumes nothing.
use Rattle.std.proofs.Common.{◌≡◌, ℕ, Bool, List, [], ◌∷◌, ◌++◌, length, sym, refl, subst, inl, append_assoc}
use Rattle.basis.specs.declared.answer.Answer.{Answer}
use Rattle.marks.specs.Meaning.{Table, Order, Along}
use Rattle.marks.specs.Carried.{carried}
use Rattle.ledger.specs.Ledger.{Call}
use Rattle.ledger.specs.Law.{Event, Run, more}
use Rattle.list_law.specs.Call.{State, effect, Obeys, Did}
use Rattle.list_law.specs.Runs.{Next}
use Rattle.list_law.specs.Law.{list_index}
use Rattle.list_law.specs.Performed.{Ask, called, event, next, after, events}
use Rattle.list_law.proofs.Proper.{AllProper, effect_proper}

-- a call on the index's own cells and rows leads on
pub own_next : {K M : Type 0} (below : K → K → Bool) (table : M → Table) (strict : Bool) (acts : Order → M → M → Type 0) (s : State K M) (c : Call K) (a : Answer) (s' : State K M)
    → c.cells ≡ length s.cells → c.rows ≡ length s.rows → Did below table strict acts s c a s'
    → Next below table strict acts s (record { call = c; answer = a; told = (effect below table s c).told }) s'
own_next below table strict acts s c a s' cells rows did = record {
  lent = s;
  left = s';
  lent_anchor = refl;
  lent_marks = refl;
  anchor = refl;
  marks = refl;
  cells = (inl refl, refl);
  rows = (inl refl, refl);
  cells_number = cells;
  rows_number = rows;
  did = did;
  told = refl;
}

-- `Good` is what the scheme's values keep, and what they need to obey
module _ {K M : Type 0} (below : K → K → Bool) (table : M → Table) (strict : Bool) (act : Order → M → M) (Good : M → Type 0)
    (obeyed : (os : List Order) → AllProper os → (m : M) → Good m → Along (Obeys table strict (λ o a b. b ≡ act o a)) os m (carried act os m) × Good (carried act os m)) where
  pub next_is : (s : State K M) (k : Ask K) → Good s.marks → Next below table strict (λ o a b. b ≡ act o a) s (event below table act s k) (next below table act s k) × Good (next below table act s k).marks
  unfolding event next
  next_is s k good =
      let r = obeyed (effect below table s (called s k)).orders (effect_proper below table s (called s k)) s.marks good in (
        own_next below table strict (λ o a b. b ≡ act o a) s (called s k) (effect below table s (called s k)).answer (next below table act s k) refl refl
            (record { answer = refl; cells = refl; anchor = refl; rows = refl; marks = r.0 }),
        r.1,
      )

  pub run_on : (n w : ℕ) (ks : List (Ask K)) (s : State K M) (es : List (Event K)) → Good s.marks → Run (list_index below table strict (λ o a b. b ≡ act o a)) n w es s
      → Run (list_index below table strict (λ o a b. b ≡ act o a)) n w (events below table act s ks ++ es) (after below table act s ks)
  unfolding events after
  run_on n w [] s es good r = r
  run_on n w (k ∷ ks) s es good r =
      let d = next_is s k good in
      subst (λ l. Run (list_index below table strict (λ o a b. b ≡ act o a)) n w l (after below table act (next below table act s k) ks))
      (sym (append_assoc (events below table act (next below table act s k) ks) (event below table act s k ∷ []) es))
      (run_on n w ks (next below table act s k) (event below table act s k ∷ es) d.1 (more r d.0))
