-- One call more of a driven index. Assumes nothing.
use Rattle.std.proofs.Common.{◌≡◌, ℕ, Bool, List, [], ◌∷◌, ◌++◌, sym, refl, ap, ◌∙◌, subst, inl}
use Rattle.std.proofs.lemmas.List.{map_push}
use Rattle.basis.specs.declared.answer.Answer.{Answer}
use Rattle.marks.specs.Meaning.{Table, Order}
use Rattle.ledger.specs.Ledger.{Call}
use Rattle.ledger.specs.Law.{Index, Run, made, more, start_of}
use Rattle.list_law.specs.Call.{State, Did}
use Rattle.list_law.specs.Performed.{Ask, called}
use Rattle.list_law.specs.Continued.{happened, Begins, Continues}
use Rattle.list_law.specs.Driven.{call_asked, InTurn, Driven}

module _ {K M : Type 0} (below : K → K → Bool) (table : M → Table) (strict : Bool) (acts : Order → M → M → Type 0) where
  -- one call more, after those made
  in_turn_more : (s : State K M) (ks : List (Ask K)) (bs : List Answer) (s₁ : State K M) (k : Ask K) (a : Answer) (s₂ : State K M) → InTurn below table strict acts s ks bs s₁ → Did below table strict acts s₁ (called s₁ k) a s₂ → InTurn below table strict acts s (ks ++ k ∷ []) (bs ++ a ∷ []) s₂
  in_turn_more s [] [] s₁ k a s₂ e did = (s₂, subst (λ (x : State K M). Did below table strict acts x (called x k) a s₂) e did, refl)
  in_turn_more s [] (b ∷ bs) s₁ k a s₂ e did = absurd e
  in_turn_more s (j ∷ ks) [] s₁ k a s₂ e did = absurd e
  in_turn_more s (j ∷ ks) (b ∷ bs) s₁ k a s₂ (s₃, first, rest) did = (s₃, first, in_turn_more s₃ ks bs s₁ k a s₂ rest did)

-- a run of no call began with the state that it leads to
begun_none : {K : Type 0} {x : Index K} {n w : ℕ} {s : x.State} (r : Run x n w [] s) → start_of r ≡ s
begun_none (made m) = refl

module _ {K M : Type 0} (below : K → K → Bool) (table : M → Table) (strict : Bool) (acts : Order → M → M → Type 0) (n w : ℕ) where
  pub driven_none : (s : State K M) → Begins below table strict acts n w s → Driven below table strict acts n w s [] [] s
  driven_none s b = record { in_turn = refl; events = []; calls = refl; answered = refl; run = b.0; begun = begun_none b.0; lawful = b.1 }

  -- one call more; it is the call of what a seat asks, on the index's own cells and rows
  pub driven_more : (start : State K M) (asks : List (Ask K)) (answers : List Answer) (s : State K M) (k : Ask K) (c : Call K) (a : Answer) (s' : State K M) → c ≡ call_asked n k → c ≡ called s k
      → Driven below table strict acts n w start asks answers s → Did below table strict acts s c a s' → Continues below table strict acts s c a s'
      → Driven below table strict acts n w start (asks ++ k ∷ []) (answers ++ a ∷ []) s'
  driven_more start asks answers s k c a s' is own d did goes =
      let one = goes n w d.events s d.run refl refl (inl refl) (inl refl) s' refl refl refl refl in
      record {
        in_turn = in_turn_more below table strict acts start asks answers s k a s' d.in_turn (subst (λ (x : Call K). Did below table strict acts s x a s') own did);
        events = happened below table s c a ∷ d.events;
        calls = (λ i. d.calls i ++ is i ∷ []) ∙ sym (map_push (call_asked n) asks k);
        answered = ap (λ l. l ++ a ∷ []) d.answered;
        run = more d.run one.0;
        begun = d.begun;
        lawful = one.1;
      }

  -- the same calls and the same answers
  pub driven_as : {start : State K M} {asks asks' : List (Ask K)} {answers answers' : List Answer} {s : State K M} → asks ≡ asks' → answers ≡ answers' → Driven below table strict acts n w start asks answers s → Driven below table strict acts n w start asks' answers' s
  driven_as {start = start} {s = s} e f d = subst (λ (x : List (Ask K) × List Answer). Driven below table strict acts n w start x.0 x.1 s) (λ i. (e i, f i)) d

-- the same numbers of cells and of the window
pub driven_at : {K M : Type 0} {below : K → K → Bool} {table : M → Table} {strict : Bool} {acts : Order → M → M → Type 0} {n n' w w' : ℕ} {start : State K M} {asks : List (Ask K)} {answers : List Answer} {s : State K M} → n ≡ n' → w ≡ w' → Driven below table strict acts n w start asks answers s → Driven below table strict acts n' w' start asks answers s
driven_at {below = below} {table = table} {strict = strict} {acts = acts} {start = start} {asks = asks} {answers = answers} {s = s} e f d = subst (λ (x : ℕ × ℕ). Driven below table strict acts x.0 x.1 start asks answers s) (λ i. (e i, f i)) d
