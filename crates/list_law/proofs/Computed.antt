-- Over a scheme whose acts are a function of its state, the answers of calls made in turn are computed from that state. Assumes nothing.
use Rattle.std.proofs.Common.{◌≡◌, ℕ, Bool, List, [], ◌∷◌, Some, None, Option, refl, ap, ◌∙◌}
use Rattle.basis.specs.declared.refusal.Refusal.{Refusal}
use Rattle.basis.specs.declared.answer.Answer.{Answer}
use Rattle.marks.specs.Meaning.{Table, Order, Along}
use Rattle.marks.specs.Carried.{carried}
use Rattle.marks.proofs.Computed.{along_computes}
use Rattle.ledger.specs.Tests.{first}
use Rattle.ledger.specs.Ledger.{Call}
use Rattle.list_law.specs.Call.{Cell, State, Effect, early_refusals, call_effect, effect, anchor_after, rows_after, Obeys, Did}
use Rattle.list_law.specs.Making.{releases, made_of}
use Rattle.list_law.specs.Performed.{Ask, called, event, next, answers, answers_from}
use Rattle.list_law.specs.Driven.{InTurn}

-- `state` is what a scheme's value M is to its definitions: the table and the acts are functions of it
module _ {K M N : Type 0} (below : K → K → Bool) (state : M → N) (get : N → Table) (strict : Bool) (act : Order → N → N) where
  -- the scheme's table and acts, by its state
  abbrev table_of : M → Table
  table_of m = get (state m)

  abbrev acts_of : Order → M → M → Type 0
  acts_of o a b = state b ≡ act o (state a)

  -- an index, with the scheme's state in place of the scheme
  abbrev seen : State K M → State K N
  seen s = record { cells = s.cells; rows = s.rows; anchor = s.anchor; marks = state s.marks }

  -- what a call does depends on the scheme's state alone
  same_effect : (s : State K M) (c : Call K) → effect below table_of s c ≡ effect below get (seen s) c
  unfolding effect
  same_effect s c = go (first (early_refusals s c))
    where
      go : (r : Option Refusal) → call_effect below table_of s c r ≡ call_effect below get (seen s) c r
      go None = refl
      go (Some r) = refl

  -- the acts alone
  acted : (os : List Order) (a b : M) → Along (Obeys table_of strict acts_of) os a b → Along acts_of os a b
  acted [] a b e = e
  acted (o ∷ os) a b (m, now, rest) = (m, now.0, acted os m b rest)

  -- a call leads to the state that is computed
  next_is : (s : State K M) (k : Ask K) (a : Answer) (s' : State K M) → Did below table_of strict acts_of s (called s k) a s' → seen s' ≡ next below get act (seen s) k
  unfolding next
  next_is s k a s' did = λ i. record {
    cells = (did.cells ∙ ap (λ (f : Effect K). f.memory.cells) same) i;
    rows = (did.rows ∙ ap (λ (f : Effect K). rows_after s.rows k.seat f.row) same) i;
    anchor = (did.anchor ∙ ap (λ (f : Effect K). anchor_after s.anchor f.memory) same) i;
    marks = (along_computes state act _ s.marks s'.marks (acted _ s.marks s'.marks did.marks) ∙ ap (λ (f : Effect K). carried act f.orders (state s.marks)) same) i;
  }
    where
      same : effect below table_of s (called s k) ≡ effect below get (seen s) (called s k)
      same = same_effect s (called s k)

  answer_is : (s : State K M) (k : Ask K) (a : Answer) (s' : State K M) → Did below table_of strict acts_of s (called s k) a s' → a ≡ (event below get act (seen s) k).answer
  unfolding event
  answer_is s k a s' did = did.answer ∙ ap (λ (f : Effect K). f.answer) (same_effect s (called s k))

  pub answers_are : (s : State K M) (ks : List (Ask K)) (bs : List Answer) (s' : State K M) → InTurn below table_of strict acts_of s ks bs s' → bs ≡ answers below get act (seen s) ks
  unfolding answers
  answers_are s [] [] s' e = refl
  answers_are s [] (a ∷ bs) s' e = absurd e
  answers_are s (k ∷ ks) [] s' e = absurd e
  answers_are s (k ∷ ks) (a ∷ bs) s' (s₁, did, rest) =
      λ i. answer_is s k a s₁ did i ∷ (answers_are s₁ ks bs s' rest ∙ ap (λ (x : State K N). answers below get act x ks) (next_is s k a s₁ did)) i

  -- after a making of given cells
  pub answers_computed : (given : List (Cell K)) (w : ℕ) (m : M) (s : State K M) (ks : List (Ask K)) (bs : List Answer) (s' : State K M) → s ≡ made_of given w s.marks → Along (Obeys table_of strict acts_of) releases m s.marks
      → InTurn below table_of strict acts_of s ks bs s' → bs ≡ answers_from below get act given w (state m) ks
  unfolding answers_from
  answers_computed given w m s ks bs s' made along calls =
      answers_are s ks bs s' calls
      ∙ ap (λ (x : State K N). answers below get act x ks) (ap seen made ∙ ap (made_of given w) (along_computes state act releases m s.marks (acted releases m s.marks along)))
