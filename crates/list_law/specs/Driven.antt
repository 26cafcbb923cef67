-- A list of calls made one after another on an index: the events of the run, whose answers they are, and the law of them. Assumes nothing.
use Rattle.std.specs.Prelude.{◌≡◌, ℕ, Bool, List, [], ◌∷◌, ◌++◌, map}
use Rattle.basis.specs.declared.answer.Answer.{Answer}
use Rattle.marks.specs.Meaning.{Table, Order}
use Rattle.ledger.specs.Ledger.{Call}
use Rattle.ledger.specs.Law.{Event, Run, Lawful, start_of}
use Rattle.list_law.specs.Call.{State, Did}
use Rattle.list_law.specs.Law.{list_index, limit}
use Rattle.list_law.specs.Performed.{Ask, called}

-- the call of what a seat asks of an index of n cells
abbrev pub call_asked : {K : Type 0} → ℕ → Ask K → Call K
call_asked n k = record { what = k.what; seat = k.seat; level = k.level; cells = n; rows = 16 }

-- the calls and the answers of events, in their order (the events have the newest first)
abbrev pub calls_in : {K : Type 0} → List (Event K) → List (Call K)
calls_in [] = []
calls_in (e ∷ es) = calls_in es ++ e.call ∷ []

abbrev pub answers_in : {K : Type 0} → List (Event K) → List Answer
answers_in [] = []
answers_in (e ∷ es) = answers_in es ++ e.answer ∷ []

-- these calls, made in turn on the index's own cells and rows, lead from s to s' with these answers, each as one call is defined
abbrev pub InTurn : {K M : Type 0} → (K → K → Bool) → (M → Table) → Bool → (Order → M → M → Type 0) → State K M → List (Ask K) → List Answer → State K M → Type 0
InTurn below table strict acts s [] [] s' = s' ≡ s
InTurn below table strict acts s [] (a ∷ bs) s' = ⊥
InTurn below table strict acts s (k ∷ ks) [] s' = ⊥
InTurn {K} {M} below table strict acts s (k ∷ ks) (a ∷ bs) s' =
    (s₁ : State K M) × Did below table strict acts s (called s k) a s₁ × InTurn below table strict acts s₁ ks bs s'

-- after an accepted making, which left `start`, these calls were made, with these answers, and led to s: each as it is defined, and all of
-- them a run, which began with `start` and is lawful
pub record Driven {K M : Type 0} (below : K → K → Bool) (table : M → Table) (strict : Bool) (acts : Order → M → M → Type 0)
    (n w : ℕ) (start : State K M) (asks : List (Ask K)) (answers : List Answer) (s : State K M) : Type 0 where
  pub in_turn : InTurn below table strict acts start asks answers s
  pub events : List (Event K)
  pub calls : calls_in events ≡ map (call_asked n) asks
  pub answered : answers_in events ≡ answers
  pub run : Run (list_index below table strict acts) n w events s
  pub begun : start_of run ≡ start
  pub lawful : Lawful below (list_index below table strict acts) n w (limit n w) events s run
