-- How the calls of a singly linked index follow one another: making, and the next event. Assumes nothing.
use Rattle.std.specs.Prelude.{◌≡◌, ℕ, suc, ◌<◌, ◌≤◌, Bool, false, List, [], ◌∷◌, length, replicate, Some, None}
use Rattle.marks.specs.Meaning.{Table, Order}
use Rattle.ledger.specs.Lending.{looks_at_cells, looks_at_rows, Lent}
use Rattle.ledger.specs.Law.{Event}
use Rattle.list_law.specs.Call.{Link, Cell, cell, away, State, Did, effect}

-- the link to place p, if it is one of those left
abbrev pub onward : {X : Type 0} → ℕ → List X → Link
onward p [] = None
onward p (x ∷ xs) = Some p

-- cells from place p on, all free, each linked to the next, with the keys that they had
abbrev pub chained : {K : Type 0} → ℕ → List (Cell K) → List (Cell K)
chained p [] = []
chained p (c ∷ cs) = cell c.key (onward (suc p) cs) false ∷ chained (suc p) cs

-- the sizes that an accepted making takes
pub record Sized (n w : ℕ) : Type 0 where
  pub some_cells : 1 ≤ n
  pub few_cells : n ≤ 1008
  pub some_window : 1 ≤ w
  pub narrow : w ≤ 64

-- an accepted making over some n given cells with window w: all cells free and chained, nothing listed, sixteen seats away,
-- and every mark none
pub record Made {K M : Type 0} (table : M → Table) (n w : ℕ) (s : State K M) : Type 0 where
  pub sized : Sized n w
  pub given : List (Cell K)
  pub number : length given ≡ n
  pub cells : s.cells ≡ chained 0 given
  pub rows : s.rows ≡ replicate 16 away
  pub anchor : s.anchor ≡ record { count = n; window = w; head = None; free = onward 0 given }
  pub marks : (u : ℕ) → u < 16 → table s.marks u ≡ None

-- the call of event e leads the index from s to s'. It works on the index's own anchor and scheme
pub record Next {K M : Type 0} (below : K → K → Bool) (table : M → Table) (strict : Bool) (acts : Order → M → M → Type 0)
    (s : State K M) (e : Event K) (s' : State K M) : Type 0 where
  -- what the call was lent, and what it left there
  pub lent : State K M
  pub left : State K M
  -- the anchor and the scheme are the index's own
  pub lent_anchor : lent.anchor ≡ s.anchor
  pub lent_marks : lent.marks ≡ s.marks
  pub anchor : s'.anchor ≡ left.anchor
  pub marks : s'.marks ≡ left.marks
  -- cells and rows may be others, by what the answer looks at
  pub cells : Lent (looks_at_cells e.answer) s.cells s'.cells lent.cells left.cells
  pub rows : Lent (looks_at_rows e.answer) s.rows s'.rows lent.rows left.rows
  -- the event has the numbers that were lent, this answer, and what the ledger is to be told
  pub cells_number : e.call.cells ≡ length lent.cells
  pub rows_number : e.call.rows ≡ length lent.rows
  pub did : Did below table strict acts lent e.call e.answer left
  pub told : e.told ≡ (effect below table lent e.call).told
