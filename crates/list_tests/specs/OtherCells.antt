-- A run of an index goes on by a call that was lent other cells than the index's own. Assumes nothing.
use Rattle.std.specs.Prelude.{ℕ, Bool, List, ◌∷◌}
use Rattle.basis.specs.declared.answer.Answer.{Answer}
use Rattle.marks.specs.Meaning.{Table, Order}
use Rattle.ledger.specs.Ledger.{Call}
use Rattle.ledger.specs.Law.{Event, Run}
use Rattle.list_law.specs.Call.{Cell, State}
use Rattle.list_law.specs.Law.{list_index}
use Rattle.list_law.specs.Continued.{happened}

-- the same rows, anchor and scheme, with these cells
abbrev pub over_cells : {K M : Type 0} → List (Cell K) → State K M → State K M
over_cells cs s = record { cells = cs; rows = s.rows; anchor = s.anchor; marks = s.marks }

-- whatever run led to an index that has cells of its own, and else what was lent, the run goes on by this call, and the index keeps
-- its own cells
abbrev pub GoesOnBeside : {K M : Type 0} → (K → K → Bool) → (M → Table) → Bool → (Order → M → M → Type 0) → State K M → Call K → Answer → State K M → Type 0
GoesOnBeside {K} {M} below table strict acts lent c a left =
    (n w : ℕ) (es : List (Event K)) (own : List (Cell K)) →
    Run (list_index below table strict acts) n w es (over_cells own lent) →
    Run (list_index below table strict acts) n w (happened below table lent c a ∷ es) (over_cells own left)
