-- What a making and a call promise of the runs that led to them: the run goes on, and is lawful. Assumes nothing.
use Rattle.std.specs.Prelude.{◌≡◌, ℕ, Bool, List, [], ◌∷◌}
use Rattle.basis.specs.declared.answer.Answer.{Answer}
use Rattle.marks.specs.Meaning.{Table, Order}
use Rattle.ledger.specs.Ledger.{Call}
use Rattle.ledger.specs.Lending.{looks_at_cells, looks_at_rows, Lendable, own_after}
use Rattle.ledger.specs.Law.{Event, Run, more, Answers, Lawful, fed}
use Rattle.list_law.specs.Call.{State, effect}
use Rattle.list_law.specs.Runs.{Next}
use Rattle.list_law.specs.Law.{list_index, limit}

-- the event of a call on what it was lent
abbrev pub happened : {K M : Type 0} → (K → K → Bool) → (M → Table) → State K M → Call K → Answer → Event K
happened below table lent c a = record { call = c; answer = a; told = (effect below table lent c).told }

-- a making that leaves s begins a run, which is lawful
abbrev pub Begins : {K M : Type 0} → (K → K → Bool) → (M → Table) → Bool → (Order → M → M → Type 0) → ℕ → ℕ → State K M → Type 0
Begins below table strict acts n w s =
    (r : Run (list_index below table strict acts) n w [] s) × Lawful below (list_index below table strict acts) n w (limit n w) [] s r

-- a call on what it was lent, with this answer and what it left: whatever run led to an index with this anchor and this scheme, at which
-- a call with this answer may be lent these cells and these rows, this event is one call more of that run, and leads to what the index
-- then is; the run with it is lawful, and what the law says of an event holds of this one
abbrev pub Continues : {K M : Type 0} → (K → K → Bool) → (M → Table) → Bool → (Order → M → M → Type 0) → State K M → Call K → Answer → State K M → Type 0
Continues {K} {M} below table strict acts lent c a left =
    (n w : ℕ) (es : List (Event K)) (s : State K M) (before : Run (list_index below table strict acts) n w es s) →
    lent.anchor ≡ s.anchor → lent.marks ≡ s.marks →
    (cells : Lendable (looks_at_cells a) s.cells lent.cells) (rows : Lendable (looks_at_rows a) s.rows lent.rows) →
    (s' : State K M) → s'.cells ≡ own_after (looks_at_cells a) s.cells lent.cells cells left.cells →
    s'.rows ≡ own_after (looks_at_rows a) s.rows lent.rows rows left.rows →
    s'.anchor ≡ left.anchor → s'.marks ≡ left.marks →
    (next : Next below table strict acts s (happened below table lent c a) s')
    × Lawful below (list_index below table strict acts) n w (limit n w) (happened below table lent c a ∷ es) s' (more before next)
    × Answers below (list_index below table strict acts) (fed below n es) s (happened below table lent c a) s'
