-- A list of calls made one after another on an index over a scheme whose acts are a function: the events and the state. Assumes nothing.
use Rattle.std.specs.Prelude.{ℕ, Bool, List, [], ◌∷◌, ◌++◌, length}
use Rattle.basis.specs.declared.answer.Answer.{Answer}
use Rattle.marks.specs.Meaning.{Table, Order}
use Rattle.marks.specs.Carried.{carried}
use Rattle.ledger.specs.Ledger.{Call, What}
use Rattle.ledger.specs.Law.{Event}
use Rattle.list_law.specs.Call.{Cell, State, effect, anchor_after, rows_after}
use Rattle.list_law.specs.Making.{releases, made_of}

-- what a seat asks, at which mask level
pub record Ask (K : Type 0) : Type 0 where
  pub seat : ℕ
  pub level : ℕ
  pub what : What K

-- the call, on the index's own cells and rows
abbrev pub called : {K M : Type 0} → State K M → Ask K → Call K
called s k = record { what = k.what; seat = k.seat; level = k.level; cells = length s.cells; rows = length s.rows }

module _ {K M : Type 0} (below : K → K → Bool) (table : M → Table) (act : Order → M → M) where
  -- the event, and the state after it
  unfoldable pub event : State K M → Ask K → Event K
  event s k = let f = effect below table s (called s k) in record { call = called s k; answer = f.answer; told = f.told }

  unfoldable pub next : State K M → Ask K → State K M
  next s k =
      let f = effect below table s (called s k) in
      record { cells = f.memory.cells; rows = rows_after s.rows k.seat f.row; anchor = anchor_after s.anchor f.memory; marks = carried act f.orders s.marks }

  -- the same for a list of calls: the state, the events (newest first), and the answers (in order)
  unfoldable pub after : State K M → List (Ask K) → State K M
  after s [] = s
  after s (k ∷ ks) = after (next s k) ks

  unfoldable pub events : State K M → List (Ask K) → List (Event K)
  events s [] = []
  events s (k ∷ ks) = events (next s k) ks ++ event s k ∷ []

  unfoldable pub answers : State K M → List (Ask K) → List Answer
  answers s [] = []
  answers s (k ∷ ks) = (event s k).answer ∷ answers (next s k) ks

  -- the answers of calls on an index that is made over given cells with window w, the scheme being in state m before
  unfoldable pub answers_from : List (Cell K) → ℕ → M → List (Ask K) → List Answer
  answers_from given w m ks = answers (made_of given w (carried act releases m)) ks
