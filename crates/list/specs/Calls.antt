-- A call of a request, as the definitions of one call have it. Assumes nothing.
use Rattle.std.specs.Prelude.{◌≡◌, ℕ, Bool, true, false, List, length}
use Rattle.basis.specs.declared.answer.Answer.{Answer}
use Rattle.basis.specs.Answers.{answer}
use Rattle.marks.specs.Meaning.{Table, Order}
use Rattle.ledger.specs.Ledger.{What, join, leave, begin, step, abandon, Call}
use Rattle.list_law.specs.Call.{Did, effect}
use Rattle.list_law.specs.Continued.{Continues}
use Rattle.list_window.specs.declared.index.Index.{Index}
use Rattle.list_window.specs.Lent.{lent_state, SameLent}

-- the call with its arguments: the seat as a plain number, the mask level at entry, and how many cells and rows were lent
abbrev pub call_of : {K C R : Type 0} → What K → ℕ → ℕ → List C → List R → Call K
call_of what seat level cells rows = record { what = what; seat = seat; level = level; cells = length cells; rows = length rows }

-- the same, on the cells and rows that an index is lent
abbrev pub call_on : {K M : Type 0} → Index K M → What K → ℕ → ℕ → Call K
call_on i what seat level = call_of what seat level i.cells.now i.rows.now

-- this request, by that seat at that mask level, led from index i to index j with this answer: it is what the definitions of one call say,
-- the answer's case is told by its definition (number, word and values), the run goes on with it and is lawful, and j is over the same memory
pub record CalledOn {K M : Type 0} (below : K → K → Bool) (table : M → Table) (strict : Bool) (acts : Order → M → M → Type 0)
    (i : Index K M) (what : What K) (seat level : ℕ) (a : Answer) (j : Index K M) : Type 0 where
  pub did : Did below table strict acts (lent_state i) (call_on i what seat level) a (lent_state j)
  pub case : answer a ≡ answer (effect below table (lent_state i) (call_on i what seat level)).answer
  pub runs : Continues below table strict acts (lent_state i) (call_on i what seat level) a (lent_state j)
  pub same : SameLent i j

-- whether a step is asked: the only call that is answered anything but ok or a refusal
abbrev pub is_step : {K : Type 0} → What K → Bool
is_step join = false
is_step leave = false
is_step (begin k x) = false
is_step step = true
is_step abandon = false
