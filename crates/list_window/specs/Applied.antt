-- What a function that is lent cells, rows, anchor and scheme does to them: an effect, applied. Assumes nothing.
use Rattle.std.specs.Prelude.{◌≡◌, ℕ, Bool, List, map}
use Rattle.basis.specs.declared.answer.Answer.{Answer}
use Rattle.marks.specs.Meaning.{Table, Order, Along}
use Rattle.list_cells.specs.declared.cell.Cell as declared
use Rattle.list_cells.specs.declared.cell.Anchor as declared-anchor
use Rattle.list_window.specs.declared.row.Row as declared-row
use Rattle.list_cells.specs.Views.{cell_of, anchor_of}
use Rattle.list_window.specs.Rows.{row_of}
use Rattle.list_law.specs.Call.{State, Effect, anchor_after, rows_after, Obeys}

-- lent cells, rows, anchor and scheme, as the definitions of one call have them
abbrev pub state_of : {K M : Type 0} → List (declared.Cell K) → List (declared-row.Row K) → declared-anchor.Anchor → M → State K M
state_of cs rs a m = record { cells = map cell_of cs; rows = map row_of rs; anchor = anchor_of a; marks = m }

-- an effect of seat t, applied to the state s with this answer, leaves s'; the scheme goes through the effect's orders
pub record Applied {K M : Type 0} (table : M → Table) (strict : Bool) (acts : Order → M → M → Type 0) (t : ℕ) (f : Effect K) (s : State K M) (a : Answer) (s' : State K M) : Type 0 where
  pub answer : a ≡ f.answer
  pub cells : s'.cells ≡ f.memory.cells
  pub anchor : s'.anchor ≡ anchor_after s.anchor f.memory
  pub rows : s'.rows ≡ rows_after s.rows t f.row
  pub marks : Along (Obeys table strict acts) f.orders s.marks s'.marks
