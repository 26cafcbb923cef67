-- What an index is lent, as the definitions of one call have it. Assumes nothing.
use Rattle.std.specs.Prelude.{◌≡◌, ℕ, Bool, List, length}
use Rattle.std.specs.Borrow.{MutBor}
use Rattle.list_cells.specs.declared.cell.Cell as declared
use Rattle.list_cells.specs.declared.cell.Anchor as declared-anchor
use Rattle.list_window.specs.declared.row.Row as declared-row
use Rattle.list_window.specs.declared.index.Index as declared-index
use Rattle.list_cells.specs.Views.{lent_memory}
use Rattle.basis.specs.declared.answer.Answer.{Answer}
use Rattle.marks.specs.Meaning.{Table, Order}
use Rattle.list_window.specs.Applied.{state_of, Applied}
use Rattle.list_law.specs.Call.{State, Memory, Effect}

-- what the lent memory of an index holds
abbrev pub lent_state : {K M : Type 0} → declared-index.Index K M → State K M
lent_state i = state_of i.cells.now i.rows.now i.anchor.now i.scheme.now

-- the part of it that a window writes
abbrev pub window_memory : {K M : Type 0} → declared-index.Index K M → Memory K
window_memory i = lent_memory i.cells.now i.anchor.now

-- an index is over these four: it has their values, and what it leaves in its parts is left in them
pub record Over {K M : Type 0} (cells : MutBor (List (declared.Cell K))) (rows : MutBor (List (declared-row.Row K))) (anchor : MutBor declared-anchor.Anchor) (scheme : MutBor M) (i : declared-index.Index K M) : Type 0 where
  pub cells_there : i.cells.ghost_name ≡ cells.ghost_name
  pub rows_there : i.rows.ghost_name ≡ rows.ghost_name
  pub anchor_there : i.anchor.ghost_name ≡ anchor.ghost_name
  pub scheme_there : i.scheme.ghost_name ≡ scheme.ghost_name
  pub cells_now : i.cells.now ≡ cells.now
  pub rows_now : i.rows.now ≡ rows.now
  pub anchor_now : i.anchor.now ≡ anchor.now
  pub scheme_now : i.scheme.now ≡ scheme.now

-- an index is over the same memory as before, with as many cells and rows
pub record SameLent {K M : Type 0} (i j : declared-index.Index K M) : Type 0 where
  pub cells_there : j.cells.ghost_name ≡ i.cells.ghost_name
  pub rows_there : j.rows.ghost_name ≡ i.rows.ghost_name
  pub anchor_there : j.anchor.ghost_name ≡ i.anchor.ghost_name
  pub scheme_there : j.scheme.ghost_name ≡ i.scheme.ghost_name
  pub cells : length j.cells.now ≡ length i.cells.now
  pub rows : length j.rows.now ≡ length i.rows.now

-- an effect of seat t, applied to what index i is lent, with this answer, leaves index j, over the same memory
pub record AppliedTo {K M : Type 0} (table : M → Table) (strict : Bool) (acts : Order → M → M → Type 0) (t : ℕ) (f : Effect K) (i : declared-index.Index K M) (a : Answer) (j : declared-index.Index K M) : Type 0 where
  pub applied : Applied table strict acts t f (lent_state i) a (lent_state j)
  pub same : SameLent i j
