-- A call does the same on other cells, or on other rows, of the same number where its answer looks at none of them. Assumes nothing.
use Rattle.std.proofs.Common.{◌≡◌, ℕ, pred, Bool, true, false, cond, ◌≢◌, ◌⊎◌, List, length, Some, None, Option, sym, refl, ap, ◌∙◌, subst, inl, inr}
use Rattle.std.proofs.lemmas.Bool.{both_ways}
use Rattle.std.specs.List.{slice_get}
use Rattle.basis.specs.declared.kind.Kind.{Kind}
use Rattle.basis.specs.declared.kind.Kind.TheVariants.{Lookup, Insert, Remove}
use Rattle.basis.specs.declared.refusal.Refusal.{Refusal}
use Rattle.basis.specs.declared.refusal.Refusal.TheVariants.{OutOfRange, WrongSizes, MaskRaised, BadLink}
use Rattle.basis.specs.declared.answer.Answer.{Answer}
use Rattle.basis.specs.declared.answer.Answer.TheVariants.{Yes, Refused}
use Rattle.marks.specs.Meaning.{Table, Order, Along}
use Rattle.ledger.specs.Tests.{first}
use Rattle.ledger.specs.Ledger.{Call, What, join, step}
use Rattle.ledger.specs.Lending.{refusal_looks_at_cells, looks_at_cells, looks_at_rows}
use Rattle.ledger.specs.Law.{Event}
use Rattle.ledger.proofs.Lending.{kept}
use Rattle.list_law.specs.Call.{Link, Cell, Row, away, idle, running, State, Memory, memory_of, row_at, Met, bad, absent, Effect, effect, early_refusals, call_effect, Turn, refuses, becomes, runs, turn, turn_effect, refused, ended, inserted, decided, taken_from, taken, window, walked, reach, anchor_after, rows_after, Obeys}
use Rattle.list_law.specs.Runs.{Next}
use Rattle.list_law.specs.Elsewhere.{OthersServe}
use Rattle.list_law.proofs.Refusals.{tests_alike}

-- the answer looks at the cells and at the row
abbrev Looks : Answer → Type 0
Looks a = (looks_at_cells a ≡ true) × (looks_at_rows a ≡ true)

module _ {K : Type 0} (below : K → K → Bool) (m : Memory K) (t : ℕ) where
  taken_looks : (x : K) (lead : Option ℕ) (l : Link) (q : ℕ) (c : Option (Cell K)) → Looks (taken x t lead l m q c).answer
  taken_looks x lead l q None = (refl, refl)
  taken_looks x lead l q (Some c) = either c.listed
    where
      either : (b : Bool) → Looks (cond b (refused m BadLink) (ended t Yes (inserted lead l x q c.link m))).answer
      either true = (refl, refl)
      either false = (refl, refl)

  filled_looks : (x : K) (lead : Option ℕ) (l f : Link) → Looks (taken_from x t lead l m f).answer
  filled_looks x lead l None = (refl, refl)
  filled_looks x lead l (Some q) = taken_looks x lead l q (slice_get m.cells q)

  decided_looks : (k : Kind) (x : K) (end : Met) → Looks (decided k x t m end).answer
  decided_looks Insert x (absent lead l) = filled_looks x lead l m.free
  decided_looks Insert x end = (refl, refl)
  decided_looks Lookup x bad = (refl, refl)
  decided_looks Lookup x end = (refl, refl)
  decided_looks Remove x bad = (refl, refl)
  decided_looks Remove x end = (refl, refl)

  window_looks : (w : ℕ) (mark : Option ℕ) (k : Kind) (x : K) → Looks (window below m t w mark k x).answer
  unfolding window
  window_looks w mark k x = decided_looks k x (walked below m.cells m.head x (pred (reach t w mark)) mark)

  pub turn_looks : (w : ℕ) (mark : Option ℕ) (r : Row K) (what : What K)
      → looks_at_rows (turn_effect below m t w mark (turn t r what)).answer ≡ true
  turn_looks w mark (running k x) step = (window_looks w mark k x).1
  turn_looks w mark (running k x) what = refl
  turn_looks w mark away join = refl
  turn_looks w mark away what = refl
  turn_looks w mark idle join = refl
  turn_looks w mark idle what = refl

-- an effect, with other memory
abbrev with_memory : {K : Type 0} → Memory K → Effect K → Effect K
with_memory m f = record { answer = f.answer; told = f.told; memory = m; row = f.row; orders = f.orders }

-- an effect on some memory leaves it, and would be the same on other memory
abbrev Alike : {K : Type 0} → Memory K → Memory K → Effect K → Effect K → Type 0
Alike m m' f f' = (f' ≡ with_memory m' f) × (f.memory ≡ m)

turn_alike : {K : Type 0} (below : K → K → Bool) (m m' : Memory K) (t w : ℕ) (mark : Option ℕ) (u : Turn K)
    → looks_at_cells (turn_effect below m t w mark u).answer ≡ false
    → Alike m m' (turn_effect below m t w mark u) (turn_effect below m' t w mark u)
turn_alike below m m' t w mark (refuses r) h = (refl, refl)
turn_alike below m m' t w mark (becomes r os) h = (refl, refl)
turn_alike below m m' t w mark (runs k x) h = absurd (both_ways _ h (window_looks below m t w mark k x).0)

module _ {K M : Type 0} (below : K → K → Bool) (table : M → Table) (s : State K M) (c : Call K) where
  -- a call whose answer looks at no cell does on other cells what it does on these
  module _ (others : List (Cell K)) (as_many : length others ≡ length s.cells) where
    abbrev over_cells : State K M
    over_cells = record { cells = others; rows = s.rows; anchor = s.anchor; marks = s.marks }

    cells_alike : looks_at_cells (effect below table s c).answer ≡ false
        → Alike (memory_of s) (memory_of over_cells) (effect below table s c) (effect below table over_cells c)
    unfolding effect
    cells_alike = rw (tests_alike over_cells s c as_many refl refl) (by (first (early_refusals s c)))
      where
        by : (o : Option Refusal) → looks_at_cells (call_effect below table s c o).answer ≡ false
            → Alike (memory_of s) (memory_of over_cells) (call_effect below table s c o) (call_effect below table over_cells c o)
        by (Some r) h = (refl, refl)
        by None h = turn_alike below (memory_of s) (memory_of over_cells) c.seat s.anchor.window (table s.marks c.seat) (turn c.seat (row_at s.rows c.seat) c.what) h

  -- and one whose answer looks at no row is refused on other rows as on these
  module _ (others : List (Row K)) (as_many : length others ≡ length s.rows) where
    abbrev over_rows : State K M
    over_rows = record { cells = s.cells; rows = others; anchor = s.anchor; marks = s.marks }

    rows_alike : looks_at_rows (effect below table s c).answer ≡ false
        → (effect below table over_rows c ≡ effect below table s c) × ((effect below table s c).row ≡ None)
    unfolding effect
    rows_alike = rw (tests_alike over_rows s c refl refl as_many) (by (first (early_refusals s c)))
      where
        by : (o : Option Refusal) → looks_at_rows (call_effect below table s c o).answer ≡ false
            → (call_effect below table over_rows c o ≡ call_effect below table s c o) × ((call_effect below table s c o).row ≡ None)
        by (Some r) h = (refl, refl)
        by None h = absurd (both_ways _ h (turn_looks below (memory_of s) c.seat s.anchor.window (table s.marks c.seat) (row_at s.rows c.seat) c.what))

module _ {K M : Type 0} (below : K → K → Bool) (table : M → Table) (strict : Bool) (acts : Order → M → M → Type 0)
    (s : State K M) (e : Event K) (s' : State K M) (d : Next below table strict acts s e s') where
  abbrev f : Effect K
  f = effect below table d.lent e.call

  -- other cells in place of those that were lent
  pub cells_exchanged : looks_at_cells e.answer ≡ false → (others : List (Cell K)) → length others ≡ length d.lent.cells
      → (d' : Next below table strict acts s e s') × (d'.lent.cells ≡ others) × (d'.left.cells ≡ others)
  cells_exchanged unseen others as_many =
      let alike = cells_alike below table d.lent e.call others as_many (ap looks_at_cells (sym d.did.answer) ∙ unseen) in
      let eff = sym alike.0 in (
        record {
          lent = over_cells below table d.lent e.call others as_many;
          left = record { cells = others; rows = d.left.rows; anchor = d.left.anchor; marks = d.left.marks };
          lent_anchor = d.lent_anchor;
          lent_marks = d.lent_marks;
          anchor = d.anchor;
          marks = d.marks;
          cells = (inr (inr unseen), kept (looks_at_cells e.answer) s.cells s'.cells d.lent.cells d.left.cells d.cells (d.did.cells ∙ ap (λ m. m.cells) alike.1));
          rows = d.rows;
          cells_number = d.cells_number ∙ sym as_many;
          rows_number = d.rows_number;
          did = record {
            answer = d.did.answer ∙ ap (λ (x : Effect K). x.answer) eff;
            cells = ap (λ (x : Effect K). x.memory.cells) eff;
            anchor = d.did.anchor ∙ ap (anchor_after d.lent.anchor) alike.1 ∙ ap (λ (x : Effect K). anchor_after d.lent.anchor x.memory) eff;
            rows = d.did.rows ∙ ap (λ (x : Effect K). rows_after d.lent.rows e.call.seat x.row) eff;
            marks = subst (λ (x : Effect K). Along (Obeys table strict acts) x.orders d.lent.marks d.left.marks) eff d.did.marks;
          };
          told = d.told ∙ ap (λ (x : Effect K). x.told) eff;
        },
        refl,
        refl,
      )

  -- other rows in place of those that were lent
  pub rows_exchanged : looks_at_rows e.answer ≡ false → (others : List (Row K)) → length others ≡ length d.lent.rows
      → (d' : Next below table strict acts s e s') × (d'.lent.rows ≡ others) × (d'.left.rows ≡ others)
  rows_exchanged unseen others as_many =
      let alike = rows_alike below table d.lent e.call others as_many (ap looks_at_rows (sym d.did.answer) ∙ unseen) in
      let eff = sym alike.0 in (
        record {
          lent = over_rows below table d.lent e.call others as_many;
          left = record { cells = d.left.cells; rows = others; anchor = d.left.anchor; marks = d.left.marks };
          lent_anchor = d.lent_anchor;
          lent_marks = d.lent_marks;
          anchor = d.anchor;
          marks = d.marks;
          cells = d.cells;
          rows = (inr (inr unseen), kept (looks_at_rows e.answer) s.rows s'.rows d.lent.rows d.left.rows d.rows (d.did.rows ∙ ap (rows_after d.lent.rows e.call.seat) alike.1));
          cells_number = d.cells_number;
          rows_number = d.rows_number ∙ sym as_many;
          did = record {
            answer = d.did.answer ∙ ap (λ (x : Effect K). x.answer) eff;
            cells = d.did.cells ∙ ap (λ (x : Effect K). x.memory.cells) eff;
            anchor = d.did.anchor ∙ ap (λ (x : Effect K). anchor_after d.lent.anchor x.memory) eff;
            rows = ap (rows_after others e.call.seat) (sym alike.1 ∙ ap (λ (x : Effect K). x.row) eff);
            marks = subst (λ (x : Effect K). Along (Obeys table strict acts) x.orders d.lent.marks d.left.marks) eff d.did.marks;
          };
          told = d.told ∙ ap (λ (x : Effect K). x.told) eff;
        },
        refl,
        refl,
      )

-- ok, and every refusal but the bad link, looks at no cell
cells_unseen : (a : Answer) → (a ≡ Answer.Ok) ⊎ ((r : Refusal) × (a ≡ Refused r) × (r ≢ BadLink)) → looks_at_cells a ≡ false
cells_unseen a (inl is) = ap looks_at_cells is
cells_unseen a (inr (r, is, other)) = ap looks_at_cells is ∙ by r other
  where
    by : (q : Refusal) → q ≢ BadLink → refusal_looks_at_cells q ≡ false
    by BadLink h = absurd (h refl)
    by q h = refl

rows_unseen : (a : Answer) → (a ≡ Refused OutOfRange) ⊎ ((a ≡ Refused WrongSizes) ⊎ (a ≡ Refused MaskRaised)) → looks_at_rows a ≡ false
rows_unseen a (inl is) = ap looks_at_rows is
rows_unseen a (inr (inl is)) = ap looks_at_rows is
rows_unseen a (inr (inr is)) = ap looks_at_rows is

pub others_serve : {K M : Type 0} (below : K → K → Bool) (table : M → Table) (strict : Bool) (acts : Order → M → M → Type 0) → OthersServe below table strict acts BadLink
others_serve below table strict acts = record {
  cells = λ s e s' d ok. cells_exchanged below table strict acts s e s' d (cells_unseen e.answer ok);
  rows = λ s e s' d early. rows_exchanged below table strict acts s e s' d (rows_unseen e.answer early);
}
