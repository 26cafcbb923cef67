-- Whoever does what a call does, and makes what a making makes, goes on with every run lawfully. Assumes nothing.
use Rattle.std.proofs.Common.{◌≡◌, ℕ, Bool, [], ◌∷◌, length, refl}
use Rattle.basis.specs.declared.answer.Answer.{Answer}
use Rattle.keys.specs.Total.{Total}
use Rattle.marks.specs.Meaning.{Table, Order}
use Rattle.ledger.specs.Ledger.{Call}
use Rattle.ledger.specs.Law.{made, more}
use Rattle.list_law.specs.Call.{State, Did}
use Rattle.list_law.specs.Runs.{Made, Next}
use Rattle.list_law.specs.Continued.{happened, Begins, Continues}
use Rattle.list_law.proofs.Lawful.{law}

module _ {K M : Type 0} (below : K → K → Bool) (order : Total below) (table : M → Table) (strict : Bool) (acts : Order → M → M → Type 0) where
  pub begins : (n w : ℕ) (s : State K M) → Made table n w s → Begins below table strict acts n w s
  begins n w s m = (made m, law below order table strict acts n w [] s (made m))

  pub continues : (lent : State K M) (c : Call K) (a : Answer) (left : State K M) → c.cells ≡ length lent.cells → c.rows ≡ length lent.rows
      → Did below table strict acts lent c a left → Continues below table strict acts lent c a left
  continues lent c a left cells_number rows_number did n w es s r anchor marks cells rows s' cells' rows' anchor' marks' =
      let d : Next below table strict acts s (happened below table lent c a) s' = record {
        lent = lent;
        left = left;
        lent_anchor = anchor;
        lent_marks = marks;
        anchor = anchor';
        marks = marks';
        cells = (cells, cells');
        rows = (rows, rows');
        cells_number = cells_number;
        rows_number = rows_number;
        did = did;
        told = refl;
      } in
      let lawful = law below order table strict acts n w (happened below table lent c a ∷ es) s' (more r d) in
      (d, lawful, lawful.answers.0)
