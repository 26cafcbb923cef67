-- That a call may as well be lent other cells, or other rows, where its answer looks at none of them. Assumes nothing.
use Rattle.std.specs.Prelude.{◌≡◌, Bool, ◌≢◌, ◌⊎◌, List, length}
use Rattle.basis.specs.declared.refusal.Refusal.{Refusal}
use Rattle.basis.specs.declared.refusal.Refusal.TheVariants.{OutOfRange, WrongSizes, MaskRaised}
use Rattle.basis.specs.declared.answer.Answer.{Answer}
use Rattle.basis.specs.declared.answer.Answer.TheVariants.{Refused}
use Rattle.marks.specs.Meaning.{Table, Order}
use Rattle.ledger.specs.Law.{Event}
use Rattle.list_law.specs.Call.{Cell, Row, State}
use Rattle.list_law.specs.Runs.{Next}

-- whenever a call leads the index from one state to another, it does so too on any other slices of the same numbers
pub record OthersServe {K M : Type 0} (below : K → K → Bool) (table : M → Table) (strict : Bool) (acts : Order → M → M → Type 0)
    (bad : Refusal) : Type 0 where
  -- on other cells, which are left as they were lent, where it was accepted and is no step, or refused other than by `bad`
  pub cells : (s : State K M) (e : Event K) (s' : State K M) (d : Next below table strict acts s e s') →
      (e.answer ≡ Answer.Ok) ⊎ ((r : Refusal) × (e.answer ≡ Refused r) × (r ≢ bad)) →
      (others : List (Cell K)) → length others ≡ length d.lent.cells →
      (d' : Next below table strict acts s e s') × (d'.lent.cells ≡ others) × (d'.left.cells ≡ others)
  -- on other rows, which are left as they were lent, where it was refused for a number, the sizes or the mask
  pub rows : (s : State K M) (e : Event K) (s' : State K M) (d : Next below table strict acts s e s') →
      (e.answer ≡ Refused OutOfRange) ⊎ ((e.answer ≡ Refused WrongSizes) ⊎ (e.answer ≡ Refused MaskRaised)) →
      (others : List (Row K)) → length others ≡ length d.lent.rows →
      (d' : Next below table strict acts s e s') × (d'.lent.rows ≡ others) × (d'.left.rows ≡ others)
