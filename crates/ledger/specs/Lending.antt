-- Which slices a call of an index may be lent, by its answer, and what the index has of them afterwards. Assumes nothing.
use Rattle.std.specs.Prelude.{◌≡◌, Bool, true, false, ◌≢◌, ◌⊎◌, List, length}
use Rattle.std.proofs.Common.{inl, inr}
use Rattle.basis.specs.declared.refusal.Refusal.{Refusal}
use Rattle.basis.specs.declared.refusal.Refusal.TheVariants.{OutOfRange, WrongSizes, MaskRaised, BadLink}
use Rattle.basis.specs.declared.answer.Answer.{Answer}
use Rattle.basis.specs.declared.answer.Answer.TheVariants.{Refused}

-- whether this refusal looks at what a cell holds: only the one of a bad link
abbrev pub refusal_looks_at_cells : Refusal → Bool
refusal_looks_at_cells BadLink = true
refusal_looks_at_cells r = false

-- whether this answer looks at what a cell holds: ok does not, nor any refusal but that one
abbrev pub looks_at_cells : Answer → Bool
looks_at_cells Answer.Ok = false
looks_at_cells (Refused r) = refusal_looks_at_cells r
looks_at_cells a = true

-- whether this refusal looks at what a row holds: those of a number, of the sizes and of the mask do not
abbrev pub refusal_looks_at_rows : Refusal → Bool
refusal_looks_at_rows OutOfRange = false
refusal_looks_at_rows WrongSizes = false
refusal_looks_at_rows MaskRaised = false
refusal_looks_at_rows r = true

-- whether this answer looks at what a row holds: all do but these three
abbrev pub looks_at_rows : Answer → Bool
looks_at_rows (Refused r) = refusal_looks_at_rows r
looks_at_rows a = true

-- a slice that a call may be lent, whose answer looks at its contents or does not: the index's own, one of another number, or, where
-- the answer does not look at them, any one
abbrev pub Lendable : {X : Type 0} → Bool → List X → List X → Type 0
Lendable looks own lent = (lent ≡ own) ⊎ ((length lent ≢ length own) ⊎ (looks ≡ false))

-- what the index has of it afterwards: what the call left there, if the slice was the index's own
abbrev pub own_after : {X : Type 0} (looks : Bool) (own lent : List X) → Lendable looks own lent → List X → List X
own_after looks own lent (inl mine) left = left
own_after looks own lent (inr other) left = own

-- what the index owns before and after a call, against what the call was lent and what it left there
abbrev pub Lent : {X : Type 0} → Bool → List X → List X → List X → List X → Type 0
Lent looks own own' lent left = (choice : Lendable looks own lent) × (own' ≡ own_after looks own lent choice left)
