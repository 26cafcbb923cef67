-- What an index owns after a call that was lent a slice. Assumes nothing.
use Rattle.std.proofs.Common.{◌≡◌, Bool, true, List, length, ◌∙◌, inl, inr}
use Rattle.std.proofs.lemmas.Bool.{both_ways}
use Rattle.ledger.specs.Lending.{Lent}

module _ {X : Type 0} (looks : Bool) (own own' lent left : List X) where
  -- a slice that was left as it was lent
  pub kept : Lent looks own own' lent left → left ≡ lent → own' ≡ own
  kept (inl mine, is) same = is ∙ same ∙ mine
  kept (inr other, is) same = is

  -- a slice as long as the index's own, at an answer that looks at its contents, is the index's own
  pub own_lent : Lent looks own own' lent left → length lent ≡ length own → looks ≡ true → (lent ≡ own) × (own' ≡ left)
  own_lent (inl mine, is) fits seen = (mine, is)
  own_lent (inr (inl apart), is) fits seen = absurd (apart fits)
  own_lent (inr (inr unseen), is) fits seen = absurd (both_ways looks unseen seen)
