-- All calls but a step answer ok or a refusal, and nothing else. Assumes nothing.
use Rattle.std.proofs.Common.{◌≡◌, ℕ, Bool, false, ◌⊎◌, Some, None, Option, refl, ◌∙◌, inl, inr, true≢false}
use Rattle.basis.specs.declared.refusal.Refusal.{Refusal}
use Rattle.basis.specs.declared.refusal.Refusal.TheVariants.{NotAway, Away, AlreadyRunning, NotRunning}
use Rattle.basis.specs.declared.answer.Answer.{Answer}
use Rattle.basis.specs.declared.answer.Answer.TheVariants.{Refused}
use Rattle.marks.specs.Meaning.{Table}
use Rattle.ledger.specs.Tests.{first}
use Rattle.ledger.specs.Ledger.{What, join, leave, begin, step, abandon, Call}
use Rattle.list_law.specs.Call.{Row, away, idle, running, State, Memory, memory_of, early_refusals, row_at, turn, turn_effect, call_effect, effect}
use Rattle.list.specs.Calls.{is_step}

-- ok, or a refusal
abbrev pub Settled : Answer → Type 0
Settled a = (a ≡ Answer.Ok) ⊎ ((r : Refusal) × (a ≡ Refused r))

-- so is what row and call together make of it, unless a step is asked
settled_turn : {K : Type 0} (below : K → K → Bool) (m : Memory K) (t w : ℕ) (mark : Option ℕ) (what : What K) → is_step what ≡ false → (r : Row K) → Settled (turn_effect below m t w mark (turn t r what)).answer
settled_turn below m t w mark join e away = inl refl
settled_turn below m t w mark join e idle = inr (NotAway, refl)
settled_turn below m t w mark join e (running k x) = inr (NotAway, refl)
settled_turn below m t w mark leave e away = inr (Away, refl)
settled_turn below m t w mark leave e idle = inl refl
settled_turn below m t w mark leave e (running k x) = inl refl
settled_turn below m t w mark (begin k' x') e away = inr (Away, refl)
settled_turn below m t w mark (begin k' x') e idle = inl refl
settled_turn below m t w mark (begin k' x') e (running k x) = inr (AlreadyRunning, refl)
settled_turn below m t w mark step e r = absurd (true≢false e)
settled_turn below m t w mark abandon e away = inr (Away, refl)
settled_turn below m t w mark abandon e idle = inr (NotRunning, refl)
settled_turn below m t w mark abandon e (running k x) = inl refl

-- so no other answer is given
module _ {K M : Type 0} (below : K → K → Bool) (table : M → Table) (s : State K M) (c : Call K) (settles : is_step c.what ≡ false) where
  settled_call : (o : Option Refusal) → Settled (call_effect below table s c o).answer
  settled_call (Some r) = inr (r, refl)
  settled_call None = settled_turn below (memory_of s) c.seat s.anchor.window (table s.marks c.seat) c.what settles (row_at s.rows c.seat)

  pub no_other : (a : Answer) → a ≡ (effect below table s c).answer → (a ≡ Answer.Ok → ⊥) → ((r : Refusal) → a ≡ Refused r → ⊥) → ⊥
  unfolding effect
  no_other a is not-ok not-refused = neither (settled_call (first (early_refusals s c)))
    where
      neither : Settled (call_effect below table s c (first (early_refusals s c))).answer → ⊥
      neither (inl ok) = not-ok (is ∙ ok)
      neither (inr (r, refusal)) = not-refused r (is ∙ refusal)
