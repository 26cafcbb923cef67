-- The effect of a call, applied, is what the call does. Assumes nothing.
use Rattle.std.proofs.Common.{◌≡◌, ℕ, Bool, Some, None, sym, refl, ap, subst}
use Rattle.basis.specs.declared.answer.Answer.{Answer}
use Rattle.basis.specs.declared.answer.Answer.TheVariants.{Refused}
use Rattle.marks.specs.Meaning.{Table, Order}
use Rattle.basis.specs.declared.refusal.Refusal.{Refusal}
use Rattle.ledger.specs.Tests.{first}
use Rattle.ledger.specs.Ledger.{Call}
use Rattle.list_law.specs.Call.{State, early_refusals, memory_of, call_effect, effect, row_at, turn, turn_effect, Did}
use Rattle.list_window.specs.Applied.{Applied}
use Rattle.list_window.proofs.Effects.{as_effect}

module _ {K M : Type 0} (below : K → K → Bool) (table : M → Table) (strict : Bool) (acts : Order → M → M → Type 0) (s : State K M) (c : Call K) where
  -- the effect of the call, applied, is what the call does
  did : {a : Answer} {s' : State K M} → Applied table strict acts c.seat (effect below table s c) s a s' → Did below table strict acts s c a s'
  did h = record { answer = h.answer; cells = h.cells; anchor = h.anchor; rows = h.rows; marks = h.marks }

  -- a refusal that looks at no row
  pub did_refuse : (r : Refusal) → first (early_refusals s c) ≡ Some r → Did below table strict acts s c (Refused r) s
  unfolding effect
  did_refuse r e =
      did (as_effect (ap (call_effect below table s c) (sym e)) (record { answer = refl; cells = refl; anchor = refl; rows = refl; marks = refl }))

  -- what the row decides
  pub did_perform : {a : Answer} {s' : State K M} (t : ℕ) → t ≡ c.seat → first (early_refusals s c) ≡ None → Applied table strict acts t (turn_effect below (memory_of s) t s.anchor.window (table s.marks t) (turn t (row_at s.rows t) c.what)) s a s' → Did below table strict acts s c a s'
  unfolding effect
  did_perform {a} {s'} t is e h =
      did (as_effect (ap (call_effect below table s c) (sym e)) (subst (λ u. Applied table strict acts u (turn_effect below (memory_of s) u s.anchor.window (table s.marks u) (turn u (row_at s.rows u) c.what)) s a s') is h))
