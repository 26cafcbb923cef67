-- Runs of the code, at their numbers. Assumes nothing.
use Rattle.std.proofs.Common.{◌≡◌, ℕ, Some, None, Option, refl, ap, ◌∙◌, ap₂, arith}
use Rattle.basis.specs.declared.bounded.Bounded.{Bounded}
use Rattle.marks.specs.Meaning.Order.{reserve, revoke}
use Rattle.marks.specs.Marks.{numbered}
use Rattle.schemes.specs.Spread.{slot}
use Rattle.schemes.specs.Owner.{Owned, owner_new, owner_act, owner_get}
use Rattle.schemes.specs.Version.{Versioned, version_new, version_act, version_get}

-- a mark without a number is none
none_from : (m : Option (Bounded 1008)) → numbered m ≡ None → m ≡ None
none_from None e = refl
none_from (Some p) e = let z : ◌≡◌ {A = ℕ} 0 1 = cc in absurd (omega arith)

-- seat t has marked p and then seat u has marked q in an owner scheme, and t asks
pub owner_asked : (t p u q : ℕ) → t ≡ 0 → p ≡ 0 → u ≡ 1 → q ≡ 16 → (s : Owned) (m : Option (Bounded 1008)) → s ≡ owner_act (reserve u q) (owner_act (reserve t p) owner_new) → numbered m ≡ owner_get s t → m ≡ None
unfolding slot
owner_asked t p u q t0 p0 u1 q16 s m is asked =
    none_from m (asked ∙ ap₂ owner_get (is ∙ ap₂ owner_act (ap₂ reserve u1 q16) (ap (λ o. owner_act o owner_new) (ap₂ reserve t0 p0))) t0 ∙ refl)

-- seat t has marked p and then q was revoked in a version scheme whose counters stood at their last number, and t asks
pub version_asked : (t p q : ℕ) → t ≡ 0 → p ≡ 1 → q ≡ 17 → (s : Versioned) (m : Option (Bounded 1008)) → s ≡ version_act (revoke q) (version_act (reserve t p) (version_new 4294967295)) → numbered m ≡ version_get s t → m ≡ None
unfolding slot
version_asked t p q t0 p1 q17 s m is asked =
    none_from m (asked ∙ ap₂ version_get (is ∙ ap₂ version_act (ap revoke q17) (ap (λ o. version_act o (version_new 4294967295)) (ap₂ reserve t0 p1))) t0 ∙ refl)
