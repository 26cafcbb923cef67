-- What the full scheme does to its marks is what the orders mean, and it is strict. Assumes nothing.
use Rattle.std.proofs.Common.{◌≡◌, ℕ, true, false, cond, eqb, ◌≢◌, List, map, length, set, Some, None, Option, sym, refl, ap, ◌∙◌, subst, inl, arith}
use Rattle.std.proofs.lemmas.List.{get_or-set_same, get_or-set_other, length-map}
use Rattle.std.proofs.lemmas.Bool.{eq-eqb, ne_eqb, cond-true, cond-false}
use Rattle.basis.specs.declared.bounded.Bounded.{Bounded}
use Rattle.schemes.specs.declared.full.Full.{Full}
use Rattle.marks.specs.Meaning.{Order, Means, Reserved, Released, Revoked, Seated}
use Rattle.marks.specs.Meaning.Order.{release, reserve, revoke}
use Rattle.marks.specs.Marks.{numbered}
use Rattle.schemes.specs.Clearing.{names, cleared}
use Rattle.schemes.proofs.Cleared.{cleared_at, map_cleared, set_mapped}
use Rattle.schemes.specs.Full.{full_state, full_act, full_get}

on_other : (p : ℕ) (m : Option ℕ) → m ≢ Some p → names p m ≡ false
on_other p None ne = refl
on_other p (Some q) ne = ne_eqb q p (λ e. ne (ap Some e))

module _ (ms : List (Option ℕ)) (sixteen : length ms ≡ 16) where
  pub meant : (o : Order) → Seated o → Means true o (full_get ms) (full_get (full_act o ms))
  meant (release t) h = record {
    own = get_or-set_same ms t None None (omega arith);
    others = λ u l ne. get_or-set_other ms t u None None ne;
  }
  meant (reserve t p) h = record {
    own = get_or-set_same ms t (Some p) None (omega arith);
    others = λ u l ne. inl (get_or-set_other ms t u (Some p) None ne);
  }
  meant (revoke p) h = record {
    struck = λ u l e. cleared_at (names p) ms u (omega arith) ∙ ap (λ m. cond (names p m) None m) e ∙ cond-true (eqb p p) None (Some p) (eq-eqb p p refl);
    others = λ u l ne. inl (cleared_at (names p) ms u (omega arith) ∙ cond-false (names p (full_get ms u)) None (full_get ms u) (on_other p (full_get ms u) ne));
  }

-- of a scheme with sixteen marks: where the state is what the order makes of it, the order is carried out as it means
full_means : (s after : Full) → length s.marks ≡ 16 → (o : Order) → Seated o → full_state after ≡ full_act o (full_state s) → Means true o (full_get (full_state s)) (full_get (full_state after))
full_means s after sixteen o h e =
    subst (λ ms. Means true o (full_get (full_state s)) (full_get ms)) (sym e)
    (meant (full_state s) (length-map s.marks numbered ∙ sixteen) o h)

-- one seat's mark is written, at an index that is the seat's number
abbrev pub with_mark : Full → ℕ → Option (Bounded 1008) → Full
with_mark s i m = record { marks = set s.marks i m }

module _ (s : Full) (i : ℕ) (t : Bounded 16) (same : i ≡ t.number) where
  put_acts : (m : Option (Bounded 1008)) → full_state (with_mark s i m) ≡ set (full_state s) t.number (numbered m)
  put_acts m = set_mapped (λ p. p.number) s.marks _ _ m (ap (λ j. set s.marks j m) same)

  pub reserve_acts : (p : Bounded 1008) → full_state (with_mark s i (Some p)) ≡ full_act (reserve t.number p.number) (full_state s)
  reserve_acts p = put_acts (Some p)

  pub release_acts : full_state (with_mark s i None) ≡ full_act (release t.number) (full_state s)
  release_acts = put_acts None

  module _ (sixteen : length s.marks ≡ 16) where
    pub reserve_means : (p : Bounded 1008) → Reserved true t.number p.number (full_get (full_state s)) (full_get (full_state (with_mark s i (Some p))))
    reserve_means p = full_means s _ sixteen (reserve t.number p.number) t.ok (reserve_acts p)

    pub release_means : Released t.number (full_get (full_state s)) (full_get (full_state (with_mark s i None)))
    release_means = full_means s _ sixteen (release t.number) t.ok release_acts

pub strike_acted : (s after : Full) (p : ℕ) → after.marks ≡ cleared (λ m. names p (numbered m)) s.marks → full_state after ≡ full_act (revoke p) (full_state s)
strike_acted s after p e = ap (map numbered) e ∙ map_cleared (λ (q : Bounded 1008). q.number) (names p) s.marks

pub strike_means : (s after : Full) (p : ℕ) → length s.marks ≡ 16 → after.marks ≡ cleared (λ m. names p (numbered m)) s.marks → Revoked true p (full_get (full_state s)) (full_get (full_state after))
strike_means s after p sixteen e = full_means s after sixteen (revoke p) tt (strike_acted s after p e)
