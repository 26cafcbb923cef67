-- What the owner scheme does to its state is what the orders mean. Assumes nothing.
use Rattle.std.proofs.Common.{◌≡◌, ℕ, ◌<◌, Bool, true, false, cond, List, map, length, get_or, set, Some, None, Option, sym, refl, ap, ◌∙◌, subst, ap₂, inl, inr, ⊎_elim, arith}
use Rattle.std.proofs.lemmas.List.{get_or-set_same, get_or-set_other, length-map}
use Rattle.std.proofs.lemmas.Bool.{eq-eqb, ne_eqb, cases_eq}
use Rattle.basis.specs.declared.bounded.Bounded.{Bounded}
use Rattle.schemes.specs.declared.owner.Owner.{Owner}
use Rattle.marks.specs.Meaning.{Order, Means, Reserved, Released, Revoked, Seated, Kept}
use Rattle.marks.specs.Meaning.Order.{release, reserve, revoke}
use Rattle.marks.specs.Marks.{numbered}
use Rattle.schemes.specs.Clearing.{names}
use Rattle.schemes.specs.Spread.{Sixteens, slot}
use Rattle.schemes.specs.Owner.{Owned, owned, owner_state, owner_act, owner_get, if_owned}
use Rattle.schemes.proofs.Cleared.{set_mapped}
use Rattle.schemes.proofs.Slots.{slot_below}

-- what is answered is the mark
answers_mark : (owners : List (Option ℕ)) (t p : ℕ) (m : Option ℕ) → if_owned owners t m ≡ Some p → m ≡ Some p
answers_mark owners t p None e = e
answers_mark owners t p (Some q) e = kept (names t (get_or owners (slot q) None)) e
  where
    kept : (b : Bool) → cond b (Some q) None ≡ Some p → Some q ≡ Some p
    kept true e = e
    kept false e = cc

module _ (s : Owned) (marks16 : length s.marks ≡ 16) (owners16 : length s.owners ≡ 16) where
  -- a slot is given to somebody else: a mark is answered as before, or no more
  shifted : (k : ℕ) → k < 16 → (o : Option ℕ) (u : ℕ) → names u o ≡ false → (m : Option ℕ) → Kept false (if_owned s.owners u m) (if_owned (set s.owners k o) u m)
  shifted k h o u no_more None = inl refl
  shifted k h o u no_more (Some q) =
      ⊎_elim
      (λ same. inr (refl, ap (λ j. cond (names u (get_or (set s.owners k o) j None)) (Some q) None) same ∙ ap (λ x. cond (names u x) (Some q) None) (get_or-set_same s.owners k o None (omega arith)) ∙ ap (λ b. cond b (Some q) None) no_more))
      (λ apart. inl (ap (λ x. cond (names u x) (Some q) None) (get_or-set_other s.owners k (slot q) o None apart)))
      (cases_eq (slot q) k)

  meant : (o : Order) → Seated o → Means false o (owner_get s) (owner_get (owner_act o s))
  meant (release t) h = record {
    own = ap (if_owned s.owners t) (get_or-set_same s.marks t None None (omega arith));
    others = λ u l ne. ap (if_owned s.owners u) (get_or-set_other s.marks t u None None ne);
  }
  meant (reserve t p) h = record {
    own =
        ap (if_owned (set s.owners (slot p) (Some t)) t) (get_or-set_same s.marks t (Some p) None (omega arith))
        ∙ ap (λ x. cond (names t x) (Some p) None) (get_or-set_same s.owners (slot p) (Some t) None (omega (arith, slot_below p)))
        ∙ ap (λ b. cond b (Some p) None) (eq-eqb t t refl);
    others = λ u l ne.
        let P : Option ℕ → Type 0 = λ m. Kept false (owner_get s u) (if_owned (set s.owners (slot p) (Some t)) u m) in
        subst P (sym (get_or-set_other s.marks t u (Some p) None ne))
        (shifted (slot p) (slot_below p) (Some t) u (ne_eqb t u (λ e. ne (sym e))) (get_or s.marks u None));
  }
  meant (revoke p) h = record {
    struck = λ u l e.
        ap (if_owned (set s.owners (slot p) None) u) (answers_mark s.owners u p (get_or s.marks u None) e)
        ∙ ap (λ x. cond (names u x) (Some p) None) (get_or-set_same s.owners (slot p) None None (omega (arith, slot_below p)));
    others = λ u l ne. shifted (slot p) (slot_below p) None u refl (get_or s.marks u None);
  }

-- where the state is what the order makes of it, the order is carried out as it means
owner_means : (s after : Owner) → Sixteens s.marks s.owners → (o : Order) → Seated o → owner_state after ≡ owner_act o (owner_state s) → Means false o (owner_get (owner_state s)) (owner_get (owner_state after))
owner_means s after sixteen o h e =
    subst (λ x. Means false o (owner_get (owner_state s)) (owner_get x)) (sym e)
    (meant (owner_state s) (length-map s.marks numbered ∙ sixteen.0) (length-map s.owners numbered ∙ sixteen.1) o h)

-- marks and owners of a scheme, as it stands after a write
abbrev pub owner : List (Option (Bounded 1008)) → List (Option (Bounded 16)) → Owner
owner ms os = record { marks = ms; owners = os }

-- the mark of seat t is written at an index i that is the seat's number, and the owner of place p at an index k that is its slot
module _ (s : Owner) (i : ℕ) (t : Bounded 16) (same : i ≡ t.number) where
  marked : (m : Option (Bounded 1008)) → map numbered (set s.marks i m) ≡ set (map numbered s.marks) t.number (numbered m)
  marked m = set_mapped (λ p. p.number) s.marks _ _ m (ap (λ j. set s.marks j m) same)

  pub release_acts : owner_state (owner (set s.marks i None) s.owners) ≡ owner_act (release t.number) (owner_state s)
  release_acts = ap (λ ms. owned ms (map numbered s.owners)) (marked None)

  pub release_means : length s.marks ≡ 16 → length s.owners ≡ 16 → Released t.number (owner_get (owner_state s)) (owner_get (owner_state (owner (set s.marks i None) s.owners)))
  release_means marks16 owners16 = owner_means s _ (marks16, owners16) (release t.number) t.ok release_acts

  module _ (k : ℕ) (p : Bounded 1008) (slotted : k ≡ slot p.number) where
    pub reserve_acts : owner_state (owner (set s.marks i (Some p)) (set s.owners k (Some t))) ≡ owner_act (reserve t.number p.number) (owner_state s)
    reserve_acts = ap₂ owned (marked (Some p)) (set_mapped (λ u. u.number) s.owners _ _ (Some t) (ap (λ j. set s.owners j (Some t)) slotted))

    pub reserve_means : length s.marks ≡ 16 → length s.owners ≡ 16 → Reserved false t.number p.number (owner_get (owner_state s)) (owner_get (owner_state (owner (set s.marks i (Some p)) (set s.owners k (Some t)))))
    reserve_means marks16 owners16 = owner_means s _ (marks16, owners16) (reserve t.number p.number) t.ok reserve_acts

module _ (s : Owner) (k : ℕ) (p : Bounded 1008) (slotted : k ≡ slot p.number) where
  pub revoke_acts : owner_state (owner s.marks (set s.owners k None)) ≡ owner_act (revoke p.number) (owner_state s)
  revoke_acts = ap (owned (map numbered s.marks)) (set_mapped (λ u. u.number) s.owners _ _ None (ap (λ j. set s.owners j None) slotted))

  pub revoke_means : length s.marks ≡ 16 → length s.owners ≡ 16 → Revoked false p.number (owner_get (owner_state s)) (owner_get (owner_state (owner s.marks (set s.owners k None))))
  revoke_means marks16 owners16 = owner_means s _ (marks16, owners16) (revoke p.number) tt revoke_acts
