-- What the version scheme does to its state is what the orders mean, and no mark gets ahead of its counter. Assumes nothing.
use Rattle.std.proofs.Common.{◌≡◌, ℕ, ◌+◌, ◌<◌, ◌≤◌, Bool, true, false, cond, eqb, List, map, length, get_or, set, Some, None, Option, sym, refl, ap, ◌∙◌, subst, ap₂, inl, inr, ⊎_elim, arith}
use Rattle.std.specs.Option.{option_map}
use Rattle.std.proofs.lemmas.List.{get_or-set_same, get_or-set_other, length-map}
use Rattle.std.proofs.lemmas.Bool.{eq-eqb, ne_eqb, eqb-true, eqb-false, cases_eq, cases_Bool}
use Rattle.basis.specs.declared.bounded.Bounded.{Bounded}
use Rattle.schemes.specs.declared.version.Stamped.{Stamped}
use Rattle.schemes.specs.declared.version.Stamps.{Stamps}
use Rattle.marks.specs.Meaning.{Order, Means, Reserved, Released, Seated}
use Rattle.marks.specs.Meaning.Order.{release, reserve, revoke}
use Rattle.schemes.specs.Clearing.{cleared}
use Rattle.schemes.specs.Spread.{Sixteens, slot}
use Rattle.schemes.specs.Version.{Dated, dated, Versioned, versioned, dated_of, stamped, version_state, counter_of, kept_in, raised, restarted, version_act, version_get, if_current, NoneAhead}
use Rattle.schemes.proofs.Cleared.{cleared_at, cleared_cases, map_cleared, none_is_not_some, set_cases, set_mapped}
use Rattle.schemes.proofs.Slots.{slot_below}

-- what is answered is a mark on that place, so it is kept in the place's slot
answers_mark : (counters : List ℕ) (p : ℕ) (m : Option Dated) → if_current counters m ≡ Some p → kept_in (slot p) m ≡ true
answers_mark counters p None e = none_is_not_some e
answers_mark counters p (Some m) e = kept (eqb (counter_of counters m.place) m.counter) e
  where
    kept : (b : Bool) → cond b (Some m.place) None ≡ Some p → eqb (slot m.place) (slot p) ≡ true
    kept true e = let same : m.place ≡ p = cc in eq-eqb (slot m.place) (slot p) (ap slot same)
    kept false e = none_is_not_some e

-- another slot's counter says nothing of a mark
elsewhere : (counters : List ℕ) (k v : ℕ) (m : Option Dated) → kept_in k m ≡ false → if_current (set counters k v) m ≡ if_current counters m
elsewhere counters k v None apart = refl
elsewhere counters k v (Some m) apart =
    ap (λ n. cond (eqb n m.counter) (Some m.place) None)
    (get_or-set_other counters k (slot m.place) v 0 (eqb-false (slot m.place) k apart))

module _ (s : Versioned) (marks16 : length s.marks ≡ 16) (counters16 : length s.counters ≡ 16) (none_ahead : NoneAhead s) where
  -- a counter that has gone up is not one that a mark keeps
  outdated : (k : ℕ) → k < 16 → (m : Option Dated) → ((p c : ℕ) → m ≡ Some (dated p c) → c ≤ counter_of s.counters p) → kept_in k m ≡ true → if_current (set s.counters k (get_or s.counters k 0 + 1)) m ≡ None
  outdated k h None reached here = refl
  outdated k h (Some m) reached here =
      let c : ℕ = get_or s.counters k 0 in
      let same : slot m.place ≡ k = eqb-true (slot m.place) k here in
      let risen : counter_of (set s.counters k (c + 1)) m.place ≡ c + 1 = ap (λ j. get_or (set s.counters k (c + 1)) j 0) same ∙ get_or-set_same s.counters k (c + 1) 0 (omega arith) in
      let old : m.counter ≤ counter_of s.counters m.place = reached m.place m.counter refl in
      let before : counter_of s.counters m.place ≡ c = ap (λ j. get_or s.counters j 0) same in
      ap (λ b. cond b (Some m.place) None) (ne_eqb (counter_of (set s.counters k (c + 1)) m.place) m.counter (λ e. omega arith))

  module _ (k u : ℕ) (below : k < 16) (seated : u < 16) where
    -- every mark kept in the slot is gone, whether the counter goes up or back to 0
    gone : (b : Bool) → kept_in k (get_or s.marks u None) ≡ true → version_get (cond b (restarted s k) (raised s k)) u ≡ None
    gone true here = ap (if_current (set s.counters k 0)) (cleared_at (kept_in k) s.marks u (omega arith) ∙ ap (λ b. cond b None (get_or s.marks u None)) here)
    gone false here = outdated k below (get_or s.marks u None) (none_ahead u) here

    -- every other mark is as it was
    stays : (b : Bool) → kept_in k (get_or s.marks u None) ≡ false → version_get (cond b (restarted s k) (raised s k)) u ≡ version_get s u
    stays true apart =
        ap (if_current (set s.counters k 0)) (cleared_at (kept_in k) s.marks u (omega arith) ∙ ap (λ b. cond b None (get_or s.marks u None)) apart)
        ∙ elsewhere s.counters k 0 (get_or s.marks u None) apart
    stays false apart = elsewhere s.counters k (get_or s.counters k 0 + 1) (get_or s.marks u None) apart

  meant : (o : Order) → Seated o → Means false o (version_get s) (version_get (version_act o s))
  meant (release t) h = record {
    own = ap (if_current s.counters) (get_or-set_same s.marks t None None (omega arith));
    others = λ u l ne. ap (if_current s.counters) (get_or-set_other s.marks t u None None ne);
  }
  meant (reserve t p) h =
      let m : Option Dated = Some (dated p (counter_of s.counters p)) in
      record {
        own = ap (if_current s.counters) (get_or-set_same s.marks t m None (omega arith)) ∙ ap (λ b. cond b (Some p) None) (eq-eqb (counter_of s.counters p) (counter_of s.counters p) refl);
        others = λ u l ne. inl (ap (if_current s.counters) (get_or-set_other s.marks t u m None ne));
      }
  meant (revoke p) h =
      let wraps : Bool = eqb (counter_of s.counters p) 4294967295 in
      record {
        struck = λ u l e. gone (slot p) u (slot_below p) l wraps (answers_mark s.counters p (get_or s.marks u None) e);
        others = λ u l ne.
            ⊎_elim
            (λ here. inr (refl, gone (slot p) u (slot_below p) l wraps here))
            (λ apart. inl (stays (slot p) u (slot_below p) l wraps apart))
            (cases_Bool (kept_in (slot p) (get_or s.marks u None)));
      }

  -- no mark that is left has a counter of more than its slot's
  restarted_none_ahead : (k : ℕ) → NoneAhead (restarted s k)
  restarted_none_ahead k u p c e =
      let left = cleared_cases (kept_in k) s.marks u (dated p c) e in
      let same : counter_of (set s.counters k 0) p ≡ counter_of s.counters p = get_or-set_other s.counters k (slot p) 0 0 (eqb-false (slot p) k left.1) in
      omega (arith, none_ahead u p c left.0)

  -- no counter is less than it was
  grown : (k : ℕ) → k < 16 → (p : ℕ) → counter_of s.counters p ≤ counter_of (raised s k).counters p
  grown k h p =
      let c : ℕ = get_or s.counters k 0 in
      ⊎_elim
      (λ same.
      let before : counter_of s.counters p ≡ c = ap (λ j. get_or s.counters j 0) same in
      let after : counter_of (set s.counters k (c + 1)) p ≡ c + 1 = ap (λ j. get_or (set s.counters k (c + 1)) j 0) same ∙ get_or-set_same s.counters k (c + 1) 0 (omega arith) in
      omega arith)
      (λ apart. omega (arith, get_or-set_other s.counters k (slot p) (c + 1) 0 apart))
      (cases_eq (slot p) k)

  kept_none_ahead : (o : Order) → Seated o → NoneAhead (version_act o s)
  kept_none_ahead (release t) h u p c e = ⊎_elim none_is_not_some (none_ahead u p c) (set_cases s.marks t None u (dated p c) e)
  kept_none_ahead (reserve t q) h u p c e =
      ⊎_elim
      (λ own.
      let same : dated q (counter_of s.counters q) ≡ dated p c = cc in
      let place : q ≡ p = ap (λ (m : Dated). m.place) same in
      omega (arith, ap (λ (m : Dated). m.counter) same, ap (counter_of s.counters) place))
      (none_ahead u p c)
      (set_cases s.marks t (Some (dated q (counter_of s.counters q))) u (dated p c) e)
  kept_none_ahead (revoke q) h u p c e = either (eqb (counter_of s.counters q) 4294967295) u p c e
    where
      either : (b : Bool) → NoneAhead (cond b (restarted s (slot q)) (raised s (slot q)))
      either true u p c e = restarted_none_ahead (slot q) u p c e
      either false u p c e = omega (arith, none_ahead u p c e, grown (slot q) (slot_below q) p)

module _ (s after : Stamps) (sixteen : Sixteens s.marks s.counters) (none_ahead : NoneAhead (version_state s)) (o : Order) (h : Seated o) (acted : version_state after ≡ version_act o (version_state s)) where
  marks16 : length (map (option_map dated_of) s.marks) ≡ 16
  marks16 = length-map s.marks (option_map dated_of) ∙ sixteen.0

  -- where the state is what the order makes of it, the order is carried out as it means
  pub version_means : Means false o (version_get (version_state s)) (version_get (version_state after))
  version_means = subst (λ x. Means false o (version_get (version_state s)) (version_get x)) (sym acted) (meant (version_state s) marks16 sixteen.1 none_ahead o h)

  pub version_none_ahead : NoneAhead (version_state after)
  version_none_ahead = subst NoneAhead (sym acted) (kept_none_ahead (version_state s) marks16 sixteen.1 none_ahead o h)

-- one seat's mark is written, at an index that is the seat's number
abbrev pub with_mark : Stamps → ℕ → Option Stamped → Stamps
with_mark s i m = record { marks = set s.marks i m; counters = s.counters }

module _ (s : Stamps) (i : ℕ) (t : Bounded 16) (same : i ≡ t.number) where
  put_acted : (m : Option Stamped) → version_state (with_mark s i m) ≡ versioned (set (map (option_map dated_of) s.marks) t.number (option_map dated_of m)) s.counters
  put_acted m = ap (λ ms. versioned ms s.counters) (set_mapped dated_of s.marks _ _ m (ap (λ j. set s.marks j m) same))

  pub release_acts : version_state (with_mark s i None) ≡ version_act (release t.number) (version_state s)
  release_acts = put_acted None

  module _ (marks16 : length s.marks ≡ 16) (counters16 : length s.counters ≡ 16) (none_ahead : NoneAhead (version_state s)) where
    pub release_means : Released t.number (version_get (version_state s)) (version_get (version_state (with_mark s i None)))
    release_means = version_means s _ (marks16, counters16) none_ahead (release t.number) t.ok release_acts

    pub release_none_ahead : NoneAhead (version_state (with_mark s i None))
    release_none_ahead = version_none_ahead s _ (marks16, counters16) none_ahead (release t.number) t.ok release_acts

  -- what is written is the place, with the counter that stands at an index that is its slot
  module _ (k : ℕ) (p : Bounded 1008) (slotted : k ≡ slot p.number) where
    pub reserve_acts : version_state (with_mark s i (Some (stamped p (get_or s.counters k 0)))) ≡ version_act (reserve t.number p.number) (version_state s)
    reserve_acts =
        put_acted (Some (stamped p (get_or s.counters k 0)))
        ∙ ap (λ (j : ℕ). versioned (set (map (option_map dated_of) s.marks) t.number (Some (dated p.number (get_or s.counters j 0)))) s.counters) slotted

    module _ (marks16 : length s.marks ≡ 16) (counters16 : length s.counters ≡ 16) (none_ahead : NoneAhead (version_state s)) where
      pub reserve_means : Reserved false t.number p.number (version_get (version_state s)) (version_get (version_state (with_mark s i (Some (stamped p (get_or s.counters k 0))))))
      reserve_means = version_means s _ (marks16, counters16) none_ahead (reserve t.number p.number) t.ok reserve_acts

      pub reserve_none_ahead : NoneAhead (version_state (with_mark s i (Some (stamped p (get_or s.counters k 0)))))
      reserve_none_ahead = version_none_ahead s _ (marks16, counters16) none_ahead (reserve t.number p.number) t.ok reserve_acts

-- the counter of the slot j of place p is changed
module _ (s after : Stamps) (p j : ℕ) (js : j ≡ slot p) where
  revoked : (b : Bool) → eqb (get_or s.counters j 0) 4294967295 ≡ b → cond b (restarted (version_state s) j) (raised (version_state s) j) ≡ version_act (revoke p) (version_state s)
  revoked b test = sym (ap (λ x. cond x (restarted (version_state s) j) (raised (version_state s) j)) test) ∙ ap (λ k. cond (eqb (get_or s.counters k 0) 4294967295) (restarted (version_state s) k) (raised (version_state s) k)) js

  pub restart_acted : get_or s.counters j 0 ≡ 4294967295 → after.marks ≡ cleared (λ m. kept_in j (option_map dated_of m)) s.marks → after.counters ≡ set s.counters j 0 → version_state after ≡ version_act (revoke p) (version_state s)
  restart_acted last marks counters =
      ap₂ versioned (ap (map (option_map dated_of)) marks ∙ map_cleared dated_of (kept_in j) s.marks) counters
      ∙ revoked true (eq-eqb (get_or s.counters j 0) 4294967295 last)

  pub raise_acted : (get_or s.counters j 0 ≡ 4294967295 → ⊥) → after.marks ≡ s.marks → after.counters ≡ set s.counters j (get_or s.counters j 0 + 1) → version_state after ≡ version_act (revoke p) (version_state s)
  raise_acted more marks counters = ap₂ versioned (ap (map (option_map dated_of)) marks) counters ∙ revoked false (ne_eqb (get_or s.counters j 0) 4294967295 more)
