-- The schemes can carry out every proper order on their formed values. Assumes nothing.
use Rattle.std.proofs.Common.{◌≡◌, ℕ, zero, suc, ◌+◌, ◌<◌, Bool, true, false, cond, ◌&&◌, eqb, ◌≢◌, ◌⊎◌, map, length, get_or, set, replicate, Some, None, Option, sym, refl, ap, ◌∙◌, subst, inl, inr, lit<, length-set}
use Rattle.std.specs.Option.{option_map}
use Rattle.std.proofs.lemmas.List.{length-map}
use Rattle.std.proofs.lemmas.Bool.{and_parts, and_from, and_left, and_right, cond-true, cond-false, eqb-true, eq-eqb, cases_eq}
use Rattle.basis.specs.declared.bounded.Bounded.{Bounded}
use Rattle.marks.specs.Meaning.{Table, Order, release, reserve, revoke, Seated, Kept}
use Rattle.marks.specs.Marks.{numbered}
use Rattle.marks.specs.Carried.{ActsBy}
use Rattle.schemes.specs.declared.full.Full.{Full}
use Rattle.schemes.specs.declared.owner.Owner.{Owner}
use Rattle.schemes.specs.declared.version.Stamped.{Stamped}
use Rattle.schemes.specs.declared.version.Stamps.{Stamps}
use Rattle.schemes.specs.declared.version.Version.{Version}
use Rattle.schemes.specs.Clearing.{names, cleared}
use Rattle.schemes.specs.Spread.{slot}
use Rattle.schemes.specs.Full.{full_state, full_act, full_get}
use Rattle.schemes.specs.Owner.{owner_state, owner_act, owner_get}
use Rattle.schemes.specs.Version.{dated_of, stamped, kept_in, version_state, version_act, version_get}
use Rattle.schemes.specs.declared.pair.Pair.{Pair}
use Rattle.schemes.specs.Pair.{uses_second, paired, pair_table, acts_in_one, pair_acts}
use Rattle.schemes.proofs.Cleared.{none_is_not_some}
use Rattle.schemes.proofs.FullLaws as full
use Rattle.schemes.proofs.OwnerLaws as owner
use Rattle.schemes.proofs.VersionLaws as version
use Rattle.list_law.specs.Call.{Obeys}
use Rattle.list_law.specs.Existence.{Proper, Able}
use Rattle.worked_examples.specs.Formed.{full_formed, owner_formed, version_formed, pair_formed}

-- the seat and the place of a proper order
abbrev seat : (t : ℕ) → t < 16 → Bounded 16
seat t h = record { number = t; ok = h }

abbrev place : (p : ℕ) → p < 1008 → Bounded 1008
place p h = record { number = p; ok = h }

-- entries that were all made none are none
none_of : {X Y : Type 0} (f : X → Y) (k u : ℕ) → get_or (map (option_map f) (replicate k None)) u None ≡ None
none_of f zero u = refl
none_of f (suc k) zero = refl
none_of f (suc k) (suc u) = none_of f k u

-- the full scheme

full_obeys : (o : Order) → Proper o → (a : Full) → full_formed a ≡ true
    → (b : Full) × Obeys (λ s. full_get (full_state s)) true (ActsBy full_state full_act) o a b × (full_formed b ≡ true)
full_obeys (release t) h a good =
    let sixteen = eqb-true (length a.marks) 16 good in (
      full.with_mark a t None,
      (full.release_acts a t (seat t h) refl, full.release_means a t (seat t h) refl sixteen),
      eq-eqb (length (set a.marks t None)) 16 (length-set a.marks t None ∙ sixteen),
    )
full_obeys (reserve t p) h a good =
    let sixteen = eqb-true (length a.marks) 16 good in
    let there = place p h.1 in (
      full.with_mark a t (Some there),
      (full.reserve_acts a t (seat t h.0) refl there, full.reserve_means a t (seat t h.0) refl sixteen there),
      eq-eqb (length (set a.marks t (Some there))) 16 (length-set a.marks t (Some there) ∙ sixteen),
    )
full_obeys (revoke p) h a good =
    let sixteen = eqb-true (length a.marks) 16 good in
    let b : Full = record { marks = cleared (λ m. names p (numbered m)) a.marks } in (
      b,
      (full.strike_acted a b p refl, full.strike_means a b p sixteen refl),
      eq-eqb (length b.marks) 16 (length-map a.marks (λ m. cond (names p (numbered m)) None m) ∙ sixteen),
    )

pub full_able : Able (λ s. full_get (full_state s)) true (ActsBy full_state full_act) full_formed
full_able = record {
  one = record { marks = replicate 16 None };
  one_formed = refl;
  obeys = full_obeys;
}

-- the owner scheme

-- sixteen of each, from the test
module _ (a : Owner) (good : owner_formed a ≡ true) where
  owner_parts : (eqb (length a.marks) 16 ≡ true) × (eqb (length a.owners) 16 ≡ true)
  owner_parts = and_parts (eqb (length a.marks) 16) (eqb (length a.owners) 16) good

  marks_sixteen : length a.marks ≡ 16
  marks_sixteen = eqb-true (length a.marks) 16 owner_parts.0

  owners_sixteen : length a.owners ≡ 16
  owners_sixteen = eqb-true (length a.owners) 16 owner_parts.1

  owner_marked : (t : ℕ) (m : Option (Bounded 1008)) → eqb (length (set a.marks t m)) 16 ≡ true
  owner_marked t m = eq-eqb (length (set a.marks t m)) 16 (length-set a.marks t m ∙ marks_sixteen)

  owner_owned : (k : ℕ) (o : Option (Bounded 16)) → eqb (length (set a.owners k o)) 16 ≡ true
  owner_owned k o = eq-eqb (length (set a.owners k o)) 16 (length-set a.owners k o ∙ owners_sixteen)

owner_obeys : (o : Order) → Proper o → (a : Owner) → owner_formed a ≡ true
    → (b : Owner) × Obeys (λ s. owner_get (owner_state s)) false (ActsBy owner_state owner_act) o a b × (owner_formed b ≡ true)
owner_obeys (release t) h a good =
    let marks = set a.marks t None in (
      owner.owner marks a.owners,
      (owner.release_acts a t (seat t h) refl, owner.release_means a t (seat t h) refl (marks_sixteen a good) (owners_sixteen a good)),
      and_from (eqb (length marks) 16) (eqb (length a.owners) 16) (owner_marked a good t None) (owner_parts a good).1,
    )
owner_obeys (reserve t p) h a good =
    let there = place p h.1 in
    let by = seat t h.0 in
    let marks = set a.marks t (Some there) in
    let owners = set a.owners (slot p) (Some by) in (
      owner.owner marks owners,
      (owner.reserve_acts a t by refl (slot p) there refl, owner.reserve_means a t by refl (slot p) there refl (marks_sixteen a good) (owners_sixteen a good)),
      and_from (eqb (length marks) 16) (eqb (length owners) 16) (owner_marked a good t (Some there)) (owner_owned a good (slot p) (Some by)),
    )
owner_obeys (revoke p) h a good =
    let owners = set a.owners (slot p) None in (
      owner.owner a.marks owners,
      (owner.revoke_acts a (slot p) (place p h) refl, owner.revoke_means a (slot p) (place p h) refl (marks_sixteen a good) (owners_sixteen a good)),
      and_from (eqb (length a.marks) 16) (eqb (length owners) 16) (owner_parts a good).0 (owner_owned a good (slot p) None),
    )

pub owner_able : Able (λ s. owner_get (owner_state s)) false (ActsBy owner_state owner_act) owner_formed
owner_able = record {
  one = owner.owner (replicate 16 None) (replicate 16 None);
  one_formed = refl;
  obeys = owner_obeys;
}

-- the version scheme

-- the stamps of a formed scheme, and what leads on from it
module _ (a : Version) (good : version_formed a ≡ true) where
  version_parts : (eqb (length a.kept.marks) 16 ≡ true) × (eqb (length a.kept.counters) 16 ≡ true)
  version_parts = and_parts (eqb (length a.kept.marks) 16) (eqb (length a.kept.counters) 16) good

  stamps_sixteen : length a.kept.marks ≡ 16
  stamps_sixteen = eqb-true (length a.kept.marks) 16 version_parts.0

  counters_sixteen : length a.kept.counters ≡ 16
  counters_sixteen = eqb-true (length a.kept.counters) 16 version_parts.1

  -- stamps that are what an order makes of those kept
  version_carries : (o : Order) → Seated o → (b : Stamps) → version_state b ≡ version_act o (version_state a.kept)
      → eqb (length b.marks) 16 ≡ true → eqb (length b.counters) 16 ≡ true
      → (b : Version) × Obeys (λ s. version_get (version_state s.kept)) false (ActsBy (λ s. version_state s.kept) version_act) o a b × (version_formed b ≡ true)
  version_carries o h b acted marks counters = (
    record { kept = b; none_ahead = version.version_none_ahead a.kept b (stamps_sixteen, counters_sixteen) a.none_ahead o h acted },
    (acted, version.version_means a.kept b (stamps_sixteen, counters_sixteen) a.none_ahead o h acted),
    and_from (eqb (length b.marks) 16) (eqb (length b.counters) 16) marks counters,
  )

  version_marked : (t : ℕ) (m : Option Stamped) → eqb (length (set a.kept.marks t m)) 16 ≡ true
  version_marked t m = eq-eqb (length (set a.kept.marks t m)) 16 (length-set a.kept.marks t m ∙ stamps_sixteen)

  version_counted : (k n : ℕ) → eqb (length (set a.kept.counters k n)) 16 ≡ true
  version_counted k n = eq-eqb (length (set a.kept.counters k n)) 16 (length-set a.kept.counters k n ∙ counters_sixteen)

  -- a revoke, by whether the counter of the slot is the last of 32 bits
  version_revokes : (p : ℕ) → (get_or a.kept.counters (slot p) 0 ≡ 4294967295) ⊎ (get_or a.kept.counters (slot p) 0 ≡ 4294967295 → ⊥)
      → (b : Version) × Obeys (λ s. version_get (version_state s.kept)) false (ActsBy (λ s. version_state s.kept) version_act) (revoke p) a b × (version_formed b ≡ true)
  version_revokes p (inl last) =
      let test = λ (m : Option Stamped). kept_in (slot p) (option_map dated_of m) in
      let b : Stamps = record { marks = cleared test a.kept.marks; counters = set a.kept.counters (slot p) 0 } in
      version_carries (revoke p) tt b (version.restart_acted a.kept b p (slot p) refl last refl refl)
      (eq-eqb (length b.marks) 16 (length-map a.kept.marks (λ m. cond (test m) None m) ∙ stamps_sixteen)) (version_counted (slot p) 0)
  version_revokes p (inr more) =
      let b : Stamps = record { marks = a.kept.marks; counters = set a.kept.counters (slot p) (get_or a.kept.counters (slot p) 0 + 1) } in
      version_carries (revoke p) tt b (version.raise_acted a.kept b p (slot p) refl more refl refl)
      version_parts.0 (version_counted (slot p) (get_or a.kept.counters (slot p) 0 + 1))

version_obeys : (o : Order) → Proper o → (a : Version) → version_formed a ≡ true
    → (b : Version) × Obeys (λ s. version_get (version_state s.kept)) false (ActsBy (λ s. version_state s.kept) version_act) o a b × (version_formed b ≡ true)
version_obeys (release t) h a good =
    version_carries a good (release t) h (version.with_mark a.kept t None) (version.release_acts a.kept t (seat t h) refl)
    (version_marked a good t None) (version_parts a good).1
version_obeys (reserve t p) h a good =
    let there = stamped (place p h.1) (get_or a.kept.counters (slot p) 0) in
    version_carries a good (reserve t p) h.0 (version.with_mark a.kept t (Some there))
    (version.reserve_acts a.kept t (seat t h.0) refl (slot p) (place p h.1) refl)
    (version_marked a good t (Some there)) (version_parts a good).1
version_obeys (revoke p) h a good = version_revokes a good p (cases_eq (get_or a.kept.counters (slot p) 0) 4294967295)

pub version_able : Able (λ s. version_get (version_state s.kept)) false (ActsBy (λ s. version_state s.kept) version_act) version_formed
version_able = record {
  one = record {
    kept = record { marks = replicate 16 None; counters = replicate 16 0 };
    none_ahead = λ u p c e. none_is_not_some (sym (none_of dated_of 16 u) ∙ e);
  };
  one_formed = refl;
  obeys = version_obeys;
}

-- a pair of two that can carry out their orders

module _ {F S : Type 0} (tableF : F → Table) (strictF : Bool) (actsF : Order → F → F → Type 0) (formedF : F → Bool) (ableF : Able tableF strictF actsF formedF)
    (tableS : S → Table) (strictS : Bool) (actsS : Order → S → S → Type 0) (formedS : S → Bool) (ableS : Able tableS strictS actsS formedS) where
  -- what one of the two keeps, the pair keeps as far as both are strict
  kept_first : (b : Bool) (other before after : Option ℕ) → Kept strictF before after → Kept (strictF && strictS) (cond b other before) (cond b other after)
  kept_first true other before after k = inl refl
  kept_first false other before after (inl e) = inl e
  kept_first false other before after (inr d) = inr (and_left strictF strictS d.0, d.1)

  kept_second : (b : Bool) (other before after : Option ℕ) → Kept strictS before after → Kept (strictF && strictS) (cond b before other) (cond b after other)
  kept_second true other before after (inl e) = inl e
  kept_second true other before after (inr d) = inr (and_right strictF strictS d.0, d.1)
  kept_second false other before after k = inl refl

  module _ (a : Pair F S) (good : pair_formed formedF formedS a ≡ true) where
    first_formed : formedF a.first ≡ true
    first_formed = (and_parts (formedF a.first) (formedS a.second) good).0

    second_formed : formedS a.second ≡ true
    second_formed = (and_parts (formedF a.first) (formedS a.second) good).1

    -- what an order may lead to
    abbrev Onward : Order → Type 0
    Onward o = (b : Pair F S) × Obeys (pair_table tableF tableS) (strictF && strictS) (pair_acts actsF actsS) o a b × (pair_formed formedF formedS b ≡ true)

    -- the seats' tests: which of the two each seat uses
    abbrev seconds : ℕ → Bool
    seconds u = uses_second a.bit.number u

    -- an order of a seat that uses the first, or the second
    module _ (t : ℕ) (b : Bool) (is : seconds t ≡ b) where
      in_one : (o : Order) (y : Pair F S) → acts_in_one actsF actsS b o a y → acts_in_one actsF actsS (seconds t) o a y
      in_one o y h = subst (λ c. acts_in_one actsF actsS c o a y) (sym is) h

    released : (t : ℕ) → t < 16 → (b : Bool) → seconds t ≡ b → Onward (release t)
    released t h true is =
        let r = ableS.obeys (release t) h a.second second_formed in
        let y : Pair F S = paired a.first r.0 a.bit in (
          y,
          (
            (refl, in_one t true is (release t) y (refl, r.1.0)),
            record {
              own = cond-true (seconds t) (tableS r.0 t) (tableF a.first t) is ∙ r.1.1.own;
              others = λ u l d. ap (λ m. cond (seconds u) m (tableF a.first u)) (r.1.1.others u l d);
            },
          ),
          and_from (formedF a.first) (formedS r.0) first_formed r.2,
        )
    released t h false is =
        let r = ableF.obeys (release t) h a.first first_formed in
        let y : Pair F S = paired r.0 a.second a.bit in (
          y,
          (
            (refl, in_one t false is (release t) y (r.1.0, refl)),
            record {
              own = cond-false (seconds t) (tableS a.second t) (tableF r.0 t) is ∙ r.1.1.own;
              others = λ u l d. ap (λ m. cond (seconds u) (tableS a.second u) m) (r.1.1.others u l d);
            },
          ),
          and_from (formedF r.0) (formedS a.second) r.2 second_formed,
        )

    reserved : (t p : ℕ) → (t < 16) × (p < 1008) → (b : Bool) → seconds t ≡ b → Onward (reserve t p)
    reserved t p h true is =
        let r = ableS.obeys (reserve t p) h a.second second_formed in
        let y : Pair F S = paired a.first r.0 a.bit in (
          y,
          (
            (refl, in_one t true is (reserve t p) y (refl, r.1.0)),
            record {
              own = cond-true (seconds t) (tableS r.0 t) (tableF a.first t) is ∙ r.1.1.own;
              others = λ u l d. kept_second (seconds u) (tableF a.first u) (tableS a.second u) (tableS r.0 u) (r.1.1.others u l d);
            },
          ),
          and_from (formedF a.first) (formedS r.0) first_formed r.2,
        )
    reserved t p h false is =
        let r = ableF.obeys (reserve t p) h a.first first_formed in
        let y : Pair F S = paired r.0 a.second a.bit in (
          y,
          (
            (refl, in_one t false is (reserve t p) y (r.1.0, refl)),
            record {
              own = cond-false (seconds t) (tableS a.second t) (tableF r.0 t) is ∙ r.1.1.own;
              others = λ u l d. kept_first (seconds u) (tableS a.second u) (tableF a.first u) (tableF r.0 u) (r.1.1.others u l d);
            },
          ),
          and_from (formedF r.0) (formedS a.second) r.2 second_formed,
        )

    -- a revoke goes to both
    struck : (p : ℕ) (b : Bool) (before after other others : Option ℕ) → (before ≡ Some p → after ≡ None) → (other ≡ Some p → others ≡ None) → cond b before other ≡ Some p → cond b after others ≡ None
    struck p true before after other others f g e = f e
    struck p false before after other others f g e = g e

    spared : (p : ℕ) (b : Bool) (before after other others : Option ℕ) → (before ≢ Some p → Kept strictS before after) → (other ≢ Some p → Kept strictF other others)
        → cond b before other ≢ Some p → Kept (strictF && strictS) (cond b before other) (cond b after others)
    spared p true before after other others f g d = kept_second true other before after (f d)
    spared p false before after other others f g d = kept_first false before other others (g d)

    revoked : (p : ℕ) → p < 1008 → Onward (revoke p)
    revoked p h =
        let f = ableF.obeys (revoke p) h a.first first_formed in
        let s = ableS.obeys (revoke p) h a.second second_formed in (
          paired f.0 s.0 a.bit,
          (
            (refl, (f.1.0, s.1.0)),
            record {
              struck = λ u l. struck p (seconds u) (tableS a.second u) (tableS s.0 u) (tableF a.first u) (tableF f.0 u) (s.1.1.struck u l) (f.1.1.struck u l);
              others = λ u l. spared p (seconds u) (tableS a.second u) (tableS s.0 u) (tableF a.first u) (tableF f.0 u) (s.1.1.others u l) (f.1.1.others u l);
            },
          ),
          and_from (formedF f.0) (formedS s.0) f.2 s.2,
        )

  pair_obeys : (o : Order) → Proper o → (a : Pair F S) → pair_formed formedF formedS a ≡ true
      → (b : Pair F S) × Obeys (pair_table tableF tableS) (strictF && strictS) (pair_acts actsF actsS) o a b × (pair_formed formedF formedS b ≡ true)
  pair_obeys (release t) h a good = released a good t h (seconds a good t) refl
  pair_obeys (reserve t p) h a good = reserved a good t p h (seconds a good t) refl
  pair_obeys (revoke p) h a good = revoked a good p h

  pub pair_able : Able (pair_table tableF tableS) (strictF && strictS) (pair_acts actsF actsS) (pair_formed formedF formedS)
  pair_able = record {
    one = paired ableF.one ableS.one (record { number = 0; ok = lit< tt });
    one_formed = and_from (formedF ableF.one) (formedS ableS.one) ableF.one_formed ableS.one_formed;
    obeys = pair_obeys;
  }
