-- What the orders of a call make of the marks, and where a mark stands. Assumes nothing.
use Rattle.std.proofs.Common.{◌≡◌, ℕ, ◌<◌, Bool, true, ◌≢◌, ◌⊎◌, List, [], ◌∷◌, ◌++◌, Some, None, Option, sym, refl, ap, ◌∙◌, subst, inl, inr}
use Rattle.std.proofs.lemmas.Bool.{cases_eq, both_ways}
use Rattle.marks.specs.Meaning.{Table, Order, release, reserve, revoke, Kept, Means, Along}
use Rattle.list_law.specs.Law.{Entry, entry}
use Rattle.list_law.proofs.Lists.{none_some, some_inj}
use Rattle.list_law.proofs.Walk.{Standing, nowhere, at}

pub kept_strict : (strict : Bool) (before after : Option ℕ) → strict ≡ true → Kept strict before after → after ≡ before
kept_strict strict before after h (inl e) = e
kept_strict strict before after h (inr e) = absurd (both_ways strict e.0 h)

pub kept_or_none : (strict : Bool) (before after : Option ℕ) → Kept strict before after → (after ≡ before) ⊎ (after ≡ None)
kept_or_none strict before after (inl e) = inl e
kept_or_none strict before after (inr e) = inr e.1

on_place : (o : Option ℕ) (p : ℕ) → (o ≡ Some p) ⊎ (o ≢ Some p)
on_place None p = inr (λ h. none_some h)
on_place (Some q) p = go (cases_eq q p)
  where
    go : (q ≡ p) ⊎ (q ≡ p → ⊥) → (Some q ≡ Some p) ⊎ (Some q ≢ Some p)
    go (inl e) = inl (ap Some e)
    go (inr d) = inr (λ h. d (some_inj h))

module _ (strict : Bool) {M : Type 0} (table : M → Table) (acts : Order → M → M → Type 0) (means : (o : Order) (a b : M) → acts o a b → Means strict o (table a) (table b)) (t : ℕ) (a c : M) where
  -- the seat's mark is released
  pub released : Along acts (release t ∷ []) a c → (table c t ≡ None) × ((u : ℕ) → u < 16 → u ≢ t → table c u ≡ table a u)
  released h =
      let r = means (release t) a h.0 h.1 in
      (ap (λ m. table m t) h.2 ∙ r.own, λ u l d. ap (λ m. table m u) h.2 ∙ r.others u l d)

  -- the seat marks place p
  pub moved : (p : ℕ) → Along acts (release t ∷ reserve t p ∷ []) a c → (table c t ≡ Some p) × ((u : ℕ) → u < 16 → u ≢ t → Kept strict (table a u) (table c u))
  moved p h =
      let r = means (release t) a h.0 h.1 in
      let q = means (reserve t p) h.0 h.2.0 h.2.1 in (
        ap (λ m. table m t) h.2.2 ∙ q.own,
        λ u l d. subst (λ o. Kept strict (table a u) o) (ap (λ m. table m u) (sym h.2.2)) (subst (λ o. Kept strict o (table h.2.0 u)) (r.others u l d) (q.others u l d)),
      )

  -- every mark on place p is struck, and the seat's own is released
  pub struck : (p : ℕ) → Along acts (revoke p ∷ release t ∷ []) a c → (table c t ≡ None) × ((u : ℕ) → u < 16 → u ≢ t → (table c u ≡ None) ⊎ ((table c u ≡ table a u) × (table a u ≢ Some p)))
  struck p h =
      (ap (λ m. table m t) h.2.2 ∙ r.own, λ u l d. subst (λ o. (o ≡ None) ⊎ ((o ≡ table a u) × (table a u ≢ Some p))) (sym (ap (λ m. table m u) h.2.2 ∙ r.others u l d)) (go u l (on_place (table a u) p)))
    where
      q : Means strict (revoke p) (table a) (table h.0)
      q = means (revoke p) a h.0 h.1

      r : Means strict (release t) (table h.0) (table h.2.0)
      r = means (release t) h.0 h.2.0 h.2.1

      left : (u : ℕ) → table a u ≢ Some p → (table h.0 u ≡ table a u) ⊎ (table h.0 u ≡ None) → (table h.0 u ≡ None) ⊎ ((table h.0 u ≡ table a u) × (table a u ≢ Some p))
      left u d (inl e) = inr (e, d)
      left u d (inr e) = inl e

      go : (u : ℕ) → u < 16 → (table a u ≡ Some p) ⊎ (table a u ≢ Some p) → (table h.0 u ≡ None) ⊎ ((table h.0 u ≡ table a u) × (table a u ≢ Some p))
      go u l (inl e) = inl (q.struck u l e)
      go u l (inr d) = left u d (kept_or_none strict (table a u) (table h.0 u) (q.others u l d))

-- an entry is in a list
abbrev pub In : {K : Type 0} → Entry K → List (Entry K) → Type 0
In e [] = ⊥
In e (f ∷ fs) = (e ≡ f) ⊎ In e fs

module _ {K : Type 0} (e : Entry K) where
  pub in_middle : (xs : List (Entry K)) (ys : List (Entry K)) → In e (xs ++ e ∷ ys)
  in_middle [] ys = inl refl
  in_middle (x ∷ xs) ys = inr (in_middle xs ys)

  pub in_split : (xs : List (Entry K)) → In e xs → (fs : List (Entry K)) × (bs : List (Entry K)) × (xs ≡ fs ++ e ∷ bs)
  in_split [] h = absurd h
  in_split (x ∷ xs) (inl h) = ([], xs, ap {B = List (Entry K)} (λ y. y ∷ xs) (sym h))
  in_split (x ∷ xs) (inr h) = let r = in_split xs h in (x ∷ r.0, r.1, ap {B = List (Entry K)} (λ l. x ∷ l) r.2)

  pub in_inserted : (f : Entry K) (xs ys : List (Entry K)) → In e (xs ++ ys) → In e (xs ++ f ∷ ys)
  in_inserted f [] ys h = inr h
  in_inserted f (x ∷ xs) ys (inl h) = inl h
  in_inserted f (x ∷ xs) ys (inr h) = inr (in_inserted f xs ys h)

  pub in_removed : (f : Entry K) (xs ys : List (Entry K)) → e.place ≢ f.place → In e (xs ++ f ∷ ys) → In e (xs ++ ys)
  in_removed f [] ys d (inl h) = absurd (d (ap (λ (g : Entry K). g.place) h))
  in_removed f [] ys d (inr h) = h
  in_removed f (x ∷ xs) ys d (inl h) = inl h
  in_removed f (x ∷ xs) ys d (inr h) = inr (in_removed f xs ys d h)

-- a mark is none, or names a listed entry whose key is below x
abbrev pub Stands : {K : Type 0} → (K → K → Bool) → K → List (Entry K) → Option ℕ → Type 0
Stands below x listed None = Unit {0}
Stands {K} below x listed (Some p) = (y : K) × In (entry p y) listed × (below y x ≡ true)

pub standing : {K : Type 0} (below : K → K → Bool) (x : K) (listed : List (Entry K)) (mark : Option ℕ) → Stands below x listed mark → Standing below x listed mark
standing below x listed None h = nowhere
standing below x listed (Some p) h = let r = in_split (entry p h.0) listed h.1 in at r.0 p h.0 r.1 r.2 h.2

module _ {K : Type 0} (below : K → K → Bool) (x : K) where
  pub stands_none : (listed : List (Entry K)) (mark : Option ℕ) → mark ≡ None → Stands below x listed mark
  stands_none listed mark h = subst (Stands below x listed) (sym h) tt

  pub stands_kept : (listed : List (Entry K)) (mark mark' : Option ℕ) → (mark' ≡ mark) ⊎ (mark' ≡ None) → Stands below x listed mark → Stands below x listed mark'
  stands_kept listed mark mark' (inl e) h = subst (Stands below x listed) (sym e) h
  stands_kept listed mark mark' (inr e) h = stands_none listed mark' e

  pub stands_inserted : (f : Entry K) (xs ys : List (Entry K)) (mark : Option ℕ) → Stands below x (xs ++ ys) mark → Stands below x (xs ++ f ∷ ys) mark
  stands_inserted f xs ys None h = tt
  stands_inserted f xs ys (Some p) h = (h.0, in_inserted (entry p h.0) f xs ys h.1, h.2)

  pub stands_removed : (f : Entry K) (xs ys : List (Entry K)) (mark : Option ℕ) → mark ≢ Some f.place → Stands below x (xs ++ f ∷ ys) mark → Stands below x (xs ++ ys) mark
  stands_removed f xs ys None d h = tt
  stands_removed f xs ys (Some p) d h = (h.0, in_removed (entry p h.0) f xs ys (λ e. d (ap Some e)) h.1, h.2)

  -- after a remove, a mark that was not struck stands
  pub stands_struck : (f : Entry K) (xs ys : List (Entry K)) (mark mark' : Option ℕ) → (mark' ≡ None) ⊎ ((mark' ≡ mark) × (mark ≢ Some f.place)) → Stands below x (xs ++ f ∷ ys) mark → Stands below x (xs ++ ys) mark'
  stands_struck f xs ys mark mark' (inl e) h = stands_none (xs ++ ys) mark' e
  stands_struck f xs ys mark mark' (inr e) h = subst (Stands below x (xs ++ ys)) (sym e.0) (stands_removed f xs ys mark e.1 h)
