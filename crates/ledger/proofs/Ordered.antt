-- Keys in order: what a total order gives, lists of keys that rise, and tests on the set. Assumes nothing.
use Rattle.std.proofs.Common.{◌≡◌, ℕ, ◌+◌, Bool, true, false, cond, not, ◌&&◌, ◌||◌, List, [], ◌∷◌, ◌++◌, length, refl, ap, arith}
use Rattle.std.proofs.lemmas.Bool.{both_ways}
use Rattle.keys.specs.Total.{Total}
use Rattle.ledger.specs.Ledger.{same, holds, without}
use Rattle.ledger.specs.Keys.{Every, Rises, between}

-- tests that pass everywhere

module _ {K : Type 0} (f : K → Bool) where
  pub every_join : (xs ys : List K) → Every f xs → Every f ys → Every f (xs ++ ys)
  every_join [] ys h k = k
  every_join (x ∷ xs) ys h k = (h.0, every_join xs ys h.1 k)

  pub every_left : (xs ys : List K) → Every f (xs ++ ys) → Every f xs
  every_left [] ys h = tt
  every_left (x ∷ xs) ys h = (h.0, every_left xs ys h.1)

  pub every_right : (xs ys : List K) → Every f (xs ++ ys) → Every f ys
  every_right [] ys h = h
  every_right (x ∷ xs) ys h = every_right xs ys h.1

  pub every_if : (g : K → Bool) → ((y : K) → f y ≡ true → g y ≡ true) → (xs : List K) → Every f xs → Every g xs
  every_if g step [] h = tt
  every_if g step (x ∷ xs) h = (step x h.0, every_if g step xs h.1)

-- a list that rises, with a key taken out or put in

module _ {K : Type 0} (below : K → K → Bool) where
  pub rises_right : (xs ys : List K) → Rises below (xs ++ ys) → Rises below ys
  rises_right [] ys h = h
  rises_right (x ∷ xs) ys h = rises_right xs ys h.1

  pub rises_above : (xs : List K) (y : K) (ys : List K) → Rises below (xs ++ y ∷ ys) → Every (below y) ys
  rises_above xs y ys h = (rises_right xs (y ∷ ys) h).0

  pub rises_below : (xs : List K) (y : K) (ys : List K) → Rises below (xs ++ y ∷ ys) → Every (λ z. below z y) xs
  rises_below [] y ys h = tt
  rises_below (x ∷ xs) y ys h = ((every_right (below x) xs (y ∷ ys) h.0).0, rises_below xs y ys h.1)

  pub rises_removed : (xs : List K) (y : K) (ys : List K) → Rises below (xs ++ y ∷ ys) → Rises below (xs ++ ys)
  rises_removed [] y ys h = h.1
  rises_removed (x ∷ xs) y ys h =
      (every_join (below x) xs ys (every_left (below x) xs (y ∷ ys) h.0) (every_right (below x) xs (y ∷ ys) h.0).1, rises_removed xs y ys h.1)

  pub rises_inserted : (xs : List K) (y : K) (ys : List K) → Every (λ z. below z y) xs → Every (below y) ys → Rises below (xs ++ ys) → Rises below (xs ++ y ∷ ys)
  rises_inserted [] y ys lo hi h = (hi, h)
  rises_inserted (x ∷ xs) y ys lo hi h =
      (every_join (below x) xs (y ∷ ys) (every_left (below x) xs ys h.0) (lo.0, every_right (below x) xs ys h.0), rises_inserted xs y ys lo.1 hi h.1)

  -- tests on the set
  same_false_left : (x y : K) → below x y ≡ true → same below x y ≡ false
  same_false_left x y h = rw h

  and_false : (a : Bool) → (a && false) ≡ false
  and_false true = refl
  and_false false = refl

  same_false_right : (x y : K) → below y x ≡ true → same below x y ≡ false
  same_false_right x y h = rw h (and_false (not (below x y)))

  pub same_true : (x y : K) → below x y ≡ false → below y x ≡ false → same below x y ≡ true
  same_true x y h k = rw (h, k)

  pub holds_append : (x : K) (xs ys : List K) → holds below x (xs ++ ys) ≡ (holds below x xs || holds below x ys)
  holds_append x [] ys = refl
  holds_append x (y ∷ xs) ys = step (same below x y) (holds below x (xs ++ ys)) (holds below x xs) (holds below x ys) (holds_append x xs ys)
    where
      step : (b c d e : Bool) → c ≡ (d || e) → (b || c) ≡ ((b || d) || e)
      step true c d e h = refl
      step false c d e h = h

  pub without_append : (x : K) (xs ys : List K) → without below x (xs ++ ys) ≡ without below x xs ++ without below x ys
  without_append x [] ys = refl
  without_append x (y ∷ xs) ys = step (same below x y) (without below x (xs ++ ys)) (without below x xs) (without below x ys) (without_append x xs ys)
    where
      step : (b : Bool) (c d e : List K) → c ≡ d ++ e → cond b c (y ∷ c) ≡ cond b d (y ∷ d) ++ e
      step true c d e h = h
      step false c d e h = ap {B = List K} (λ r. y ∷ r) h

  pub holds_low : (x : K) (ys : List K) → Every (λ z. below z x) ys → holds below x ys ≡ false
  holds_low x [] h = refl
  holds_low x (y ∷ ys) h = rw (same_false_right x y h.0) (holds_low x ys h.1)

  pub holds_high : (x : K) (ys : List K) → Every (below x) ys → holds below x ys ≡ false
  holds_high x [] h = refl
  holds_high x (y ∷ ys) h = rw (same_false_left x y h.0) (holds_high x ys h.1)

  pub without_low : (x : K) (ys : List K) → Every (λ z. below z x) ys → without below x ys ≡ ys
  without_low x [] h = refl
  without_low x (y ∷ ys) h = rw (same_false_right x y h.0) (ap {B = List K} (λ r. y ∷ r) (without_low x ys h.1))

  pub without_high : (x : K) (ys : List K) → Every (below x) ys → without below x ys ≡ ys
  without_high x [] h = refl
  without_high x (y ∷ ys) h = rw (same_false_left x y h.0) (ap {B = List K} (λ r. y ∷ r) (without_high x ys h.1))

  pub between_append : (far : K → Bool) (x : K) (xs ys : List K) → between below far x (xs ++ ys) ≡ between below far x xs + between below far x ys
  between_append far x [] ys = omega arith
  between_append far x (y ∷ xs) ys = let h = between_append far x xs ys in omega arith

  pub between_all : (far : K → Bool) (x : K) (ys : List K) → Every far ys → Every (λ z. below z x) ys → between below far x ys ≡ length ys
  between_all far x [] h k = refl
  between_all far x (y ∷ ys) h k = let r = between_all far x ys h.1 k.1 in rw (h.0, k.0) (omega arith)

  pub between_near : (far : K → Bool) (x : K) (ys : List K) → Every (λ z. not (far z)) ys → between below far x ys ≡ 0
  between_near far x [] h = refl
  between_near far x (y ∷ ys) h = near (far y) (below y x) h.0 (between_near far x ys h.1)
    where
      near : (b c : Bool) → not b ≡ true → {n : ℕ} → n ≡ 0 → cond (b && c) 1 0 + n ≡ 0
      near true c h r = absurd (both_ways false refl h)
      near false c h r = omega arith

  pub between_past : (far : K → Bool) (x : K) (ys : List K) → Every (λ z. not (below z x)) ys → between below far x ys ≡ 0
  between_past far x [] h = refl
  between_past far x (y ∷ ys) h = near (far y) (below y x) h.0 (between_past far x ys h.1)
    where
      near : (c b : Bool) → not b ≡ true → {n : ℕ} → n ≡ 0 → cond (c && b) 1 0 + n ≡ 0
      near c true h r = absurd (both_ways false refl h)
      near true false h r = omega arith
      near false false h r = omega arith

-- what a total order gives

module _ {K : Type 0} (below : K → K → Bool) (order : Total below) where
  pub asymmetric : (x y : K) → below x y ≡ true → below y x ≡ false
  asymmetric x y h = go (below y x) refl
    where
      go : (b : Bool) → below y x ≡ b → below y x ≡ false
      go true e = absurd (both_ways (below x x) (order.irreflexive x) (order.transitive x y x h e))
      go false e = e

  -- what is above a key is above every key that is the same
  pub same_above : (x y z : K) → below x y ≡ false → below y x ≡ false → below y z ≡ true → below x z ≡ true
  same_above x y z xy yx yz = go (below x z) refl (below z x) refl
    where
      go : (a : Bool) → below x z ≡ a → (b : Bool) → below z x ≡ b → below x z ≡ true
      go true e b f = e
      go false e true f = absurd (both_ways (below y x) yx (order.transitive y z x yz f))
      go false e false f = absurd (both_ways (below y z) (order.same_transitive y x z (yx, xy) (e, f)).0 yz)

  pub above_all : (x y : K) (ys : List K) → below x y ≡ true → Every (below y) ys → Every (below x) ys
  above_all x y ys h = every_if (below y) (below x) (λ z k. order.transitive x y z h k) ys

  pub below_all : (x y : K) (ys : List K) → below y x ≡ true → Every (λ z. below z y) ys → Every (λ z. below z x) ys
  below_all x y ys h = every_if (λ z. below z y) (λ z. below z x) (λ z k. order.transitive z y x k h) ys

  pub same_above_all : (x y : K) (ys : List K) → below x y ≡ false → below y x ≡ false → Every (below y) ys → Every (below x) ys
  same_above_all x y ys h k = every_if (below y) (below x) (λ z l. same_above x y z h k l) ys

  pub high_not_below : (x : K) (ys : List K) → Every (below x) ys → Every (λ z. not (below z x)) ys
  high_not_below x ys = every_if (below x) (λ z. not (below z x)) (λ z k. ap not (asymmetric x z k)) ys

  pub low_not_above : (x : K) (ys : List K) → Every (λ z. below z x) ys → Every (λ z. not (below x z)) ys
  low_not_above x ys = every_if (λ z. below z x) (λ z. not (below x z)) (λ z k. ap not (asymmetric z x k)) ys
