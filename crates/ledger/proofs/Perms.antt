-- Keys in another order: what does not depend on the order. Assumes nothing.
use Rattle.std.proofs.Common.{◌≡◌, suc, ◌+◌, Bool, true, false, cond, ◌&&◌, ◌||◌, List, [], ◌∷◌, ◌++◌, length, refl, ap, ◌∙◌, arith}
use Rattle.ledger.specs.Ledger.{same, holds, without}
use Rattle.ledger.specs.Keys.{Permuted, none, keep, exchange, then, between}

pub permuted_refl : {K : Type 0} (xs : List K) → Permuted xs xs
permuted_refl [] = none
permuted_refl (x ∷ xs) = keep (permuted_refl xs)

-- a key at the front may as well stand in the middle
pub permuted_middle : {K : Type 0} (x : K) (xs ys : List K) → Permuted (x ∷ (xs ++ ys)) (xs ++ x ∷ ys)
permuted_middle x [] ys = permuted_refl (x ∷ ys)
permuted_middle x (z ∷ xs) ys = then exchange (keep (permuted_middle x xs ys))

pub length_permuted : {K : Type 0} {xs ys : List K} → Permuted xs ys → length xs ≡ length ys
length_permuted none = refl
length_permuted (keep r) = ap suc (length_permuted r)
length_permuted exchange = refl
length_permuted (then r q) = length_permuted r ∙ length_permuted q

or_swap : (a b c : Bool) → (a || (b || c)) ≡ (b || (a || c))
or_swap true true c = refl
or_swap true false c = refl
or_swap false b c = refl

module _ {K : Type 0} (below : K → K → Bool) (x : K) where
  pub holds_permuted : {xs ys : List K} → Permuted xs ys → holds below x xs ≡ holds below x ys
  holds_permuted none = refl
  holds_permuted (keep {x = y} r) = ap (λ b. same below x y || b) (holds_permuted r)
  holds_permuted (exchange {x = y} {y = z} {xs = xs}) = or_swap (same below x y) (same below x z) (holds below x xs)
  holds_permuted (then r q) = holds_permuted r ∙ holds_permuted q

  without_keep : (b : Bool) (y : K) {xs ys : List K} → Permuted xs ys → Permuted (cond b xs (y ∷ xs)) (cond b ys (y ∷ ys))
  without_keep true y r = r
  without_keep false y r = keep r

  without_swap : (a b : Bool) (y z : K) (xs : List K) → Permuted (cond a (cond b xs (z ∷ xs)) (y ∷ cond b xs (z ∷ xs))) (cond b (cond a xs (y ∷ xs)) (z ∷ cond a xs (y ∷ xs)))
  without_swap true true y z xs = permuted_refl xs
  without_swap true false y z xs = permuted_refl (z ∷ xs)
  without_swap false true y z xs = permuted_refl (y ∷ xs)
  without_swap false false y z xs = exchange

  pub without_permuted : {xs ys : List K} → Permuted xs ys → Permuted (without below x xs) (without below x ys)
  without_permuted none = none
  without_permuted (keep {x = y} r) = without_keep (same below x y) y (without_permuted r)
  without_permuted (exchange {x = y} {y = z} {xs = xs}) = without_swap (same below x y) (same below x z) y z (without below x xs)
  without_permuted (then r q) = then (without_permuted r) (without_permuted q)

  pub between_permuted : (far : K → Bool) {xs ys : List K} → Permuted xs ys → between below far x xs ≡ between below far x ys
  between_permuted far none = refl
  between_permuted far (keep {x = y} r) = ap (λ n. cond (far y && below y x) 1 0 + n) (between_permuted far r)
  between_permuted far (exchange {x = y} {y = z} {xs = xs}) = omega arith
  between_permuted far (then r q) = between_permuted far r ∙ between_permuted far q
