-- Keys in lists: tests that pass at each, keys that rise, the same keys in another order, keys counted. Assumes nothing.
use Rattle.std.specs.Prelude.{◌≡◌, ℕ, ◌+◌, Bool, true, cond, ◌&&◌, List, [], ◌∷◌}

-- the test passes at every key
abbrev pub Every : {K : Type 0} → (K → Bool) → List K → Type 0
Every f [] = Unit {0}
Every f (y ∷ ys) = (f y ≡ true) × Every f ys

-- each key is below every later one
abbrev pub Rises : {K : Type 0} → (K → K → Bool) → List K → Type 0
Rises below [] = Unit {0}
Rises below (x ∷ xs) = Every (below x) xs × Rises below xs

-- the same keys, in another order
pub data Permuted {K : Type 0} : List K → List K → Type 0 where
  none : Permuted [] []
  keep : {x : K} {xs ys : List K} → Permuted xs ys → Permuted (x ∷ xs) (x ∷ ys)
  exchange : {x y : K} {xs : List K} → Permuted (x ∷ (y ∷ xs)) (y ∷ (x ∷ xs))
  then : {xs ys zs : List K} → Permuted xs ys → Permuted ys zs → Permuted xs zs

-- how many keys pass the test `far` and are below x
abbrev pub between : {K : Type 0} → (K → K → Bool) → (K → Bool) → K → List K → ℕ
between below far x [] = 0
between below far x (y ∷ ys) = cond (far y && below y x) 1 0 + between below far x ys
