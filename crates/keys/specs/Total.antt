-- What it takes for keys to be in order. Assumes nothing.
use Rattle.std.specs.Prelude.{◌≡◌, Bool, true, false}

-- x and y are the same key where neither comes before the other
abbrev pub Same : {K : Type 0} → (K → K → Bool) → K → K → Type 0
Same below x y = (below x y ≡ false) × (below y x ≡ false)

-- a total order: no key comes before itself; coming before, and being the same, each carry over from key to key
pub record Total {K : Type 0} (below : K → K → Bool) : Type 0 where
  pub irreflexive : (x : K) → below x x ≡ false
  pub transitive : (x y z : K) → below x y ≡ true → below y z ≡ true → below x z ≡ true
  pub same_transitive : (x y z : K) → Same below x y → Same below y z → Same below x z
