-- A list read by `nth`, and written at one place. Assumes nothing.
use Rattle.std.proofs.Common.{◌≡◌, ℕ, zero, suc, ◌<◌, ◌≢◌, List, [], ◌∷◌, ◌++◌, length, set, Some, None, Option, refl, ap, ◌∙◌, arith, length-set}
use Rattle.std.specs.List.{slice_get}
use Rattle.list_law.specs.Call.{Cell, replaced, rewritten}

-- nothing is equal to something else: with `cc`, two constructors that are equal prove anything
pub clash : ◌≡◌ {A = ℕ} 0 1 → ⊥
clash h = omega arith

-- a value is there or it is not
pub none_some : {X : Type 0} {x : X} → None ≡ Some x → ⊥
none_some h = clash (cc)

pub some_inj : {X : Type 0} {x y : X} → Some x ≡ Some y → x ≡ y
some_inj h = cc

pub nth_set_same : {X : Type 0} (xs : List X) (i : ℕ) (a : X) {y : X} → slice_get xs i ≡ Some y → slice_get (set xs i a) i ≡ Some a
nth_set_same [] i a h = absurd (none_some h)
nth_set_same (x ∷ xs) zero a h = refl
nth_set_same (x ∷ xs) (suc i) a h = nth_set_same xs i a h

pub nth_set_other : {X : Type 0} (xs : List X) (i j : ℕ) (a : X) → j ≢ i → slice_get (set xs i a) j ≡ slice_get xs j
nth_set_other [] i j a h = refl
nth_set_other (x ∷ xs) zero zero a h = absurd (h refl)
nth_set_other (x ∷ xs) zero (suc j) a h = refl
nth_set_other (x ∷ xs) (suc i) zero a h = refl
nth_set_other (x ∷ xs) (suc i) (suc j) a h = nth_set_other xs i j a (λ e. h (ap suc e))

pub nth_lt : {X : Type 0} (xs : List X) (i : ℕ) {y : X} → slice_get xs i ≡ Some y → i < length xs
nth_lt [] i h = absurd (none_some h)
nth_lt (x ∷ xs) zero h = omega arith
nth_lt (x ∷ xs) (suc i) h = let l = nth_lt xs i h in omega arith

pub nth_there : {X : Type 0} (xs : List X) (i : ℕ) → i < length xs → (y : X) × (slice_get xs i ≡ Some y)
nth_there [] i h = absurd (omega arith)
nth_there (x ∷ xs) zero h = (x, refl)
nth_there (x ∷ xs) (suc i) h = nth_there xs i (omega arith)

-- the element behind a front
pub nth_at : {X : Type 0} (xs : List X) (y : X) (ys : List X) → slice_get (xs ++ y ∷ ys) (length xs) ≡ Some y
nth_at [] y ys = refl
nth_at (x ∷ xs) y ys = nth_at xs y ys

module _ {K : Type 0} (cs : List (Cell K)) (p : ℕ) (f : Cell K → Cell K) where
  pub rewritten_same : {c : Cell K} → slice_get cs p ≡ Some c → slice_get (rewritten cs p f) p ≡ Some (f c)
  rewritten_same {c} h = ap (λ o. slice_get (replaced cs p f o) p) h ∙ nth_set_same cs p (f c) h

  replaced_other : (r : ℕ) → r ≢ p → (o : Option (Cell K)) → slice_get (replaced cs p f o) r ≡ slice_get cs r
  replaced_other r h None = refl
  replaced_other r h (Some c) = nth_set_other cs p r (f c) h

  pub rewritten_other : (r : ℕ) → r ≢ p → slice_get (rewritten cs p f) r ≡ slice_get cs r
  rewritten_other r h = replaced_other r h (slice_get cs p)

  length_replaced : (o : Option (Cell K)) → length (replaced cs p f o) ≡ length cs
  length_replaced None = refl
  length_replaced (Some c) = length-set cs p (f c)

  pub length_rewritten : length (rewritten cs p f) ≡ length cs
  length_rewritten = length_replaced (slice_get cs p)
