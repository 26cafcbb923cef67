-- The meaning of a scheme: for each of the sixteen seats its mark, and what each order may make of the marks.
-- Assumes nothing.
use Rattle.std.specs.Prelude.{◌≡◌, ℕ, ◌<◌, Bool, false, ◌≢◌, ◌⊎◌, List, [], ◌∷◌, Some, None, Option}

-- for each seat number the place that the seat has marked, or none; only the entries below 16 mean anything
abbrev pub Table : Type 0
Table = ℕ → Option ℕ

-- what a scheme is told to do: seat t lets its mark go, seat t marks place p, every mark on place p is struck
pub data Order : Type 0 where
  release : ℕ → Order
  reserve : ℕ → ℕ → Order
  revoke : ℕ → Order

-- the seat that an order speaks of is one of the sixteen
abbrev pub Seated : Order → Type 0
Seated (release t) = t < 16
Seated (reserve t p) = t < 16
Seated (revoke p) = Unit {0}

-- a mark that an order does not speak of stays as it was; a relaxed scheme may drop it instead
abbrev pub Kept : Bool → Option ℕ → Option ℕ → Type 0
Kept strict before after = (after ≡ before) ⊎ ((strict ≡ false) × (after ≡ None))

-- seat t has marked place p, in place of any former mark
pub record Reserved (strict : Bool) (t p : ℕ) (before after : Table) : Type 0 where
  pub own : after t ≡ Some p
  pub others : (u : ℕ) → u < 16 → u ≢ t → Kept strict (before u) (after u)

-- seat t has no mark, and nothing else has changed
pub record Released (t : ℕ) (before after : Table) : Type 0 where
  pub own : after t ≡ None
  pub others : (u : ℕ) → u < 16 → u ≢ t → after u ≡ before u

-- every mark on place p is none
pub record Revoked (strict : Bool) (p : ℕ) (before after : Table) : Type 0 where
  pub struck : (u : ℕ) → u < 16 → before u ≡ Some p → after u ≡ None
  pub others : (u : ℕ) → u < 16 → before u ≢ Some p → Kept strict (before u) (after u)

-- what an order means
abbrev pub Means : Bool → Order → Table → Table → Type 0
Means strict (release t) = Released t
Means strict (reserve t p) = Reserved strict t p
Means strict (revoke p) = Revoked strict p

-- orders carried out one after another
abbrev pub Along : {S : Type 0} → (Order → S → S → Type 0) → List Order → S → S → Type 0
Along acts [] a c = c ≡ a
Along {S} acts (o ∷ os) a c = (b : S) × acts o a b × Along acts os b c
