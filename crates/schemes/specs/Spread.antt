-- The spread of the places over sixteen slots. Assumes nothing.
use Rattle.std.specs.Prelude.{◌≡◌, ℕ, ◌%◌, List, [], ◌∷◌, length, slice_index}

-- which slot stands for a place, by the place's number modulo 16
abbrev pub entries : List ℕ
entries = 0 ∷ 7 ∷ 14 ∷ 5 ∷ 12 ∷ 3 ∷ 10 ∷ 1 ∷ 8 ∷ 15 ∷ 6 ∷ 13 ∷ 4 ∷ 11 ∷ 2 ∷ 9 ∷ []

-- the slot of a place; whoever uses it needs only that it is below 16
unfoldable pub slot : ℕ → ℕ
slot p = slice_index entries (p % 16)

-- there is a mark for each of sixteen seats, and something kept for each of sixteen slots
abbrev pub Sixteens : {X Y : Type 0} → List X → List Y → Type 0
Sixteens marks kept = (length marks ≡ 16) × (length kept ≡ 16)
