-- What an export leaves in the room that C lends. Assumes nothing.
use Rattle.std.specs.Prelude.{◌≡◌, ℕ, ◌<◌, ◌-◌, ◌^◌, ◌⊎◌, List, ◌++◌, length, drop}
use Rattle.replay.specs.Texts.{Replayed}

-- a text stands at the front of the room, the rest of which is as it was, and the number is its length; or it is longer than the room,
-- which is as it was, and the number is the second largest of 64 bits
abbrev pub Placed : List ℕ → List ℕ → List ℕ → ℕ → Type 0
Placed text before after n =
    ((n ≡ length text) × (after ≡ text ++ drop n before)) ⊎ ((length before < length text) × ((n ≡ 2 ^ 64 - 2) × (after ≡ before)))

-- the text that answers the bytes is placed
pub record Written (bytes before after : List ℕ) (n : ℕ) : Type 0 where
  pub text : List ℕ
  pub replayed : Replayed bytes text
  pub placed : Placed text before after n

-- memory ran out: the room is as it was, and the number is the largest of 64 bits
pub record OutOfMemory (before after : List ℕ) (n : ℕ) : Type 0 where
  pub number : n ≡ 2 ^ 64 - 1
  pub room : after ≡ before

abbrev pub Exported : List ℕ → List ℕ → List ℕ → ℕ → Type 0
Exported bytes before after n = Written bytes before after n ⊎ OutOfMemory before after n
