-- What users of the spread need: it has sixteen slots. Assumes nothing.
use Rattle.std.proofs.Common.{ℕ, ◌%◌, ◌<◌, Bool, true, ◌&&◌, ltb, List, [], ◌∷◌, refl, lit<}
use Rattle.std.proofs.lemmas.Nat.{mod_below}
use Rattle.std.proofs.ByRecursion.{All-get_or, Decides-by_and}
use Rattle.std.proofs.lemmas.Bool.Decides.{Decides-ltb}
use Rattle.schemes.specs.Spread.{entries, slot}

-- a test of the whole table
abbrev small : List ℕ → Bool
small [] = true
small (x ∷ xs) = ltb x 16 && small xs

pub slot_below : (p : ℕ) → slot p < 16
unfolding slot
slot_below p =
    All-get_or (λ e. e < 16) entries (p % 16) 0 (mod_below p 16 (lit< tt))
    ((Decides-by_and (λ x. ltb x 16) (λ x. x < 16) small (λ x. Decides-ltb x 16) refl (λ _ _. refl) entries).0 refl)
