-- Marks by number. Assumes nothing.
use Rattle.std.specs.Prelude.{◌≡◌, ℕ, ◌<◌, None, Option}
use Rattle.std.specs.Option.{option_map}
use Rattle.basis.specs.declared.bounded.Bounded.{Bounded}
use Rattle.marks.specs.Meaning.{Table}

-- a mark by the number of its place, an owner by the number of its seat
abbrev pub numbered : {END : ℕ} → Option (Bounded END) → Option ℕ
numbered {END} m = option_map (λ (b : Bounded END). b.number) m

-- no seat has a mark
abbrev pub Unmarked : Table → Type 0
Unmarked table = (u : ℕ) → u < 16 → table u ≡ None
