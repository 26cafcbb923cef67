-- The order of wear keys. Assumes nothing.
use Rattle.std.specs.Prelude.{ℕ, Bool, ◌&&◌, ◌||◌, ◌==◌, nat_lt}
use Rattle.key_types.specs.declared.wear.Wear.{Wear}

-- the key of a block that was erased so often
abbrev pub wear : ℕ → ℕ → Wear
wear n b = record { count = n; block = b }

-- counts decide first, then blocks
abbrev pub wear_below : Wear → Wear → Bool
wear_below x y = nat_lt x.count y.count || (x.count == y.count && nat_lt x.block y.block)
