-- Sectors, and their order. Assumes nothing.
use Rattle.std.specs.Prelude.{ℕ, Bool, nat_lt}
use Rattle.key_types.specs.declared.sector.Sector.{Sector}

-- the sector of this number
abbrev pub sector : ℕ → Sector
sector n = record { number = n }

-- sectors are in order of their numbers
abbrev pub sector_below : Sector → Sector → Bool
sector_below x y = nat_lt x.number y.number
