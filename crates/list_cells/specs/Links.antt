-- The link that a cell keeps. Assumes nothing.
use Rattle.std.specs.Prelude.{ℕ, cond, Some, None, Option, nat_lt}

-- the place that a link of this number leads to; a number past those of all places is the end
unfoldable pub place_named : ℕ → Option ℕ
place_named n = cond (nat_lt n 1008) (Some n) None
