-- The links and the anchor of a making. Assumes nothing.
use Rattle.std.specs.Prelude.{ℕ, ◌+◌, cond, Some, None, nat_lt}
use Rattle.list_law.specs.Call.{Link, Anchor}

-- the link to the place after `at`, of so many
abbrev pub next_number : ℕ → ℕ → Link
next_number at count = cond (nat_lt (at + 1) count) (Some (at + 1)) None

-- the anchor of an index that is just made: nothing is listed, and the first cell is the first free one
abbrev pub fresh : ℕ → ℕ → Anchor
fresh n w = record { count = n; window = w; head = None; free = Some 0 }
