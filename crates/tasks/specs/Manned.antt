-- The seats of the two tasks. Assumes nothing.
use Rattle.std.specs.Prelude.{◌≡◌, ℕ, ◌≢◌}
use Rattle.list_law.specs.Call.{State}
use Rattle.list.specs.Slips.{Held}

-- host and cleaner hold these seats, which are two, and no interrupt is masked
pub record Manned {K M : Type 0} (s : State K M) (h k masked : ℕ) : Type 0 where
  pub host : Held s h
  pub cleaner : Held s k
  pub apart : h ≢ k
  pub level : masked ≡ 0
