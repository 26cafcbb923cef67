-- The worked examples, of runs, schemes and keys, over the definitions that the contracts cite. Assumes nothing.
use Rattle.std.specs.Prelude.{◌≡◌, ℕ, true, false, Some, None}
use Rattle.key_types.specs.declared.sector.Sector.{Sector}
use Rattle.key_types.specs.Wear.{wear, wear_below}
use Rattle.marks.specs.Meaning.Order.{reserve, revoke}
use Rattle.schemes.specs.Spread.{slot}
use Rattle.schemes.specs.Owner.{Owned, owner_new, owner_act, owner_get}
use Rattle.schemes.specs.Version.{Versioned, version_new, version_act, version_get}
use Rattle.list_law.specs.Call.{Cell}
use Rattle.worked_examples.specs.Worked.{PlaceUsedAgain, BoundMet}
use Rattle.worked_examples.specs.Scattered.{Scattered}

-- seat 0 has marked place 0
abbrev pub owner_marked : Owned
owner_marked = owner_act (reserve 0 0) owner_new

-- counters at their last number, and seat 0 has marked place 1
abbrev pub version_marked : Versioned
version_marked = version_act (reserve 0 1) (version_new 4294967295)

-- all of them together: the place that is used again, the steps that the bound allows seat 0 with window 1, and the slot that two places share
pub record Examples (place steps shared : ℕ) : Type 0 where
  -- the runs on three cells, whatever these held when they were given
  pub place_used_again : (a b c : Cell Sector) → PlaceUsedAgain a b c place
  -- the bound is met: by seat 0; by a seat whose first window meets two cells; and by one whose first window may meet more than there are
  pub bound_met : (a b c : Cell Sector) → BoundMet a b c 1 0 steps
  pub bound_met_from_two : (a b c : Cell Sector) → BoundMet a b c 2 1 2
  pub bound_met_at_once : (a b c : Cell Sector) → BoundMet a b c 4 3 1
  -- sixteen seats that begin together wait at sixteen cells
  pub scattered : (given : Cell Sector) → Scattered given 16
  -- places 0 and 16 share a slot: seat 0 has its mark until seat 1 reserves
  pub owned : owner_get owner_marked 0 ≡ Some 0
  pub taken : owner_get (owner_act (reserve 1 16) owner_marked) 0 ≡ None
  -- places 1 and 17 share a slot, whose counter starts again at 0
  pub current : version_get version_marked 0 ≡ Some 1
  pub outdated : version_get (version_act (revoke 17) version_marked) 0 ≡ None
  pub slot_of_3 : slot 3 ≡ shared
  pub slot_of_19 : slot 19 ≡ shared
  -- counts decide before blocks
  pub count_first : wear_below (wear 2874 65535) (wear 2875 0) ≡ true
  pub not_back : wear_below (wear 2875 0) (wear 2874 65535) ≡ false
