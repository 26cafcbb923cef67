-- The owner scheme, by numbers: a mark for each seat and an owner for each slot. Assumes nothing.
use Rattle.std.specs.Prelude.{ℕ, cond, List, map, replicate, Some, None, Option, slice_index_or, slice_set}
use Rattle.schemes.specs.declared.owner.Owner.{Owner}
use Rattle.marks.specs.Meaning.{Order, Table}
use Rattle.marks.specs.Meaning.Order.{release, reserve, revoke}
use Rattle.marks.specs.Marks.{numbered}
use Rattle.schemes.specs.Clearing.{names}
use Rattle.schemes.specs.Spread.{slot}

-- for each seat the place that it has marked, or none; for each slot the seat that owns it, or nobody
pub record Owned : Type 0 where
  pub marks : List (Option ℕ)
  pub owners : List (Option ℕ)

abbrev pub owned : List (Option ℕ) → List (Option ℕ) → Owned
owned ms os = record { marks = ms; owners = os }

abbrev pub owner_state : Owner → Owned
owner_state s = owned (map numbered s.marks) (map numbered s.owners)

-- no seat has a mark, and nobody owns a slot
abbrev pub owner_new : Owned
owner_new = owned (replicate 16 None) (replicate 16 None)

-- seat t marks place p and owns its slot
abbrev pub owner_reserve : Owned → ℕ → ℕ → Owned
owner_reserve s t p = owned (slice_set s.marks t (Some p)) (slice_set s.owners (slot p) (Some t))

-- seat t has no mark; its slots stay its own
abbrev pub owner_release : Owned → ℕ → Owned
owner_release s t = owned (slice_set s.marks t None) s.owners

-- nobody owns the slot of place p; the marks stay
abbrev pub owner_revoke : Owned → ℕ → Owned
owner_revoke s p = owned s.marks (slice_set s.owners (slot p) None)

abbrev pub owner_act : Order → Owned → Owned
owner_act (release t) s = owner_release s t
owner_act (reserve t p) s = owner_reserve s t p
owner_act (revoke p) s = owner_revoke s p

-- the mark, if there is one and seat t owns its slot
abbrev pub if_owned : List (Option ℕ) → ℕ → Option ℕ → Option ℕ
if_owned owners t None = None
if_owned owners t (Some p) = cond (names t (slice_index_or owners (slot p) None)) (Some p) None

abbrev pub owner_get : Owned → Table
owner_get s t = if_owned s.owners t (slice_index_or s.marks t None)
