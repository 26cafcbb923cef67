-- The version scheme, by numbers: a counter for each slot, and marks that keep the counter seen at their reserve.
-- Assumes nothing.
use Rattle.std.specs.Prelude.{◌≡◌, ℕ, ◌+◌, ◌≤◌, Bool, false, cond, List, map, replicate, Some, None, Option, ◌==◌, slice_index, slice_index_or, slice_set}
use Rattle.std.specs.Option.{option_map}
use Rattle.basis.specs.declared.bounded.Bounded.{Bounded}
use Rattle.schemes.specs.declared.version.Stamped.{Stamped}
use Rattle.schemes.specs.declared.version.Stamps.{Stamps}
use Rattle.marks.specs.Meaning.{Order, Table}
use Rattle.marks.specs.Meaning.Order.{release, reserve, revoke}
use Rattle.schemes.specs.Clearing.{cleared}
use Rattle.schemes.specs.Spread.{slot}

-- a mark: its place, and the counter of the place's slot when it was made
pub record Dated : Type 0 where
  pub place : ℕ
  pub counter : ℕ

abbrev pub dated : ℕ → ℕ → Dated
dated p c = record { place = p; counter = c }

-- for each seat its mark, or none; for each slot its counter
pub record Versioned : Type 0 where
  pub marks : List (Option Dated)
  pub counters : List ℕ

abbrev pub versioned : List (Option Dated) → List ℕ → Versioned
versioned ms cs = record { marks = ms; counters = cs }

abbrev pub dated_of : Stamped → Dated
dated_of m = dated m.place.number m.counter

abbrev pub stamped : Bounded 1008 → ℕ → Stamped
stamped p c = record { place = p; counter = c }

abbrev pub version_state : Stamps → Versioned
version_state s = versioned (map (option_map dated_of) s.marks) s.counters

-- no seat has a mark, and all counters are n
abbrev pub version_new : ℕ → Versioned
version_new n = versioned (replicate 16 None) (replicate 16 n)

-- the counter of the slot of place p
abbrev pub counter_of : List ℕ → ℕ → ℕ
counter_of counters p = slice_index counters (slot p)

-- seat t marks place p, with the counter of its slot
abbrev pub version_reserve : Versioned → ℕ → ℕ → Versioned
version_reserve s t p = versioned (slice_set s.marks t (Some (dated p (counter_of s.counters p)))) s.counters

-- seat t has no mark
abbrev pub version_release : Versioned → ℕ → Versioned
version_release s t = versioned (slice_set s.marks t None) s.counters

-- whether a mark is kept in slot k
abbrev pub kept_in : ℕ → Option Dated → Bool
kept_in k None = false
kept_in k (Some m) = slot m.place == k

-- the counter of slot k goes one up
abbrev pub raised : Versioned → ℕ → Versioned
raised s k = versioned s.marks (slice_set s.counters k (slice_index s.counters k + 1))

-- the counter of slot k goes to 0, and all marks kept in the slot are cleared
abbrev pub restarted : Versioned → ℕ → Versioned
restarted s k = versioned (cleared (kept_in k) s.marks) (slice_set s.counters k 0)

-- the counter of the slot of place p goes one up; the last of 32 bits starts again
abbrev pub version_revoke : Versioned → ℕ → Versioned
version_revoke s p = cond (counter_of s.counters p == 4294967295) (restarted s (slot p)) (raised s (slot p))

abbrev pub version_act : Order → Versioned → Versioned
version_act (release t) s = version_release s t
version_act (reserve t p) s = version_reserve s t p
version_act (revoke p) s = version_revoke s p

-- the mark, if there is one and the counter of its slot is still the one it keeps
abbrev pub if_current : List ℕ → Option Dated → Option ℕ
if_current counters None = None
if_current counters (Some m) = cond (counter_of counters m.place == m.counter) (Some m.place) None

abbrev pub version_get : Versioned → Table
version_get s t = if_current s.counters (slice_index_or s.marks t None)

-- no mark keeps a counter that its slot has yet to reach, so no counter that goes up brings a mark back
abbrev pub NoneAhead : Versioned → Type 0
NoneAhead s = (u p c : ℕ) → slice_index_or s.marks u None ≡ Some (dated p c) → c ≤ counter_of s.counters p
