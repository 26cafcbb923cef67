-- Worked runs on sectors and the full scheme, over three cells: a place that is used again, with window 2 and seats 0 and 1; and lookups that
-- take as many steps as the bound allows. Assumes nothing.
use Rattle.std.specs.Prelude.{◌≡◌, ℕ, pred, ◌+◌, List, [], ◌∷◌, ◌++◌, replicate, Some, None, Option, true}
use Rattle.std.specs.List.{slice_get}
use Rattle.basis.specs.declared.kind.Kind.{Kind}
use Rattle.basis.specs.declared.kind.Kind.TheVariants.{Lookup, Insert, Remove}
use Rattle.basis.specs.declared.answer.Answer.{Answer}
use Rattle.basis.specs.declared.answer.Answer.TheVariants.{No, Yes, Wait, Full}
use Rattle.key_types.specs.declared.sector.Sector.{Sector}
use Rattle.key_types.specs.Sector.{sector, sector_below}
use Rattle.marks.specs.Meaning.{Order}
use Rattle.marks.specs.Carried.{ActsBy}
use Rattle.schemes.specs.Full.{full_new, full_act, full_get}
use Rattle.ledger.specs.Ledger.{What, join, begin, step}
use Rattle.ledger.specs.Law.{Event, Index, Run, count, changes, steps_of, ends_of}
use Rattle.list_law.specs.Call.{Cell, cell, State}
use Rattle.list_law.specs.Law.{list_index, limit}
use Rattle.list_law.specs.Making.{made_of}
use Rattle.list_law.specs.Performed.{Ask, after, events, answers}

-- the marks of the full scheme, by numbers
abbrev pub FullMarks : Type 0
FullMarks = List (Option ℕ)

-- what the full scheme makes of an order, exactly
abbrev pub full_acts : Order → FullMarks → FullMarks → Type 0
full_acts = ActsBy (λ ms. ms) full_act

-- the index on sectors over the full scheme
abbrev pub sectors_over_full : Index Sector
sectors_over_full = list_index sector_below full_get true full_acts

-- what a making over these cells with this window leaves
abbrev pub made_over : List (Cell Sector) → ℕ → State Sector FullMarks
made_over cs w = made_of cs w full_new

abbrev pub three_cells : Cell Sector → Cell Sector → Cell Sector → ℕ → State Sector FullMarks
three_cells a b c w = made_over (a ∷ (b ∷ (c ∷ []))) w

-- calls made one after another on such an index: the state, the events (newest first) and the answers (in order)
abbrev pub state_after : State Sector FullMarks → List (Ask Sector) → State Sector FullMarks
state_after = after sector_below full_get full_act

abbrev pub events_of : State Sector FullMarks → List (Ask Sector) → List (Event Sector)
events_of = events sector_below full_get full_act

abbrev pub answers_of : State Sector FullMarks → List (Ask Sector) → List Answer
answers_of = answers sector_below full_get full_act

-- seat t asks, with interrupts open
abbrev pub by_seat : ℕ → What Sector → Ask Sector
by_seat t what = record { seat = t; level = 0; what = what }

-- seat t begins an operation of this kind on this sector
abbrev pub begins_on : ℕ → Kind → ℕ → Ask Sector
begins_on t kind n = by_seat t (begin kind (sector n))

-- and makes so many steps of it
abbrev pub works_on : ℕ → Kind → ℕ → ℕ → List (Ask Sector)
works_on t kind n steps = begins_on t kind n ∷ replicate steps (by_seat t step)

-- seat 0 inserts 10, 20, 30, 40 and 20 again; then seat 1 begins a lookup of 30
abbrev pub until_the_lookup : List (Ask Sector)
until_the_lookup =
    by_seat 0 join
    ∷ works_on 0 Insert 10 1 ++ works_on 0 Insert 20 2 ++ works_on 0 Insert 30 2 ++ works_on 0 Insert 40 3 ++ works_on 0 Insert 20 2
    ++ by_seat 1 join ∷ begins_on 1 Lookup 30 ∷ []

-- and waits
abbrev pub until_the_wait : List (Ask Sector)
until_the_wait = until_the_lookup ++ by_seat 1 step ∷ []

-- seat 0 removes 20, on which seat 1 stands
abbrev pub the_removal : List (Ask Sector)
the_removal = works_on 0 Remove 20 2

abbrev pub until_the_removal : List (Ask Sector)
until_the_removal = until_the_wait ++ the_removal

-- seat 1 goes on; seat 0 inserts 25
abbrev pub since_the_removal : List (Ask Sector)
since_the_removal = by_seat 1 step ∷ works_on 0 Insert 25 2

-- the run with window 2, over any three given cells: where seat 1 waits its mark is on `place`, which is removed and then used again
pub record PlaceUsedAgain (a b c : Cell Sector) (place : ℕ) : Type 0 where
  pub run : Run sectors_over_full 3 2 (events_of (three_cells a b c 2) (until_the_removal ++ since_the_removal))
      (state_after (three_cells a b c 2) (until_the_removal ++ since_the_removal))
  -- seat 0's windows from the head meet one cell, seat 1's two, and from a mark each meets two
  pub answers : answers_of (three_cells a b c 2) until_the_wait ≡
      Answer.Ok
      ∷ Answer.Ok ∷ Yes
      ∷ Answer.Ok ∷ Wait ∷ Yes
      ∷ Answer.Ok ∷ Wait ∷ Yes
      ∷ Answer.Ok ∷ Wait ∷ Wait ∷ Full
      ∷ Answer.Ok ∷ Wait ∷ No
      ∷ Answer.Ok ∷ Answer.Ok ∷ Wait ∷ []
  pub marked : full_get (state_after (three_cells a b c 2) until_the_wait).marks 1 ≡ Some place
  -- the removal strikes that mark, and seat 1 has its answer all the same
  pub removed : answers_of (state_after (three_cells a b c 2) until_the_wait) the_removal ≡ Answer.Ok ∷ Wait ∷ Yes ∷ []
  pub struck : full_get (state_after (three_cells a b c 2) until_the_removal).marks 1 ≡ None
  pub answers_since : answers_of (state_after (three_cells a b c 2) until_the_removal) since_the_removal ≡
      Yes
      ∷ Answer.Ok ∷ Wait ∷ Yes ∷ []
  -- the place is the new key's, between those of 10 and 30
  pub placed : slice_get (state_after (three_cells a b c 2) (until_the_removal ++ since_the_removal)).cells place ≡
      Some (cell (sector 25) (Some 2) true)

-- seat 15 inserts 30, 20 and 10, each in front of all others, so in one step; then seat t joins
abbrev pub until_the_join : ℕ → List (Ask Sector)
until_the_join t = by_seat 15 join ∷ works_on 15 Insert 30 1 ++ works_on 15 Insert 20 1 ++ works_on 15 Insert 10 1 ++ by_seat t join ∷ []

-- and begins a lookup of 40
abbrev pub until_the_last_lookup : ℕ → List (Ask Sector)
until_the_last_lookup t = until_the_join t ++ begins_on t Lookup 40 ∷ []

-- so many steps of seat t
abbrev pub steps_by : ℕ → ℕ → List (Ask Sector)
steps_by t steps = replicate steps (by_seat t step)

-- the events of an index up to the begin of that lookup, and those of so many steps after it
abbrev pub begun_events : State Sector FullMarks → ℕ → List (Event Sector)
begun_events s t = events_of s (until_the_last_lookup t)

abbrev pub later_events : State Sector FullMarks → ℕ → ℕ → List (Event Sector)
later_events s t steps = events_of (state_after s (until_the_last_lookup t)) (steps_by t steps)

-- how many steps the law allows that lookup on three cells with window w, by the changes of others among so many steps after its begin
abbrev pub allowed : State Sector FullMarks → ℕ → ℕ → ℕ → ℕ
allowed s w t steps = limit 3 w t Lookup (changes sector_below 3 t (later_events s t steps) (begun_events s t))

-- the run over any three given cells with window w: seat t's lookup waits at each of its `steps` steps but the last, which is the last that
-- the bound allows
pub record BoundMet (a b c : Cell Sector) (w t steps : ℕ) : Type 0 where
  pub run : Run sectors_over_full 3 w (later_events (three_cells a b c w) t steps ++ begun_events (three_cells a b c w) t)
      (state_after (three_cells a b c w) (until_the_last_lookup t ++ steps_by t steps))
  pub answers : answers_of (three_cells a b c w) (until_the_last_lookup t ++ steps_by t steps) ≡
      Answer.Ok
      ∷ Answer.Ok ∷ Yes
      ∷ Answer.Ok ∷ Yes
      ∷ Answer.Ok ∷ Yes
      ∷ Answer.Ok ∷ Answer.Ok ∷ replicate (pred steps) Wait ++ No ∷ []
  -- one step fewer has not answered
  pub one_fewer : count (steps_of t) (later_events (three_cells a b c w) t (pred steps)) + 1 ≡ allowed (three_cells a b c w) w t (pred steps)
  pub pending : count (ends_of t) (later_events (three_cells a b c w) t (pred steps)) ≡ 0
  -- as many as are allowed have
  pub met : count (steps_of t) (later_events (three_cells a b c w) t steps) ≡ allowed (three_cells a b c w) w t steps
  pub ended : count (ends_of t) (later_events (three_cells a b c w) t steps) ≡ 1
  pub number : count (steps_of t) (later_events (three_cells a b c w) t steps) ≡ steps
