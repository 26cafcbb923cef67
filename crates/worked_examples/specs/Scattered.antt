-- A worked run in which sixteen seats begin together, on sectors and the full scheme: what the widths from the head are for.
-- Assumes nothing.
use Rattle.std.specs.Prelude.{◌≡◌, ℕ, List, [], ◌∷◌, ◌++◌, map, replicate, Some}
use Rattle.basis.specs.declared.kind.Kind.TheVariants.{Lookup, Insert}
use Rattle.basis.specs.declared.answer.Answer.TheVariants.{Wait}
use Rattle.key_types.specs.declared.sector.Sector.{Sector}
use Rattle.schemes.specs.Full.{full_get}
use Rattle.ledger.specs.Ledger.{join, step}
use Rattle.ledger.specs.Law.{Run}
use Rattle.list_law.specs.Call.{Cell}
use Rattle.list_law.specs.Performed.{Ask}
use Rattle.worked_examples.specs.Worked.{sectors_over_full, made_over, state_after, events_of, answers_of, by_seat, begins_on, works_on}

-- all seats
abbrev pub seats : List ℕ
seats = 0 ∷ 1 ∷ 2 ∷ 3 ∷ 4 ∷ 5 ∷ 6 ∷ 7 ∷ 8 ∷ 9 ∷ 10 ∷ 11 ∷ 12 ∷ 13 ∷ 14 ∷ 15 ∷ []

-- sixteen keys, in rising order
abbrev pub sixteen_keys : List ℕ
sixteen_keys = 10 ∷ 20 ∷ 30 ∷ 40 ∷ 50 ∷ 60 ∷ 70 ∷ 80 ∷ 90 ∷ 100 ∷ 110 ∷ 120 ∷ 130 ∷ 140 ∷ 150 ∷ 160 ∷ []

-- seat 0 inserts these, the last of them first: each in front of all others, so in one step
abbrev pub inserts : List ℕ → List (Ask Sector)
inserts [] = []
inserts (x ∷ xs) = inserts xs ++ works_on 0 Insert x 1

-- all seats join, the list is filled, and each seat begins a lookup of 170, which is above all of it
abbrev pub until_all_begin : List (Ask Sector)
until_all_begin = map (λ t. by_seat t join) seats ++ inserts sixteen_keys ++ map (λ t. begins_on t Lookup 170) seats

-- one step of each seat
abbrev pub first_steps : List (Ask Sector)
first_steps = map (λ t. by_seat t step) seats

-- the run over sixteen cells with window w, which held the same when they were given, whatever it was: each seat waits, and at another cell
pub record Scattered (given : Cell Sector) (w : ℕ) : Type 0 where
  pub run : Run sectors_over_full 16 w (events_of (made_over (replicate 16 given) w) (until_all_begin ++ first_steps))
      (state_after (made_over (replicate 16 given) w) (until_all_begin ++ first_steps))
  pub waits : answers_of (state_after (made_over (replicate 16 given) w) until_all_begin) first_steps ≡ replicate 16 Wait
  -- seat 0 at the first cell of the list, and seat 15 at the last; the list was filled from behind
  pub marks : map (full_get (state_after (made_over (replicate 16 given) w) (until_all_begin ++ first_steps)).marks) seats ≡
      map Some (15 ∷ 14 ∷ 13 ∷ 12 ∷ 11 ∷ 10 ∷ 9 ∷ 8 ∷ 7 ∷ 6 ∷ 5 ∷ 4 ∷ 3 ∷ 2 ∷ 1 ∷ 0 ∷ [])
