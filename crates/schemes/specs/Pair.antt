-- Two schemes side by side: a bit of the seat's number says which of the two a seat uses. Assumes nothing.
use Rattle.std.specs.Prelude.{◌≡◌, ℕ, ◌/◌, ◌%◌, ◌^◌, Bool, cond, MatchBool, ◌==◌}
use Rattle.basis.specs.declared.bounded.Bounded.{Bounded}
use Rattle.schemes.specs.declared.pair.Pair.{Pair}
use Rattle.marks.specs.Meaning.{Order, Table}
use Rattle.marks.specs.Meaning.Order.{release, reserve, revoke}

-- whether seat t uses the second of the two: that bit of its number is 1
abbrev pub uses_second : ℕ → ℕ → Bool
uses_second bit t = t / 2 ^ bit % 2 == 1

-- the table that is read from those of the two
abbrev pub banked : ℕ → Table → Table → Table
banked bit first second t = cond (uses_second bit t) (second t) (first t)

abbrev pub paired : {F S : Type 0} → F → S → Bounded 4 → Pair F S
paired f s b = record { first = f; second = s; bit = b }

module _ {F S : Type 0} (tableF : F → Table) (tableS : S → Table) where
  abbrev pub pair_table : Pair F S → Table
  pair_table x = banked x.bit.number (tableF x.first) (tableS x.second)

module _ {F S : Type 0} (actsF : Order → F → F → Type 0) (actsS : Order → S → S → Type 0) where
  -- one of the two carries the order out, and the other stays
  abbrev pub acts_in_one : Bool → Order → Pair F S → Pair F S → Type 0
  acts_in_one second o x y =
      MatchBool second
      ((y.first ≡ x.first) × actsS o x.second y.second)
      (actsF o x.first y.first × (y.second ≡ x.second))

  -- a seat's order goes to the one that it uses, a revoke to both; the bit stays
  abbrev pub pair_acts : Order → Pair F S → Pair F S → Type 0
  pair_acts (release t) x y = (y.bit ≡ x.bit) × acts_in_one (uses_second x.bit.number t) (release t) x y
  pair_acts (reserve t p) x y = (y.bit ≡ x.bit) × acts_in_one (uses_second x.bit.number t) (reserve t p) x y
  pair_acts (revoke p) x y = (y.bit ≡ x.bit) × (actsF (revoke p) x.first y.first × actsS (revoke p) x.second y.second)
