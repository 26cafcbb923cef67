-- Reading a whole schedule: the three laws, each by induction on the number of askings. Assumes nothing.
use Rattle.std.proofs.Common.{◌≡◌, ℕ, zero, suc, ◌+◌, ◌-◌, ◌*◌, ◌^◌, ◌<◌, ◌≤◌, Bool, true, false, cond, eqb, ltb, ◌⊎◌, List, [], ◌∷◌, ◌++◌, length, Some, None, Option, sym, refl, ap, ◌∙◌, subst, inl, inr, arith, lit<}
use Rattle.std.proofs.lemmas.List.{append_assoc, length-append}
use Rattle.std.proofs.ByRecursion.{All-append}
use Rattle.std.proofs.lemmas.Bool.{cond-false, le-ltb, eqb-true}
use Rattle.std.specs.List.{flat_map}
use Rattle.basis.specs.declared.kind.Kind.TheVariants.{Lookup, Insert, Remove}
use Rattle.records.specs.declared.record.SchemeName.{SchemeName}
use Rattle.records.specs.declared.record.SchemeName.TheVariants.{Full, Owner, Version}
use Rattle.records.specs.declared.record.Record.{Record}
use Rattle.records.specs.declared.record.Record.TheVariants.{Setup, Join, Leave, Begin, Step, Abandon}
use Rattle.records.specs.Records.{scheme, two, four, fields, written, Fits}
use Rattle.schedule.specs.Reading.{ReadRecord, read_record, Reading, handed, ended, malformed, next_of, no_first_byte, open_refusal}
use Rattle.schedule.specs.Schedules.{Listing, listing, read_more, read_on, schedule, Writable, entries_at, still, Bytes, BeginsNone, RoundTrip, NothingLost, Stops, ReadingEnds}
use Rattle.schedule.proofs.Writes.{decoded_says, none_left}
use Rattle.schedule.proofs.Askings.{next_written, Handed, next_handed, next_malformed, next_ended}

-- what one asking of a reader leads to
step : (n : ℕ) (first : Bool) (total : ℕ) (rest : List ℕ) (a : Reading) → next_of first total rest ≡ a → read_on (suc n) first total rest ≡ read_more (read_on n false total) rest a
unfolding read_on
step n first total rest a e = ap (read_more (read_on n false total) rest) e

-- written records are read back
back : (n : ℕ) (first : Bool) (total offset : ℕ) (rs : List Record) → Writable first rs → offset + length (flat_map written rs) ≡ total → length (flat_map written rs) ≤ n → read_on n first total (flat_map written rs) ≡ listing (entries_at offset rs) []
unfolding read_on
back zero first total offset [] l e h = refl
back zero first total offset (r ∷ rs) l e h = absurd (omega (arith, length-append (fields r) (flat_map written rs)))
back (suc n) first total offset [] l e h = refl
back (suc n) first total offset (r ∷ rs) l e h =
    let rest = flat_map written rs in
    let long = length-append (fields r) rest in
    let at : total - length rest - length (fields r) ≡ offset + 2 = omega arith in
    let more = back n false total (offset + length (written r)) rs l.2 (omega arith) (omega arith) in
    step n first total (flat_map written (r ∷ rs)) _ (next_written first total r rest l.1)
    ∙ (λ i. listing (read_record (at i) (fields r) r ∷ (more i).entries) (more i).rest)

-- what is written of a record whose numbers fit is bytes
two_bytes : (n : ℕ) → n < 2 ^ 16 → Bytes (two n)
two_bytes n h = (omega arith, (omega arith, tt))

four_bytes : (n : ℕ) → n < 2 ^ 32 → Bytes (four n)
four_bytes n h = (omega arith, (omega arith, (omega arith, (omega arith, tt))))

scheme_byte : (s : SchemeName) → (scheme s).number < 256
scheme_byte Full = lit< tt
scheme_byte Owner = lit< tt
scheme_byte Version = lit< tt

bytes_append : (xs ys : List ℕ) → Bytes xs → Bytes ys → Bytes (xs ++ ys)
bytes_append = All-append (λ b. b < 256)

fields_bytes : (r : Record) → Fits r → Bytes (fields r)
fields_bytes (Setup s cells window) f = (lit< tt, (scheme_byte s, bytes_append (two cells) (window ∷ []) (two_bytes cells f.0) (f.1, tt)))
fields_bytes (Join seat) f = (lit< tt, (f, tt))
fields_bytes (Leave seat) f = (lit< tt, (f, tt))
fields_bytes (Begin Lookup seat sector) f = (lit< tt, (f.0, four_bytes sector f.1))
fields_bytes (Begin Insert seat sector) f = (lit< tt, (f.0, four_bytes sector f.1))
fields_bytes (Begin Remove seat sector) f = (lit< tt, (f.0, four_bytes sector f.1))
fields_bytes (Step seat) f = (lit< tt, (f, tt))
fields_bytes (Abandon seat) f = (lit< tt, (f, tt))

few_fields : (r : Record) → length (fields r) < 2 ^ 16
few_fields (Setup s cells window) = lit< tt
few_fields (Join seat) = lit< tt
few_fields (Leave seat) = lit< tt
few_fields (Begin Lookup seat sector) = lit< tt
few_fields (Begin Insert seat sector) = lit< tt
few_fields (Begin Remove seat sector) = lit< tt
few_fields (Step seat) = lit< tt
few_fields (Abandon seat) = lit< tt

joined_bytes : (first : Bool) (rs : List Record) → Writable first rs → Bytes (flat_map written rs)
joined_bytes first [] l = tt
joined_bytes first (r ∷ rs) l =
    bytes_append (written r) (flat_map written rs) (bytes_append (two (length (fields r))) (fields r) (two_bytes _ (few_fields r)) (fields_bytes r l.0)) (joined_bytes false rs l.2)

-- what is read of what is left, against the written form
record From (first : Bool) (offset : ℕ) (rest : List ℕ) (l : Listing) : Type 0 where
  records : List Record
  lawful : Writable first records
  entries : l.entries ≡ entries_at offset records
  bytes_are : rest ≡ flat_map written records ++ l.rest
  stops : (l.rest ≡ []) ⊎ BeginsNone (still first records) l.rest

still_false : {X : Type 0} (xs : List X) → still false xs ≡ false
still_false [] = refl
still_false (x ∷ xs) = refl

-- nothing is handed out any more
none_from : (first : Bool) (offset : ℕ) (rest : List ℕ) → (rest ≡ []) ⊎ BeginsNone first rest → From first offset rest (listing [] rest)
none_from first offset rest stops = record { records = []; lawful = tt; entries = refl; bytes_are = refl; stops = stops }

-- one record, and then what is read of the bytes left after it
one_from : (first : Bool) (total offset : ℕ) (rest : List ℕ) (x : ReadRecord) (left : List ℕ) (l : Listing) → Bytes rest → offset + length rest ≡ total → Handed first total rest x left → ((from : ℕ) → from + length left ≡ total → Bytes left → From false from left l) → From first offset rest (listing (x ∷ l.entries) l.rest)
one_from first total offset rest x left l b e out on =
    let parts = out.cut.whole b in
    let says = decoded_says x.bytes x.content parts.1 out.decodes in
    let was : rest ≡ written x.content ++ left = parts.0 ∙ (λ i. two (length (says.0 i)) ++ (says.0 i ++ left)) in
    let long : length rest ≡ length (written x.content) + length left = ap length was ∙ length-append (written x.content) left in
    let at : x.offset ≡ offset + 2 = omega (arith, out.offset, ap length says.0) in
    let more = on (offset + length (written x.content)) (omega arith) parts.2 in
    record {
      records = x.content ∷ more.records;
      lawful = (says.1, out.here, more.lawful);
      entries = λ i. read_record (at i) (says.0 i) x.content ∷ more.entries i;
      bytes_are = was ∙ ap (λ l. written x.content ++ l) more.bytes_are ∙ sym (append_assoc (written x.content) (flat_map written more.records) l.rest);
      stops = subst (λ f. (l.rest ≡ []) ⊎ BeginsNone f l.rest) (still_false more.records) more.stops;
    }

from : (n : ℕ) (first : Bool) (total offset : ℕ) (rest : List ℕ) → Bytes rest → offset + length rest ≡ total → length rest ≤ n → From first offset rest (read_on n first total rest)
unfolding read_on
from zero first total offset [] b e h = none_from first offset [] (inl refl)
from zero first total offset (x ∷ rest) b e h = absurd (omega arith)
from (suc n) first total offset rest b e h =
    elim (next_of first total rest) as (λ a. next_of first total rest ≡ a → From first offset rest (read_more (read_on n false total) rest a)) [
      | handed x left ↦ λ is.
          let out = next_handed first total rest x left is in
          one_from first total offset rest x left (read_on n false total left) b e out (λ o e b. from n false total o left b e (omega (arith, out.shorter)))
      | ended ↦ λ is. none_from first offset rest (inl (next_ended first total rest is))
      | malformed ↦ λ is. none_from first offset rest (inr (next_malformed first total rest is))
    ] refl

-- a test that gave none took the second way
second : (b : Bool) (n : ℕ) (o : Option ℕ) → cond b (Some n) o ≡ None → (b ≡ false) × (o ≡ None)
second true n o e = none_left (sym e)
second false n o e = (refl, e)

-- bytes that are opened begin with 1
begins_with_one : (x : ℕ) (rest : List ℕ) → open_refusal (x ∷ rest) ≡ None → x ≡ 1
begins_with_one x rest e = go (eqb x 1) (eqb-true x 1) (second (ltb 60000 (length (x ∷ rest))) 9 (no_first_byte (x ∷ rest)) e).1
  where
    go : (b : Bool) → (b ≡ true → x ≡ 1) → cond {A = Option ℕ} b None (Some 10) ≡ None → x ≡ 1
    go true is e = is refl
    go false is e = none_left (sym e)

pub round_trip : RoundTrip 60000
round_trip rs l h = (
  (lit< tt, joined_bytes true rs l),
  cond-false _ _ _ (le-ltb 60000 (length (schedule rs)) h),
  back (length (schedule rs)) true (length (schedule rs)) 1 rs l (omega arith) (omega arith),
)

pub nothing_lost : NothingLost 256
nothing_lost [] b e = none_left (sym e)
nothing_lost (x ∷ rest) b e =
    let all = from (length (x ∷ rest)) true (length (x ∷ rest)) 1 rest b.1 (omega arith) (omega arith) in
    record {
      records = all.records;
      lawful = all.lawful;
      entries = all.entries;
      bytes_are = λ i. begins_with_one x rest e i ∷ all.bytes_are i;
      stops = all.stops;
    }

-- each asking that hands out a record leaves at least four bytes fewer, so the askings do not run out
ends : (n : ℕ) (first : Bool) (total : ℕ) (rest : List ℕ) → length rest < 4 * n + 4 → Stops (next_of (still first (read_on n first total rest).entries) total (read_on n first total rest).rest)
unfolding read_on
ends zero first total rest h =
    elim (next_of first total rest) as (λ a. next_of first total rest ≡ a → Stops a) [
      | handed x left ↦ λ is. omega (arith, (next_handed first total rest x left is).shorter)
      | ended ↦ λ is. tt
      | malformed ↦ λ is. tt
    ] refl
ends (suc n) first total rest h =
    elim (next_of first total rest) as (λ a. next_of first total rest ≡ a → Stops (next_of (still first (read_more (read_on n false total) rest a).entries) total (read_more (read_on n false total) rest a).rest)) [
      | handed x left ↦ λ is.
          let out = next_handed first total rest x left is in
          subst (λ f. Stops (next_of f total (read_on n false total left).rest)) (still_false (read_on n false total left).entries) (ends n false total left (omega (arith, out.shorter)))
      | ended ↦ λ is. subst Stops (sym is) tt
      | malformed ↦ λ is. subst Stops (sym is) tt
    ] refl

pub reading_ends : ReadingEnds 4
reading_ends [] n e h = none_left (sym e)
reading_ends (x ∷ rest) n e h = ends n true (length (x ∷ rest)) rest (omega arith)
