-- What the reader does: how it opens, and what one asking gives. Assumes nothing.
use Rattle.std.specs.Prelude.{◌≡◌, ℕ, ◌+◌, ◌-◌, ◌≤◌, Bool, true, false, cond, not, List, [], ◌∷◌, length, take, drop, Some, None, IfOk, IfSome, codes, Option, Ok, Err, Result, ◌==◌, nat_lt}
use Rattle.std.specs.Borrow.{Bor}
use Rattle.basis.specs.Cases.{Case, case_of}
use Rattle.basis.specs.Refusals.{refusal}
use Rattle.records.specs.declared.record.Record.{Record}
use Rattle.basis.specs.declared.refusal.Refusal.{Refusal}
use Rattle.schedule.specs.declared.reader.Part.{Part}
use Rattle.schedule.specs.declared.reader.Reader.{Reader}
use Rattle.records.specs.Records.{is_setup, from_two, fields, decoded}

-- a record as it is handed out: where its call byte stands, its bytes from there on, and what they say
pub record ReadRecord : Type 0 where
  pub offset : ℕ
  pub bytes : List ℕ
  pub content : Record

abbrev pub read_record : ℕ → List ℕ → Record → ReadRecord
read_record n bs r = record { offset = n; bytes = bs; content = r }

-- what one asking gives: a record and the bytes left after it, the end, or a refusal
pub data Reading : Type 0 where
  handed : ReadRecord → List ℕ → Reading
  ended : Reading
  malformed : Reading

-- the number by which bytes are not opened, if there is one: first more than 60,000 bytes, then no first byte 1
abbrev pub no_first_byte : List ℕ → Option ℕ
no_first_byte [] = Some 10
no_first_byte (b ∷ bs) = cond (b == 1) None (Some 10)

abbrev pub open_refusal : List ℕ → Option ℕ
open_refusal bytes = cond (nat_lt 60000 (length bytes)) (Some 9) (no_first_byte bytes)

-- the first record is a setup, and no other is
abbrev pub in_place : Bool → Record → Bool
in_place true r = is_setup r
in_place false r = not (is_setup r)

-- a record, if it is one that may stand there
abbrev pub if_in_place : Bool → Option Record → Option Record
if_in_place first None = None
if_in_place first (Some r) = cond (in_place first r) (Some r) None

-- the record that bytes say, from the call byte on, if it may stand there
abbrev pub content_at : Bool → List ℕ → Option Record
content_at first bytes = if_in_place first (decoded bytes)

-- the length in two bytes cuts what follows it into the bytes of a record and what is left, if there are so many
abbrev pub cut_of : List ℕ → Option (List ℕ × List ℕ)
cut_of [] = None
cut_of (high ∷ []) = None
cut_of (high ∷ low ∷ bytes) = cond (nat_lt (length bytes) (from_two high low)) None (Some (take (from_two high low) bytes, drop (from_two high low) bytes))

-- what is handed out of a schedule of that many bytes in all
abbrev pub placed : ℕ → List ℕ → List ℕ → Option Record → Reading
placed total bytes left None = malformed
placed total bytes left (Some r) = handed (read_record (total - length left - length bytes) bytes r) left

abbrev pub parted : Bool → ℕ → Option (List ℕ × List ℕ) → Reading
parted first total None = malformed
parted first total (Some p) = placed total p.0 p.1 (content_at first p.0)

-- one asking, at the first record or at a later one, of a schedule of that many bytes in all, with those bytes left
abbrev pub next_of : Bool → ℕ → List ℕ → Reading
next_of first total [] = ended
next_of first total (b ∷ bytes) = parted first total (cut_of (b ∷ bytes))

-- what the next asking of a reader gives
abbrev pub reading : Reader → Reading
reading reader = next_of reader.first reader.total reader.rest.now

-- what one asking of the reader gives, a record, the end or a refusal: number, word and values of each; a record carries its offset and
-- then its bytes
abbrev pub outcome : Result (Option Part) Refusal → Case
outcome (Ok (Some p)) = case_of 0 (codes "record") (p.offset ∷ p.bytes.now)
outcome (Ok None) = case_of 1 (codes "end") []
outcome (Err r) = case_of 2 (codes "refused") ((refusal r).number ∷ [])

-- the outcome that an asking has to have
abbrev pub due : Reading → Case
due (handed e left) = case_of 0 (codes "record") (e.offset ∷ e.bytes)
due ended = case_of 1 (codes "end") []
due malformed = case_of 2 (codes "refused") (11 ∷ [])

-- what the record says that is handed out, if one is
abbrev pub content_of : Result (Option Part) Refusal → Option Record
content_of (Ok (Some p)) = Some p.content
content_of (Ok None) = None
content_of (Err r) = None

abbrev pub content_due : Reading → Option Record
content_due (handed e left) = Some e.content
content_due ended = None
content_due malformed = None

-- what is left afterwards, and whether the first record is still to come: only a record that is handed out moves the reader
abbrev pub left_after : Reading → List ℕ → List ℕ
left_after (handed e left) rest = left
left_after ended rest = rest
left_after malformed rest = rest

abbrev pub first_after : Reading → Bool → Bool
first_after (handed e left) first = false
first_after ended first = first
first_after malformed first = first

-- a slice of bytes is that very part of another: it begins so many bytes after the other's first, ends no later, and has the bytes there
pub record LiesAt (whole : Bor (List ℕ)) (offset : ℕ) (part : Bor (List ℕ)) : Type 0 where
  pub address : part.ref_ptr ≡ (whole.ref_ptr.0, whole.ref_ptr.1 + offset)
  pub room : offset + length part.now ≤ length whole.now
  pub bytes : part.now ≡ take (length part.now) (drop offset whole.now)

-- a reader reads that schedule: it has the number of its bytes, and what is left to it is the last part of those very bytes
pub record Reads (schedule : Bor (List ℕ)) (reader : Reader) : Type 0 where
  pub total : reader.total ≡ length schedule.now
  pub rest : LiesAt schedule (reader.total - length reader.rest.now) reader.rest

-- what holds of the part that is handed out, if one is
abbrev pub OnPart : Result (Option Part) Refusal → (Part → Type 0) → Type 0
OnPart r P = IfOk r (λ o. IfSome o P)

-- a reader that was opened: it reads that schedule, whose first byte is 1, and its first record is still to come
pub record Opened (schedule : Bor (List ℕ)) (reader : Reader) : Type 0 where
  pub accepted : open_refusal schedule.now ≡ None
  pub begins : schedule.now ≡ 1 ∷ reader.rest.now
  pub total : reader.total ≡ length schedule.now
  pub first : reader.first ≡ true
  pub reads : Reads schedule reader

-- a reader asked once: the outcome, and the reader afterwards
pub record Asked (before : Reader) (r : Result (Option Part) Refusal) (after : Reader) : Type 0 where
  pub value : outcome r ≡ due (reading before)
  pub content : content_of r ≡ content_due (reading before)
  -- the bytes are by definition those of what the record says: its number, and then its values
  pub says : OnPart r (λ p. p.bytes.now ≡ fields p.content)
  -- they are that very part of the schedule that is read, at the offset that is told
  pub lies : (schedule : Bor (List ℕ)) → Reads schedule before → OnPart r (λ p. LiesAt schedule p.offset p.bytes)
  pub reads : (schedule : Bor (List ℕ)) → Reads schedule before → Reads schedule after
  pub rest : after.rest.now ≡ left_after (reading before) before.rest.now
  pub total : after.total ≡ before.total
  pub first : after.first ≡ first_after (reading before) before.first
