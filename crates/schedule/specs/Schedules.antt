-- A whole schedule: how it is written, how it is read, and that the two agree. Assumes nothing.
use Rattle.std.specs.Prelude.{◌≡◌, ℕ, zero, suc, ◌+◌, ◌*◌, ◌<◌, ◌≤◌, Bool, true, false, ◌⊎◌, List, [], ◌∷◌, ◌++◌, length, None, ◌≢◌}
use Rattle.std.specs.List.{flat_map, AllByRecursion}
use Rattle.records.specs.declared.record.Record.{Record}
use Rattle.records.specs.Records.{fields, written, Fits}
use Rattle.schedule.specs.Reading.{ReadRecord, read_record, Reading, handed, ended, malformed, in_place, next_of, open_refusal}

-- what is read of a schedule: the records one after another, and the bytes at which reading stopped
pub record Listing : Type 0 where
  pub entries : List ReadRecord
  pub rest : List ℕ

abbrev pub listing : List ReadRecord → List ℕ → Listing
listing es rest = record { entries = es; rest = rest }

-- a record that was handed out, and then what is read of the bytes left after it
abbrev pub read_more : (List ℕ → Listing) → List ℕ → Reading → Listing
read_more on rest (handed e left) = listing (e ∷ (on left).entries) (on left).rest
read_more on rest ended = listing [] rest
read_more on rest malformed = listing [] rest

-- at most so many askings, of a schedule of that many bytes in all, with those bytes left
unfoldable pub read_on : ℕ → Bool → ℕ → List ℕ → Listing
read_on zero first total rest = listing [] rest
read_on (suc n) first total rest = read_more (read_on n false total) rest (next_of first total rest)

-- what so many askings read of a schedule, after its first byte
abbrev pub read_within : ℕ → List ℕ → Listing
read_within n [] = listing [] []
read_within n (b ∷ rest) = read_on n true (length (b ∷ rest)) rest

-- all that is read of a schedule: it has fewer records than bytes
abbrev pub read_all : List ℕ → Listing
read_all bytes = read_within (length bytes) bytes

-- the written form of a schedule
abbrev pub schedule : List Record → List ℕ
schedule rs = 1 ∷ flat_map written rs

-- records that can be written and stand in their places: the first is a setup, and no other is
abbrev pub Writable : Bool → List Record → Type 0
Writable first [] = Unit {0}
Writable first (r ∷ rs) = Fits r × (in_place first r ≡ true) × Writable false rs

-- these records, written one after another from that offset on, as the reader hands them out
abbrev pub entries_at : ℕ → List Record → List ReadRecord
entries_at offset [] = []
entries_at offset (r ∷ rs) = read_record (offset + 2) (fields r) r ∷ entries_at (offset + length (written r)) rs

-- whether the first record is still to come after these, where it was or was not before them
abbrev pub still : {X : Type 0} → Bool → List X → Bool
still first [] = first
still first (x ∷ xs) = false

-- no record that can be written and may stand there begins these bytes
abbrev pub BeginsNone : Bool → List ℕ → Type 0
BeginsNone first rest = (r : Record) (more : List ℕ) → Fits r → in_place first r ≡ true → rest ≢ written r ++ more

-- the numbers that a byte can be
abbrev pub Bytes : List ℕ → Type 0
Bytes = AllByRecursion (λ b. b < 256)

-- what is written is bytes, which are opened and read back: exactly those records, each at its offset, and then the end
abbrev pub RoundTrip : ℕ → Type 0
RoundTrip limit = (rs : List Record) → Writable true rs → length (schedule rs) ≤ limit → Bytes (schedule rs) × (open_refusal (schedule rs) ≡ None) × (read_all (schedule rs) ≡ listing (entries_at 1 rs) [])

-- bytes that are opened are the first byte, the written form of the records handed out, and then nothing or a rest that
-- begins no record: nothing is skipped, and nothing is invented
pub record Accounted (bytes : List ℕ) : Type 0 where
  pub records : List Record
  pub lawful : Writable true records
  pub entries : (read_all bytes).entries ≡ entries_at 1 records
  pub bytes_are : bytes ≡ schedule records ++ (read_all bytes).rest
  pub stops : ((read_all bytes).rest ≡ []) ⊎ BeginsNone (still true records) (read_all bytes).rest

abbrev pub NothingLost : ℕ → Type 0
NothingLost bound = (bytes : List ℕ) → AllByRecursion (λ b. b < bound) bytes → open_refusal bytes ≡ None → Accounted bytes

-- no record is handed out
abbrev pub Stops : Reading → Type 0
Stops (handed e left) = ⊥
Stops ended = Unit {0}
Stops malformed = Unit {0}

-- the asking after these hands out no record
abbrev pub StopsAfter : List ℕ → Listing → Type 0
StopsAfter bytes l = Stops (next_of (still true l.entries) (length bytes) l.rest)

-- reading ends: one asking for each so many bytes is enough
abbrev pub ReadingEnds : ℕ → Type 0
ReadingEnds each = (bytes : List ℕ) (n : ℕ) → open_refusal bytes ≡ None → length bytes ≤ each * n → StopsAfter bytes (read_within n bytes)

-- the lines that answer bytes that are opened: one for each record, and one for a rest that begins no record
abbrev pub stop_lines : Reading → ℕ
stop_lines (handed e left) = 0
stop_lines ended = 0
stop_lines malformed = 1

abbrev pub line_count : List ℕ → ℕ
line_count bytes = length (read_all bytes).entries + stop_lines (next_of (still true (read_all bytes).entries) (length bytes) (read_all bytes).rest)

-- no line has a larger number than that
abbrev pub LineNumbers : ℕ → Type 0
LineNumbers most = (bytes : List ℕ) → open_refusal bytes ≡ None → line_count bytes ≤ most
