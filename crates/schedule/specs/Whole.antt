-- What is read of a whole schedule. Assumes nothing.
use Rattle.std.specs.Prelude.{◌≡◌, ℕ, ◌-◌, true, List, [], map, length, Some, None, vec_items, Option}
use Rattle.std.specs.Borrow.{Bor}
use Rattle.std.specs.List.{AllByRecursion}
use Rattle.std.specs.Option.{option_map}
use Rattle.basis.specs.declared.refusal.Refusal.{Refusal}
use Rattle.basis.specs.Refusals.{refusal}
use Rattle.schedule.specs.declared.reader.Part.{Part}
use Rattle.schedule.specs.declared.contents.Contents.{Contents}
use Rattle.records.specs.Records.{fields}
use Rattle.schedule.specs.Reading.{ReadRecord, read_record, Reading, handed, ended, malformed, next_of, open_refusal, LiesAt}
use Rattle.schedule.specs.Schedules.{read_all, still, Accounted}

-- a part that was handed out, as the definitions have it
abbrev pub as_read : Part → ReadRecord
as_read p = read_record p.offset p.bytes.now p.content

-- the number at which reading stops, if it does not come to the end
abbrev pub stop_number : Reading → Option ℕ
stop_number (handed e left) = None
stop_number ended = None
stop_number malformed = Some 11

-- the records of bytes, and the number at which they stop: one of the opening, or else that of the asking after the last record
abbrev pub entries_of : List ℕ → Option ℕ → List ReadRecord
entries_of bytes None = (read_all bytes).entries
entries_of bytes (Some n) = []

abbrev pub refusal_of : List ℕ → Option ℕ → Option ℕ
refusal_of bytes None = stop_number (next_of (still true (read_all bytes).entries) (length bytes) (read_all bytes).rest)
refusal_of bytes (Some n) = Some n

-- the offset at which reading stops
abbrev pub stop_of : List ℕ → Option ℕ → ℕ
stop_of bytes None = length bytes - length (read_all bytes).rest
stop_of bytes (Some n) = 0

-- a part that was handed out of a schedule: that very slice of its bytes, and by definition the bytes of what the record says
pub record PartOf (schedule : Bor (List ℕ)) (p : Part) : Type 0 where
  pub lies : LiesAt schedule p.offset p.bytes
  pub says : p.bytes.now ≡ fields p.content

-- the contents of a schedule: its records and where they stop, that each is a part of it, and that the bytes are accounted for
pub record Holds (schedule : Bor (List ℕ)) (c : Contents) : Type 0 where
  pub parts : map as_read (vec_items c.parts) ≡ entries_of schedule.now (open_refusal schedule.now)
  pub lie : AllByRecursion (PartOf schedule) (vec_items c.parts)
  pub refused : option_map (λ (r : Refusal). (refusal r).number) c.refusal ≡ refusal_of schedule.now (open_refusal schedule.now)
  pub stop : c.stop ≡ stop_of schedule.now (open_refusal schedule.now)
  pub accounted : open_refusal schedule.now ≡ None → Accounted schedule.now
