-- The text that answers a schedule, and what is promised of it. Assumes nothing.
use Rattle.std.specs.Prelude.{◌≡◌, ℕ, true, cond, List, [], ◌∷◌, ◌++◌, length, Some, None, Option}
use Rattle.basis.specs.declared.answer.Answer.{Answer}
use Rattle.basis.specs.declared.answer.Answer.TheVariants.{Refused}
use Rattle.basis.specs.declared.refusal.Refusal.TheVariants.{WrongSizes, BadRecord}
use Rattle.list_law.specs.Making.{makes}
use Rattle.records.specs.declared.record.Record.{Record}
use Rattle.records.specs.declared.record.Record.TheVariants.{Setup, Join, Leave, Begin, Step, Abandon}
use Rattle.schedule.specs.Reading.{Reading, handed, ended, malformed, next_of, open_refusal}
use Rattle.schedule.specs.Schedules.{read_all, still, Accounted}
use Rattle.schedule.specs.Lines.{lines_from, refused_line, BeginsWith}
use Rattle.key_types.specs.declared.sector.Sector.{Sector}
use Rattle.list_law.specs.Performed.{Ask}
use Rattle.replay.specs.Answers.{asks_of, setup_of, answers_by}
use Rattle.replay.specs.Runs.{LawfulBy}
use Rattle.replay.specs.Opening.{opening_of}

-- the refusal of the record at which reading stops, if it does not come to the end
abbrev pub stopped : Reading → List Answer
stopped (handed e left) = []
stopped ended = []
stopped malformed = Refused BadRecord ∷ []

-- what the records are answered: the first of them, which is a setup (the reader hands out no other record first), the calls after it,
-- and then `stop`. A refused setup is the last that is answered
unfoldable pub outcomes : Option Record → List (Ask Sector) → List Answer → List Answer
outcomes None asks stop = stop
outcomes (Some (Setup name cells window)) asks stop =
    cond (makes cells 16 window) (Answer.Ok ∷ (answers_by name cells window asks ++ stop)) (Refused WrongSizes ∷ [])
outcomes (Some (Join seat)) asks stop = []
outcomes (Some (Leave seat)) asks stop = []
outcomes (Some (Begin kind seat n)) asks stop = []
outcomes (Some (Step seat)) asks stop = []
outcomes (Some (Abandon seat)) asks stop = []

-- how reading of bytes ends, after their last record
abbrev pub stop_at : List ℕ → Reading
stop_at bytes = next_of (still true (read_all bytes).entries) (length bytes) (read_all bytes).rest

-- the text: the refusal to open the bytes on line 0, or else a line for each record, numbered from 1
abbrev pub opened_text : List ℕ → Option ℕ → List ℕ
opened_text bytes (Some n) = refused_line 0 n
opened_text bytes None =
    let records = (read_all bytes).entries in
    lines_from 1 (outcomes (setup_of records) (asks_of records) (stopped (stop_at bytes)))

unfoldable pub text_of : List ℕ → List ℕ
text_of bytes = opened_text bytes (open_refusal bytes)

-- the answers of the calls after an accepted setup are those of a lawful run of exactly these calls
abbrev pub Lawfully : Option Record → List (Ask Sector) → Type 0
Lawfully None asks = Unit {0}
Lawfully (Some (Setup name cells window)) asks = makes cells 16 window ≡ true → LawfulBy name cells window asks (answers_by name cells window asks)
Lawfully (Some (Join seat)) asks = Unit {0}
Lawfully (Some (Leave seat)) asks = Unit {0}
Lawfully (Some (Begin kind seat n)) asks = Unit {0}
Lawfully (Some (Step seat)) asks = Unit {0}
Lawfully (Some (Abandon seat)) asks = Unit {0}

-- a schedule, replayed
pub record Replayed (bytes : List ℕ) (text : List ℕ) : Type 0 where
  -- the text is computed from the bytes
  pub computed : text ≡ text_of bytes
  -- it begins with what the opening alone is answered
  pub begins : BeginsWith text (opening_of bytes)
  -- its answers are those of a lawful run
  pub lawful : open_refusal bytes ≡ None → Lawfully (setup_of (read_all bytes).entries) (asks_of (read_all bytes).entries)
  -- its records are those that the bytes hold: none is skipped, none invented, and reading stops where the rest begins no record
  pub accounted : open_refusal bytes ≡ None → Accounted bytes
