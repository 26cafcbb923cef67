-- What the opening of a schedule is answered: the refusal to open the bytes, or else the line of their first record. The text of the whole
-- replay begins with it. Assumes nothing.
use Rattle.std.specs.Prelude.{ℕ, cond, List, [], length, drop, true, Some, None, Option}
use Rattle.basis.specs.declared.answer.Answer.{Answer}
use Rattle.basis.specs.declared.answer.Answer.TheVariants.{Refused}
use Rattle.basis.specs.declared.refusal.Refusal.TheVariants.{WrongSizes, BadRecord}
use Rattle.list_law.specs.Making.{makes}
use Rattle.records.specs.declared.record.Record.{Record}
use Rattle.records.specs.declared.record.Record.TheVariants.{Setup, Join, Leave, Begin, Step, Abandon}
use Rattle.schedule.specs.Reading.{Reading, handed, ended, malformed, next_of, open_refusal}
use Rattle.schedule.specs.Lines.{line_of, refused_line}

-- what a setup is answered; the reader hands out no other record first
abbrev pub setup_answer : Record → Answer
setup_answer (Setup s cells window) = cond (makes cells 16 window) Answer.Ok (Refused WrongSizes)
setup_answer (Join seat) = Refused BadRecord
setup_answer (Leave seat) = Refused BadRecord
setup_answer (Begin k seat sector) = Refused BadRecord
setup_answer (Step seat) = Refused BadRecord
setup_answer (Abandon seat) = Refused BadRecord

-- the line of the first record, if there is one
abbrev pub first_line : Reading → List ℕ
first_line (handed e left) = line_of 1 (setup_answer e.content)
first_line ended = []
first_line malformed = refused_line 1 11

-- what bytes are answered: the refusal to open them on line 0, or else the first record's line
abbrev pub opening_text : List ℕ → Option ℕ → List ℕ
opening_text bytes (Some n) = refused_line 0 n
opening_text bytes None = first_line (next_of true (length bytes) (drop 1 bytes))

abbrev pub opening_of : List ℕ → List ℕ
opening_of bytes = opening_text bytes (open_refusal bytes)
