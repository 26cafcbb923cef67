-- The line that answers a record. Assumes nothing.
use Rattle.std.specs.Prelude.{◌≡◌, ℕ, suc, List, [], ◌∷◌, ◌++◌, Result, OnOk, OnErr, codes, decimal}
use Rattle.basis.specs.declared.answer.Answer.{Answer}
use Rattle.basis.specs.Answers.{spaced, spoken}
use Rattle.schedule.specs.declared.line.Line.{Line}

-- the record's number in decimal, a space, the answer's word with what it carries, and a line feed
abbrev pub line_of : ℕ → Answer → List ℕ
line_of n a = decimal n ++ 32 ∷ (spoken a ++ 10 ∷ [])

-- the text of a line
abbrev pub line_text : Line → List ℕ
line_text l = line_of l.number l.answer

-- the lines of answers one after another, numbered from n on
unfoldable pub lines_from : ℕ → List Answer → List ℕ
lines_from n [] = []
lines_from n (a ∷ rest) = line_of n a ++ lines_from (suc n) rest

-- the line of a refusal, by its number
abbrev pub refused_line : ℕ → ℕ → List ℕ
refused_line n refusal = decimal n ++ 32 ∷ (codes "refused" ++ (spaced (refusal ∷ []) ++ 10 ∷ []))

-- a text that begins with another
abbrev pub BeginsWith : List ℕ → List ℕ → Type 0
BeginsWith text front = (rest : List ℕ) × (text ≡ front ++ rest)

-- more was added to a text; where memory ran out, what stood before stays at its front
pub record Adds {X E : Type 0} (before after : List ℕ) (r : Result X E) (more : List ℕ) : Type 0 where
  pub ok : OnOk r (after ≡ before ++ more)
  pub err : OnErr r (BeginsWith after before)
