-- The text of a replay begins with what the opening is answered. Assumes nothing.
use Rattle.std.proofs.Common.{◌≡◌, ℕ, suc, Bool, true, false, cond, List, [], ◌∷◌, ◌++◌, length, Some, None, Option, refl, sym, ap, subst, append-nil, true≢false}
use Rattle.basis.specs.declared.answer.Answer.{Answer}
use Rattle.basis.specs.declared.answer.Answer.TheVariants.{Refused}
use Rattle.basis.specs.declared.refusal.Refusal.TheVariants.{WrongSizes}
use Rattle.key_types.specs.declared.sector.Sector.{Sector}
use Rattle.list_law.specs.Making.{makes}
use Rattle.list_law.specs.Performed.{Ask}
use Rattle.records.specs.declared.record.Record.{Record}
use Rattle.records.specs.declared.record.Record.TheVariants.{Setup, Join, Leave, Begin, Step, Abandon}
use Rattle.records.specs.Records.{is_setup}
use Rattle.schedule.specs.Reading.{Reading, handed, ended, malformed, next_of, open_refusal}
use Rattle.schedule.specs.Schedules.{Listing, read_on, read_more, still}
use Rattle.schedule.specs.Lines.{line_of, lines_from, refused_line, BeginsWith}
use Rattle.schedule.proofs.Askings.{next_handed}
use Rattle.replay.specs.Answers.{asks_of, setup_of, answers_by}
use Rattle.replay.specs.Texts.{outcomes, stopped, opened_text, text_of}
use Rattle.replay.specs.Opening.{setup_answer, first_line, opening_text, opening_of}

-- the lines of a schedule whose first record is a setup: the setup's line, and then those of the calls
setup_begins : (r : Record) (asks : List (Ask Sector)) (stop : List Answer) → is_setup r ≡ true → BeginsWith (lines_from 1 (outcomes (Some r) asks stop)) (line_of 1 (setup_answer r))
unfolding outcomes lines_from
setup_begins (Setup name n w) asks stop is = go (makes n 16 w)
  where
    go : (b : Bool) → BeginsWith (lines_from 1 (cond b (Answer.Ok ∷ (answers_by name n w asks ++ stop)) (Refused WrongSizes ∷ []))) (line_of 1 (cond b Answer.Ok (Refused WrongSizes)))
    go true = (lines_from 2 (answers_by name n w asks ++ stop), refl)
    go false = ([], refl)
setup_begins (Join seat) asks stop is = absurd (true≢false (sym is))
setup_begins (Leave seat) asks stop is = absurd (true≢false (sym is))
setup_begins (Begin kind seat n) asks stop is = absurd (true≢false (sym is))
setup_begins (Step seat) asks stop is = absurd (true≢false (sym is))
setup_begins (Abandon seat) asks stop is = absurd (true≢false (sym is))

-- of bytes that are opened, by what the first asking gives
module _ (b : ℕ) (rest : List ℕ) where
  abbrev total : ℕ
  total = suc (length rest)

  abbrev read : Reading → Listing
  read r = read_more (read_on (length rest) false total) rest r

  abbrev Begins : Reading → Type 0
  Begins r = BeginsWith (lines_from 1 (outcomes (setup_of (read r).entries) (asks_of (read r).entries) (stopped (next_of (still true (read r).entries) total (read r).rest)))) (first_line r)

  begins : (r : Reading) → next_of true total rest ≡ r → Begins r
  unfolding outcomes lines_from
  begins (handed e left) is = setup_begins e.content _ _ (next_handed true total rest e left is).here
  begins ended is = ([], ap (λ x. lines_from 1 (stopped x)) is)
  begins malformed is = ([], ap (λ x. lines_from 1 (stopped x)) is)

  opened_begins : BeginsWith (opened_text (b ∷ rest) None) (opening_text (b ∷ rest) None)
  unfolding read_on
  opened_begins = begins _ refl

-- of any bytes
text_begins : (bytes : List ℕ) → BeginsWith (text_of bytes) (opening_of bytes)
unfolding text_of
text_begins bytes = go bytes (open_refusal bytes) refl
  where
    go : (l : List ℕ) (o : Option ℕ) → open_refusal l ≡ o → BeginsWith (opened_text l o) (opening_text l o)
    go l (Some n) is = ([], sym (append-nil (refused_line 0 n)))
    go [] None is = (_, refl)
    go (b ∷ rest) None is = opened_begins b rest

-- of the text of a replay
pub replay_begins : (bytes text : List ℕ) → text ≡ text_of bytes → BeginsWith text (opening_of bytes)
replay_begins bytes text e = subst (λ t. BeginsWith t (opening_of bytes)) (sym e) (text_begins bytes)
