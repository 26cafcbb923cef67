-- The answers of the records of a schedule, case by case. Assumes nothing.
use Rattle.std.proofs.Common.{◌≡◌, ℕ, false, List, [], ◌∷◌, ◌++◌, Some, None, Option, sym, refl, ap, ◌∙◌, subst, MatchOption}
use Rattle.std.proofs.lemmas.Bool.{cond-true, cond-false, both_ways}
use Rattle.basis.specs.declared.answer.Answer.{Answer}
use Rattle.basis.specs.declared.answer.Answer.TheVariants.{Refused}
use Rattle.basis.specs.declared.refusal.Refusal.TheVariants.{WrongSizes}
use Rattle.key_types.specs.declared.sector.Sector.{Sector}
use Rattle.list_law.specs.Making.{makes}
use Rattle.list_law.specs.Performed.{Ask}
use Rattle.records.specs.declared.record.Record.{Record}
use Rattle.records.specs.declared.record.Record.TheVariants.{Setup, Join, Leave, Begin, Step, Abandon}
use Rattle.records.specs.declared.record.SchemeName.{SchemeName}
use Rattle.schedule.specs.Lines.{lines_from}
use Rattle.replay.specs.Runs.{LawfulBy, Answered}
use Rattle.replay.specs.Texts.{outcomes, Lawfully}

-- this text is the lines of what the records are answered, lawfully
abbrev pub TextAnswers : Option Record → List (Ask Sector) → List Answer → List ℕ → Type 0
TextAnswers setup asks stop text = (text ≡ lines_from 1 (outcomes setup asks stop)) × Lawfully setup asks

-- no records
pub told_none : (setup : Option Record) (asks : List (Ask Sector)) (stop : List Answer) (text : List ℕ) → setup ≡ None → text ≡ lines_from 1 stop → TextAnswers setup asks stop text
unfolding outcomes
told_none setup asks stop text is e = subst (λ (o : Option Record). TextAnswers o asks stop text) (sym is) (e, tt)

other : (r : Record) (asks : List (Ask Sector)) (stop : List Answer) (text : List ℕ) → ((name : SchemeName) (n w : ℕ) → r ≡ Setup name n w → ⊥) → text ≡ [] → TextAnswers (Some r) asks stop text
unfolding outcomes lines_from
other (Setup name n w) asks stop text never e = absurd (never name n w refl)
other (Join seat) asks stop text never e = (e, tt)
other (Leave seat) asks stop text never e = (e, tt)
other (Begin kind seat n) asks stop text never e = (e, tt)
other (Step seat) asks stop text never e = (e, tt)
other (Abandon seat) asks stop text never e = (e, tt)

-- a first record that is no setup, which never comes
pub told_other : (setup : Option Record) (r : Record) (asks : List (Ask Sector)) (stop : List Answer) (text : List ℕ) → setup ≡ Some r → ((name : SchemeName) (n w : ℕ) → r ≡ Setup name n w → ⊥) → text ≡ [] → TextAnswers setup asks stop text
told_other setup r asks stop text is never e = subst (λ (o : Option Record). TextAnswers o asks stop text) (sym is) (other r asks stop text never e)

module _ (setup : Option Record) (name : SchemeName) (n w : ℕ) (is : setup ≡ Some (Setup name n w)) (asks : List (Ask Sector)) (stop : List Answer) (text : List ℕ) where
  -- a setup that is refused
  pub told_refused : makes n 16 w ≡ false → text ≡ lines_from 1 (Refused WrongSizes ∷ []) → TextAnswers setup asks stop text
  unfolding outcomes
  told_refused bad e =
      subst (λ (o : Option Record). TextAnswers o asks stop text) (sym is) (e ∙ ap (lines_from 1) (sym (cond-false (makes n 16 w) _ _ bad)), λ good. absurd (both_ways _ bad good))

  -- a setup that is accepted, and the answers of the calls after it
  pub told_accepted : (answers : List Answer) → Answered name n w asks answers → text ≡ lines_from 1 (Answer.Ok ∷ (answers ++ stop)) → TextAnswers setup asks stop text
  unfolding outcomes
  told_accepted answers a e =
      subst (λ (o : Option Record). TextAnswers o asks stop text) (sym is) (
        e ∙ ap (λ l. lines_from 1 (Answer.Ok ∷ (l ++ stop))) a.computed ∙ ap (lines_from 1) (sym (cond-true (makes n 16 w) _ _ a.sizes)),
        λ _. subst (λ l. LawfulBy name n w asks l) a.computed a.lawful,
      )

-- what is said of a value that is there, or not there
pub at_none : {X : Type 0} (o : Option X) (P : Type 0) (Q : X → Type 0) → o ≡ None → MatchOption o P Q → P
at_none o P Q e h = subst (λ x. MatchOption x P Q) e h

pub at_some : {X : Type 0} (o : Option X) (x : X) (P : Type 0) (Q : X → Type 0) → o ≡ Some x → MatchOption o P Q → Q x
at_some o x P Q e h = subst (λ y. MatchOption y P Q) e h
