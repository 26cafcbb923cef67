-- Making begins the run that the calls go on with, or refuses, and then nothing is altered.
use Rattle.std.proofs.Common.{◌≡◌, ℕ, Bool, true, false, cond, ◌&&◌, List, map, length, refl, sym, ap, ◌∙◌, rules}
use Rattle.std.proofs.lemmas.List.{length-map}
use Rattle.std.proofs.lemmas.Bool.{both_ways, cond-true, cond-false, eq-eqb, eqb-true}
use Rattle.basis.specs.declared.answer.Answer.TheVariants.{Refused}
use Rattle.basis.specs.declared.answer.Answer.{Answer}
use Rattle.basis.specs.declared.refusal.Refusal.{Refusal}
use Rattle.basis.specs.declared.refusal.Refusal.TheVariants.{WrongSizes}
use Rattle.list_law.specs.Making.{makes}
use Rattle.list_law.proofs.Lists.{clash}
use Rattle.list_law.proofs.Made.{fits}
use Rattle.list_law.proofs.Driven.{driven_none, driven_at}
use Rattle.list_cells.specs.Views.{cell_of}
use Rattle.list_window.specs.Rows.{row_of}
use Rattle.list_window.specs.Lent.{lent_state}
use Rattle.basis.specs.Answers.{settled}
use Rattle.list_driver.specs.Asks.{ask_of, runnable}
use Rattle.list_making.proofs.Makes.{viewed}
use Rattle.list_driver.proofs.driver.run_calls.Goals as goal

-- what the answer of a making says of the sizes
took : (b : Bool) → Answer.Ok ≡ cond b Answer.Ok (Refused WrongSizes) → b ≡ true
took true e = refl
took false e = absurd (clash (cc))

refused : (b : Bool) (q : Refusal) → Refused q ≡ cond b Answer.Ok (Refused WrongSizes) → b ≡ false
refused true q e = absurd (clash (cc))
refused false q e = refl

-- whether the calls can be run, by the test of their number and the answer of the making
module _ {X Y Z W Q V : Type 0} (f : X → Y) (h : Z → W) (v : Q → V) (cells : List X) (rows : List Z) (w : ℕ) (asks : List Q) (answers : ℕ) where
  as_made : length asks ≡ answers → runnable (length cells) (length rows) w (length (map v asks)) answers ≡ makes (length (map f cells)) (length (map h rows)) w
  as_made e = ap (λ k. runnable (length cells) (length rows) w k answers) (length-map asks v) ∙ ap (λ b. b && makes (length cells) (length rows) w) (eq-eqb _ _ e) ∙ viewed f h cells rows w

pub returns-in_err-make-clause-ran : goal.returns-in_err-make-clause-ran
returns-in_err-make-clause-ran g c =
    let index = c.args.index.now in
    let made = c.in_err-make.ensures.made in
    let bad = refused _ _ made.answer in
    let no = as_made cell_of row_of ask_of index.cells.now index.rows.now c.args.window c.args.asks.now (length c.args.answers.now) (eqb-true _ _ (sym c.if-not-room_for_each.ensures)) ∙ bad in
    let passed_on : settled c.from_residual.result ≡ Refused c.in_err-make.field-0.0 = search rules in
    record { answer = passed_on ∙ made.answer ∙ cond-false _ _ _ bad ∙ sym (cond-false _ _ _ no); driven = λ t. absurd (both_ways _ no t); same = λ _. (made.same bad, refl) }

pub drive-requires : goal.drive-requires
drive-requires g c =
    let made = c.in_ok-make.ensures.made in
    let index = c.args.index.now in
    let fit = took _ made.answer in
    let same = c.make.ensures.same in (
      (eqb-true _ _ (sym c.if-not-room_for_each.ensures)),
      (
        same.rows ∙ (fits (length index.cells.now) (length index.rows.now) c.args.window (viewed cell_of row_of index.cells.now index.rows.now c.args.window ∙ fit)).rows,
        driven_at (length-map index.cells.now cell_of ∙ sym same.cells) (sym (ap (λ x. x.anchor.window) (made.made fit))) (driven_none g.K.Key.below g.S.Scheme.table g.S.Scheme.strict g.S.Scheme.acts _ _ _ (made.runs fit)),
      ),
    )

pub returns-clause-ran : goal.returns-clause-ran
returns-clause-ran g c =
    let made = c.in_ok-make.ensures.made in
    let index = c.args.index.now in
    let fit = took _ made.answer in
    let yes = as_made cell_of row_of ask_of index.cells.now index.rows.now c.args.window c.args.asks.now (length c.args.answers.now) (eqb-true _ _ (sym c.if-not-room_for_each.ensures)) ∙ fit in
    record {
      answer = sym (cond-true _ _ _ yes);
      driven = λ _. (lent_state c.make.new.index, made, driven_at c.make.ensures.same.cells (ap (λ x. x.anchor.window) (made.made fit)) c.drive.ensures.driven);
      same = λ f. absurd (both_ways _ f yes);
    }
