-- No record, a setup that is refused, and a setup that is accepted.
use Rattle.std.proofs.Common.{List, ◌∷◌, ◌++◌, Some, map, vec_items, string_bytes, sym, ap, ◌∙◌, append-nil, subst, length, arith}
use Rattle.std.proofs.lemmas.List.{length-map}
use Rattle.std.proofs.lemmas.Result.{IfOk-weaker, MatchResult-at_ok, MatchResult-at_err}
use Rattle.basis.specs.declared.answer.Answer.TheVariants.{Refused}
use Rattle.basis.specs.declared.answer.Answer.{Answer}
use Rattle.basis.specs.declared.refusal.Refusal.TheVariants.{WrongSizes}
use Rattle.key_types.specs.declared.sector.Sector.{Sector}
use Rattle.list_law.specs.Performed.{Ask}
use Rattle.list_driver.specs.Asks.{ask_of}
use Rattle.schedule.specs.Lines.{line_of, line_text, lines_from}
use Rattle.replay.specs.Runs.{Answered}
use Rattle.replay.specs.Views.{refused_by}
use Rattle.replay.proofs.Numbers.{as_many}
use Rattle.replay.proofs.Answering.{told_none, told_other, told_refused, told_accepted}
use Rattle.replay.proofs.text.text_of.Goals as goal

pub returns-in_default : goal.returns-in_default
returns-in_default c =
    let asks = map ask_of (vec_items c.args.calls.asks) in
    IfOk-weaker c.text_of_none.result _ _ (λ text e. told_none c.args.calls.setup asks (refused_by c.args.calls.stop) (string_bytes text) c.in_default.is e) c.text_of_none.ensures

pub returns-in_default-setup : goal.returns-in_default-setup
returns-in_default-setup c =
    told_other c.args.calls.setup c.in-Some.setup (map ask_of (vec_items c.args.calls.asks)) (refused_by c.args.calls.stop) _ c.in-Some.is c.in_default-setup.not-Setup c.new.ensures.bytes

pub text_of_answers-requires : goal.text_of_answers-requires
text_of_answers-requires c =
    let s = c.in-Setup in
    let answers = vec_items c.in-Ok.answers in
    let answered = MatchResult-at_ok _ _ c.in-Ok.answers c.in-Ok.is c.in_ok-answers.ensures in
    omega (arith, as_many s.scheme s.cells s.window _ answers answered, length-map c.as_slice.result.now ask_of, ap length c.as_slice.ensures.value, ap length c.as_slice-in-Ok.ensures.value)

pub returns-in-Ok : goal.returns-in-Ok
returns-in-Ok c =
    let asks = map ask_of (vec_items c.args.calls.asks) in
    let stop = refused_by c.args.calls.stop in
    let s = c.in-Setup in
    let is = c.in-Some.is ∙ ap Some s.is in
    let answers = vec_items c.in-Ok.answers in
    let asked = subst (λ (l : List (Ask Sector)). Answered s.scheme s.cells s.window l answers) (ap (map ask_of) c.as_slice.ensures.value) (MatchResult-at_ok _ _ c.in-Ok.answers c.in-Ok.is c.in_ok-answers.ensures) in
    IfOk-weaker c.text_of_answers.result _ _
    (λ text e. told_accepted c.args.calls.setup s.scheme s.cells s.window is asks stop (string_bytes text) answers asked (e ∙ ap (λ l. lines_from 1 (Answer.Ok ∷ (l ++ stop))) c.as_slice-in-Ok.ensures.value))
    c.text_of_answers.ensures

pub returns-in-Err : goal.returns-in-Err
unfolding lines_from
returns-in-Err c =
    let asks = map ask_of (vec_items c.args.calls.asks) in
    let s = c.in-Setup in
    let is = c.in-Some.is ∙ ap Some s.is in
    let sizes = MatchResult-at_err _ _ c.in-Err.refusal c.in-Err.is c.in_ok-answers.ensures in
    IfOk-weaker c.text_of_line.result _ _
    (λ text e. told_refused c.args.calls.setup s.scheme s.cells s.window is asks (refused_by c.args.calls.stop) (string_bytes text) sizes.0 (e ∙ ap line_text c.line.ensures ∙ ap (λ r. line_of 1 (Refused r)) sizes.1 ∙ sym (append-nil (line_of 1 (Refused WrongSizes)))))
    c.text_of_line.ensures
