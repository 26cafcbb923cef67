-- The bytes are not opened, or else what they say is answered.
use Rattle.std.proofs.Common.{string_bytes, ap, ◌∙◌}
use Rattle.std.proofs.lemmas.Result.{IfOk-weaker, MatchResult-at_ok, MatchResult-at_err}
use Rattle.schedule.specs.Lines.{line_text}
use Rattle.replay.proofs.Numbers.{few_calls}
use Rattle.replay.proofs.Whole.{not_opened, opened}
use Rattle.replay.proofs.replay.Goals as goal

pub text_of-requires : goal.text_of-requires
text_of-requires c =
    let said = MatchResult-at_ok _ _ c.in-Ok.calls c.in-Ok.is c.in_ok-calls.ensures in
    few_calls c.args.bytes.now c.in-Ok.calls said.0 said.1

pub returns-in-Ok : goal.returns-in-Ok
returns-in-Ok c =
    let said = MatchResult-at_ok _ _ c.in-Ok.calls c.in-Ok.is c.in_ok-calls.ensures in
    IfOk-weaker c.text_of.result _ _ (λ text t. opened c.args.bytes.now (string_bytes text) c.in-Ok.calls c.type_inv.bytes said.0 said.1 t) c.text_of.ensures

pub returns-in-Err : goal.returns-in-Err
returns-in-Err c = IfOk-weaker c.text_of_line.result _ _ (λ text t. not_opened c.args.bytes.now (string_bytes text) c.in-Err.refusal (MatchResult-at_err _ _ c.in-Err.refusal c.in-Err.is c.in_ok-calls.ensures) (t ∙ ap line_text c.line.ensures)) c.text_of_line.ensures
