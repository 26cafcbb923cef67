-- Each turn hands out one record more, and leaves fewer bytes.
use Rattle.std.proofs.Common.{Ok, ap, ◌∙◌, arith, rules}
use Rattle.schedule.proofs.Askings.{next_handed}
use Rattle.schedule.proofs.Sofar.{Stopped, bytes_typed, gave, stopped_end, stopped_refusal, filled_none, filled_more, holds_all}
use Rattle.schedule.proofs.contents.read_whole.Goals.{in-Ok-None, in-Err-next}
use Rattle.schedule.proofs.contents.read_whole.Goals as goal

pub loop-part-init : goal.loop-part-init
loop-part-init c = filled_none c.args.bytes _ c.in-Ok.reader c.new-parts.ensures.items c.in-Ok.ensures

pub loop-part-smaller : goal.loop-part-smaller
loop-part-smaller c =
    let reader = c.loop-part.reader in
    let g = gave reader c.in-Ok-Some.part c.next.new.self (search rules) c.next.ensures in
    omega (arith, (next_handed reader.first reader.total reader.rest.now _ _ g.is).shorter)

pub loop-part-preserved : goal.loop-part-preserved
loop-part-preserved c = filled_more c.args.bytes.now _ _ _ c.loop-part.reader c.in-Ok-Some.part c.next.new.self c.in_ok-push-in-Ok-Some.ensures.items (search rules) c.loop-part.invariant c.next.ensures

pub returns : goal.returns
returns c =
    let reader = c.loop-part.reader in
    let after = c.next.new.self in
    let stopped : Stopped reader c.match-next.refusal after =
    elim c.match-next.branch [
      | in-Ok-None w ↦ stopped_end reader after (w.in-Ok-None.is ∙ ap Ok w.in-Ok-None.field-0-is) w.refusal-is c.next.ensures
      | in-Err-next w ↦ stopped_refusal reader w.in-Err-next.refusal after w.in-Err-next.is w.refusal-is c.next.ensures
    ] in
    holds_all c.args.bytes _ reader after c.in-Ok.ensures.accepted (bytes_typed c.args.bytes.now c.type_inv.bytes) c.in-Ok.reader c.in-Ok.ensures.reads c.loop-part.invariant stopped c.offset.ensures
