-- Each turn hands out one record more, and leaves fewer bytes.
use Rattle.std.proofs.Common.{Ok, map, ap, ◌∙◌, arith, rules}
use Rattle.list_driver.specs.Asks.{ask_of}
use Rattle.schedule.proofs.Askings.{next_handed}
use Rattle.schedule.proofs.Sofar.{Stopped, gave, stopped_end, stopped_refusal, sofar_none}
use Rattle.replay.proofs.Taken.{taken_none, taken_more, says}
use Rattle.replay.proofs.calls.read_calls.Goals.{in-Ok-None, in-Err-next}
use Rattle.replay.proofs.calls.read_calls.Goals as goal

pub loop-part-init : goal.loop-part-init
loop-part-init c =
    let opened = c.in-Ok.ensures in
    taken_none c.args.bytes.now c.in-Ok.reader (sofar_none c.args.bytes.now c.in-Ok.reader opened.begins opened.total opened.first) (ap (map ask_of) c.in_ok-asks.ensures.items)

pub loop-part-smaller : goal.loop-part-smaller
loop-part-smaller c =
    let reader = c.loop-part.reader in
    let g = gave reader c.in-Ok-Some.part c.next.new.self (search rules) c.next.ensures in
    omega (arith, (next_handed reader.first reader.total reader.rest.now _ _ g.is).shorter)

pub loop-part-preserved : goal.loop-part-preserved
loop-part-preserved c =
    let reader = c.loop-part.reader in
    let g = gave reader c.in-Ok-Some.part c.next.new.self (search rules) c.next.ensures in
    taken_more c.args.bytes.now reader c.in-Ok-Some.part c.next.new.self c.loop-part.invariant g c.first_of-setup.ensures c.in_ok-push_ask-in-Ok-Some.ensures

pub returns : goal.returns
returns c =
    let reader = c.loop-part.reader in
    let after = c.next.new.self in
    let stopped : Stopped reader c.match-next.stop after =
    elim c.match-next.branch [
      | in-Ok-None w ↦ stopped_end reader after (w.in-Ok-None.is ∙ ap Ok w.in-Ok-None.field-0-is) w.stop-is c.next.ensures
      | in-Err-next w ↦ stopped_refusal reader w.in-Err-next.refusal after w.in-Err-next.is w.stop-is c.next.ensures
    ] in
    (c.in-Ok.ensures.accepted, says c.args.bytes.now _ reader after c.loop-part.invariant stopped)
