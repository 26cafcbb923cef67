use Rattle.list.proofs.Slips.{no_other}
use Rattle.list.proofs.calls.settle.Goals as goal

pub unreachable-requires : goal.unreachable-requires
unreachable-requires g c = no_other g.K.Key.below g.S.Scheme.table _ _ c.requires c.make_call.result c.make_call.ensures.called.did.answer c.in_default.not-Ok c.in_default.not-Refused
