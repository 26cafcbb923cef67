use Rattle.schemes.proofs.VersionLaws.{restart_acted, raise_acted}
use Rattle.schemes.proofs.version.Stamps.count_revoke.Goals as goal

pub returns-then-self-slot : goal.returns-then-self-slot
returns-then-self-slot c = record {
  sixteen = c.restart.ensures.sixteen;
  exact = restart_acted c.args.self.now _ _ _ c.slot_of-slot.ensures.value c.if-self-slot.true c.restart.ensures.marks c.restart.ensures.counters;
}

pub returns-else-self-slot : goal.returns-else-self-slot
returns-else-self-slot c = record {
  sixteen = c.raise.ensures.sixteen;
  exact = raise_acted c.args.self.now _ _ _ c.slot_of-slot.ensures.value c.if-self-slot.false c.raise.ensures.marks c.raise.ensures.counters;
}
