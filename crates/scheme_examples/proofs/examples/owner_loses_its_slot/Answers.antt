use Rattle.scheme_examples.proofs.Worked.{owner_asked}
use Rattle.scheme_examples.proofs.examples.owner_loses_its_slot.Goals as goal

pub returns-clause-answer : goal.returns-clause-answer
returns-clause-answer c =
    owner_asked _ _ _ _ c.in_ok-seat.ensures c.in_ok-place.ensures c.in_ok-other.ensures c.in_ok-other_place.ensures _ _ c.run_owner.ensures.scheme c.run_owner.ensures.answer
