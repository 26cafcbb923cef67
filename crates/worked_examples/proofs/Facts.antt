-- The worked examples, computed. Assumes nothing.
use Rattle.std.proofs.Common.{refl}
use Rattle.schemes.specs.Spread.{slot}
use Rattle.worked_examples.specs.Examples.{Examples}
use Rattle.worked_examples.proofs.Worked.{place_used_again, bound_met, bound_met_from_two, bound_met_at_once}
use Rattle.worked_examples.proofs.Scattered.{scattered}

pub examples : Examples 1 4 5
unfolding slot
examples = record {
  place_used_again = place_used_again;
  bound_met = bound_met;
  bound_met_from_two = bound_met_from_two;
  bound_met_at_once = bound_met_at_once;
  scattered = scattered;
  owned = refl;
  taken = refl;
  current = refl;
  outdated = refl;
  slot_of_3 = refl;
  slot_of_19 = refl;
  count_first = refl;
  not_back = refl;
}
