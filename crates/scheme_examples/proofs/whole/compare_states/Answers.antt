use Rattle.scheme_examples.proofs.States.{states_tell_all}
use Rattle.scheme_examples.proofs.whole.compare_states.Goals as goal

pub returns : goal.returns
returns c = states_tell_all
