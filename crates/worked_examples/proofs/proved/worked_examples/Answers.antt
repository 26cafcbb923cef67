-- The worked examples, computed. Assumes nothing.
use Rattle.worked_examples.proofs.Facts.{examples}
use Rattle.worked_examples.proofs.proved.worked_examples.Goals as goal

pub returns : goal.returns
returns c = examples
