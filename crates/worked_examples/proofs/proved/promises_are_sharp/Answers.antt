-- The worked runs refute each stronger promise. Assumes nothing.
use Rattle.worked_examples.proofs.Sharp.{sharp}
use Rattle.worked_examples.proofs.proved.promises_are_sharp.Goals as goal

pub returns : goal.returns
returns c = sharp
