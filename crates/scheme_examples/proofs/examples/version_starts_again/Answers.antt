use Rattle.scheme_examples.proofs.Worked.{version_asked}
use Rattle.scheme_examples.proofs.examples.version_starts_again.Goals as goal

pub returns-clause-answer : goal.returns-clause-answer
returns-clause-answer c =
    version_asked _ _ _ c.in_ok-seat.ensures c.in_ok-place.ensures c.in_ok-revoked.ensures _ _ c.run_version.ensures.scheme c.run_version.ensures.answer
