-- What is opened is read from behind its first byte on.
use Rattle.std.proofs.Common.{refl, rules}
use borrow.Author.Tests.{false-ltb}
use Rattle.schedule.proofs.Cuts.{opened}
use Rattle.schedule.proofs.Places.{behind_first}
use Rattle.schedule.proofs.reader.Reader.open.Goals as goal

pub returns : goal.returns
returns c =
    let p = opened c.args.bytes.now (search rules) (search rules) (false-ltb 60000 _ c.if-too_long.ensures) in
    record {
      accepted = p.0;
      begins = p.1;
      total = refl;
      first = refl;
      reads = record { total = refl; rest = behind_first c.args.bytes _ (search rules) (search rules) refl };
    }
