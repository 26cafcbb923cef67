use Rattle.schemes.specs.declared.version.Version.{Version}
use Rattle.schemes.specs.Full.{full_state, full_act}
use Rattle.schemes.specs.Owner.{owner_state, owner_act}
use Rattle.schemes.specs.Version.{version_state, version_act}
use Rattle.marks.proofs.Computed.{along_computes}
use Rattle.scheme_examples.proofs.whole.compute_orders.Goals as goal

pub returns : goal.returns
returns c = record {
  full = along_computes full_state full_act;
  owner = along_computes owner_state owner_act;
  version = along_computes (λ (v : Version). version_state v.kept) version_act;
}
