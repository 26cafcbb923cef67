-- What an order makes of a pair of a pair, over three schemes of different make. Assumes nothing.
use Rattle.schemes.specs.declared.full.Full.{Full}
use Rattle.schemes.specs.declared.owner.Owner.{Owner}
use Rattle.schemes.specs.declared.pair.Pair.{Pair}
use Rattle.schemes.specs.declared.version.Version.{Version}
use Rattle.marks.specs.Meaning.{Order}
use Rattle.marks.specs.Carried.{ActsBy}
use Rattle.schemes.specs.Full.{full_state, full_act}
use Rattle.schemes.specs.Owner.{owner_state, owner_act}
use Rattle.schemes.specs.Version.{version_state, version_act}
use Rattle.schemes.specs.Pair.{pair_acts}

-- full and owner side by side, and version beside them
abbrev pub nested_acts : Order → Pair (Pair Full Owner) Version → Pair (Pair Full Owner) Version → Type 0
nested_acts = pair_acts (pair_acts (ActsBy full_state full_act) (ActsBy owner_state owner_act)) (ActsBy (λ s. version_state s.kept) version_act)
