-- What the records of a schedule ask of an index, and what it answers: computed with the definition of one call and the definitions of the
-- scheme that the setup names. Assumes nothing.
use Rattle.std.specs.Prelude.{ℕ, false, List, [], ◌∷◌, ◌++◌, replicate, Some, None, Option}
use Rattle.basis.specs.declared.answer.Answer.{Answer}
use Rattle.key_types.specs.declared.sector.Sector.{Sector}
use Rattle.schemes.specs.Full.{full_new, full_act, full_get}
use Rattle.schemes.specs.Owner.{owner_new, owner_act, owner_get}
use Rattle.schemes.specs.Version.{version_new, version_act, version_get}
use Rattle.ledger.specs.Ledger.{What, join, leave, begin, step, abandon}
use Rattle.list_law.specs.Call.{Cell, cell}
use Rattle.list_law.specs.Performed.{Ask, answers_from}
use Rattle.key_types.specs.Sector.{sector, sector_below}
use Rattle.records.specs.declared.record.Record.{Record}
use Rattle.records.specs.declared.record.Record.TheVariants.{Setup, Join, Leave, Begin, Step, Abandon}
use Rattle.records.specs.declared.record.SchemeName.{SchemeName}
use Rattle.records.specs.declared.record.SchemeName.TheVariants.{Full, Owner, Version}
use Rattle.schedule.specs.Reading.{ReadRecord}

-- a seat asks, with interrupts open
abbrev pub asking : ℕ → What Sector → Ask Sector
asking seat what = record { seat = seat; level = 0; what = what }

-- what a record asks of the index; a setup asks nothing
abbrev pub asked_by : Record → List (Ask Sector)
asked_by (Setup s cells window) = []
asked_by (Join seat) = asking seat join ∷ []
asked_by (Leave seat) = asking seat leave ∷ []
asked_by (Begin kind seat n) = asking seat (begin kind (sector n)) ∷ []
asked_by (Step seat) = asking seat step ∷ []
asked_by (Abandon seat) = asking seat abandon ∷ []

-- the same of records one after another
unfoldable pub asks_of : List ReadRecord → List (Ask Sector)
asks_of [] = []
asks_of (e ∷ es) = asked_by e.content ++ asks_of es

-- what the first record of all says, if there is one; `first_of` is the step from one record to the next
abbrev pub setup_of : List ReadRecord → Option Record
setup_of [] = None
setup_of (e ∷ es) = Some e.content

abbrev pub first_of : Option Record → Record → Option Record
first_of None r = Some r
first_of (Some s) r = Some s

-- the cells that a replay lends: so many, with nothing in them
abbrev pub blank : ℕ → List (Cell Sector)
blank n = replicate n (cell (sector 0) None false)

-- the answers of calls on an index of n cells with window w, over the named scheme: full, owner with all slots nobody, version from 0
unfoldable pub answers_by : SchemeName → ℕ → ℕ → List (Ask Sector) → List Answer
answers_by Full n w asks = answers_from sector_below full_get full_act (blank n) w full_new asks
answers_by Owner n w asks = answers_from sector_below owner_get owner_act (blank n) w owner_new asks
answers_by Version n w asks = answers_from sector_below version_get version_act (blank n) w (version_new 0) asks
