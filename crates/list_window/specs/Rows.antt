-- What lent rows hold, as the definitions of one call have it. Assumes nothing.
use Rattle.list_window.specs.declared.row.Row as declared-row
use Rattle.list_window.specs.declared.row.Doing as declared-doing
use Rattle.list_window.specs.declared.row.Doing.TheVariants as doing
use Rattle.list_law.specs.Call as call

-- a row
abbrev pub doing_of : {K : Type 0} → declared-doing.Doing K → call.Row K
doing_of doing.Away = call.away
doing_of doing.Idle = call.idle
doing_of (doing.Running k x) = call.running k x

abbrev pub row_of : {K : Type 0} → declared-row.Row K → call.Row K
row_of r = doing_of r.doing
