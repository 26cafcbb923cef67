-- The eleven refusals: number and word of each; none carries a value. Assumes nothing.
use Rattle.std.specs.Prelude.{[], codes}
use Rattle.basis.specs.Cases.{Case, case_of}
use Rattle.basis.specs.declared.refusal.Refusal.{Refusal}
use Rattle.basis.specs.declared.refusal.Refusal.TheVariants.{OutOfRange, WrongSizes, MaskRaised, NotAway, Away, AlreadyRunning, NotRunning, BadLink, ScheduleTooLong, NoVersionByte, BadRecord}

abbrev pub refusal : Refusal → Case
refusal OutOfRange = case_of 1 (codes "number out of range") []
refusal WrongSizes = case_of 2 (codes "wrong sizes") []
refusal MaskRaised = case_of 3 (codes "mask already raised") []
refusal NotAway = case_of 4 (codes "row not away") []
refusal Away = case_of 5 (codes "row away") []
refusal AlreadyRunning = case_of 6 (codes "row running") []
refusal NotRunning = case_of 7 (codes "row idle") []
refusal BadLink = case_of 8 (codes "bad link") []
refusal ScheduleTooLong = case_of 9 (codes "schedule too long") []
refusal NoVersionByte = case_of 10 (codes "no first byte 1") []
refusal BadRecord = case_of 11 (codes "bad record") []
