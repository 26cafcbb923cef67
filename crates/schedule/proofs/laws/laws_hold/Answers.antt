use Rattle.schedule.proofs.Trips.{round_trip, nothing_lost, reading_ends}
use Rattle.schedule.proofs.Counted.{line_numbers}
use Rattle.schedule.proofs.laws.laws_hold.Goals as goal

pub returns : goal.returns
returns c = record { round_trip = round_trip; nothing_lost = nothing_lost; reading_ends = reading_ends; line_numbers = line_numbers }
