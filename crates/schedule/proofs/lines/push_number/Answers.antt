-- Digits are text.
use Rattle.std.proofs.Common.{arith}
use Rattle.schedule.proofs.Digits.{digits_are_text}
use Rattle.schedule.proofs.lines.push_number.Goals as goal

pub from_utf8_unchecked-requires : goal.from_utf8_unchecked-requires
from_utf8_unchecked-requires c = digits_are_text c.args.number _ (omega arith) c.five_digits-digits.ensures

pub from_utf8_unchecked-requires-then-number-ge1000 : goal.from_utf8_unchecked-requires-then-number-ge1000
from_utf8_unchecked-requires-then-number-ge1000 c = digits_are_text c.args.number _ (omega arith) c.four_digits-digits.ensures
