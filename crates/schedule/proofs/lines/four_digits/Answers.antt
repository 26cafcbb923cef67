use Rattle.std.proofs.Common.{[], ◌∷◌, ◌∙◌, arith}
use Rattle.schedule.proofs.Digits.{four}
use Rattle.schedule.proofs.lines.four_digits.Goals as goal

pub returns : goal.returns
returns c =
    (λ i. c.digit.ensures i ∷ (c.last_digit.ensures i ∷ (c.last_digit-2.ensures i ∷ (c.last_digit-3.ensures i ∷ []))))
    ∙ four c.args.number (omega arith) (omega arith)
