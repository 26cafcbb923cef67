-- All answers have numbers that fit, so all their lines are added.
use Rattle.std.proofs.Common.{◌+◌, length, ap, arith}
use Rattle.std.proofs.lemmas.List.{take_all}
use Rattle.std.proofs.lemmas.Grind.{common_steps}
use Rattle.schedule.specs.Lines.{lines_from}
use Rattle.schedule.proofs.Numbered.{lines_join}
use Rattle.replay.specs.Views.{refused_by}
use Rattle.replay.proofs.text.text_of_answers.Goals as goal

pub returns : goal.returns
unfolding lines_from
returns c =
    let answers = c.args.answers.now in
    let all = ap (lines_from 2) (take_all 65533 answers (omega (arith, c.requires))) in
    let joined = lines_join 2 answers (refused_by c.args.stop) (length answers + 2) (omega arith) in
    grind (arith, common_steps)
