use Rattle.std.proofs.Common.{◌+◌, ◌-◌, ◌≤◌, Some, length, take, drop, sym, refl, ap, ◌∙◌, arith, rules}
use Rattle.std.proofs.lemmas.List.{length-take-le, take_rest, length-drop}
use Rattle.schedule.proofs.Cuts.{cut_at}
use Rattle.schedule.proofs.Places.{cut_front, cut_back}
use Rattle.schedule.proofs.reader.cut.Goals as goal

pub returns-clause-cases : goal.returns-clause-cases
returns-clause-cases c =
    let rest = c.args.rest.now in
    let n = c.length_of-length.result in
    let tail = take (length rest - 2) (drop 2 rest) in
    cut_at rest n c.in-len2-up.len_at_least c.length_of-length.ensures c.if-bytes-length.false ∙ (λ i. Some (take n tail, sym (take_rest tail n) i))

pub returns-clause-lies : goal.returns-clause-lies
returns-clause-lies c =
    let rest = c.args.rest in
    let n = c.length_of-length.result in
    let room : 2 + n ≤ length rest.now = omega (arith, ap length (take_rest rest.now 2), length-drop 2 rest.now) in
    let front = cut_front rest _ n (search rules) refl room in
    let long = length-take-le n _ c.if-bytes-length.false in
    (front, cut_back rest _ _ n front long (search rules) refl)
