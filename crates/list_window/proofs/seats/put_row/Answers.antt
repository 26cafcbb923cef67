use Rattle.std.proofs.Common.{map, set, ap, ◌∙◌}
use Rattle.std.proofs.lemmas.List.{map-set}
use Rattle.list_window.specs.Rows.{row_of, doing_of}
use Rattle.list_window.proofs.seats.put_row.Goals as goal

pub returns-then-at-rows : goal.returns-then-at-rows
returns-then-at-rows g c =
    map-set row_of c.args.rows.now c.index-at.result _ ∙ ap (λ i. set (map row_of c.args.rows.now) i (doing_of c.args.doing)) c.index-at.ensures
