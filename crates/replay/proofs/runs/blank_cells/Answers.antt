use Rattle.std.proofs.Common.{map, replicate, ap, ◌∙◌, rules}
use Rattle.list_cells.specs.Views.{cell_of}
use Rattle.replay.proofs.Ran.{map_replicate}
use Rattle.replay.proofs.runs.blank_cells.Goals as goal

pub returns : goal.returns
returns c =
    let copies = c.in_ok-vec.ensures.items_if_clones_equal (λ y e. search rules) in
    ap (map cell_of) copies ∙ map_replicate cell_of c.from.result c.new-blank.result ∙ (λ i. replicate (c.from.ensures i) (c.new-blank.ensures i))
