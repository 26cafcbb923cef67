-- What a view makes of an element that is read or written. Assumes nothing.
use Rattle.std.proofs.Common.{◌≡◌, ℕ, ◌<◌, ◌≤◌, List, map, length, get_or, set, Some, sym, ap, ◌∙◌}
use Rattle.std.proofs.lemmas.List.{map-set}
use Rattle.std.proofs.lemmas.Option.{slice_get-map, slice_get-get_or, slice_get_past}
use Rattle.std.specs.List.{slice_get}
use Rattle.std.specs.Option.{option_map}
use Rattle.list_cells.specs.declared.cell.Cell.{Cell}
use Rattle.list_cells.specs.Views.{cell_of}
use Rattle.list_law.specs.Call.{replaced, rewritten}

-- a cell that is there is seen
pub viewed : {K : Type 0} (cells : List (Cell K)) (i : ℕ) (d : Cell K) → i < length cells → slice_get (map cell_of cells) i ≡ Some (cell_of (get_or cells i d))
viewed cells i d h = slice_get-map cell_of cells i ∙ ap (option_map cell_of) (slice_get-get_or cells i d h)

-- a cell that is there is written over, and one that is not there is not
pub stored : {K : Type 0} (cells : List (Cell K)) (i : ℕ) (c : Cell K) → i < length cells → map cell_of (set cells i c) ≡ rewritten (map cell_of cells) i (λ _. cell_of c)
stored cells i c h = map-set cell_of cells i c ∙ sym (ap (replaced (map cell_of cells) i (λ _. cell_of c)) (viewed cells i c h))

pub not_stored : {K : Type 0} (cells : List (Cell K)) (i : ℕ) (c : Cell K) → length cells ≤ i → map cell_of cells ≡ rewritten (map cell_of cells) i (λ _. cell_of c)
not_stored cells i c h = sym (ap (replaced (map cell_of cells) i (λ _. cell_of c)) (slice_get-map cell_of cells i ∙ ap (option_map cell_of) (slice_get_past cells i h)))
