use Rattle.std.proofs.Common.{map, length, take}
use Rattle.list_law.specs.Driven.{Driven}
use Rattle.list_driver.specs.Asks.{ask_of}
use Rattle.list_window.specs.Lent.{lent_state, SameLent}
use Rattle.list_driver.proofs.driver.drive.Given as goal

-- the calls so far, and their answers
abbrev pub invariant-loop-at : goal.invariant-loop-at
invariant-loop-at g l =
    Driven g.K.Key.below g.S.Scheme.table g.S.Scheme.strict g.S.Scheme.acts (length l.initial.index.cells.now) l.initial.index.anchor.now.window
    (lent_state l.initial.index) (take l.at (map ask_of l.asks)) (take l.at l.answers) (lent_state l.index)
    × SameLent l.initial.index l.index
