use Rattle.std.proofs.Common.{◌≡◌, ◌++◌, take, string_bytes}
use Rattle.schedule.specs.Lines.{lines_from}
use Rattle.schedule.proofs.lines.push_lines.Given as goal

-- the lines of the answers so far
abbrev pub invariant-loop-index : goal.invariant-loop-index
invariant-loop-index l = string_bytes l.text ≡ string_bytes l.initial.text ++ lines_from l.first (take l.index l.answers)
