use Rattle.std.proofs.Common.{◌≡◌, ◌++◌, take, drop}
use Rattle.marks.specs.Marks.{numbered}
use Rattle.schemes.specs.Clearing.{names, cleared}
use Rattle.schemes.proofs.full.FullScheme.revoke.Given as goal

-- the marks so far are cleared where they name the place, and the others are yet to come
abbrev pub invariant-loop-mark : goal.invariant-loop-mark
invariant-loop-mark l =
    l.mark-items ≡ cleared (λ m. names l.p.number (numbered m)) (take l.mark-index l.initial.mark-items) ++ drop l.mark-index l.initial.mark-items
