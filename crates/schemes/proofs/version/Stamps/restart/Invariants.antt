use Rattle.std.proofs.Common.{◌≡◌, ◌++◌, take, drop}
use Rattle.std.specs.Option.{option_map}
use Rattle.schemes.specs.Clearing.{cleared}
use Rattle.schemes.specs.Version.{dated_of, kept_in}
use Rattle.schemes.proofs.version.Stamps.restart.Given as goal

-- the marks so far are cleared where they are kept in the slot, and the others are yet to come
abbrev pub invariant-loop-mark : goal.invariant-loop-mark
invariant-loop-mark l =
    l.mark-items ≡ cleared (λ m. kept_in l.slot (option_map dated_of m)) (take l.mark-index l.initial.mark-items) ++ drop l.mark-index l.initial.mark-items
