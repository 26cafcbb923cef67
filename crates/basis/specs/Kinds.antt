-- The words of the operations, in ASCII. Assumes nothing.
use Rattle.std.specs.Prelude.{ℕ, List, codes}
use Rattle.basis.specs.declared.kind.Kind.{Kind}
use Rattle.basis.specs.declared.kind.Kind.TheVariants.{Lookup, Insert, Remove}

abbrev pub kind_word : Kind → List ℕ
kind_word Lookup = codes "lookup"
kind_word Insert = codes "insert"
kind_word Remove = codes "remove"
