use Rattle.marks.specs.Meaning.{Along}
use Rattle.list_law.specs.Call.{Obeys}
use Rattle.list_law.specs.Making.{releases_from}
use Rattle.list_making.proofs.making.release_all.Given as goal

abbrev pub invariant-loop-number : goal.invariant-loop-number
invariant-loop-number g l = Along (Obeys g.S.Scheme.table g.S.Scheme.strict g.S.Scheme.acts) (releases_from 0 l.number) l.initial.scheme l.scheme
