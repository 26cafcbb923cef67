-- Where each order is an equation of states, a list of orders is one too. Assumes nothing.
use Rattle.std.proofs.Common.{◌≡◌, List, [], ◌∷◌, ap, ◌∙◌}
use Rattle.marks.specs.Meaning.{Order, Along}
use Rattle.marks.specs.Carried.{carried}

pub along_computes : {X S : Type 0} (state : X → S) (act : Order → S → S) (os : List Order) (a b : X) → Along (λ o x y. state y ≡ act o (state x)) os a b → state b ≡ carried act os (state a)
along_computes state act [] a b e = ap state e
along_computes state act (o ∷ os) a b (m, first, rest) = along_computes state act os m b rest ∙ ap (carried act os) first
