-- Orders computed on a state. Assumes nothing.
use Rattle.std.specs.Prelude.{◌≡◌, List, [], ◌∷◌}
use Rattle.marks.specs.Meaning.{Order}

-- the state after the orders, `act` being what one order makes of it
abbrev pub carried : {S : Type 0} → (Order → S → S) → List Order → S → S
carried act [] s = s
carried act (o ∷ os) s = carried act os (act o s)

-- what an order makes of a scheme that has such a state: a, before it, becomes b exactly where the state of b is the one computed
abbrev pub ActsBy : {S N : Type 0} → (S → N) → (Order → N → N) → Order → S → S → Type 0
ActsBy state act o a b = state b ≡ act o (state a)
