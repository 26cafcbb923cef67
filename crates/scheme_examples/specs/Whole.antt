-- That the states by which the schemes are described tell all of them, and that lists of orders compute on them.
-- Assumes nothing.
use Rattle.std.specs.Prelude.{◌≡◌, List}
use Rattle.marks.specs.Meaning.{Order, Along}
use Rattle.marks.specs.Carried.{carried}
use Rattle.schemes.specs.declared.version.Version.{Version}
use Rattle.schemes.specs.Full.{full_state, full_act}
use Rattle.schemes.specs.Owner.{owner_state, owner_act}
use Rattle.schemes.specs.Version.{version_state, version_act}

-- two values of which the same is told are the same
abbrev pub TellsAll : {X Y : Type 0} → (X → Y) → Type 0
TellsAll {X} told = (a b : X) → told a ≡ told b → a ≡ b

pub record StatesTellAll : Type 0 where
  pub full : TellsAll full_state
  pub owner : TellsAll owner_state
  pub version : TellsAll (λ (v : Version). version_state v.kept)

-- a list of orders, carried out one after another by a scheme that acts by equation, leaves the state that is computed
abbrev pub Computes : {X S : Type 0} → (X → S) → (Order → S → S) → Type 0
Computes {X} state act = (os : List Order) (a b : X) → Along (λ o x y. state y ≡ act o (state x)) os a b → state b ≡ carried act os (state a)

pub record OrdersCompute : Type 0 where
  pub full : Computes full_state full_act
  pub owner : Computes owner_state owner_act
  pub version : Computes (λ (v : Version). version_state v.kept) version_act
