-- The states tell all: seats and places are determined by their numbers. Assumes nothing.
use Rattle.std.proofs.Common.{◌≡◌, ℕ, ◌<◌, List, [], ◌∷◌, map, Some, None, Option, refl, ap, ap₂, arith}
use mathlib.Core.HLevel.{is_prop→PathP, Π_prop, →_prop}
use native.Mathlib.Bridge.{le_prop}
use Rattle.std.specs.Option.{option_map}
use Rattle.basis.specs.declared.bounded.Bounded.{Bounded}
use Rattle.schemes.specs.declared.version.Stamped.{Stamped}
use Rattle.schemes.specs.declared.version.Version.{Version}
use Rattle.schemes.specs.Owner.{Owned}
use Rattle.schemes.specs.Version.{Dated, Versioned, NoneAhead, dated_of, version_state}
use Rattle.scheme_examples.specs.Whole.{TellsAll, StatesTellAll}

bounded_told : {END : ℕ} → TellsAll (λ (b : Bounded END). b.number)
bounded_told {END} a b e = λ i. record { number = e i; ok = is_prop→PathP (λ j. e j < END) (λ j. le_prop) a.ok b.ok i }

stamped_told : TellsAll dated_of
stamped_told m n e =
    ap₂ (λ (p : Bounded 1008) (c : ℕ). record { place = p; counter = c }) (bounded_told m.place n.place (ap (λ (s : Dated). s.place) e)) (ap (λ (s : Dated). s.counter) e)

option_told : {X Y : Type 0} (f : X → Y) → TellsAll f → TellsAll (option_map f)
option_told f told None None e = refl
option_told f told None (Some y) e = let z : ◌≡◌ {A = ℕ} 0 1 = cc in absurd (omega arith)
option_told f told (Some x) None e = let z : ◌≡◌ {A = ℕ} 0 1 = cc in absurd (omega arith)
option_told f told (Some x) (Some y) e = ap Some (told x y (let same : f x ≡ f y = cc in same))

list_told : {X Y : Type 0} (f : X → Y) → TellsAll f → TellsAll (map f)
list_told f told [] [] e = refl
list_told f told [] (y ∷ ys) e = let z : ◌≡◌ {A = ℕ} 0 1 = cc in absurd (omega arith)
list_told f told (x ∷ xs) [] e = let z : ◌≡◌ {A = ℕ} 0 1 = cc in absurd (omega arith)
list_told f told (x ∷ xs) (y ∷ ys) e =
    let first : f x ≡ f y = cc in
    let rest : map f xs ≡ map f ys = cc in
    ap₂ ◌∷◌ (told x y first) (list_told f told xs ys rest)

entries_told : {X Y : Type 0} (f : X → Y) → TellsAll f → TellsAll (map (option_map f))
entries_told f told = list_told (option_map f) (option_told f told)

stamps_told : TellsAll version_state
stamps_told a b e =
    ap₂ (λ (ms : List (Option Stamped)) (cs : List ℕ). record { marks = ms; counters = cs })
    (entries_told dated_of stamped_told a.marks b.marks (ap (λ (s : Versioned). s.marks) e))
    (ap (λ (s : Versioned). s.counters) e)

version_told : TellsAll (λ (v : Version). version_state v.kept)
version_told a b e =
    let same : a.kept ≡ b.kept = stamps_told a.kept b.kept e in
    λ i. record {
      kept = same i;
      none_ahead = is_prop→PathP (λ j. NoneAhead (version_state (same j))) (λ j. Π_prop (λ u. Π_prop (λ p. Π_prop (λ c. →_prop le_prop)))) a.none_ahead b.none_ahead i;
    }

pub states_tell_all : StatesTellAll
states_tell_all = record {
  full = λ a b e. ap (λ (ms : List (Option (Bounded 1008))). record { marks = ms }) (entries_told (λ (p : Bounded 1008). p.number) bounded_told a.marks b.marks e);
  owner = λ a b e.
      ap₂ (λ (ms : List (Option (Bounded 1008))) (os : List (Option (Bounded 16))). record { marks = ms; owners = os })
      (entries_told (λ (p : Bounded 1008). p.number) bounded_told a.marks b.marks (ap (λ (s : Owned). s.marks) e))
      (entries_told (λ (t : Bounded 16). t.number) bounded_told a.owners b.owners (ap (λ (s : Owned). s.owners) e));
  version = version_told;
}
