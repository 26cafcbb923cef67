-- What is written of a record is what is read of it, and the other way round. Assumes nothing.
use Rattle.std.proofs.Common.{◌≡◌, ℕ, ◌+◌, ◌*◌, ◌/◌, ◌%◌, ◌^◌, ◌<◌, Bool, true, false, cond, eqb, List, [], ◌∷◌, ◌++◌, Some, None, Option, sym, refl, ap, ◌∙◌, subst, arith}
use Rattle.std.proofs.lemmas.Nat.{div-add-mod', div-mul-add, mod-mul-add}
use Rattle.std.proofs.lemmas.Bool.{eqb-true}
use Rattle.std.specs.Option.{option_map}
use Rattle.basis.specs.declared.kind.Kind.TheVariants.{Lookup, Insert, Remove}
use Rattle.records.specs.declared.record.SchemeName.{SchemeName}
use Rattle.records.specs.declared.record.SchemeName.TheVariants.{Full, Owner, Version}
use Rattle.records.specs.declared.record.Record.{Record}
use Rattle.records.specs.declared.record.Record.TheVariants.{Setup, Join, Leave, Begin, Step, Abandon}
use Rattle.records.specs.Records.{scheme, two, four, from_two, from_four, fields, Fits, scheme_named, seat_call, setup_call, begin_call, decoded}
use Rattle.schedule.specs.Schedules.{Bytes}

-- two bytes, and four, write a number and give it back
pub from_two_two : (n : ℕ) → from_two (n / 256) (n % 256) ≡ n
from_two_two n = div-add-mod' n 256

pub two_from_two : (h l : ℕ) → l < 256 → two (from_two h l) ≡ h ∷ l ∷ []
two_from_two h l b = λ i. div-mul-add h 256 l b i ∷ mod-mul-add h 256 l b i ∷ []

from_four_four : (n : ℕ) → from_four (n / 65536 / 256) (n / 65536 % 256) (n % 65536 / 256) (n % 65536 % 256) ≡ n
from_four_four n = omega arith

four_from_four : (a b c d : ℕ) → b < 256 → c < 256 → d < 256 → four (from_four a b c d) ≡ a ∷ b ∷ c ∷ d ∷ []
four_from_four a b c d hb hc hd =
    let high : from_four a b c d / 65536 ≡ a * 256 + b = omega arith in
    let low : from_four a b c d % 65536 ≡ c * 256 + d = omega arith in
    (λ i. two (high i) ++ two (low i)) ∙ (λ i. two_from_two a b hb i ++ two_from_two c d hd i)

-- what is written is read back
pub decoded_fields : (r : Record) → decoded (fields r) ≡ Some r
decoded_fields (Setup Full cells window) = ap (λ n. Some (Setup Full n window)) (from_two_two cells)
decoded_fields (Setup Owner cells window) = ap (λ n. Some (Setup Owner n window)) (from_two_two cells)
decoded_fields (Setup Version cells window) = ap (λ n. Some (Setup Version n window)) (from_two_two cells)
decoded_fields (Join seat) = refl
decoded_fields (Leave seat) = refl
decoded_fields (Begin Lookup seat sector) = ap (λ n. Some (Begin Lookup seat n)) (from_four_four sector)
decoded_fields (Begin Insert seat sector) = ap (λ n. Some (Begin Insert seat n)) (from_four_four sector)
decoded_fields (Begin Remove seat sector) = ap (λ n. Some (Begin Remove seat n)) (from_four_four sector)
decoded_fields (Step seat) = refl
decoded_fields (Abandon seat) = refl

-- what holds of each value that a list of tests can give holds of the one that it gave
module _ {X : Type 0} (P : X → Type 0) (c : ℕ) (r : X) where
  pub tested : (n : ℕ) (x : X) (o : Option X) → (c ≡ n → P x) → (o ≡ Some r → P r) → cond (eqb c n) (Some x) o ≡ Some r → P r
  tested n x o here others =
      elim (eqb c n) as (λ b. (b ≡ true → P x) → cond b (Some x) o ≡ Some r → P r) [
        | true ↦ λ here e. let same : x ≡ r = cc in subst P same (here refl)
        | false ↦ λ here e. others e
      ] (λ t. here (eqb-true c n t))

-- nothing is not something
pub none_left : {X Y : Type 0} {r : X} → None ≡ Some r → Y
none_left e = let z : ◌≡◌ {A = ℕ} 0 1 = cc in absurd (omega arith)

-- bytes that say a record are its fields, and its numbers fit
abbrev pub Says : List ℕ → Record → Type 0
Says bytes r = (bytes ≡ fields r) × Fits r

seat_says : (c seat : ℕ) (r : Record) → seat < 256 → seat_call c seat ≡ Some r → Says (c ∷ seat ∷ []) r
seat_says c seat r f =
    let test = tested (Says (c ∷ seat ∷ [])) c r in
    let is : (n : ℕ) → c ≡ n → c ∷ seat ∷ [] ≡ n ∷ seat ∷ [] = λ n e. ap (λ k. k ∷ seat ∷ []) e in
    test 1 (Join seat) _ (λ e. (is 1 e, f)) (test 2 (Leave seat) _ (λ e. (is 2 e, f)) (test 6 (Step seat) _ (λ e. (is 6 e, f)) (test 7 (Abandon seat) _ (λ e. (is 7 e, f)) none_left)))

begin_says : (c seat sector : ℕ) (bytes : List ℕ) (r : Record) → seat < 256 → sector < 2 ^ 32 → bytes ≡ four sector → begin_call c seat sector ≡ Some r → Says (c ∷ seat ∷ bytes) r
begin_says c seat sector bytes r f g w =
    let test = tested (Says (c ∷ seat ∷ bytes)) c r in
    let is : (n : ℕ) → c ≡ n → c ∷ seat ∷ bytes ≡ n ∷ seat ∷ four sector = λ n e i. e i ∷ seat ∷ w i in
    test 3 (Begin Lookup seat sector) _ (λ e. (is 3 e, (f, g))) (test 4 (Begin Insert seat sector) _ (λ e. (is 4 e, (f, g))) (test 5 (Begin Remove seat sector) _ (λ e. (is 5 e, (f, g))) none_left))

-- a number that names a scheme is the scheme's
scheme_number : (n : ℕ) (s : SchemeName) → scheme_named n ≡ Some s → n ≡ (scheme s).number
scheme_number n s =
    let test = tested (λ s. n ≡ (scheme s).number) n s in
    test 1 Full _ (λ e. e) (test 2 Owner _ (λ e. e) (test 3 Version _ (λ e. e) none_left))

setup_says : (c n cells window : ℕ) (bytes : List ℕ) (r : Record) → cells < 2 ^ 16 → window < 256 → bytes ≡ two cells → setup_call c n cells window ≡ Some r → Says (c ∷ n ∷ (bytes ++ window ∷ [])) r
setup_says c n cells window bytes r f g w = go (eqb c 0) (scheme_named n) (eqb-true c 0) (scheme_number n)
  where
    go : (b : Bool) (o : Option SchemeName) → (b ≡ true → c ≡ 0) → ((s : SchemeName) → o ≡ Some s → n ≡ (scheme s).number) → cond b (option_map (λ s. Setup s cells window) o) None ≡ Some r → Says (c ∷ n ∷ (bytes ++ window ∷ [])) r
    go true (Some s) call named e =
        let same : Setup s cells window ≡ r = cc in
        subst (Says _) same ((λ i. call refl i ∷ named s refl i ∷ (w i ++ window ∷ [])), (f, g))
    go true None call named e = none_left e
    go false o call named e = none_left e

-- bytes that say a record are what is written of it
pub decoded_says : (bytes : List ℕ) (r : Record) → Bytes bytes → decoded bytes ≡ Some r → Says bytes r
decoded_says [] r b e = none_left e
decoded_says (c ∷ []) r b e = none_left e
decoded_says (c ∷ seat ∷ []) r (hc, (hs, t)) e = seat_says c seat r hs e
decoded_says (c ∷ seat ∷ x ∷ []) r b e = none_left e
decoded_says (c ∷ seat ∷ x ∷ y ∷ []) r b e = none_left e
decoded_says (c ∷ s ∷ high ∷ low ∷ window ∷ []) r (hc, (hs, (hh, (hl, (hw, t))))) e =
    setup_says c s (from_two high low) window (high ∷ low ∷ []) r (omega arith) hw (sym (two_from_two high low hl)) e
decoded_says (c ∷ seat ∷ x3 ∷ x2 ∷ x1 ∷ x0 ∷ []) r (hc, (hs, (h3, (h2, (h1, (h0, t)))))) e =
    begin_says c seat (from_four x3 x2 x1 x0) (x3 ∷ x2 ∷ x1 ∷ x0 ∷ []) r hs (omega arith) (sym (four_from_four x3 x2 x1 x0 h2 h1 h0)) e
decoded_says (c ∷ seat ∷ x3 ∷ x2 ∷ x1 ∷ x0 ∷ x ∷ xs) r b e = none_left e
