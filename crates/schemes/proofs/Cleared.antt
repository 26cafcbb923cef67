-- Laws of lists of marks: one seat's entry written, and those that pass a test cleared. Assumes nothing.
use Rattle.std.proofs.Common.{◌≡◌, ℕ, zero, suc, ◌+◌, ◌<◌, ◌≤◌, Bool, true, false, cond, ◌⊎◌, List, [], ◌∷◌, ◌++◌, map, length, get_or, take, drop, set, Some, None, Option, sym, refl, ap, ◌∙◌, inl, inr, arith}
use Rattle.std.specs.Option.{option_map}
use Rattle.std.proofs.lemmas.List.{take_all, drop_all, append-nil, get_or_default, get_or-map, map-set}
use Rattle.std.proofs.lemmas.List.Edits.{map_over_more}
use Rattle.schemes.specs.Clearing.{cleared}

cond_mapped : {X Y : Type 0} (f : X → Y) (b : Bool) (m : Option X) → option_map f (cond b None m) ≡ cond b None (option_map f m)
cond_mapped f true m = refl
cond_mapped f false m = refl

-- marks are cleared alike before and after they are taken by another name
pub map_cleared : {X Y : Type 0} (f : X → Y) (test : Option Y → Bool) (ms : List (Option X)) → map (option_map f) (cleared (λ m. test (option_map f m)) ms) ≡ cleared test (map (option_map f) ms)
map_cleared f test [] = refl
map_cleared f test (m ∷ ms) = ap (λ n. n ∷ map (option_map f) (cleared (λ m. test (option_map f m)) ms)) (cond_mapped f (test (option_map f m)) m) ∙ ap (λ ns. cond (test (option_map f m)) None (option_map f m) ∷ ns) (map_cleared f test ms)

-- a loop that clears: the next mark x, which passes the test or not, is cleared or written back
pub cleared_more : {X : Type 0} (test : Option X → Bool) (xs ys : List (Option X)) (i : ℕ) (d : Option X) → i < length xs → ys ≡ cleared test (take i xs) ++ drop i xs → d ≡ get_or ys i d → (b : Bool) → b ≡ test d → (after : List (Option X)) → after ≡ set ys i (cond b None (get_or ys i d)) → after ≡ cleared test (take (i + 1) xs) ++ drop (i + 1) xs
cleared_more {X} test xs ys i d within so_far read b e after written =
    let x : Option X = get_or ys i d in
    written ∙ ap (λ t. set ys i (cond t None x)) (e ∙ ap test read) ∙ map_over_more (λ m. cond (test m) None m) xs ys i x within so_far (ap (get_or ys i) read)

-- at the loop's end all are done
pub cleared_all : {X : Type 0} (test : Option X → Bool) (xs ys : List (Option X)) (i : ℕ) → length xs ≤ i → ys ≡ cleared test (take i xs) ++ drop i xs → ys ≡ cleared test xs
cleared_all test xs ys i done so_far =
    so_far ∙ ap (λ zs. cleared test zs ++ drop i xs) (take_all i xs done) ∙ ap (λ zs. cleared test xs ++ zs) (drop_all i xs done) ∙ append-nil (cleared test xs)

-- an entry, read under another name
pub get_or_mapped : {X Y : Type 0} (f : X → Y) (ms : List (Option X)) (i : ℕ) → option_map f (get_or ms i None) ≡ get_or (map (option_map f) ms) i None
get_or_mapped f [] i = refl
get_or_mapped f (m ∷ ms) zero = refl
get_or_mapped f (m ∷ ms) (suc i) = get_or_mapped f ms i

-- the same, read at another default
pub read_mapped : {X Y : Type 0} (f : X → Y) (ms : List (Option X)) (d : Option X) (i j : ℕ) → i < length ms → i ≡ j → option_map f (get_or ms i d) ≡ get_or (map (option_map f) ms) j None
read_mapped f ms d i j h e = ap (option_map f) (get_or_default ms i d None h) ∙ get_or_mapped f ms i ∙ ap (λ k. get_or (map (option_map f) ms) k None) e

-- an entry, written under another name
pub set_mapped : {X Y : Type 0} (f : X → Y) (ms after : List (Option X)) (i : ℕ) (m : Option X) → after ≡ set ms i m → map (option_map f) after ≡ set (map (option_map f) ms) i (option_map f m)
set_mapped f ms after i m e = ap (map (option_map f)) e ∙ map-set (option_map f) ms i m

-- an entry of marks of which some were cleared
pub cleared_at : {X : Type 0} (test : Option X → Bool) (ms : List (Option X)) (u : ℕ) → u < length ms → get_or (cleared test ms) u None ≡ cond (test (get_or ms u None)) None (get_or ms u None)
cleared_at test ms u h = get_or-map (λ m. cond (test m) None m) ms u None None h

pub none_is_not_some : {X P : Type 0} {x : X} → None ≡ Some x → P
none_is_not_some e = let z : ◌≡◌ {A = ℕ} 0 1 = cc in absurd (omega arith)

-- a mark that is there after some were cleared was there before, and does not pass the test
pub cleared_cases : {X : Type 0} (test : Option X → Bool) (ms : List (Option X)) (u : ℕ) (x : X) → get_or (cleared test ms) u None ≡ Some x → (get_or ms u None ≡ Some x) × (test (Some x) ≡ false)
cleared_cases test [] u x e = none_is_not_some e
cleared_cases test (m ∷ ms) zero x e = left (test m) refl e
  where
    left : (b : Bool) → test m ≡ b → cond b None m ≡ Some x → (m ≡ Some x) × (test (Some x) ≡ false)
    left true t e = none_is_not_some e
    left false t e = (e, ap test (sym e) ∙ t)
cleared_cases test (m ∷ ms) (suc u) x e = cleared_cases test ms u x e

-- a mark that is there after one entry was written is that one, or was there before
pub set_cases : {X : Type 0} (ms : List (Option X)) (t : ℕ) (w : Option X) (u : ℕ) (x : X) → get_or (set ms t w) u None ≡ Some x → (w ≡ Some x) ⊎ (get_or ms u None ≡ Some x)
set_cases [] t w u x e = inr e
set_cases (m ∷ ms) zero w zero x e = inl e
set_cases (m ∷ ms) zero w (suc u) x e = inr e
set_cases (m ∷ ms) (suc t) w zero x e = inr e
set_cases (m ∷ ms) (suc t) w (suc u) x e = set_cases ms t w u x e
