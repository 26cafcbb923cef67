-- One turn of each loop of making, and the whole of it. Assumes nothing.
use Rattle.std.proofs.Common.{◌≡◌, ℕ, zero, suc, ◌+◌, ◌<◌, false, List, [], ◌∷◌, ◌++◌, map, length, take, set, replicate, Some, sym, refl, ap, ◌∙◌, subst, add-zero, add-suc, suc-add, add-one, arith}
use Rattle.std.specs.List.{slice_get}
use Rattle.std.proofs.lemmas.List.{length-map, take_more_set, take_all, map_push, replicate_more}
use Rattle.std.proofs.lemmas.Bool.{lt-ltb, le-ltb, cond-true, cond-false}
use Rattle.marks.specs.Meaning.{Order, release, Along}
use Rattle.list_window.specs.declared.row.Row as declared
use Rattle.list_window.specs.declared.row.Doing.TheVariants.{Away}
use Rattle.list_window.specs.Rows.{row_of}
use Rattle.list_making.specs.Chained.{next_number}
use Rattle.list_law.specs.Call.{Cell, cell, away}
use Rattle.list_law.specs.Runs.{onward, chained}
use Rattle.list_law.specs.Making.{makes, releases_from}

-- cells from place p on, of so many in all: the first n of them free and linked to the next place, the others as they are
abbrev pub freed_front : {K : Type 0} → ℕ → ℕ → ℕ → List (Cell K) → List (Cell K)
freed_front count zero p cs = cs
freed_front count (suc n) p [] = []
freed_front count (suc n) p (c ∷ cs) = cell c.key (next_number p count) false ∷ freed_front count n (suc p) cs

-- a row that is away
abbrev pub away_row : {K : Type 0} → declared.Row K
away_row = record { doing = Away }

pub rows_more : {K : Type 0} (rows : List (declared.Row K)) (i : ℕ) → i < length rows → map row_of (take i rows) ≡ replicate i away → map row_of (take (i + 1) (set rows i away_row)) ≡ replicate (i + 1) away
rows_more rows i h e =
    ap (map row_of) (take_more_set rows i away_row h) ∙ map_push row_of (take i rows) away_row ∙ ap (λ l. l ++ away ∷ []) e ∙ replicate_more i away

pub rows_all : {K : Type 0} (rows : List (declared.Row K)) (i n : ℕ) → length rows ≡ n → i ≡ n → map row_of (take i rows) ≡ replicate i away → map row_of rows ≡ replicate n away
rows_all rows i n l is e = ap (map row_of) (sym (take_all i rows (omega arith))) ∙ e ∙ ap (λ k. replicate k away) is

-- the cell that is freed next is still as it was given
pub front_nth : {K : Type 0} (count n p : ℕ) (cs : List (Cell K)) → slice_get (freed_front count n p cs) n ≡ slice_get cs n
front_nth count zero p cs = refl
front_nth count (suc n) p [] = refl
front_nth count (suc n) p (c ∷ cs) = front_nth count n (suc p) cs

-- one cell more is freed
pub front_more : {K : Type 0} (count n p : ℕ) (cs : List (Cell K)) (c : Cell K) → slice_get cs n ≡ Some c → set (freed_front count n p cs) n (cell c.key (next_number (p + n) count) false) ≡ freed_front count (suc n) p cs
front_more count n p [] c e = let z : ◌≡◌ {A = ℕ} 0 1 = cc in absurd (omega arith)
front_more count zero p (x ∷ cs) c e = let same : x ≡ c = cc in (λ i. cell (sym same i).key (next_number (add-zero p i) count) false ∷ cs)
front_more count (suc n) p (x ∷ cs) c e =
    ap (λ l. cell x.key (next_number p count) false ∷ l)
    (ap (λ k. set (freed_front count n (suc p) cs) n (cell c.key (next_number k count) false)) (add-suc p n ∙ sym (suc-add p n)) ∙ front_more count n (suc p) cs c e)

-- all of them are freed
pub front_all : {K : Type 0} (count p : ℕ) (cs : List (Cell K)) → p + length cs ≡ count → freed_front count (length cs) p cs ≡ chained p cs
front_all count p [] e = refl
front_all count p (c ∷ cs) e = λ i. cell c.key (link cs e i) false ∷ front_all count (suc p) cs (omega arith) i
  where
    link : (cs : List (Cell _)) → p + length (c ∷ cs) ≡ count → next_number p count ≡ onward (suc p) cs
    link [] e = cond-false _ _ _ (le-ltb (p + 1) count (omega arith))
    link (x ∷ cs) e = cond-true _ _ _ (lt-ltb (p + 1) count (omega arith)) ∙ ap Some (add-one p)

-- one release more
pub releases_more : {S : Type 0} (acts : Order → S → S → Type 0) (t n : ℕ) (a b c : S) → Along acts (releases_from t n) a b → acts (release (t + n)) b c → Along acts (releases_from t (suc n)) a c
releases_more acts t zero a b c e act = (c, subst (λ (x : _). acts (release t) x c) e (subst (λ k. acts (release k) b c) (add-zero t) act), refl)
releases_more acts t (suc n) a b c (x, first, rest) act =
    (x, first, releases_more acts (suc t) n x b c rest (subst (λ k. acts (release k) b c) (add-suc t n ∙ sym (suc-add t n)) act))

-- the sizes of what is lent are those of its view
pub viewed : {X Y Z W : Type 0} (f : X → Y) (h : Z → W) (xs : List X) (zs : List Z) (w : ℕ) → makes (length xs) (length zs) w ≡ makes (length (map f xs)) (length (map h zs)) w
viewed f h xs zs w = λ i. makes (sym (length-map xs f) i) (sym (length-map zs h) i) w
