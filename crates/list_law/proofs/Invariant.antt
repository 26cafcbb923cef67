-- What ties a state of the index to the ledger, after every run. Assumes nothing.
use Rattle.std.proofs.Common.{◌≡◌, ℕ, ◌<◌, Bool, true, false, cond, ◌≢◌, ◌⊎◌, List, length, set, Some, None, Option, sym, refl, ap, ◌∙◌, subst, inl, inr, arith}
use Rattle.std.proofs.lemmas.Bool.{eq-eqb, ne_eqb, cases_eq, both_ways}
use Rattle.std.specs.List.{slice_get}
use Rattle.marks.specs.Meaning.{Table}
use Rattle.ledger.specs.Ledger as plain
use Rattle.ledger.specs.Ledger.{Ledger, seated}
use Rattle.list_law.specs.Call.{Row, away, idle, running, State, memory_of, row_at, row_or}
use Rattle.list_law.specs.Runs.{Sized}
use Rattle.ledger.specs.Keys.{Permuted}
use Rattle.list_law.specs.Law.{Entry, keys, Sound}
use Rattle.list_law.proofs.Lists.{nth_set_same, nth_set_other, nth_there, nth_lt}
use Rattle.list_law.proofs.Shape.{Shape}
use Rattle.list_law.proofs.Marks.{Stands}

-- the index's row for a row of the ledger
abbrev pub row_for : {K : Type 0} → plain.Row K → Row K
row_for plain.away = away
row_for plain.idle = idle
row_for (plain.running k x) = running k x

-- a running seat's mark stands below its target; any other seat has none
abbrev pub Placed : {K : Type 0} → (K → K → Bool) → List (Entry K) → plain.Row K → Option ℕ → Type 0
Placed below listed plain.away mark = mark ≡ None
Placed below listed plain.idle mark = mark ≡ None
Placed below listed (plain.running k x) mark = Stands below x listed mark

pub record Inv {K M : Type 0} (below : K → K → Bool) (table : M → Table) (n w : ℕ) (a : Ledger K) (s : State K M) : Type 0 where
  pub sized : Sized n w
  pub number : a.number ≡ n
  pub cells : length s.cells ≡ n
  pub count : s.anchor.count ≡ n
  pub window : s.anchor.window ≡ w
  pub rows : length s.rows ≡ 16
  pub listed : List (Entry K)
  pub frees : List (Entry K)
  pub shape : Shape below (memory_of s) n listed frees
  pub members : Permuted a.members (keys listed)
  pub alike : (u : ℕ) → u < 16 → row_at s.rows u ≡ row_for (a.row u)
  pub placed : (u : ℕ) → u < 16 → Placed below listed (a.row u) (table s.marks u)

pub sound_of : {K M : Type 0} (below : K → K → Bool) (table : M → Table) (n w : ℕ) (a : Ledger K) (s : State K M) → Inv below table n w a s → Sound below a s
sound_of below table n w a s v = record {
  number = v.cells ∙ sym v.number;
  listed = v.listed;
  frees = v.frees;
  from_head = v.shape.from_head;
  from_free = v.shape.from_free;
  once = λ p h. v.shape.once p (omega (arith, h, v.number));
  rises = v.shape.rises;
  members = v.members;
  few = omega (arith, v.shape.total, v.number);
}

-- rows of the ledger, and of the index

module _ {K : Type 0} (a : Ledger K) (t : ℕ) (r : plain.Row K) where
  pub seated_own : (seated a t r).row t ≡ r
  seated_own = ap (λ b. cond b r (a.row t)) (eq-eqb t t refl)

  pub seated_other : (u : ℕ) → u ≢ t → (seated a t r).row u ≡ a.row u
  seated_other u h = ap (λ b. cond b r (a.row u)) (ne_eqb u t h)

module _ {K : Type 0} (rs : List (Row K)) (t : ℕ) (r : Row K) where
  pub row_own : t < length rs → row_at (set rs t r) t ≡ r
  row_own h = ap row_or (nth_set_same rs t r (nth_there rs t h).1)

  pub row_other : (u : ℕ) → u ≢ t → row_at (set rs t r) u ≡ row_at rs u
  row_other u h = ap row_or (nth_set_other rs t u r h)

abbrev pub is_running : {K : Type 0} → Row K → Bool
is_running away = false
is_running idle = false
is_running (running k x) = true

pub running_there : {K : Type 0} (rs : List (Row K)) (u : ℕ) → is_running (row_at rs u) ≡ true → u < length rs
running_there rs u h = go (slice_get rs u) refl
  where
    go : (o : Option (Row _)) → slice_get rs u ≡ o → u < length rs
    go None e = absurd (both_ways false refl (subst (λ o. is_running (row_or o) ≡ true) e h))
    go (Some r) e = nth_lt rs u e

-- what no mark gives
pub placed_none : {K : Type 0} (below : K → K → Bool) (listed : List (Entry K)) (r : plain.Row K) (mark : Option ℕ) → mark ≡ None → Placed below listed r mark
placed_none below listed plain.away mark h = h
placed_none below listed plain.idle mark h = h
placed_none below listed (plain.running k x) mark h = subst (Stands below x listed) (sym h) tt

-- marks that stand as before, or are none
pub placed_on : {K : Type 0} (below : K → K → Bool) (listed listed' : List (Entry K)) (r : plain.Row K) (mark mark' : Option ℕ)
    → (mark ≡ None → mark' ≡ None) → ((x : K) → Stands below x listed mark → Stands below x listed' mark') → Placed below listed r mark → Placed below listed' r mark'
placed_on below listed listed' plain.away mark mark' f g h = f h
placed_on below listed listed' plain.idle mark mark' f g h = f h
placed_on below listed listed' (plain.running k x) mark mark' f g h = g x h

-- what a call of seat t leaves: listed entries, the seat's own row and mark, and everybody else's
pub record After {K M : Type 0} (below : K → K → Bool) (table : M → Table) (n t : ℕ) (a : Ledger K) (s : State K M) (before : List (Entry K)) (a' : Ledger K) (s' : State K M) : Type 0 where
  pub number : a'.number ≡ a.number
  pub cells : length s'.cells ≡ length s.cells
  pub count : s'.anchor.count ≡ s.anchor.count
  pub window : s'.anchor.window ≡ s.anchor.window
  pub rows : length s'.rows ≡ length s.rows
  pub listed : List (Entry K)
  pub frees : List (Entry K)
  pub shape : Shape below (memory_of s') n listed frees
  pub members : Permuted a'.members (keys listed)
  pub own_row : row_at s'.rows t ≡ row_for (a'.row t)
  pub own_mark : Placed below listed (a'.row t) (table s'.marks t)
  pub other_ledger : (u : ℕ) → u ≢ t → a'.row u ≡ a.row u
  pub other_rows : (u : ℕ) → u ≢ t → row_at s'.rows u ≡ row_at s.rows u
  pub other_none : (u : ℕ) → u < 16 → u ≢ t → table s.marks u ≡ None → table s'.marks u ≡ None
  pub other_marks : (u : ℕ) → u < 16 → u ≢ t → (x : K) → Stands below x before (table s.marks u) → Stands below x listed (table s'.marks u)

module _ {K M : Type 0} (below : K → K → Bool) (table : M → Table) (n w t : ℕ) (a : Ledger K) (s : State K M) (v : Inv below table n w a s) (a' : Ledger K) (s' : State K M)
    (f : After below table n t a s v.listed a' s') where
  alike_at : (u : ℕ) → u < 16 → (u ≡ t) ⊎ (u ≡ t → ⊥) → row_at s'.rows u ≡ row_for (a'.row u)
  alike_at u l (inl e) = subst (λ z. row_at s'.rows z ≡ row_for (a'.row z)) (sym e) f.own_row
  alike_at u l (inr d) = f.other_rows u d ∙ v.alike u l ∙ ap row_for (sym (f.other_ledger u d))

  placed_at : (u : ℕ) → u < 16 → (u ≡ t) ⊎ (u ≡ t → ⊥) → Placed below f.listed (a'.row u) (table s'.marks u)
  placed_at u l (inl e) = subst (λ z. Placed below f.listed (a'.row z) (table s'.marks z)) (sym e) f.own_mark
  placed_at u l (inr d) =
      subst (λ r. Placed below f.listed r (table s'.marks u)) (sym (f.other_ledger u d))
      (placed_on below v.listed f.listed (a.row u) (table s.marks u) (table s'.marks u) (f.other_none u l d) (f.other_marks u l d) (v.placed u l))

  -- the invariant goes on
  pub inv_after : Inv below table n w a' s'
  inv_after = record {
    sized = v.sized;
    number = f.number ∙ v.number;
    cells = f.cells ∙ v.cells;
    count = f.count ∙ v.count;
    window = f.window ∙ v.window;
    rows = f.rows ∙ v.rows;
    listed = f.listed;
    frees = f.frees;
    shape = f.shape;
    members = f.members;
    alike = λ u l. alike_at u l (cases_eq u t);
    placed = λ u l. placed_at u l (cases_eq u t);
  }
