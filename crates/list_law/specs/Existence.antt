-- That there are runs: a making for every size, window and given cells, and after every run every call. Assumes nothing.
use Rattle.std.specs.Prelude.{◌≡◌, ℕ, ◌<◌, ◌≤◌, Bool, true, List, length}
use Rattle.marks.specs.Meaning.{Table, Order, release, reserve, revoke, Along}
use Rattle.ledger.specs.Ledger.{Call}
use Rattle.ledger.specs.Law.{Event, Run}
use Rattle.list_law.specs.Call.{Cell, State, Obeys}
use Rattle.list_law.specs.Runs.{Made, Next}
use Rattle.list_law.specs.Law.{list_index}
use Rattle.list_law.specs.Making.{releases}

-- an order that names a seat and a place that there are
abbrev pub Proper : Order → Type 0
Proper (release t) = t < 16
Proper (reserve t p) = (t < 16) × (p < 1008)
Proper (revoke p) = p < 1008

-- a scheme that can carry out every such order, and has a value. A test says which of its values are formed, as its code makes them: the
-- one is, and an order carried out on a formed value leaves one
pub record Able {M : Type 0} (table : M → Table) (strict : Bool) (acts : Order → M → M → Type 0) (formed : M → Bool) : Type 0 where
  pub one : M
  pub one_formed : formed one ≡ true
  pub obeys : (o : Order) → Proper o → (a : M) → formed a ≡ true → (b : M) × Obeys table strict acts o a b × (formed b ≡ true)

-- runs over a scheme: they begin, and go on
pub record Runs {K M : Type 0} (below : K → K → Bool) (table : M → Table) (strict : Bool) (acts : Order → M → M → Type 0)
    (formed : M → Bool) (most widest : ℕ) : Type 0 where
  -- for 1 to `most` cells, windows of 1 to `widest`, all given cells and every formed value of the scheme there is an accepted making over
  -- those cells, in which that value has carried out the releases of all sixteen marks
  pub makes : (n w : ℕ) → 1 ≤ n → n ≤ most → 1 ≤ w → w ≤ widest → (given : List (Cell K)) → length given ≡ n → (m : M) → formed m ≡ true →
      (s : State K M) × (d : Made table n w s) × (d.given ≡ given) × Along (Obeys table strict acts) releases m s.marks × (formed s.marks ≡ true)
  -- after every run that left the scheme formed, every call has a next event, whatever numbers of cells and rows it is lent, which
  -- leaves it formed
  pub goes_on : (n w : ℕ) (es : List (Event K)) (s : State K M) → Run (list_index below table strict acts) n w es s → formed s.marks ≡ true →
      (c : Call K) → (e : Event K) × (s' : State K M) × Next below table strict acts s e s' × (e.call ≡ c) × (formed s'.marks ≡ true)

-- the plain scheme: its value is the table itself, and its acts are whatever the meaning allows
abbrev pub unconstrained : Order → Table → Table → Type 0
unconstrained o a b = Unit {0}

-- there are runs over every scheme that can carry out its orders, and the plain scheme can, strict or relaxed, on every table
pub record RunsAreThere {K : Type 0} (below : K → K → Bool) {M : Type 0} (table : M → Table) (strict : Bool) (acts : Order → M → M → Type 0) (most widest : ℕ) : Type 0 where
  pub over_scheme : (formed : M → Bool) → Able table strict acts formed → Runs below table strict acts formed most widest
  pub over_tables : (keeps : Bool) → Runs below (λ (m : Table). m) keeps unconstrained (λ _. true) most widest
