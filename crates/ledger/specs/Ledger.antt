-- The ledger: a plain set and a row for each seat, and what it answers to a call. It knows no cell, link, mark or window.
-- Assumes nothing.
use Rattle.std.specs.Prelude.{ℕ, Bool, true, false, cond, not, ◌&&◌, ◌||◌, List, [], ◌∷◌, length, Some, None, Option, ◌==◌, nat_le, nat_lt}
use Rattle.basis.specs.declared.kind.Kind.{Kind}
use Rattle.basis.specs.declared.kind.Kind.TheVariants.{Lookup, Insert, Remove}
use Rattle.basis.specs.declared.refusal.Refusal.{Refusal}
use Rattle.basis.specs.declared.refusal.Refusal.TheVariants.{OutOfRange, WrongSizes, MaskRaised, NotAway, Away, AlreadyRunning, NotRunning}
use Rattle.basis.specs.declared.answer.Answer.{Answer}
use Rattle.basis.specs.declared.answer.Answer.TheVariants.{No, Yes, Wait, Full, Refused}
use Rattle.ledger.specs.Tests.{Test, test, first}

-- what a seat may ask: to take its seat, to give it up, to begin an operation on a target, to run one window of it, to drop it
pub data What (K : Type 0) : Type 0 where
  join : What K
  leave : What K
  begin : Kind → K → What K
  step : What K
  abandon : What K

-- a call with its arguments: the seat as a plain number, the mask level at entry, and how many cells and rows were lent
pub record Call (K : Type 0) : Type 0 where
  pub what : What K
  pub seat : ℕ
  pub level : ℕ
  pub cells : ℕ
  pub rows : ℕ

-- what the ledger is told of the index besides the call: nothing, or that a step of the index answered wait
pub data Told : Type 0 where
  nothing : Told
  waited : Told

-- the ledger's own row of a seat: not seated, seated with nothing to do, or in the middle of an operation on a target
pub data Row (K : Type 0) : Type 0 where
  away : Row K
  idle : Row K
  running : Kind → K → Row K

-- the number of cells at making, the keys in the set, and the row of each seat (only those below 16 mean anything)
pub record Ledger (K : Type 0) : Type 0 where
  pub number : ℕ
  pub members : List K
  pub row : ℕ → Row K

-- the ledger after an accepted making of n cells: nothing in the set, every seat away
abbrev pub empty : {K : Type 0} → ℕ → Ledger K
empty n = record { number = n; members = []; row = λ _. away }

-- the row of seat t becomes r
abbrev pub seated : {K : Type 0} → Ledger K → ℕ → Row K → Ledger K
seated a t r = record { number = a.number; members = a.members; row = λ u. cond (u == t) r (a.row u) }

-- the keys in the set become ks
abbrev pub holding : {K : Type 0} → Ledger K → List K → Ledger K
holding a ks = record { number = a.number; members = ks; row = a.row }

-- x and y are the same key: neither is below the other
abbrev pub same : {K : Type 0} → (K → K → Bool) → K → K → Bool
same below x y = not (below x y) && not (below y x)

-- the set has a key that is the same as x
abbrev pub holds : {K : Type 0} → (K → K → Bool) → K → List K → Bool
holds below x [] = false
holds below x (y ∷ ys) = same below x y || holds below x ys

-- the set without every key that is the same as x
abbrev pub without : {K : Type 0} → (K → K → Bool) → K → List K → List K
without below x [] = []
without below x (y ∷ ys) = cond (same below x y) (without below x ys) (y ∷ without below x ys)

-- an answer, and the ledger after it
pub record Reply (K : Type 0) : Type 0 where
  pub answer : Answer
  pub after : Ledger K

abbrev pub replied : {K : Type 0} → Answer → Ledger K → Reply K
replied a l = record { answer = a; after = l }

-- an operation run whole on the set; the seat is idle afterwards
abbrev pub operated : {K : Type 0} → (K → K → Bool) → Ledger K → ℕ → Kind → K → Reply K
operated below a t Lookup x = replied (cond (holds below x a.members) Yes No) (seated a t idle)
operated below a t Insert x =
    cond (holds below x a.members) (replied No (seated a t idle))
    (cond (length a.members == a.number) (replied Full (seated a t idle))
    (replied Yes (holding (seated a t idle) (x ∷ a.members))))
operated below a t Remove x =
    cond (holds below x a.members) (replied Yes (holding (seated a t idle) (without below x a.members)))
    (replied No (seated a t idle))

-- a step that is not told wait; only a running row ever comes here
abbrev pub whole : {K : Type 0} → (K → K → Bool) → Ledger K → ℕ → Row K → Reply K
whole below a t away = replied No a
whole below a t idle = replied No a
whole below a t (running k x) = operated below a t k x

abbrev pub stepped : {K : Type 0} → (K → K → Bool) → Ledger K → ℕ → Told → Reply K
stepped below a t waited = replied Wait a
stepped below a t nothing = whole below a t (a.row t)

-- a call that no refusal fits
abbrev pub accepted : {K : Type 0} → (K → K → Bool) → Ledger K → ℕ → What K → Told → Reply K
accepted below a t join told = replied Answer.Ok (seated a t idle)
accepted below a t leave told = replied Answer.Ok (seated a t away)
accepted below a t (begin k x) told = replied Answer.Ok (seated a t (running k x))
accepted below a t step told = stepped below a t told
accepted below a t abandon told = replied Answer.Ok (seated a t idle)

abbrev pub joins : {K : Type 0} → What K → Bool
joins join = true
joins leave = false
joins (begin k x) = false
joins step = false
joins abandon = false

abbrev pub begins : {K : Type 0} → What K → Bool
begins join = false
begins leave = false
begins (begin k x) = true
begins step = false
begins abandon = false

abbrev pub steps : {K : Type 0} → What K → Bool
steps join = false
steps leave = false
steps (begin k x) = false
steps step = true
steps abandon = false

abbrev pub abandons : {K : Type 0} → What K → Bool
abandons join = false
abandons leave = false
abandons (begin k x) = false
abandons step = false
abandons abandon = true

abbrev pub is_away : {K : Type 0} → Row K → Bool
is_away away = true
is_away idle = false
is_away (running k x) = false

abbrev pub is_idle : {K : Type 0} → Row K → Bool
is_idle away = false
is_idle idle = true
is_idle (running k x) = false

abbrev pub is_running : {K : Type 0} → Row K → Bool
is_running away = false
is_running idle = false
is_running (running k x) = true

-- the sizes are right: 1 to 1,008 cells, as many as at making, and sixteen rows
abbrev pub fitting : {K : Type 0} → Ledger K → Call K → Bool
fitting a c = nat_le 1 c.cells && nat_le c.cells 1008 && c.cells == a.number && c.rows == 16

-- the refusals that a seat with row r may get from the ledger, in their order
abbrev pub refusals : {K : Type 0} → Ledger K → Call K → Row K → List Test
refusals a c r =
    test (not (nat_lt c.seat 16)) OutOfRange ∷
    test (not (fitting a c)) WrongSizes ∷
    test (not (nat_lt c.level 7)) MaskRaised ∷
    test (joins c.what && not (is_away r)) NotAway ∷
    test (not (joins c.what) && is_away r) Away ∷
    test (begins c.what && is_running r) AlreadyRunning ∷
    test ((steps c.what || abandons c.what) && is_idle r) NotRunning ∷ []

-- refused, and as it was, or accepted
abbrev pub ruled : {K : Type 0} → (K → K → Bool) → Ledger K → Call K → Told → Option Refusal → Reply K
ruled below a c told (Some r) = replied (Refused r) a
ruled below a c told None = accepted below a c.seat c.what told

-- what the ledger answers to a call
unfoldable pub reply : {K : Type 0} → (K → K → Bool) → Ledger K → Call K → Told → Reply K
reply below a c told = ruled below a c told (first (refusals a c (a.row c.seat)))
