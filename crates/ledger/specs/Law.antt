-- What an index is to a reader of the law, what a run of it is, and when a run is lawful. Written over any index that says what
-- one call does. Assumes nothing.
use Rattle.std.specs.Prelude.{◌≡◌, ℕ, ◌+◌, ◌≤◌, Bool, true, false, cond, not, ◌&&◌, ◌≢◌, ◌↔◌, List, [], ◌∷◌, ◌++◌, ◌==◌}
use Rattle.basis.specs.declared.kind.Kind.{Kind}
use Rattle.basis.specs.declared.kind.Kind.TheVariants.{Lookup, Insert, Remove}
use Rattle.basis.specs.declared.refusal.Refusal.TheVariants.{BadLink}
use Rattle.basis.specs.declared.answer.Answer.{Answer}
use Rattle.basis.specs.declared.answer.Answer.TheVariants.{No, Yes, Wait, Full, Refused}
use Rattle.ledger.specs.Ledger.{Ledger, Call, Told, waited, Row, away, idle, running, begin, steps, begins, empty, reply}

-- a call that was made, the index's answer, and what the ledger is told
pub record Event (K : Type 0) : Type 0 where
  pub call : Call K
  pub answer : Answer
  pub told : Told

-- the ledger of n cells, fed the events of a run (newest first)
unfoldable pub fed : {K : Type 0} → (K → K → Bool) → ℕ → List (Event K) → Ledger K
fed below n [] = empty n
fed below n (e ∷ es) = (reply below (fed below n es) e.call e.told).after

-- the ledger's answers to those events (newest first), and the index's
unfoldable pub replies : {K : Type 0} → (K → K → Bool) → ℕ → List (Event K) → List Answer
replies below n [] = []
replies below n (e ∷ es) = (reply below (fed below n es) e.call e.told).answer ∷ replies below n es

unfoldable pub answered : {K : Type 0} → List (Event K) → List Answer
answered [] = []
answered (e ∷ es) = e.answer ∷ answered es

-- an index, as far as the law speaks of it
pub record Index (K : Type 0) : Type 1 where
  -- all that the index keeps between calls
  pub State : Type 0
  -- an accepted making of n cells with window w leaves this state
  pub Made : ℕ → ℕ → State → Type 0
  -- one call leads from a state to a state, with this event
  pub Next : State → Event K → State → Type 0
  -- when a step has to wait, and what the seat's mark then is, beside the ledger before the call
  pub Rule : Ledger K → State → Event K → State → Type 0
  -- the cells are in order, and hold exactly the ledger's set
  pub Sound : Ledger K → State → Type 0
  -- whether the scheme below keeps every mark that it need not strike
  pub strict : Bool

-- a run: an accepted making, or one call more after a run
pub data Run {K : Type 0} (x : Index K) (n w : ℕ) : List (Event K) → x.State → Type 0 where
  made : {s : x.State} → x.Made n w s → Run x n w [] s
  more : {es : List (Event K)} {s : x.State} {e : Event K} {s' : x.State} → Run x n w es s → x.Next s e s' → Run x n w (e ∷ es) s'

-- the state that the making left, with which the run began
abbrev pub start_of : {K : Type 0} {x : Index K} {n w : ℕ} {es : List (Event K)} {s : x.State} → Run x n w es s → x.State
start_of (made {s = s} m) = s
start_of (more r d) = start_of r

-- P holds of every event of a run, with the events before it, the state before and the state after
abbrev pub Each : {K : Type 0} {x : Index K} {n w : ℕ} {es : List (Event K)} {s : x.State} → (List (Event K) → x.State → Event K → x.State → Type 0) → Run x n w es s → Type 0
Each P (made m) = Unit {0}
Each P (more {es = es} {s = s} {e = e} {s' = s'} r d) = P es s e s' × Each P r

-- the answer is no refusal
abbrev pub is_accepted : Answer → Bool
is_accepted No = true
is_accepted Yes = true
is_accepted Answer.Ok = true
is_accepted Wait = true
is_accepted Full = true
is_accepted (Refused r) = false

-- the answer ends an operation
abbrev pub is_final : Answer → Bool
is_final No = true
is_final Yes = true
is_final Answer.Ok = false
is_final Wait = false
is_final Full = true
is_final (Refused r) = false

abbrev pub is_yes : Answer → Bool
is_yes No = false
is_yes Yes = true
is_yes Answer.Ok = false
is_yes Wait = false
is_yes Full = false
is_yes (Refused r) = false

-- an insert or a remove is running
abbrev pub alters : {K : Type 0} → Row K → Bool
alters away = false
alters idle = false
alters (running Lookup x) = false
alters (running Insert x) = true
alters (running Remove x) = true

-- an accepted step of seat t
abbrev pub steps_of : {K : Type 0} → ℕ → Event K → Bool
steps_of t e = steps e.call.what && e.call.seat == t && is_accepted e.answer

-- a step of seat t that answered yes, no or full
abbrev pub ends_of : {K : Type 0} → ℕ → Event K → Bool
ends_of t e = steps e.call.what && e.call.seat == t && is_final e.answer

-- an accepted begin of seat t
abbrev pub begins_of : {K : Type 0} → ℕ → Event K → Bool
begins_of t e = begins e.call.what && e.call.seat == t && is_accepted e.answer

-- a yes to an insert or a remove of another seat than t, by the rows of the ledger before it
abbrev pub changed_beside : {K : Type 0} → ℕ → Ledger K → Event K → Bool
changed_beside t a e = steps e.call.what && not (e.call.seat == t) && is_yes e.answer && alters (a.row e.call.seat)

-- how many events pass a test
unfoldable pub count : {K : Type 0} → (Event K → Bool) → List (Event K) → ℕ
count f [] = 0
count f (e ∷ es) = cond (f e) 1 0 + count f es

-- how many yes answers other seats than t got to inserts and removes in `later`, events after those of `earlier`
unfoldable pub changes : {K : Type 0} → (K → K → Bool) → ℕ → ℕ → List (Event K) → List (Event K) → ℕ
changes below n t [] earlier = 0
changes below n t (e ∷ later) earlier = cond (changed_beside t (fed below n (later ++ earlier)) e) 1 0 + changes below n t later earlier

-- an operation of seat t, begun at b and not begun again since, that has had `limit` accepted steps has answered yes, no or full
abbrev pub AnswersInTime : {K : Type 0} → (K → K → Bool) → ℕ → (ℕ → Kind → ℕ → ℕ) → List (Event K) → Type 0
AnswersInTime {K} below n limit es =
    (t : ℕ) (k : Kind) (x : K) (later : List (Event K)) (b : Event K) (earlier : List (Event K)) →
    es ≡ later ++ b ∷ earlier →
    b.call.what ≡ begin k x → begins_of t b ≡ true → count (begins_of t) later ≡ 0 →
    limit t k (changes below n t later (b ∷ earlier)) ≤ count (steps_of t) later →
    1 ≤ count (ends_of t) later

-- what is promised of one event, a being the ledger fed the events before it
pub record Answers {K : Type 0} (below : K → K → Bool) (x : Index K) (a : Ledger K) (s : x.State) (e : Event K) (s' : x.State) : Type 0 where
  -- it is the ledger's answer
  pub as_ledger : e.answer ≡ (reply below a e.call e.told).answer
  -- the ledger is told wait exactly where the index answered wait
  pub told_wait : (e.told ≡ waited) ↔ (e.answer ≡ Wait)
  -- no window ever met a bad link
  pub no_bad_link : e.answer ≢ Refused BadLink
  -- it waits where the rule has it wait, and is then marked there
  pub rule : x.Rule a s e s'

-- what is promised of a run; `limit` is the number of accepted steps after which an operation of a seat and a kind has answered, by
-- the number of changes by others
pub record Lawful {K : Type 0} (below : K → K → Bool) (x : Index K) (n w : ℕ) (limit : ℕ → Kind → ℕ → ℕ) (es : List (Event K)) (s : x.State) (r : Run x n w es s) : Type 0 where
  -- the answers of the run are the ledger's, one by one
  pub agrees : answered es ≡ replies below n es
  -- and of each event there is more to say
  pub answers : Each (λ earlier s₁ e s₂. Answers below x (fed below n earlier) s₁ e s₂) r
  -- the cells are sound after each event, and at the end (which may be the making)
  pub sound_each : Each (λ earlier s₁ e s₂. x.Sound (fed below n (e ∷ earlier)) s₂) r
  pub sound : x.Sound (fed below n es) s
  -- over a strict scheme no operation takes longer
  pub bounded : x.strict ≡ true → AnswersInTime below n limit es

-- every run is lawful, with a limit by the number of cells and the window
abbrev pub Law : {K : Type 0} → (K → K → Bool) → Index K → (ℕ → ℕ → ℕ → Kind → ℕ → ℕ) → Type 0
Law {K} below x limit = (n w : ℕ) (es : List (Event K)) (s : x.State) (r : Run x n w es s) → Lawful below x n w (limit n w) es s r
