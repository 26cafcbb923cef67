-- What the law promises of a singly linked index: how its cells stand after every run, when a step waits and at which cell, and how many
-- steps an operation takes. Assumes nothing.
use Rattle.std.specs.Prelude.{◌≡◌, ℕ, suc, ◌+◌, ◌-◌, ◌*◌, ◌/◌, ◌<◌, ◌≤◌, Bool, true, false, cond, ◌↔◌, List, [], ◌∷◌, ◌++◌, length, Some, None, Option, ◌==◌, nat_le}
use Rattle.std.specs.List.{slice_get}
use Rattle.basis.specs.declared.kind.Kind.{Kind}
use Rattle.basis.specs.declared.answer.Answer.{Answer}
use Rattle.basis.specs.declared.answer.Answer.TheVariants.{Wait}
use Rattle.marks.specs.Meaning.{Table, Order}
use Rattle.ledger.specs.Ledger.{Ledger, running, step}
use Rattle.ledger.specs.Keys.{Every, Rises, Permuted, between}
use Rattle.ledger.specs.Law as law
use Rattle.ledger.specs.Law.{Event, Index, is_accepted, Run}
use Rattle.list_law.specs.Call.{Link, Cell, cell, State, reach}
use Rattle.list_law.specs.Runs.{Made, Next}

-- a cell that was met: its place and its key
pub record Entry (K : Type 0) : Type 0 where
  pub place : ℕ
  pub key : K

-- the entry of this place and key
abbrev pub entry : {K : Type 0} → ℕ → K → Entry K
entry p x = record { place = p; key = x }

-- the keys of the entries
abbrev pub keys : {K : Type 0} → List (Entry K) → List K
keys [] = []
keys (e ∷ es) = e.key ∷ keys es

-- links from a meet exactly the cells of `es`, and then stand at b
abbrev pub Links : {K : Type 0} → List (Cell K) → Link → List (Entry K) → Link → Type 0
Links cs a [] b = a ≡ b
Links cs a (e ∷ es) b =
    (l : Link) × (flag : Bool) × (a ≡ Some e.place) × (slice_get cs e.place ≡ Some (cell e.key l flag)) × Links cs l es b

-- the same, and each cell met has this flag
abbrev pub Leads : {K : Type 0} → List (Cell K) → Bool → Link → List (Entry K) → Link → Type 0
Leads cs flag a [] b = a ≡ b
Leads cs flag a (e ∷ es) b =
    (l : Link) × (a ≡ Some e.place) × (slice_get cs e.place ≡ Some (cell e.key l flag)) × Leads cs flag l es b

-- how often a place is met
abbrev pub times : {K : Type 0} → ℕ → List (Entry K) → ℕ
times p [] = 0
times p (e ∷ es) = cond (e.place == p) 1 0 + times p es

-- the cells stand as they should, and hold the ledger's set
pub record Sound {K M : Type 0} (below : K → K → Bool) (a : Ledger K) (s : State K M) : Type 0 where
  pub number : length s.cells ≡ a.number
  -- the cells met from the head, all listed, and those met from the free link, all free; both to the end
  pub listed : List (Entry K)
  pub frees : List (Entry K)
  pub from_head : Leads s.cells true s.anchor.head listed None
  pub from_free : Leads s.cells false s.anchor.free frees None
  -- every cell is met once in all
  pub once : (p : ℕ) → p < a.number → times p listed + times p frees ≡ 1
  -- each listed key is below every later one, and the listed keys are the set's, key for key
  pub rises : Rises below (keys listed)
  pub members : Permuted a.members (keys listed)
  pub few : length listed ≤ a.number

-- the link of a cell that there is
abbrev pub link_behind : {K : Type 0} → Option (Cell K) → Link
link_behind None = None
link_behind (Some c) = c.link

-- the link that a window follows first: that of the marked cell, or the head if there is no mark
abbrev pub first_link : {K : Type 0} → List (Cell K) → Link → Option ℕ → Link
first_link cs head None = head
first_link cs head (Some p) = link_behind (slice_get cs p)

-- by links from a, m cells are met, the last at place p, whose keys are all below x
pub record Meets {K : Type 0} (below : K → K → Bool) (cs : List (Cell K)) (a : Link) (x : K) (m : ℕ) (p : ℕ) : Type 0 where
  pub before : List (Entry K)
  pub key : K
  pub end : Link
  pub links : Links cs a (before ++ entry p key ∷ []) end
  pub long : suc (length before) ≡ m
  pub small : Every (λ y. below y x) (keys before)
  pub last_small : below key x ≡ true

-- a key lies beyond that of a cell
abbrev pub past : {K : Type 0} → (K → K → Bool) → Option (Cell K) → K → Bool
past below None y = true
past below (Some c) y = below c.key y

-- a key lies beyond that of the marked cell; every key does if there is no mark
abbrev pub beyond : {K : Type 0} → (K → K → Bool) → List (Cell K) → Option ℕ → K → Bool
beyond below cs None y = true
beyond below cs (Some p) y = past below (slice_get cs p) y

-- the rule of waits, of a step with answer b that starts at this mark and leaves mark', on its way to x with width m
pub record Waits {K : Type 0} (below : K → K → Bool) (cs : List (Cell K)) (head : Link) (members : List K)
    (mark mark' : Option ℕ) (x : K) (m : ℕ) (b : Answer) : Type 0 where
  -- it waits exactly where m cells are met whose keys are all below the target
  pub waits : (b ≡ Wait) ↔ ((p : ℕ) × Meets below cs (first_link cs head mark) x m p)
  -- and then its mark is the last of these
  pub marked : (p : ℕ) → Meets below cs (first_link cs head mark) x m p → mark' ≡ Some p
  -- it waits exactly where at least m keys of the ledger's set lie beyond the mark and below the target
  pub waits_by_set : (b ≡ Wait) ↔ (m ≤ between below (beyond below cs mark) x members)

-- every accepted step of a seat that the ledger has running waits by the rule, with the width that its window has
abbrev pub Rule : {K M : Type 0} → (K → K → Bool) → (M → Table) → Ledger K → State K M → Event K → State K M → Type 0
Rule {K} below table a s e s' =
    (k : Kind) (x : K) → e.call.what ≡ step → a.row e.call.seat ≡ running k x → is_accepted e.answer ≡ true →
    Waits below s.cells s.anchor.head a.members (table s.marks e.call.seat) (table s'.marks e.call.seat) x
    (reach e.call.seat s.anchor.window (table s.marks e.call.seat)) e.answer

-- the singly linked index over a scheme, as the law sees it
abbrev pub list_index : {K M : Type 0} → (K → K → Bool) → (M → Table) → Bool → (Order → M → M → Type 0) → Index K
list_index {K} {M} below table strict acts = record
    { State = State K M; Made = Made table; Next = Next below table strict acts; Rule = Rule below table; Sound = Sound below; strict = strict }

-- how often in a row seat t can wait, on n cells with window w: not once if its window from the head may meet more cells than there are;
-- else there, and then once for each w of the cells beyond
abbrev pub most_waits : ℕ → ℕ → ℕ → ℕ
most_waits n w t = cond (nat_le (reach t w None) n) (1 + (n - reach t w None) / w) 0

-- after how many accepted steps an operation of seat t has answered, if others have changed the set k times meanwhile
abbrev pub limit : ℕ → ℕ → ℕ → Kind → ℕ → ℕ
limit n w t kind k = suc k * most_waits n w t + 1

-- the law of the singly linked index over a scheme: every run of it is lawful, with this limit by cells, window, seat, kind and changes
abbrev pub Law : {K M : Type 0} → (K → K → Bool) → (M → Table) → Bool → (Order → M → M → Type 0) → (ℕ → ℕ → ℕ → Kind → ℕ → ℕ) → Type 0
Law below table strict acts = law.Law below (list_index below table strict acts)

-- the rule of waits alone, of every accepted step of a running seat after every run: with the width `width t w mark`, for a seat t with this
-- mark, w being the window that the index was made with, and with the mark at `place p` for each place p that is the last of so many cells
abbrev pub Windows : {K M : Type 0} → (K → K → Bool) → (M → Table) → Bool → (Order → M → M → Type 0) → (ℕ → ℕ → Option ℕ → ℕ) → (ℕ → ℕ) → Type 0
Windows {K} {M} below table strict acts width place =
    (n w : ℕ) (es : List (Event K)) (s : State K M) → Run (list_index below table strict acts) n w es s →
    (e : Event K) (s' : State K M) → Next below table strict acts s e s' → (k : Kind) (x : K) →
    e.call.what ≡ step → (law.fed below n es).row e.call.seat ≡ running k x → is_accepted e.answer ≡ true →
    Waits below s.cells s.anchor.head (law.fed below n es).members (table s.marks e.call.seat) (table s'.marks e.call.seat) x
    (width e.call.seat w (table s.marks e.call.seat)) e.answer
    × ((p : ℕ) → Meets below s.cells (first_link s.cells s.anchor.head (table s.marks e.call.seat)) x (width e.call.seat w (table s.marks e.call.seat)) p →
    table s'.marks e.call.seat ≡ Some (place p))
