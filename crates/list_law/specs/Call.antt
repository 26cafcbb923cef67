-- What one call does to the cells, rows, anchor and marks of a singly linked index: for every input, cells from elsewhere (any
-- links, flags and keys) included. Assumes nothing.
use Rattle.std.specs.Prelude.{◌≡◌, ℕ, zero, suc, pred, Bool, true, false, cond, not, ◌%◌, ◌&&◌, List, [], ◌∷◌, length, Some, None, Option, ◌==◌, nat_le, nat_lt, slice_set}
use Rattle.std.specs.List.{slice_get}
use Rattle.basis.specs.declared.kind.Kind.{Kind}
use Rattle.basis.specs.declared.kind.Kind.TheVariants.{Lookup, Insert, Remove}
use Rattle.basis.specs.declared.refusal.Refusal.{Refusal}
use Rattle.basis.specs.declared.refusal.Refusal.TheVariants.{OutOfRange, WrongSizes, MaskRaised, NotAway, Away, AlreadyRunning, NotRunning, BadLink}
use Rattle.basis.specs.declared.answer.Answer.{Answer}
use Rattle.basis.specs.declared.answer.Answer.TheVariants.{No, Yes, Wait, Full, Refused}
use Rattle.marks.specs.Meaning.{Table, Order, release, reserve, revoke, Means, Along}
use Rattle.ledger.specs.Tests.{Test, test, first}
use Rattle.ledger.specs.Ledger.{What, join, leave, begin, step, abandon, Call, Told, nothing, waited}

-- a link is a place, or none at the end of a chain
abbrev pub Link : Type 0
Link = Option ℕ

-- a cell: its key, the link to the next cell, and whether it is listed (else it is free)
pub record Cell (K : Type 0) : Type 0 where
  pub key : K
  pub link : Link
  pub listed : Bool

-- the cell with this key, link and flag
abbrev pub cell : {K : Type 0} → K → Link → Bool → Cell K
cell x l b = record { key = x; link = l; listed = b }

-- the index's row of a seat: not seated, seated with nothing to do, or in the middle of an operation on a target
pub data Row (K : Type 0) : Type 0 where
  away : Row K
  idle : Row K
  running : Kind → K → Row K

-- the number of cells and the window that were given at making, the link to the first listed cell and to the first free one
pub record Anchor : Type 0 where
  pub count : ℕ
  pub window : ℕ
  pub head : Link
  pub free : Link

-- all that an index keeps, over a scheme whose values are of the kind M
pub record State (K M : Type 0) : Type 0 where
  pub cells : List (Cell K)
  pub rows : List (Row K)
  pub anchor : Anchor
  pub marks : M

-- the part that a window writes: the cells, and where the two chains begin
pub record Memory (K : Type 0) : Type 0 where
  pub cells : List (Cell K)
  pub head : Link
  pub free : Link

-- these cells, with the chains that begin at these links
abbrev pub memory : {K : Type 0} → List (Cell K) → Link → Link → Memory K
memory cs h f = record { cells = cs; head = h; free = f }

-- the width of seat t's next window, where the anchor's window is w: how many cells it may meet by links. From the head it is one of 1 to w,
-- by the seat, so that seats that begin together do not all wait at one cell; from a mark it is w
unfoldable pub reach : ℕ → ℕ → Option ℕ → ℕ
reach t w None = suc (t % w)
reach t w (Some p) = w

-- what a link leads to, for a window on its way to a target
pub data Met : Type 0 where
  -- no cell, or a free one
  bad : Met
  -- the cell at this place, whose key is below the target, and its link
  passed : ℕ → Link → Met
  -- the target: the place before (none: the head), the place, and its link
  present : Option ℕ → ℕ → Link → Met
  -- the target is missing: the place before (none: the head), and the link that led on from there
  absent : Option ℕ → Link → Met

-- a listed cell at place p with key x and link l, by the tests "x is below the target" and "the target is below x"
abbrev pub judged : Bool → Bool → Option ℕ → ℕ → Link → Met
judged true above lead p l = passed p l
judged false true lead p l = absent lead (Some p)
judged false false lead p l = present lead p l

-- the cell at place p, if there is one, on the way to x
abbrev pub met : {K : Type 0} → (K → K → Bool) → K → Option ℕ → ℕ → Option (Cell K) → Met
met below x lead p None = bad
met below x lead p (Some c) = cond c.listed (judged (below c.key x) (below x c.key) lead p c.link) bad

-- one link followed: the end decides absent
abbrev pub look : {K : Type 0} → (K → K → Bool) → List (Cell K) → K → Option ℕ → Link → Met
look below cs x lead None = absent lead None
look below cs x lead (Some p) = met below x lead p (slice_get cs p)

-- the walk goes on from a cell that it passed
abbrev pub followed : Met → (ℕ → Link → Met) → Met
followed bad go = bad
followed (passed p l) go = go p l
followed (present lead p l) go = present lead p l
followed (absent lead l) go = absent lead l

-- links followed past up to `room` cells. If the answer is `passed`, one cell more is below the target: the window ends there
unfoldable pub walk : {K : Type 0} → (K → K → Bool) → List (Cell K) → K → ℕ → Option ℕ → Link → Met
walk below cs x zero lead l = look below cs x lead l
walk below cs x (suc room) lead l = followed (look below cs x lead l) (λ p l'. walk below cs x room (Some p) l')

-- a walk from the marked cell, which must be a listed one
abbrev pub resumed : {K : Type 0} → (K → K → Bool) → List (Cell K) → K → ℕ → ℕ → Option (Cell K) → Met
resumed below cs x room p None = bad
resumed below cs x room p (Some c) = cond c.listed (walk below cs x room (Some p) c.link) bad

-- the walk of a window: from the marked cell, or from the head if there is no mark
abbrev pub walked : {K : Type 0} → (K → K → Bool) → List (Cell K) → Link → K → ℕ → Option ℕ → Met
walked below cs head x room None = walk below cs x room None head
walked below cs head x room (Some p) = resumed below cs x room p (slice_get cs p)

-- the cell at place p, if there is one, is written anew from what it holds
abbrev pub replaced : {K : Type 0} → List (Cell K) → ℕ → (Cell K → Cell K) → Option (Cell K) → List (Cell K)
replaced cs p f None = cs
replaced cs p f (Some c) = slice_set cs p (f c)

-- the same, read first
abbrev pub rewritten : {K : Type 0} → List (Cell K) → ℕ → (Cell K → Cell K) → List (Cell K)
rewritten cs p f = replaced cs p f (slice_get cs p)

-- a cell with another link
abbrev pub linked : {K : Type 0} → Link → Cell K → Cell K
linked l c = cell c.key l c.listed

-- a cell with another flag
abbrev pub flagged : {K : Type 0} → Bool → Cell K → Cell K
flagged b c = cell c.key c.link b

-- the link behind a place, or the head link, is set
abbrev pub leading_set : {K : Type 0} → Option ℕ → Link → Memory K → Memory K
leading_set None l m = memory m.cells l m.free
leading_set (Some q) l m = memory (rewritten m.cells q (linked l)) m.head m.free

-- the cell at place p is flagged free, and then put at the front of the free chain
abbrev pub freed : {K : Type 0} → ℕ → Memory K → Memory K
freed p m = memory (rewritten (rewritten m.cells p (flagged false)) p (linked m.free)) m.head (Some p)

-- remove, in the order of its writes: the link that led to place p gets p's own link, and p becomes free
abbrev pub removed : {K : Type 0} → Option ℕ → ℕ → Link → Memory K → Memory K
removed lead p l m = freed p (leading_set lead l m)

-- insert, in the order of its writes: the front free cell, at place q with link f, leaves the free chain, takes key, link and flag, and is linked to
abbrev pub inserted : {K : Type 0} → Option ℕ → Link → K → ℕ → Link → Memory K → Memory K
inserted lead l x q f m = leading_set lead (Some q) (memory (rewritten m.cells q (λ _. cell x l true)) m.head f)

-- what a call does: its answer, what the ledger is told, cells and chains afterwards, the seat's next row if it changes, and the
-- orders to the scheme, to be carried out one after another
pub record Effect (K : Type 0) : Type 0 where
  pub answer : Answer
  pub told : Told
  pub memory : Memory K
  pub row : Option (Row K)
  pub orders : List Order

-- a refusal alters nothing
abbrev pub refused : {K : Type 0} → Memory K → Refusal → Effect K
refused m r = record { answer = Refused r; told = nothing; memory = m; row = None; orders = [] }

-- the operation of seat t has its answer: the row becomes idle, and the mark is released
abbrev pub ended : {K : Type 0} → ℕ → Answer → Memory K → Effect K
ended t a m = record { answer = a; told = nothing; memory = m; row = Some idle; orders = release t ∷ [] }

-- the window of seat t is used up at place p, which is marked
abbrev pub waiting : {K : Type 0} → ℕ → ℕ → Memory K → Effect K
waiting t p m = record { answer = Wait; told = waited; memory = m; row = None; orders = release t ∷ reserve t p ∷ [] }

-- place p is removed: the marks on it are revoked before the seat's own is released
abbrev pub unlinked : {K : Type 0} → ℕ → Option ℕ → ℕ → Link → Memory K → Effect K
unlinked t lead p l m =
    record { answer = Yes; told = nothing; memory = removed lead p l m; row = Some idle; orders = revoke p ∷ release t ∷ [] }

-- the target is there
abbrev pub on_present : {K : Type 0} → Kind → ℕ → Option ℕ → ℕ → Link → Memory K → Effect K
on_present Lookup t lead p l m = ended t Yes m
on_present Insert t lead p l m = ended t No m
on_present Remove t lead p l m = unlinked t lead p l m

-- an insert with the cell at place q, the front of the free chain: it must be there and be free
abbrev pub taken : {K : Type 0} → K → ℕ → Option ℕ → Link → Memory K → ℕ → Option (Cell K) → Effect K
taken x t lead l m q None = refused m BadLink
taken x t lead l m q (Some c) = cond c.listed (refused m BadLink) (ended t Yes (inserted lead l x q c.link m))

-- an insert by the free link: full if no cell is free
abbrev pub taken_from : {K : Type 0} → K → ℕ → Option ℕ → Link → Memory K → Link → Effect K
taken_from x t lead l m None = ended t Full m
taken_from x t lead l m (Some q) = taken x t lead l m q (slice_get m.cells q)

-- the target is missing
abbrev pub on_absent : {K : Type 0} → Kind → K → ℕ → Option ℕ → Link → Memory K → Effect K
on_absent Lookup x t lead l m = ended t No m
on_absent Insert x t lead l m = taken_from x t lead l m m.free
on_absent Remove x t lead l m = ended t No m

-- what a window does, by where its walk ended
abbrev pub decided : {K : Type 0} → Kind → K → ℕ → Memory K → Met → Effect K
decided k x t m bad = refused m BadLink
decided k x t m (passed p l) = waiting t p m
decided k x t m (present lead p l) = on_present k t lead p l m
decided k x t m (absent lead l) = on_absent k x t lead l m

-- one window of seat t, whose mark is given
unfoldable pub window : {K : Type 0} → (K → K → Bool) → Memory K → ℕ → ℕ → Option ℕ → Kind → K → Effect K
window below m t w mark k x = decided k x t m (walked below m.cells m.head x (pred (reach t w mark)) mark)

-- what a call makes of a row: a refusal, another row with orders to the scheme, or a window
pub data Turn (K : Type 0) : Type 0 where
  refuses : Refusal → Turn K
  becomes : Row K → List Order → Turn K
  runs : Kind → K → Turn K

-- row and call together, for seat t
abbrev pub turn : {K : Type 0} → ℕ → Row K → What K → Turn K
turn t away join = becomes idle []
turn t away leave = refuses Away
turn t away (begin k x) = refuses Away
turn t away step = refuses Away
turn t away abandon = refuses Away
turn t idle join = refuses NotAway
turn t idle leave = becomes away (release t ∷ [])
turn t idle (begin k x) = becomes (running k x) []
turn t idle step = refuses NotRunning
turn t idle abandon = refuses NotRunning
turn t (running k x) join = refuses NotAway
turn t (running k x) leave = becomes away (release t ∷ [])
turn t (running k x) (begin k' x') = refuses AlreadyRunning
turn t (running k x) step = runs k x
turn t (running k x) abandon = becomes idle (release t ∷ [])

-- the effect of a turn
abbrev pub turn_effect : {K : Type 0} → (K → K → Bool) → Memory K → ℕ → ℕ → Option ℕ → Turn K → Effect K
turn_effect below m t w mark (refuses r) = refused m r
turn_effect below m t w mark (becomes r os) = record { answer = Answer.Ok; told = nothing; memory = m; row = Some r; orders = os }
turn_effect below m t w mark (runs k x) = window below m t w mark k x

-- the sizes of cells and anchor are right
abbrev pub fits_anchor : {K : Type 0} → List (Cell K) → Anchor → Bool
fits_anchor cs a =
    nat_le 1 (length cs) && nat_le (length cs) 1008 && length cs == a.count && nat_le 1 a.window && nat_le a.window 64

-- the refusals that look at no row, in their order
abbrev pub early_refusals : {K M : Type 0} → State K M → Call K → List Test
early_refusals s c =
    test (not (nat_lt c.seat 16)) OutOfRange ∷
    test (not (fits_anchor s.cells s.anchor)) WrongSizes ∷
    test (not (length s.rows == 16)) WrongSizes ∷
    test (not (nat_lt c.level 7)) MaskRaised ∷ []

-- a row that there is; where a row is asked for there are sixteen
abbrev pub row_or : {K : Type 0} → Option (Row K) → Row K
row_or None = away
row_or (Some r) = r

-- the row of a seat
abbrev pub row_at : {K : Type 0} → List (Row K) → ℕ → Row K
row_at rs t = row_or (slice_get rs t)

-- the part of a state that a window writes
abbrev pub memory_of : {K M : Type 0} → State K M → Memory K
memory_of s = memory s.cells s.anchor.head s.anchor.free

-- refused by the first tests, or else what row and call together make of it
abbrev pub call_effect : {K M : Type 0} → (K → K → Bool) → (M → Table) → State K M → Call K → Option Refusal → Effect K
call_effect below table s c (Some r) = refused (memory_of s) r
call_effect below table s c None =
    turn_effect below (memory_of s) c.seat s.anchor.window (table s.marks c.seat)
    (turn c.seat (row_at s.rows c.seat) c.what)

-- what a call does to the state that it is lent; the sizes are those of the lent cells and rows
unfoldable pub effect : {K M : Type 0} → (K → K → Bool) → (M → Table) → State K M → Call K → Effect K
effect below table s c = call_effect below table s c (first (early_refusals s c))

-- the anchor with the chains that an effect leaves
abbrev pub anchor_after : {K : Type 0} → Anchor → Memory K → Anchor
anchor_after a m = record { count = a.count; window = a.window; head = m.head; free = m.free }

-- the rows with the row that an effect leaves seat t
abbrev pub rows_after : {K : Type 0} → List (Row K) → ℕ → Option (Row K) → List (Row K)
rows_after rs t None = rs
rows_after rs t (Some r) = slice_set rs t r

-- a scheme carries out an order: with its own exact effect, and with the meaning that every scheme shows
abbrev pub Obeys : {M : Type 0} → (M → Table) → Bool → (Order → M → M → Type 0) → Order → M → M → Type 0
Obeys table strict acts o a b = acts o a b × Means strict o (table a) (table b)

-- a call with this answer leads from the state s that it is lent to s', over a scheme with this table and these acts
pub record Did {K M : Type 0} (below : K → K → Bool) (table : M → Table) (strict : Bool) (acts : Order → M → M → Type 0)
    (s : State K M) (c : Call K) (a : Answer) (s' : State K M) : Type 0 where
  pub answer : a ≡ (effect below table s c).answer
  pub cells : s'.cells ≡ (effect below table s c).memory.cells
  pub anchor : s'.anchor ≡ anchor_after s.anchor (effect below table s c).memory
  pub rows : s'.rows ≡ rows_after s.rows c.seat (effect below table s c).row
  pub marks : Along (Obeys table strict acts) (effect below table s c).orders s.marks s'.marks
