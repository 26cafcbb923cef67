-- Every order of every call names a seat and a place that there are, whatever the cells hold. Assumes nothing.
use Rattle.std.proofs.Common.{◌≡◌, ℕ, zero, suc, pred, ◌<◌, ◌≤◌, Bool, true, false, cond, ◌&&◌, eqb, ltb, leb, List, [], ◌∷◌, length, Some, None, Option, refl, arith}
use Rattle.std.proofs.lemmas.Bool.{and_parts, ltb-true, leb-true}
use Rattle.std.specs.List.{slice_get}
use Rattle.basis.specs.declared.kind.Kind.{Kind}
use Rattle.basis.specs.declared.kind.Kind.TheVariants.{Lookup, Insert, Remove}
use Rattle.basis.specs.declared.refusal.Refusal.{Refusal}
use Rattle.basis.specs.declared.refusal.Refusal.TheVariants.{BadLink}
use Rattle.basis.specs.declared.answer.Answer.TheVariants.{Yes}
use Rattle.marks.specs.Meaning.{Table, Order, Along}
use Rattle.ledger.specs.Tests.{first}
use Rattle.ledger.specs.Ledger.{Call, What, join, leave, begin, step, abandon}
use Rattle.list_law.specs.Call.{Link, Cell, Row, away, idle, running, State, Memory, memory_of, row_at, Met, bad, passed, present, absent, judged, met, look, followed, walk, resumed, walked, Effect, effect, refused, ended, inserted, taken, taken_from, decided, window, turn, turn_effect, early_refusals, call_effect, fits_anchor, reach, Obeys}
use Rattle.list_law.specs.Existence.{Proper, Able}
use Rattle.list_law.proofs.Lists.{nth_lt}
use Rattle.list_law.proofs.Refusals.{tests_pass}

-- every order of a list is proper
abbrev pub AllProper : List Order → Type 0
AllProper [] = Unit {0}
AllProper (o ∷ os) = Proper o × AllProper os

-- a place that a walk ends at is the place of a cell
abbrev Named : {K : Type 0} → List (Cell K) → Met → Type 0
Named cs bad = Unit {0}
Named cs (passed p l) = p < length cs
Named cs (present lead p l) = p < length cs
Named cs (absent lead l) = Unit {0}

module _ {K : Type 0} (below : K → K → Bool) (cs : List (Cell K)) (x : K) where
  judged_named : (a b : Bool) (lead : Option ℕ) (p : ℕ) (l : Link) → p < length cs → Named cs (judged a b lead p l)
  judged_named true b lead p l h = h
  judged_named false true lead p l h = tt
  judged_named false false lead p l h = h

  cond_named : (b : Bool) (f : Met) → Named cs f → Named cs (cond b f bad)
  cond_named true f h = h
  cond_named false f h = tt

  met_named : (lead : Option ℕ) (p : ℕ) (o : Option (Cell K)) → slice_get cs p ≡ o → Named cs (met below x lead p o)
  met_named lead p None h = tt
  met_named lead p (Some c) h =
      cond_named c.listed (judged (below c.key x) (below x c.key) lead p c.link) (judged_named (below c.key x) (below x c.key) lead p c.link (nth_lt cs p h))

  look_named : (lead : Option ℕ) (l : Link) → Named cs (look below cs x lead l)
  look_named lead None = tt
  look_named lead (Some p) = met_named lead p (slice_get cs p) refl

  followed_named : (m : Met) (go : ℕ → Link → Met) → Named cs m → ((p : ℕ) (l : Link) → Named cs (go p l)) → Named cs (followed m go)
  followed_named bad go h k = tt
  followed_named (passed p l) go h k = k p l
  followed_named (present lead p l) go h k = h
  followed_named (absent lead l) go h k = tt

  walk_named : (room : ℕ) (lead : Option ℕ) (l : Link) → Named cs (walk below cs x room lead l)
  unfolding walk
  walk_named zero lead l = look_named lead l
  walk_named (suc room) lead l = followed_named (look below cs x lead l) (λ p l'. walk below cs x room (Some p) l') (look_named lead l) (λ p l'. walk_named room (Some p) l')

  resumed_named : (room p : ℕ) (o : Option (Cell K)) → Named cs (resumed below cs x room p o)
  resumed_named room p None = tt
  resumed_named room p (Some c) = cond_named c.listed (walk below cs x room (Some p) c.link) (walk_named room (Some p) c.link)

  walked_named : (head : Link) (room : ℕ) (mark : Option ℕ) → Named cs (walked below cs head x room mark)
  walked_named head room None = walk_named room None head
  walked_named head room (Some p) = resumed_named room p (slice_get cs p)

module _ {K : Type 0} (below : K → K → Bool) (m : Memory K) (t : ℕ) (seat : t < 16) (few : length m.cells ≤ 1008) where
  cond_proper : (b : Bool) (f g : Effect K) → AllProper f.orders → AllProper g.orders → AllProper (cond b f g).orders
  cond_proper true f g h k = h
  cond_proper false f g h k = k

  taken_proper : (x : K) (lead : Option ℕ) (l : Link) (q : ℕ) (o : Option (Cell K)) → AllProper (taken x t lead l m q o).orders
  taken_proper x lead l q None = tt
  taken_proper x lead l q (Some c) = cond_proper c.listed (refused m BadLink) (ended t Yes (inserted lead l x q c.link m)) tt (seat, tt)

  filled_proper : (x : K) (lead : Option ℕ) (l free : Link) → AllProper (taken_from x t lead l m free).orders
  filled_proper x lead l None = (seat, tt)
  filled_proper x lead l (Some q) = taken_proper x lead l q (slice_get m.cells q)

  decided_proper : (k : Kind) (x : K) (end : Met) → Named m.cells end → AllProper (decided k x t m end).orders
  decided_proper k x bad h = tt
  decided_proper k x (passed p l) h = (seat, ((seat, omega arith), tt))
  decided_proper Lookup x (present lead p l) h = (seat, tt)
  decided_proper Insert x (present lead p l) h = (seat, tt)
  decided_proper Remove x (present lead p l) h = (omega arith, (seat, tt))
  decided_proper Lookup x (absent lead l) h = (seat, tt)
  decided_proper Insert x (absent lead l) h = filled_proper x lead l m.free
  decided_proper Remove x (absent lead l) h = (seat, tt)

  window_proper : (win : ℕ) (mark : Option ℕ) (k : Kind) (x : K) → AllProper (window below m t win mark k x).orders
  unfolding window
  window_proper win mark k x = decided_proper k x (walked below m.cells m.head x (pred (reach t win mark)) mark) (walked_named below m.cells x m.head (pred (reach t win mark)) mark)

  turned_proper : (win : ℕ) (mark : Option ℕ) (r : Row K) (what : What K) → AllProper (turn_effect below m t win mark (turn t r what)).orders
  turned_proper win mark away join = tt
  turned_proper win mark away leave = tt
  turned_proper win mark away (begin k x) = tt
  turned_proper win mark away step = tt
  turned_proper win mark away abandon = tt
  turned_proper win mark idle join = tt
  turned_proper win mark idle leave = (seat, tt)
  turned_proper win mark idle (begin k x) = tt
  turned_proper win mark idle step = tt
  turned_proper win mark idle abandon = tt
  turned_proper win mark (running k x) join = tt
  turned_proper win mark (running k x) leave = (seat, tt)
  turned_proper win mark (running k x) (begin k' x') = tt
  turned_proper win mark (running k x) step = window_proper win mark k x
  turned_proper win mark (running k x) abandon = (seat, tt)

module _ {K M : Type 0} (below : K → K → Bool) (table : M → Table) (s : State K M) (c : Call K) where
  judged_proper : (o : Option Refusal) → first (early_refusals s c) ≡ o → AllProper (call_effect below table s c o).orders
  judged_proper (Some r) h = tt
  judged_proper None h =
      let t = tests_pass (ltb c.seat 16) (fits_anchor s.cells s.anchor) (eqb (length s.rows) 16) (ltb c.level 7) [] h in
      let l : ℕ = length s.cells in
      let w₂ = and_parts (leb 1 l && leb l 1008 && eqb l s.anchor.count && leb 1 s.anchor.window) (leb s.anchor.window 64) t.2 in
      let w₁ = and_parts (leb 1 l && leb l 1008 && eqb l s.anchor.count) (leb 1 s.anchor.window) w₂.0 in
      let k = and_parts (leb 1 l && leb l 1008) (eqb l s.anchor.count) w₁.0 in
      turned_proper below (memory_of s) c.seat (ltb-true c.seat 16 t.1) (leb-true l 1008 (and_parts (leb 1 l) (leb l 1008) k.0).1)
      s.anchor.window (table s.marks c.seat) (row_at s.rows c.seat) c.what

  -- the orders of every call on every cells
  pub effect_proper : AllProper (effect below table s c).orders
  unfolding effect
  effect_proper = judged_proper (first (early_refusals s c)) refl

-- a scheme that can carry out each order carries out a list of them
pub along_there : {M : Type 0} (table : M → Table) (strict : Bool) (acts : Order → M → M → Type 0) (formed : M → Bool) → Able table strict acts formed → (os : List Order) → AllProper os → (a : M) → formed a ≡ true → (b : M) × Along (Obeys table strict acts) os a b × (formed b ≡ true)
along_there table strict acts formed able [] h a good = (a, refl, good)
along_there table strict acts formed able (o ∷ os) h a good =
    let r = able.obeys o h.0 a good in
    let q = along_there table strict acts formed able os h.1 r.0 r.2 in
    (q.0, (r.0, r.1, q.1), q.2)
