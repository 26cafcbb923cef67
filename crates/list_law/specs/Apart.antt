-- What the widths from the head are for: seats that begin at the head of the same list wait at different cells. Assumes nothing.
use Rattle.std.specs.Prelude.{◌≡◌, ℕ, Bool, List, Some, None}
use Rattle.basis.specs.declared.kind.Kind.{Kind}
use Rattle.basis.specs.declared.answer.Answer.TheVariants.{Wait}
use Rattle.marks.specs.Meaning.{Table, Order}
use Rattle.ledger.specs.Ledger.{running, step}
use Rattle.ledger.specs.Law.{Event, Run, fed}
use Rattle.list_law.specs.Call.{State}
use Rattle.list_law.specs.Runs.{Next}
use Rattle.list_law.specs.Law.{list_index}

-- after some run that led to s, the step of event e, of a seat with an operation under way and no mark, waits at place p
pub record FirstWait {K M : Type 0} (below : K → K → Bool) (table : M → Table) (strict : Bool) (acts : Order → M → M → Type 0)
    (n w : ℕ) (s : State K M) (e : Event K) (p : ℕ) : Type 0 where
  pub events : List (Event K)
  pub run : Run (list_index below table strict acts) n w events s
  pub after : State K M
  pub next : Next below table strict acts s e after
  pub steps : e.call.what ≡ step
  pub kind : Kind
  pub target : K
  pub under_way : (fed below n events).row e.call.seat ≡ running kind target
  pub unmarked : table s.marks e.call.seat ≡ None
  pub waits : e.answer ≡ Wait
  pub marked : table after.marks e.call.seat ≡ Some p

-- where two such steps find the same list and wait at one place, their seats t have the same `share t w`
abbrev pub StopApart : {K M : Type 0} → (K → K → Bool) → (M → Table) → Bool → (Order → M → M → Type 0) → (ℕ → ℕ → ℕ) → Type 0
StopApart {K} {M} below table strict acts share =
    (n w : ℕ) (s s' : State K M) (e e' : Event K) (p : ℕ) → s'.cells ≡ s.cells → s'.anchor.head ≡ s.anchor.head →
    FirstWait below table strict acts n w s e p → FirstWait below table strict acts n w s' e' p →
    share e.call.seat w ≡ share e'.call.seat w
