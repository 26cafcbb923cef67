-- Every call, by row and call together; and calls that were lent other cells or rows. Assumes nothing.
use Rattle.std.proofs.Common.{◌≡◌, ℕ, ◌<◌, Bool, true, false, ◌≢◌, ◌⊎◌, List, [], ◌∷◌, length, Some, None, Option, sym, refl, ap, ◌∙◌, subst, inl, inr}
use Rattle.std.proofs.lemmas.Bool.{both_ways, cases_eq, eq-eqb}
use Rattle.basis.specs.declared.kind.Kind.{Kind}
use Rattle.basis.specs.declared.refusal.Refusal.{Refusal}
use Rattle.basis.specs.declared.refusal.Refusal.TheVariants.{NotAway, Away, AlreadyRunning, NotRunning, BadLink}
use Rattle.basis.specs.declared.answer.Answer.{Answer}
use Rattle.basis.specs.declared.answer.Answer.TheVariants.{Refused}
use Rattle.marks.specs.Meaning.{Table, Order, release, Along}
use Rattle.keys.specs.Total.{Total}
use Rattle.ledger.specs.Tests.{first}
use Rattle.ledger.specs.Ledger as plain
use Rattle.ledger.specs.Ledger.{Ledger, Call, What, join, leave, begin, step, abandon, nothing, seated, steps, reply, replied, ruled, accepted}
use Rattle.ledger.specs.Lending.{looks_at_cells, looks_at_rows, Lent}
use Rattle.ledger.specs.Law.{Event, begins_of}
use Rattle.ledger.proofs.Lending.{kept, own_lent}
use Rattle.list_law.specs.Call.{running, State, Memory, memory_of, row_at, Effect, effect, Obeys, Did, early_refusals, call_effect, turn, turn_effect, refused, anchor_after, rows_after}
use Rattle.list_law.specs.Runs.{Next}
use Rattle.list_law.proofs.Lists.{clash}
use Rattle.list_law.proofs.Invariant.{row_for, Placed, Inv, is_running}
use Rattle.list_law.proofs.Refusals as first-tests
use Rattle.list_law.proofs.Refusals.{row_tests}
use Rattle.list_law.proofs.Marks.{released}
use Rattle.list_law.proofs.Elsewhere.{turn_looks, cells_exchanged}
use Rattle.list_law.proofs.Called.{Called, called_refused, called_outcome}
use Rattle.list_law.proofs.Outcomes.{answer_is, told_is, marks_is, unchanged, plain_outcome}
use Rattle.list_law.proofs.Window.{called_window}

-- refusals that differ
away_apart : Away ≢ BadLink
away_apart h = clash (cc)

not_away_apart : NotAway ≢ BadLink
not_away_apart h = clash (cc)

already_apart : AlreadyRunning ≢ BadLink
already_apart h = clash (cc)

not_running_apart : NotRunning ≢ BadLink
not_running_apart h = clash (cc)

module _ {K M : Type 0} (below : K → K → Bool) (order : Total below) (table : M → Table) (strict : Bool) (acts : Order → M → M → Type 0) (n w : ℕ) (a : Ledger K) (s : State K M) (e : Event K) (s' : State K M)
    (v : Inv below table n w a s) (seat : e.call.seat < 16) (did : Did below table strict acts s e.call e.answer s') (told : e.told ≡ (effect below table s e.call).told)
    (none : first (early_refusals s e.call) ≡ None) (ledger : first (plain.refusals a e.call (a.row e.call.seat)) ≡ first (row_tests e.call.what (a.row e.call.seat))) where
  abbrev t : ℕ
  t = e.call.seat

  abbrev m : Memory K
  m = memory_of s

  abbrev Goal : Type 0
  Goal = Called below table strict acts n w a s e s'

  -- the ledger's reply, and the effect, by row and call
  abbrev answered : What K → Option Refusal → plain.Reply K
  answered what (Some q) = replied (Refused q) a
  answered what None = accepted below a t what e.told

  ruled_as : (o : Option Refusal) → ruled below a e.call e.told o ≡ answered e.call.what o
  ruled_as (Some q) = refl
  ruled_as None = refl

  reply_is : (r : plain.Row K) → a.row t ≡ r → (what : What K) → e.call.what ≡ what → reply below a e.call e.told ≡ answered what (first (row_tests what r))
  unfolding reply
  reply_is r er what ew =
      ap (ruled below a e.call e.told) ledger ∙ ruled_as (first (row_tests e.call.what (a.row t)))
      ∙ ap (λ z. answered e.call.what (first (row_tests e.call.what z))) er ∙ ap (λ z. answered z (first (row_tests z r))) ew

  effect_is : (r : plain.Row K) → a.row t ≡ r → (what : What K) → e.call.what ≡ what → effect below table s e.call ≡ turn_effect below m t s.anchor.window (table s.marks t) (turn t (row_for r) what)
  unfolding effect
  effect_is r er what ew =
      ap (call_effect below table s e.call) none
      ∙ ap (λ z. turn_effect below m t s.anchor.window (table s.marks t) (turn t z e.call.what)) (v.alike t seat ∙ ap row_for er)
      ∙ ap (λ z. turn_effect below m t s.anchor.window (table s.marks t) (turn t (row_for r) z)) ew

  refuse : (q : Refusal) → q ≢ BadLink → effect below table s e.call ≡ refused m q → reply below a e.call e.told ≡ replied (Refused q) a → Goal
  refuse q d eff rep =
      called_refused below table strict acts n w a s e s' v (unchanged below table strict acts n w a s e s' v seat did told q eff) q (answer_is below table strict acts n w a s e s' v seat did told (refused m q) eff) d (told_is below table strict acts n w a s e s' v seat did told (refused m q) eff) rep

  -- the row changes, and the mark is none
  module _ (r : plain.Row K) (os : List Order) (eff : effect below table s e.call ≡ record { answer = Answer.Ok; told = nothing; memory = m; row = Some (row_for r); orders = os })
      (rep : reply below a e.call e.told ≡ replied Answer.Ok (seated a t r)) (still : steps e.call.what ≡ false) (over : begins_of t e ≡ false → is_running (row_for r) ≡ false) where
    E : Effect K
    E = record { answer = Answer.Ok; told = nothing; memory = m; row = Some (row_for r); orders = os }

    change : table s'.marks t ≡ None → ((u : ℕ) → u < 16 → u ≢ t → table s'.marks u ≡ table s.marks u) → Goal
    change mark others = called_outcome below table strict acts n w a s e s' v seat
        (plain_outcome below table strict acts n w a s e s' v seat did told Answer.Ok r os eff refl (λ h. clash (cc)) rep mark others
        (λ k x what row ok. absurd (both_ways (steps e.call.what) still (ap steps what))) (λ h. absurd (both_ways (steps e.call.what) still h)) (λ _. over))

  -- with nothing said to the scheme
  keeps : (r : plain.Row K) → effect below table s e.call ≡ record { answer = Answer.Ok; told = nothing; memory = m; row = Some (row_for r); orders = [] }
      → reply below a e.call e.told ≡ replied Answer.Ok (seated a t r) → steps e.call.what ≡ false → (begins_of t e ≡ false → is_running (row_for r) ≡ false) → table s.marks t ≡ None → Goal
  unfolding E
  keeps r eff rep still over unmarked =
      let same : s'.marks ≡ s.marks = marks_is below table strict acts n w a s e s' v seat did told (E r [] eff rep still over) eff in
      change r [] eff rep still over (ap (λ z. table z t) same ∙ unmarked) (λ u _ _. ap (λ z. table z u) same)

  -- with the mark released
  lets_go : (r : plain.Row K) → effect below table s e.call ≡ record { answer = Answer.Ok; told = nothing; memory = m; row = Some (row_for r); orders = release t ∷ [] }
      → reply below a e.call e.told ≡ replied Answer.Ok (seated a t r) → steps e.call.what ≡ false → is_running (row_for r) ≡ false → Goal
  unfolding E
  lets_go r eff rep still over =
      let gone = released strict table (Obeys table strict acts) (λ _ _ _ h. h.1) t s.marks s'.marks (marks_is below table strict acts n w a s e s' v seat did told (E r (release t ∷ []) eff rep still (λ _. over)) eff) in
      change r (release t ∷ []) eff rep still (λ _. over) gone.0 gone.1

  begun : (k : Kind) (x : K) → e.call.what ≡ begin k x → e.answer ≡ Answer.Ok → begins_of t e ≡ true
  begun k x ew ea = rw (ew, eq-eqb t t refl, ea)

  called_row : (r : plain.Row K) → a.row t ≡ r → (what : What K) → e.call.what ≡ what → Goal
  called_row plain.away er join ew = keeps plain.idle (effect_is plain.away er join ew) (reply_is plain.away er join ew) (ap steps ew) (λ _. refl) (subst (λ r. Placed below v.listed r (table s.marks t)) er (v.placed t seat))
  called_row plain.away er leave ew = refuse Away away_apart (effect_is plain.away er leave ew) (reply_is plain.away er leave ew)
  called_row plain.away er (begin k x) ew = refuse Away away_apart (effect_is plain.away er (begin k x) ew) (reply_is plain.away er (begin k x) ew)
  called_row plain.away er step ew = refuse Away away_apart (effect_is plain.away er step ew) (reply_is plain.away er step ew)
  called_row plain.away er abandon ew = refuse Away away_apart (effect_is plain.away er abandon ew) (reply_is plain.away er abandon ew)
  called_row plain.idle er join ew = refuse NotAway not_away_apart (effect_is plain.idle er join ew) (reply_is plain.idle er join ew)
  called_row plain.idle er leave ew = lets_go plain.away (effect_is plain.idle er leave ew) (reply_is plain.idle er leave ew) (ap steps ew) refl
  called_row plain.idle er (begin k x) ew =
      keeps (plain.running k x) (effect_is plain.idle er (begin k x) ew) (reply_is plain.idle er (begin k x) ew) (ap steps ew)
      (λ h. absurd (both_ways (begins_of t e) h (begun k x ew (answer_is below table strict acts n w a s e s' v seat did told (record { answer = Answer.Ok; told = nothing; memory = m; row = Some (running k x); orders = [] }) (effect_is plain.idle er (begin k x) ew)))))
      (subst (λ r. Placed below v.listed r (table s.marks t)) er (v.placed t seat))
  called_row plain.idle er step ew = refuse NotRunning not_running_apart (effect_is plain.idle er step ew) (reply_is plain.idle er step ew)
  called_row plain.idle er abandon ew = refuse NotRunning not_running_apart (effect_is plain.idle er abandon ew) (reply_is plain.idle er abandon ew)
  called_row (plain.running k x) er join ew = refuse NotAway not_away_apart (effect_is (plain.running k x) er join ew) (reply_is (plain.running k x) er join ew)
  called_row (plain.running k x) er leave ew = lets_go plain.away (effect_is (plain.running k x) er leave ew) (reply_is (plain.running k x) er leave ew) (ap steps ew) refl
  called_row (plain.running k x) er (begin k' x') ew = refuse AlreadyRunning already_apart (effect_is (plain.running k x) er (begin k' x') ew) (reply_is (plain.running k x) er (begin k' x') ew)
  called_row (plain.running k x) er step ew =
      called_window below order table strict acts n w a s e s' v seat did told k x er ew (reply_is (plain.running k x) er step ew) (effect_is (plain.running k x) er step ew)
  called_row (plain.running k x) er abandon ew = lets_go plain.idle (effect_is (plain.running k x) er abandon ew) (reply_is (plain.running k x) er abandon ew) (ap steps ew) refl

  pub called_own : Goal
  called_own = called_row (a.row t) refl e.call.what refl

module _ {K M : Type 0} (below : K → K → Bool) (order : Total below) (table : M → Table) (strict : Bool) (acts : Order → M → M → Type 0) (n w : ℕ) (a : Ledger K) (s : State K M) (e : Event K) (s' : State K M)
    (v : Inv below table n w a s) (d : Next below table strict acts s e s') where
  refused_early : (r : Refusal) → first (early_refusals d.lent e.call) ≡ Some r → Called below table strict acts n w a s e s'
  unfolding effect reply
  refused_early r h =
      let q = first-tests.stopped below table n w a s v e.call d.lent d.lent_anchor d.cells_number d.rows_number r h in
      let is : effect below table d.lent e.call ≡ refused (memory_of d.lent) r = ap (call_effect below table d.lent e.call) h in
      let cells : d.left.cells ≡ d.lent.cells = d.did.cells ∙ ap (λ (x : Effect K). x.memory.cells) is in
      let rows : d.left.rows ≡ d.lent.rows = d.did.rows ∙ ap (λ (x : Effect K). rows_after d.lent.rows e.call.seat x.row) is in
      let anchor : d.left.anchor ≡ d.lent.anchor = d.did.anchor ∙ ap (λ (x : Effect K). anchor_after d.lent.anchor x.memory) is in
      let marks : d.left.marks ≡ d.lent.marks = subst (λ (x : Effect K). Along (Obeys table strict acts) x.orders d.lent.marks d.left.marks) is d.did.marks in
      let cells' : s'.cells ≡ s.cells = kept (looks_at_cells e.answer) s.cells s'.cells d.lent.cells d.left.cells d.cells cells in
      let rows' : s'.rows ≡ s.rows = kept (looks_at_rows e.answer) s.rows s'.rows d.lent.rows d.left.rows d.rows rows in
      let anchor' : s'.anchor ≡ s.anchor = d.anchor ∙ anchor ∙ d.lent_anchor in
      let marks' : s'.marks ≡ s.marks = d.marks ∙ marks ∙ d.lent_marks in
      called_refused below table strict acts n w a s e s' v (λ i. record { cells = cells' i; rows = rows' i; anchor = anchor' i; marks = marks' i }) r
      (d.did.answer ∙ ap (λ (x : Effect K). x.answer) is) q.1 (d.told ∙ ap (λ (x : Effect K). x.told) is) (ap (ruled below a e.call e.told) q.0)

  passed : first (early_refusals d.lent e.call) ≡ None → first-tests.Passed below table n w a s v e.call d.lent d.lent_anchor d.cells_number d.rows_number
  passed = first-tests.passed below table n w a s v e.call d.lent d.lent_anchor d.cells_number d.rows_number

  -- past the first tests each answer looks at the row, so that the rows are the index's own
  rows_own : first (early_refusals d.lent e.call) ≡ None → (d.lent.rows ≡ s.rows) × (s'.rows ≡ d.left.rows)
  unfolding effect
  rows_own none =
      own_lent (looks_at_rows e.answer) s.rows s'.rows d.lent.rows d.left.rows d.rows (passed none).rows_fit
      (ap looks_at_rows (d.did.answer ∙ ap (λ o. (call_effect below table d.lent e.call o).answer) none)
      ∙ turn_looks below (memory_of d.lent) e.call.seat d.lent.anchor.window (table d.lent.marks e.call.seat) (row_at d.lent.rows e.call.seat) e.call.what)

  -- a call on the index's own cells
  pub on_own : d.lent.cells ≡ s.cells → s'.cells ≡ d.left.cells → Called below table strict acts n w a s e s'
  on_own mine is = go (first (early_refusals d.lent e.call)) refl
    where
      go : (o : Option Refusal) → first (early_refusals d.lent e.call) ≡ o → Called below table strict acts n w a s e s'
      go (Some r) h = refused_early r h
      go None h =
          let p = passed h in
          let rows = rows_own h in
          let lent_is : d.lent ≡ s = λ i. record { cells = mine i; rows = rows.0 i; anchor = d.lent_anchor i; marks = d.lent_marks i } in
          let left_is : d.left ≡ s' = λ i. record { cells = sym is i; rows = sym rows.1 i; anchor = sym d.anchor i; marks = sym d.marks i } in
          called_own below order table strict acts n w a s e s' v p.seat
          (subst (λ z. Did below table strict acts z e.call e.answer s') lent_is (subst (Did below table strict acts d.lent e.call e.answer) left_is d.did))
          (d.told ∙ ap (λ z. (effect below table z e.call).told) lent_is)
          (ap (λ z. first (early_refusals z e.call)) (sym lent_is) ∙ h)
          p.ledger

  -- a call on cells of another number
  pub on_wrong_number : length d.lent.cells ≢ length s.cells → Called below table strict acts n w a s e s'
  on_wrong_number apart = go (first (early_refusals d.lent e.call)) refl
    where
      go : (o : Option Refusal) → first (early_refusals d.lent e.call) ≡ o → Called below table strict acts n w a s e s'
      go (Some r) h = refused_early r h
      go None h = absurd (apart (passed h).cells_fit)

-- every call keeps the invariant, answers as the ledger, and waits by the rule
pub called : {K M : Type 0} (below : K → K → Bool) → Total below → (table : M → Table) (strict : Bool) (acts : Order → M → M → Type 0) (n w : ℕ) (a : Ledger K) (s : State K M) (e : Event K) (s' : State K M)
    → Inv below table n w a s → Next below table strict acts s e s' → Called below table strict acts n w a s e s'
called {K} {M} below order table strict acts n w a s e s' v d = by d.cells (cases_eq (length d.lent.cells) (length s.cells))
  where
    by : Lent (looks_at_cells e.answer) s.cells s'.cells d.lent.cells d.left.cells → (length d.lent.cells ≡ length s.cells) ⊎ (length d.lent.cells ≢ length s.cells)
        → Called below table strict acts n w a s e s'
    by (inl mine, is) long = on_own below order table strict acts n w a s e s' v d mine is
    by (inr other, is) (inr apart) = on_wrong_number below order table strict acts n w a s e s' v d apart
    by (inr (inl apart), is) (inl fits) = absurd (apart fits)
    by (inr (inr unseen), is) (inl fits) =
        -- the answer looks at no cell: the call might have been lent the index's own
        let mine = cells_exchanged below table strict acts s e s' d unseen s.cells (sym fits) in
        on_own below order table strict acts n w a s e s' v mine.0 mine.1 (is ∙ sym mine.2)
