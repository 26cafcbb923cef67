-- A call on the index's own cells and rows, by its effect: nothing changed, cells as they were, or a wait. Assumes nothing.
use Rattle.std.proofs.Common.{◌≡◌, ℕ, suc, pred, ◌<◌, ◌≤◌, Bool, true, false, ◌≢◌, ◌⊎◌, List, ◌∷◌, ◌++◌, length, Some, None, sym, refl, ap, ◌∙◌, subst, inl, inr, arith}
use Rattle.std.proofs.lemmas.Bool.{both_ways, cases_eq, eq-eqb}
use Rattle.basis.specs.declared.kind.Kind.{Kind}
use Rattle.basis.specs.declared.refusal.Refusal.{Refusal}
use Rattle.basis.specs.declared.refusal.Refusal.TheVariants.{BadLink}
use Rattle.basis.specs.declared.answer.Answer.{Answer}
use Rattle.basis.specs.declared.answer.Answer.TheVariants.{Wait, Refused}
use Rattle.marks.specs.Meaning.{Table, Order, Kept, Along}
use Rattle.keys.specs.Total.{Total}
use Rattle.ledger.specs.Ledger as plain
use Rattle.ledger.specs.Ledger.{Ledger, step, nothing, seated, steps, reply, replied}
use Rattle.ledger.specs.Law.{Event, is_accepted, is_final, steps_of, begins_of}
use Rattle.list_law.specs.Call.{reach, State, memory, memory_of, row_at, Effect, effect, Obeys, Did, anchor_after, rows_after, refused, waiting}
use Rattle.list_law.specs.Law.{Entry, entry, Rule, Waits, most_waits}
use Rattle.list_law.proofs.Shape.{Shape}
use Rattle.list_law.proofs.Marks.{Stands, In, stands_kept, kept_strict, kept_or_none, moved}
use Rattle.list_law.proofs.Walk.{Started}
use Rattle.list_law.proofs.Waits.{Rules}
use Rattle.list_law.proofs.Invariant.{row_for, Placed, Inv, After, inv_after, is_running, row_other, running_there}
use Rattle.list_law.proofs.Held.{Held, held_kept, held_waits}
use Rattle.list_law.proofs.Called.{Called, Outcome, steps_parts}

-- the rule of waits for a seat that runs towards x
module _ {K M : Type 0} (below : K → K → Bool) (order : Total below) (table : M → Table) (a : Ledger K) (s : State K M) (e : Event K) (s' : State K M) (k : Kind) (x : K)
    (wide : 1 ≤ reach e.call.seat s.anchor.window (table s.marks e.call.seat)) (row : a.row e.call.seat ≡ plain.running k x) where
  running_target : (k₁ k₂ : Kind) (x₁ x₂ : K) → plain.running k₁ x₁ ≡ plain.running k₂ x₂ → x₁ ≡ x₂
  running_target k₁ k₂ x₁ x₂ h = cc

  width : suc (pred (reach e.call.seat s.anchor.window (table s.marks e.call.seat))) ≡ reach e.call.seat s.anchor.window (table s.marks e.call.seat)
  width = omega (arith, wide)

  pub rule_of : (listed : List (Entry K)) (start : Started below s.cells s.anchor.head x listed (pred (reach e.call.seat s.anchor.window (table s.marks e.call.seat))) (table s.marks e.call.seat))
      → Rules below order s.cells s.anchor.head x listed (pred (reach e.call.seat s.anchor.window (table s.marks e.call.seat))) (table s.marks e.call.seat) start e.answer (table s'.marks e.call.seat) a.members
      → Rule below table a s e s'
  rule_of listed start r k' x' what row' ok =
      subst (λ z. At z (reach e.call.seat s.anchor.window (table s.marks e.call.seat))) (running_target k k' x x' (sym row ∙ row'))
      (subst (At x) width (record { waits = r.0; marked = r.1; waits_by_set = r.2 }))
    where
      At : K → ℕ → Type 0
      At z m =
          Waits below s.cells s.anchor.head a.members (table s.marks e.call.seat) (table s'.marks e.call.seat) z m e.answer

module _ {K M : Type 0} (below : K → K → Bool) (table : M → Table) (strict : Bool) (acts : Order → M → M → Type 0) (n w : ℕ) (a : Ledger K) (s : State K M) (e : Event K) (s' : State K M)
    (v : Inv below table n w a s) (seat : e.call.seat < 16) (did : Did below table strict acts s e.call e.answer s') (told : e.told ≡ (effect below table s e.call).told) where
  -- what the call left, by its effect
  module _ (E : Effect K) (is : effect below table s e.call ≡ E) where
    pub answer_is : e.answer ≡ E.answer
    answer_is = did.answer ∙ ap (λ (x : Effect K). x.answer) is

    pub cells_is : s'.cells ≡ E.memory.cells
    cells_is = did.cells ∙ ap (λ (x : Effect K). x.memory.cells) is

    pub anchor_is : s'.anchor ≡ anchor_after s.anchor E.memory
    anchor_is = did.anchor ∙ ap (λ (x : Effect K). anchor_after s.anchor x.memory) is

    pub rows_is : s'.rows ≡ rows_after s.rows e.call.seat E.row
    rows_is = did.rows ∙ ap (λ (x : Effect K). rows_after s.rows e.call.seat x.row) is

    pub marks_is : Along (Obeys table strict acts) E.orders s.marks s'.marks
    marks_is = subst (λ (x : Effect K). Along (Obeys table strict acts) x.orders s.marks s'.marks) is did.marks

    pub told_is : e.told ≡ E.told
    told_is = told ∙ ap (λ (x : Effect K). x.told) is

  pub unchanged : (r : Refusal) → effect below table s e.call ≡ refused (memory_of s) r → s' ≡ s
  unchanged r is = λ i. record {
    cells = cells_is (refused (memory_of s) r) is i;
    rows = rows_is (refused (memory_of s) r) is i;
    anchor = anchor_is (refused (memory_of s) r) is i;
    marks = marks_is (refused (memory_of s) r) is i;
  }

  seated_below : (u : ℕ) → row_at s'.rows u ≡ row_at s.rows u → is_running (row_at s'.rows u) ≡ true → u < 16
  seated_below u same runs = let l = running_there s.rows u (ap is_running (sym same) ∙ runs) in omega (arith, v.rows)

  -- cells and chains stay: the seat's row is another, its mark none, and all other marks are as they were
  pub plain_outcome : (ans : Answer) (r : plain.Row K) (os : List Order)
      → effect below table s e.call ≡ record { answer = ans; told = nothing; memory = memory_of s; row = Some (row_for r); orders = os }
      → is_accepted ans ≡ true → ans ≢ Wait → reply below a e.call e.told ≡ replied ans (seated a e.call.seat r)
      → table s'.marks e.call.seat ≡ None → ((u : ℕ) → u < 16 → u ≢ e.call.seat → table s'.marks u ≡ table s.marks u)
      → Rule below table a s e s' → (steps e.call.what ≡ true → is_final ans ≡ true) → (steps_of e.call.seat e ≡ false → begins_of e.call.seat e ≡ false → is_running (row_for r) ≡ false)
      → Outcome below table strict acts n e.call.seat a s e s' v.listed
  plain_outcome ans r os is ok stays rep mark others rule final over = record {
    answer = ans;
    memory = memory_of s;
    row = r;
    members = a.members;
    listed' = v.listed;
    frees' = v.frees;
    is_answer = answer_is E is;
    is_told = told_is E is;
    no_wait = stays;
    is_cells = cells_is E is;
    is_anchor = anchor_is E is;
    is_rows = rows_is E is;
    is_reply = rep;
    accepted = ok;
    number = refl;
    shape = v.shape;
    permuted = v.members;
    mark = mark;
    other_none = λ u l d h. others u l d ∙ h;
    other_marks = λ u l d x h. stands_kept below x v.listed (table s.marks u) (table s'.marks u) (inl (others u l d)) h;
    rule = rule;
    final = final;
    over = over;
    held = λ _ u c d _ h. held_kept table s s' u c (cells_is E is) (anchor_is E is) (other_row u d) (λ runs. others u (seated_below u (other_row u d) runs) d) h;
  }
    where
      E : Effect K
      E = record { answer = ans; told = nothing; memory = memory_of s; row = Some (row_for r); orders = os }

      other_row : (u : ℕ) → u ≢ e.call.seat → row_at s'.rows u ≡ row_at s.rows u
      other_row u d = ap (λ rs. row_at rs u) (rows_is E is) ∙ row_other s.rows e.call.seat (row_for r) u d

  -- the window is used up at place p
  module _ (k : Kind) (x : K) (row : a.row e.call.seat ≡ plain.running k x) (what : e.call.what ≡ step)
      (p : ℕ) (is : effect below table s e.call ≡ waiting e.call.seat p (memory_of s)) where
    pub moved_marks : (table s'.marks e.call.seat ≡ Some p) × ((u : ℕ) → u < 16 → u ≢ e.call.seat → Kept strict (table s.marks u) (table s'.marks u))
    moved_marks = moved strict table (Obeys table strict acts) (λ _ _ _ h. h.1) e.call.seat s.marks s'.marks p (marks_is (waiting e.call.seat p (memory_of s)) is)

    pub called_waits : (start : Started below s.cells s.anchor.head x v.listed (pred (reach e.call.seat s.anchor.window (table s.marks e.call.seat))) (table s.marks e.call.seat))
        → (fs : List (Entry K)) (y : K) (bs : List (Entry K)) → start.rest ≡ fs ++ entry p y ∷ bs → length fs ≡ pred (reach e.call.seat s.anchor.window (table s.marks e.call.seat))
        → In (entry p y) v.listed → below y x ≡ true
        → reply below a e.call e.told ≡ replied Wait a → Rule below table a s e s' → Called below table strict acts n w a s e s'
    called_waits start fs y bs rest-is long there lo rep rule = record {
      inv = subst (λ z. Inv below table n w z s') (sym (ap (λ (z : plain.Reply K). z.after) rep)) (inv_after below table n w e.call.seat a s v a s' left);
      answers = record {
        as_ledger = answer_is E is ∙ sym (ap (λ (z : plain.Reply K). z.answer) rep);
        told_wait = ((λ _. answer_is E is), (λ _. told_is E is));
        no_bad_link = λ h. let z : Wait ≡ Refused BadLink = sym (answer_is E is) ∙ h in both_ways false refl (sym (ap is_accepted z));
        rule = rule;
      };
      waits_held = λ u c st en h. go u c (steps_parts u e st).1 h;
      others_held = λ str u c st be ch h. others str u c st h (cases_eq u e.call.seat);
    }
      where
        E : Effect K
        E = waiting e.call.seat p (memory_of s)

        memory_is : memory_of s' ≡ memory_of s
        memory_is = λ i. memory (cells_is E is i) (anchor_is E is i).head (anchor_is E is i).free

        same_row : (u : ℕ) → row_at s'.rows u ≡ row_at s.rows u
        same_row u = ap (λ rs. row_at rs u) (rows_is E is)

        runs : is_running (row_at s.rows e.call.seat) ≡ true
        runs = ap is_running (v.alike e.call.seat seat ∙ ap row_for row)

        left : After below table n e.call.seat a s v.listed a s'
        left = record {
          number = refl;
          cells = ap length (cells_is E is);
          count = ap (λ an. an.count) (anchor_is E is);
          window = ap (λ an. an.window) (anchor_is E is);
          rows = ap length (rows_is E is);
          listed = v.listed;
          frees = v.frees;
          shape = subst (λ m. Shape below m n v.listed v.frees) (sym memory_is) v.shape;
          members = v.members;
          own_row = same_row e.call.seat ∙ v.alike e.call.seat seat;
          own_mark = subst (λ r. Placed below v.listed r (table s'.marks e.call.seat)) (sym row) (subst (Stands below x v.listed) (sym moved_marks.0) (y, there, lo));
          other_ledger = λ u d. refl;
          other_rows = λ u d. same_row u;
          other_none = λ u l d h. none_stays u h (kept_or_none strict (table s.marks u) (table s'.marks u) (moved_marks.1 u l d));
          other_marks = λ u l d z h. stands_kept below z v.listed (table s.marks u) (table s'.marks u) (kept_or_none strict (table s.marks u) (table s'.marks u) (moved_marks.1 u l d)) h;
        }
          where
            none_stays : (u : ℕ) → table s.marks u ≡ None → (table s'.marks u ≡ table s.marks u) ⊎ (table s'.marks u ≡ None) → table s'.marks u ≡ None
            none_stays u h (inl same) = same ∙ h
            none_stays u h (inr none) = none

        wide : 1 ≤ s.anchor.window
        wide = omega (arith, v.window, v.sized.some_window)

        go : (u c : ℕ) → e.call.seat ≡ u → Held table s u c → Held table s' u (suc c) × (suc c ≤ most_waits n w u)
        go u c same h = subst (λ z. Held table s' z (suc c) × (suc c ≤ most_waits n w z)) same
            (subst (λ z. Held table s' e.call.seat (suc c) × (suc c ≤ most_waits n z e.call.seat)) v.window
            (held_waits below table s s' e.call.seat n x v.listed start wide v.shape.from_head (omega (arith, v.shape.total)) fs p y bs rest-is long (cells_is E is) (anchor_is E is) moved_marks.0 c runs
            (subst (λ z. Held table s z c) (sym same) h)))

        counted : steps_of e.call.seat e ≡ true
        counted = rw (what, eq-eqb e.call.seat e.call.seat refl, answer_is E is)

        others : strict ≡ true → (u c : ℕ) → steps_of u e ≡ false → Held table s u c → (u ≡ e.call.seat) ⊎ (u ≡ e.call.seat → ⊥) → Held table s' u c
        others str u c st h (inl same) = absurd (both_ways (steps_of e.call.seat e) (subst (λ z. steps_of z e ≡ false) same st) counted)
        others str u c st h (inr d) =
            held_kept table s s' u c (cells_is E is) (anchor_is E is) (same_row u)
            (λ rs. kept_strict strict (table s.marks u) (table s'.marks u) str (moved_marks.1 u (seated_below u (same_row u) rs) d)) h
