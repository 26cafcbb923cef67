-- One call that is refused, one that waits, and one that has another outcome: what the law needs of each. Assumes nothing.
use Rattle.std.proofs.Common.{◌≡◌, ℕ, ◌<◌, Bool, true, false, ◌&&◌, eqb, ◌≢◌, ◌⊎◌, ◌↔◌, List, length, Some, None, sym, refl, ap, ◌∙◌, subst, inl, inr, arith, length-set}
use Rattle.std.proofs.lemmas.Bool.{and_parts, both_ways, cases_eq, eqb-true, eq-eqb}
use Rattle.basis.specs.declared.refusal.Refusal.{Refusal}
use Rattle.basis.specs.declared.refusal.Refusal.TheVariants.{BadLink}
use Rattle.basis.specs.declared.answer.Answer.{Answer}
use Rattle.basis.specs.declared.answer.Answer.TheVariants.{Wait, Refused}
use Rattle.marks.specs.Meaning.{Table, Order}
use Rattle.ledger.specs.Ledger as plain
use Rattle.ledger.specs.Ledger.{Ledger, nothing, waited, seated, holding, steps, reply, replied}
use Rattle.ledger.specs.Law.{Event, is_accepted, is_final, steps_of, ends_of, begins_of, changed_beside}
use Rattle.ledger.proofs.Lawful as generic
use Rattle.list_law.specs.Call.{State, Memory, memory, memory_of, row_at, anchor_after, rows_after}
use Rattle.ledger.specs.Keys.{Permuted}
use Rattle.list_law.specs.Law.{Entry, keys, Rule, list_index, most_waits}
use Rattle.list_law.proofs.Lists.{clash}
use Rattle.list_law.proofs.Shape.{Shape}
use Rattle.list_law.proofs.Marks.{Stands}
use Rattle.list_law.proofs.Invariant.{row_for, Inv, After, inv_after, is_running, seated_own, seated_other, row_own, row_other, placed_none}
use Rattle.list_law.proofs.Held.{Held, held_over}

-- a step that counts for seat u is a step, of seat u, and accepted
pub steps_parts : {K : Type 0} (u : ℕ) (e : Event K) → steps_of u e ≡ true → (steps e.call.what ≡ true) × (e.call.seat ≡ u) × (is_accepted e.answer ≡ true)
steps_parts u e h =
    let a = and_parts (steps e.call.what && eqb e.call.seat u) (is_accepted e.answer) h in
    let b = and_parts (steps e.call.what) (eqb e.call.seat u) a.0 in
    (b.0, eqb-true e.call.seat u b.1, a.1)

not_told : nothing ≡ waited → ⊥
not_told h = clash (cc)

-- told nothing, and no wait
pub told_nothing : {K : Type 0} (e : Event K) → e.told ≡ nothing → e.answer ≢ Wait → (e.told ≡ waited) ↔ (e.answer ≡ Wait)
told_nothing e h d = ((λ k. absurd (not_told (sym h ∙ k))), (λ k. absurd (d k)))

pub refused_apart : (r q : Refusal) → r ≢ q → Refused r ≢ Refused q
refused_apart r q d h = d (cc)

module _ {K M : Type 0} (below : K → K → Bool) (table : M → Table) (strict : Bool) (acts : Order → M → M → Type 0) (n w : ℕ) (a : Ledger K) (s : State K M) (e : Event K) (s' : State K M) where
  abbrev pub Called : Type 0
  Called = generic.Called below (list_index below table strict acts) (Inv below table n w) (Held table) (most_waits n w) a s e s'

  -- a refused call changes nothing
  pub called_refused : Inv below table n w a s → s' ≡ s → (r : Refusal) → e.answer ≡ Refused r → r ≢ BadLink → e.told ≡ nothing → reply below a e.call e.told ≡ replied (Refused r) a → Called
  called_refused v same r ea d quiet er = record {
    inv = subst (λ z. Inv below table n w z s') (sym (ap (λ (x : plain.Reply K). x.after) er)) (subst (Inv below table n w a) (sym same) v);
    answers = record {
      as_ledger = ea ∙ sym (ap (λ (x : plain.Reply K). x.answer) er);
      told_wait = told_nothing e quiet (λ h. no (ap is_accepted h));
      no_bad_link = λ h. refused_apart r BadLink d (sym ea ∙ h);
      rule = λ k x what row ok. absurd (no ok);
    };
    waits_held = λ t c st en h. absurd (no (steps_parts t e st).2);
    others_held = λ _ t c _ _ _ h. subst (λ z. Held table z t c) (sym same) h;
  }
    where
      no : is_accepted e.answer ≡ true → ⊥
      no h = both_ways false refl (sym (ap is_accepted ea) ∙ h)

-- what an accepted call of seat t that does not wait leaves: the answer, cells and chains, the seat's row, orders, and the set
pub record Outcome {K M : Type 0} (below : K → K → Bool) (table : M → Table) (strict : Bool) (acts : Order → M → M → Type 0) (n t : ℕ) (a : Ledger K) (s : State K M) (e : Event K) (s' : State K M) (listed : List (Entry K)) : Type 0 where
  pub answer : Answer
  pub memory : Memory K
  pub row : plain.Row K
  pub members : List K
  pub listed' : List (Entry K)
  pub frees' : List (Entry K)
  pub is_answer : e.answer ≡ answer
  pub is_told : e.told ≡ nothing
  pub no_wait : answer ≢ Wait
  pub is_cells : s'.cells ≡ memory.cells
  pub is_anchor : s'.anchor ≡ anchor_after s.anchor memory
  pub is_rows : s'.rows ≡ rows_after s.rows t (Some (row_for row))
  pub is_reply : reply below a e.call e.told ≡ replied answer (holding (seated a t row) members)
  pub accepted : is_accepted answer ≡ true
  pub number : length memory.cells ≡ length s.cells
  pub shape : Shape below memory n listed' frees'
  pub permuted : Permuted members (keys listed')
  pub mark : table s'.marks t ≡ None
  pub other_none : (u : ℕ) → u < 16 → u ≢ t → table s.marks u ≡ None → table s'.marks u ≡ None
  pub other_marks : (u : ℕ) → u < 16 → u ≢ t → (x : K) → Stands below x listed (table s.marks u) → Stands below x listed' (table s'.marks u)
  pub rule : Rule below table a s e s'
  pub final : steps e.call.what ≡ true → is_final answer ≡ true
  pub over : steps_of t e ≡ false → begins_of t e ≡ false → is_running (row_for row) ≡ false
  pub held : strict ≡ true → (u c : ℕ) → u ≢ t → changed_beside u a e ≡ false → Held table s u c → Held table s' u c

module _ {K M : Type 0} (below : K → K → Bool) (table : M → Table) (strict : Bool) (acts : Order → M → M → Type 0) (n w : ℕ) (a : Ledger K) (s : State K M) (e : Event K) (s' : State K M)
    (v : Inv below table n w a s) (seat : e.call.seat < 16) where
  t : ℕ
  t = e.call.seat

  accepted_apart : (b : Answer) → is_accepted b ≡ true → b ≢ Refused BadLink
  accepted_apart b h k = both_ways false refl (sym (ap is_accepted k) ∙ h)

  pub called_outcome : Outcome below table strict acts n e.call.seat a s e s' v.listed → Called below table strict acts n w a s e s'
  unfolding t
  called_outcome o = record {
    inv = subst (λ z. Inv below table n w z s') (sym (ap (λ (x : plain.Reply K). x.after) o.is_reply)) (inv_after below table n w t a s v a' s' left);
    answers = record {
      as_ledger = o.is_answer ∙ sym (ap (λ (x : plain.Reply K). x.answer) o.is_reply);
      told_wait = told_nothing e o.is_told (λ h. o.no_wait (sym o.is_answer ∙ h));
      no_bad_link = λ h. accepted_apart o.answer o.accepted (sym o.is_answer ∙ h);
      rule = o.rule;
    };
    waits_held = λ u c st en h. absurd (not_final u st en);
    others_held = λ str u c st be ch h. others str u c st be ch h (cases_eq u t);
  }
    where
      a' : Ledger K
      a' = holding (seated a t o.row) o.members

      here : t < length s.rows
      here = omega (arith, v.rows, seat)

      own_row : row_at s'.rows t ≡ row_for o.row
      own_row = ap (λ rs. row_at rs t) o.is_rows ∙ row_own s.rows t (row_for o.row) here

      memory_is : memory_of s' ≡ o.memory
      memory_is = λ i. memory (o.is_cells i) (o.is_anchor i).head (o.is_anchor i).free

      left : After below table n t a s v.listed a' s'
      left = record {
        number = refl;
        cells = ap length o.is_cells ∙ o.number;
        count = ap (λ an. an.count) o.is_anchor;
        window = ap (λ an. an.window) o.is_anchor;
        rows = ap length o.is_rows ∙ length-set s.rows t (row_for o.row);
        listed = o.listed';
        frees = o.frees';
        shape = subst (λ m. Shape below m n o.listed' o.frees') (sym memory_is) o.shape;
        members = o.permuted;
        own_row = own_row ∙ ap row_for (sym (seated_own a t o.row));
        own_mark = placed_none below o.listed' (a'.row t) (table s'.marks t) o.mark;
        other_ledger = seated_other a t o.row;
        other_rows = λ u d. ap (λ rs. row_at rs u) o.is_rows ∙ row_other s.rows t (row_for o.row) u d;
        other_none = o.other_none;
        other_marks = o.other_marks;
      }

      not_final : (u : ℕ) → steps_of u e ≡ true → ends_of u e ≡ false → ⊥
      not_final u st en =
          let p = steps_parts u e st in
          let f : ends_of u e ≡ true = rw (p.0, eq-eqb e.call.seat u p.1, ap is_final o.is_answer, o.final p.0) in
          both_ways (ends_of u e) en f

      others : strict ≡ true → (u c : ℕ) → steps_of u e ≡ false → begins_of u e ≡ false → changed_beside u a e ≡ false → Held table s u c → (u ≡ t) ⊎ (u ≡ t → ⊥) → Held table s' u c
      others str u c st be ch h (inl same) =
          held_over table s s' u c (ap (λ z. is_running (row_at s'.rows z)) same ∙ ap is_running own_row ∙ o.over (subst (λ z. steps_of z e ≡ false) same st) (subst (λ z. begins_of z e ≡ false) same be))
      others str u c st be ch h (inr d) = o.held str u c d ch h
