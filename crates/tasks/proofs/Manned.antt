-- The seats of both tasks stay held, from call to call. Assumes nothing.
use Rattle.std.specs.Prelude.{Result, IsOk}
use Rattle.std.specs.declared.result.Result.TheVariants as result
use Rattle.std.proofs.Common.{◌≡◌, ℕ, Bool, ◌≢◌, sym, refl, ◌∙◌, subst, inl}
use Rattle.basis.specs.declared.refusal.Refusal.{Refusal}
use Rattle.basis.specs.declared.answer.Answer.TheVariants.{Refused}
use Rattle.basis.specs.declared.answer.Answer.{Answer}
use Rattle.key_types.specs.declared.wear.Wear.{Wear}
use Rattle.key_types.specs.Wear.{wear_below}
use Rattle.marks.specs.Meaning.{Table, Order}
use Rattle.ledger.specs.Ledger.{What, Call, join, leave}
use Rattle.list_law.specs.Call.{State}
use Rattle.list_law.proofs.Lists.{clash}
use Rattle.list_window.specs.declared.index.Index.{Index}
use Rattle.list_window.specs.Lent.{lent_state}
use Rattle.list.specs.declared.slip.RefusedLeave.{RefusedLeave}
use Rattle.list.specs.Calls.{call_on, CalledOn}
use Rattle.list.specs.Slips.{left, Held}
use Rattle.list.proofs.Held.{held_on}
use Rattle.tasks.specs.declared.turn.Ask.{Ask}
use Rattle.tasks.specs.declared.turn.Ask.TheVariants.{Begin, Step, Abandon}
use Rattle.tasks.specs.Turns.{what_asked, Called}
use Rattle.tasks.specs.Manned.{Manned}

-- a refusal is not an ok
pub refused_apart : {q : Refusal} → Refused q ≡ Answer.Ok → ⊥
refused_apart h = clash (cc)

-- a leave whose answer is ok gave its slip back
pub ok_left : {X : Type 0} (r : Result X RefusedLeave) → left r ≡ Answer.Ok → IsOk r
ok_left (result.Ok x) h = refl
ok_left (result.Err kept) h = absurd (refused_apart h)

-- no join and no ask is a leave
pub join_apart : {K : Type 0} → ◌≢◌ {A = What K} join leave
join_apart h = clash (cc)

pub asked_apart : (a : Ask) → what_asked a ≢ leave
asked_apart (Begin k x) h = clash (cc)
asked_apart Step h = clash (cc)
asked_apart Abandon h = clash (cc)

-- the same seat
pub held_at : {K M : Type 0} {s : State K M} {t u : ℕ} → u ≡ t → Held s t → Held s u
held_at {s = s} e h = subst (Held s) (sym e) h

-- the same state
pub held_in : {K M : Type 0} {s s' : State K M} {t : ℕ} → s ≡ s' → Held s t → Held s' t
held_in {t = t} e h = subst (λ s. Held s t) e h

-- what a call did to an index, told of the states that it was over before and after
pub called_over : {M : Type 0} {table : M → Table} {strict : Bool} {acts : Order → M → M → Type 0} {i j : Index Wear M} {what : What Wear} {t level : ℕ} {s s' : State Wear M} {c : Call Wear} {a : Answer}
    → lent_state i ≡ s → lent_state j ≡ s' → call_on i what t level ≡ c → CalledOn wear_below table strict acts i what t level a j → Called table strict acts s c a s'
called_over {M = M} {table = table} {strict = strict} {acts = acts} {a = a} before after is h =
    subst (λ (x : State Wear M × Call Wear × State Wear M). Called table strict acts x.0 x.1 a x.2) (λ i. (before i, is i, after i)) (record { did = h.did; runs = h.runs })

-- both tasks are there, by the numbers of their seats
pub manned_by : {M : Type 0} (s : State Wear M) {h k h' k' level : ℕ} → h' ≡ h → k' ≡ k → Held s h → Held s k → h ≢ k → level ≡ 0 → Manned s h' k' level
manned_by s host cleaner held held' apart level = record {
  host = held_at host held;
  cleaner = held_at cleaner held';
  apart = λ e. apart (sym host ∙ e ∙ cleaner);
  level = level;
}

-- a call on an index that was over state s, and is no leave, leaves both tasks there
pub stays_manned : {M : Type 0} {table : M → Table} {strict : Bool} {acts : Order → M → M → Type 0} {i j : Index Wear M} {what : What Wear} {t masked : ℕ} {a : Answer} {s : State Wear M} {h k level level' : ℕ}
    → lent_state i ≡ s → CalledOn wear_below table strict acts i what t masked a j → what ≢ leave → level' ≡ level → Manned s h k level → Manned (lent_state j) h k level'
stays_manned {i = i} {j = j} before called apart level m =
    let keeps : (u : ℕ) → Held _ u → Held (lent_state j) u = λ u h. held_on called u (inl apart) (held_in (sym before) h) in
    record { host = keeps _ m.host; cleaner = keeps _ m.cleaner; apart = m.apart; level = level ∙ m.level }
