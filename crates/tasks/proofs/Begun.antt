-- Making begins the run, and the two joins go on with it. Assumes nothing.
use Rattle.std.proofs.Common.{◌≡◌, ℕ, Bool, true, false, cond, List, [], ◌∷◌, ◌++◌, length, sym, refl, subst}
use Rattle.basis.specs.declared.refusal.Refusal.TheVariants.{WrongSizes}
use Rattle.basis.specs.declared.answer.Answer.{Answer}
use Rattle.basis.specs.declared.answer.Answer.TheVariants.{Refused}
use Rattle.key_types.specs.declared.wear.Wear.{Wear}
use Rattle.key_types.specs.Wear.{wear_below}
use Rattle.marks.specs.Meaning.{Table, Order}
use Rattle.ledger.specs.Ledger.{What}
use Rattle.list_law.specs.Call.{State}
use Rattle.list_law.specs.Driven.{Driven}
use Rattle.list_law.specs.Performed.{Ask}
use Rattle.list_law.proofs.Driven.{driven_as}
use Rattle.list_window.specs.declared.index.Index.{Index}
use Rattle.list_window.specs.Lent.{lent_state}
use Rattle.list.specs.Calls.{CalledOn}
use Rattle.list.proofs.Driven.{driven_on}
use Rattle.tasks.proofs.Manned.{refused_apart}
use Rattle.tasks.specs.Stations.{unmasked}

-- a making that is ok was accepted
pub accepted : (b : Bool) → Answer.Ok ≡ cond b Answer.Ok (Refused WrongSizes) → b ≡ true
accepted true is = refl
accepted false is = absurd (refused_apart (sym is))

-- an accepted call more, at level 0
pub accepted_more : {S : Type 0} {table : S → Table} {strict : Bool} {acts : Order → S → S → Type 0} {n w : ℕ} {start : State Wear S} {asks : List (Ask Wear)} {answers : List Answer} {i j : Index Wear S} {what : What Wear} {t level : ℕ} {a : Answer}
    → length i.cells.now ≡ n → length i.rows.now ≡ 16 → level ≡ 0 → a ≡ Answer.Ok
    → Driven wear_below table strict acts n w start asks answers (lent_state i) → CalledOn wear_below table strict acts i what t level a j
    → Driven wear_below table strict acts n w start (asks ++ unmasked t what ∷ []) (answers ++ Answer.Ok ∷ []) (lent_state j)
accepted_more {table = table} {strict = strict} {acts = acts} {n = n} {w = w} {asks = asks} {answers = answers} {what = what} {t = t} long sixteen low ok run called =
    driven_as wear_below table strict acts n w (λ i. asks ++ record { seat = t; level = low i; what = what } ∷ []) (λ i. answers ++ ok i ∷ []) (driven_on long sixteen run called)

-- the same state at the end
pub driven_to : {S : Type 0} {table : S → Table} {strict : Bool} {acts : Order → S → S → Type 0} {n w : ℕ} {start : State Wear S} {asks : List (Ask Wear)} {answers : List Answer} {s s' : State Wear S} → s ≡ s' → Driven wear_below table strict acts n w start asks answers s → Driven wear_below table strict acts n w start asks answers s'
driven_to {table = table} {strict = strict} {acts = acts} {n = n} {w = w} {start = start} {asks = asks} {answers = answers} e d = subst (λ s. Driven wear_below table strict acts n w start asks answers s) e d
