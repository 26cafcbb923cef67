-- An answer of ok looks at no cell, so that the call's own clause goes on with the run.
use Rattle.std.proofs.Common.{ℕ, Bool, refl, inl, inr}
use Rattle.std.specs.Prelude.{Result, IfOk}
use Rattle.std.specs.declared.result.Result.TheVariants as result
use Rattle.basis.specs.Answers.{settled}
use Rattle.basis.specs.declared.answer.Answer.{Answer}
use Rattle.basis.specs.declared.refusal.Refusal.{Refusal}
use Rattle.marks.specs.Meaning.{Table, Order}
use Rattle.ledger.specs.Ledger.{What}
use Rattle.ledger.specs.Law.{more}
use Rattle.list_window.specs.declared.index.Index.{Index}
use Rattle.list_window.specs.Lent.{lent_state}
use Rattle.list.specs.Calls.{call_on, CalledOn}
use Rattle.list_tests.specs.OtherCells.{over_cells, GoesOnBeside}
use Rattle.list_tests.proofs.other_cells.begin_on_other_cells.Goals as goal

goes_on : {K M : Type 0} (below : K → K → Bool) (table : M → Table) (strict : Bool) (acts : Order → M → M → Type 0)
    (i : Index K M) (what : What K) (seat level : ℕ) (r : Result (Unit {0}) Refusal) (j : Index K M) → CalledOn below table strict acts i what seat level (settled r) j
    → IfOk r (λ _. GoesOnBeside below table strict acts (lent_state i) (call_on i what seat level) Answer.Ok (lent_state j))
goes_on below table strict acts i what seat level (result.Ok x) j called = λ n w es own run.
    let next = called.runs n w es (over_cells own (lent_state i)) run refl refl (inr (inr refl)) (inl refl) (over_cells own (lent_state j)) refl refl refl refl in
    more run next.0
goes_on below table strict acts i what seat level (result.Err e) j called = tt

pub returns-clause-runs : goal.returns-clause-runs
returns-clause-runs g c =
    goes_on g.K.Key.below g.S.Scheme.table g.S.Scheme.strict g.S.Scheme.acts
    c.args.index.now _ c.args.seat c.args.mask.now.level c.begin.result c.begin.new.index c.begin.ensures.called
