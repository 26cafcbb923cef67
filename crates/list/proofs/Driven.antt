-- A call on an index is one more of the run that led to it. Assumes nothing.
use Rattle.std.proofs.Common.{◌≡◌, ℕ, Bool, List, [], ◌∷◌, ◌++◌, length, sym}
use Rattle.std.proofs.lemmas.List.{length-map}
use Rattle.basis.specs.declared.answer.Answer.{Answer}
use Rattle.marks.specs.Meaning.{Table, Order}
use Rattle.ledger.specs.Ledger.{What}
use Rattle.list_law.specs.Call.{State}
use Rattle.list_law.specs.Performed.{Ask}
use Rattle.list_law.specs.Driven.{Driven}
use Rattle.list_law.proofs.Driven.{driven_more}
use Rattle.list_cells.specs.Views.{cell_of}
use Rattle.list_window.specs.declared.index.Index.{Index}
use Rattle.list_window.specs.Rows.{row_of}
use Rattle.list_window.specs.Lent.{lent_state}
use Rattle.list.specs.Calls.{call_on, CalledOn}

pub driven_on : {K M : Type 0} {below : K → K → Bool} {table : M → Table} {strict : Bool} {acts : Order → M → M → Type 0} {n w : ℕ} {start : State K M} {asks : List (Ask K)} {answers : List Answer} {i j : Index K M} {what : What K} {t level : ℕ} {a : Answer}
    → length i.cells.now ≡ n → length i.rows.now ≡ 16 → Driven below table strict acts n w start asks answers (lent_state i) → CalledOn below table strict acts i what t level a j
    → Driven below table strict acts n w start (asks ++ record { seat = t; level = level; what = what } ∷ []) (answers ++ a ∷ []) (lent_state j)
driven_on {below = below} {table = table} {strict = strict} {acts = acts} {n = n} {w = w} {start = start} {asks = asks} {answers = answers} {i = index} {j = j} {what = what} {t = t} {level = level} {a = a} long sixteen run called =
    driven_more below table strict acts n w start asks answers (lent_state index) (record { seat = t; level = level; what = what }) (call_on index what t level) a (lent_state j)
    (λ i. record { what = what; seat = t; level = level; cells = long i; rows = sixteen i })
    (λ i. record { what = what; seat = t; level = level; cells = sym (length-map index.cells.now cell_of) i; rows = sym (length-map index.rows.now row_of) i })
    run called.did called.runs
