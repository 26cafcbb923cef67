-- An effect that is applied is any effect that is equal to it. Assumes nothing.
use Rattle.std.proofs.Common.{◌≡◌, ℕ, Bool, subst}
use Rattle.basis.specs.declared.answer.Answer.{Answer}
use Rattle.marks.specs.Meaning.{Table, Order}
use Rattle.list_law.specs.Call.{State, Effect}
use Rattle.list_window.specs.Applied.{Applied}

pub as_effect : {K M : Type 0} {table : M → Table} {strict : Bool} {acts : Order → M → M → Type 0} {t : ℕ} {f f' : Effect K} {s : State K M} {a : Answer} {s' : State K M} → f ≡ f' → Applied table strict acts t f s a s' → Applied table strict acts t f' s a s'
as_effect {table = table} {strict = strict} {acts = acts} {t = t} {s = s} {a = a} {s' = s'} e h = subst (λ f. Applied table strict acts t f s a s') e h
