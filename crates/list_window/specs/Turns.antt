-- Requests and turns, as the definitions of one call have them. Assumes nothing.
use Rattle.std.specs.Prelude.{ℕ, cond, [], ◌∷◌, Result}
use Rattle.std.specs.declared.result.Result.TheVariants as result
use Rattle.basis.specs.declared.refusal.Refusal.{Refusal}
use Rattle.marks.specs.Meaning.{release}
use Rattle.ledger.specs.Ledger.{What, join, leave, begin, step, abandon}
use Rattle.list_window.specs.declared.turn.Request as declared-request
use Rattle.list_window.specs.declared.turn.Request.TheVariants as request
use Rattle.list_window.specs.declared.turn.Turn as declared-turn
use Rattle.list_window.specs.declared.turn.Turn.TheVariants as variant
use Rattle.list_window.specs.Rows.{doing_of}
use Rattle.list_law.specs.Call as call

-- what a request asks
abbrev pub what_of : {K : Type 0} → declared-request.Request K → What K
what_of request.Join = join
what_of request.Leave = leave
what_of (request.Begin k x) = begin k x
what_of request.Step = step
what_of request.Abandon = abandon

-- a turn of seat t, which is not refused
abbrev pub turn_of : {K : Type 0} → ℕ → declared-turn.Turn K → call.Turn K
turn_of t (variant.Becomes d releases) = call.becomes (doing_of d) (cond releases (release t ∷ []) [])
turn_of t (variant.Runs k x) = call.runs k x

-- a turn of seat t, or its refusal
abbrev pub turned : {K : Type 0} → ℕ → Result (declared-turn.Turn K) Refusal → call.Turn K
turned t (result.Ok x) = turn_of t x
turned t (result.Err r) = call.refuses r
