-- There are no more calls than records, and as many answers as calls. Assumes nothing.
use Rattle.std.proofs.Common.{◌≡◌, ℕ, ◌+◌, ◌^◌, ◌<◌, ◌≤◌, Bool, List, [], ◌∷◌, None, vec_items, length, ap, ◌∙◌, refl, arith}
use Rattle.std.proofs.lemmas.List.{length-append, length-map}
use Rattle.basis.specs.declared.answer.Answer.{Answer}
use Rattle.key_types.specs.declared.sector.Sector.{Sector}
use Rattle.marks.specs.Meaning.{Table, Order}
use Rattle.list_law.specs.Call.{State}
use Rattle.list_law.specs.Performed.{Ask, next, answers, answers_from}
use Rattle.list_driver.specs.Asks.{ask_of}
use Rattle.records.specs.declared.record.Record.{Record}
use Rattle.records.specs.declared.record.Record.TheVariants.{Setup, Join, Leave, Begin, Step, Abandon}
use Rattle.records.specs.declared.record.SchemeName.{SchemeName}
use Rattle.records.specs.declared.record.SchemeName.TheVariants.{Full, Owner, Version}
use Rattle.schedule.specs.Reading.{ReadRecord, open_refusal}
use Rattle.schedule.specs.Schedules.{read_all}
use Rattle.schedule.proofs.Counted.{line_numbers}
use Rattle.replay.specs.declared.calls.Calls.{Calls}
use Rattle.replay.specs.Answers.{asked_by, asks_of, answers_by}
use Rattle.replay.specs.Runs.{Answered}
use Rattle.replay.specs.Views.{Says}

one_call : (r : Record) → length (asked_by r) ≤ 1
one_call (Setup s cells window) = omega arith
one_call (Join seat) = omega arith
one_call (Leave seat) = omega arith
one_call (Begin kind seat n) = omega arith
one_call (Step seat) = omega arith
one_call (Abandon seat) = omega arith

no_more_calls : (es : List ReadRecord) → length (asks_of es) ≤ length es
unfolding asks_of
no_more_calls [] = omega arith
no_more_calls (e ∷ es) = omega (arith, length-append (asked_by e.content) (asks_of es), one_call e.content, no_more_calls es)

-- the numbers of their lines fit 16 bits
pub few_calls : (bytes : List ℕ) (c : Calls) → open_refusal bytes ≡ None → Says bytes c → length (vec_items c.asks) + 2 < 2 ^ 16
few_calls bytes c e s = omega (arith, length-map (vec_items c.asks) ask_of, ap length s.asks, no_more_calls (read_all bytes).entries, line_numbers bytes e)

module _ {K M : Type 0} (below : K → K → Bool) (table : M → Table) (act : Order → M → M) where
  as_many_answers : (s : State K M) (ks : List (Ask K)) → length (answers below table act s ks) ≡ length ks
  unfolding answers
  as_many_answers s [] = refl
  as_many_answers s (k ∷ ks) = let more = as_many_answers (next below table act s k) ks in omega arith

pub as_many : (name : SchemeName) (n w : ℕ) (asks : List (Ask Sector)) (out : List Answer) → Answered name n w asks out → length out ≡ length asks
unfolding answers_by answers_from
as_many Full n w asks out a = ap length a.computed ∙ as_many_answers _ _ _ _ asks
as_many Owner n w asks out a = ap length a.computed ∙ as_many_answers _ _ _ _ asks
as_many Version n w asks out a = ap length a.computed ∙ as_many_answers _ _ _ _ asks
