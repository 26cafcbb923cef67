-- What was read of a schedule so far: its first record, and what its records ask. Assumes nothing.
use Rattle.std.proofs.Common.{◌≡◌, ℕ, List, [], ◌∷◌, ◌++◌, true, Some, None, Option, vec_items, map, length, refl, sym, ap, ◌∙◌, append_assoc, append-nil, arith}
use Rattle.std.specs.Option.{option_map}
use Rattle.basis.specs.declared.refusal.Refusal.{Refusal}
use Rattle.basis.specs.declared.refusal.Refusal.TheVariants.{BadRecord}
use Rattle.basis.specs.declared.answer.Answer.TheVariants.{Refused}
use Rattle.basis.specs.Refusals.{refusal}
use Rattle.basis.proofs.Numbers.{same_number}
use Rattle.key_types.specs.declared.sector.Sector.{Sector}
use Rattle.list_law.specs.Performed.{Ask}
use Rattle.list_driver.specs.Asks.{ask_of}
use Rattle.records.specs.declared.record.Record.{Record}
use Rattle.schedule.specs.declared.reader.Part.{Part}
use Rattle.schedule.specs.declared.reader.Reader.{Reader}
use Rattle.schedule.specs.Reading.{ReadRecord, Reading, handed, ended, malformed, reading, next_of}
use Rattle.schedule.specs.Schedules.{still, Stops}
use Rattle.schedule.specs.Whole.{as_read, stop_number}
use Rattle.schedule.proofs.Sofar.{Sofar, Gave, Stopped, sofar_more, sofar_all}
use Rattle.replay.specs.declared.calls.Calls.{Calls}
use Rattle.replay.specs.Answers.{asked_by, asks_of, setup_of, first_of}
use Rattle.replay.specs.Texts.{stopped, stop_at}
use Rattle.replay.specs.Views.{refused_by, Says}

pub asks_more : (before : List ReadRecord) (e : ReadRecord) → asks_of (before ++ e ∷ []) ≡ asks_of before ++ asked_by e.content
unfolding asks_of
asks_more [] e = append-nil (asked_by e.content)
asks_more (b ∷ before) e = ap (λ l. asked_by b.content ++ l) (asks_more before e) ∙ sym (append_assoc (asked_by b.content) (asks_of before) (asked_by e.content))

setup_more : (before : List ReadRecord) (e : ReadRecord) → setup_of (before ++ e ∷ []) ≡ first_of (setup_of before) e.content
setup_more [] e = refl
setup_more (b ∷ before) e = refl

-- some records were handed out so far: the first of them is kept, and what they ask
pub record Taken (bytes : List ℕ) (reader : Reader) (setup : Option Record) (asks : List (Ask Sector)) : Type 0 where
  pub records : List ReadRecord
  pub sofar : Sofar bytes records reader
  pub first : setup ≡ setup_of records
  pub asked : asks ≡ asks_of records

pub taken_none : (bytes : List ℕ) (reader : Reader) {asks : List (Ask Sector)} → Sofar bytes [] reader → asks ≡ [] → Taken bytes reader None asks
unfolding asks_of
taken_none bytes reader s e = record { records = []; sofar = s; first = refl; asked = e }

pub taken_more : (bytes : List ℕ) (before : Reader) (p : Part) (after : Reader) {setup setup' : Option Record} {asks asks' : List (Ask Sector)}
    → Taken bytes before setup asks → Gave before p after → setup' ≡ first_of setup p.content → asks' ≡ asks ++ asked_by p.content → Taken bytes after setup' asks'
taken_more bytes before p after t g e f = record {
  records = t.records ++ as_read p ∷ [];
  sofar = sofar_more bytes t.records before p after t.sofar g;
  first = e ∙ ap (λ o. first_of o p.content) t.first ∙ sym (setup_more t.records (as_read p));
  asked = f ∙ ap (λ l. l ++ asked_by p.content) t.asked ∙ sym (asks_more t.records (as_read p));
}

-- the refusal at which reading stops, if there is one
stopped_by : (o : Option Refusal) (x : Reading) → Stops x → option_map (λ (r : Refusal). (refusal r).number) o ≡ stop_number x → refused_by o ≡ stopped x
stopped_by o (handed e left) s n = absurd s
stopped_by None ended s n = refl
stopped_by (Some r) ended s n = let z : ◌≡◌ {A = ℕ} 0 1 = cc in absurd (omega arith)
stopped_by None malformed s n = let z : ◌≡◌ {A = ℕ} 0 1 = cc in absurd (omega arith)
stopped_by (Some r) malformed s n = let m : (refusal r).number ≡ 11 = cc in ap (λ q. Refused q ∷ []) (same_number r BadRecord m)

-- where no further record is handed out, that is all that the schedule says
pub says : (bytes : List ℕ) (c : Calls) (reader after : Reader) → Taken bytes reader c.setup (map ask_of (vec_items c.asks)) → Stopped reader c.stop after → Says bytes c
says bytes c reader after t s =
    let all = sofar_all bytes t.records reader t.sofar s.stops in
    let asked : next_of reader.first reader.total reader.rest.now ≡ stop_at bytes =
    (λ i. next_of (t.sofar.first i) (t.sofar.total i) reader.rest.now) ∙ (λ i. next_of (still true (sym all i).entries) (length bytes) (sym all i).rest) in
    record {
      setup = t.first ∙ ap (λ l. setup_of l.entries) (sym all);
      asks = t.asked ∙ ap (λ l. asks_of l.entries) (sym all);
      stop = stopped_by c.stop (reading reader) s.stops s.number ∙ ap stopped asked;
    }
