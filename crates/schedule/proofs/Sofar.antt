-- What the loop over a whole schedule keeps: the records so far, and what is still read of the bytes left, are all of it.
-- Assumes nothing.
use Rattle.std.proofs.Common.{◌≡◌, ℕ, zero, suc, ◌-◌, ◌<◌, ◌≤◌, Bool, true, false, List, [], ◌∷◌, ◌++◌, map, length, get_or, Some, None, Ok, Err, Option, Result, vec_items, sym, refl, ap, ◌∙◌, subst, append_assoc, append-nil, arith, w8, Fits}
use Rattle.std.specs.Borrow.{Bor}
use Rattle.std.specs.List.{AllByRecursion}
use Rattle.std.proofs.ByRecursion.{All-append, All-from_get_or}
use Rattle.std.proofs.lemmas.List.{map_push}
use Rattle.std.specs.Option.{option_map}
use Rattle.basis.specs.declared.refusal.Refusal.{Refusal}
use Rattle.basis.specs.Cases.{Case}
use Rattle.basis.specs.Refusals.{refusal}
use Rattle.schedule.specs.declared.reader.Part.{Part}
use Rattle.schedule.specs.declared.reader.Reader.{Reader}
use Rattle.schedule.specs.declared.contents.Contents.{Contents}
use Rattle.schedule.specs.Reading.{ReadRecord, read_record, Reading, handed, ended, malformed, next_of, reading, outcome, due, content_due, left_after, first_after, Reads, Opened, Asked, open_refusal}
use Rattle.schedule.specs.Schedules.{listing, read_more, read_on, read_all, still, Bytes, Stops}
use Rattle.schedule.specs.Whole.{as_read, stop_number, entries_of, refusal_of, stop_of, PartOf, Holds}
use Rattle.schedule.proofs.Askings.{next_handed}
use Rattle.schedule.proofs.Trips.{nothing_lost}

-- the elements of a slice of u8 are bytes
pub bytes_typed : (bytes : List ℕ) → ((i : ℕ) → Fits w8 (get_or bytes i 0)) → Bytes bytes
bytes_typed bytes typed = All-from_get_or (λ b. b < 256) bytes 0 (λ i h. (typed i).fits)

-- what the outcome of an asking says of the definition's
pub record Gave (before : Reader) (p : Part) (after : Reader) : Type 0 where
  pub is : reading before ≡ handed (as_read p) after.rest.now
  pub total : after.total ≡ before.total
  pub first : after.first ≡ false

gave_record : (before : Reader) (p : Part) (after : Reader) → Asked before (Ok (Some p)) after → Gave before p after
gave_record before p after a = go (reading before) refl a.value a.content a.rest a.first
  where
    go : (x : Reading) → reading before ≡ x → outcome (Ok (Some p)) ≡ due x → Some p.content ≡ content_due x → after.rest.now ≡ left_after x before.rest.now → after.first ≡ first_after x before.first → Gave before p after
    go (handed e left) is v c r f =
        let vs : ◌≡◌ {A = List ℕ} (p.offset ∷ p.bytes.now) (e.offset ∷ e.bytes) = ap (λ (k : Case). k.values) v in
        let offset : p.offset ≡ e.offset = cc in
        let bytes : p.bytes.now ≡ e.bytes = cc in
        let content : p.content ≡ e.content = cc in
        record { is = is ∙ sym (λ i. handed (read_record (offset i) (bytes i) (content i)) (r i)); total = a.total; first = f }
    go ended is v c r f = let z : ◌≡◌ {A = ℕ} 0 1 = ap (λ (k : Case). k.number) v in absurd (omega arith)
    go malformed is v c r f = let z : ◌≡◌ {A = ℕ} 0 2 = ap (λ (k : Case). k.number) v in absurd (omega arith)

pub gave : (before : Reader) {r : Result (Option Part) Refusal} (p : Part) (after : Reader) → r ≡ Ok (Some p) → Asked before r after → Gave before p after
gave before p after e a = gave_record before p after (subst (λ r. Asked before r after) e a)

gave_end : (before : Reader) (after : Reader) → Asked before (Ok None) after → reading before ≡ ended
gave_end before after a = go (reading before) refl a.value
  where
    go : (x : Reading) → reading before ≡ x → outcome (Ok None) ≡ due x → reading before ≡ ended
    go (handed e left) is v = let z : ◌≡◌ {A = ℕ} 1 0 = ap (λ (k : Case). k.number) v in absurd (omega arith)
    go ended is v = is
    go malformed is v = let z : ◌≡◌ {A = ℕ} 1 2 = ap (λ (k : Case). k.number) v in absurd (omega arith)

gave_refusal : (before : Reader) (r : Refusal) (after : Reader) → Asked before (Err r) after → (reading before ≡ malformed) × ((refusal r).number ≡ 11)
gave_refusal before r after a = go (reading before) refl a.value
  where
    go : (x : Reading) → reading before ≡ x → outcome (Err r) ≡ due x → (reading before ≡ malformed) × ((refusal r).number ≡ 11)
    go (handed e left) is v = let z : ◌≡◌ {A = ℕ} 2 0 = ap (λ (k : Case). k.number) v in absurd (omega arith)
    go ended is v = let z : ◌≡◌ {A = ℕ} 2 1 = ap (λ (k : Case). k.number) v in absurd (omega arith)
    go malformed is v =
        let vs : ◌≡◌ {A = List ℕ} ((refusal r).number ∷ []) (11 ∷ []) = ap (λ (k : Case). k.values) v in
        (is, cc)

-- an asking that hands out no record: reading stops there, by that refusal or at the end, and the reader stays
pub record Stopped (before : Reader) (stop : Option Refusal) (after : Reader) : Type 0 where
  pub stops : Stops (reading before)
  pub number : option_map (λ (r : Refusal). (refusal r).number) stop ≡ stop_number (reading before)
  pub offset : after.total - length after.rest.now ≡ before.total - length before.rest.now

pub stopped_end : (before : Reader) {r : Result (Option Part) Refusal} {stop : Option Refusal} (after : Reader) → r ≡ Ok None → stop ≡ None → Asked before r after → Stopped before stop after
stopped_end before after e f b =
    let a = subst (λ r. Asked before r after) e b in
    let is = gave_end before after a in
    record {
      stops = subst Stops (sym is) tt;
      number = ap (option_map (λ (r : Refusal). (refusal r).number)) f ∙ sym (ap stop_number is);
      offset = λ i. a.total i - length ((a.rest ∙ ap (λ x. left_after x before.rest.now) is) i);
    }

pub stopped_refusal : (before : Reader) {r : Result (Option Part) Refusal} {stop : Option Refusal} (q : Refusal) (after : Reader) → r ≡ Err q → stop ≡ Some q → Asked before r after → Stopped before stop after
stopped_refusal before q after e f b =
    let a = subst (λ r. Asked before r after) e b in
    let is = gave_refusal before q after a in
    record {
      stops = subst Stops (sym is.0) tt;
      number = ap (option_map (λ (r : Refusal). (refusal r).number)) f ∙ ap Some is.1 ∙ sym (ap stop_number is.0);
      offset = λ i. a.total i - length ((a.rest ∙ ap (λ x. left_after x before.rest.now) is.0) i);
    }

-- the records so far, with enough askings left for the rest
pub record Sofar (bytes : List ℕ) (es : List ReadRecord) (reader : Reader) : Type 0 where
  pub total : reader.total ≡ length bytes
  pub first : reader.first ≡ still true es
  pub askings : ℕ
  pub enough : length reader.rest.now ≤ askings
  pub whole : read_all bytes ≡ listing (es ++ (read_on askings reader.first reader.total reader.rest.now).entries) (read_on askings reader.first reader.total reader.rest.now).rest

still_after : (es : List ReadRecord) (e : ReadRecord) → still true (es ++ e ∷ []) ≡ false
still_after [] e = refl
still_after (x ∷ es) e = refl

-- no record so far
pub sofar_none : (bytes : List ℕ) (reader : Reader) → bytes ≡ 1 ∷ reader.rest.now → reader.total ≡ length bytes → reader.first ≡ true → Sofar bytes [] reader
sofar_none bytes reader is total first = record {
  total = total;
  first = first;
  askings = length (1 ∷ reader.rest.now);
  enough = omega arith;
  whole = ap read_all is ∙ (λ i. read_on (length (1 ∷ reader.rest.now)) (sym first i) (sym (total ∙ ap length is) i) reader.rest.now);
}

-- one record more
pub sofar_more : (bytes : List ℕ) (es : List ReadRecord) (before : Reader) (p : Part) (after : Reader) → Sofar bytes es before → Gave before p after → Sofar bytes (es ++ as_read p ∷ []) after
unfolding read_on
sofar_more bytes es before p after s g = go s.askings s.enough s.whole
  where
    shorter : length after.rest.now < length before.rest.now
    shorter = omega (arith, (next_handed before.first before.total before.rest.now (as_read p) after.rest.now g.is).shorter)

    go : (n : ℕ) → length before.rest.now ≤ n → read_all bytes ≡ listing (es ++ (read_on n before.first before.total before.rest.now).entries) (read_on n before.first before.total before.rest.now).rest → Sofar bytes (es ++ as_read p ∷ []) after
    go zero h w = absurd (omega (arith, shorter))
    go (suc n) h w =
        let on = read_on n after.first after.total after.rest.now in
        let read : read_on (suc n) before.first before.total before.rest.now ≡ listing (as_read p ∷ on.entries) on.rest = ap (read_more (read_on n false before.total) before.rest.now) g.is ∙ (λ i. listing (as_read p ∷ (read_on n (sym g.first i) (sym g.total i) after.rest.now).entries) (read_on n (sym g.first i) (sym g.total i) after.rest.now).rest) in
        record {
          total = g.total ∙ s.total;
          first = g.first ∙ sym (still_after es (as_read p));
          askings = n;
          enough = omega (arith, shorter);
          whole = w ∙ (λ i. listing (es ++ (read i).entries) (read i).rest) ∙ ap (λ l. listing l on.rest) (sym (append_assoc es (as_read p ∷ []) on.entries));
        }

-- where no record is handed out, the records so far are all, and the bytes left are where reading stops
stopped : (n : ℕ) (first : Bool) (total : ℕ) (rest : List ℕ) → Stops (next_of first total rest) → read_on n first total rest ≡ listing [] rest
unfolding read_on
stopped zero first total rest s = refl
stopped (suc n) first total rest s =
    elim (next_of first total rest) as (λ a. Stops a → read_more (read_on n false total) rest a ≡ listing [] rest) [
      | handed e left ↦ λ s. absurd s
      | ended ↦ λ s. refl
      | malformed ↦ λ s. refl
    ] s

pub sofar_all : (bytes : List ℕ) (es : List ReadRecord) (reader : Reader) → Sofar bytes es reader → Stops (reading reader) → read_all bytes ≡ listing es reader.rest.now
sofar_all bytes es reader s stops =
    let none = stopped s.askings reader.first reader.total reader.rest.now stops in
    s.whole ∙ (λ i. listing (es ++ (none i).entries) (none i).rest) ∙ ap (λ l. listing l reader.rest.now) (append-nil es)

-- the parts that were handed out so far, of whatever schedule the reader read at the start
pub record Filled (bytes : List ℕ) (start : Reader) (ps : List Part) (reader : Reader) : Type 0 where
  pub sofar : Sofar bytes (map as_read ps) reader
  pub lie : (schedule : Bor (List ℕ)) → Reads schedule start → Reads schedule reader × AllByRecursion (PartOf schedule) ps

pub filled_none : (schedule : Bor (List ℕ)) (ps : List Part) (reader : Reader) → ps ≡ [] → Opened schedule reader → Filled schedule.now reader ps reader
filled_none schedule ps reader none o = subst (λ ps. Filled schedule.now reader ps reader) (sym none) (record {
  sofar = sofar_none schedule.now reader o.begins o.total o.first;
  lie = λ schedule reads. (reads, tt);
})

pub filled_more : (bytes : List ℕ) (start : Reader) (ps ps' : List Part) (before : Reader) {r : Result (Option Part) Refusal} (p : Part) (after : Reader) → ps' ≡ ps ++ p ∷ [] → r ≡ Ok (Some p) → Filled bytes start ps before → Asked before r after
    → Filled bytes start ps' after
filled_more bytes start ps ps' before p after more e f a =
    let asked = subst (λ r. Asked before r after) e a in
    subst (λ ps. Filled bytes start ps after) (sym more) (record {
      sofar = subst (λ es. Sofar bytes es after) (sym (map_push as_read ps p)) (sofar_more bytes (map as_read ps) before p after f.sofar (gave before p after e a));
      lie = λ schedule reads.
          let so = f.lie schedule reads in
          let part : PartOf schedule p = record { lies = asked.lies schedule so.0; says = asked.says } in
          (asked.reads schedule so.0, All-append (PartOf schedule) ps (p ∷ []) so.1 (part, tt));
    })

-- then the contents are those of the bytes
pub holds_all : (schedule : Bor (List ℕ)) (c : Contents) (reader after : Reader) → open_refusal schedule.now ≡ None → Bytes schedule.now → (start : Reader) → Reads schedule start → Filled schedule.now start (vec_items c.parts) reader → Stopped reader c.refusal after → c.stop ≡ after.total - length after.rest.now → Holds schedule c
holds_all schedule c reader after opened all start reads filled stopped at =
    let bytes = schedule.now in
    let s = filled.sofar in
    let es = map as_read (vec_items c.parts) in
    let is = sofar_all bytes es reader s stopped.stops in
    let asked : next_of reader.first reader.total reader.rest.now ≡ next_of (still true (read_all bytes).entries) (length bytes) (read_all bytes).rest = (λ i. next_of (s.first i) (s.total i) reader.rest.now) ∙ (λ i. next_of (still true (sym is i).entries) (length bytes) (sym is i).rest) in
    record {
      parts = ap (λ l. l.entries) (sym is) ∙ sym (ap (entries_of bytes) opened);
      lie = (filled.lie schedule reads).1;
      refused = stopped.number ∙ ap stop_number asked ∙ sym (ap (refusal_of bytes) opened);
      stop = at ∙ stopped.offset ∙ (λ i. s.total i - length (sym is i).rest) ∙ sym (ap (stop_of bytes) opened);
      accounted = nothing_lost bytes all;
    }
