-- One asking against the written form: what is written is handed out, and what is handed out was written. Assumes nothing.
use Rattle.std.proofs.Common.{◌≡◌, ℕ, ◌+◌, ◌-◌, ◌/◌, ◌%◌, ◌<◌, ◌≤◌, Bool, true, false, cond, ltb, List, [], ◌∷◌, ◌++◌, length, take, drop, Some, None, Option, sym, refl, ap, ◌∙◌, subst, arith}
use Rattle.std.proofs.ByRecursion.{All-take, All-drop}
use Rattle.std.proofs.lemmas.List.{take_at, drop_at, length-append, length-take-le, length-drop, take-append-drop}
use Rattle.std.proofs.lemmas.Bool.{le-ltb, ltb-false, cond-true, cond-false}
use Rattle.records.specs.declared.record.Record.{Record}
use Rattle.records.specs.Records.{two, from_two, fields, written, decoded}
use Rattle.schedule.specs.Reading.{ReadRecord, read_record, handed, ended, malformed, in_place, if_in_place, content_at, cut_of, placed, parted, next_of}
use Rattle.schedule.specs.Schedules.{Bytes, BeginsNone}
use Rattle.schedule.proofs.Cuts.{hands}
use Rattle.schedule.proofs.Writes.{from_two_two, two_from_two, decoded_fields, none_left}

-- what is written of a record in its place is handed out
pub next_written : (first : Bool) (total : ℕ) (r : Record) (more : List ℕ) → in_place first r ≡ true → next_of first total (written r ++ more) ≡ handed (read_record (total - length more - length (fields r)) (fields r) r) more
next_written first total r more here = hands first total (written r ++ more) (fields r) more r cut content
  where
    cut : cut_of (written r ++ more) ≡ Some (fields r, more)
    cut =
        let n = length (fields r) in
        let long : from_two (n / 256) (n % 256) ≡ n = from_two_two n in
        let enough : n ≤ length (fields r ++ more) = omega (arith, length-append (fields r) more) in
        (λ i. cond (ltb (length (fields r ++ more)) (long i)) None (Some (take (long i) (fields r ++ more), drop (long i) (fields r ++ more))))
        ∙ cond-false _ _ _ (le-ltb (length (fields r ++ more)) n enough)
        ∙ (λ i. Some (take_at (fields r) more n refl i, drop_at (fields r) more n refl i))

    content : content_at first (fields r) ≡ Some r
    content = ap (if_in_place first) (decoded_fields r) ∙ cond-true _ _ _ here

-- where a length cuts, the length, the record's bytes and what is left are what was there
pub record Cut (rest bytes left : List ℕ) : Type 0 where
  pub whole : Bytes rest → (rest ≡ two (length bytes) ++ (bytes ++ left)) × Bytes bytes × Bytes left
  pub shorter : length left + length bytes + 2 ≡ length rest

pub cut_some : (rest bytes left : List ℕ) → cut_of rest ≡ Some (bytes, left) → Cut rest bytes left
cut_some [] bytes left e = none_left e
cut_some (high ∷ []) bytes left e = none_left e
cut_some (high ∷ low ∷ rest) bytes left e = go (ltb (length rest) (from_two high low)) refl e
  where
    go : (b : Bool) → ltb (length rest) (from_two high low) ≡ b → cond {A = Option (List ℕ × List ℕ)} b None (Some (take (from_two high low) rest, drop (from_two high low) rest)) ≡ Some (bytes, left) → Cut (high ∷ low ∷ rest) bytes left
    go true is e = none_left e
    go false is e =
        let parts : ◌≡◌ {A = List ℕ × List ℕ} (take (from_two high low) rest, drop (from_two high low) rest) (bytes, left) = cc in
        let front : take (from_two high low) rest ≡ bytes = ap (λ (p : List ℕ × List ℕ). p.0) parts in
        let back : drop (from_two high low) rest ≡ left = ap (λ (p : List ℕ × List ℕ). p.1) parts in
        let long : length bytes ≡ from_two high low = sym (ap length front) ∙ length-take-le (from_two high low) rest (ltb-false _ _ is) in
        record {
          whole = λ all. (
            (λ i. sym (ap two long ∙ two_from_two high low all.1.0) i ++ (sym (take-append-drop (from_two high low) rest) ∙ (λ i. front i ++ back i)) i),
            subst Bytes front (All-take (λ b. b < 256) (from_two high low) rest all.1.1),
            subst Bytes back (All-drop (λ b. b < 256) (from_two high low) rest all.1.1),
          );
          shorter = omega (arith, ap length back, length-drop (from_two high low) rest, ltb-false _ _ is);
        }

-- a record that may stand there was said by the bytes
content_some : (first : Bool) (bytes : List ℕ) (r : Record) → content_at first bytes ≡ Some r → (decoded bytes ≡ Some r) × (in_place first r ≡ true)
content_some first bytes r e = go (decoded bytes) e
  where
    go : (o : Option Record) → if_in_place first o ≡ Some r → (o ≡ Some r) × (in_place first r ≡ true)
    go None e = none_left e
    go (Some x) e = choose (in_place first x) refl e
      where
        choose : (b : Bool) → in_place first x ≡ b → cond b (Some x) None ≡ Some r → (Some x ≡ Some r) × (in_place first r ≡ true)
        choose true is e = let same : x ≡ r = cc in (e, subst (λ y. in_place first y ≡ true) same is)
        choose false is e = none_left e

-- a call byte and a field are the least that says a record
two_at_least : (bytes : List ℕ) (r : Record) → decoded bytes ≡ Some r → 2 ≤ length bytes
two_at_least [] r e = none_left e
two_at_least (c ∷ []) r e = none_left e
two_at_least (c ∷ x ∷ bytes) r e = omega arith

-- a record that is handed out was cut there and said by the bytes, and its offset is counted from the end
pub record Handed (first : Bool) (total : ℕ) (rest : List ℕ) (e : ReadRecord) (left : List ℕ) : Type 0 where
  pub cut : Cut rest e.bytes left
  pub decodes : decoded e.bytes ≡ Some e.content
  pub here : in_place first e.content ≡ true
  pub offset : e.offset ≡ total - length left - length e.bytes
  pub shorter : length left + 4 ≤ length rest

pub next_handed : (first : Bool) (total : ℕ) (rest : List ℕ) (e : ReadRecord) (left : List ℕ) → next_of first total rest ≡ handed e left → Handed first total rest e left
next_handed first total [] e left h = let z : ◌≡◌ {A = ℕ} 0 1 = cc in absurd (omega arith)
next_handed first total (b ∷ rest) e left h = go (cut_of (b ∷ rest)) refl h
  where
    found : (bytes after : List ℕ) → cut_of (b ∷ rest) ≡ Some (bytes, after) → (o : Option Record) → content_at first bytes ≡ o → placed total bytes after o ≡ handed e left → Handed first total (b ∷ rest) e left
    found bytes after is None said h = let z : ◌≡◌ {A = ℕ} 0 1 = cc in absurd (omega arith)
    found bytes after is (Some r) said h =
        let same : read_record (total - length after - length bytes) bytes r ≡ e = cc in
        let tail : after ≡ left = cc in
        let told = content_some first bytes r said in
        subst (λ (x : ReadRecord × List ℕ). Handed first total (b ∷ rest) x.0 x.1) (λ i. (same i, tail i)) (record {
          cut = cut_some (b ∷ rest) bytes after is;
          decodes = told.0;
          here = told.1;
          offset = refl;
          shorter = omega (arith, (cut_some (b ∷ rest) bytes after is).shorter, two_at_least bytes r told.0);
        })

    go : (o : Option (List ℕ × List ℕ)) → cut_of (b ∷ rest) ≡ o → parted first total o ≡ handed e left → Handed first total (b ∷ rest) e left
    go None is h = let z : ◌≡◌ {A = ℕ} 0 1 = cc in absurd (omega arith)
    go (Some p) is h = found p.0 p.1 is (content_at first p.0) refl h

-- where nothing is handed out, no record begins
pub next_malformed : (first : Bool) (total : ℕ) (rest : List ℕ) → next_of first total rest ≡ malformed → BeginsNone first rest
next_malformed first total rest e r more fits here is =
    let out = next_written first total r more here in
    let z : ◌≡◌ {A = ℕ} 0 1 = cc (ap (next_of first total) is) in
    omega arith

-- the end is where nothing is left
pub next_ended : (first : Bool) (total : ℕ) (rest : List ℕ) → next_of first total rest ≡ ended → rest ≡ []
next_ended first total [] e = refl
next_ended first total (b ∷ rest) e = go (cut_of (b ∷ rest)) e
  where
    found : (bytes after : List ℕ) (o : Option Record) → placed total bytes after o ≡ ended → b ∷ rest ≡ []
    found bytes after None h = let z : ◌≡◌ {A = ℕ} 0 1 = cc in absurd (omega arith)
    found bytes after (Some r) h = let z : ◌≡◌ {A = ℕ} 0 1 = cc in absurd (omega arith)

    go : (o : Option (List ℕ × List ℕ)) → parted first total o ≡ ended → b ∷ rest ≡ []
    go None h = let z : ◌≡◌ {A = ℕ} 0 1 = cc in absurd (omega arith)
    go (Some p) h = found p.0 p.1 (content_at first p.0) h
