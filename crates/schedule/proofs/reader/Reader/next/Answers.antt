-- Where a record is handed out, the definition hands out the same one, and where it is refused, the definition refuses it.
use Rattle.std.proofs.Common.{◌≡◌, ◌-◌, ◌∷◌, length, codes, refl, sym, ap, ◌∙◌, arith}
use Rattle.std.proofs.lemmas.Result.{err_from_is_err_and}
use Rattle.basis.specs.Cases.{case_of}
use Rattle.schedule.specs.Reading.{due, content_due, left_after, first_after}
use Rattle.schedule.proofs.Askings.{cut_some}
use Rattle.schedule.proofs.Cuts.{hands, refuses}
use Rattle.schedule.proofs.Places.{part_lies, still_reads}
use Rattle.schedule.proofs.reader.Reader.next.Goals as goal

pub returns-in_err-content : goal.returns-in_err-content
returns-in_err-content c =
    let reader = c.args.self.now in
    let none = c.in_err-content.ensures.cases in
    let cut = rw c.in_ok-bytes.ensures.ok_part at c.cut.ensures.cases in
    let is = refuses reader.first reader.total reader.rest.now c.in_ok-bytes.bytes.now c.in_ok-bytes.left.now cut none.0 in
    let p = err_from_is_err_and c.from_residual-in_err-content.result c.from_residual-in_err-content.ensures.1 in
    rw (p.1, p.2, none.1) (record {
      value = sym (ap due is);
      content = sym (ap content_due is);
      says = tt;
      lies = λ schedule reads. tt;
      reads = λ schedule reads. reads;
      rest = sym (ap (λ a. left_after a reader.rest.now) is);
      total = refl;
      first = sym (ap (λ a. first_after a reader.first) is);
    })

pub returns : goal.returns
returns c =
    let reader = c.args.self.now in
    let part = c.in_ok-bytes.bytes in
    let left = c.in_ok-bytes.left in
    let cut = rw c.in_ok-bytes.ensures.ok_part at c.cut.ensures.cases in
    let lies = rw c.in_ok-bytes.ensures.ok_part at c.cut.ensures.lies in
    let is = hands reader.first reader.total reader.rest.now part.now left.now _ cut c.in_ok-content.ensures.cases in
    let shorter = (cut_some reader.rest.now part.now left.now cut).shorter in
    let offset : c.saturating_sub-offset.result ≡ reader.total - length left.now - length part.now = omega arith in
    let moved = c.moved.ensures in
    record {
      value = ap (λ n. case_of 0 (codes "record") (n ∷ part.now)) offset ∙ sym (ap due is);
      content = sym (ap content_due is);
      says = c.in_ok-content.ensures.says;
      lies = λ schedule reads. part_lies schedule reader part left reads shorter _ lies.0 offset;
      reads = λ schedule reads. still_reads schedule reader part left reads shorter _ lies.1 moved.rest moved.total;
      rest = ap (λ r. r.now) moved.rest ∙ sym (ap (λ a. left_after a reader.rest.now) is);
      total = moved.total;
      first = moved.first ∙ sym (ap (λ a. first_after a reader.first) is);
    }
