use Rattle.std.proofs.Common.{sym, ap, rules}
use Rattle.basis.specs.Answers.{answer}
use Rattle.std.proofs.lemmas.List.{length-map}
use Rattle.keys.specs.Total.{Total}
use Rattle.list_law.proofs.Continued.{continues}
use Rattle.list_cells.specs.Views.{cell_of}
use Rattle.list_window.specs.Rows.{row_of}
use Rattle.list_window.specs.Turns.{what_of}
use Rattle.list_window.specs.Lent.{lent_state}
use Rattle.list.specs.Calls.{call_on}
use Rattle.list.proofs.Effects.{did_refuse, did_perform}
use Rattle.list.proofs.call.make_call.Goals as goal

pub returns-in-Err-clause-called : goal.returns-in-Err-clause-called
returns-in-Err-clause-called g c =
    let key = g.met.K.Key in
    let order : Total g.K.Key.below = key.order in
    let index = c.args.index.now in
    let lent = lent_state index in
    let call = call_on index (what_of c.args.request) c.args.seat c.args.mask.now.level in
    let did = did_refuse g.K.Key.below g.S.Scheme.table g.S.Scheme.strict g.S.Scheme.acts lent call c.in-Err.refusal c.in-Err.ensures in
    record {
      did = did;
      case = ap answer did.answer;
      runs = continues g.K.Key.below order g.S.Scheme.table g.S.Scheme.strict g.S.Scheme.acts lent call _ lent (sym (length-map index.cells.now cell_of)) (sym (length-map index.rows.now row_of)) did;
      same = search rules;
    }

pub returns-clause-called : goal.returns-clause-called
returns-clause-called g c =
    let key = g.met.K.Key in
    let order : Total g.K.Key.below = key.order in
    let index = c.args.index.now in
    let lent = lent_state index in
    let call = call_on index (what_of c.args.request) c.args.seat c.args.mask.now.level in
    let did = did_perform g.K.Key.below g.S.Scheme.table g.S.Scheme.strict g.S.Scheme.acts lent call c.in-Ok.taken.number c.in-Ok.ensures.0 c.in-Ok.ensures.1.2 c.perform.ensures.applied in
    record {
      did = did;
      case = ap answer did.answer;
      runs = continues g.K.Key.below order g.S.Scheme.table g.S.Scheme.strict g.S.Scheme.acts lent call _ _ (sym (length-map index.cells.now cell_of)) (sym (length-map index.rows.now row_of)) did;
      same = c.perform.ensures.same;
    }
