-- Each turn is one more of the run.
use Rattle.std.proofs.Common.{take, sym, refl, ap, ◌∙◌, subst, arith}
use Rattle.std.proofs.lemmas.List.{take_all, take_more_set}
use Rattle.tasks.specs.declared.turn.Line.{Line}
use Rattle.tasks.specs.Stations.{Watches, Plays}
use Rattle.tasks.proofs.Plays.{plays_none, plays_more, watches_more, turns_stay}
use Rattle.tasks.proofs.station.Station.play.Goals as goal

pub loop-line-init : goal.loop-line-init
loop-line-init g c = record {
  same = record { host = refl; cleaner = refl; cells = refl };
  plays = plays_none g.S.Scheme.table g.S.Scheme.strict g.S.Scheme.acts c.args.self.now;
  watched = refl;
  turns = refl;
}

pub loop-line-preserved : goal.loop-line-preserved
loop-line-preserved g c =
    let scheme = g.S.Scheme in
    let so_far = c.loop-line.invariant in
    let seen = c.watch.ensures in
    let d = c.args.self.now in
    let at = c.loop-line.line-index in
    let lines = c.loop-line.lines in
    let more = sym (take_more_set lines at _ (omega arith)) in
    record {
      same = record { host = seen.same.host ∙ so_far.same.host; cleaner = seen.same.cleaner ∙ so_far.same.cleaner; cells = seen.same.cells ∙ so_far.same.cells };
      plays = subst (λ ls. Plays scheme.table scheme.strict scheme.acts d ls c.watch.new.self) more
          (plays_more scheme.table scheme.strict scheme.acts d (take at lines) c.loop-line.self c.watch.new.self _ c.watch.result so_far.same so_far.plays seen.called);
      watched = subst (λ ls. Watches scheme.table scheme.strict scheme.acts d ls c.watch.new.self) more
          (watches_more scheme.table scheme.strict scheme.acts d (take at lines) c.loop-line.self _ c.watch.new.self so_far.watched (record { seen = c.watch.result; shown = refl; called = seen.called; before = seen.before; width = seen.width; after = seen.after; cells = seen.cells; head = seen.head; same = seen.same }));
      turns = turns_stay lines at c.line-item.result _ (omega arith) c.line-item.is (ap (λ (l : Line). l.turn) (sym c.line-item.is)) ∙ so_far.turns;
    }

pub returns-clause-watched : goal.returns-clause-watched
returns-clause-watched g c = rw (sym (take_all c.loop-line.line-index c.loop-line.lines (omega arith))) c.loop-line.invariant.watched

pub returns-clause-plays : goal.returns-clause-plays
returns-clause-plays g c = rw (sym (take_all c.loop-line.line-index c.loop-line.lines (omega arith))) c.loop-line.invariant.plays
