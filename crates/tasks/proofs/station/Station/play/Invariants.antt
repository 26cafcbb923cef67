use Rattle.std.proofs.Common.{◌≡◌, map, take}
use Rattle.tasks.specs.declared.turn.Line.{Line}
use Rattle.tasks.specs.Stations.{SameStation, Watches, Plays}
use Rattle.tasks.proofs.station.Station.play.Given as goal

-- the turns so far are taken, and all lines have their turns
abbrev pub invariant-loop-line : goal.invariant-loop-line
invariant-loop-line g l = record {
  same : SameStation l.initial.self l.self;
  plays : Plays g.S.Scheme.table g.S.Scheme.strict g.S.Scheme.acts l.initial.self (take l.line-index l.lines) l.self;
  watched : Watches g.S.Scheme.table g.S.Scheme.strict g.S.Scheme.acts l.initial.self (take l.line-index l.lines) l.self;
  turns : map (λ (x : Line). x.turn) l.lines ≡ map (λ (x : Line). x.turn) l.initial.lines;
}
