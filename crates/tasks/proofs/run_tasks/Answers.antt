-- The turns go on with the run that the two joins began, and the two leaves end it.
use Rattle.std.proofs.Common.{◌∷◌, [], ◌++◌, map, length, refl, ap, ◌∙◌}
use Rattle.key_types.specs.Wear.{wear_below}
use Rattle.list_law.proofs.Driven.{driven_as}
use Rattle.list.specs.declared.slip.Slip.{Slip}
use Rattle.tasks.specs.Stations.{ask_at, joining, leaving}
use Rattle.tasks.proofs.run_tasks.Goals as goal

pub returns : goal.returns
returns g c =
    let scheme = g.S.Scheme in
    let opened = c.in_ok-station.ensures in
    let seats = opened.seats in
    let lines = c.play.new.lines in
    let played = c.play.ensures in
    let number : Slip → _ = λ s. s.seat in
    let host = ap number played.same.host ∙ seats.0 in
    let cleaner = ap number played.same.cleaner ∙ seats.1 in
    let went = played.plays (length c.args.cells) c.args.window opened.begun.start _ _ opened.begun.cells opened.begun.run in
    let ended = c.close.ensures (length c.args.cells) c.args.window opened.begun.start _ _ (played.same.cells ∙ opened.begun.cells) went.2 in
    record {
      turns = played.turns;
      ran = record {
        opened = _;
        begun = opened.begun;
        seats = seats;
        last = c.play.new.self;
        watched = played.watched;
        answers = went.0;
        shown = went.1;
        run = driven_as wear_below scheme.table scheme.strict scheme.acts (length c.args.cells) c.args.window (λ i. joining c.args.host ∷ joining c.args.cleaner ∷ map (ask_at (seats.0 i) (seats.1 i)) lines) refl went.2;
        whole = driven_as wear_below scheme.table scheme.strict scheme.acts (length c.args.cells) c.args.window (λ i. joining c.args.host ∷ joining c.args.cleaner ∷ (map (ask_at (seats.0 i) (seats.1 i)) lines ++ leaving (cleaner i) ∷ leaving (host i) ∷ [])) refl ended;
      };
    }
