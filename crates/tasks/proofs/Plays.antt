-- One turn more. Assumes nothing.
use Rattle.std.proofs.Common.{◌≡◌, ℕ, ◌<◌, Bool, List, [], ◌∷◌, ◌++◌, map, length, get_or, set, Some, sym, refl, ap, ◌∙◌, subst, append_assoc, append-nil}
use Rattle.std.proofs.lemmas.List.{map_push, length-map, map-set, get_or-map, set-get_or}
use Rattle.basis.specs.declared.answer.Answer.{Answer}
use Rattle.key_types.specs.Wear.{wear_below}
use Rattle.marks.specs.Meaning.{Table, Order}
use Rattle.list_law.specs.Performed.{called}
use Rattle.list_law.specs.Driven as driven
use Rattle.list_law.specs.Driven.{Driven}
use Rattle.list_law.proofs.Driven.{driven_more, driven_as}
use Rattle.list_cells.specs.Views.{cell_of}
use Rattle.list_window.specs.Rows.{row_of}
use Rattle.list.specs.declared.slip.Slip.{Slip}
use Rattle.tasks.specs.declared.station.Station.{Station}
use Rattle.tasks.specs.declared.turn.Line.{Line}
use Rattle.tasks.specs.declared.turn.Seen.{Seen}
use Rattle.tasks.specs.declared.turn.Task.{Task}
use Rattle.tasks.specs.declared.turn.Task.TheVariants.{Host, Cleaner}
use Rattle.tasks.specs.declared.turn.Turn.{Turn}
use Rattle.tasks.specs.Turns.{what_asked, Called}
use Rattle.tasks.specs.Stations.{state, seat, call, SameStation, Watched, Watches, ask_in, answer_in, Plays}

module _ {S : Type 0} (table : S → Table) (strict : Bool) (acts : Order → S → S → Type 0) (d : Station S) where
  pub plays_none : Plays table strict acts d [] d
  plays_none n w start asks answers long run = ([], refl, driven_as wear_below table strict acts n w (sym (append-nil asks)) (sym (append-nil answers)) run)

  -- a line with a turn and what was seen of it
  abbrev pub line : Turn → Seen → Line
  line t s = record { turn = t; seen = Some s }

  seat_same : (d' : Station S) → SameStation d d' → (t : Task) → seat d' t ≡ seat d t
  seat_same d' same Host = ap (λ (s : Slip). s.seat) same.host
  seat_same d' same Cleaner = ap (λ (s : Slip). s.seat) same.cleaner

  pub plays_more : (ls : List Line) (d' d'' : Station S) (t : Turn) (s : Seen) → SameStation d d' → Plays table strict acts d ls d' → Called table strict acts (state d') (call d' t) s.answer (state d'') → Plays table strict acts d (ls ++ line t s ∷ []) d''
  plays_more ls d' d'' t s same plays made n w start asks answers long run =
      let before = plays n w start asks answers long run in
      let new : List Answer = before.0 in
      let sixteen = sym (length-map d'.rows row_of) ∙ d'.manned.host.rows in
      let is : call d' t ≡ driven.call_asked n (ask_in d (line t s)) =
      λ i. record { what = what_asked t.ask; seat = seat_same d' same t.task i; level = d'.manned.level i; cells = (same.cells ∙ long) i; rows = sixteen i } in
      let own : call d' t ≡ called (state d') (ask_in d (line t s)) =
      λ i. record { what = what_asked t.ask; seat = seat_same d' same t.task i; level = d'.manned.level i; cells = sym (length-map d'.cells cell_of) i; rows = sym (length-map d'.rows row_of) i } in
      let more = driven_more wear_below table strict acts n w start _ _ (state d') (ask_in d (line t s)) (call d' t) s.answer (state d'') is own before.2 made.did made.runs in (
        new ++ s.answer ∷ [],
        map_push answer_in ls (line t s) ∙ ap (λ l. l ++ Some s.answer ∷ []) before.1 ∙ sym (map_push Some new s.answer),
        driven_as wear_below table strict acts n w (append_assoc asks (map (ask_in d) ls) (ask_in d (line t s) ∷ []) ∙ ap (λ l. asks ++ l) (sym (map_push (ask_in d) ls (line t s)))) (append_assoc answers new (s.answer ∷ [])) more,
      )

-- a line that shows its turn, after those before it
pub watches_more : {S : Type 0} (table : S → Table) (strict : Bool) (acts : Order → S → S → Type 0) (d : Station S) (ls : List Line) (d' : Station S) (l : Line) (d'' : Station S)
    → Watches table strict acts d ls d' → Watched table strict acts d' l d'' → Watches table strict acts d (ls ++ l ∷ []) d''
watches_more table strict acts d [] d' l d'' e more = (d'', subst (λ x. Watched table strict acts x l d'') e more, refl)
watches_more table strict acts d (k ∷ ls) d' l d'' (e, first, rest) more = (e, first, watches_more table strict acts e ls d' l d'' rest more)

-- a line that is written again with its turn
pub turns_stay : (lines : List Line) (i : ℕ) (x y : Line) → i < length lines → x ≡ get_or lines i x → y.turn ≡ x.turn → map (λ (l : Line). l.turn) (set lines i y) ≡ map (λ (l : Line). l.turn) lines
turns_stay lines i x y h is e =
    let turn : Line → Turn = λ l. l.turn in
    map-set turn lines i y ∙ ap (λ t. set (map turn lines) i t) (e ∙ ap turn is ∙ sym (get_or-map turn lines i x x.turn h)) ∙ set-get_or (map turn lines) i x.turn
