-- An index with two tasks at it. Assumes nothing.
use Rattle.std.specs.Prelude.{◌≡◌, ℕ, Bool, not, List, [], ◌∷◌, ◌++◌, map, length, Some, Option, ◌==◌, nat_lt}
use Rattle.std.specs.Option.{option_map}
use Rattle.basis.specs.declared.refusal.Refusal.{Refusal}
use Rattle.basis.specs.declared.refusal.Refusal.TheVariants.{OutOfRange, WrongSizes, NotAway}
use Rattle.basis.specs.declared.answer.Answer.{Answer}
use Rattle.key_types.specs.Wear.{wear_below}
use Rattle.list_law.specs.Performed.{Ask}
use Rattle.list_law.specs.Driven.{Driven}
use Rattle.key_types.specs.declared.wear.Wear.{Wear}
use Rattle.ledger.specs.Tests.{test, first}
use Rattle.ledger.specs.Ledger.{What, Call, join, leave}
use Rattle.list_cells.specs.declared.cell.Cell.{Cell}
use Rattle.list_cells.specs.Views.{cell_of}
use Rattle.list_law.specs.Call.{State, reach}
use Rattle.list_law.specs.Making.{makes, Makes}
use Rattle.list_window.specs.Applied.{state_of}
use Rattle.list.specs.Calls.{call_of}
use Rattle.tasks.specs.declared.station.Closed.{Closed}
use Rattle.tasks.specs.declared.station.Station.{Station}
use Rattle.marks.specs.Meaning.{Table, Order}
use Rattle.marks.specs.Marks.{numbered}
use Rattle.tasks.specs.declared.turn.Line.{Line}
use Rattle.tasks.specs.declared.turn.Marks.{Marks}
use Rattle.tasks.specs.declared.turn.Seen.{Seen}
use Rattle.tasks.specs.declared.turn.Task.{Task}
use Rattle.tasks.specs.declared.turn.Turn.{Turn}
use Rattle.tasks.specs.Turns.{what_asked, seat_by, Called}

-- what the index keeps
abbrev pub state : {S : Type 0} → Station S → State Wear S
state d = state_of d.cells d.rows d.anchor d.scheme

-- what it keeps once both tasks have left
abbrev pub closed_state : {S : Type 0} → Closed S → State Wear S
closed_state e = state_of e.cells e.rows e.anchor e.scheme

-- the seat of a task, by its slip
abbrev pub seat : {S : Type 0} → Station S → Task → ℕ
seat d t = seat_by d.host.seat d.cleaner.seat t

-- the call of a turn, at the mask level of the station
abbrev pub call : {S : Type 0} → Station S → Turn → Call Wear
call d t = call_of (what_asked t.ask) (seat d t.task) d.mask.level d.cells d.rows

-- the marks of both tasks, as the scheme has them
pub record Marked {S : Type 0} (table : S → Table) (d : Station S) (m : Marks) : Type 0 where
  pub host : numbered m.host ≡ table d.scheme d.host.seat
  pub cleaner : numbered m.cleaner ≡ table d.scheme d.cleaner.seat

-- the slips stay, and the number of cells
pub record SameStation {S : Type 0} (d d' : Station S) : Type 0 where
  pub host : d'.host ≡ d.host
  pub cleaner : d'.cleaner ≡ d.cleaner
  pub cells : length d'.cells ≡ length d.cells

-- how many cells the next window of a task may meet
abbrev pub reach_in : {S : Type 0} → (S → Table) → Station S → Task → ℕ
reach_in table d t = reach (seat d t) d.anchor.window (table d.scheme (seat d t))

-- a line shows its turn, which led from d to d': the answer of its call, the marks before and after, how many cells the task's next window
-- might meet before, and the cells and the head afterwards
pub record Watched {S : Type 0} (table : S → Table) (strict : Bool) (acts : Order → S → S → Type 0) (d : Station S) (l : Line) (d' : Station S) : Type 0 where
  pub seen : Seen
  pub shown : l.seen ≡ Some seen
  pub called : Called table strict acts (state d) (call d l.turn) seen.answer (state d')
  pub before : Marked table d seen.before
  pub width : seen.width ≡ reach_in table d l.turn.task
  pub after : Marked table d' seen.after
  pub cells : seen.cells ≡ d'.cells
  pub head : seen.head ≡ d'.anchor.head
  pub same : SameStation d d'

-- the same for these lines, whose turns led from d to d' one after another
abbrev pub Watches : {S : Type 0} → (S → Table) → Bool → (Order → S → S → Type 0) → Station S → List Line → Station S → Type 0
Watches table strict acts d [] d' = d' ≡ d
Watches {S} table strict acts d (l ∷ ls) d' = (e : Station S) × Watched table strict acts d l e × Watches table strict acts e ls d'

-- what is asked in a line, by host and cleaner at these seats
abbrev pub ask_at : ℕ → ℕ → Line → Ask Wear
ask_at h k l = record { seat = seat_by h k l.turn.task; level = 0; what = what_asked l.turn.ask }

-- the same, at the seats of their slips
abbrev pub ask_in : {S : Type 0} → Station S → Line → Ask Wear
ask_in d = ask_at d.host.seat d.cleaner.seat

-- the answer that was seen of a turn, if it was taken
abbrev pub answer_in : Line → Option Answer
answer_in l = option_map (λ (s : Seen). s.answer) l.seen

-- from d to d' the turns of these lines were taken, one after another: whatever lawful run led to d, the run with these calls, and with
-- the answers that the lines show, leads to d' and is lawful
abbrev pub Plays : {S : Type 0} → (S → Table) → Bool → (Order → S → S → Type 0) → Station S → List Line → Station S → Type 0
Plays {S} table strict acts d ls d' =
    (n w : ℕ) (start : State Wear S) (asks : List (Ask Wear)) (answers : List Answer) → length d.cells ≡ n → Driven wear_below table strict acts n w start asks answers (state d) →
    (new : List Answer) × (map answer_in ls ≡ map Some new) × Driven wear_below table strict acts n w start (asks ++ map (ask_in d) ls) (answers ++ new) (state d')

-- a call of seat t, at mask level 0: a join, and a leave
abbrev pub unmasked : ℕ → What Wear → Ask Wear
unmasked t what = record { seat = t; level = 0; what = what }

abbrev pub joining : ℕ → Ask Wear
joining t = unmasked t join

abbrev pub leaving : ℕ → Ask Wear
leaving t = unmasked t leave

-- the cleaner and then the host left, and both leaves were accepted: whatever lawful run led to d, the run with these two calls leads to e
-- and is lawful
abbrev pub BothLeave : {S : Type 0} → (S → Table) → Bool → (Order → S → S → Type 0) → Station S → Closed S → Type 0
BothLeave {S} table strict acts d e =
    (n w : ℕ) (start : State Wear S) (asks : List (Ask Wear)) (answers : List Answer) → length d.cells ≡ n → Driven wear_below table strict acts n w start asks answers (state d) →
    Driven wear_below table strict acts n w start (asks ++ leaving d.cleaner.seat ∷ leaving d.host.seat ∷ []) (answers ++ Answer.Ok ∷ Answer.Ok ∷ []) (closed_state e)

-- why no station is opened over n cells with window w for host and cleaner at these seats, if one is not: the refusal of the making, of
-- the host's join or of the cleaner's
abbrev pub not_opened : ℕ → ℕ → ℕ → ℕ → Option Refusal
not_opened n w h k =
    first (test (not (makes n 16 w)) WrongSizes ∷ test (not (nat_lt h 16)) OutOfRange ∷ test (not (nat_lt k 16)) OutOfRange ∷ test (k == h) NotAway ∷ [])

-- a station over the given cells and scheme with window w, just opened: two accepted joins after a making
pub record Begun {S : Type 0} (table : S → Table) (strict : Bool) (acts : Order → S → S → Type 0) (given : List (Cell Wear)) (scheme : S) (w h k : ℕ) (d : Station S) : Type 0 where
  pub cells : length d.cells ≡ length given
  pub lent : State Wear S
  pub of_cells : lent.cells ≡ map cell_of given
  pub of_scheme : lent.marks ≡ scheme
  pub start : State Wear S
  pub made : Makes wear_below table strict acts lent w Answer.Ok start
  pub run : Driven wear_below table strict acts (length given) w start (joining h ∷ joining k ∷ []) (Answer.Ok ∷ Answer.Ok ∷ []) (state d)

-- host and cleaner joined an index over the given cells and scheme with window w at these seats, took the turns of these lines, each of
-- which shows its turn, and left, and this is what the index then kept: the answers are those of a lawful run of exactly these calls
pub record RanTasks {S : Type 0} (table : S → Table) (strict : Bool) (acts : Order → S → S → Type 0) (given : List (Cell Wear)) (scheme : S) (w h k : ℕ) (ls : List Line) (end : Closed S) : Type 0 where
  pub opened : Station S
  pub begun : Begun table strict acts given scheme w h k opened
  pub seats : (opened.host.seat ≡ h) × (opened.cleaner.seat ≡ k)
  pub last : Station S
  pub watched : Watches table strict acts opened ls last
  pub answers : List Answer
  pub shown : map answer_in ls ≡ map Some answers
  -- up to the last turn, and with both leaves
  pub run : Driven wear_below table strict acts (length given) w begun.start (joining h ∷ joining k ∷ map (ask_at h k) ls) (Answer.Ok ∷ Answer.Ok ∷ answers) (state last)
  pub whole : Driven wear_below table strict acts (length given) w begun.start (joining h ∷ joining k ∷ (map (ask_at h k) ls ++ leaving k ∷ leaving h ∷ [])) (Answer.Ok ∷ Answer.Ok ∷ (answers ++ Answer.Ok ∷ Answer.Ok ∷ [])) (closed_state end)
