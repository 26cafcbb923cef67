-- What a task asks, and what a call by a task does. Assumes nothing.
use Rattle.std.specs.Prelude.{Bool, ℕ, List, None, Option, codes}
use Rattle.basis.specs.declared.bounded.Bounded.{Bounded}
use Rattle.basis.specs.declared.answer.Answer.{Answer}
use Rattle.key_types.specs.declared.wear.Wear.{Wear}
use Rattle.key_types.specs.Wear.{wear_below}
use Rattle.marks.specs.Meaning.{Table, Order}
use Rattle.ledger.specs.Ledger.{What, begin, step, abandon, Call}
use Rattle.list_law.specs.Call.{State, Did}
use Rattle.list_law.specs.Continued.{Continues}
use Rattle.tasks.specs.declared.turn.Ask.{Ask}
use Rattle.tasks.specs.declared.turn.Ask.TheVariants as ask
use Rattle.tasks.specs.declared.turn.Line.{Line}
use Rattle.tasks.specs.declared.turn.Marks.{Marks}
use Rattle.tasks.specs.declared.turn.Task.{Task}
use Rattle.tasks.specs.declared.turn.Task.TheVariants.{Host, Cleaner}

-- what is asked
abbrev pub what_asked : Ask → What Wear
what_asked (ask.Begin k x) = begin k x
what_asked ask.Step = step
what_asked ask.Abandon = abandon

-- a call on wear keys led from s to s' with this answer, and the run goes on with it and is lawful: what CalledOn says of an index, said of its states
pub record Called {M : Type 0} (table : M → Table) (strict : Bool) (acts : Order → M → M → Type 0) (s : State Wear M) (c : Call Wear) (a : Answer) (s' : State Wear M) : Type 0 where
  pub did : Did wear_below table strict acts s c a s'
  pub runs : Continues wear_below table strict acts s c a s'

-- a line whose turn is not yet taken
abbrev pub untaken : Task → Ask → Line
untaken t a = record { turn = record { task = t; ask = a }; seen = None }

-- the seat of a task, by the seats of host and cleaner
abbrev pub seat_by : ℕ → ℕ → Task → ℕ
seat_by h k Host = h
seat_by h k Cleaner = k

-- the mark of a task
abbrev pub mark_by : Marks → Task → Option (Bounded 1008)
mark_by m Host = m.host
mark_by m Cleaner = m.cleaner

-- the task that is not this one
abbrev pub other_task : Task → Task
other_task Host = Cleaner
other_task Cleaner = Host

-- the word of a task, in ASCII
abbrev pub task_word : Task → List ℕ
task_word Host = codes "host"
task_word Cleaner = codes "cleaner"
