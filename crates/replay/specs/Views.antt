-- What the code's values are to the definitions. Assumes nothing.
use Rattle.std.specs.Prelude.{◌≡◌, ℕ, List, [], ◌∷◌, map, Some, None, Option, vec_items}
use Rattle.basis.specs.declared.refusal.Refusal.{Refusal}
use Rattle.basis.specs.declared.answer.Answer.{Answer}
use Rattle.basis.specs.declared.answer.Answer.TheVariants.{Refused}
use Rattle.key_types.specs.declared.sector.Sector.{Sector}
use Rattle.list_driver.specs.declared.driver.Ask as declared
use Rattle.list_driver.specs.Asks.{ask_of}
use Rattle.list_law.specs.Performed.{Ask}
use Rattle.schedule.specs.Schedules.{read_all}
use Rattle.replay.specs.declared.calls.Calls.{Calls}
use Rattle.replay.specs.Answers.{asks_of, setup_of}
use Rattle.replay.specs.Texts.{stopped, stop_at}

-- what is asked, if anything is
abbrev pub listed_ask : Option (declared.Ask Sector) → List (Ask Sector)
listed_ask None = []
listed_ask (Some k) = ask_of k ∷ []

-- the answer that a refusal is, if there is one
abbrev pub refused_by : Option Refusal → List Answer
refused_by None = []
refused_by (Some r) = Refused r ∷ []

-- what was read of a schedule: its first record, what the records ask, and how reading ended
pub record Says (bytes : List ℕ) (c : Calls) : Type 0 where
  pub setup : c.setup ≡ setup_of (read_all bytes).entries
  pub asks : map ask_of (vec_items c.asks) ≡ asks_of (read_all bytes).entries
  pub stop : refused_by c.stop ≡ stopped (stop_at bytes)
