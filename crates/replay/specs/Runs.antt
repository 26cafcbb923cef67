-- What is promised of the calls of a schedule: they are a lawful run over the scheme that the setup names. Assumes nothing.
use Rattle.std.specs.Prelude.{◌≡◌, ℕ, Bool, true, false, List, length}
use Rattle.basis.specs.declared.answer.Answer.{Answer}
use Rattle.key_types.specs.declared.sector.Sector.{Sector}
use Rattle.schemes.specs.declared.full.Full as full
use Rattle.schemes.specs.declared.owner.Owner as owner
use Rattle.schemes.specs.declared.version.Version as version
use Rattle.marks.specs.Meaning.{Table, Order, Along}
use Rattle.schemes.specs.Full.{full_state, full_new, full_act, full_get}
use Rattle.schemes.specs.Owner.{owner_state, owner_new, owner_act, owner_get}
use Rattle.schemes.specs.Version.{version_state, version_new, version_act, version_get}
use Rattle.marks.specs.Carried.{ActsBy}
use Rattle.list_law.specs.Call.{Cell, State, Obeys}
use Rattle.list_law.specs.Making.{makes, releases, made_of}
use Rattle.list_law.specs.Performed.{Ask}
use Rattle.list_law.specs.Driven.{Driven}
use Rattle.key_types.specs.Sector.{sector_below}
use Rattle.records.specs.declared.record.SchemeName.{SchemeName}
use Rattle.records.specs.declared.record.SchemeName.TheVariants.{Full, Owner, Version}
use Rattle.replay.specs.Answers.{blank, answers_by}

-- an index was made over the given cells with window w, over a scheme that was m before, and these calls were run on it with these answers
pub record MadeAndRun {M : Type 0} (table : M → Table) (strict : Bool) (acts : Order → M → M → Type 0) (given : List (Cell Sector)) (w : ℕ) (m : M) (asks : List (Ask Sector)) (answers : List Answer) : Type 0 where
  pub start : State Sector M
  pub end : State Sector M
  -- the making: what it leaves, with all sixteen marks released
  pub made : start ≡ made_of given w start.marks
  pub released : Along (Obeys table strict acts) releases m start.marks
  -- the calls: each as it is defined, and all of them a lawful run
  pub driven : Driven sector_below table strict acts (length given) w start asks answers end

-- these answers to these calls are those of a lawful run from an accepted making of n cells with window w, over the code's own scheme,
-- which is as new before the making
abbrev pub LawfulBy : SchemeName → ℕ → ℕ → List (Ask Sector) → List Answer → Type 0
LawfulBy Full n w asks answers =
    (m : full.Full) × (full_state m ≡ full_new) × MadeAndRun (λ (s : full.Full). full_get (full_state s)) true (ActsBy full_state full_act) (blank n) w m asks answers
LawfulBy Owner n w asks answers =
    (m : owner.Owner) × (owner_state m ≡ owner_new) × MadeAndRun (λ (s : owner.Owner). owner_get (owner_state s)) false (ActsBy owner_state owner_act) (blank n) w m asks answers
LawfulBy Version n w asks answers =
    (m : version.Version) × (version_state m.kept ≡ version_new 0) × MadeAndRun (λ (s : version.Version). version_get (version_state s.kept)) false (ActsBy (λ (s : version.Version). version_state s.kept) version_act) (blank n) w m asks answers

-- the calls of a schedule are answered as computed, and lawfully
pub record Answered (name : SchemeName) (n w : ℕ) (asks : List (Ask Sector)) (answers : List Answer) : Type 0 where
  pub sizes : makes n 16 w ≡ true
  pub computed : answers ≡ answers_by name n w asks
  pub lawful : LawfulBy name n w asks answers
