-- The values of each scheme as its code makes them, and what it is that runs are there over a scheme. An array of sixteen entries is a
-- list, and no type says how long a list is. Assumes nothing.
use Rattle.std.specs.Prelude.{ℕ, Bool, ◌&&◌, length, ◌==◌}
use Rattle.marks.specs.Meaning.{Table, Order}
use Rattle.schemes.specs.declared.full.Full.{Full}
use Rattle.schemes.specs.declared.owner.Owner.{Owner}
use Rattle.schemes.specs.declared.version.Version.{Version}
use Rattle.schemes.specs.declared.pair.Pair.{Pair}
use Rattle.list_law.specs.Existence.{Able, Runs}

-- sixteen marks
abbrev pub full_formed : Full → Bool
full_formed s = length s.marks == 16

-- sixteen marks, and the owners of sixteen slots
abbrev pub owner_formed : Owner → Bool
owner_formed s = length s.marks == 16 && length s.owners == 16

-- sixteen marks, and the counters of sixteen slots
abbrev pub version_formed : Version → Bool
version_formed s = length s.kept.marks == 16 && length s.kept.counters == 16

-- both of the two are formed
abbrev pub pair_formed : {F S : Type 0} → (F → Bool) → (S → Bool) → Pair F S → Bool
pair_formed first second x = first x.first && second x.second

-- runs are there over a scheme: it can carry out its orders, and so they begin and go on
pub record ThereAreRuns {K M : Type 0} (below : K → K → Bool) (table : M → Table) (strict : Bool) (acts : Order → M → M → Type 0)
    (formed : M → Bool) (most widest : ℕ) : Type 0 where
  pub able : Able table strict acts formed
  pub runs : Runs below table strict acts formed most widest
