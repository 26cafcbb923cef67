-- What a record says: how it is told, how it is written, and what its bytes say. Assumes nothing.
use Rattle.std.specs.Prelude.{ℕ, ◌+◌, ◌*◌, ◌/◌, ◌%◌, ◌^◌, ◌<◌, Bool, true, false, cond, List, [], ◌∷◌, ◌++◌, length, Some, None, codes, decimal, Option, ◌==◌}
use Rattle.std.specs.Option.{option_map}
use Rattle.basis.specs.Cases.{Case, case_of}
use Rattle.basis.specs.declared.kind.Kind.TheVariants.{Lookup, Insert, Remove}
use Rattle.records.specs.declared.record.SchemeName.{SchemeName}
use Rattle.records.specs.declared.record.SchemeName.TheVariants.{Full, Owner, Version}
use Rattle.records.specs.declared.record.Record.{Record}
use Rattle.records.specs.declared.record.Record.TheVariants.{Setup, Join, Leave, Begin, Step, Abandon}

-- the schemes: number and word of each; none carries a value
abbrev pub scheme : SchemeName → Case
scheme Full = case_of 1 (codes "full") []
scheme Owner = case_of 2 (codes "owner") []
scheme Version = case_of 3 (codes "version") []

-- the records: number (the call byte), word and values of each
abbrev pub said : Record → Case
said (Setup s cells window) = case_of 0 (codes "setup") ((scheme s).number ∷ cells ∷ window ∷ [])
said (Join seat) = case_of 1 (codes "join") (seat ∷ [])
said (Leave seat) = case_of 2 (codes "leave") (seat ∷ [])
said (Begin Lookup seat sector) = case_of 3 (codes "begin lookup") (seat ∷ sector ∷ [])
said (Begin Insert seat sector) = case_of 4 (codes "begin insert") (seat ∷ sector ∷ [])
said (Begin Remove seat sector) = case_of 5 (codes "begin remove") (seat ∷ sector ∷ [])
said (Step seat) = case_of 6 (codes "step") (seat ∷ [])
said (Abandon seat) = case_of 7 (codes "abandon") (seat ∷ [])

-- a comma, a name and a number
abbrev pub named : List ℕ → ℕ → List ℕ
named name n = codes ", " ++ (name ++ 32 ∷ decimal n)

-- what stands behind a record's word, for a person: each value after its name, and a setup's scheme before them
abbrev pub details : Record → List ℕ
details (Setup s cells window) = 32 ∷ ((scheme s).word ++ (named (codes "cells") cells ++ named (codes "window") window))
details (Join seat) = named (codes "seat") seat
details (Leave seat) = named (codes "seat") seat
details (Begin k seat sector) = named (codes "seat") seat ++ named (codes "sector") sector
details (Step seat) = named (codes "seat") seat
details (Abandon seat) = named (codes "seat") seat

-- a record, for a person
abbrev pub described : Record → List ℕ
described r = (said r).word ++ details r

-- whether a record is a setup, which has to be the first record and no other
abbrev pub is_setup : Record → Bool
is_setup (Setup s cells window) = true
is_setup (Join seat) = false
is_setup (Leave seat) = false
is_setup (Begin k seat sector) = false
is_setup (Step seat) = false
is_setup (Abandon seat) = false

-- a number in one byte, in two and in four, the highest first, and back
abbrev pub one : ℕ → List ℕ
one n = n ∷ []

abbrev pub two : ℕ → List ℕ
two n = n / 256 ∷ n % 256 ∷ []

abbrev pub four : ℕ → List ℕ
four n = two (n / 65536) ++ two (n % 65536)

abbrev pub from_two : ℕ → ℕ → ℕ
from_two h l = h * 256 + l

abbrev pub from_four : ℕ → ℕ → ℕ → ℕ → ℕ
from_four a b c d = a * 16777216 + b * 65536 + c * 256 + d

-- the bytes that each value of a record has, in the order of its values
abbrev pub forms : Record → List (ℕ → List ℕ)
forms (Setup s cells window) = one ∷ two ∷ one ∷ []
forms (Join seat) = one ∷ []
forms (Leave seat) = one ∷ []
forms (Begin k seat sector) = one ∷ four ∷ []
forms (Step seat) = one ∷ []
forms (Abandon seat) = one ∷ []

-- values one after another, each in its bytes
abbrev pub in_forms : List (ℕ → List ℕ) → List ℕ → List ℕ
in_forms [] vs = []
in_forms (f ∷ fs) [] = []
in_forms (f ∷ fs) (v ∷ vs) = f v ++ in_forms fs vs

-- the bytes of a record from its call byte on: its number, and then its values
abbrev pub fields : Record → List ℕ
fields r = (said r).number ∷ in_forms (forms r) (said r).values

-- the written form: the length of the fields in two bytes, then the fields
abbrev pub written : Record → List ℕ
written r = two (length (fields r)) ++ fields r

-- a record that can be written: each number fits the bytes that it has
abbrev pub Fits : Record → Type 0
Fits (Setup s cells window) = (cells < 2 ^ 16) × (window < 2 ^ 8)
Fits (Join seat) = seat < 2 ^ 8
Fits (Leave seat) = seat < 2 ^ 8
Fits (Begin k seat sector) = (seat < 2 ^ 8) × (sector < 2 ^ 32)
Fits (Step seat) = seat < 2 ^ 8
Fits (Abandon seat) = seat < 2 ^ 8

-- the scheme of that number, if there is one
abbrev pub scheme_named : ℕ → Option SchemeName
scheme_named n = cond (n == 1) (Some Full) (cond (n == 2) (Some Owner) (cond (n == 3) (Some Version) None))

-- a call byte and a seat
abbrev pub seat_call : ℕ → ℕ → Option Record
seat_call c seat = cond (c == 1) (Some (Join seat)) (cond (c == 2) (Some (Leave seat)) (cond (c == 6) (Some (Step seat)) (cond (c == 7) (Some (Abandon seat)) None)))

-- a call byte, a scheme, a number of cells and a window
abbrev pub setup_call : ℕ → ℕ → ℕ → ℕ → Option Record
setup_call c s cells window = cond (c == 0) (option_map (λ named. Setup named cells window) (scheme_named s)) None

-- a call byte, a seat and a sector
abbrev pub begin_call : ℕ → ℕ → ℕ → Option Record
begin_call c seat sector = cond (c == 3) (Some (Begin Lookup seat sector)) (cond (c == 4) (Some (Begin Insert seat sector)) (cond (c == 5) (Some (Begin Remove seat sector)) None))

-- what bytes say, from the call byte on; the number of bytes and the call byte have to fit together
abbrev pub decoded : List ℕ → Option Record
decoded [] = None
decoded (c ∷ []) = None
decoded (c ∷ seat ∷ []) = seat_call c seat
decoded (c ∷ seat ∷ x ∷ []) = None
decoded (c ∷ seat ∷ x ∷ y ∷ []) = None
decoded (c ∷ s ∷ high ∷ low ∷ window ∷ []) = setup_call c s (from_two high low) window
decoded (c ∷ seat ∷ x3 ∷ x2 ∷ x1 ∷ x0 ∷ []) = begin_call c seat (from_four x3 x2 x1 x0)
decoded (c ∷ seat ∷ x3 ∷ x2 ∷ x1 ∷ x0 ∷ x ∷ xs) = None
