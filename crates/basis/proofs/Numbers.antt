-- A refusal is known by its number. Assumes nothing.
use Rattle.std.proofs.Common.{◌≡◌, ℕ, cond, eqb, Some, None, Option, sym, refl, ap, ◌∙◌}
use Rattle.basis.specs.Refusals.{refusal}
use Rattle.basis.specs.declared.refusal.Refusal.{Refusal}
use Rattle.basis.specs.declared.refusal.Refusal.TheVariants.{OutOfRange, WrongSizes, MaskRaised, NotAway, Away, AlreadyRunning, NotRunning, BadLink, ScheduleTooLong, NoVersionByte, BadRecord}

-- the refusal of a number, tried in order
by_number : ℕ → Option Refusal
by_number n =
    cond (eqb n 1) (Some OutOfRange) (cond (eqb n 2) (Some WrongSizes) (cond (eqb n 3) (Some MaskRaised) (cond (eqb n 4) (Some NotAway)
    (cond (eqb n 5) (Some Away) (cond (eqb n 6) (Some AlreadyRunning) (cond (eqb n 7) (Some NotRunning) (cond (eqb n 8) (Some BadLink)
    (cond (eqb n 9) (Some ScheduleTooLong) (cond (eqb n 10) (Some NoVersionByte) (cond (eqb n 11) (Some BadRecord) None))))))))))

found_again : (r : Refusal) → by_number (refusal r).number ≡ Some r
unfolding by_number
found_again OutOfRange = refl
found_again WrongSizes = refl
found_again MaskRaised = refl
found_again NotAway = refl
found_again Away = refl
found_again AlreadyRunning = refl
found_again NotRunning = refl
found_again BadLink = refl
found_again ScheduleTooLong = refl
found_again NoVersionByte = refl
found_again BadRecord = refl

pub same_number : (r q : Refusal) → (refusal r).number ≡ (refusal q).number → r ≡ q
same_number r q e = let h = sym (found_again r) ∙ ap by_number e ∙ found_again q in cc
