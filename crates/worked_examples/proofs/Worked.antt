-- The worked runs on three cells, computed. Assumes nothing.
use Rattle.std.proofs.Common.{◌≡◌, ℕ, ◌≤◌, true, cond, List, [], ◌∷◌, ◌++◌, length, Some, None, refl, ◌∙◌, subst, append-nil, arith, length-set}
use Rattle.std.proofs.lemmas.List.{get_or-replicate, length-map}
use Rattle.key_types.specs.declared.sector.Sector.{Sector}
use Rattle.key_types.specs.Sector.{sector_below}
use Rattle.marks.specs.Meaning.{Order, release, reserve, revoke, Along, Seated}
use Rattle.marks.specs.Carried.{carried}
use Rattle.schemes.specs.Clearing.{names}
use Rattle.schemes.specs.Full.{full_act, full_get}
use Rattle.schemes.proofs.FullLaws.{meant}
use Rattle.ledger.specs.Ledger.{reply}
use Rattle.ledger.specs.Law.{Run, made, count, changes, fed}
use Rattle.list_law.specs.Call.{Cell, Obeys, effect, walk, window, reach}
use Rattle.list_law.specs.Runs.{Made, Sized}
use Rattle.list_law.specs.Existence.{Proper}
use Rattle.list_law.specs.Performed.{Ask, event, next, after, events, answers}
use Rattle.list_law.proofs.Proper.{AllProper}
use Rattle.list_law.proofs.Performed.{run_on}
use Rattle.worked_examples.specs.Worked.{FullMarks, full_acts, sectors_over_full, made_over, state_after, events_of, until_the_removal, since_the_removal, until_the_last_lookup, steps_by, PlaceUsedAgain, BoundMet}

-- sixteen marks obey every order, and stay sixteen

proper_seated : (o : Order) → Proper o → Seated o
proper_seated (release t) h = h
proper_seated (reserve t p) h = h.0
proper_seated (revoke p) h = tt

still_sixteen : (ms : FullMarks) → length ms ≡ 16 → (o : Order) → length (full_act o ms) ≡ 16
still_sixteen ms sixteen (release t) = length-set ms t None ∙ sixteen
still_sixteen ms sixteen (reserve t p) = length-set ms t (Some p) ∙ sixteen
still_sixteen ms sixteen (revoke p) = length-map ms (λ m. cond (names p m) None m) ∙ sixteen

pub obeyed : (os : List Order) → AllProper os → (m : FullMarks) → length m ≡ 16 → Along (Obeys full_get true full_acts) os m (carried full_act os m) × (length (carried full_act os m) ≡ 16)
obeyed [] h m good = (refl, good)
obeyed (o ∷ os) h m good =
    let r = obeyed os h.1 (full_act o m) (still_sixteen m good o) in
    ((full_act o m, (refl, meant m good o (proper_seated o h.0)), r.0), r.1)

-- calls made one after another on an index that is made over these cells are a run
module _ (cs : List (Cell Sector)) (w : ℕ) (sized : Sized (length cs) w) where
  made_so : Made full_get (length cs) w (made_over cs w)
  made_so = record { sized = sized; given = cs; number = refl; cells = refl; rows = refl; anchor = refl; marks = λ u l. get_or-replicate 16 u None None l }

  pub ran : (ks : List (Ask Sector)) → Run sectors_over_full (length cs) w (events_of (made_over cs w) ks) (state_after (made_over cs w) ks)
  ran ks = subst (λ l. Run sectors_over_full (length cs) w l (state_after (made_over cs w) ks)) (append-nil (events_of (made_over cs w) ks))
      (run_on sector_below full_get true full_act (λ m. length m ≡ 16) obeyed (length cs) w ks (made_over cs w) [] refl (made made_so))

-- three cells with a window of 1 to 64
pub three_with : (w : ℕ) → 1 ≤ w → w ≤ 64 → Sized 3 w
three_with w some few = record { some_cells = omega arith; few_cells = omega arith; some_window = some; narrow = few }

pub place_used_again : (a b c : Cell Sector) → PlaceUsedAgain a b c 1
unfolding answers after events event next effect walk window reach
place_used_again a b c = record {
  run = ran (a ∷ (b ∷ (c ∷ []))) 2 (three_with 2 (omega arith) (omega arith)) (until_the_removal ++ since_the_removal);
  answers = refl;
  marked = refl;
  removed = refl;
  struck = refl;
  answers_since = refl;
  placed = refl;
}

module _ (a b c : Cell Sector) where
  pub bound_met : BoundMet a b c 1 0 4
  unfolding answers after events event next effect walk window reach count changes fed reply
  bound_met = record {
    run = ran (a ∷ (b ∷ (c ∷ []))) 1 (three_with 1 (omega arith) (omega arith)) (until_the_last_lookup 0 ++ steps_by 0 4);
    answers = refl;
    one_fewer = refl;
    pending = refl;
    met = refl;
    ended = refl;
    number = refl;
  }

  pub bound_met_from_two : BoundMet a b c 2 1 2
  unfolding answers after events event next effect walk window reach count changes fed reply
  bound_met_from_two = record {
    run = ran (a ∷ (b ∷ (c ∷ []))) 2 (three_with 2 (omega arith) (omega arith)) (until_the_last_lookup 1 ++ steps_by 1 2);
    answers = refl;
    one_fewer = refl;
    pending = refl;
    met = refl;
    ended = refl;
    number = refl;
  }

  pub bound_met_at_once : BoundMet a b c 4 3 1
  unfolding answers after events event next effect walk window reach count changes fed reply
  bound_met_at_once = record {
    run = ran (a ∷ (b ∷ (c ∷ []))) 4 (three_with 4 (omega arith) (omega arith)) (until_the_last_lookup 3 ++ steps_by 3 1);
    answers = refl;
    one_fewer = refl;
    pending = refl;
    met = refl;
    ended = refl;
    number = refl;
  }
