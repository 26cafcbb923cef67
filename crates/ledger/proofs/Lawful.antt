-- The law of runs, from what one call does: an invariant, the answers, and a count of the waits since the last change by others.
-- Over any index. Assumes nothing.
use Rattle.std.proofs.Common.{◌≡◌, ℕ, suc, ◌+◌, ◌*◌, ◌≤◌, Bool, true, false, cond, ◌⊎◌, List, [], ◌∷◌, ◌++◌, refl, subst, inl, inr, arith}
use Rattle.basis.specs.declared.kind.Kind.{Kind}
use Rattle.ledger.specs.Ledger.{Ledger, empty, reply}
use Rattle.ledger.specs.Law.{Event, Index, Run, made, more, Each, Answers, Lawful, AnswersInTime, fed, answered, replies, count, changes, steps_of, ends_of, begins_of, changed_beside}

-- One call, with all that the law needs of it. `Inv` ties the ledger to the state. `Held s t c` says that c waits of seat t in a row
-- are behind it in state s, as long as nobody else changes the set; `most` is how many there can be.
pub record Called {K : Type 0} (below : K → K → Bool) (x : Index K) (Inv : Ledger K → x.State → Type 0) (Held : x.State → ℕ → ℕ → Type 0) (most : ℕ → ℕ) (a : Ledger K) (s : x.State) (e : Event K) (s' : x.State) : Type 0 where
  pub inv : Inv (reply below a e.call e.told).after s'
  pub answers : Answers below x a s e s'
  pub waits_held : (t c : ℕ) → steps_of t e ≡ true → ends_of t e ≡ false → Held s t c → Held s' t (suc c) × (suc c ≤ most t)
  pub others_held : x.strict ≡ true → (t c : ℕ) → steps_of t e ≡ false → begins_of t e ≡ false → changed_beside t a e ≡ false → Held s t c → Held s' t c

module _ {K : Type 0} (below : K → K → Bool) (x : Index K) (n w : ℕ) (Inv : Ledger K → x.State → Type 0) (Held : x.State → ℕ → ℕ → Type 0) (most : ℕ → ℕ)
    (begun : (s : x.State) → x.Made n w s → Inv (empty n) s)
    (called : (a : Ledger K) (s : x.State) (e : Event K) (s' : x.State) → Inv a s → x.Next s e s' → Called below x Inv Held most a s e s')
    (none : (s : x.State) (t : ℕ) → Held s t 0)
    (sound : (a : Ledger K) (s : x.State) → Inv a s → x.Sound a s)
    (limit : ℕ → Kind → ℕ → ℕ) (enough : (t : ℕ) (kind : Kind) (k : ℕ) → suc (suc k * most t) ≤ limit t kind k) where
  pub inv_of : {es : List (Event K)} {s : x.State} → Run x n w es s → Inv (fed below n es) s
  unfolding fed
  inv_of (made {s = s} m) = begun s m
  inv_of (more {es = es} {s = s} {e = e} {s' = s'} r d) = (called (fed below n es) s e s' (inv_of r) d).inv

  answers_lem : {es : List (Event K)} {s : x.State} (r : Run x n w es s) → Each (λ earlier s₁ e s₂. Answers below x (fed below n earlier) s₁ e s₂) r
  answers_lem (made m) = tt
  answers_lem (more {es = es} {s = s} {e = e} {s' = s'} r d) = ((called (fed below n es) s e s' (inv_of r) d).answers, answers_lem r)

  agrees_of : {es : List (Event K)} {s : x.State} → Run x n w es s → answered es ≡ replies below n es
  unfolding answered replies
  agrees_of (made m) = refl
  agrees_of (more {es = es} {s = s} {e = e} {s' = s'} r d) =
      let a : e.answer ≡ (reply below (fed below n es) e.call e.told).answer = (called (fed below n es) s e s' (inv_of r) d).answers.as_ledger in
      let b : answered es ≡ replies below n es = agrees_of r in
      λ i. a i ∷ b i

  sound_of : {es : List (Event K)} {s : x.State} (r : Run x n w es s) → Each (λ earlier s₁ e s₂. x.Sound (fed below n (e ∷ earlier)) s₂) r
  sound_of (made m) = tt
  sound_of (more {es = es} {s = s} {e = e} {s' = s'} r d) = (sound (fed below n (e ∷ es)) s' (inv_of (more r d)), sound_of r)

  module _ (strict : x.strict ≡ true) (t : ℕ) (start : List (Event K)) where
    -- no answer yet: c waits since the last change by others, and at most `most` for each change before
    record Pending (s : x.State) (later : List (Event K)) : Type 0 where
      waits : ℕ
      held : Held s t waits
      few : waits ≤ most t
      counts : count (steps_of t) later ≤ changes below n t later start * most t + waits

    went : (later : List (Event K)) (s : x.State) (e : Event K) (s' : x.State) → Called below x Inv Held most (fed below n (later ++ start)) s e s'
        → count (begins_of t) (e ∷ later) ≡ 0 → Pending s later
        → (a b c : Bool) → ends_of t e ≡ a → steps_of t e ≡ b → changed_beside t (fed below n (later ++ start)) e ≡ c
        → Pending s' (e ∷ later) ⊎ (1 ≤ count (ends_of t) (e ∷ later))
    unfolding count changes
    went later s e s' k quiet p true b c ea eb ec = inr (rw ea (omega arith))
    went later s e s' k quiet p false true c ea eb ec =
        let h = k.waits_held t p.waits eb ea p.held in
        inl (record { waits = suc p.waits; held = h.0; few = h.1; counts = rw eb (grown (cond (changed_beside t (fed below n (later ++ start)) e) 1 0)) })
      where
        grown : (m : ℕ) → 1 + count (steps_of t) later ≤ (m + changes below n t later start) * most t + suc p.waits
        grown m = omega (arith, p.counts)
    went later s e s' k quiet p false false true ea eb ec =
        inl (record { waits = 0; held = none s' t; few = omega arith; counts = rw (eb, ec) (omega (arith, p.counts, p.few)) })
    went later s e s' k quiet p false false false ea eb ec =
        inl (record { waits = p.waits; held = k.others_held strict t p.waits eb (no_begin (begins_of t e) refl) ec p.held; few = p.few; counts = rw (eb, ec) (omega (arith, p.counts)) })
      where
        no_begin : (b : Bool) → begins_of t e ≡ b → begins_of t e ≡ false
        no_begin true h = absurd (let z : 1 + count (begins_of t) later ≡ 0 = rw h at quiet in omega arith)
        no_begin false h = h

    quiet_before : (e : Event K) (later : List (Event K)) → count (begins_of t) (e ∷ later) ≡ 0 → count (begins_of t) later ≡ 0
    unfolding count
    quiet_before e later h = omega (arith, h)

    ended_before : (e : Event K) (later : List (Event K)) → 1 ≤ count (ends_of t) later → 1 ≤ count (ends_of t) (e ∷ later)
    unfolding count
    ended_before e later h = omega (arith, h)

    pending : (later : List (Event K)) (s : x.State) → Run x n w (later ++ start) s → count (begins_of t) later ≡ 0 → Pending s later ⊎ (1 ≤ count (ends_of t) later)
    unfolding count changes
    pending [] s r quiet = inl (record { waits = 0; held = none s t; few = omega arith; counts = omega arith })
    pending (e ∷ later) s (more {s = s₀} r d) quiet =
        onward (pending later s₀ r (quiet_before e later quiet))
      where
        onward : Pending s₀ later ⊎ (1 ≤ count (ends_of t) later) → Pending s (e ∷ later) ⊎ (1 ≤ count (ends_of t) (e ∷ later))
        onward (inl p) = went later s₀ e s (called (fed below n (later ++ start)) s₀ e s (inv_of r) d) quiet p (ends_of t e) (steps_of t e) (changed_beside t (fed below n (later ++ start)) e) refl refl refl
        onward (inr h) = inr (ended_before e later h)

  bounded_of : {es : List (Event K)} {s : x.State} → Run x n w es s → x.strict ≡ true → AnswersInTime below n limit es
  bounded_of {es} {s} r strict t kind y later b earlier is what begun-here quiet steps =
      last (pending strict t (b ∷ earlier) later s (subst (λ l. Run x n w l s) is r) quiet)
    where
      last : Pending strict t (b ∷ earlier) s later ⊎ (1 ≤ count (ends_of t) later) → 1 ≤ count (ends_of t) later
      last (inl p) = absurd (omega (arith, p.counts, p.few, enough t kind (changes below n t later (b ∷ earlier))))
      last (inr h) = h

  -- every run is lawful
  pub lawful : (es : List (Event K)) (s : x.State) (r : Run x n w es s) → Lawful below x n w limit es s r
  lawful es s r = record { agrees = agrees_of r; answers = answers_lem r; sound_each = sound_of r; sound = sound (fed below n es) s (inv_of r); bounded = bounded_of r }
