-- A window waits exactly where enough cells below its target are ahead: by links, and by the set. Assumes nothing.
use Rattle.std.proofs.Common.{◌≡◌, ℕ, suc, ◌+◌, ◌≤◌, Bool, true, false, not, ◌≢◌, ◌↔◌, List, [], ◌∷◌, ◌++◌, length, Some, None, Option, sym, ap, ◌∙◌, subst, append_assoc, arith, length-append}
use Rattle.std.specs.List.{slice_get}
use Rattle.basis.specs.declared.answer.Answer.{Answer}
use Rattle.basis.specs.declared.answer.Answer.TheVariants.{Wait}
use Rattle.keys.specs.Total.{Total}
use Rattle.list_law.specs.Call.{Link, Cell}
use Rattle.ledger.specs.Keys.{Every, Rises, Permuted, between}
use Rattle.list_law.specs.Law.{Entry, entry, keys, Leads, Meets, first_link, beyond}
use Rattle.list_law.proofs.Lists.{some_inj, nth_at}
use Rattle.ledger.proofs.Perms.{between_permuted}
use Rattle.list_law.proofs.Chain.{keys_append, length_keys, leads_split, leads_links, front_of}
use Rattle.ledger.proofs.Ordered.{every_join, every_left, between_append, between_all, between_near, between_past, high_not_below, same_above_all, rises_above}
use Rattle.list_law.proofs.Walk.{Started}

module _ {K : Type 0} (below : K → K → Bool) (order : Total below) (cs : List (Cell K)) (head : Link) (x : K) (listed : List (Entry K)) (room : ℕ) (mark : Option ℕ)
    (s : Started below cs head x listed room mark) where
  -- the entries ahead whose keys are below the target
  pub ahead : ℕ
  ahead = between below (beyond below cs mark) x (keys s.rest)

  pub ahead_by_set : (members : List K) → Permuted members (keys listed) → between below (beyond below cs mark) x members ≡ ahead
  unfolding ahead
  ahead_by_set members same =
      between_permuted below x (beyond below cs mark) same
      ∙ ap (between below (beyond below cs mark) x) (ap keys s.is ∙ keys_append s.done s.rest)
      ∙ between_append below (beyond below cs mark) x (keys s.done) (keys s.rest)
      ∙ omega (arith, between_near below (beyond below cs mark) x (keys s.done) s.near)

  -- a front of entries below the target counts whole
  front_counts : (fs bs : List (Entry K)) → s.rest ≡ fs ++ bs → Every (λ z. below z x) (keys fs) → ahead ≡ length fs + between below (beyond below cs mark) x (keys bs)
  unfolding ahead
  front_counts fs bs is lo =
      let split : keys s.rest ≡ keys fs ++ keys bs = ap keys is ∙ keys_append fs bs in
      let all : Every (beyond below cs mark) (keys fs) = every_left (beyond below cs mark) (keys fs) (keys bs) (subst (Every (beyond below cs mark)) split s.far) in
      ap (between below (beyond below cs mark) x) split
      ∙ between_append below (beyond below cs mark) x (keys fs) (keys bs)
      ∙ omega (arith, between_all below (beyond below cs mark) x (keys fs) all lo, length_keys fs)

  last_too : (fs : List (Entry K)) (p : ℕ) (y : K) → Every (λ z. below z x) (keys fs) → below y x ≡ true → Every (λ z. below z x) (keys (fs ++ entry p y ∷ []))
  last_too fs p y lo hi = subst (Every (λ z. below z x)) (sym (keys_append fs (entry p y ∷ []))) (every_join (λ z. below z x) (keys fs) (y ∷ []) lo (hi, tt))

  pub ahead_waits : (fs : List (Entry K)) (p : ℕ) (y : K) (bs : List (Entry K)) → s.rest ≡ fs ++ entry p y ∷ bs → length fs ≡ room → Every (λ z. below z x) (keys fs) → below y x ≡ true → suc room ≤ ahead
  ahead_waits fs p y bs is long lo hi =
      let c = front_counts (fs ++ entry p y ∷ []) bs (is ∙ sym (append_assoc fs (entry p y ∷ []) bs)) (last_too fs p y lo hi) in
      omega (arith, c, length-append fs (entry p y ∷ []))

  pub ahead_finds : (fs : List (Entry K)) (p : ℕ) (y : K) (bs : List (Entry K)) → s.rest ≡ fs ++ entry p y ∷ bs → length fs ≤ room → Every (λ z. below z x) (keys fs) → below y x ≡ false → below x y ≡ false → ahead ≤ room
  ahead_finds fs p y bs is few lo a b =
      let up : Every (below y) (keys bs) = rises_above below (keys fs) y (keys bs) (subst (Rises below) (ap keys is ∙ keys_append fs (entry p y ∷ bs)) s.rises) in
      omega (
        arith,
        front_counts fs (entry p y ∷ bs) is lo,
        between_past below (beyond below cs mark) x (y ∷ keys bs) (ap not a, high_not_below below order x (keys bs) (same_above_all below order x y (keys bs) b a up)),
      )

  pub ahead_misses : (fs bs : List (Entry K)) → s.rest ≡ fs ++ bs → length fs ≤ room → Every (λ z. below z x) (keys fs) → Every (below x) (keys bs) → ahead ≤ room
  ahead_misses fs bs is few lo hi =
      omega (arith, front_counts fs bs is lo, between_past below (beyond below cs mark) x (keys bs) (high_not_below below order x (keys bs) hi))

  module _ (p : ℕ) (m : Meets below cs (first_link cs head mark) x (suc room) p) where
    met_front : (rest : List (Entry K)) × (s.rest ≡ (m.before ++ entry p m.key ∷ []) ++ rest)
    met_front = let f = front_of true cs (first_link cs head mark) s.rest (m.before ++ entry p m.key ∷ []) m.end s.leads m.links in (f.rest, f.is)

    pub ahead_meets : suc room ≤ ahead
    ahead_meets =
        omega (arith, front_counts (m.before ++ entry p m.key ∷ []) met_front.0 met_front.1 (last_too m.before p m.key m.small m.last_small), length-append m.before (entry p m.key ∷ []), m.long)

    -- the place where the window ends is the only one
    pub meets_only : (fs : List (Entry K)) (q : ℕ) (y : K) (bs : List (Entry K)) → s.rest ≡ fs ++ entry q y ∷ bs → length fs ≡ room → q ≡ p
    meets_only fs q y bs is long =
        let a : slice_get s.rest room ≡ Some (entry q y) = ap (λ r. slice_get r room) is ∙ subst (λ i. slice_get (fs ++ entry q y ∷ bs) i ≡ Some (entry q y)) long (nth_at fs (entry q y) bs) in
        let n : length m.before ≡ room = omega (arith, m.long) in
        let b : slice_get s.rest room ≡ Some (entry p m.key) =
        ap (λ r. slice_get r room) (met_front.1 ∙ append_assoc m.before (entry p m.key ∷ []) met_front.0) ∙ subst (λ i. slice_get (m.before ++ entry p m.key ∷ met_front.0) i ≡ Some (entry p m.key)) n (nth_at m.before (entry p m.key) met_front.0) in
        ap (λ (e : Entry K). e.place) (some_inj (sym a ∙ b))

  pub meets_there : (fs : List (Entry K)) (p : ℕ) (y : K) (bs : List (Entry K)) → s.rest ≡ fs ++ entry p y ∷ bs → length fs ≡ room → Every (λ z. below z x) (keys fs) → below y x ≡ true → Meets below cs (first_link cs head mark) x (suc room) p
  meets_there fs p y bs is long lo hi =
      let r = leads_split true cs (first_link cs head mark) (fs ++ entry p y ∷ []) bs None (subst (λ r. Leads cs true (first_link cs head mark) r None) (is ∙ sym (append_assoc fs (entry p y ∷ []) bs)) s.leads) in
      record { before = fs; key = y; end = r.0; links = leads_links true cs (first_link cs head mark) (fs ++ entry p y ∷ []) r.0 r.1; long = ap suc long; small = lo; last_small = hi }

  -- the rule for waits, of an answer and of the mark afterwards
  abbrev pub Rules : Answer → Option ℕ → List K → Type 0
  Rules a mark' members =
      ((a ≡ Wait) ↔ ((p : ℕ) × Meets below cs (first_link cs head mark) x (suc room) p))
      × ((p : ℕ) → Meets below cs (first_link cs head mark) x (suc room) p → mark' ≡ Some p)
      × ((a ≡ Wait) ↔ (suc room ≤ between below (beyond below cs mark) x members))

  pub rules_wait : (a : Answer) (mark' : Option ℕ) (members : List K) → Permuted members (keys listed) → a ≡ Wait
      → (fs : List (Entry K)) (p : ℕ) (y : K) (bs : List (Entry K)) → s.rest ≡ fs ++ entry p y ∷ bs → length fs ≡ room → Every (λ z. below z x) (keys fs) → below y x ≡ true
      → mark' ≡ Some p → Rules a mark' members
  rules_wait a mark' members same w fs p y bs is long lo hi k = (
    ((λ _. (p, meets_there fs p y bs is long lo hi)), (λ _. w)),
    (λ q m. k ∙ ap Some (meets_only q m fs p y bs is long)),
    ((λ _. omega (arith, ahead_by_set members same, ahead_waits fs p y bs is long lo hi)), (λ _. w)),
  )

  pub rules_else : (a : Answer) (mark' : Option ℕ) (members : List K) → Permuted members (keys listed) → a ≢ Wait → ahead ≤ room → Rules a mark' members
  rules_else a mark' members same w few = (
    ((λ e. absurd (w e)), (λ m. absurd (omega (arith, ahead_meets m.0 m.1)))),
    (λ q m. absurd (omega (arith, ahead_meets q m))),
    ((λ e. absurd (w e)), (λ h. absurd (omega (arith, ahead_by_set members same)))),
  )
