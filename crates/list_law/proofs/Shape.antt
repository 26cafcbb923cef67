-- Both chains, their places and their order, and how an insert and a remove keep them. Assumes nothing.
use Rattle.std.proofs.Common.{◌≡◌, ℕ, ◌+◌, ◌<◌, ◌≤◌, Bool, true, false, ◌≢◌, List, ◌∷◌, ◌++◌, length, Some, None, Option, sym, refl, ap, ◌∙◌, subst, arith, length-append}
use Rattle.std.specs.List.{slice_get}
use Rattle.list_law.specs.Call.{Link, Cell, cell, Memory, memory, rewritten, linked, flagged, leading_set, removed, inserted}
use Rattle.ledger.specs.Keys.{Every, Rises}
use Rattle.list_law.specs.Law.{Entry, entry, keys, Leads, times}
use Rattle.list_law.proofs.Lists.{rewritten_same, rewritten_other, length_rewritten}
use Rattle.list_law.proofs.Chain.{keys_append, times_append, times_here, leads_join, leads_split, leads_frame, Lead, led_leads, led_other}
use Rattle.ledger.proofs.Ordered.{rises_removed, rises_inserted}

-- the listed entries and the free ones of n cells
pub record Shape {K : Type 0} (below : K → K → Bool) (m : Memory K) (n : ℕ) (listed frees : List (Entry K)) : Type 0 where
  pub from_head : Leads m.cells true m.head listed None
  pub from_free : Leads m.cells false m.free frees None
  pub most : (p : ℕ) → times p listed + times p frees ≤ 1
  pub once : (p : ℕ) → p < n → times p listed + times p frees ≡ 1
  pub total : length listed + length frees ≡ n
  pub rises : Rises below (keys listed)

module _ {K : Type 0} (m : Memory K) (l : Link) where
  pub led_free : (lead : Option ℕ) → (leading_set lead l m).free ≡ m.free
  led_free None = refl
  led_free (Some q) = refl

  pub length_led : (lead : Option ℕ) → length (leading_set lead l m).cells ≡ length m.cells
  length_led None = refl
  length_led (Some q) = length_rewritten m.cells q (linked l)

pub length_removed : {K : Type 0} (lead : Option ℕ) (p : ℕ) (l : Link) (m : Memory K) → length (removed lead p l m).cells ≡ length m.cells
length_removed lead p l m =
    length_rewritten (rewritten (leading_set lead l m).cells p (flagged false)) p (linked (leading_set lead l m).free)
    ∙ length_rewritten (leading_set lead l m).cells p (flagged false) ∙ length_led m l lead

pub length_inserted : {K : Type 0} (lead : Option ℕ) (l : Link) (x : K) (q : ℕ) (f : Link) (m : Memory K) → length (inserted lead l x q f m).cells ≡ length m.cells
length_inserted lead l x q f m =
    length_led (memory (rewritten m.cells q (λ _. cell x l true)) m.head f) (Some q) lead ∙ length_rewritten m.cells q (λ _. cell x l true)

module _ {K : Type 0} (below : K → K → Bool) (m : Memory K) (n : ℕ) (listed frees : List (Entry K)) (shape : Shape below m n listed frees) where
  -- the entry at place p is taken out of the list and put before the free ones
  pub shape_removed : (xs : List (Entry K)) (p : ℕ) (y : K) (bs : List (Entry K)) (lead : Option ℕ) (l : Link)
      → listed ≡ xs ++ entry p y ∷ bs → Lead xs lead → slice_get m.cells p ≡ Some (cell y l true) → Leads m.cells true l bs None
      → Shape below (removed lead p l m) n (xs ++ bs) (entry p y ∷ frees)
  shape_removed xs p y bs lead l is lead_is at ahead = record {
    from_head = leads_join true cells₂ m₁.head xs l bs None
        (leads_frame true m₁.cells cells₂ m₁.head xs l (λ r h. elsewhere r (apart r (omega (arith, times_append r xs bs)))) (led_leads m l xs lead behind.0 lead_is (λ r. omega (arith, split r, shape.most r)) behind.1))
        (leads_frame true m.cells cells₂ l bs None (λ r h. elsewhere r (apart r (omega (arith, times_append r xs bs))) ∙ led_other m l xs lead lead_is r (omega (arith, split r, shape.most r))) ahead);
    from_free = (
      m₁.free,
      refl,
      placed,
      subst (λ f. Leads cells₂ false f frees None) (sym (led_free m l lead))
          (leads_frame false m.cells cells₂ m.free frees None
          (λ r h. elsewhere r (λ e. let z : 1 ≤ times p frees = rw e at h in omega (arith, split p, shape.most p, times_here p y bs)) ∙ led_other m l xs lead lead_is r (omega (arith, split r, shape.most r))) shape.from_free),
    );
    most = λ r. omega (arith, moved r, shape.most r);
    once = λ r h. moved r ∙ shape.once r h;
    total = omega (arith, shape.total, ap length is, length-append xs (entry p y ∷ bs), length-append xs bs);
    rises = subst (Rises below) (sym (keys_append xs bs)) (rises_removed below (keys xs) y (keys bs) (subst (Rises below) (ap keys is ∙ keys_append xs (entry p y ∷ bs)) shape.rises));
  }
    where
      m₁ : Memory K
      m₁ = leading_set lead l m

      cells₂ : List (Cell K)
      cells₂ = (removed lead p l m).cells

      behind : (b : Link) × Leads m.cells true m.head xs b × Leads m.cells true b (entry p y ∷ bs) None
      behind = leads_split true m.cells m.head xs (entry p y ∷ bs) None (subst (λ r. Leads m.cells true m.head r None) is shape.from_head)

      split : (r : ℕ) → times r listed ≡ times r xs + times r (entry p y ∷ bs)
      split r = ap (times r) is ∙ times_append r xs (entry p y ∷ bs)

      apart : (r : ℕ) → 1 ≤ times r xs + times r bs → r ≢ p
      apart r h e = let z : 1 ≤ times p xs + times p bs = rw e at h in omega (arith, split p, shape.most p, times_here p y bs)

      elsewhere : (r : ℕ) → r ≢ p → slice_get cells₂ r ≡ slice_get m₁.cells r
      elsewhere r h = rewritten_other (rewritten m₁.cells p (flagged false)) p (linked m₁.free) r h ∙ rewritten_other m₁.cells p (flagged false) r h

      placed : slice_get cells₂ p ≡ Some (cell y m₁.free false)
      placed = rewritten_same (rewritten m₁.cells p (flagged false)) p (linked m₁.free)
          (rewritten_same m₁.cells p (flagged false) (led_other m l xs lead lead_is p (omega (arith, split p, shape.most p, times_here p y bs)) ∙ at))

      moved : (r : ℕ) → times r (xs ++ bs) + times r (entry p y ∷ frees) ≡ times r listed + times r frees
      moved r = omega (arith, split r, times_append r xs bs)

  -- the front free cell becomes an entry of key x between xs and bs
  pub shape_inserted : (xs bs : List (Entry K)) (lead : Option ℕ) (l : Link) (x : K) (q : ℕ) (z : K) (f : Link) (frees' : List (Entry K))
      → listed ≡ xs ++ bs → Lead xs lead → Leads m.cells true l bs None → frees ≡ entry q z ∷ frees' → Leads m.cells false f frees' None
      → slice_get m.cells q ≡ Some (cell z f false)
      → Every (λ y. below y x) (keys xs) → Every (below x) (keys bs)
      → Shape below (inserted lead l x q f m) n (xs ++ entry q x ∷ bs) frees'
  shape_inserted xs bs lead l x q z f frees' is lead_is ahead free-is free-ahead at lo hi = record {
    from_head = leads_join true m₂.cells m₂.head xs (Some q) (entry q x ∷ bs) None
        (led_leads m₁ (Some q) xs lead behind.0 lead_is (λ r. omega (arith, split r, shape.most r))
        (leads_frame true m.cells m₁.cells m.head xs behind.0 (λ r h. kept r (apart r (omega (arith, split r)))) behind.1)) (
          l,
          refl,
          placed,
          leads_frame true m.cells m₂.cells l bs None
              (λ r h. led_other m₁ (Some q) xs lead lead_is r (omega (arith, split r, shape.most r)) ∙ kept r (apart r (omega (arith, split r)))) ahead,
        );
    from_free = subst (λ g. Leads m₂.cells false g frees' None) (sym (led_free m₁ (Some q) lead))
        (leads_frame false m.cells m₂.cells f frees' None
        (λ r h. led_other m₁ (Some q) xs lead lead_is r (omega (arith, split r, free_split r, shape.most r))
        ∙ kept r (λ e. let k : 1 ≤ times q frees' = rw e at h in omega (arith, free_split q, times_here q z frees', shape.most q))) free-ahead);
    most = λ r. omega (arith, moved r, shape.most r);
    once = λ r h. moved r ∙ shape.once r h;
    total = omega (arith, shape.total, ap length is, ap length free-is, length-append xs (entry q x ∷ bs), length-append xs bs);
    rises = subst (Rises below) (sym (keys_append xs (entry q x ∷ bs))) (rises_inserted below (keys xs) x (keys bs) lo hi (subst (Rises below) (ap keys is ∙ keys_append xs bs) shape.rises));
  }
    where
      m₁ : Memory K
      m₁ = memory (rewritten m.cells q (λ _. cell x l true)) m.head f

      m₂ : Memory K
      m₂ = leading_set lead (Some q) m₁

      behind : (b : Link) × Leads m.cells true m.head xs b × Leads m.cells true b bs None
      behind = leads_split true m.cells m.head xs bs None (subst (λ r. Leads m.cells true m.head r None) is shape.from_head)

      split : (r : ℕ) → times r listed ≡ times r xs + times r bs
      split r = ap (times r) is ∙ times_append r xs bs

      free_split : (r : ℕ) → times r frees ≡ times r (entry q z ∷ frees')
      free_split r = ap (times r) free-is

      apart : (r : ℕ) → 1 ≤ times r xs + times r bs → r ≢ q
      apart r h e = let k : 1 ≤ times q xs + times q bs = rw e at h in omega (arith, split q, free_split q, times_here q z frees', shape.most q)

      kept : (r : ℕ) → r ≢ q → slice_get m₁.cells r ≡ slice_get m.cells r
      kept r h = rewritten_other m.cells q (λ _. cell x l true) r h

      placed : slice_get m₂.cells q ≡ Some (cell x l true)
      placed = led_other m₁ (Some q) xs lead lead_is q (omega (arith, split q, free_split q, times_here q z frees', shape.most q)) ∙ rewritten_same m.cells q (λ _. cell x l true) at

      moved : (r : ℕ) → times r (xs ++ entry q x ∷ bs) + times r frees' ≡ times r listed + times r frees
      moved r = omega (arith, split r, free_split r, times_append r xs (entry q x ∷ bs))
