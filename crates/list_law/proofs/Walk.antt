-- Where a walk over a chain whose keys rise comes to an end. Assumes nothing.
use Rattle.std.proofs.Common.{◌≡◌, ℕ, zero, suc, ◌≤◌, Bool, true, false, not, List, [], ◌∷◌, ◌++◌, length, Some, None, Option, sym, refl, ap, ◌∙◌, subst, append_assoc, append-nil, arith}
use Rattle.std.specs.List.{slice_get}
use Rattle.keys.specs.Total.{Total}
use Rattle.list_law.specs.Call.{Link, Cell, cell, Met, passed, present, absent, judged, met, look, followed, walk, resumed, walked}
use Rattle.ledger.specs.Keys.{Every, Rises}
use Rattle.list_law.specs.Law.{Entry, entry, keys, Leads, first_link, link_behind, beyond, past}
use Rattle.list_law.proofs.Chain.{keys_append, Lead, start, after, leads_split}
use Rattle.ledger.proofs.Ordered.{every_join, rises_above, rises_below, rises_right, above_all, below_all, low_not_above}

module _ {K : Type 0} (below : K → K → Bool) (cs : List (Cell K)) (x : K) where
  -- one link followed, with the entries ys ahead
  pub data Looked (lead : Option ℕ) (ys : List (Entry K)) : Met → Type 0 where
    passes : (p : ℕ) (y : K) (bs : List (Entry K)) (l : Link) → ys ≡ entry p y ∷ bs → below y x ≡ true → slice_get cs p ≡ Some (cell y l true) → Leads cs true l bs None → Looked lead ys (passed p l)
    here : (p : ℕ) (y : K) (bs : List (Entry K)) (l : Link) → ys ≡ entry p y ∷ bs → below y x ≡ false → below x y ≡ false → slice_get cs p ≡ Some (cell y l true) → Leads cs true l bs None → Looked lead ys (present lead p l)
    gone : (l : Link) → Every (below x) (keys ys) → Leads cs true l ys None → Looked lead ys (absent lead l)

  -- up to `room` entries passed of ys, which stand behind xs
  pub data Walked (xs ys : List (Entry K)) (room : ℕ) : Met → Type 0 where
    waits : (fs : List (Entry K)) (p : ℕ) (y : K) (bs : List (Entry K)) (l : Link) → ys ≡ fs ++ entry p y ∷ bs → length fs ≡ room → Every (λ z. below z x) (keys fs) → below y x ≡ true → Walked xs ys room (passed p l)
    finds : (fs : List (Entry K)) (lead : Option ℕ) (p : ℕ) (y : K) (bs : List (Entry K)) (l : Link) → ys ≡ fs ++ entry p y ∷ bs → length fs ≤ room → Every (λ z. below z x) (keys fs) → below y x ≡ false → below x y ≡ false
        → Lead (xs ++ fs) lead → slice_get cs p ≡ Some (cell y l true) → Leads cs true l bs None → Walked xs ys room (present lead p l)
    misses : (fs : List (Entry K)) (lead : Option ℕ) (bs : List (Entry K)) (l : Link) → ys ≡ fs ++ bs → length fs ≤ room → Every (λ z. below z x) (keys fs) → Every (below x) (keys bs)
        → Lead (xs ++ fs) lead → Leads cs true l bs None → Walked xs ys room (absent lead l)

module _ {K : Type 0} (below : K → K → Bool) (order : Total below) (cs : List (Cell K)) (x : K) where
  judged_view : (lead : Option ℕ) (p : ℕ) (y : K) (bs : List (Entry K)) (l : Link) → slice_get cs p ≡ Some (cell y l true) → Leads cs true l bs None → Rises below (y ∷ keys bs)
      → (a b : Bool) → below y x ≡ a → below x y ≡ b → Looked below cs x lead (entry p y ∷ bs) (judged a b lead p l)
  judged_view lead p y bs l at h up true b e f = passes p y bs l refl e at h
  judged_view lead p y bs l at h up false true e f = gone (Some p) (f, above_all below order x y (keys bs) f up.0) (l, refl, at, h)
  judged_view lead p y bs l at h up false false e f = here p y bs l refl e f at h

  look_view : (lead : Option ℕ) (l : Link) (ys : List (Entry K)) → Leads cs true l ys None → Rises below (keys ys) → Looked below cs x lead ys (look below cs x lead l)
  look_view lead l [] h up = subst (λ l'. Looked below cs x lead [] (look below cs x lead l')) (sym h) (gone None tt refl)
  look_view lead l (e ∷ bs) h up =
      subst (λ l'. Looked below cs x lead (e ∷ bs) (look below cs x lead l')) (sym h.1)
      (subst (λ o. Looked below cs x lead (e ∷ bs) (met below x lead e.place o)) (sym h.2)
      (judged_view lead e.place e.key bs h.0 h.2 h.3 up (below e.key x) (below x e.key) refl refl))

  -- an entry passed before the walk goes on
  longer : (xs : List (Entry K)) (p : ℕ) (y : K) (bs ys : List (Entry K)) (room : ℕ) (m : Met) → ys ≡ entry p y ∷ bs → below y x ≡ true
      → Walked below cs x (xs ++ entry p y ∷ []) bs room m → Walked below cs x xs ys (suc room) m
  longer xs p y bs ys room m is low (waits fs q z rest l e n lo hi) = waits (entry p y ∷ fs) q z rest l (is ∙ ap {B = List (Entry K)} (λ r. entry p y ∷ r) e) (ap suc n) (low, lo) hi
  longer xs p y bs ys room m is low (finds fs lead q z rest l e n lo a b led at h) =
      finds (entry p y ∷ fs) lead q z rest l (is ∙ ap {B = List (Entry K)} (λ r. entry p y ∷ r) e) (omega arith) (low, lo) a b (subst (λ r. Lead r lead) (append_assoc xs (entry p y ∷ []) fs) led) at h
  longer xs p y bs ys room m is low (misses fs lead rest l e n lo hi led h) =
      misses (entry p y ∷ fs) lead rest l (is ∙ ap {B = List (Entry K)} (λ r. entry p y ∷ r) e) (omega arith) (low, lo) hi (subst (λ r. Lead r lead) (append_assoc xs (entry p y ∷ []) fs) led) h

  abbrev pub Goes : ℕ → Type 0
  Goes room = (xs ys : List (Entry K)) (lead : Option ℕ) (l : Link) → Lead xs lead → Leads cs true l ys None → Rises below (keys ys) → Walked below cs x xs ys room (walk below cs x room lead l)

  last_step : (xs ys : List (Entry K)) (lead : Option ℕ) (m : Met) → Lead xs lead → Looked below cs x lead ys m → Walked below cs x xs ys zero m
  last_step xs ys lead m led (passes p y bs l e lo at h) = waits [] p y bs l e refl tt lo
  last_step xs ys lead m led (here p y bs l e a b at h) = finds [] lead p y bs l e (omega arith) tt a b (subst (λ r. Lead r lead) (sym (append-nil xs)) led) at h
  last_step xs ys lead m led (gone l hi h) = misses [] lead ys l refl (omega arith) tt hi (subst (λ r. Lead r lead) (sym (append-nil xs)) led) h

  one_step : (room : ℕ) → Goes room → (xs ys : List (Entry K)) (lead : Option ℕ) (m : Met) → Lead xs lead → Rises below (keys ys) → Looked below cs x lead ys m
      → Walked below cs x xs ys (suc room) (followed m (λ p l. walk below cs x room (Some p) l))
  one_step room go xs ys lead m led up (passes p y bs l e lo at h) =
      longer xs p y bs ys room (walk below cs x room (Some p) l) e lo (go (xs ++ entry p y ∷ []) bs (Some p) l (after xs p y) h (subst (λ (r : List (Entry K)). Rises below (keys r)) e up).1)
  one_step room go xs ys lead m led up (here p y bs l e a b at h) = finds [] lead p y bs l e (omega arith) tt a b (subst (λ r. Lead r lead) (sym (append-nil xs)) led) at h
  one_step room go xs ys lead m led up (gone l hi h) = misses [] lead ys l refl (omega arith) tt hi (subst (λ r. Lead r lead) (sym (append-nil xs)) led) h

  pub walk_view : (room : ℕ) → Goes room
  unfolding walk
  walk_view zero xs ys lead l led h up = last_step xs ys lead (look below cs x lead l) led (look_view lead l ys h up)
  walk_view (suc room) xs ys lead l led h up = one_step room (walk_view room) xs ys lead (look below cs x lead l) led up (look_view lead l ys h up)

-- where a mark stands, for an operation towards x: nowhere, or at a listed entry whose key is below x
pub data Standing {K : Type 0} (below : K → K → Bool) (x : K) (listed : List (Entry K)) : Option ℕ → Type 0 where
  nowhere : Standing below x listed None
  at : (fs : List (Entry K)) (p : ℕ) (y : K) (bs : List (Entry K)) → listed ≡ fs ++ entry p y ∷ bs → below y x ≡ true → Standing below x listed (Some p)

-- a window that starts at a mark: the entries behind it and those ahead
pub record Started {K : Type 0} (below : K → K → Bool) (cs : List (Cell K)) (head : Link) (x : K) (listed : List (Entry K)) (room : ℕ) (mark : Option ℕ) : Type 0 where
  pub done : List (Entry K)
  pub rest : List (Entry K)
  pub is : listed ≡ done ++ rest
  pub low : Every (λ z. below z x) (keys done)
  pub near : Every (λ z. not (beyond below cs mark z)) (keys done)
  pub far : Every (beyond below cs mark) (keys rest)
  pub leads : Leads cs true (first_link cs head mark) rest None
  pub rises : Rises below (keys rest)
  pub view : Walked below cs x done rest room (walked below cs head x room mark)

every_true : {K : Type 0} (ks : List K) → Every (λ _. true) ks
every_true [] = tt
every_true (k ∷ ks) = (refl, every_true ks)

module _ {K : Type 0} (below : K → K → Bool) (order : Total below) (cs : List (Cell K)) (head : Link) (x : K) (listed : List (Entry K))
    (leads : Leads cs true head listed None) (rises : Rises below (keys listed)) where
  from_mark : (room : ℕ) (fs : List (Entry K)) (p : ℕ) (y : K) (bs : List (Entry K)) → listed ≡ fs ++ entry p y ∷ bs → below y x ≡ true → Started below cs head x listed room (Some p)
  from_mark room fs p y bs is low =
      let whole : Leads cs true head (fs ++ entry p y ∷ bs) None = subst (λ r. Leads cs true head r None) is leads in
      let up : Rises below (keys fs ++ y ∷ keys bs) = subst (Rises below) (ap keys is ∙ keys_append fs (entry p y ∷ bs)) rises in
      let parts = leads_split true cs head fs (entry p y ∷ bs) None whole in
      let l : Link = parts.2.0 in
      let there : slice_get cs p ≡ Some (cell y l true) = parts.2.2 in
      record {
        done = fs ++ entry p y ∷ [];
        rest = bs;
        is = is ∙ sym (append_assoc fs (entry p y ∷ []) bs);
        low = subst (Every (λ z. below z x)) (sym (keys_append fs (entry p y ∷ []))) (every_join (λ z. below z x) (keys fs) (y ∷ []) (below_all below order x y (keys fs) low (rises_below below (keys fs) y (keys bs) up)) (low, tt));
        near = subst (λ (o : Option (Cell K)). Every (λ z. not (past below o z)) (keys (fs ++ entry p y ∷ []))) (sym there)
            (subst (Every (λ z. not (below y z))) (sym (keys_append fs (entry p y ∷ [])))
            (every_join (λ z. not (below y z)) (keys fs) (y ∷ []) (low_not_above below order y (keys fs) (rises_below below (keys fs) y (keys bs) up)) (ap not (order.irreflexive y), tt)));
        far = subst (λ (o : Option (Cell K)). Every (past below o) (keys bs)) (sym there) (rises_above below (keys fs) y (keys bs) up);
        leads = subst (λ (o : Option (Cell K)). Leads cs true (link_behind o) bs None) (sym there) parts.2.3;
        rises = (rises_right below (keys fs) (y ∷ keys bs) up).1;
        view = subst (λ (o : Option (Cell K)). Walked below cs x (fs ++ entry p y ∷ []) bs room (resumed below cs x room p o)) (sym there)
            (walk_view below order cs x room (fs ++ entry p y ∷ []) bs (Some p) l (after fs p y) parts.2.3 (rises_right below (keys fs) (y ∷ keys bs) up).1);
      }

  pub started : (room : ℕ) (mark : Option ℕ) → Standing below x listed mark → Started below cs head x listed room mark
  started room mark nowhere = record {
    done = [];
    rest = listed;
    is = refl;
    low = tt;
    near = tt;
    far = every_true (keys listed);
    leads = leads;
    rises = rises;
    view = walk_view below order cs x room [] listed None head start leads rises;
  }
  started room mark (at fs p y bs is low) = from_mark room fs p y bs is low
