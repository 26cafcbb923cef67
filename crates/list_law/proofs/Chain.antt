-- Links that lead through entries: joined, split, kept where other cells are written, and with the last link set anew.
-- Assumes nothing.
use Rattle.std.proofs.Common.{◌≡◌, ℕ, suc, ◌+◌, ◌≤◌, Bool, true, ◌≢◌, List, [], ◌∷◌, ◌++◌, length, Some, None, Option, sym, refl, ap, ◌∙◌, subst, arith}
use Rattle.std.proofs.lemmas.Bool.{eq-eqb, ne_eqb}
use Rattle.std.specs.List.{slice_get}
use Rattle.list_law.specs.Call.{Link, Cell, cell, Memory, rewritten, linked, leading_set}
use Rattle.list_law.specs.Law.{Entry, entry, keys, Links, Leads, times}
use Rattle.list_law.proofs.Lists.{none_some, some_inj, rewritten_same, rewritten_other}

-- the keys of entries

pub keys_append : {K : Type 0} (xs ys : List (Entry K)) → keys (xs ++ ys) ≡ keys xs ++ keys ys
keys_append [] ys = refl
keys_append (e ∷ xs) ys = ap {B = List _} (λ r. e.key ∷ r) (keys_append xs ys)

pub length_keys : {K : Type 0} (xs : List (Entry K)) → length (keys xs) ≡ length xs
length_keys [] = refl
length_keys (e ∷ xs) = ap suc (length_keys xs)

-- how often a place is met

pub times_append : {K : Type 0} (p : ℕ) (xs ys : List (Entry K)) → times p (xs ++ ys) ≡ times p xs + times p ys
times_append p [] ys = omega arith
times_append p (e ∷ xs) ys = let h = times_append p xs ys in omega arith

pub times_here : {K : Type 0} (p : ℕ) (x : K) (es : List (Entry K)) → times p (entry p x ∷ es) ≡ suc (times p es)
times_here p x es = rw (eq-eqb p p refl) (omega arith)

pub times_there : {K : Type 0} (p : ℕ) (e : Entry K) (es : List (Entry K)) → e.place ≢ p → times p (e ∷ es) ≡ times p es
times_there p e es h = rw (ne_eqb e.place p h) (omega arith)

pub times_middle : {K : Type 0} (p : ℕ) (x : K) (xs ys : List (Entry K)) → times p (xs ++ entry p x ∷ ys) ≡ suc (times p xs + times p ys)
times_middle p x xs ys = let h = times_append p xs (entry p x ∷ ys) in let k = times_here p x ys in omega arith

module _ {K : Type 0} (flag : Bool) where
  pub leads_join : (cs : List (Cell K)) (a : Link) (xs : List (Entry K)) (b : Link) (ys : List (Entry K)) (c : Link) → Leads cs flag a xs b → Leads cs flag b ys c → Leads cs flag a (xs ++ ys) c
  leads_join cs a [] b ys c h k = subst (λ l. Leads cs flag l ys c) (sym h) k
  leads_join cs a (e ∷ xs) b ys c h k = (h.0, h.1, h.2, leads_join cs h.0 xs b ys c h.3 k)

  pub leads_split : (cs : List (Cell K)) (a : Link) (xs ys : List (Entry K)) (c : Link) → Leads cs flag a (xs ++ ys) c → (b : Link) × Leads cs flag a xs b × Leads cs flag b ys c
  leads_split cs a [] ys c h = (a, refl, h)
  leads_split cs a (e ∷ xs) ys c h =
      let r = leads_split cs h.0 xs ys c h.3 in
      (r.0, (h.0, h.1, h.2, r.1), r.2)

  -- a chain stands where its cells are as they were
  pub leads_frame : (cs cs' : List (Cell K)) (a : Link) (es : List (Entry K)) (b : Link) → ((r : ℕ) → 1 ≤ times r es → slice_get cs' r ≡ slice_get cs r) → Leads cs flag a es b → Leads cs' flag a es b
  leads_frame cs cs' a [] b keeps h = h
  leads_frame cs cs' a (e ∷ es) b keeps h =
      let t = times_here e.place e.key es in
      (h.0, h.1, keeps e.place (omega arith) ∙ h.2, leads_frame cs cs' h.0 es b (λ r m. keeps r (omega arith)) h.3)

  -- the last cell of a chain is linked anew
  pub leads_relinked : (cs : List (Cell K)) (a : Link) (xs : List (Entry K)) (q : ℕ) (y : K) (l b : Link) → times q xs ≡ 0 → Leads cs flag a (xs ++ entry q y ∷ []) b → Leads (rewritten cs q (linked l)) flag a (xs ++ entry q y ∷ []) l
  leads_relinked cs a xs q y l b apart h =
      let r = leads_split cs a xs (entry q y ∷ []) b h in
      leads_join (rewritten cs q (linked l)) a xs r.0 (entry q y ∷ []) l
      (leads_frame cs (rewritten cs q (linked l)) a xs r.0 (λ r m. rewritten_other cs q (linked l) r (λ e. let z : 1 ≤ times q xs = rw e at m in omega arith)) r.1)
      (l, r.2.1, rewritten_same cs q (linked l) r.2.2, refl)

  pub leads_links : (cs : List (Cell K)) (a : Link) (es : List (Entry K)) (b : Link) → Leads cs flag a es b → Links cs a es b
  leads_links cs a [] b h = h
  leads_links cs a (e ∷ es) b h = (h.0, flag, h.1, h.2, leads_links cs h.0 es b h.3)

  -- a shorter way along the same links is a front of the whole chain
  pub record Front (cs : List (Cell K)) (a : Link) (es fs : List (Entry K)) (b : Link) : Type 0 where
    pub rest : List (Entry K)
    pub is : es ≡ fs ++ rest
    pub front : Leads cs flag a fs b
    pub onward : Leads cs flag b rest None

  entry_same : (e f : Entry K) → e.place ≡ f.place → e.key ≡ f.key → e ≡ f
  entry_same e f p q = λ i. record { place = p i; key = q i }

  pub front_of : (cs : List (Cell K)) (a : Link) (es fs : List (Entry K)) (b : Link) → Leads cs flag a es None → Links cs a fs b → Front cs a es fs b
  front_of cs a es [] b h k = record { rest = es; is = refl; front = k; onward = subst (λ l. Leads cs flag l es None) k h }
  front_of cs a [] (f ∷ fs) b h k = absurd (none_some (sym h ∙ k.2))
  front_of cs a (e ∷ es) (f ∷ fs) b h k =
      let at : e.place ≡ f.place = some_inj (sym h.1 ∙ k.2) in
      let met : Some (cell e.key h.0 flag) ≡ Some (cell f.key k.0 k.1) = sym h.2 ∙ ap (slice_get cs) at ∙ k.3 in
      let same : cell e.key h.0 flag ≡ cell f.key k.0 k.1 = some_inj met in
      let r = front_of cs k.0 es fs b (subst (λ l. Leads cs flag l es None) (ap (λ (c : Cell K). c.link) same) h.3) k.4 in
      record {
        rest = r.rest;
        is = ap₂' (entry_same e f at (ap (λ (c : Cell K). c.key) same)) r.is;
        front = (k.0, k.2, k.3 ∙ ap (λ b. Some (cell f.key k.0 b)) (sym (ap (λ (c : Cell K). c.listed) same)), r.front);
        onward = r.onward;
      }
    where
      ap₂' : {x y : Entry K} {xs ys : List (Entry K)} → x ≡ y → xs ≡ ys → x ∷ xs ≡ y ∷ ys
      ap₂' p q = λ i. p i ∷ q i

-- the place behind which the entries of a list end: none at the start
pub data Lead {K : Type 0} : List (Entry K) → Option ℕ → Type 0 where
  start : Lead [] None
  after : (xs : List (Entry K)) (q : ℕ) (y : K) → Lead (xs ++ entry q y ∷ []) (Some q)

module _ {K : Type 0} (m : Memory K) (l : Link) where
  -- the link behind the entries is set: they are met as before, and then l
  pub led_leads : (xs : List (Entry K)) (lead : Option ℕ) (b : Link) → Lead xs lead → ((r : ℕ) → times r xs ≤ 1) → Leads m.cells true m.head xs b → Leads (leading_set lead l m).cells true (leading_set lead l m).head xs l
  led_leads xs lead b start few h = refl
  led_leads xs lead b (after ys q y) few h =
      leads_relinked true m.cells m.head ys q y l b (let f = few q in let t = times_middle q y ys [] in omega arith) h

  -- and every cell that is not among them stays
  pub led_other : (xs : List (Entry K)) (lead : Option ℕ) → Lead xs lead → (r : ℕ) → times r xs ≡ 0 → slice_get (leading_set lead l m).cells r ≡ slice_get m.cells r
  led_other xs lead start r h = refl
  led_other xs lead (after ys q y) r h =
      rewritten_other m.cells q (linked l) r (λ e. let t = times_middle q y ys [] in let z : times q (ys ++ entry q y ∷ []) ≡ 0 = rw e at h in omega arith)
