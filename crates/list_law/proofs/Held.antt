-- How far a seat has come by its waits since the last change by others: its mark's rank in the list. Assumes nothing.
use Rattle.std.proofs.Common.{◌≡◌, ℕ, zero, suc, pred, ◌≤◌, Bool, true, false, List, [], ◌∷◌, ◌++◌, length, Some, None, sym, ap, ◌∙◌, subst, append_assoc, arith, length-append}
use Rattle.std.proofs.lemmas.Bool.{both_ways}
use Rattle.marks.specs.Meaning.{Table}
use Rattle.list_law.specs.Call.{Link, State, row_at, reach}
use Rattle.list_law.specs.Law.{Entry, entry, Leads, first_link, link_behind, most_waits}
use Rattle.list_law.proofs.Chain.{leads_join, leads_split, leads_links, front_of}
use Rattle.list_law.proofs.Walk.{Started}
use Rattle.list_law.proofs.Width.{reach_least, reach_some, reach_again, low, most_holds}
use Rattle.list_law.proofs.Invariant.{is_running}

-- the seat's mark stands, and that many entries or more lead up to it
pub record Behind {K M : Type 0} (table : M → Table) (s : State K M) (t c : ℕ) : Type 0 where
  pub place : ℕ
  pub before : List (Entry K)
  pub key : K
  pub end : Link
  pub marked : table s.marks t ≡ Some place
  pub leads : Leads s.cells true s.anchor.head (before ++ entry place key ∷ []) end
  pub far : low t s.anchor.window c ≤ suc (length before)

abbrev pub Held : {K M : Type 0} → (M → Table) → State K M → ℕ → ℕ → Type 0
Held table s t zero = Unit {0}
Held table s t (suc c) = is_running (row_at s.rows t) ≡ true → Behind table s t (suc c)

module _ {K M : Type 0} (table : M → Table) (s s' : State K M) (u : ℕ) where
  -- nothing that a seat's waits depend on has changed
  pub held_kept : (c : ℕ) → s'.cells ≡ s.cells → s'.anchor ≡ s.anchor → row_at s'.rows u ≡ row_at s.rows u
      → (is_running (row_at s'.rows u) ≡ true → table s'.marks u ≡ table s.marks u) → Held table s u c → Held table s' u c
  held_kept zero cells anchor row mark h = tt
  held_kept (suc c) cells anchor row mark h = λ runs.
      let b = h (ap is_running (sym row) ∙ runs) in
      record {
        place = b.place;
        before = b.before;
        key = b.key;
        end = b.end;
        marked = mark runs ∙ b.marked;
        leads = subst (λ cs. Leads cs true s'.anchor.head (b.before ++ entry b.place b.key ∷ []) b.end) (sym cells)
            (subst (λ an. Leads s.cells true an.head (b.before ++ entry b.place b.key ∷ []) b.end) (sym anchor) b.leads);
        far = subst (λ an. low u an.window (suc c) ≤ suc (length b.before)) (sym anchor) b.far;
      }

  pub held_over : (c : ℕ) → is_running (row_at s'.rows u) ≡ false → Held table s' u c
  held_over zero h = tt
  held_over (suc c) h = λ runs. absurd (both_ways (is_running (row_at s'.rows u)) h runs)

-- a wait at place p: one window further
module _ {K M : Type 0} (below : K → K → Bool) (table : M → Table) (s s' : State K M) (t n : ℕ) (x : K) (listed : List (Entry K))
    (start : Started below s.cells s.anchor.head x listed (pred (reach t s.anchor.window (table s.marks t))) (table s.marks t))
    (wide : 1 ≤ s.anchor.window) (from_head : Leads s.cells true s.anchor.head listed None) (fits : length listed ≤ n)
    (fs : List (Entry K)) (p : ℕ) (y : K) (bs : List (Entry K)) (is : start.rest ≡ fs ++ entry p y ∷ bs) (long : length fs ≡ pred (reach t s.anchor.window (table s.marks t)))
    (cells : s'.cells ≡ s.cells) (anchor : s'.anchor ≡ s.anchor) (mark : table s'.marks t ≡ Some p) where
  -- a way from the head to the place, at least as long as it must be
  record Way (c : ℕ) : Type 0 where
    before : List (Entry K)
    end : Link
    leads : Leads s.cells true s.anchor.head (before ++ entry p y ∷ []) end
    far : low t s.anchor.window (suc c) ≤ suc (length before)

  ahead : (b : Link) × Leads s.cells true (first_link s.cells s.anchor.head (table s.marks t)) (fs ++ entry p y ∷ []) b × Leads s.cells true b bs None
  ahead = leads_split true s.cells (first_link s.cells s.anchor.head (table s.marks t)) (fs ++ entry p y ∷ []) bs None
      (subst (λ r. Leads s.cells true (first_link s.cells s.anchor.head (table s.marks t)) r None) (is ∙ sym (append_assoc fs (entry p y ∷ []) bs)) start.leads)

  first_way : Way 0
  first_way =
      let whole : listed ≡ ((start.done ++ fs) ++ entry p y ∷ []) ++ bs =
      start.is ∙ ap (λ r. start.done ++ r) is ∙ sym (append_assoc start.done fs (entry p y ∷ bs)) ∙ sym (append_assoc (start.done ++ fs) (entry p y ∷ []) bs) in
      let r = leads_split true s.cells s.anchor.head ((start.done ++ fs) ++ entry p y ∷ []) bs None (subst (λ l. Leads s.cells true s.anchor.head l None) whole from_head) in
      record { before = start.done ++ fs; end = r.0; leads = r.1; far = omega (arith, length-append start.done fs, long, reach_least t s.anchor.window (table s.marks t) wide, reach_some t s.anchor.window (table s.marks t) wide) }

  next_way : (c : ℕ) → Behind table s t (suc c) → Way (suc c)
  next_way c b =
      let r = leads_split true s.cells s.anchor.head b.before (entry b.place b.key ∷ []) b.end b.leads in
      let width : reach t s.anchor.window (table s.marks t) ≡ s.anchor.window = ap (reach t s.anchor.window) b.marked ∙ reach_again t s.anchor.window b.place in
      let on : first_link s.cells s.anchor.head (table s.marks t) ≡ b.end = ap (first_link s.cells s.anchor.head) b.marked ∙ ap link_behind r.2.2 ∙ r.2.3 in
      record {
        before = (b.before ++ entry b.place b.key ∷ []) ++ fs;
        end = ahead.0;
        leads = subst (λ l. Leads s.cells true s.anchor.head l ahead.0) (sym (append_assoc (b.before ++ entry b.place b.key ∷ []) fs (entry p y ∷ [])))
            (leads_join true s.cells s.anchor.head (b.before ++ entry b.place b.key ∷ []) b.end (fs ++ entry p y ∷ []) ahead.0 b.leads
            (subst (λ l. Leads s.cells true l (fs ++ entry p y ∷ []) ahead.0) on ahead.1));
        far = omega (arith, length-append (b.before ++ entry b.place b.key ∷ []) fs, length-append b.before (entry b.place b.key ∷ []), b.far, long, width, wide);
      }

  way_held : (c : ℕ) → Way c → Held table s' t (suc c) × (suc c ≤ most_waits n s.anchor.window t)
  way_held c way =
      let front = front_of true s.cells s.anchor.head listed (way.before ++ entry p y ∷ []) way.end from_head (leads_links true s.cells s.anchor.head (way.before ++ entry p y ∷ []) way.end way.leads) in
      let short : low t s.anchor.window (suc c) ≤ n =
      omega (arith, way.far, fits, ap length front.is, length-append (way.before ++ entry p y ∷ []) front.rest, length-append way.before (entry p y ∷ [])) in (
        (λ _. record {
          place = p;
          before = way.before;
          key = y;
          end = way.end;
          marked = mark;
          leads = subst (λ cs. Leads cs true s'.anchor.head (way.before ++ entry p y ∷ []) way.end) (sym cells)
              (subst (λ an. Leads s.cells true an.head (way.before ++ entry p y ∷ []) way.end) (sym anchor) way.leads);
          far = subst (λ an. low t an.window (suc c) ≤ suc (length way.before)) (sym anchor) way.far;
        }),
        most_holds n s.anchor.window t c wide short,
      )

  pub held_waits : (c : ℕ) → is_running (row_at s.rows t) ≡ true → Held table s t c → Held table s' t (suc c) × (suc c ≤ most_waits n s.anchor.window t)
  held_waits zero runs h = way_held 0 first_way
  held_waits (suc c) runs h = way_held (suc c) (next_way c (h runs))
