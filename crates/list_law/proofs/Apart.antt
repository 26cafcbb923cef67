-- Seats that begin at the head of the same list wait at different cells, unless they have the same width there. Assumes nothing.
use Rattle.std.proofs.Common.{◌≡◌, ℕ, suc, ◌≤◌, ◌%◌, Bool, true, List, [], ◌∷◌, ◌++◌, length, drop, None, sym, refl, ap, ◌∙◌, subst, append_assoc, arith}
use Rattle.keys.specs.Total.{Total}
use Rattle.marks.specs.Meaning.{Table, Order}
use Rattle.ledger.specs.Law.{Event, is_accepted}
use Rattle.list_law.specs.Call.{Link, Cell, State, reach}
use Rattle.list_law.specs.Law.{Entry, entry, Links, Meets, first_link, times}
use Rattle.list_law.specs.Apart.{FirstWait, StopApart}
use Rattle.list_law.proofs.Lists.{some_inj}
use Rattle.list_law.proofs.Chain.{times_here, times_middle, front_of}
use Rattle.list_law.proofs.Lawful.{inv_of, windows}

-- a place that is met once has one rank
same_rank : {K : Type 0} (p : ℕ) (xs ys us vs : List (Entry K)) (x y : K) → times p (xs ++ entry p x ∷ us) ≤ 1
    → xs ++ entry p x ∷ us ≡ ys ++ entry p y ∷ vs → length xs ≡ length ys
same_rank p [] [] us vs x y once same = refl
same_rank p [] (f ∷ ys) us vs x y once same =
    let again : times p us ≡ times p (ys ++ entry p y ∷ vs) = ap (times p) (ap (drop 1) same) in
    absurd (omega (arith, once, again, times_here p x us, times_middle p y ys vs))
same_rank p (e ∷ xs) [] us vs x y once same =
    let again : times p (e ∷ xs ++ entry p x ∷ us) ≡ times p (entry p y ∷ vs) = ap (times p) same in
    let rest : times p (xs ++ entry p x ∷ us) ≡ times p vs = ap (times p) (ap (drop 1) same) in
    absurd (omega (arith, once, again, rest, times_here p y vs, times_middle p x xs us))
same_rank p (e ∷ xs) (f ∷ ys) us vs x y once same =
    ap suc (same_rank p xs ys us vs x y (omega (arith, once)) (ap (drop 1) same))

module _ {K M : Type 0} (below : K → K → Bool) (order : Total below) (table : M → Table) (strict : Bool) (acts : Order → M → M → Type 0) where
  -- as many cells lead up to the place, and include it, as the window from the head is wide
  record Way (cs : List (Cell K)) (head : Link) (t w p : ℕ) : Type 0 where
    before : List (Entry K)
    key : K
    end : Link
    links : Links cs head (before ++ entry p key ∷ []) end
    long : suc (length before) ≡ reach t w None

  way : (n w : ℕ) (s : State K M) (e : Event K) (p : ℕ) → FirstWait below table strict acts n w s e p → Way s.cells s.anchor.head e.call.seat w p
  way n w s e p f =
      let rule = (windows below order table strict acts n w f.events s f.run e f.after f.next f.kind f.target f.steps f.under_way (ap is_accepted f.waits)).0 in
      let met = rule.waits.0 f.waits in
      let m : Meets below s.cells (first_link s.cells s.anchor.head (table s.marks e.call.seat)) f.target (reach e.call.seat w (table s.marks e.call.seat)) met.0 = met.1 in
      let at : met.0 ≡ p = some_inj (sym (rule.marked met.0 met.1) ∙ f.marked) in
      subst (λ q. Way s.cells s.anchor.head e.call.seat w q) at (record {
        before = m.before;
        key = m.key;
        end = m.end;
        links = subst (λ mark. Links s.cells (first_link s.cells s.anchor.head mark) (m.before ++ entry met.0 m.key ∷ []) m.end) f.unmarked m.links;
        long = m.long ∙ ap (reach e.call.seat w) f.unmarked;
      })

  pub stop_apart : StopApart below table strict acts (λ t w. t % w)
  unfolding reach
  stop_apart n w s s' e e' p cells head f f' =
      let v = inv_of below order table strict acts n w f.events s f.run in
      let a = way n w s e p f in
      let b = way n w s' e' p f' in
      let links : Links s.cells s.anchor.head (b.before ++ entry p b.key ∷ []) b.end =
      subst (λ cs. Links cs s.anchor.head (b.before ++ entry p b.key ∷ []) b.end) cells
      (subst (λ l. Links s'.cells l (b.before ++ entry p b.key ∷ []) b.end) head b.links) in
      let front_a = front_of true s.cells s.anchor.head v.listed (a.before ++ entry p a.key ∷ []) a.end v.shape.from_head a.links in
      let front_b = front_of true s.cells s.anchor.head v.listed (b.before ++ entry p b.key ∷ []) b.end v.shape.from_head links in
      let is_a : v.listed ≡ a.before ++ entry p a.key ∷ front_a.rest = front_a.is ∙ append_assoc a.before (entry p a.key ∷ []) front_a.rest in
      let is_b : v.listed ≡ b.before ++ entry p b.key ∷ front_b.rest = front_b.is ∙ append_assoc b.before (entry p b.key ∷ []) front_b.rest in
      let once : times p (a.before ++ entry p a.key ∷ front_a.rest) ≤ 1 = omega (arith, v.shape.most p, ap (times p) is_a) in
      let same = same_rank p a.before b.before front_a.rest front_b.rest a.key b.key once (sym is_a ∙ is_b) in
      omega (arith, same, a.long, b.long)
