-- What the driver says of calls on an index that is made for them. Assumes nothing.
use Rattle.std.proofs.Common.{◌≡◌, ℕ, zero, suc, Bool, true, false, cond, ◌&&◌, List, ◌∷◌, map, replicate, length, sym, refl, ap, ◌∙◌, subst, arith}
use Rattle.std.proofs.lemmas.Bool.{eq-eqb}
use Rattle.basis.specs.declared.refusal.Refusal.{Refusal}
use Rattle.basis.specs.declared.refusal.Refusal.TheVariants.{WrongSizes}
use Rattle.basis.specs.declared.answer.Answer.{Answer}
use Rattle.basis.specs.declared.answer.Answer.TheVariants.{Refused}
use Rattle.key_types.specs.declared.sector.Sector.{Sector}
use Rattle.marks.specs.Meaning.{Table, Order}
use Rattle.marks.specs.Carried.{ActsBy}
use Rattle.list_driver.specs.Asks.{runnable, Ran}
use Rattle.list_law.specs.Call.{Cell, State}
use Rattle.list_law.specs.Making.{makes}
use Rattle.list_law.specs.Performed.{Ask, answers_from}
use Rattle.key_types.specs.Sector.{sector_below}
use Rattle.list_law.proofs.Driven.{driven_at}
use Rattle.list_law.proofs.Computed.{answers_computed}
use Rattle.replay.specs.Runs.{MadeAndRun}

-- the same made of each of some that are the same
pub map_replicate : {X Y : Type 0} (f : X → Y) (n : ℕ) (x : X) → map f (replicate n x) ≡ replicate n (f x)
map_replicate f zero x = refl
map_replicate f (suc n) x = ap (λ l. f x ∷ l) (map_replicate f n x)

-- accepted, or not
told : (b : Bool) → cond b Answer.Ok (Refused WrongSizes) ≡ Answer.Ok → b ≡ true
told true e = refl
told false e = let z : ◌≡◌ {A = ℕ} 0 1 = cc in absurd (omega arith)

-- refused, and how
told_refused : (b : Bool) (e : Refusal) → cond b Answer.Ok (Refused WrongSizes) ≡ Refused e → (b ≡ false) × (e ≡ WrongSizes)
told_refused true e h = let z : ◌≡◌ {A = ℕ} 0 1 = cc in absurd (omega arith)
told_refused false e h = (refl, let same : WrongSizes ≡ e = cc in sym same)

module _ {M : Type 0} (table : M → Table) (strict : Bool) (acts : Order → M → M → Type 0)
    (n r w : ℕ) (asks : List (Ask Sector)) (before : List Answer) (s : State Sector M) (a : Answer) (after : List Answer) (s' : State Sector M)
    (ran : Ran sector_below table strict acts n r w asks before s a after s')
    (sixteen : r ≡ 16) (rows : length s.rows ≡ 16) (cells : length s.cells ≡ n) (as_many : length asks ≡ length before) where
  fits : runnable n r w (length asks) (length before) ≡ makes n 16 w
  fits = λ i. eq-eqb (length asks) (length before) as_many i && makes n (sixteen i) w

  pub accepted : a ≡ Answer.Ok → makes n 16 w ≡ true
  accepted e = sym fits ∙ told _ (sym ran.answer ∙ e)

  pub refused : (e : Refusal) → a ≡ Refused e → (makes n 16 w ≡ false) × (e ≡ WrongSizes)
  refused e h = let both = told_refused _ e (sym ran.answer ∙ h) in (sym fits ∙ both.0, both.1)

  pub over : a ≡ Answer.Ok → MadeAndRun table strict acts s.cells w s.marks asks after
  over e =
      let yes = accepted e in
      let d = ran.driven (fits ∙ yes) in
      let sized : makes (length s.cells) (length s.rows) w ≡ true = (λ i. makes (cells i) (rows i) w) ∙ yes in
      record {
        start = d.0;
        end = s';
        made = d.1.made sized;
        released = d.1.marks sized;
        driven = driven_at (sym cells) refl d.2;
      }

-- the same cells and the same answers
pub over_as : {M : Type 0} (table : M → Table) (strict : Bool) (acts : Order → M → M → Type 0) {given given' : List (Cell Sector)} (w : ℕ) (m : M) (asks : List (Ask Sector)) {answers answers' : List Answer} → given ≡ given' → answers ≡ answers' → MadeAndRun table strict acts given w m asks answers → MadeAndRun table strict acts given' w m asks answers'
over_as table strict acts w m asks e f o = subst (λ (x : List (Cell Sector) × List Answer). MadeAndRun table strict acts x.0 w m asks x.1) (λ i. (e i, f i)) o

-- over a scheme whose acts are a function of its state, the answers are computed from that state
pub over_computes : {M N : Type 0} (state : M → N) (get : N → Table) (strict : Bool) (act : Order → N → N) (given : List (Cell Sector)) (w : ℕ) (m : M) (asks : List (Ask Sector)) (answers : List Answer) (n : N) → state m ≡ n
    → MadeAndRun (λ (x : M). get (state x)) strict (ActsBy state act) given w m asks answers → answers ≡ answers_from sector_below get act given w n asks
over_computes state get strict act given w m asks answers n e o =
    answers_computed sector_below state get strict act given w m o.start asks answers o.end o.made o.released o.driven.in_turn ∙ ap (λ x. answers_from sector_below get act given w x asks) e
