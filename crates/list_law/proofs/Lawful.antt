-- The law of every singly linked index. Assumes nothing.
use Rattle.std.proofs.Common.{ℕ, Bool, List, ◌∷◌, ap, subst, arith}
use Rattle.keys.specs.Total.{Total}
use Rattle.marks.specs.Meaning.{Table, Order}
use Rattle.ledger.specs.Law.{Event, Run, more, fed}
use Rattle.ledger.proofs.Lawful as generic
use Rattle.list_law.specs.Call.{State, reach}
use Rattle.list_law.specs.Law.{Law, Windows, Waits, list_index, most_waits, limit}
use Rattle.list_law.proofs.Invariant.{Inv, sound_of}
use Rattle.list_law.proofs.Held.{Held}
use Rattle.list_law.proofs.Calls.{called}
use Rattle.list_law.proofs.Making.{inv_made}

module _ {K M : Type 0} (below : K → K → Bool) (order : Total below) (table : M → Table) (strict : Bool) (acts : Order → M → M → Type 0) where
  pub law : Law below table strict acts limit
  law n w =
      generic.lawful below (list_index below table strict acts) n w (Inv below table n w) (Held table) (most_waits n w)
      (inv_made below table n w)
      (λ a s e s' v d. called below order table strict acts n w a s e s' v d)
      (λ s t. tt)
      (λ a s v. sound_of below table n w a s v)
      (limit n w) (λ t kind k. omega arith)

  -- the invariant of every run
  pub inv_of : (n w : ℕ) (es : List (Event K)) (s : State K M) → Run (list_index below table strict acts) n w es s → Inv below table n w (fed below n es) s
  inv_of n w es s r =
      generic.inv_of below (list_index below table strict acts) n w (Inv below table n w) (Held table) (most_waits n w)
      (inv_made below table n w)
      (λ a s e s' v d. called below order table strict acts n w a s e s' v d)
      (λ s t. tt)
      (λ a s v. sound_of below table n w a s v)
      (limit n w) (λ t kind k. omega arith) r

  -- the rule of waits, with the window that the index was made with
  pub windows : Windows below table strict acts reach (λ p. p)
  windows n w es s r e s' d k x what row ok =
      let rule = subst At (ap (λ v. reach e.call.seat v (table s.marks e.call.seat)) (inv_of n w es s r).window) ((law n w (e ∷ es) s' (more r d)).answers.0.rule k x what row ok) in
      (rule, rule.marked)
    where
      At : ℕ → Type 0
      At m =
          Waits below s.cells s.anchor.head (fed below n es).members (table s.marks e.call.seat) (table s'.marks e.call.seat) x m e.answer
