-- The width of a window, as far as the proofs know it: at least one cell, from the head no more than from a mark, and how many waits
-- in a row that allows. Assumes nothing.
use Rattle.std.proofs.Common.{◌≡◌, ℕ, zero, suc, ◌+◌, ◌-◌, ◌*◌, ◌/◌, ◌%◌, ◌<◌, ◌≤◌, cond, Some, None, Option, refl, sym, subst, arith}
use Rattle.std.proofs.lemmas.Bool.{le-leb}
use Rattle.std.proofs.lemmas.Nat.{le-div, mod_below}
use Rattle.list_law.specs.Call.{reach}
use Rattle.list_law.specs.Law.{most_waits}

pub reach_some : (t w : ℕ) (mark : Option ℕ) → 1 ≤ w → 1 ≤ reach t w mark
unfolding reach
reach_some t w None wide = omega arith
reach_some t w (Some p) wide = wide

pub reach_least : (t w : ℕ) (mark : Option ℕ) → 1 ≤ w → reach t w None ≤ reach t w mark
unfolding reach
reach_least t w None wide = omega arith
reach_least t w (Some p) wide = let short : t % w < w = mod_below t w wide in omega (arith, short)

pub reach_again : (t w p : ℕ) → reach t w (Some p) ≡ w
unfolding reach
reach_again t w p = refl

-- the least rank of a mark after c waits in a row: the first window from the head, and the others from a mark
abbrev pub low : ℕ → ℕ → ℕ → ℕ
low t w zero = 0
low t w (suc c) = reach t w None + c * w

pub most_holds : (n w t c : ℕ) → 1 ≤ w → low t w (suc c) ≤ n → suc c ≤ most_waits n w t
most_holds n w t c wide h =
    let f = reach t w None in
    let few : f ≤ n = omega (arith, h) in
    let on : c ≤ (n - f) / w = le-div c (n - f) w wide (omega (arith, h)) in
    subst (λ b. suc c ≤ cond b (1 + (n - f) / w) 0) (sym (le-leb f n few)) (omega (arith, on))
