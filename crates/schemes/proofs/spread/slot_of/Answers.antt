use Rattle.std.proofs.Common.{ℕ, ◌%◌, ◌<◌, get_or, sym, ap, ◌∙◌, subst}
use Rattle.schemes.specs.Spread.{entries, slot}
use Rattle.schemes.proofs.Slots.{slot_below}
use Rattle.schemes.proofs.spread.slot_of.Goals as goal

pub returns : goal.returns
unfolding slot
returns c =
    let value = c.spread_entry.ensures ∙ ap (λ n. get_or entries (n % 16) 0) c.index.ensures in
    record { value = value; below = subst (λ (n : ℕ). n < 16) (sym value) (slot_below c.args.p.number) }
