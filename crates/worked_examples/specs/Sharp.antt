-- Promises stronger than the law, of sectors over the full scheme, that are false. Assumes nothing.
use Rattle.std.specs.Prelude.{ℕ, Bool, true, cond, ◌&&◌, Some, None, Option, ◌==◌, nat_le, nat_lt}
use Rattle.key_types.specs.Sector.{sector_below}
use Rattle.schemes.specs.Full.{full_get}
use Rattle.list_law.specs.Call.{reach}
use Rattle.list_law.specs.Law.{Law, Windows, limit}
use Rattle.worked_examples.specs.Worked.{full_acts}

-- the law with the bound `less limit` where it is tried, by cells, window and seat, and the limit itself elsewhere
abbrev pub LawWith : (ℕ → ℕ) → (ℕ → ℕ → ℕ → Bool) → Type 0
LawWith less tried =
    Law sector_below full_get true full_acts (λ n w t kind k. cond (tried n w t) (less (limit n w t kind k)) (limit n w t kind k))

-- the rule of waits with these widths from the head and from a mark, by the width that it has, and with these marks
abbrev pub width_with : (ℕ → ℕ) → (ℕ → ℕ) → ℕ → ℕ → Option ℕ → ℕ
width_with from_head from_mark t w None = from_head (reach t w None)
width_with from_head from_mark t w (Some p) = from_mark (reach t w (Some p))

abbrev pub RuleWith : (ℕ → ℕ) → (ℕ → ℕ) → (ℕ → ℕ) → Type 0
RuleWith from_head from_mark = Windows sector_below full_get true full_acts (width_with from_head from_mark)

-- each promise alone, made stronger, is refuted. The bound: for seat 0, whose first window meets one cell; for the seats whose first window
-- meets more, but no more than there are; and for those whose first window may meet more than there are
pub record Sharp (less wider next : ℕ → ℕ) : Type 0 where
  pub bound_of_seat_0 : LawWith less (λ n w t. t == 0) → ⊥
  pub bound_of_others : LawWith less (λ n w t. nat_lt 1 (reach t w None) && nat_le (reach t w None) n) → ⊥
  pub bound_of_few_cells : LawWith less (λ n w t. nat_lt n (reach t w None)) → ⊥
  pub width_from_head : RuleWith wider (λ m. m) (λ p. p) → ⊥
  pub width_from_mark : RuleWith (λ m. m) wider (λ p. p) → ⊥
  pub place : RuleWith (λ m. m) (λ m. m) next → ⊥
