-- One line more. Assumes nothing.
use Rattle.std.proofs.Common.{◌≡◌, ℕ, suc, ◌+◌, List, [], ◌∷◌, ◌++◌, length, sym, ap, ◌∙◌, append_assoc, append-nil, arith}
use Rattle.basis.specs.declared.answer.Answer.{Answer}
use Rattle.schedule.specs.Lines.{line_of, lines_from}

pub lines_more : (n : ℕ) (before : List Answer) (a : Answer) (k : ℕ) → k ≡ n + length before → lines_from n (before ++ a ∷ []) ≡ lines_from n before ++ line_of k a
unfolding lines_from
lines_more n [] a k e = append-nil (line_of n a) ∙ let is : n ≡ k = omega arith in ap (λ m. line_of m a) is
lines_more n (b ∷ before) a k e = ap (λ l. line_of n b ++ l) (lines_more (suc n) before a k (omega arith)) ∙ sym (append_assoc (line_of n b) (lines_from (suc n) before) (line_of k a))

-- the lines of some answers and then of others
pub lines_join : (n : ℕ) (before after : List Answer) (k : ℕ) → k ≡ n + length before → lines_from n (before ++ after) ≡ lines_from n before ++ lines_from k after
unfolding lines_from
lines_join n [] after k e = let is : n ≡ k = omega arith in ap (λ m. lines_from m after) is
lines_join n (b ∷ before) after k e = ap (λ l. line_of n b ++ l) (lines_join (suc n) before after k (omega arith)) ∙ sym (append_assoc (line_of n b) (lines_from (suc n) before) (lines_from k after))
