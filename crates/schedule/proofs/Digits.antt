-- Numbers of four and of five digits. Assumes nothing.
use Rattle.std.proofs.Common.{◌≡◌, ℕ, ◌+◌, ◌/◌, ◌%◌, ◌<◌, ◌≤◌, List, [], ◌∷◌, ◌++◌, decimal, sym, ap, ◌∙◌, subst, arith}
use Rattle.std.specs.Str.{IsUtf8}
use Rattle.std.proofs.lemmas.Fmt.{decimal_step, decimal_digit, IsAscii-decimal}
use Rattle.std.proofs.lemmas.Str.{IsUtf8-from_ascii}

-- one digit more behind those of a tenth of the number
step : (n : ℕ) (ds : List ℕ) → 10 ≤ n → n < 100000 → ds ≡ decimal (n / 10) → ds ++ (48 + n % 10) ∷ [] ≡ decimal n
step n ds h k e = ap (λ l. l ++ (48 + n % 10) ∷ []) e ∙ sym (decimal_step n h (omega arith))

pub three : (n : ℕ) → 100 ≤ n → n < 1000 → (48 + n / 10 / 10) ∷ ((48 + n / 10 % 10) ∷ ((48 + n % 10) ∷ [])) ≡ decimal n
three n h k =
    step n ((48 + n / 10 / 10) ∷ ((48 + n / 10 % 10) ∷ [])) (omega arith) (omega arith)
    (step (n / 10) ((48 + n / 10 / 10) ∷ []) (omega arith) (omega arith) (sym (decimal_digit (n / 10 / 10) (omega arith))))

pub four : (n : ℕ) → 1000 ≤ n → n < 10000 → (48 + n / 10 / 10 / 10) ∷ ((48 + n / 10 / 10 % 10) ∷ ((48 + n / 10 % 10) ∷ ((48 + n % 10) ∷ []))) ≡ decimal n
four n h k = step n _ (omega arith) (omega arith) (three (n / 10) (omega arith) (omega arith))

pub five : (n : ℕ) → 10000 ≤ n → n < 100000 → (48 + n / 10 / 10 / 10 / 10) ∷ ((48 + n / 10 / 10 / 10 % 10) ∷ ((48 + n / 10 / 10 % 10) ∷ ((48 + n / 10 % 10) ∷ ((48 + n % 10) ∷ [])))) ≡ decimal n
five n h k = step n _ (omega arith) (omega arith) (four (n / 10) (omega arith) (omega arith))

-- they are text
pub digits_are_text : (n : ℕ) (ds : List ℕ) → n < 100000 → ds ≡ decimal n → IsUtf8 ds
digits_are_text n ds h e = subst IsUtf8 (sym e) (IsUtf8-from_ascii (decimal n) (IsAscii-decimal n (omega arith)))
