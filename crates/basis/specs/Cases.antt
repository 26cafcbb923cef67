-- How a case of an enum that is given as an answer is told. Assumes nothing.
use Rattle.std.specs.Prelude.{ℕ, List}

-- the number of the case, its word in ASCII, and the numbers that it carries
pub record Case : Type 0 where
  pub number : ℕ
  pub word : List ℕ
  pub values : List ℕ

abbrev pub case_of : ℕ → List ℕ → List ℕ → Case
case_of n w vs = record { number = n; word = w; values = vs }
