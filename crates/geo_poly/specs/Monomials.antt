-- A monomial: its variables in order, with exponents of at least 1.
use Rattle.std.specs.Prelude.{◌≡◌, ℕ, ◌+◌, ◌<◌, ◌≤◌, ◌==◌, List, ◌++◌, sum_by}
use Rattle.std.specs.Ordering.{on, nat_cmp, then_cmp, flip_args}
use Rattle.std.specs.Cmp.Lexicographic.{slice_cmp}
use Rattle.std.specs.declared.cmp.Ordering.{Ordering}
use Rattle.std.specs.declared.cmp.Ordering.TheVariants.{Less}
use Rattle.geo_poly.specs.declared.variables.Var.{Var}
use Rattle.geo_poly.specs.Variables.{var_cmp}
use Rattle.sparse_lists.specs.SparseLists.{Amounts, IsCanonical, amount, canonical}

-- variables with their exponents
abbrev pub Powers : Type 0
Powers = List (Var × ℕ)

-- exponents add up, and 0 is that of an absent variable
abbrev pub exponents : Amounts ℕ
exponents = record { zero = 0; add = ◌+◌; is_zero = λ e. e == 0 }

-- the exponent of a variable, 0 where the monomial lacks it
abbrev pub exponent : Var → Powers → ℕ
exponent = amount var_cmp exponents

-- the sum of the exponents
abbrev pub degree_of : Powers → ℕ
degree_of m = sum_by (λ p. p.1) m

-- the variables in order, each with an exponent of at least 1, and the degree within its bound
pub record IsMonomial (m : Powers) : Type 0 where
  pub in_order : IsCanonical var_cmp exponents m
  pub degree_fits : degree_of m ≤ 65535

-- the product: the exponents add up
abbrev pub product : Powers → Powers → Powers
product m n = canonical var_cmp exponents (m ++ n)

-- the earlier variable makes the greater power, and then the greater exponent
abbrev pub power_cmp : Var × ℕ → Var × ℕ → Ordering
power_cmp = then_cmp (flip_args (on (λ p. p.0) var_cmp)) (on (λ p. p.1) nat_cmp)

-- the greater monomial has the greater exponent at the first variable in which they differ
abbrev pub monomial_cmp : Powers → Powers → Ordering
monomial_cmp = slice_cmp power_cmp

-- m stands before n: it has the greater exponent at the first variable in which they differ
pub record IsEarlier (m n : Powers) : Type 0 where
  pub at : Var
  pub greater : exponent at n < exponent at m
  pub same_before : (v : Var) → var_cmp v at ≡ Less → exponent v m ≡ exponent v n
