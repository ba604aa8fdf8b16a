-- How large a term's numerator and denominator may be, by the form of the term; and the charge for making them.
use Rattle.std.specs.Prelude.{ℕ, ◌+◌, ◌-◌, ◌*◌, ◌^◌, ◌<◌, ◌≤◌, List, map, max, min, unsigned_abs}
use Rattle.fraction_poly.specs.declared.numbers.Numbers.{Numbers}
use Rattle.geo_terms.specs.Stores.{Store, trees_of}
use Rattle.geo_terms.specs.Trees.{Tree, integer_leaf, parameter_leaf, area_leaf, pythagoras_leaf, ratio_leaf, negation, addition, subtraction, multiplication, division}

-- a parameter or a quantity over 1
abbrev pub variable_numbers : Numbers
variable_numbers = record { wn = 1; wd = 1; kn = 1; kd = 1; gn = 1; gd = 0; charge = 0 }

-- n1 d2 + n2 d1 over d1 d2, and the same with -
abbrev pub sum_numbers : Numbers → Numbers → Numbers
sum_numbers a b = record {
  wn = a.wn * b.wd + b.wn * a.wd;
  wd = a.wd * b.wd;
  kn = a.kn * b.kd + b.kn * a.kd;
  kd = a.kd * b.kd;
  gn = max (a.gn + b.gd) (b.gn + a.gd);
  gd = a.gd + b.gd;
  charge = a.charge + b.charge + a.kn * b.kd + b.kn * a.kd + a.kd * b.kd;
}

-- n1 n2 over d1 d2
abbrev pub product_numbers : Numbers → Numbers → Numbers
product_numbers a b = record {
  wn = a.wn * b.wn;
  wd = a.wd * b.wd;
  kn = a.kn * b.kn;
  kd = a.kd * b.kd;
  gn = a.gn + b.gn;
  gd = a.gd + b.gd;
  charge = a.charge + b.charge + a.kn * b.kn + a.kd * b.kd;
}

-- denominator over numerator, for the divisor of a division
abbrev pub turned_numbers : Numbers → Numbers
turned_numbers a = record { wn = a.wd; wd = a.wn; kn = a.kd; kd = a.kn; gn = a.gd; gd = a.gn; charge = a.charge }

-- the numbers of a term
abbrev pub numbers_of : Tree → Numbers
numbers_of (integer_leaf m) = record { wn = max 1 (unsigned_abs m); wd = 1; kn = 1; kd = 1; gn = 0; gd = 0; charge = 0 }
numbers_of (parameter_leaf t) = variable_numbers
numbers_of (area_leaf a b c) = variable_numbers
numbers_of (pythagoras_leaf a b c) = variable_numbers
numbers_of (ratio_leaf a b c d) = variable_numbers
numbers_of (negation e) = numbers_of e
numbers_of (addition e f) = sum_numbers (numbers_of e) (numbers_of f)
numbers_of (subtraction e f) = sum_numbers (numbers_of e) (numbers_of f)
numbers_of (multiplication e f) = product_numbers (numbers_of e) (numbers_of f)
numbers_of (division e f) = product_numbers (numbers_of e) (turned_numbers (numbers_of f))

-- a number past `2^128 - 1` is told as `2^128 - 1`
abbrev pub capped_number : ℕ → ℕ
capped_number n = min n (2 ^ 128 - 1)

-- each of the numbers so
abbrev pub capped : Numbers → Numbers
capped a = record {
  wn = capped_number a.wn;
  wd = capped_number a.wd;
  kn = capped_number a.kn;
  kd = capped_number a.kd;
  gn = capped_number a.gn;
  gd = capped_number a.gd;
  charge = capped_number a.charge;
}

-- the numbers of each term of a store, by index
abbrev pub store_numbers : Store → List Numbers
store_numbers nodes = map (λ e. capped (numbers_of e)) (trees_of nodes)

-- the weights and the degrees are within the bounds of a polynomial
pub record HaveRoom (a : Numbers) : Type 0 where
  pub numerator_weight : a.wn < 2 ^ 127
  pub denominator_weight : a.wd < 2 ^ 127
  pub numerator_degree : a.gn ≤ 65535
  pub denominator_degree : a.gd ≤ 65535

-- so are those of the term
pub record HasRoom (e : Tree) : Type 0 where
  pub numerator_weight : (numbers_of e).wn < 2 ^ 127
  pub denominator_weight : (numbers_of e).wd < 2 ^ 127
  pub numerator_degree : (numbers_of e).gn ≤ 65535
  pub denominator_degree : (numbers_of e).gd ≤ 65535
