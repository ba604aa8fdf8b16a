-- How the charge of a term is made up of those of its operations.
use Rattle.std.specs.Prelude.{ℕ, zero, suc, ◌+◌, ◌*◌}
use Rattle.geo_terms.specs.Stores.{Store, tree_of}
use Rattle.geo_terms.specs.Trees.{Tree, addition, subtraction, multiplication, division}
use Rattle.fraction_poly.specs.declared.numbers.Numbers.{Numbers}
use Rattle.fraction_poly.specs.Measures.{numbers_of, turned_numbers}

-- for n1 d2 + n2 d1 over d1 d2
abbrev pub sum_charge : Numbers → Numbers → ℕ
sum_charge a b = a.kn * b.kd + b.kn * a.kd + a.kd * b.kd

-- for n1 n2 over d1 d2
abbrev pub product_charge : Numbers → Numbers → ℕ
product_charge a b = a.kn * b.kn + a.kd * b.kd

-- for the last operation of a term, without those of its parts
abbrev pub own_charge : Tree → ℕ
own_charge (addition e f) = sum_charge (numbers_of e) (numbers_of f)
own_charge (subtraction e f) = sum_charge (numbers_of e) (numbers_of f)
own_charge (multiplication e f) = product_charge (numbers_of e) (numbers_of f)
own_charge (division e f) = product_charge (numbers_of e) (turned_numbers (numbers_of f))
own_charge _ = 0

-- f of each number below n, summed
abbrev pub range_sum : (ℕ → ℕ) → ℕ → ℕ
range_sum f zero = 0
range_sum f (suc n) = range_sum f n + f n

-- for the operation of the term at an index
abbrev pub own_charge_at : Store → ℕ → ℕ
own_charge_at nodes k = own_charge (tree_of nodes (record { 0 = k }))

-- for those of the first n terms of a store
abbrev pub charge_below : Store → ℕ → ℕ
charge_below nodes n = range_sum (own_charge_at nodes) n
