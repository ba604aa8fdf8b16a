-- The variables of terms and of forms that are multiplied out are sorted.
use Rattle.std.proofs.Common.{true, false, cond, eqb, ℤ, pos, Option, Some, None, [], ◌∷◌, unsigned_abs}
use Rattle.std.specs.Prelude.{IfSome}
use Rattle.fraction_poly.specs.Forms.{integer, area, pythagoras, ratio, abscissa, ordinate, numerator, denominator, ◌⊞◌, ◌⊟◌, ◌⊠◌, opposite}
use Rattle.fraction_poly.specs.Laws.{FormsAreSorted, MultipliedOutIsSorted}
use Rattle.fraction_poly.specs.MultipliedOut.{canon_polynomial, multiplied_out}
use Rattle.geo_poly.specs.declared.canonical.Canon.{Canon}
use Rattle.geo_poly.specs.declared.variables.Var.{Var}
use Rattle.geo_poly.specs.declared.variables.Var.TheVariants.{R, S, P}
use Rattle.geo_poly.specs.Polynomials.{Summands, constant_of, product_of}
use Rattle.geo_poly.specs.PolynomialVariables.{AllVariables}
use Rattle.geo_poly.specs.SortedVariables.{IsSorted, IsSortedForm}
use Rattle.geo_poly.proofs.EachVariable.{of-product_of}
use Rattle.geo_poly.proofs.KeptVariables.{of-difference_of, of-negated, of-sum_of}
use Rattle.geo_poly.proofs.SortedForms.{forms_are_sorted}
use Rattle.geo_terms.specs.Trees.{Tree, integer_leaf, parameter_leaf, area_leaf, pythagoras_leaf, ratio_leaf, negation, addition, subtraction, multiplication, division}

abbrev AllSorted : Summands → Type 0
AllSorted q = AllVariables IsSorted q

constant : (z : ℤ) → AllSorted (constant_of z)
constant z = elim (eqb (unsigned_abs z) 0) as (λ b. AllSorted (cond b [] (([], z) ∷ []))) [ true ↦ tt | false ↦ (tt, tt) ]

canonical : (c : Canon) → IsSortedForm c → AllSorted (canon_polynomial c)
canonical c h = go c.var h.variable
  where
    go : (o : Option Var) → IfSome o IsSorted → AllSorted (canon_polynomial (record { sign = c.sign; var = o }))
    go None sorted = constant c.sign
    go (Some v) sorted = ((sorted, tt), tt)

-- TERMS
-- of a numerator and a denominator
record BothSorted (f : Summands × Summands) : Type 0 where
  num : AllSorted f.0
  den : AllSorted f.1

product : (p q : Summands) → AllSorted p → AllSorted q → AllSorted (product_of p q)
product = of-product_of IsSorted

over_one : (p : Summands) → AllSorted p → BothSorted (p, constant_of (pos 1))
over_one p h = record { num = h; den = constant (pos 1) }

both : (e : Tree) → BothSorted (multiplied_out e)
both (integer_leaf m) = over_one (constant_of m) (constant m)
both (parameter_leaf t) = record { num = ((tt, tt), tt); den = constant (pos 1) }
both (area_leaf a b c) = over_one _ (canonical _ (forms_are_sorted (S a b c)))
both (pythagoras_leaf a b c) = over_one _ (canonical _ (forms_are_sorted (P a b c)))
both (ratio_leaf a b c d) = over_one _ (canonical _ (forms_are_sorted (R a b c d)))
both (negation e) =
    let h = both e in
    record { num = of-negated IsSorted (multiplied_out e).0 h.num; den = h.den }
both (addition e f) =
    let h = both e in
    let k = both f in
    record { num = of-sum_of IsSorted _ _ (product _ _ h.num k.den) (product _ _ k.num h.den); den = product _ _ h.den k.den }
both (subtraction e f) =
    let h = both e in
    let k = both f in
    record { num = of-difference_of IsSorted _ _ (product _ _ h.num k.den) (product _ _ k.num h.den); den = product _ _ h.den k.den }
both (multiplication e f) =
    let h = both e in
    let k = both f in
    record { num = product _ _ h.num k.num; den = product _ _ h.den k.den }
both (division e f) =
    let h = both e in
    let k = both f in
    record { num = product _ _ h.num k.den; den = product _ _ h.den k.num }

pub multiplied_sorted : MultipliedOutIsSorted
multiplied_sorted e = ((both e).num, (both e).den)

-- FORMS
pub forms_sorted : FormsAreSorted
forms_sorted (integer n) = constant (pos n)
forms_sorted (area a b c) = canonical _ (forms_are_sorted (S a b c))
forms_sorted (pythagoras a b c) = canonical _ (forms_are_sorted (P a b c))
forms_sorted (ratio a b c d) = canonical _ (forms_are_sorted (R a b c d))
forms_sorted (abscissa a) = ((tt, tt), tt)
forms_sorted (ordinate a) = ((tt, tt), tt)
forms_sorted (numerator e) = (both e).num
forms_sorted (denominator e) = (both e).den
forms_sorted (f ⊞ g) = of-sum_of IsSorted _ _ (forms_sorted f) (forms_sorted g)
forms_sorted (f ⊟ g) = of-difference_of IsSorted _ _ (forms_sorted f) (forms_sorted g)
forms_sorted (f ⊠ g) = product _ _ (forms_sorted f) (forms_sorted g)
forms_sorted (opposite f) = of-negated IsSorted _ (forms_sorted f)
