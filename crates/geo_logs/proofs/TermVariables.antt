-- The variables of terms multiplied out; each term is sound.
use Rattle.std.specs.Prelude.{if◌then◌else◌}
use Rattle.std.proofs.Common.{◌||◌, ◌*ℤ◌, ℕ, ◌<◌, Bool, true, false, cond, eqb, ℤ, pos, Some, None, [], ◌∷◌, ◌++◌, unsigned_abs, arith}
use Rattle.geo_points.specs.declared.ids.PointId.{PointId}
use Rattle.geo_points.specs.Placements.{Placement}
use Rattle.geo_poly.specs.declared.variables.Var.{Var}
use Rattle.geo_poly.specs.declared.variables.Var.TheVariants.{R, P, T}
use Rattle.geo_poly.specs.Canonical.{canonical_difference, canonical_ratio, higher, is_point, is_same_pair, lower, pair_sign, permutation_sign, signed_variable, sorted_area, sorted_difference}
use Rattle.geo_poly.proofs.CanonicalRatios.{canonical_ratio-defined}
use Rattle.geo_poly.specs.Polynomials.{Summands, constant_of, difference_of, negated, product_of, sum_of}
use Rattle.geo_terms.specs.Constructions.{Construction}
use Rattle.geo_terms.specs.Trees.{Tree, integer_leaf, parameter_leaf, area_leaf, pythagoras_leaf, ratio_leaf, negation, addition, subtraction, multiplication, division}
use Rattle.geo_terms.specs.Values.{HasTreeValue}
use Rattle.fraction_poly.specs.MultipliedOut.{canon_polynomial, multiplied_out, variable_polynomial}
use Rattle.fraction_poly.proofs.TermValues.{values_are_told}
use Rattle.fraction_poly.specs.TableRows.{HasVariable}
use Rattle.geo_logs.specs.Naming.{IsNamed}
use Rattle.geo_terms.specs.TermBounds.{IsTermBelow}
use Rattle.geo_logs.specs.Sound.{IsSoundTerm}
use Rattle.geo_poly.specs.PolynomialVariables.{AllVariables}
use Rattle.geo_poly.proofs.EachVariable.{of-append, of-polynomial_of, of-product_of}

module _ (Holds : Var → Type 0) where
  pub of-sum_of : (p q : Summands) → AllVariables Holds p → AllVariables Holds q → AllVariables Holds (sum_of p q)
  of-sum_of p q h g = of-polynomial_of Holds (p ++ q) (of-append Holds p q h g)

  pub of-negated : (p : Summands) → AllVariables Holds p → AllVariables Holds (negated p)
  of-negated [] h = tt
  of-negated (t ∷ ts) h = (h.0, of-negated ts h.1)

  pub of-difference_of : (p q : Summands) → AllVariables Holds p → AllVariables Holds q → AllVariables Holds (difference_of p q)
  of-difference_of p q h g = of-sum_of p (negated q) h (of-negated q g)

  pub of-constant_of : (z : ℤ) → AllVariables Holds (constant_of z)
  of-constant_of z = elim (eqb (unsigned_abs z) 0) as (λ b. AllVariables Holds (cond b [] (([], z) ∷ []))) [ true ↦ tt | false ↦ (tt, tt) ]

  pub of-variable : (sign : ℤ) (v : Var) → Holds v → AllVariables Holds (variable_polynomial sign v)
  of-variable sign v h = ((h, tt), tt)

  pub of-signed : (sign : ℤ) (v : Var) → Holds v → AllVariables Holds (canon_polynomial (signed_variable sign v))
  of-signed sign v h = go (eqb (unsigned_abs sign) 0)
    where
      go : (b : Bool) → AllVariables Holds (canon_polynomial (cond b (record { sign = pos 0; var = None }) (record { sign = sign; var = Some v })))
      go true = of-constant_of (pos 0)
      go false = of-variable sign v h

  pub of-difference : (a b c : PointId) → Holds (sorted_difference a b c) → AllVariables Holds (canon_polynomial (canonical_difference a b c))
  of-difference a b c h = go (is_point a b || is_point b c)
    where
      go : (t : Bool) → AllVariables Holds (canon_polynomial (if t then record { sign = pos 0; var = None } else record { sign = pos 1; var = Some (sorted_difference a b c) }))
      go true = of-constant_of (pos 0)
      go false = of-variable (pos 1) (sorted_difference a b c) h

  -- the variable of a ratio
  abbrev pub sorted_ratio : PointId → PointId → PointId → PointId → Var
  sorted_ratio a b c d = R (lower a b) (higher a b) (lower c d) (higher c d)

  pub of-ratio : (a b c d : PointId) → Holds (sorted_ratio a b c d) → AllVariables Holds (canon_polynomial (canonical_ratio a b c d))
  of-ratio a b c d h = go (is_same_pair a b c d)
    where
      go : (t : Bool) → AllVariables Holds
          (canon_polynomial (if t then record { sign = pair_sign a b *ℤ pair_sign c d; var = None } else signed_variable
          (pair_sign a b *ℤ pair_sign c d) (sorted_ratio a b c d)))
      go true = of-constant_of (pair_sign a b *ℤ pair_sign c d)
      go false = of-signed (pair_sign a b *ℤ pair_sign c d) (sorted_ratio a b c d) h

  -- the property holds of the variables of the leaves of a term
  abbrev pub OfLeaves : Tree → Type 0
  OfLeaves (integer_leaf n) = Unit {0}
  OfLeaves (parameter_leaf t) = Holds (T t)
  OfLeaves (area_leaf a b c) = Holds (sorted_area a b c)
  OfLeaves (pythagoras_leaf a b c) = Holds (sorted_difference a b c)
  OfLeaves (ratio_leaf a b c d) = Holds (sorted_ratio a b c d)
  OfLeaves (negation e) = OfLeaves e
  OfLeaves (addition e f) = OfLeaves e × OfLeaves f
  OfLeaves (subtraction e f) = OfLeaves e × OfLeaves f
  OfLeaves (multiplication e f) = OfLeaves e × OfLeaves f
  OfLeaves (division e f) = OfLeaves e × OfLeaves f

  abbrev OfBoth : Summands × Summands → Type 0
  OfBoth f = AllVariables Holds f.0 × AllVariables Holds f.1

  pub of-term : (e : Tree) → OfLeaves e → OfBoth (multiplied_out e)
  of-term (integer_leaf n) h = (of-constant_of n, of-constant_of (pos 1))
  of-term (parameter_leaf t) h = (of-variable (pos 1) (T t) h, of-constant_of (pos 1))
  of-term (area_leaf a b c) h = (of-signed (permutation_sign a b c) (sorted_area a b c) h, of-constant_of (pos 1))
  of-term (pythagoras_leaf a b c) h = (of-difference a b c h, of-constant_of (pos 1))
  of-term (ratio_leaf a b c d) h = (of-ratio a b c d h, of-constant_of (pos 1))
  of-term (negation e) h = let f = of-term e h in (of-negated (multiplied_out e).0 f.0, f.1)
  of-term (addition e f) h =
      let x = of-term e h.0 in let y = of-term f h.1 in
      let p = multiplied_out e in let q = multiplied_out f in (
        of-sum_of (product_of p.0 q.1) (product_of q.0 p.1) (of-product_of Holds p.0 q.1 x.0 y.1) (of-product_of Holds q.0 p.1 y.0 x.1),
        of-product_of Holds p.1 q.1 x.1 y.1,
      )
  of-term (subtraction e f) h =
      let x = of-term e h.0 in let y = of-term f h.1 in
      let p = multiplied_out e in let q = multiplied_out f in (
        of-difference_of (product_of p.0 q.1) (product_of q.0 p.1) (of-product_of Holds p.0 q.1 x.0 y.1) (of-product_of Holds q.0 p.1 y.0 x.1),
        of-product_of Holds p.1 q.1 x.1 y.1,
      )
  of-term (multiplication e f) h =
      let x = of-term e h.0 in let y = of-term f h.1 in
      let p = multiplied_out e in let q = multiplied_out f in
      (of-product_of Holds p.0 q.0 x.0 y.0, of-product_of Holds p.1 q.1 x.1 y.1)
  of-term (division e f) h =
      let x = of-term e h.0 in let y = of-term f h.1 in
      let p = multiplied_out e in let q = multiplied_out f in
      (of-product_of Holds p.0 q.1 x.0 y.1, of-product_of Holds p.1 q.0 x.1 y.0)

-- NAMES AND VALUES OF LEAVES
pub sorted_named : (c : Construction) (n : ℕ) (a b d : PointId) → a.0 < n → b.0 < n → d.0 < n → IsNamed c n (sorted_area a b d)
sorted_named c n a b d h g k = (omega (arith, h, g, k), omega (arith, h, g, k), omega (arith, h, g, k))

pub difference_named : (c : Construction) (n : ℕ) (a b d : PointId) → a.0 < n → b.0 < n → d.0 < n → IsNamed c n (sorted_difference a b d)
difference_named c n a b d h g k = go (is_point a d)
  where
    go : (t : Bool) → IsNamed c n (if t then P (lower a b) (higher a b) (lower a b) else P (lower a d) b (higher a d))
    go true = (omega (arith, h, g), omega (arith, h, g), omega (arith, h, g))
    go false = (omega (arith, h, k), g, omega (arith, h, k))

pub ratio_named : (c : Construction) (n : ℕ) (a b d e : PointId) → a.0 < n → b.0 < n → d.0 < n → e.0 < n → IsNamed c n (sorted_ratio (IsNamed c n) a b d e)
ratio_named c n a b d e h g k l = (omega (arith, h, g), omega (arith, h, g), omega (arith, k, l), omega (arith, k, l))

pub named_leaves : (c : Construction) (n : ℕ) (e : Tree) → IsTermBelow n c.params e → OfLeaves (IsNamed c n) e
named_leaves c n (integer_leaf z) h = tt
named_leaves c n (parameter_leaf t) h = h
named_leaves c n (area_leaf a b d) h = sorted_named c n a b d h.0 h.1 h.2
named_leaves c n (pythagoras_leaf a b d) h = difference_named c n a b d h.0 h.1 h.2
named_leaves c n (ratio_leaf a b d e) h = ratio_named c n a b d e h.0 h.1 h.2 h.3
named_leaves c n (negation e) h = named_leaves c n e h
named_leaves c n (addition e f) h = (named_leaves c n e h.0, named_leaves c n f h.1)
named_leaves c n (subtraction e f) h = (named_leaves c n e h.0, named_leaves c n f h.1)
named_leaves c n (multiplication e f) h = (named_leaves c n e h.0, named_leaves c n f h.1)
named_leaves c n (division e f) h = (named_leaves c n e h.0, named_leaves c n f h.1)

pub difference_valued : (placed : Placement) (a b d : PointId) → HasVariable placed (sorted_difference a b d)
difference_valued placed a b d = go (is_point a d)
  where
    go : (t : Bool) → HasVariable placed (if t then P (lower a b) (higher a b) (lower a b) else P (lower a d) b (higher a d))
    go true = tt
    go false = tt

-- where a term has a value, the ratios of its numerator and denominator are defined
pub valued_leaves : (placed : Placement) (e : Tree) → HasTreeValue placed e → OfLeaves (HasVariable placed) e
valued_leaves placed (integer_leaf z) h = tt
valued_leaves placed (parameter_leaf t) h = tt
valued_leaves placed (area_leaf a b d) h = tt
valued_leaves placed (pythagoras_leaf a b d) h = difference_valued placed a b d
valued_leaves placed (ratio_leaf a b d e) h = canonical_ratio-defined placed.point placed.number a b d e h
valued_leaves placed (negation e) h = valued_leaves placed e h
valued_leaves placed (addition e f) h = (valued_leaves placed e h.0, valued_leaves placed f h.1)
valued_leaves placed (subtraction e f) h = (valued_leaves placed e h.0, valued_leaves placed f h.1)
valued_leaves placed (multiplication e f) h = (valued_leaves placed e h.0, valued_leaves placed f h.1)
valued_leaves placed (division e f) h = (valued_leaves placed e h.0, valued_leaves placed f h.1)

-- each term is sound
pub term_sound : (c : Construction) (e : Tree) → IsSoundTerm c e
term_sound c e = record {
  nonzero = λ placed has_value. (values_are_told placed e has_value).0;
  tells = λ placed has_value. (values_are_told placed e has_value).1;
  defined = λ placed has_value. (of-term (HasVariable placed) e (valued_leaves placed e has_value)).0;
  named = λ n below. (of-term (IsNamed c n) e (named_leaves c n e below)).0;
}
