-- A number put for a variable changes only the terms that have it.
use Rattle.std.proofs.Common.{◌≡◌, ℕ, ◌+◌, ◌*◌, ◌^◌, ◌<◌, not, Bool, true, false, cond, ℤ, ◌+ℤ◌, List, [], ◌∷◌, ◌++◌, map, filter, sum_by, refl, sym, ap, ◌∙◌, unsigned_abs, arith}
use Rattle.std.specs.Prelude.{Contains}
use Rattle.std.proofs.lemmas.Bool.Decides.{nat_tests}
use Rattle.std.proofs.lemmas.Int.{ints}
use Rattle.std.proofs.lemmas.List.Sums.{sum_by-cons}
use Rattle.sparse_lists.specs.SparseLists.{AllKeys, IsCanonical}
use Rattle.sparse_lists.proofs.Canonical.{amount-append, canonical_same}
use Rattle.geo_poly.specs.declared.variables.Var.{Var}
use Rattle.geo_poly.specs.Monomials.{Powers, IsMonomial, exponent, exponents}
use Rattle.sparse_lists.specs.Coefficients.{coefficients}
use Rattle.geo_poly.specs.Polynomials.{Summands, IsPolynomial, coefficient, norm_of, sum_of, term_cmp}
use Rattle.geo_poly.specs.PolynomialVariables.{AllVariables}
use Rattle.geo_poly.specs.Variables.{var_cmp}
use Rattle.geo_poly.specs.Inner.Parts.{has, lacks}
use Rattle.geo_poly.specs.Specialise.{IsCollected, degree_in, specialised, specialised_term, specialised_weight, without}
use Rattle.geo_poly.proofs.Orders.{term_order}
use Rattle.sparse_lists.proofs.Coefficients.{coefficients_add}
use Rattle.geo_poly.proofs.ReplaceTerms.{sum_of-polynomial_of}
use Rattle.geo_poly.proofs.SpecialisedLaws.{AllKeys-specialised, AllKeys-weaker, norm_of-specialised-le, specialised-lacking, weight-lacking}
use Rattle.geo_poly.proofs.ZeroPut.{IsCanonical-filter}

pub AllKeys-filter : {K V : Type 0} (P : K → Type 0) (f : K × V → Bool) (ts : List (K × V)) → AllKeys P ts → AllKeys P (filter f ts)
AllKeys-filter P f [] h = tt
AllKeys-filter {K} {V} P f (t ∷ ts) h = by (f t) (AllKeys-filter P f ts h.1)
  where
    by : (b : Bool) → AllKeys P (filter f ts) → AllKeys P (cond b (t ∷ filter f ts) (filter f ts))
    by true rest = (h.0, rest)
    by false rest = rest

-- a list in two parts
module _ (f : Powers × ℤ → Bool) where
  abbrev others : Powers × ℤ → Bool
  others t = not (f t)

  pub sum_split : (g : Powers × ℤ → ℕ) (p : Summands) → sum_by g (filter f p) + sum_by g (filter (λ t. not (f t)) p) ≡ sum_by g p
  sum_split g [] = refl
  sum_split g (t ∷ ts) = by (f t) (sum_split g ts)
    where
      by : (b : Bool) → sum_by g (filter f ts) + sum_by g (filter others ts) ≡ sum_by g ts
          → sum_by g (cond b (t ∷ filter f ts) (filter f ts)) + sum_by g (cond (not b) (t ∷ filter others ts) (filter others ts)) ≡ sum_by g (t ∷ ts)
      by true rest = omega (arith, rest, sum_by-cons g t ts, sum_by-cons g t (filter f ts))
      by false rest = omega (arith, rest, sum_by-cons g t ts, sum_by-cons g t (filter others ts))

  three : (x a b r : ℤ) → a +ℤ b ≡ r → (x +ℤ a) +ℤ b ≡ x +ℤ r
  three x a b r e = omega (arith, ints, e)

  three_right : (x a b r : ℤ) → a +ℤ b ≡ r → a +ℤ (x +ℤ b) ≡ x +ℤ r
  three_right x a b r e = omega (arith, ints, e)

  amount_split : (s : Powers × ℤ → Powers × ℤ) (k : Powers) (p : Summands) → coefficient k (map s (filter f p)) +ℤ coefficient k (map s (filter (λ t. not (f t)) p)) ≡ coefficient k (map s p)
  amount_split s k [] = refl
  amount_split s k (t ∷ ts) = by (f t) (amount_split s k ts)
    where
      by : (b : Bool) → coefficient k (map s (filter f ts)) +ℤ coefficient k (map s (filter others ts)) ≡ coefficient k (map s ts)
          → coefficient k (map s (cond b (t ∷ filter f ts) (filter f ts))) +ℤ coefficient k (map s (cond (not b) (t ∷ filter others ts) (filter others ts))) ≡ coefficient k (map s (t ∷ ts))
      by true rest = three _ (coefficient k (map s (filter f ts))) (coefficient k (map s (filter others ts))) (coefficient k (map s ts)) rest
      by false rest = three_right _ (coefficient k (map s (filter f ts))) (coefficient k (map s (filter others ts))) (coefficient k (map s ts)) rest

module _ (v : Var) (z : ℤ) (p : Summands) where
  lacking_degree : (q : Summands) → degree_in v (filter (lacks v) q) ≡ 0
  lacking_degree [] = refl
  lacking_degree (t ∷ ts) = by (lacks v t) refl (lacking_degree ts)
    where
      by : (b : Bool) → lacks v t ≡ b → degree_in v (filter (lacks v) ts) ≡ 0 → degree_in v (cond b (t ∷ filter (lacks v) ts) (filter (lacks v) ts)) ≡ 0
      by true e rest = let none : exponent v t.0 ≡ 0 = grind (arith, nat_tests) in omega (arith, none, rest)
      by false e rest = rest

  module _ (order : IsCanonical term_cmp coefficients p) (monomials : AllKeys IsMonomial p) where
    -- the terms that lack the variable, and what becomes of the others
    pub changed_split : sum_of (filter (lacks v) p) (specialised v z (filter (has v) p)) ≡ specialised v z p
    changed_split =
        let s = specialised_term v z in
        let rest = filter (lacks v) p in
        let changing = filter (has v) p in
        ap (λ (q : Summands). sum_of q (specialised v z (filter (has v) p)))
        (sym (specialised-lacking v z rest collected (lacking_degree p)))
        ∙ sum_of-polynomial_of (map (specialised_term v z) rest) (map (specialised_term v z) changing)
        ∙ canonical_same term_cmp coefficients term_order coefficients_add (map (specialised_term v z) rest ++ map (specialised_term v z) changing) (map (specialised_term v z) p)
        (λ k. amount-append term_cmp coefficients term_order coefficients_add k (map (specialised_term v z) rest)
        (map (specialised_term v z) changing) ∙ amount_split (lacks v) (specialised_term v z) k p)
      where
        collected : IsCollected (filter (lacks v) p)
        collected = record {
          in_order = IsCanonical-filter (lacks v) p order;
          monomials = AllKeys-filter (IsCanonical var_cmp exponents) (lacks v) p (AllKeys-weaker IsMonomial (IsCanonical var_cmp exponents) (λ m g. g.in_order) p monomials);
        }

  pub having_light : specialised_weight v z p < 2 ^ 127 → specialised_weight v z (filter (has v) p) < 2 ^ 127
  having_light h = omega (arith, h, sum_split (lacks v) (λ (t : Powers × ℤ). unsigned_abs t.1 * unsigned_abs z ^ exponent v t.0) p)

  pub both_fit : specialised_weight v z p < 2 ^ 127 → norm_of (filter (lacks v) p) + norm_of (specialised v z (filter (has v) p)) < 2 ^ 127
  both_fit h =
      omega (
        arith,
        h,
        sum_split (lacks v) (λ (t : Powers × ℤ). unsigned_abs t.1 * unsigned_abs z ^ exponent v t.0) p,
        weight-lacking v z (filter (lacks v) p) (lacking_degree p),
        norm_of-specialised-le v z (filter (has v) p),
      )

pub IsPolynomial-filter : (f : Powers × ℤ → Bool) (p : Summands) → IsPolynomial p → IsPolynomial (filter f p)
IsPolynomial-filter f p h = record {
  in_order = IsCanonical-filter f p h.in_order;
  monomials = AllKeys-filter IsMonomial f p h.monomials;
  norm_fits = omega (arith, sum_split f (λ (t : Powers × ℤ). unsigned_abs t.1) p, h.norm_fits);
}

-- no variable is new
pub known-specialised : (vars : List Var) (v : Var) (z : ℤ) (p : Summands) → AllVariables (Contains vars) p → AllVariables (Contains vars) (specialised v z p)
known-specialised vars v z p h =
    AllKeys-specialised (λ m. AllKeys (Contains vars) m) v z p
    (AllKeys-weaker (λ m. AllKeys (Contains vars) m) (λ m. AllKeys (Contains vars) (without v m))
    (λ m k. AllKeys-filter (Contains vars)
    (λ q. not (Rattle.std.specs.Ordering.is_eq (Rattle.geo_poly.specs.Variables.var_cmp v q.0))) m k) p h)
