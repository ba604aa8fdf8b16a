-- The cut by the factor of a polynomial.
use Rattle.std.proofs.Common.{◌≡◌, ◌≢◌, ◌<◌, eqb, Bool, true, false, Contains, unsigned_abs, ℤ, pos, List, [], ◌∷◌, length, refl, sym, ◌∙◌, subst, arith}
use Rattle.std.specs.Int.{◌∣◌}
use Rattle.std.proofs.lemmas.Bool.Decides.{nat_tests}
use Rattle.std.proofs.lemmas.List.Elements.{All-head}
use Rattle.std.proofs.lemmas.List.Sums.{sum_by-cons}
use Rattle.std.proofs.lemmas.Nat.Gcd.{le_of_dvd}
use Rattle.sparse_lists.specs.SparseLists.{AllKeys}
use Rattle.geo_poly.specs.declared.variables.Var.{Var}
use Rattle.geo_poly.specs.Factors.{IsFactor, IsFactorOf}
use Rattle.geo_poly.specs.Monomials.{Powers, exponent}
use Rattle.geo_poly.specs.Polynomials.{IsPolynomial, Summands, product_of}
use Rattle.geo_poly.proofs.Cuts.{Contains-from_is_in, is_in, is_in_from_Contains}
use Rattle.geo_poly.proofs.EachVariable.{from_exponents}
use Rattle.geo_poly.proofs.SignedContent.{nonzero_divisor}
use Rattle.proof_log.specs.declared.log.Line.TheVariants.{Cut}
use Rattle.geo_logs.specs.Defined.{NoCutDue}
use Rattle.geo_chain.specs.NextLines.{IsCutLine}

factor_valid : (known : List Var) (q : Summands) (f : Powers × ℤ) → IsPolynomial q → q ≢ [] → IsFactorOf known q f → IsFactor f
factor_valid known [] f valid some h = absurd (some refl)
factor_valid known (t ∷ ts) f valid some h =
    let nonzero = nonzero_divisor (t ∷ ts) (unsigned_abs f.1) valid (let lt : 0 < length (t ∷ ts) = omega arith in lt) h.divides in
    let divides : unsigned_abs f.1 ∣ unsigned_abs t.1 = All-head (λ (t : Powers × ℤ). unsigned_abs f.1 ∣ unsigned_abs t.1) t ts h.divides in
    let test : eqb (unsigned_abs t.1) 0 ≡ false = valid.in_order.0 in
    let positive : 0 < unsigned_abs t.1 = grind (arith, nat_tests) in
    let least = le_of_dvd positive divides in
    record {
      monomial = h.monomial;
      nonzero = nonzero;
      fits = omega (arith, least, valid.norm_fits, sum_by-cons (λ (u : Powers × ℤ). unsigned_abs u.1) t ts);
    }

by_known : (known : List Var) (q : Summands) (f : Powers × ℤ) → IsFactorOf known q f → AllKeys (λ v. Contains known v) f.0
by_known known q f h = from_exponents (λ v. Contains known v) f.0 h.monomial.in_order (λ v n. go v (is_in known v) refl n)
  where
    go : (v : Var) (b : Bool) → is_in known v ≡ b → (exponent v f.0 ≡ 0 → ⊥) → Contains known v
    go v true e n = Contains-from_is_in known v e
    go v false e n = absurd (n (h.other_variables v (λ c. let q : true ≡ false = sym (is_in_from_Contains known v c) ∙ e in cc)))

-- the quotient by the factor of a polynomial makes the cut line
pub cut_made : (known : List Var) (q r : Summands) (f : Powers × ℤ) → IsPolynomial q → q ≢ [] → IsFactorOf known q f → f ≢ ([], pos 1)
    → IsPolynomial r → product_of (f ∷ []) r ≡ q → IsCutLine known q (Cut f r)
cut_made known q r f valid some h other polynomial exact = record {
  factor = f;
  rest = r;
  due = record { nonzero = some; factor = h; divides = other };
  cut = record { factor = factor_valid known q f valid some h; by_known = by_known known q f h; polynomial = polynomial; exact = exact };
  is = refl;
}

-- no cut is due where the factor is 1
pub no_cut : (known : List Var) (q : Summands) (f : Powers × ℤ) → IsFactorOf known q f → f ≡ ([], pos 1) → NoCutDue known q
no_cut known q f h e = λ some. subst (IsFactorOf known q) e h
