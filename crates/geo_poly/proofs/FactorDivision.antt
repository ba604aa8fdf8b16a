-- The factor of a polynomial is unique, and it divides the polynomial.
use Rattle.std.proofs.Common.{◌≡◌, ℕ, suc, ◌*◌, ◌/◌, ◌%◌, ◌<◌, ◌≤◌, Bool, true, false, ℤ, pos, negsuc, neg_ℤ, ◌*ℤ◌, ◌<ℤ◌, List, [], ◌∷◌}
use Rattle.std.proofs.Common.{◌++◌, length, refl, sym, ap, ap₂, ◌∙◌, unsigned_abs, All, Contains, arith}
use Rattle.std.specs.Int.{◌∣◌}
use Rattle.std.proofs.lemmas.Int.{ints}
use Rattle.std.proofs.lemmas.Nat.Gcd.{dvd_antisymm, mod-eq-zero_of_dvd}
use Rattle.std.proofs.lemmas.List.Elements.{All-head, All-tail}
use Rattle.ring_laws.proofs.Laws as Laws
use Rattle.ring_laws.proofs.Integers as Integers
use Rattle.ring_laws.specs.Ring.{Ring}
use Rattle.geo_poly.specs.declared.variables.Var.{Var}
use Rattle.geo_poly.specs.Variables.{var_cmp}
use Rattle.sparse_lists.specs.SparseLists.{AllKeys}
use Rattle.geo_poly.specs.Monomials.{Powers, exponents, exponent, IsMonomial, product}
use Rattle.geo_poly.specs.Polynomials.{Summands, IsPolynomial, multiples, product_of}
use Rattle.geo_poly.specs.Division.{quotient}
use Rattle.geo_poly.specs.Factors.{DividesAll, IsFactorOf}
use Rattle.geo_poly.specs.Values.{integer, monomial_value, value}
use Rattle.geo_poly.proofs.Orders.{var_order, exponents_add}
use Rattle.sparse_lists.proofs.Canonical.{IsCanonical-canonical, same_list}
use Rattle.geo_poly.proofs.MonomialOrder.{exponent-product}
use Rattle.geo_poly.proofs.Quotients.{exponent-quotient, IsMonomial-quotient}
use Rattle.geo_poly.proofs.Reflected.{IsPolynomial-reflected}
use Rattle.geo_poly.proofs.FactorLaws.{multiples-product}
use Rattle.geo_poly.proofs.Cuts.{is_in, Contains-from_is_in, is_in_from_Contains, same_least}
use Rattle.geo_poly.proofs.SignedContent.{nonzero_divisor}
use Rattle.geo_poly.proofs.Values.{value-product_of}

-- THE FACTOR IS UNIQUE
below_zero : (n : ℕ) → negsuc n <ℤ pos 0
below_zero n = omega (arith, ints)

not_below_zero : {P : Type 0} (n : ℕ) → pos n <ℤ pos 0 → P
not_below_zero n h = absurd (omega (arith, ints, h))

-- size and sign make a number
same_number : (a b : ℤ) → unsigned_abs a ≡ unsigned_abs b → (a <ℤ pos 0 → b <ℤ pos 0) → (b <ℤ pos 0 → a <ℤ pos 0) → a ≡ b
same_number (pos m) (pos n) e f g = ap pos e
same_number (pos m) (negsuc n) e f g = not_below_zero m (g (below_zero n))
same_number (negsuc m) (pos n) e f g = not_below_zero n (f (below_zero m))
same_number (negsuc m) (negsuc n) e f g = let same : m ≡ n = omega (arith, e) in ap negsuc same

none_unknown : (known : List Var) (v : Var) → is_in known v ≡ false → Contains known v → ⊥
none_unknown known v e h = let q : false ≡ true = sym e ∙ is_in_from_Contains known v h in cc

same_exponent : (known : List Var) (p : Summands) (f g : Powers × ℤ) (v : Var) → IsFactorOf known p f → IsFactorOf known p g → exponent v f.0 ≡ exponent v g.0
same_exponent known p f g v h k = go (is_in known v) refl
  where
    go : (b : Bool) → is_in known v ≡ b → exponent v f.0 ≡ exponent v g.0
    go true e =
        let here = Contains-from_is_in known v e in
        same_least v p (exponent v f.0) (exponent v g.0) (h.known_variables v here) (k.known_variables v here)
    go false e = h.other_variables v (none_unknown known v e) ∙ sym (k.other_variables v (none_unknown known v e))

pub factor_unique : (known : List Var) (p : Summands) (f g : Powers × ℤ) → IsFactorOf known p f → IsFactorOf known p g → f ≡ g
factor_unique known p f g h k =
    let size : unsigned_abs f.1 ≡ unsigned_abs g.1 = dvd_antisymm (k.greatest (unsigned_abs f.1) h.divides) (h.greatest (unsigned_abs g.1) k.divides) in
    let number : f.1 ≡ g.1 = same_number f.1 g.1 size (λ b. k.sign.1 (h.sign.0 b)) (λ b. h.sign.1 (k.sign.0 b)) in
    let monomial : f.0 ≡ g.0 =
    same_list var_cmp exponents var_order exponents_add f.0 g.0 h.monomial.in_order k.monomial.in_order (λ v. same_exponent known p f g v h k) in
    λ i. (monomial i, number i)

-- THE FACTOR DIVIDES
-- where the sizes divide, so do the numbers
exact_multiple : (d c : ℤ) (k : ℕ) → unsigned_abs c ≡ unsigned_abs d * k → (q : ℤ) × (d *ℤ q ≡ c)
exact_multiple (pos a) (pos c) k e = (pos k, ap pos (sym e))
exact_multiple (pos a) (negsuc c) k e = (neg_ℤ (pos k), Laws.mul-neg Integers.integers (pos a) (pos k) ∙ ap (λ n. neg_ℤ (pos n)) (sym e))
exact_multiple (negsuc a) (pos c) k e = (neg_ℤ (pos k), Laws.neg-mul-neg Integers.integers (pos (suc a)) (pos k) ∙ ap pos (sym e))
exact_multiple (negsuc a) (negsuc c) k e = (pos k, Laws.neg-mul Integers.integers (pos (suc a)) (pos k) ∙ ap (λ n. neg_ℤ (pos n)) (sym e))

size_divided : (d c : ℕ) → (d ≡ 0 → ⊥) → d ∣ c → c ≡ d * (c / d)
size_divided d c n h = let none : c % d ≡ 0 = mod-eq-zero_of_dvd d h in let some : 0 < d = omega (arith, n) in omega (arith, none, some)

divided_monomial : (m k : Powers) → IsMonomial m → ((v : Var) → exponent v k ≤ exponent v m) → product k (quotient m k) ≡ m
divided_monomial m k h below =
    same_list var_cmp exponents var_order exponents_add (product k (quotient m k)) m (IsCanonical-canonical var_cmp exponents var_order exponents_add (k ++ quotient m k)) h.in_order
    (λ v. omega (arith, exponent-product v k (quotient m k), exponent-quotient v m k h.in_order, below v))

-- a list whose multiples are p
record Divided (f : Powers × ℤ) (p : Summands) : Type 0 where
  rest : Summands
  whole : multiples f rest ≡ p
  monomials : AllKeys IsMonomial rest

divided : (f : Powers × ℤ) (p : Summands) → (unsigned_abs f.1 ≡ 0 → ⊥) → AllKeys IsMonomial p → DividesAll (unsigned_abs f.1) p
    → ((v : Var) → All (λ (t : Powers × ℤ). exponent v f.0 ≤ exponent v t.0) p) → Divided f p
divided f [] n g all below = record { rest = []; whole = refl; monomials = tt }
divided f (t ∷ ts) n g all below =
    let D : Powers × ℤ → Type 0 = λ t. unsigned_abs f.1 ∣ unsigned_abs t.1 in
    let tail : Divided f ts =
    divided f ts n g.1 (All-tail (λ (t : Powers × ℤ). unsigned_abs f.1 ∣ unsigned_abs t.1) t ts all) (λ v. All-tail (λ (t : Powers × ℤ). exponent v f.0 ≤ exponent v t.0) t ts (below v)) in
    let number = exact_multiple f.1 t.1 (unsigned_abs t.1 / unsigned_abs f.1)
    (size_divided (unsigned_abs f.1) (unsigned_abs t.1) n
    (All-head (λ (t : Powers × ℤ). unsigned_abs f.1 ∣ unsigned_abs t.1) t ts all)) in
    let monomial = divided_monomial t.0 f.0 g.0 (λ v. All-head (λ (t : Powers × ℤ). exponent v f.0 ≤ exponent v t.0) t ts (below v)) in
    record {
      rest = (quotient t.0 f.0, number.0) ∷ tail.rest;
      whole = ap₂ (λ (u : Powers × ℤ) (us : Summands). u ∷ us) (λ i. (monomial i, number.1 i)) tail.whole;
      monomials = (IsMonomial-quotient t.0 f.0 g.0, tail.monomials);
    }

below_all : (known : List Var) (p : Summands) (f : Powers × ℤ) → IsFactorOf known p f → (v : Var) → All (λ (t : Powers × ℤ). exponent v f.0 ≤ exponent v t.0) p
below_all known p f h v = go (is_in known v) refl
  where
    go : (b : Bool) → is_in known v ≡ b → All (λ (t : Powers × ℤ). exponent v f.0 ≤ exponent v t.0) p
    go true e = (h.known_variables v (Contains-from_is_in known v e)).at_most
    go false e = let none = h.other_variables v (none_unknown known v e) in λ k d lt. omega (arith, none)

some_terms : (p : Summands) → (p ≡ [] → ⊥) → 0 < length p
some_terms [] n = absurd (n refl)
some_terms (t ∷ ts) n = omega arith

pub factor_quotient : (known : List Var) (p : Summands) (f : Powers × ℤ) → IsPolynomial p → (p ≡ [] → ⊥) → IsFactorOf known p f → (q : Summands) × IsPolynomial q × (product_of (f ∷ []) q ≡ p)
factor_quotient known p f h n factor =
    let nonzero = nonzero_divisor p (unsigned_abs f.1) h (some_terms p n) factor.divides in
    let found = divided f p nonzero h.monomials factor.divides (below_all known p f factor) in
    let polynomial = IsPolynomial-reflected f found.rest p nonzero found.monomials found.whole h in
    (found.rest, polynomial, sym (multiples-product f found.rest nonzero polynomial.monomials polynomial.in_order) ∙ found.whole)

-- THE VALUE OF A MULTIPLE
pub value-factor : (R : Ring) (x : Var → R.carrier) (f : Powers × ℤ) (q : Summands) → R.same (value R x (product_of (f ∷ []) q)) (R.mul (R.mul (integer R f.1) (monomial_value R x f.0)) (value R x q))
value-factor R x f q =
    R.same_trans _ _ _ (value-product_of R x (f ∷ []) q)
    (R.mul-same _ _ _ _ (R.add-zero (R.mul (integer R f.1) (monomial_value R x f.0))) (R.same_refl (value R x q)))
