-- Numbers put for variables: the order, the bounds, the exponents and the value of what becomes of a polynomial.
use Rattle.std.proofs.Common.{◌≡◌, ℕ, zero, suc, ◌+◌ as ◌+ₙ◌, ◌*◌ as ◌*ₙ◌, ◌^◌, ◌<◌, ◌≤◌, max, not, cond, eqb, false, length, sum_by}
use Rattle.std.proofs.Common.{get_or, ℤ, pos, ◌*ℤ◌, [], ◌∷◌, ◌++◌, map, take, drop, refl, sym, ap, ap₂, subst, ◌∙◌, unsigned_abs}
use Rattle.std.proofs.Common.{FitsSigned, arith}
use Rattle.std.specs.Int.{int_pow, w128}
use Rattle.std.specs.Ordering.{is_eq}
use Rattle.std.specs.declared.cmp.Ordering.{Ordering}
use Rattle.std.specs.declared.cmp.Ordering.TheVariants.{Less, Equal, Greater}
use Rattle.std.proofs.lemmas.Bool.Decides.{nat_tests}
use Rattle.std.proofs.lemmas.Int.{unsigned_abs-mul, fits_signed_from_abs}
use Rattle.std.proofs.Math.IntN.{*ℤ-one, one as one_ℤ}
use Rattle.std.proofs.Math.Nat.{mul-le-mul, mul-le-mul_left, mul-le-mul_right, mul-one, pow-suc, pow-zero}
use Rattle.std.proofs.lemmas.List.{map-append, take-append-drop, take_more}
use Rattle.std.proofs.lemmas.List.Sums.{sum_by-cons, sum_by-append}
use Rattle.ring_laws.specs.Ring.{Ring}
use Rattle.ring_laws.specs.Solver.{variable, ◌⊠◌, entry_at}
use Rattle.ring_laws.specs.Powers.{power}
use Rattle.ring_laws.proofs.Sound.{agree}
use Rattle.ring_laws.proofs.Powers.{power-add, power-same}
use Rattle.sparse_lists.specs.SparseLists.{AllKeys, IsBefore, IsCanonical}
use Rattle.sparse_lists.proofs.Canonical.{canonical_self}
use Rattle.sparse_lists.proofs.Sums.{AllKeys-canonical, sum_by-canonical-le}
use Rattle.geo_poly.specs.declared.variables.Var.{Var}
use Rattle.geo_poly.specs.Variables.{var_cmp}
use Rattle.geo_poly.specs.Monomials.{Powers, exponents, exponent, degree_of, IsMonomial}
use Rattle.sparse_lists.specs.Coefficients.{coefficients}
use Rattle.geo_poly.specs.Polynomials.{Summands, term_cmp, polynomial_of, norm_of, total_degree, IsPolynomial, sum_of}
use Rattle.geo_poly.specs.Values.{integer, monomial_value, value}
use Rattle.geo_poly.specs.Specialise.{without, specialised_term, specialised, specialised_weight, degree_in, IsCollected, IsSmaller}
use Rattle.geo_poly.proofs.Orders.{var_order, term_order}
use Rattle.sparse_lists.proofs.Coefficients.{coefficients_add}
use Rattle.geo_poly.proofs.PolynomialLaws.{norm_of-polynomial_of-le}
use Rattle.geo_poly.proofs.ProductLaws.{IsCanonical_front, IsCanonical_back}
use Rattle.geo_poly.proofs.ReplaceTerms.{sum_of-polynomial_of, IsCanonical-polynomial_of}
use Rattle.geo_poly.proofs.Values.{integer-mul, value-polynomial_of}
use Rattle.geo_poly.proofs.WholePowers.{int_pow-zero, unsigned_abs-int_pow, integer-int_pow}

-- THE OTHER VARIABLES
pub exponent-without_self : (v : Var) (m : Powers) → exponent v (without v m) ≡ 0
exponent-without_self v [] = refl
exponent-without_self v (p ∷ m) = go (var_cmp v p.0) refl (exponent-without_self v m)
  where
    kept : (o : Ordering) → is_eq o ≡ false → var_cmp v p.0 ≡ o → exponent v (without v m) ≡ 0 → exponent v (p ∷ without v m) ≡ 0
    kept o n e rest =
        let head : exponent v (p ∷ without v m) ≡ 0 +ₙ exponent v (without v m) = ap (λ (b : _). cond b p.1 0 +ₙ exponent v (without v m)) (ap is_eq e ∙ n) in
        omega (arith, head, rest)

    go : (o : Ordering) → var_cmp v p.0 ≡ o → exponent v (without v m) ≡ 0 → exponent v (cond (not (is_eq o)) (p ∷ without v m) (without v m)) ≡ 0
    go Less e rest = kept Less refl e rest
    go Equal e rest = rest
    go Greater e rest = kept Greater refl e rest

pub exponent-without_other : (v w : Var) (m : Powers) → (var_cmp w v ≡ Equal → ⊥) → exponent w (without v m) ≡ exponent w m
exponent-without_other v w [] n = refl
exponent-without_other v w (p ∷ m) n = go (var_cmp v p.0) refl (exponent-without_other v w m n)
  where
    none : v ≡ p.0 → (o : Ordering) → var_cmp w p.0 ≡ o → cond (is_eq o) p.1 0 ≡ 0
    none same Less e = refl
    none same Greater e = refl
    none same Equal e = absurd (n (ap (λ (u : Var). var_cmp w u) same ∙ e))

    go : (o : Ordering) → var_cmp v p.0 ≡ o → exponent w (without v m) ≡ exponent w m
        → exponent w (cond (not (is_eq o)) (p ∷ without v m) (without v m)) ≡ cond (is_eq (var_cmp w p.0)) p.1 0 +ₙ exponent w m
    go Less e rest = ap (λ k. cond (is_eq (var_cmp w p.0)) p.1 0 +ₙ k) rest
    go Greater e rest = ap (λ k. cond (is_eq (var_cmp w p.0)) p.1 0 +ₙ k) rest
    go Equal e rest = omega (arith, rest, none (var_order.exact v p.0 e) (var_cmp w p.0) refl)

pub exponent-without-le : (v w : Var) (m : Powers) → exponent w (without v m) ≤ exponent w m
exponent-without-le v w m = go (var_cmp w v) refl
  where
    go : (o : Ordering) → var_cmp w v ≡ o → exponent w (without v m) ≤ exponent w m
    go Less e = omega (arith, exponent-without_other v w m (λ q. let f : Less ≡ Equal = sym e ∙ q in cc))
    go Greater e = omega (arith, exponent-without_other v w m (λ q. let f : Greater ≡ Equal = sym e ∙ q in cc))
    go Equal e = subst (λ (u : Var). exponent u (without v m) ≤ exponent u m) (sym (var_order.exact w v e)) (omega (arith, exponent-without_self v m))

IsBefore-without : (u v : Var) (m : Powers) → IsBefore var_cmp u m → IsBefore var_cmp u (without v m)
IsBefore-without u v [] h = tt
IsBefore-without u v (p ∷ m) h =
    elim (var_cmp v p.0) as (λ o. IsBefore var_cmp u (cond (not (is_eq o)) (p ∷ without v m) (without v m))) [
      | Less ↦ (h.0, IsBefore-without u v m h.1)
      | Equal ↦ IsBefore-without u v m h.1
      | Greater ↦ (h.0, IsBefore-without u v m h.1)
    ]

IsCanonical-without : (v : Var) (m : Powers) → IsCanonical var_cmp exponents m → IsCanonical var_cmp exponents (without v m)
IsCanonical-without v [] h = tt
IsCanonical-without v (p ∷ m) h =
    elim (var_cmp v p.0) as (λ o. IsCanonical var_cmp exponents (cond (not (is_eq o)) (p ∷ without v m) (without v m))) [
      | Less ↦ (h.0, IsBefore-without p.0 v m h.1, IsCanonical-without v m h.2)
      | Equal ↦ IsCanonical-without v m h.2
      | Greater ↦ (h.0, IsBefore-without p.0 v m h.1, IsCanonical-without v m h.2)
    ]

degree_of-without-le : (v : Var) (m : Powers) → degree_of (without v m) ≤ degree_of m
degree_of-without-le v [] = omega arith
degree_of-without-le v (p ∷ m) =
    elim (var_cmp v p.0) as (λ o. degree_of (cond (not (is_eq o)) (p ∷ without v m) (without v m)) ≤ degree_of (p ∷ m)) [
      | Less ↦ omega (arith, degree_of-without-le v m, sum_by-cons (λ (p : Var × ℕ). p.1) p m, sum_by-cons (λ (p : Var × ℕ). p.1) p (without v m))
      | Equal ↦ omega (arith, degree_of-without-le v m, sum_by-cons (λ (p : Var × ℕ). p.1) p m)
      | Greater ↦ omega (arith, degree_of-without-le v m, sum_by-cons (λ (p : Var × ℕ). p.1) p m, sum_by-cons (λ (p : Var × ℕ). p.1) p (without v m))
    ]

pub IsMonomial-without : (v : Var) (m : Powers) → IsMonomial m → IsMonomial (without v m)
IsMonomial-without v m h = record {
  in_order = IsCanonical-without v m h.in_order;
  degree_fits = omega (arith, degree_of-without-le v m, h.degree_fits);
}

-- THE POLYNOMIAL
-- what holds of each monomial without v holds of each monomial of the result
keys : (P : Powers → Type 0) (v : Var) (z : ℤ) (p : Summands) → AllKeys (λ m. P (without v m)) p → AllKeys P (map (specialised_term v z) p)
keys P v z [] h = tt
keys P v z (t ∷ ts) h = (h.0, keys P v z ts h.1)

pub AllKeys-specialised : (P : Powers → Type 0) (v : Var) (z : ℤ) (p : Summands) → AllKeys (λ m. P (without v m)) p → AllKeys P (specialised v z p)
AllKeys-specialised P v z p h = AllKeys-canonical term_cmp coefficients P (map (specialised_term v z) p) (keys P v z p h)

pub AllKeys-weaker : (P Q : Powers → Type 0) → ((m : Powers) → P m → Q m) → (p : Summands) → AllKeys P p → AllKeys Q p
AllKeys-weaker P Q f [] h = tt
AllKeys-weaker P Q f (t ∷ ts) h = (f t.0 h.0, AllKeys-weaker P Q f ts h.1)

norm_of-terms : (v : Var) (z : ℤ) (p : Summands) → norm_of (map (specialised_term v z) p) ≡ specialised_weight v z p
norm_of-terms v z [] = refl
norm_of-terms v z (t ∷ ts) =
    let f : Powers × ℤ → ℕ = λ t. unsigned_abs t.1 in
    let g : Powers × ℤ → ℕ = λ t. unsigned_abs t.1 *ₙ unsigned_abs z ^ exponent v t.0 in
    sum_by-cons f (specialised_term v z t) (map (specialised_term v z) ts)
    ∙ ap₂ (λ a b. a +ₙ b) (unsigned_abs-mul t.1 (int_pow z (exponent v t.0)) ∙ ap (λ k. unsigned_abs t.1 *ₙ k) (unsigned_abs-int_pow z (exponent v t.0))) (norm_of-terms v z ts)
    ∙ sym (sum_by-cons g t ts)

pub norm_of-specialised-le : (v : Var) (z : ℤ) (p : Summands) → norm_of (specialised v z p) ≤ specialised_weight v z p
norm_of-specialised-le v z p = omega (arith, norm_of-polynomial_of-le (map (specialised_term v z) p), norm_of-terms v z p)

-- the weight at small numbers
small_power : (a e : ℕ) → a ≤ 1 → a ^ e ≤ 1
small_power a zero h = omega (arith, pow-zero a)
small_power a (suc e) h = omega (arith, pow-suc a e, mul-le-mul (small_power a e h) h)

pub small_weight : (v : Var) (z : ℤ) (p : Summands) → unsigned_abs z ≤ 1 → specialised_weight v z p ≤ norm_of p
small_weight v z [] h = omega arith
small_weight v z (t ∷ ts) h =
    let f : Powers × ℤ → ℕ = λ t. unsigned_abs t.1 in
    let g : Powers × ℤ → ℕ = λ t. unsigned_abs t.1 *ₙ unsigned_abs z ^ exponent v t.0 in
    let le : unsigned_abs t.1 *ₙ unsigned_abs z ^ exponent v t.0 ≤ unsigned_abs t.1 *ₙ 1 = mul-le-mul_left (unsigned_abs t.1) (small_power (unsigned_abs z) (exponent v t.0) h) in
    omega (arith, le, small_weight v z ts h, sum_by-cons f t ts, sum_by-cons g t ts)

pub IsPolynomial-specialised : (v : Var) (z : ℤ) (p : Summands) → AllKeys IsMonomial p → specialised_weight v z p < 2 ^ 127 → IsPolynomial (specialised v z p)
IsPolynomial-specialised v z p h fits = record {
  in_order = IsCanonical-polynomial_of (map (specialised_term v z) p);
  monomials = AllKeys-specialised IsMonomial v z p (AllKeys-weaker IsMonomial (λ m. IsMonomial (without v m)) (IsMonomial-without v) p h);
  norm_fits = omega (arith, norm_of-specialised-le v z p, fits);
}

pub IsCollected-specialised : (v : Var) (z : ℤ) (p : Summands) → IsCollected p → IsCollected (specialised v z p)
IsCollected-specialised v z p h = record {
  in_order = IsCanonical-polynomial_of (map (specialised_term v z) p);
  monomials = AllKeys-specialised (IsCanonical var_cmp exponents) v z p
      (AllKeys-weaker (IsCanonical var_cmp exponents) (λ m. IsCanonical var_cmp exponents (without v m)) (IsCanonical-without v) p h.monomials);
}

pub IsCollected-polynomial : (p : Summands) → IsPolynomial p → IsCollected p
IsCollected-polynomial p h = record {
  in_order = h.in_order;
  monomials = AllKeys-weaker IsMonomial (IsCanonical var_cmp exponents) (λ m g. g.in_order) p h.monomials;
}

-- a canonical list is no longer than the list
ones : (p : Summands) → sum_by (λ t. 1) p ≡ length p
ones [] = refl
ones (t ∷ ts) = omega (arith, sum_by-cons (λ (t : Powers × ℤ). 1) t ts, ones ts)

length-map_terms : (v : Var) (z : ℤ) (p : Summands) → length (map (specialised_term v z) p) ≡ length p
length-map_terms v z [] = refl
length-map_terms v z (t ∷ ts) = omega (arith, length-map_terms v z ts)

length-specialised-le : (v : Var) (z : ℤ) (p : Summands) → length (specialised v z p) ≤ length p
length-specialised-le v z p =
    let fewer : sum_by (λ (t : Powers × ℤ). 1) (specialised v z p) ≤ sum_by (λ (t : Powers × ℤ). 1) (map (specialised_term v z) p) =
    sum_by-canonical-le term_cmp coefficients term_order coefficients_add (λ t. 1) (λ k a b. omega arith) (map (specialised_term v z) p) in
    omega (arith, fewer, ones (specialised v z p), ones (map (specialised_term v z) p), length-map_terms v z p)

-- a list in two parts
pub specialised_halves : (v : Var) (z : ℤ) (n : ℕ) (p : Summands) → sum_of (specialised v z (take n p)) (specialised v z (drop n p)) ≡ specialised v z p
specialised_halves v z n p =
    sum_of-polynomial_of (map (specialised_term v z) (take n p)) (map (specialised_term v z) (drop n p))
    ∙ ap polynomial_of (sym (map-append (specialised_term v z) (take n p) (drop n p)) ∙ ap (map (specialised_term v z)) (take-append-drop n p))

pub weight_halves : (v : Var) (z : ℤ) (n : ℕ) (p : Summands) → specialised_weight v z (take n p) +ₙ specialised_weight v z (drop n p) ≡ specialised_weight v z p
weight_halves v z n p =
    sym (sum_by-append (λ (t : Powers × ℤ). unsigned_abs t.1 *ₙ unsigned_abs z ^ exponent v t.0) (take n p) (drop n p)) ∙ ap (specialised_weight v z) (take-append-drop n p)

pub weight-more : (v : Var) (z : ℤ) (p : Summands) (i : ℕ) (t : Powers × ℤ) → i < length p → t ≡ get_or p i t
    → specialised_weight v z (take (i +ₙ 1) p) ≡ specialised_weight v z (take i p) +ₙ unsigned_abs t.1 *ₙ unsigned_abs z ^ exponent v t.0
weight-more v z p i t h e =
    let f : Powers × ℤ → ℕ = λ t. unsigned_abs t.1 *ₙ unsigned_abs z ^ exponent v t.0 in
    ap (specialised_weight v z) (take_more p i t h) ∙ sum_by-append f (take i p) (get_or p i t ∷ [])
    ∙ (let one : sum_by f (get_or p i t ∷ []) ≡ f t = ap (λ (u : Powers × ℤ). sum_by f (u ∷ [])) (sym e)
    ∙ (let s : sum_by f (t ∷ []) ≡ f t = omega (arith, sum_by-cons f t []) in s) in
    ap (λ k. specialised_weight v z (take i p) +ₙ k) one)

pub weight_front : (v : Var) (z : ℤ) (n : ℕ) (p : Summands) → specialised_weight v z p < 2 ^ 127 → specialised_weight v z (take n p) < 2 ^ 127
weight_front v z n p fits = omega (arith, fits, weight_halves v z n p)

pub weight_back : (v : Var) (z : ℤ) (n : ℕ) (p : Summands) → specialised_weight v z p < 2 ^ 127 → specialised_weight v z (drop n p) < 2 ^ 127
weight_back v z n p fits = omega (arith, fits, weight_halves v z n p)

pub IsCanonical-take : (n : ℕ) (p : Summands) → IsCanonical term_cmp coefficients p → IsCanonical term_cmp coefficients (take n p)
IsCanonical-take n p h = IsCanonical_front (take n p) (drop n p) (subst (IsCanonical term_cmp coefficients) (sym (take-append-drop n p)) h)

pub IsCanonical-drop : (n : ℕ) (p : Summands) → IsCanonical term_cmp coefficients p → IsCanonical term_cmp coefficients (drop n p)
IsCanonical-drop n p h = IsCanonical_back (take n p) (drop n p) (subst (IsCanonical term_cmp coefficients) (sym (take-append-drop n p)) h)

pub IsCanonical-specialised : (v : Var) (z : ℤ) (p : Summands) → IsCanonical term_cmp coefficients (specialised v z p)
IsCanonical-specialised v z p = IsCanonical-polynomial_of (map (specialised_term v z) p)

-- a power of a number fits where a multiple of it does
pub power_fits : (c z : ℤ) (e : ℕ) → (unsigned_abs c ≡ 0 → ⊥) → unsigned_abs c *ₙ unsigned_abs z ^ e < 2 ^ 127 → FitsSigned w128 (int_pow z e)
power_fits c z e n fits =
    let one : 1 ≤ unsigned_abs c = omega (arith, n) in
    let le : 1 *ₙ unsigned_abs z ^ e ≤ unsigned_abs c *ₙ unsigned_abs z ^ e = mul-le-mul_right (unsigned_abs z ^ e) one in
    fits_signed_from_abs w128 (int_pow z e) (omega (arith, le, fits, unsigned_abs-int_pow z e))

pub multiple_fits : (c z : ℤ) (e : ℕ) → unsigned_abs c *ₙ unsigned_abs z ^ e < 2 ^ 127 → FitsSigned w128 (c *ℤ int_pow z e)
multiple_fits c z e fits =
    fits_signed_from_abs w128 (c *ℤ int_pow z e) (omega (arith, fits, unsigned_abs-mul c (int_pow z e), ap (λ k. unsigned_abs c *ₙ k) (unsigned_abs-int_pow z e)))

pub specialised_halves_fit : (v : Var) (z : ℤ) (n : ℕ) (p : Summands) → specialised_weight v z p < 2 ^ 127 → norm_of (specialised v z (take n p)) +ₙ norm_of (specialised v z (drop n p)) < 2 ^ 127
specialised_halves_fit v z n p fits =
    omega (arith, fits, weight_halves v z n p, norm_of-specialised-le v z (take n p), norm_of-specialised-le v z (drop n p))

-- EXPONENTS AND DEGREES
pub degree_in-from_keys : (w : Var) (d : ℕ) (p : Summands) → AllKeys (λ m. exponent w m ≤ d) p → degree_in w p ≤ d
degree_in-from_keys w d [] h = omega arith
degree_in-from_keys w d (t ∷ ts) h = omega (arith, h.0, degree_in-from_keys w d ts h.1)

pub keys_from_degree_in : (w : Var) (d : ℕ) (p : Summands) → degree_in w p ≤ d → AllKeys (λ m. exponent w m ≤ d) p
keys_from_degree_in w d [] h = tt
keys_from_degree_in w d (t ∷ ts) h = (omega (arith, h), keys_from_degree_in w d ts (omega (arith, h)))

-- one more monomial
degree_in-append : (v : Var) (p q : Summands) → degree_in v (p ++ q) ≡ max (degree_in v p) (degree_in v q)
degree_in-append v [] q = omega arith
degree_in-append v (t ∷ ts) q = omega (arith, degree_in-append v ts q)

pub degree_in-more : (v : Var) (p : Summands) (i : ℕ) (t : Powers × ℤ) → i < length p → t ≡ get_or p i t → degree_in v (take (i +ₙ 1) p) ≡ max (degree_in v (take i p)) (exponent v t.0)
degree_in-more v p i t h e =
    ap (degree_in v) (take_more p i t h) ∙ degree_in-append v (take i p) (get_or p i t ∷ [])
    ∙ (let last : max (exponent v (get_or p i t).0) 0 ≡ exponent v t.0 = ap (λ (u : Powers × ℤ). max (exponent v u.0) 0) (sym e)
    ∙ (let m : max (exponent v t.0) 0 ≡ exponent v t.0 = omega arith in m) in ap (λ k. max (degree_in v (take i p)) k) last)

pub degree_in-specialised_self : (v : Var) (z : ℤ) (p : Summands) → degree_in v (specialised v z p) ≡ 0
degree_in-specialised_self v z p =
    let le : degree_in v (specialised v z p) ≤ 0 = degree_in-from_keys v 0 (specialised v z p) (AllKeys-specialised (λ m. exponent v m ≤ 0) v z p (all p)) in
    omega (arith, le)
  where
    all : (p : Summands) → AllKeys (λ m. exponent v (without v m) ≤ 0) p
    all [] = tt
    all (t ∷ ts) = (omega (arith, exponent-without_self v t.0), all ts)

pub degree_in-specialised-le : (v : Var) (z : ℤ) (w : Var) (p : Summands) → degree_in w (specialised v z p) ≤ degree_in w p
degree_in-specialised-le v z w p =
    let d = degree_in w p in
    degree_in-from_keys w d (specialised v z p) (AllKeys-specialised (λ m. exponent w m ≤ d) v z p
    (AllKeys-weaker (λ m. exponent w m ≤ d) (λ m. exponent w (without v m) ≤ d) (λ m h. omega (arith, h, exponent-without-le v w m)) p (keys_from_degree_in w d p (omega arith))))

degree_from_keys : (d : ℕ) (p : Summands) → AllKeys (λ m. degree_of m ≤ d) p → total_degree p ≤ d
degree_from_keys d [] h = omega arith
degree_from_keys d (t ∷ ts) h = omega (arith, h.0, degree_from_keys d ts h.1)

keys_from_degree : (d : ℕ) (p : Summands) → total_degree p ≤ d → AllKeys (λ m. degree_of m ≤ d) p
keys_from_degree d [] h = tt
keys_from_degree d (t ∷ ts) h = (omega (arith, h), keys_from_degree d ts (omega (arith, h)))

pub total_degree-specialised-le : (v : Var) (z : ℤ) (p : Summands) → total_degree (specialised v z p) ≤ total_degree p
total_degree-specialised-le v z p =
    let d = total_degree p in
    degree_from_keys d (specialised v z p) (AllKeys-specialised (λ m. degree_of m ≤ d) v z p
    (AllKeys-weaker (λ m. degree_of m ≤ d) (λ m. degree_of (without v m) ≤ d) (λ m h. omega (arith, h, degree_of-without-le v m)) p (keys_from_degree d p (omega arith))))

pub IsSmaller-specialised : (v : Var) (z : ℤ) (p : Summands) → IsSmaller v z p
IsSmaller-specialised v z p = record {
  collected = IsCollected-specialised v z p;
  gone = degree_in-specialised_self v z p;
  exponents = λ w. degree_in-specialised-le v z w p;
  degree = total_degree-specialised-le v z p;
  monomials = length-specialised-le v z p;
  norm = norm_of-specialised-le v z p;
}

-- A POLYNOMIAL THAT LACKS THE VARIABLE
pub without-lacking : (v : Var) (m : Powers) → IsCanonical var_cmp exponents m → exponent v m ≡ 0 → without v m ≡ m
without-lacking v [] h none = refl
without-lacking v (p ∷ m) h none = go (var_cmp v p.0) none (without-lacking v m h.2 (omega (arith, none)))
  where
    go : (o : Ordering) → cond (is_eq o) p.1 0 +ₙ exponent v m ≡ 0 → without v m ≡ m → cond (not (is_eq o)) (p ∷ without v m) (without v m) ≡ p ∷ m
    go Less none rest = ap (λ (n : Powers). p ∷ n) rest
    go Greater none rest = ap (λ (n : Powers). p ∷ n) rest
    go Equal none rest =
        let some : eqb p.1 0 ≡ false = h.0 in
        let nothing : p.1 ≡ 0 = omega (arith, none) in
        absurd (grind (arith, nat_tests))

times_one : (c : ℤ) → c *ℤ pos 1 ≡ c
unfolding one_ℤ
times_one c = *ℤ-one c

pub times_power_zero : (c z : ℤ) → c *ℤ int_pow z 0 ≡ c
times_power_zero c z = ap (λ k. c *ℤ k) (int_pow-zero z) ∙ times_one c

terms-lacking : (v : Var) (z : ℤ) (p : Summands) → AllKeys (IsCanonical var_cmp exponents) p → degree_in v p ≡ 0 → map (specialised_term v z) p ≡ p
terms-lacking v z [] h none = refl
terms-lacking v z (t ∷ ts) h none =
    let first : exponent v t.0 ≡ 0 = omega (arith, none) in
    let same : specialised_term v z t ≡ t =
    ap₂ (λ (m : Powers) (c : ℤ). (m, c)) (without-lacking v t.0 h.0 first) (ap (λ e. t.1 *ℤ int_pow z e) first ∙ times_power_zero t.1 z) in
    ap₂ (λ (u : Powers × ℤ) (us : Summands). u ∷ us) same (terms-lacking v z ts h.1 (omega (arith, none)))

-- it stays as it is
pub specialised-lacking : (v : Var) (z : ℤ) (p : Summands) → IsCollected p → degree_in v p ≡ 0 → specialised v z p ≡ p
specialised-lacking v z p h none =
    ap polynomial_of (terms-lacking v z p h.monomials none) ∙ canonical_self term_cmp coefficients term_order coefficients_add p h.in_order

-- its weight is its norm
pub weight-lacking : (v : Var) (z : ℤ) (p : Summands) → degree_in v p ≡ 0 → specialised_weight v z p ≡ norm_of p
weight-lacking v z [] none = refl
weight-lacking v z (t ∷ ts) none =
    let f : Powers × ℤ → ℕ = λ t. unsigned_abs t.1 in
    let g : Powers × ℤ → ℕ = λ t. unsigned_abs t.1 *ₙ unsigned_abs z ^ exponent v t.0 in
    let first : exponent v t.0 ≡ 0 = omega (arith, none) in
    let one : unsigned_abs t.1 *ₙ unsigned_abs z ^ exponent v t.0 ≡ unsigned_abs t.1 =
    ap (λ e. unsigned_abs t.1 *ₙ unsigned_abs z ^ e) first ∙ ap (λ k. unsigned_abs t.1 *ₙ k) (pow-zero (unsigned_abs z)) ∙ mul-one (unsigned_abs t.1) in
    omega (arith, one, weight-lacking v z ts (omega (arith, none)), sum_by-cons f t ts, sum_by-cons g t ts)

-- THE VALUE
module _ (R : Ring) (x : Var → R.carrier) where
  open R use {carrier, same as ◌≈◌, add as ◌+◌, mul as ◌*◌, neg, zero as zero_of, one}

  infix 4 ◌≈◌
  infixl 6 ◌+◌
  infixl 7 ◌*◌
  infixr 3 ◌∘◌
  ◌∘◌ : {a b c : carrier} → a ≈ b → b ≈ c → a ≈ c
  ◌∘◌ p q = R.same_trans _ _ _ p q

  flip : {a b : carrier} → a ≈ b → b ≈ a
  flip p = R.same_sym _ _ p

  self : {a : carrier} → a ≈ a
  self {a} = R.same_refl a

  times : {a b c d : carrier} → a ≈ b → c ≈ d → a * c ≈ b * d
  times p q = R.mul-same _ _ _ _ p q

  monomial_value-without : (v : Var) (m : Powers) → monomial_value R x m ≈ power R (x v) (exponent v m) * monomial_value R x (without v m)
  monomial_value-without v [] = flip (R.mul-one one)
  monomial_value-without v (p ∷ m) = go (var_cmp v p.0) refl (monomial_value-without v m)
    where
      first : Var × ℕ → carrier
      first p = power R (x p.0) p.1

      kept : monomial_value R x m ≈ power R (x v) (exponent v m) * monomial_value R x (without v m)
          → power R (x p.0) p.1 * monomial_value R x m ≈ power R (x v) (0 +ₙ exponent v m) * (power R (x p.0) p.1 * monomial_value R x (without v m))
      kept rest =
          let a = variable 0 in let b = variable 1 in let c = variable 2 in
          let same : exponent v m ≡ 0 +ₙ exponent v m = omega arith in
          subst (λ (k : ℕ). power R (x p.0) p.1 * monomial_value R x m ≈ power R (x v) k * (power R (x p.0) p.1 * monomial_value R x (without v m))) same
          (times self rest ∘ agree R (entry_at R (power R (x p.0) p.1 ∷ power R (x v) (exponent v m) ∷ monomial_value R x (without v m) ∷ [])) (a ⊠ (b ⊠ c)) (b ⊠ (a ⊠ c)) tt)

      go : (o : Ordering) → var_cmp v p.0 ≡ o
          → monomial_value R x m ≈ power R (x v) (exponent v m) * monomial_value R x (without v m)
          → power R (x p.0) p.1 * monomial_value R x m ≈ power R (x v) (cond (is_eq o) p.1 0 +ₙ exponent v m) * monomial_value R x (cond (not (is_eq o)) (p ∷ without v m) (without v m))
      go Less e rest = kept rest
      go Greater e rest = kept rest
      go Equal e rest =
          subst (λ (u : Var). power R (x u) p.1 * monomial_value R x m ≈ power R (x v) (p.1 +ₙ exponent v m) * monomial_value R x (without v m)) (var_order.exact v p.0 e)
          (times self rest ∘ flip (R.mul_assoc (power R (x v) p.1) (power R (x v) (exponent v m)) (monomial_value R x (without v m))) ∘ times (flip (power-add R (x v) p.1 (exponent v m))) self)

  module _ (v : Var) (z : ℤ) (at : x v ≈ integer R z) where
    value-terms : (p : Summands) → value R x (map (specialised_term v z) p) ≈ value R x p
    value-terms [] = self
    value-terms (t ∷ ts) =
        let e = exponent v t.0 in
        R.add-same _ _ _ _
        (times (integer-mul R t.1 (int_pow z e)) self
        ∘ R.mul_assoc (integer R t.1) (integer R (int_pow z e)) (monomial_value R x (without v t.0))
        ∘ times self (times (integer-int_pow R z e ∘ power-same R _ _ e (flip at)) self ∘ flip (monomial_value-without v t.0)))
        (value-terms ts)

    -- the value stays where v has the value z
    pub value-specialised : (p : Summands) → value R x (specialised v z p) ≈ value R x p
    value-specialised p = value-polynomial_of R x (map (specialised_term v z) p) ∘ value-terms p
