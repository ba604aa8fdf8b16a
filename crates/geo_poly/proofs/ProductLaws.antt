-- Products of polynomials.
use Rattle.std.proofs.Common.{◌≡◌, ℕ, zero, suc, ◌+◌, ◌*◌, ◌^◌, ◌<◌, ◌≤◌, max, eqb, Bool, true, false, ℤ, ◌*ℤ◌, [], ◌∷◌, ◌++◌, take, drop}
use Rattle.std.proofs.Common.{refl, sym, ap, ap₂, subst, ◌∙◌, unsigned_abs, append_assoc, add-one, length, get_or, FitsSigned, to_z, of_z}
use Rattle.std.proofs.Common.{mul-pos, arith}
use Rattle.std.specs.declared.cmp.Ordering.TheVariants.{Less, Greater}
use Rattle.std.proofs.lemmas.Int.{unsigned_abs-mul, fits_signed_mul, to_z-of_z}
use Rattle.std.specs.Int.{w128}
use Rattle.std.proofs.lemmas.List.{append-nil, take-append-drop}
use Rattle.std.proofs.lemmas.Bool.Decides.{nat_tests}
use Rattle.std.proofs.lemmas.List.Sums.{sum_by-cons, sum_by-append, get_or-le-sum_by}
use Rattle.geo_poly.specs.Variables.{var_cmp}
use Rattle.sparse_lists.specs.SparseLists.{AllKeys, IsBefore, IsCanonical, canonical}
use Rattle.geo_poly.specs.Monomials.{Powers, exponents, IsMonomial, degree_of, product, monomial_cmp}
use Rattle.sparse_lists.specs.Coefficients.{coefficients}
use Rattle.geo_poly.specs.Polynomials.{Summands, term_cmp, norm_of, total_degree, IsPolynomial, sum_of, multiples, products, product_of, CanMultiply}
use Rattle.geo_poly.proofs.Orders.{term_order, var_order, exponents_add}
use Rattle.sparse_lists.proofs.Canonical.{IsCanonical-canonical, canonical_self, canonical-canonical_left, canonical_comm}
use Rattle.sparse_lists.proofs.Sums.{AllKeys-canonical, AllKeys-append}
use Rattle.geo_poly.proofs.MonomialLaws.{IsMonomial-product}
use Rattle.geo_poly.proofs.MonomialOrder.{IsEarlier-from_cmp, cmp_from_IsEarlier, IsEarlier-product}
use Rattle.sparse_lists.proofs.Coefficients.{coefficients_add}
use Rattle.geo_poly.proofs.PolynomialLaws.{norm_of-polynomial_of-le}

norm : Powers × ℤ → ℕ
norm t = unsigned_abs t.1

pub products-append : (p q r : Summands) → products (p ++ q) r ≡ products p r ++ products q r
products-append [] q r = refl
products-append (t ∷ ts) q r = ap (λ x. multiples t r ++ x) (products-append ts q r) ∙ sym (append_assoc (multiples t r) (products ts r) (products q r))

-- the product of a list in two parts is the sum of the products
pub product_of-append : (p q r : Summands) → sum_of (product_of p r) (product_of q r) ≡ product_of (p ++ q) r
product_of-append p q r =
    canonical-canonical_left term_cmp coefficients term_order coefficients_add (products p r) (product_of q r)
    ∙ canonical_comm term_cmp coefficients term_order coefficients_add (products p r) (product_of q r)
    ∙ canonical-canonical_left term_cmp coefficients term_order coefficients_add (products q r) (products p r)
    ∙ canonical_comm term_cmp coefficients term_order coefficients_add (products q r) (products p r)
    ∙ ap (canonical term_cmp coefficients) (sym (products-append p q r))

pub norm_of-multiples : (t : Powers × ℤ) (q : Summands) → norm_of (multiples t q) ≡ unsigned_abs t.1 * norm_of q
norm_of-multiples t [] = omega arith
norm_of-multiples t (u ∷ us) =
    omega (
      arith,
      sum_by-cons (λ (t : Powers × ℤ). unsigned_abs t.1) (product t.0 u.0, t.1 *ℤ u.1) (multiples t us),
      sum_by-cons (λ (t : Powers × ℤ). unsigned_abs t.1) u us,
      unsigned_abs-mul t.1 u.1,
      norm_of-multiples t us,
      ap (λ k. unsigned_abs t.1 * k) (sum_by-cons (λ (t : Powers × ℤ). unsigned_abs t.1) u us),
    )

pub norm_of-products : (p q : Summands) → norm_of (products p q) ≡ norm_of p * norm_of q
norm_of-products [] q = omega arith
norm_of-products (t ∷ ts) q =
    omega (
      arith,
      sum_by-append (λ (t : Powers × ℤ). unsigned_abs t.1) (multiples t q) (products ts q),
      norm_of-multiples t q,
      norm_of-products ts q,
      ap (λ k. k * norm_of q) (sum_by-cons (λ (t : Powers × ℤ). unsigned_abs t.1) t ts),
    )

pub norm_of-product_of-le : (p q : Summands) → norm_of (product_of p q) ≤ norm_of p * norm_of q
norm_of-product_of-le p q = omega (arith, norm_of-polynomial_of-le (products p q), norm_of-products p q)

monomials_of_multiples : (t : Powers × ℤ) (q : Summands) → degree_of t.0 + total_degree q ≤ 65535 → AllKeys IsMonomial (multiples t q)
monomials_of_multiples t [] h = tt
monomials_of_multiples t (u ∷ us) h = (IsMonomial-product t.0 u.0 (omega arith), monomials_of_multiples t us (omega arith))

pub monomials_of_products : (p q : Summands) → total_degree p + total_degree q ≤ 65535 → AllKeys IsMonomial (products p q)
monomials_of_products [] q h = tt
monomials_of_products (t ∷ ts) q h =
    AllKeys-append IsMonomial (multiples t q) (products ts q) (monomials_of_multiples t q (omega arith)) (monomials_of_products ts q (omega arith))

pub IsPolynomial-product_of : (p q : Summands) → norm_of p * norm_of q < 2 ^ 127 → total_degree p + total_degree q ≤ 65535 → IsPolynomial (product_of p q)
IsPolynomial-product_of p q fits degree = record {
  in_order = IsCanonical-canonical term_cmp coefficients term_order coefficients_add (products p q);
  monomials = AllKeys-canonical term_cmp coefficients IsMonomial (products p q) (monomials_of_products p q degree);
  norm_fits = omega (arith, norm_of-product_of-le p q);
}

-- THE MULTIPLES BY ONE TERM ARE IN ORDER
pub later : (k m n : Powers) → IsMonomial m → IsMonomial n → term_cmp m n ≡ Less → term_cmp (product k m) (product k n) ≡ Less
later k m n h g e =
    let greater : monomial_cmp m n ≡ Greater = term_order_back m n e in
    term_order_forth (product k m) (product k n)
    (cmp_from_IsEarlier (product k m) (product k n)
    (IsCanonical-canonical var_cmp exponents var_order exponents_add (k ++ m)) (IsCanonical-canonical var_cmp exponents var_order exponents_add (k ++ n))
    (IsEarlier-product k m n (IsEarlier-from_cmp m n h.in_order g.in_order greater)))
  where
    term_order_back : (m n : Powers) → term_cmp m n ≡ Less → monomial_cmp m n ≡ Greater
    term_order_back m n e = term_order.flip m n e

    term_order_forth : (m n : Powers) → monomial_cmp m n ≡ Greater → term_cmp m n ≡ Less
    term_order_forth m n e = term_order.flip_back n m e

IsBefore-multiples : (t : Powers × ℤ) (m : Powers) (us : Summands) → IsMonomial m → AllKeys IsMonomial us → IsBefore term_cmp m us → IsBefore term_cmp (product t.0 m) (multiples t us)
IsBefore-multiples t m [] h g b = tt
IsBefore-multiples t m (u ∷ us) h g b = (later t.0 m u.0 h g.0 b.0, IsBefore-multiples t m us h g.1 b.1)

nonzero_product : (a b : ℤ) → eqb (unsigned_abs a) 0 ≡ false → eqb (unsigned_abs b) 0 ≡ false → eqb (unsigned_abs (a *ℤ b)) 0 ≡ false
nonzero_product a b h g = subst (λ n. eqb n 0 ≡ false) (sym (unsigned_abs-mul a b)) (both (unsigned_abs a) (unsigned_abs b) h g)
  where
    both : (m n : ℕ) → eqb m 0 ≡ false → eqb n 0 ≡ false → eqb (m * n) 0 ≡ false
    both m n h g = go (eqb (m * n) 0) refl
      where
        go : (z : Bool) → eqb (m * n) 0 ≡ z → z ≡ false
        go false e = refl
        go true e =
            let left : 0 < m = grind (arith, nat_tests) in
            let right : 0 < n = grind (arith, nat_tests) in
            let some : 0 < m * n = mul-pos left right in
            let none : m * n ≡ 0 = grind (arith, nat_tests) in
            absurd (omega arith)

pub IsCanonical-multiples : (t : Powers × ℤ) (q : Summands) → eqb (unsigned_abs t.1) 0 ≡ false → AllKeys IsMonomial q
    → IsCanonical term_cmp coefficients q → IsCanonical term_cmp coefficients (multiples t q)
IsCanonical-multiples t [] h g c = tt
IsCanonical-multiples t (u ∷ us) h g c =
    (nonzero_product t.1 u.1 h c.0, IsBefore-multiples t u.0 us g.0 g.1 c.1, IsCanonical-multiples t us h g.1 c.2)

-- PARTS OF A LIST
degree_of_append : (p q : Summands) → total_degree (p ++ q) ≡ max (total_degree p) (total_degree q)
degree_of_append [] q = omega arith
degree_of_append (t ∷ ts) q = omega (arith, degree_of_append ts q)

IsBefore_parts : (m : Powers) (p q : Summands) → IsBefore term_cmp m (p ++ q) → IsBefore term_cmp m p
IsBefore_parts m [] q h = tt
IsBefore_parts m (t ∷ ts) q h = (h.0, IsBefore_parts m ts q h.1)

pub IsCanonical_front : (p q : Summands) → IsCanonical term_cmp coefficients (p ++ q) → IsCanonical term_cmp coefficients p
IsCanonical_front [] q h = tt
IsCanonical_front (t ∷ ts) q h = (h.0, IsBefore_parts t.0 ts q h.1, IsCanonical_front ts q h.2)

pub IsCanonical_back : (p q : Summands) → IsCanonical term_cmp coefficients (p ++ q) → IsCanonical term_cmp coefficients q
IsCanonical_back [] q h = h
IsCanonical_back (t ∷ ts) q h = IsCanonical_back ts q h.2

pub monomials_front : (p q : Summands) → AllKeys IsMonomial (p ++ q) → AllKeys IsMonomial p
monomials_front [] q h = tt
monomials_front (t ∷ ts) q h = (h.0, monomials_front ts q h.1)

pub monomials_back : (p q : Summands) → AllKeys IsMonomial (p ++ q) → AllKeys IsMonomial q
monomials_back [] q h = h
monomials_back (t ∷ ts) q h = monomials_back ts q h.1

norm_of_append_times : (p q r : Summands) → norm_of (p ++ q) * norm_of r ≡ norm_of p * norm_of r + norm_of q * norm_of r
norm_of_append_times p q r = omega (arith, ap (λ k. k * norm_of r) (sum_by-append (λ (t : Powers × ℤ). unsigned_abs t.1) p q))

pub CanMultiply-front : (p q r : Summands) → CanMultiply (p ++ q) r → CanMultiply p r
CanMultiply-front p q r h = record {
  left_in_order = IsCanonical_front p q h.left_in_order;
  left_monomials = monomials_front p q h.left_monomials;
  right_in_order = h.right_in_order;
  right_monomials = h.right_monomials;
  norm_fits = omega (arith, norm_of_append_times p q r, h.norm_fits);
  degree_fits = omega (arith, degree_of_append p q, h.degree_fits);
}

pub CanMultiply-back : (p q r : Summands) → CanMultiply (p ++ q) r → CanMultiply q r
CanMultiply-back p q r h = record {
  left_in_order = IsCanonical_back p q h.left_in_order;
  left_monomials = monomials_back p q h.left_monomials;
  right_in_order = h.right_in_order;
  right_monomials = h.right_monomials;
  norm_fits = omega (arith, norm_of_append_times p q r, h.norm_fits);
  degree_fits = omega (arith, degree_of_append p q, h.degree_fits);
}

pub parts_fit : (p q r : Summands) → CanMultiply (p ++ q) r → norm_of (product_of p r) + norm_of (product_of q r) < 2 ^ 127
parts_fit p q r h = omega (arith, norm_of_append_times p q r, h.norm_fits, norm_of-product_of-le p r, norm_of-product_of-le q r)

pub product_of_one : (t : Powers × ℤ) (q : Summands) → CanMultiply (t ∷ []) q → multiples t q ≡ product_of (t ∷ []) q
product_of_one t q h =
    sym (canonical_self term_cmp coefficients term_order coefficients_add (multiples t q) (IsCanonical-multiples t q h.left_in_order.0 h.right_monomials h.right_in_order))
    ∙ ap (canonical term_cmp coefficients) (sym (append-nil (multiples t q)))

pub total_degree-le : (p : Summands) → AllKeys IsMonomial p → total_degree p ≤ 65535
total_degree-le [] h = omega arith
total_degree-le (t ∷ ts) h = omega (arith, h.0.degree_fits, total_degree-le ts h.1)

pub degree_at-le : (p : Summands) (i : ℕ) (t : Powers × ℤ) → i < length p → t ≡ get_or p i t → degree_of t.0 ≤ total_degree p
degree_at-le [] i t h e = absurd (omega arith)
degree_at-le (u ∷ us) zero t h e = let same : degree_of t.0 ≡ degree_of u.0 = ap (λ (x : Powers × ℤ). degree_of x.0) e in omega (arith, same)
degree_at-le (u ∷ us) (suc i) t h e = omega (arith, degree_at-le us i t (omega arith) e)

pub total_degree-more : (p : Summands) (i : ℕ) (t : Powers × ℤ) → i < length p → t ≡ get_or p i t → total_degree (take (i + 1) p) ≡ max (total_degree (take i p)) (degree_of t.0)
total_degree-more p i t h e = rw add-one (go p i h e)
  where
    go : (p : Summands) (i : ℕ) → i < length p → t ≡ get_or p i t → total_degree (take (suc i) p) ≡ max (total_degree (take i p)) (degree_of t.0)
    go [] i h e = absurd (omega arith)
    go (u ∷ us) zero h e = let same : degree_of t.0 ≡ degree_of u.0 = ap (λ (x : Powers × ℤ). degree_of x.0) e in omega (arith, same)
    go (u ∷ us) (suc i) h e = omega (arith, go us i (omega arith) e)

pub times_fits : (t : Powers × ℤ) (q : Summands) (i : ℕ) (u : Powers × ℤ) → i < length q → u ≡ get_or q i u → unsigned_abs t.1 * norm_of q < 2 ^ 127 → FitsSigned w128 (t.1 *ℤ u.1)
times_fits t q i u h e fits =
    let size : Powers × ℤ → ℕ = λ t. unsigned_abs t.1 in
    let right : unsigned_abs u.1 ≤ norm_of q = subst (λ x. size x ≤ norm_of q) (sym e) (get_or-le-sum_by size q i u h) in
    fits_signed_mul w128 t.1 u.1 (unsigned_abs t.1) (norm_of q) (omega arith) right fits

-- a list is what the code splits it into
pub CanMultiply-take : (n : ℕ) (p r : Summands) → CanMultiply p r → CanMultiply (take n p) r
CanMultiply-take n p r h = CanMultiply-front (take n p) (drop n p) r (subst (λ x. CanMultiply x r) (sym (take-append-drop n p)) h)

pub CanMultiply-drop : (n : ℕ) (p r : Summands) → CanMultiply p r → CanMultiply (drop n p) r
CanMultiply-drop n p r h = CanMultiply-back (take n p) (drop n p) r (subst (λ x. CanMultiply x r) (sym (take-append-drop n p)) h)

pub halves_fit : (n : ℕ) (p r : Summands) → CanMultiply p r → norm_of (product_of (take n p) r) + norm_of (product_of (drop n p) r) < 2 ^ 127
halves_fit n p r h = parts_fit (take n p) (drop n p) r (subst (λ x. CanMultiply x r) (sym (take-append-drop n p)) h)

pub product_of_halves : (n : ℕ) (p r : Summands) → sum_of (product_of (take n p) r) (product_of (drop n p) r) ≡ product_of p r
product_of_halves n p r = product_of-append (take n p) (drop n p) r ∙ ap (λ x. product_of x r) (take-append-drop n p)

pub IsCanonical-product_of : (p q : Summands) → IsCanonical term_cmp coefficients (product_of p q)
IsCanonical-product_of p q = IsCanonical-canonical term_cmp coefficients term_order coefficients_add (products p q)

pub single : (p : Summands) (t : Powers × ℤ) → 1 ≤ length p → length p < 2 → t ≡ get_or p 0 t → t ∷ [] ≡ p
single [] t h g e = absurd (omega arith)
single (u ∷ []) t h g e = ap (λ (x : Powers × ℤ). x ∷ []) e
single (u ∷ v ∷ us) t h g e = absurd (omega arith)

-- the code's product of two coefficients
abbrev pub coded_product : ℤ → ℤ → ℤ
coded_product a b = to_z w128 (of_z w128 a) *ℤ to_z w128 (of_z w128 b)

pub coded_product_is : (a b : ℤ) → FitsSigned w128 a → FitsSigned w128 b → coded_product a b ≡ a *ℤ b
coded_product_is a b h g = ap₂ ◌*ℤ◌ (to_z-of_z w128 a h) (to_z-of_z w128 b g)

pub product_is_kept : (a b : ℤ) → FitsSigned w128 a → FitsSigned w128 b → FitsSigned w128 (a *ℤ b) → to_z w128 (of_z w128 (coded_product a b)) ≡ a *ℤ b
product_is_kept a b h g f = ap (λ z. to_z w128 (of_z w128 z)) (coded_product_is a b h g) ∙ to_z-of_z w128 (a *ℤ b) f
