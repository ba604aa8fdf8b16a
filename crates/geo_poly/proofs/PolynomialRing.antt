-- Products of polynomials: they are associative, and 1 is their unit.
use Rattle.std.proofs.Common.{◌≡◌, ℕ, zero, suc, Bool, true, false, cond, ℤ, pos, ◌+ℤ◌, ◌*ℤ◌, [], ◌∷◌, ◌++◌, refl, sym, ap, ap₂, ◌∙◌, append_assoc, arith}
use Rattle.std.proofs.lemmas.Int.{ints}
use Rattle.std.proofs.lemmas.List.{append-nil}
use Rattle.std.proofs.Math.IntN as IntN
use Rattle.std.specs.Ordering.{is_eq}
use Rattle.ring_laws.proofs.Integers.{mul-add, mul_assoc}
use Rattle.sparse_lists.specs.SparseLists.{AllKeys, IsCanonical, canonical}
use Rattle.sparse_lists.proofs.Canonical.{IsCanonical-canonical, canonical-canonical_left, canonical_comm, canonical_same, canonical_self}
use Rattle.sparse_lists.proofs.Sums.{AllKeys-append, AllKeys-canonical}
use Rattle.sparse_lists.proofs.Totals.{Monoid, total, total-canonical}
use Rattle.geo_poly.specs.Monomials.{Powers, exponents, product}
use Rattle.sparse_lists.specs.Coefficients.{coefficients}
use Rattle.geo_poly.specs.Polynomials.{Summands, constant_of, multiples, polynomial_of, product_of, products, term_cmp}
use Rattle.geo_poly.specs.Replace.{power_of}
use Rattle.geo_poly.specs.Variables.{var_cmp}
use Rattle.geo_poly.proofs.Orders.{exponents_add, term_order, var_order}
use Rattle.sparse_lists.proofs.Coefficients.{coefficients_add}
use Rattle.geo_poly.proofs.ProductLaws.{products-append}

abbrev one : Summands
one = constant_of (pos 1)

-- LISTS OF TERMS WITH THE SAME POLYNOMIAL
abbrev Alike : Summands → Summands → Type 0
Alike p q = polynomial_of p ≡ polynomial_of q

-- the polynomial of two parts is that of the polynomial of the second
pub polynomial_of-right : (p q : Summands) → Alike (p ++ polynomial_of q) (p ++ q)
polynomial_of-right p q =
    canonical_comm term_cmp coefficients term_order coefficients_add p (polynomial_of q)
    ∙ canonical-canonical_left term_cmp coefficients term_order coefficients_add q p
    ∙ canonical_comm term_cmp coefficients term_order coefficients_add q p

alike-append : (p q r s : Summands) → Alike p q → Alike r s → Alike (p ++ r) (q ++ s)
alike-append p q r s e f =
    sym (canonical-canonical_left term_cmp coefficients term_order coefficients_add p r)
    ∙ ap (λ x. polynomial_of (x ++ r)) e
    ∙ canonical-canonical_left term_cmp coefficients term_order coefficients_add q r
    ∙ sym (polynomial_of-right q r) ∙ ap (λ x. polynomial_of (q ++ x)) f ∙ polynomial_of-right q s

-- lists of terms, put one after another
abbrev lists : Monoid
lists = record {
  carrier = Summands;
  same = Alike;
  unit = [];
  op = ◌++◌;
  same_refl = λ p. refl;
  same_sym = λ p q e. sym e;
  same_trans = λ p q r e f. e ∙ f;
  op-same = alike-append;
  op_comm = canonical_comm term_cmp coefficients term_order coefficients_add;
  op_assoc = λ p q r. ap polynomial_of (append_assoc p q r);
  op-unit = λ p. ap polynomial_of (append-nil p);
}

-- ONE TERM
term_add : (m : Powers) (a b : ℤ) → Alike ((m, a +ℤ b) ∷ []) ((m, a) ∷ (m, b) ∷ [])
term_add m a b = canonical_same term_cmp coefficients term_order coefficients_add ((m, a +ℤ b) ∷ []) ((m, a) ∷ (m, b) ∷ []) (λ k. go (is_eq (term_cmp k m)))
  where
    go : (z : Bool) → cond z (a +ℤ b) (pos 0) +ℤ pos 0 ≡ cond z a (pos 0) +ℤ (cond z b (pos 0) +ℤ pos 0)
    go true = omega (arith, ints)
    go false = omega (arith, ints)

term_zero : (m : Powers) (z : ℤ) → z ≡ pos 0 → Alike ((m, z) ∷ []) []
term_zero m z e = ap (λ (z : ℤ). polynomial_of ((m, z) ∷ [])) e

zero_times : (z : ℤ) → pos 0 *ℤ z ≡ pos 0
zero_times z = omega (arith, ints)

-- THE SECOND FACTOR
-- a term of the second factor, times t
abbrev multiple : Powers × ℤ → Powers × ℤ → Summands
multiple t u = (product t.0 u.0, t.1 *ℤ u.1) ∷ []

multiple-add : (t : Powers × ℤ) (m : Powers) (a b : ℤ) → Alike (multiple t (m, a +ℤ b)) (multiple t (m, a) ++ multiple t (m, b))
multiple-add t m a b = ap (λ (z : ℤ). polynomial_of ((product t.0 m, z) ∷ [])) (mul-add t.1 a b) ∙ term_add (product t.0 m) (t.1 *ℤ a) (t.1 *ℤ b)

multiple-zero : (t : Powers × ℤ) (m : Powers) → Alike (multiple t (m, pos 0)) []
multiple-zero t m = term_zero (product t.0 m) (t.1 *ℤ pos 0) (IntN.*ℤ_comm t.1 (pos 0) ∙ zero_times t.1)

multiples-total : (t : Powers × ℤ) (r : Summands) → total lists (multiple t) r ≡ multiples t r
multiples-total t [] = refl
multiples-total t (u ∷ us) = ap (λ x. (product t.0 u.0, t.1 *ℤ u.1) ∷ x) (multiples-total t us)

pub multiples-right : (t : Powers × ℤ) (r : Summands) → Alike (multiples t (polynomial_of r)) (multiples t r)
multiples-right t r =
    ap polynomial_of (sym (multiples-total t (polynomial_of r)))
    ∙ total-canonical lists term_cmp coefficients term_order coefficients_add (multiple t) (multiple-add t) (multiple-zero t) r
    ∙ ap polynomial_of (multiples-total t r)

products-right : (p r : Summands) → Alike (products p (polynomial_of r)) (products p r)
products-right [] r = refl
products-right (t ∷ ts) r =
    alike-append (multiples t (polynomial_of r)) (multiples t r) (products ts (polynomial_of r)) (products ts r) (multiples-right t r) (products-right ts r)

-- THE FIRST FACTOR
-- the multiples by a sum of coefficients
multiples-add : (r : Summands) (m : Powers) (a b : ℤ) → Alike (multiples (m, a +ℤ b) r) (multiples (m, a) r ++ multiples (m, b) r)
multiples-add [] m a b = refl
multiples-add (u ∷ us) m a b =
    let k = product m u.0 in
    let front = λ (c : ℤ). multiple (m, c) u in
    let back = λ (c : ℤ). multiples (m, c) us in
    let coefficient : (a +ℤ b) *ℤ u.1 ≡ a *ℤ u.1 +ℤ b *ℤ u.1 =
    IntN.*ℤ_comm (a +ℤ b) u.1 ∙ mul-add u.1 a b ∙ ap₂ ◌+ℤ◌ (IntN.*ℤ_comm u.1 a) (IntN.*ℤ_comm u.1 b) in
    let heads : Alike (front (a +ℤ b)) (front a ++ front b) =
    ap (λ (z : ℤ). polynomial_of ((k, z) ∷ [])) coefficient ∙ term_add k (a *ℤ u.1) (b *ℤ u.1) in
    alike-append (front (a +ℤ b)) (front a ++ front b) (back (a +ℤ b)) (back a ++ back b) heads (multiples-add us m a b)
    ∙ alike-append (front a) (front a) (front b ++ (back a ++ back b)) (back a ++ (front b ++ back b)) refl
    (alike-append (front b ++ back a) (back a ++ front b) (back b) (back b) (canonical_comm term_cmp coefficients term_order coefficients_add (front b) (back a)) refl
    ∙ ap polynomial_of (append_assoc (back a) (front b) (back b)))

multiples-zero : (r : Summands) (m : Powers) → Alike (multiples (m, pos 0) r) []
multiples-zero [] m = refl
multiples-zero (u ∷ us) m =
    alike-append (multiple (m, pos 0) u) [] (multiples (m, pos 0) us) [] (term_zero (product m u.0) (pos 0 *ℤ u.1) (zero_times u.1)) (multiples-zero us m)

products-total : (p r : Summands) → total lists (λ t. multiples t r) p ≡ products p r
products-total [] r = refl
products-total (t ∷ ts) r = ap (λ x. multiples t r ++ x) (products-total ts r)

pub products-left : (p r : Summands) → Alike (products (polynomial_of p) r) (products p r)
products-left p r =
    ap polynomial_of (sym (products-total (polynomial_of p) r))
    ∙ total-canonical lists term_cmp coefficients term_order coefficients_add (λ t. multiples t r) (multiples-add r) (multiples-zero r) p
    ∙ ap polynomial_of (products-total p r)

-- ASSOCIATIVITY
pub product_assoc : (a b c : Powers) → product (product a b) c ≡ product a (product b c)
product_assoc a b c =
    canonical-canonical_left var_cmp exponents var_order exponents_add (a ++ b) c
    ∙ ap (canonical var_cmp exponents) (append_assoc a b c) ∙ canonical_comm var_cmp exponents var_order exponents_add a (b ++ c)
    ∙ sym (canonical-canonical_left var_cmp exponents var_order exponents_add (b ++ c) a)
    ∙ canonical_comm var_cmp exponents var_order exponents_add (product b c) a

multiples-multiples : (t u : Powers × ℤ) (r : Summands) → multiples (product t.0 u.0, t.1 *ℤ u.1) r ≡ multiples t (multiples u r)
multiples-multiples t u [] = refl
multiples-multiples t u (w ∷ ws) =
    ap₂ (λ (x : Powers × ℤ) (xs : Summands). x ∷ xs)
    (ap₂ (λ (m : Powers) (z : ℤ). (m, z)) (product_assoc t.0 u.0 w.0) (mul_assoc t.1 u.1 w.1)) (multiples-multiples t u ws)

multiples-append : (t : Powers × ℤ) (p q : Summands) → multiples t (p ++ q) ≡ multiples t p ++ multiples t q
multiples-append t [] q = refl
multiples-append t (u ∷ us) q = ap (λ x. (product t.0 u.0, t.1 *ℤ u.1) ∷ x) (multiples-append t us q)

products-multiples : (t : Powers × ℤ) (q r : Summands) → products (multiples t q) r ≡ multiples t (products q r)
products-multiples t [] r = refl
products-multiples t (u ∷ us) r =
    ap₂ (λ (x y : Summands). x ++ y) (multiples-multiples t u r) (products-multiples t us r) ∙ sym (multiples-append t (multiples u r) (products us r))

products-products : (p q r : Summands) → products (products p q) r ≡ products p (products q r)
products-products [] q r = refl
products-products (t ∷ ts) q r =
    products-append (multiples t q) (products ts q) r ∙ ap₂ (λ (x y : Summands). x ++ y) (products-multiples t q r) (products-products ts q r)

pub product_of-assoc : (p q r : Summands) → product_of (product_of p q) r ≡ product_of p (product_of q r)
product_of-assoc p q r = products-left (products p q) r ∙ ap polynomial_of (products-products p q r) ∙ sym (products-right p (products q r))

-- THE UNIT
-- a polynomial whose monomials are in order
pub record IsNormal (p : Summands) : Type 0 where
  pub in_order : IsCanonical term_cmp coefficients p
  pub monomials : AllKeys (λ m. IsCanonical var_cmp exponents m) p

products-one : (p : Summands) → AllKeys (λ m. IsCanonical var_cmp exponents m) p → products p one ≡ p
unfolding IntN.one
products-one [] h = refl
products-one (t ∷ ts) h =
    ap₂ (λ (x : Powers × ℤ) (xs : Summands). x ∷ xs)
    (ap₂ (λ (m : Powers) (z : ℤ). (m, z))
    (ap (canonical var_cmp exponents) (append-nil t.0) ∙ canonical_self var_cmp exponents var_order exponents_add t.0 h.0)
    (IntN.*ℤ-one t.1)) (products-one ts h.1)

pub product_of-one : (p : Summands) → IsNormal p → product_of p one ≡ p
product_of-one p h = ap polynomial_of (products-one p h.monomials) ∙ canonical_self term_cmp coefficients term_order coefficients_add p h.in_order

-- 1 may stand on either side
one_commutes : (q : Summands) → multiples ([], pos 1) q ++ [] ≡ products q one
one_commutes [] = refl
one_commutes (u ∷ us) =
    ap₂ (λ (x : Powers × ℤ) (xs : Summands). x ∷ xs)
    (ap₂ (λ (m : Powers) (z : ℤ). (m, z)) (ap (canonical var_cmp exponents) (sym (append-nil u.0))) (IntN.*ℤ_comm (pos 1) u.1)) (one_commutes us)

pub product_of-one_comm : (q : Summands) → product_of one q ≡ product_of q one
product_of-one_comm q = ap polynomial_of (one_commutes q)

-- PRODUCTS ARE NORMAL
normal_multiples : (t : Powers × ℤ) (q : Summands) → AllKeys (λ m. IsCanonical var_cmp exponents m) (multiples t q)
normal_multiples t [] = tt
normal_multiples t (u ∷ us) = (IsCanonical-canonical var_cmp exponents var_order exponents_add (t.0 ++ u.0), normal_multiples t us)

normal_products : (p q : Summands) → AllKeys (λ m. IsCanonical var_cmp exponents m) (products p q)
normal_products [] q = tt
normal_products (t ∷ ts) q = AllKeys-append (λ m. IsCanonical var_cmp exponents m) (multiples t q) (products ts q) (normal_multiples t q) (normal_products ts q)

pub IsNormal-product_of : (p q : Summands) → IsNormal (product_of p q)
IsNormal-product_of p q = record {
  in_order = IsCanonical-canonical term_cmp coefficients term_order coefficients_add (products p q);
  monomials = AllKeys-canonical term_cmp coefficients (λ m. IsCanonical var_cmp exponents m) (products p q) (normal_products p q);
}

-- POWERS
pub power_of-comm : (q : Summands) (n : ℕ) → product_of (power_of q n) q ≡ product_of q (power_of q n)
power_of-comm q zero = product_of-one_comm q
power_of-comm q (suc n) = product_of-assoc q (power_of q n) q ∙ ap (product_of q) (power_of-comm q n)
