-- Terms with factors: bounds of what they become, factors that they share, and their order.
use Rattle.std.proofs.Common.{◌≡◌, ℕ, suc, ◌+◌, ◌*◌, ◌^◌, ◌<◌, ◌≤◌, eqb, false, ℤ, pos, negsuc, ◌+ℤ◌, List, [], ◌∷◌, ◌++◌, length, map}
use Rattle.std.proofs.Common.{refl, sym, ap, ap₂, ◌∙◌, sum_by, append_assoc, unsigned_abs, arith}
use Rattle.std.proofs.Math.Nat.{mul-le-mul, mul-le-mul_left, mul-le-mul_right}
use Rattle.std.proofs.lemmas.Int.{ints}
use Rattle.std.proofs.lemmas.List.{length-append}
use Rattle.std.proofs.lemmas.List.Sorted.{sum_by-IsPermutation}
use Rattle.std.proofs.lemmas.List.Sums.{sum_by-append, sum_by-cons}
use Rattle.std.specs.List.Sorted.{IsPermutation}
use Rattle.sparse_lists.specs.SparseLists.{AllKeys, IsCanonical}
use Rattle.sparse_lists.proofs.Canonical.{amount-append, canonical_same, canonical_self}
use Rattle.sparse_lists.proofs.Sums.{AllKeys-canonical, AllKeys-append}
use Rattle.geo_poly.specs.declared.rows.Piece.{Piece}
use Rattle.geo_poly.specs.Inner.Factored.{Factored, count_with, degree_with, factored_products, factored_terms, factored_weight, products_with, times_pieces, weight_with}
use Rattle.geo_poly.specs.Monomials.{IsMonomial, Powers, degree_of}
use Rattle.sparse_lists.specs.Coefficients.{coefficients}
use Rattle.geo_poly.specs.Polynomials.{CanMultiply, IsPolynomial, Summands, coefficient, norm_of, polynomial_of, product_of, products, sum_of, term_cmp, total_degree}
use Rattle.geo_poly.specs.Replace.{IsBounded}
use Rattle.geo_poly.proofs.Lengths.{length-polynomial_of-le, length-product_of-le}
use Rattle.geo_poly.proofs.Orders.{term_order}
use Rattle.sparse_lists.proofs.Coefficients.{coefficients_add}
use Rattle.geo_poly.proofs.PolynomialLaws.{norm_of-polynomial_of-le}
use Rattle.geo_poly.proofs.PolynomialRing.{products-left}
use Rattle.geo_poly.proofs.ProductLaws.{IsCanonical-product_of, monomials_of_products, norm_of-product_of-le, product_of-append}
use Rattle.geo_poly.proofs.ReplaceBounds.{UpTo, from_up_to, total_degree-product_of-le, up_to}
use Rattle.geo_poly.proofs.ReplaceTerms.{sum_of-polynomial_of}

-- a piece with its bounds, and a polynomial
pub record IsGood (q : Piece) : Type 0 where
  pub bounded : IsBounded q
  pub polynomial : IsPolynomial q.poly

abbrev pub AllGood : List Piece → Type 0
AllGood [] = Unit {0}
AllGood (q ∷ qs) = IsGood q × AllGood qs

-- BOUNDS
pub weight_with-mono : (qs : List Piece) (w v : ℕ) → w ≤ v → weight_with qs w ≤ weight_with qs v
weight_with-mono [] w v h = h
weight_with-mono (q ∷ qs) w v h = mul-le-mul_right q.weight (weight_with-mono qs w v h)

pub weight_with-grows : (qs : List Piece) (w : ℕ) → AllGood qs → w ≤ weight_with qs w
weight_with-grows [] w h = omega arith
weight_with-grows (q ∷ qs) w h =
    let before : w ≤ weight_with qs w = weight_with-grows qs w h.1 in
    let one : weight_with qs w * 1 ≤ weight_with qs w * q.weight = mul-le-mul_left (weight_with qs w) h.0.bounded.weight in
    omega (arith, before, one)

pub weight_with-append : (qs rs : List Piece) (w : ℕ) → weight_with (qs ++ rs) w ≡ weight_with qs (weight_with rs w)
weight_with-append [] rs w = refl
weight_with-append (q ∷ qs) rs w = ap (λ x. x * q.weight) (weight_with-append qs rs w)

pub weight_with-add : (qs : List Piece) (v w : ℕ) → weight_with qs (v + w) ≡ weight_with qs v + weight_with qs w
weight_with-add [] v w = refl
weight_with-add (q ∷ qs) v w = omega (arith, ap (λ x. x * q.weight) (weight_with-add qs v w))

weight_with-zero : (qs : List Piece) → weight_with qs 0 ≡ 0
weight_with-zero [] = refl
weight_with-zero (q ∷ qs) = omega (arith, ap (λ x. x * q.weight) (weight_with-zero qs))

pub degree_with-is : (qs : List Piece) (d : ℕ) → degree_with qs d ≡ d + degree_with qs 0
degree_with-is [] d = omega arith
degree_with-is (q ∷ qs) d = omega (arith, degree_with-is qs d)

pub degree_with-append : (qs rs : List Piece) (d : ℕ) → degree_with (qs ++ rs) d ≡ degree_with qs (degree_with rs d)
degree_with-append [] rs d = refl
degree_with-append (q ∷ qs) rs d = ap (λ x. x + q.degree) (degree_with-append qs rs d)

pub count_with-mono : (qs : List Piece) (m n : ℕ) → m ≤ n → count_with qs m ≤ count_with qs n
count_with-mono [] m n h = h
count_with-mono (q ∷ qs) m n h = mul-le-mul_right q.count (count_with-mono qs m n h)

pub count_with-append : (qs rs : List Piece) (n : ℕ) → count_with (qs ++ rs) n ≡ count_with qs (count_with rs n)
count_with-append [] rs n = refl
count_with-append (q ∷ qs) rs n = ap (λ x. x * q.count) (count_with-append qs rs n)

count_with-add : (qs : List Piece) (m n : ℕ) → count_with qs (m + n) ≡ count_with qs m + count_with qs n
count_with-add [] m n = refl
count_with-add (q ∷ qs) m n = omega (arith, ap (λ x. x * q.count) (count_with-add qs m n))

pub products_with-mono : (qs : List Piece) (m n : ℕ) → m ≤ n → products_with qs m ≤ products_with qs n
products_with-mono [] m n h = omega arith
products_with-mono (q ∷ qs) m n h =
    omega (arith, products_with-mono qs m n h, mul-le-mul_right q.count (count_with-mono qs m n h))

pub products_with-append : (qs rs : List Piece) (n : ℕ) → products_with (qs ++ rs) n ≡ products_with rs n + products_with qs (count_with rs n)
products_with-append [] rs n = omega arith
products_with-append (q ∷ qs) rs n =
    omega (arith, products_with-append qs rs n, ap (λ x. x * q.count) (count_with-append qs rs n))

products_with-add : (qs : List Piece) (m n : ℕ) → products_with qs (m + n) ≡ products_with qs m + products_with qs n
products_with-add [] m n = omega arith
products_with-add (q ∷ qs) m n =
    omega (arith, products_with-add qs m n, ap (λ x. x * q.count) (count_with-add qs m n))

count_with-zero : (qs : List Piece) → count_with qs 0 ≡ 0
count_with-zero [] = refl
count_with-zero (q ∷ qs) = omega (arith, ap (λ x. x * q.count) (count_with-zero qs))

products_with-zero : (qs : List Piece) → products_with qs 0 ≡ 0
products_with-zero [] = refl
products_with-zero (q ∷ qs) =
    omega (arith, products_with-zero qs, ap (λ x. x * q.count) (count_with-zero qs))

-- WHAT IS MADE
pub times_pieces-append : (qs rs : List Piece) (p : Summands) → times_pieces (qs ++ rs) p ≡ times_pieces qs (times_pieces rs p)
times_pieces-append [] rs p = refl
times_pieces-append (q ∷ qs) rs p = ap (λ x. product_of x q.poly) (times_pieces-append qs rs p)

pub norm_of-times_pieces-le : (qs : List Piece) (p : Summands) → AllGood qs → norm_of (times_pieces qs p) ≤ weight_with qs (norm_of p)
norm_of-times_pieces-le [] p h = omega arith
norm_of-times_pieces-le (q ∷ qs) p h =
    let before : norm_of (times_pieces qs p) * norm_of q.poly ≤ weight_with qs (norm_of p) * q.weight = mul-le-mul (norm_of-times_pieces-le qs p h.1) h.0.bounded.norm in
    omega (arith, norm_of-product_of-le (times_pieces qs p) q.poly, before)

pub total_degree-times_pieces-le : (qs : List Piece) (p : Summands) → AllGood qs → total_degree (times_pieces qs p) ≤ degree_with qs (total_degree p)
total_degree-times_pieces-le [] p h = omega arith
total_degree-times_pieces-le (q ∷ qs) p h =
    omega (arith, total_degree-product_of-le (times_pieces qs p) q.poly, total_degree-times_pieces-le qs p h.1, h.0.bounded.degree)

pub length-times_pieces-le : (qs : List Piece) (p : Summands) → AllGood qs → length (times_pieces qs p) ≤ count_with qs (length p)
length-times_pieces-le [] p h = omega arith
length-times_pieces-le (q ∷ qs) p h =
    let before : length (times_pieces qs p) * length q.poly ≤ count_with qs (length p) * q.count = mul-le-mul (length-times_pieces-le qs p h.1) h.0.bounded.count in
    omega (arith, length-product_of-le (times_pieces qs p) q.poly, before)

pub IsCanonical-times_pieces : (qs : List Piece) (p : Summands) → IsCanonical term_cmp coefficients p → IsCanonical term_cmp coefficients (times_pieces qs p)
IsCanonical-times_pieces [] p h = h
IsCanonical-times_pieces (q ∷ qs) p h = IsCanonical-product_of (times_pieces qs p) q.poly

pub monomials_of_times_pieces : (qs : List Piece) (p : Summands) → AllGood qs → AllKeys IsMonomial p → degree_with qs (total_degree p) ≤ 65535 → AllKeys IsMonomial (times_pieces qs p)
monomials_of_times_pieces [] p g h fits = h
monomials_of_times_pieces (q ∷ qs) p g h fits =
    AllKeys-canonical term_cmp coefficients IsMonomial (products (times_pieces qs p) q.poly)
    (monomials_of_products (times_pieces qs p) q.poly (omega (arith, total_degree-times_pieces-le qs p g.1, g.0.bounded.degree, fits)))

-- one more piece may be multiplied in
pub CanMultiply-times_pieces : (q : Piece) (qs : List Piece) (p : Summands) → AllGood (q ∷ qs) → IsCanonical term_cmp coefficients p → AllKeys IsMonomial p
    → weight_with (q ∷ qs) (norm_of p) < 2 ^ 127 → degree_with (q ∷ qs) (total_degree p) ≤ 65535 → CanMultiply (times_pieces qs p) q.poly
CanMultiply-times_pieces q qs p g order monomials norm degree =
    let whole : norm_of (times_pieces qs p) * norm_of q.poly ≤ weight_with qs (norm_of p) * q.weight = mul-le-mul (norm_of-times_pieces-le qs p g.1) g.0.bounded.norm in
    record {
      left_in_order = IsCanonical-times_pieces qs p order;
      left_monomials = monomials_of_times_pieces qs p g.1 monomials (omega (arith, degree));
      right_in_order = g.0.polynomial.in_order;
      right_monomials = g.0.polynomial.monomials;
      norm_fits = omega (arith, whole, norm);
      degree_fits = omega (arith, total_degree-times_pieces-le qs p g.1, g.0.bounded.degree, degree);
    }

-- FACTORS THAT ALL SHARE
-- one more piece before those of a term
abbrev pub with_piece : Piece → Factored → Factored
with_piece q f = (q ∷ f.0, f.1)

-- more pieces before those of a term
abbrev pub with_pieces : List Piece → Factored → Factored
with_pieces qs f = (qs ++ f.0, f.1)

-- the product of a sum is the sum of the products
one_piece : (q : Piece) (fs : List Factored) → polynomial_of (factored_terms (map (with_piece q) fs)) ≡ product_of (polynomial_of (factored_terms fs)) q.poly
one_piece q [] = refl
one_piece q (f ∷ fs) =
    let first = times_pieces f.0 (f.1 ∷ []) in
    let rest = factored_terms fs in
    sym (sum_of-polynomial_of (product_of first q.poly) (factored_terms (map (with_piece q) fs)))
    ∙ ap (λ x. sum_of (polynomial_of (product_of first q.poly)) x) (one_piece q fs ∙ products-left rest q.poly)
    ∙ ap (λ x. sum_of x (product_of rest q.poly)) (canonical_self term_cmp coefficients term_order coefficients_add (product_of first q.poly) (IsCanonical-product_of first q.poly))
    ∙ product_of-append first rest q.poly
    ∙ sym (products-left (first ++ rest) q.poly)

map_twice : (q : Piece) (qs : List Piece) (fs : List Factored) → map (with_pieces (q ∷ qs)) fs ≡ map (with_piece q) (map (with_pieces qs) fs)
map_twice q qs [] = refl
map_twice q qs (f ∷ fs) = ap (λ (x : List Factored). with_pieces (q ∷ qs) f ∷ x) (map_twice q qs fs)

map_none : (fs : List Factored) → map (with_pieces []) fs ≡ fs
map_none [] = refl
map_none (f ∷ fs) = ap (λ (x : List Factored). f ∷ x) (map_none fs)

pub shared_terms : (qs : List Piece) (fs : List Factored) → polynomial_of (factored_terms (map (with_pieces qs) fs)) ≡ times_pieces qs (polynomial_of (factored_terms fs))
shared_terms [] fs = ap (λ (x : List Factored). polynomial_of (factored_terms x)) (map_none fs)
shared_terms (q ∷ qs) fs =
    ap (λ (x : List Factored). polynomial_of (factored_terms x)) (map_twice q qs fs)
    ∙ one_piece q (map (with_pieces qs) fs) ∙ ap (λ x. product_of x q.poly) (shared_terms qs fs)

pub shared_weight : (qs : List Piece) (fs : List Factored) → factored_weight (map (with_pieces qs) fs) ≡ weight_with qs (factored_weight fs)
shared_weight qs [] = sym (weight_with-zero qs)
shared_weight qs (f ∷ fs) =
    let first = weight_with f.0 (unsigned_abs f.1.1) in
    sum_by-cons (λ (f : Factored). weight_with f.0 (unsigned_abs f.1.1)) (with_pieces qs f) (map (with_pieces qs) fs)
    ∙ ap₂ ◌+◌ (weight_with-append qs f.0 (unsigned_abs f.1.1)) (shared_weight qs fs)
    ∙ sym (weight_with-add qs first (factored_weight fs))
    ∙ ap (weight_with qs) (sym (sum_by-cons (λ (f : Factored). weight_with f.0 (unsigned_abs f.1.1)) f fs))

-- the number of monomials where each term is multiplied out for itself
abbrev pub factored_count : List Factored → ℕ
factored_count fs = sum_by (λ (f : Factored). count_with f.0 1) fs

pub shared_products : (qs : List Piece) (fs : List Factored) → factored_products (map (with_pieces qs) fs) ≡ factored_products fs + products_with qs (factored_count fs)
shared_products qs [] = omega (arith, products_with-zero qs)
shared_products qs (f ∷ fs) =
    let one = sum_by-cons (λ (f : Factored). products_with f.0 1) (with_pieces qs f) (map (with_pieces qs) fs) in
    let two = sum_by-cons (λ (f : Factored). products_with f.0 1) f fs in
    let three = ap (products_with qs) (sum_by-cons (λ (f : Factored). count_with f.0 1) f fs) in
    omega (arith, one, two, three, products_with-append qs f.0 1, shared_products qs fs, products_with-add qs (count_with f.0 1) (factored_count fs))

-- SUMS OF TERMS
abbrev pub AllGoodTerms : List Factored → Type 0
AllGoodTerms [] = Unit {0}
AllGoodTerms (f ∷ fs) = AllGood f.0 × AllGoodTerms fs

-- the coefficient is not 0, the monomial is one, and the degree of what becomes of it is at most d
pub record IsWithin (d : ℕ) (f : Factored) : Type 0 where
  pub nonzero : eqb (unsigned_abs f.1.1) 0 ≡ false
  pub monomial : IsMonomial f.1.0
  pub degree : degree_with f.0 (degree_of f.1.0) ≤ d

abbrev pub AllWithin : ℕ → List Factored → Type 0
AllWithin d [] = Unit {0}
AllWithin d (f ∷ fs) = IsWithin d f × AllWithin d fs

pub length-sum-le : (fs : List Factored) → AllGoodTerms fs → length (polynomial_of (factored_terms fs)) ≤ factored_count fs
length-sum-le fs g = omega (arith, length-polynomial_of-le (factored_terms fs), each fs g)
  where
    each : (fs : List Factored) → AllGoodTerms fs → length (factored_terms fs) ≤ factored_count fs
    each [] g = omega arith
    each (f ∷ fs) g =
        omega (arith, length-append (times_pieces f.0 (f.1 ∷ [])) (factored_terms fs), length-times_pieces-le f.0 (f.1 ∷ []) g.0, each fs g.1, sum_by-cons (λ (f : Factored). count_with f.0 1) f fs)

pub norm_of-sum-le : (fs : List Factored) → AllGoodTerms fs → norm_of (polynomial_of (factored_terms fs)) ≤ factored_weight fs
norm_of-sum-le fs g = omega (arith, norm_of-polynomial_of-le (factored_terms fs), each fs g)
  where
    each : (fs : List Factored) → AllGoodTerms fs → norm_of (factored_terms fs) ≤ factored_weight fs
    each [] g = omega arith
    each (f ∷ fs) g =
        let one : norm_of (f.1 ∷ []) ≡ unsigned_abs f.1.1 = omega arith in
        let same : weight_with f.0 (norm_of (f.1 ∷ [])) ≡ weight_with f.0 (unsigned_abs f.1.1) = ap (weight_with f.0) one in
        omega (
          arith,
          sum_by-append (λ (t : Powers × ℤ). unsigned_abs t.1) (times_pieces f.0 (f.1 ∷ [])) (factored_terms fs),
          norm_of-times_pieces-le f.0 (f.1 ∷ []) g.0,
          same,
          each fs g.1,
          sum_by-cons (λ (f : Factored). weight_with f.0 (unsigned_abs f.1.1)) f fs,
        )

-- each monomial of the sum is one, and its degree is at most d
pub degrees_up_to : (d : ℕ) (fs : List Factored) → AllGoodTerms fs → AllWithin d fs → AllKeys (UpTo d) (factored_terms fs)
degrees_up_to d [] g h = tt
degrees_up_to d (f ∷ fs) g h =
    let one : total_degree (f.1 ∷ []) ≡ degree_of f.1.0 = omega arith in
    let same : degree_with f.0 (total_degree (f.1 ∷ [])) ≡ degree_with f.0 (degree_of f.1.0) = ap (degree_with f.0) one in
    AllKeys-append (UpTo d) (times_pieces f.0 (f.1 ∷ [])) (factored_terms fs)
    (up_to (times_pieces f.0 (f.1 ∷ [])) d (omega (arith, total_degree-times_pieces-le f.0 (f.1 ∷ []) g.0, same, h.0.degree)))
    (degrees_up_to d fs g.1 h.1)

pub total_degree-sum-le : (d : ℕ) (fs : List Factored) → AllGoodTerms fs → AllWithin d fs → total_degree (polynomial_of (factored_terms fs)) ≤ d
total_degree-sum-le d fs g h =
    from_up_to (polynomial_of (factored_terms fs)) d (AllKeys-canonical term_cmp coefficients (UpTo d) (factored_terms fs) (degrees_up_to d fs g h))

pub monomials_of_sum : (d : ℕ) (fs : List Factored) → d ≤ 65535 → AllGoodTerms fs → AllWithin d fs → AllKeys IsMonomial (polynomial_of (factored_terms fs))
monomials_of_sum d fs fits g h = AllKeys-canonical term_cmp coefficients IsMonomial (factored_terms fs) (each fs g h)
  where
    each : (fs : List Factored) → AllGoodTerms fs → AllWithin d fs → AllKeys IsMonomial (factored_terms fs)
    each [] g h = tt
    each (f ∷ fs) g h =
        let one : total_degree (f.1 ∷ []) ≡ degree_of f.1.0 = omega arith in
        let same : degree_with f.0 (total_degree (f.1 ∷ [])) ≡ degree_with f.0 (degree_of f.1.0) = ap (degree_with f.0) one in
        AllKeys-append IsMonomial (times_pieces f.0 (f.1 ∷ [])) (factored_terms fs)
        (monomials_of_times_pieces f.0 (f.1 ∷ []) g.0 (h.0.monomial, tt) (omega (arith, same, h.0.degree, fits)))
        (each fs g.1 h.1)

-- TWO PARTS
pub factored_terms-append : (fs gs : List Factored) → factored_terms (fs ++ gs) ≡ factored_terms fs ++ factored_terms gs
factored_terms-append [] gs = refl
factored_terms-append (f ∷ fs) gs =
    ap (λ x. times_pieces f.0 (f.1 ∷ []) ++ x) (factored_terms-append fs gs) ∙ sym (append_assoc (times_pieces f.0 (f.1 ∷ [])) (factored_terms fs) (factored_terms gs))

pub sum_of_parts : (fs gs : List Factored) → sum_of (polynomial_of (factored_terms fs)) (polynomial_of (factored_terms gs)) ≡ polynomial_of (factored_terms (fs ++ gs))
sum_of_parts fs gs = sum_of-polynomial_of (factored_terms fs) (factored_terms gs) ∙ ap polynomial_of (sym (factored_terms-append fs gs))

-- THE ORDER OF THE TERMS
abbrev up : ℤ → ℕ
up (pos n) = n
up (negsuc n) = 0

abbrev down : ℤ → ℕ
down (pos n) = 0
down (negsuc n) = suc n

module _ {X : Type 0} (told : X → Factored) (k : Powers) where
  abbrev amount_of : X → ℤ
  amount_of x = coefficient k (times_pieces (told x).0 ((told x).1 ∷ []))

  totals : (xs : List X) → coefficient k (factored_terms (map told xs)) +ℤ pos (sum_by (λ x. down (amount_of x)) xs) ≡ pos (sum_by (λ x. up (amount_of x)) xs)
  totals [] = refl
  totals (x ∷ xs) =
      let first = times_pieces (told x).0 ((told x).1 ∷ []) in
      let parts = amount-append term_cmp coefficients term_order coefficients_add k first (factored_terms (map told xs)) in
      let ups = sum_by-cons (λ x. up (amount_of x)) x xs in
      let downs = sum_by-cons (λ x. down (amount_of x)) x xs in
      whole (coefficient k first) (coefficient k (factored_terms (map told xs))) _ _ _ _ _ parts ups downs (totals xs)
    where
      whole : (a b c : ℤ) (u d us ds : ℕ) → c ≡ a +ℤ b → us ≡ up a + u → ds ≡ down a + d → b +ℤ pos d ≡ pos u → c +ℤ pos ds ≡ pos us
      whole (pos n) b c u d us ds e f g h = omega (arith, ints, e, f, g, h)
      whole (negsuc n) b c u d us ds e f g h = omega (arith, ints, e, f, g, h)

  same_amount : (xs ys : List X) → IsPermutation xs ys → coefficient k (factored_terms (map told xs)) ≡ coefficient k (factored_terms (map told ys))
  same_amount xs ys h =
      let ups = sum_by-IsPermutation (λ x. up (amount_of x)) xs ys h in
      let downs = sum_by-IsPermutation (λ x. down (amount_of x)) xs ys h in
      omega (arith, ints, totals xs, totals ys, ups, downs)

-- the polynomial does not depend on the order
pub any_order : {X : Type 0} (told : X → Factored) (xs ys : List X) → IsPermutation xs ys → polynomial_of (factored_terms (map told xs)) ≡ polynomial_of (factored_terms (map told ys))
any_order told xs ys h =
    canonical_same term_cmp coefficients term_order coefficients_add (factored_terms (map told xs)) (factored_terms (map told ys)) (λ k. same_amount told k xs ys h)
