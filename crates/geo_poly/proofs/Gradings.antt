-- A grading numbers monomials so that the numbers add up in products, as the total degree and the exponent of a variable do. What is
-- proved of the degrees of products and of terms with factors holds for each.
use Rattle.std.proofs.Common.{◌≡◌, ℕ, zero, suc, ◌+◌, ◌*◌, ◌≤◌, max, List, [], ◌∷◌, ◌++◌, refl, ap, ◌∙◌, arith}
use Rattle.sparse_lists.specs.SparseLists.{AllKeys}
use Rattle.sparse_lists.proofs.Canonical.{amount-append, amount-canonical}
use Rattle.sparse_lists.proofs.Sums.{AllKeys-append, AllKeys-canonical}
use Rattle.geo_poly.specs.declared.rows.Piece.{Piece}
use Rattle.geo_poly.specs.declared.variables.Var.{Var}
use Rattle.geo_poly.specs.Inner.Factored.{Factored, degree_with, factored_terms, times_pieces}
use Rattle.geo_poly.specs.Monomials.{Powers, degree_of, exponent, exponents, product}
use Rattle.sparse_lists.specs.Coefficients.{coefficients}
use Rattle.geo_poly.specs.Polynomials.{Summands, multiples, polynomial_of, product_of, products, sum_of, term_cmp}
use Rattle.geo_poly.specs.Polynomials.{total_degree}
use Rattle.geo_poly.specs.Replace.{power_of}
use Rattle.geo_poly.specs.Variables.{var_cmp}
use Rattle.geo_poly.proofs.MonomialLaws.{degree_of-product}
use Rattle.geo_poly.proofs.Orders.{exponents_add, var_order}

pub record IsGrading (grade : Powers → ℕ) : Type 0 where
  pub adds : (m n : Powers) → grade (product m n) ≡ grade m + grade n

-- the greatest grade of a monomial, 0 where there is none
abbrev pub top_grade : (Powers → ℕ) → Summands → ℕ
top_grade grade [] = 0
top_grade grade (t ∷ ts) = max (grade t.0) (top_grade grade ts)

-- g plus the bounds of the pieces
abbrev pub grade_with : (Piece → ℕ) → List Piece → ℕ → ℕ
grade_with bound [] g = g
grade_with bound (q ∷ qs) g = grade_with bound qs g + bound q

pub grade_with-is : (bound : Piece → ℕ) (qs : List Piece) (g : ℕ) → grade_with bound qs g ≡ g + grade_with bound qs 0
grade_with-is bound [] g = omega arith
grade_with-is bound (q ∷ qs) g = omega (arith, grade_with-is bound qs g)

pub grade_with-append : (bound : Piece → ℕ) (qs rs : List Piece) (g : ℕ)
    → grade_with bound (qs ++ rs) g ≡ grade_with bound qs (grade_with bound rs g)
grade_with-append bound [] rs g = refl
grade_with-append bound (q ∷ qs) rs g = ap (λ x. x + bound q) (grade_with-append bound qs rs g)

module _ (grade : Powers → ℕ) where
  -- the grade of the monomial is at most g
  pub record HasGrade (g : ℕ) (m : Powers) : Type 0 where
    pub most : grade m ≤ g

  pub graded : (p : Summands) (g : ℕ) → top_grade grade p ≤ g → AllKeys (HasGrade g) p
  graded [] g h = tt
  graded (t ∷ ts) g h = (record { most = omega arith }, graded ts g (omega arith))

  pub top_grade-from : (p : Summands) (g : ℕ) → AllKeys (HasGrade g) p → top_grade grade p ≤ g
  top_grade-from [] g h = omega arith
  top_grade-from (t ∷ ts) g h = omega (arith, h.0.most, top_grade-from ts g h.1)

  -- like terms are added up: no monomial is new
  pub top_grade-polynomial_of-le : (p : Summands) → top_grade grade (polynomial_of p) ≤ top_grade grade p
  top_grade-polynomial_of-le p =
      top_grade-from (polynomial_of p) (top_grade grade p)
      (AllKeys-canonical term_cmp coefficients (HasGrade (top_grade grade p)) p (graded p (top_grade grade p) (omega arith)))

  pub top_grade-append : (p q : Summands) → top_grade grade (p ++ q) ≡ max (top_grade grade p) (top_grade grade q)
  top_grade-append [] q = omega arith
  top_grade-append (t ∷ ts) q = omega (arith, top_grade-append ts q)

  pub top_grade-sum_of-le : (p q : Summands) → top_grade grade (sum_of p q) ≤ max (top_grade grade p) (top_grade grade q)
  top_grade-sum_of-le p q = omega (arith, top_grade-polynomial_of-le (p ++ q), top_grade-append p q)

  module _ (grading : IsGrading grade) where
    graded_multiples : (t : Powers × _) (q : Summands) (g : ℕ) → grade t.0 + top_grade grade q ≤ g → AllKeys (HasGrade g) (multiples t q)
    graded_multiples t [] g h = tt
    graded_multiples t (u ∷ us) g h = (record { most = omega (arith, grading.adds t.0 u.0) }, graded_multiples t us g (omega arith))

    graded_products : (p q : Summands) (g : ℕ) → top_grade grade p + top_grade grade q ≤ g → AllKeys (HasGrade g) (products p q)
    graded_products [] q g h = tt
    graded_products (t ∷ ts) q g h =
        AllKeys-append (HasGrade g) (multiples t q) (products ts q) (graded_multiples t q g (omega arith))
        (graded_products ts q g (omega arith))

    pub top_grade-product_of-le : (p q : Summands) → top_grade grade (product_of p q) ≤ top_grade grade p + top_grade grade q
    top_grade-product_of-le p q =
        let g = top_grade grade p + top_grade grade q in
        top_grade-from (product_of p q) g
        (AllKeys-canonical term_cmp coefficients (HasGrade g) (products p q) (graded_products p q g (omega arith)))

    pub grade-none : grade [] ≡ 0
    grade-none = let twice : grade [] ≡ grade [] + grade [] = grading.adds [] [] in omega arith

    pub top_grade-power_of-le : (q : Summands) (g n : ℕ) → top_grade grade q ≤ g → top_grade grade (power_of q n) ≤ g * n
    top_grade-power_of-le q g zero h = omega (arith, grade-none)
    top_grade-power_of-le q g (suc n) h = omega (arith, top_grade-product_of-le q (power_of q n), h, top_grade-power_of-le q g n h)

    -- TERMS WITH FACTORS

    module _ (bound : Piece → ℕ) where
      -- no monomial of a piece has a greater grade than its bound
      abbrev pub AllGraded : List Piece → Type 0
      AllGraded [] = Unit {0}
      AllGraded (q ∷ qs) = AllKeys (HasGrade (bound q)) q.poly × AllGraded qs

      abbrev pub AllGradedTerms : List Factored → Type 0
      AllGradedTerms [] = Unit {0}
      AllGradedTerms (f ∷ fs) = AllGraded f.0 × AllGradedTerms fs

      pub top_grade-times_pieces-le : (qs : List Piece) (p : Summands) → AllGraded qs
          → top_grade grade (times_pieces qs p) ≤ grade_with bound qs (top_grade grade p)
      top_grade-times_pieces-le [] p h = omega arith
      top_grade-times_pieces-le (q ∷ qs) p h =
          omega (
            arith,
            top_grade-product_of-le (times_pieces qs p) q.poly,
            top_grade-times_pieces-le qs p h.1,
            top_grade-from q.poly (bound q) h.0,
          )

      -- the grade of what becomes of the term is at most g
      pub record IsGradedWithin (g : ℕ) (f : Factored) : Type 0 where
        pub most : grade_with bound f.0 (grade f.1.0) ≤ g

      abbrev pub AllGradedWithin : ℕ → List Factored → Type 0
      AllGradedWithin g [] = Unit {0}
      AllGradedWithin g (f ∷ fs) = IsGradedWithin g f × AllGradedWithin g fs

      pub graded_terms : (g : ℕ) (fs : List Factored) → AllGradedTerms fs → AllGradedWithin g fs → AllKeys (HasGrade g) (factored_terms fs)
      graded_terms g [] h k = tt
      graded_terms g (f ∷ fs) h k =
          let one : top_grade grade (f.1 ∷ []) ≡ grade f.1.0 = omega arith in
          let same : grade_with bound f.0 (top_grade grade (f.1 ∷ [])) ≡ grade_with bound f.0 (grade f.1.0) =
          ap (grade_with bound f.0) one in
          AllKeys-append (HasGrade g) (times_pieces f.0 (f.1 ∷ [])) (factored_terms fs)
          (graded (times_pieces f.0 (f.1 ∷ [])) g (omega (arith, top_grade-times_pieces-le f.0 (f.1 ∷ []) h.0, same, k.0.most)))
          (graded_terms g fs h.1 k.1)

      pub top_grade-sum-le : (g : ℕ) (fs : List Factored) → AllGradedTerms fs → AllGradedWithin g fs
          → top_grade grade (polynomial_of (factored_terms fs)) ≤ g
      top_grade-sum-le g fs h k =
          top_grade-from (polynomial_of (factored_terms fs)) g
          (AllKeys-canonical term_cmp coefficients (HasGrade g) (factored_terms fs) (graded_terms g fs h k))

-- THE GRADINGS

pub exponent-product : (v : Var) (m n : Powers) → exponent v (product m n) ≡ exponent v m + exponent v n
exponent-product v m n =
    amount-canonical var_cmp exponents var_order exponents_add v (m ++ n) ∙ amount-append var_cmp exponents var_order exponents_add v m n

-- the exponent of a variable
pub exponent_grading : (v : Var) → IsGrading (exponent v)
exponent_grading v = record { adds = exponent-product v }

-- the total degree
pub degree_grading : IsGrading degree_of
degree_grading = record { adds = degree_of-product }

pub top_grade-degree : (p : Summands) → top_grade degree_of p ≡ total_degree p
top_grade-degree [] = refl
top_grade-degree (t ∷ ts) = ap (max (degree_of t.0)) (top_grade-degree ts)

pub grade_with-degree : (qs : List Piece) (d : ℕ) → grade_with (λ q. q.degree) qs d ≡ degree_with qs d
grade_with-degree [] d = refl
grade_with-degree (q ∷ qs) d = ap (λ x. x + q.degree) (grade_with-degree qs d)
