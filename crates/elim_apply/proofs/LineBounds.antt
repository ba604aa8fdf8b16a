-- Where the weight and the degree of a line are within their limits, so are those of each of its rows.
use Rattle.std.proofs.Common.{◌≡◌, ℕ, zero, suc, ◌+◌, ◌*◌, ◌-◌, ◌^◌, ◌≤◌, eqb, Bool, true, false, cond, Option, Some, None, List, [], ◌∷◌, refl, sym, ap, subst, ◌∙◌, unsigned_abs, arith}
use Rattle.std.specs.Prelude.{IfSome}
use Rattle.std.specs.List.{cons_option, filter_map}
use Rattle.std.specs.Ordering.{is_eq}
use Rattle.std.proofs.Math.Nat.{mul-le-mul, pow-suc, pow-zero}
use Rattle.std.proofs.lemmas.Bool.Decides.{nat_tests}
use Rattle.std.proofs.lemmas.List.Sums.{sum_by-cons}
use Rattle.sparse_lists.specs.SparseLists.{AllKeys, IsCanonical}
use Rattle.geo_poly.specs.declared.rows.Piece.{Piece}
use Rattle.geo_poly.specs.declared.rows.Row.{Row}
use Rattle.geo_poly.specs.declared.variables.Var.{Var}
use Rattle.geo_poly.specs.Monomials.{Powers, IsMonomial, degree_of, exponents}
use Rattle.sparse_lists.specs.Coefficients.{coefficients}
use Rattle.geo_poly.specs.Polynomials.{Summands, IsPolynomial, term_cmp}
use Rattle.geo_poly.specs.PolynomialVariables.{AllVariables}
use Rattle.geo_poly.specs.Replace.{AllBounded, IsBounded, degree_bound, degree_row, degree_rows, denominators, most_denominators, others}
use Rattle.geo_poly.specs.Replace.{replaced_degree, replaced_weight, row_of, term_weight, weight_of, weight_row, weight_rows}
use Rattle.geo_poly.specs.Variables.{var_cmp}
use Rattle.geo_poly.proofs.EachVariable.{EachIn}
use Rattle.geo_poly.proofs.Orders.{var_order}
use Rattle.geo_logs.proofs.MoveValues.{one_variable}

-- POWERS
one_le_power : (w e : ℕ) → 1 ≤ w → 1 ≤ w ^ e
one_le_power w zero h = omega (arith, pow-zero w)
one_le_power w (suc e) h =
    let both : 1 * 1 ≤ w ^ e * w = mul-le-mul (one_le_power w e h) h in
    omega (arith, both, pow-suc w e)

le_power : (w e : ℕ) → 1 ≤ w → 1 ≤ e → w ≤ w ^ e
le_power w zero h one = absurd (omega (arith, one))
le_power w (suc e) h one =
    let self : w ≤ w = omega arith in
    let both : 1 * w ≤ w ^ e * w = mul-le-mul (one_le_power w e h) self in
    omega (arith, both, pow-suc w e)

le_times : (w x : ℕ) → 1 ≤ x → w ≤ w * x
le_times w x h = let self : w ≤ w = omega arith in let both : w * 1 ≤ w * x = mul-le-mul self h in omega (arith, both)

le_times_left : (w x : ℕ) → 1 ≤ w → x ≤ w * x
le_times_left w x h = let self : x ≤ x = omega arith in let both : 1 * x ≤ w * x = mul-le-mul h self in omega (arith, both)

not_zero : (n : ℕ) → eqb n 0 ≡ false → 1 ≤ n
not_zero n e = grind (arith, nat_tests)

-- A TERM
module _ (rows : List Row) (bounded : AllBounded rows) where
  heavy_row : (v : Var) (r : Row) → row_of rows v ≡ Some r → 1 ≤ r.num.weight
  heavy_row v r = go rows bounded
    where
      go : (rows : List Row) → AllBounded rows → row_of rows v ≡ Some r → 1 ≤ r.num.weight
      go [] h e = absurd (let q : ◌≡◌ {A = Option Row} None (Some r) = e in cc)
      go (s ∷ rs) h e = at (is_eq (var_cmp s.var v)) e (go rs h.1)
        where
          at : (b : Bool) → cond b (Some s) (row_of rs v) ≡ Some r → (row_of rs v ≡ Some r → 1 ≤ r.num.weight) → 1 ≤ r.num.weight
          at true e rest = let which : s ≡ r = cc in subst (λ (r : Row). 1 ≤ r.num.weight) which h.0.weight
          at false e rest = rest e

  weight_row-le : (o : Option Row) (v : Var) (e w : ℕ) → row_of rows v ≡ o → w ≤ weight_row o e w
  weight_row-le None v e w is = omega arith
  weight_row-le (Some r) v e w is = le_times w (r.num.weight ^ e) (one_le_power r.num.weight e (heavy_row v r is))

  weight_rows-le : (m : Powers) (w : ℕ) → w ≤ weight_rows rows m w
  weight_rows-le [] w = omega arith
  weight_rows-le (p ∷ m) w =
      omega (arith, weight_row-le (row_of rows p.0) p.0 p.1 w refl, weight_rows-le m (weight_row (row_of rows p.0) p.1 w))

  degree_row-le : (o : Option Row) (e d : ℕ) → d ≤ degree_row o e d
  degree_row-le None e d = omega arith
  degree_row-le (Some r) e d = omega arith

  degree_rows-le : (m : Powers) (d : ℕ) → d ≤ degree_rows rows m d
  degree_rows-le [] d = omega arith
  degree_rows-le (p ∷ m) d = omega (arith, degree_row-le (row_of rows p.0) p.1 d, degree_rows-le m (degree_row (row_of rows p.0) p.1 d))

  -- the row of the variable has no greater weight than `most` and no greater degree than `top`
  pub record RowWithin (most top : ℕ) (r : Row) : Type 0 where
    pub weight : r.num.weight ≤ most
    pub degree : r.num.degree ≤ top

  abbrev pub Within : ℕ → ℕ → Var → Type 0
  Within most top v = IfSome (row_of rows v) (RowWithin most top)

  monomial_within : (most top : ℕ) (m : Powers) (w d : ℕ) → IsCanonical var_cmp exponents m → 1 ≤ w → weight_rows rows m w ≤ most → degree_rows rows m d ≤ top
      → AllKeys (Within most top) m
  monomial_within most top [] w d c one weight degree = tt
  monomial_within most top (p ∷ m) w d c one weight degree = (
    here (row_of rows p.0) refl (not_zero p.1 c.0) (weight_rows-le m (weight_row (row_of rows p.0) p.1 w)) (degree_rows-le m (degree_row (row_of rows p.0) p.1 d)) weight degree,
    monomial_within most top m (weight_row (row_of rows p.0) p.1 w) (degree_row (row_of rows p.0) p.1 d) c.2
        (omega (arith, one, weight_row-le (row_of rows p.0) p.0 p.1 w refl)) weight degree,
  )
    where
      here : (o : Option Row) → row_of rows p.0 ≡ o → 1 ≤ p.1
          → weight_row o p.1 w ≤ weight_rows rows m (weight_row o p.1 w) → degree_row o p.1 d ≤ degree_rows rows m (degree_row o p.1 d)
          → weight_rows rows m (weight_row o p.1 w) ≤ most → degree_rows rows m (degree_row o p.1 d) ≤ top → IfSome o (RowWithin most top)
      here None is some a b x y = tt
      here (Some r) is some a b x y =
          let power : r.num.weight ≤ r.num.weight ^ p.1 = le_power r.num.weight p.1 (heavy_row p.0 r is) some in
          let product : r.num.weight ^ p.1 ≤ w * r.num.weight ^ p.1 = le_times_left w (r.num.weight ^ p.1) one in
          let times : r.num.degree ≤ r.num.degree * p.1 = le_times r.num.degree p.1 some in
          record { weight = omega (arith, power, product, a, x); degree = omega (arith, times, b, y) }

  -- A POLYNOMIAL
  module _ (den : Piece) (heavy : IsBounded den) (top : ℕ) where
    terms_within : (most greatest : ℕ) (q : Summands) → IsCanonical term_cmp coefficients q → AllKeys IsMonomial q
        → weight_of rows den top q ≤ most → degree_bound rows den top q ≤ greatest → AllVariables (Within most greatest) q
    terms_within most greatest [] c m weight degree = tt
    terms_within most greatest (t ∷ ts) c m weight degree =
        let n = top - denominators rows t.0 in
        let here : weight_rows rows t.0 (unsigned_abs t.1) ≤ weight_rows rows t.0 (unsigned_abs t.1) * den.weight ^ n =
        le_times (weight_rows rows t.0 (unsigned_abs t.1)) (den.weight ^ n) (one_le_power den.weight n heavy.weight) in
        let sum : weight_of rows den top (t ∷ ts) ≡ term_weight rows den top t + weight_of rows den top ts = sum_by-cons (term_weight rows den top) t ts in (
          monomial_within most greatest t.0 (unsigned_abs t.1) (degree_of (others rows t.0)) m.0.in_order (not_zero (unsigned_abs t.1) c.0)
              (omega (arith, here, sum, weight)) (omega (arith, degree)),
          terms_within most greatest ts c.2 m.1 (omega (arith, sum, weight)) (omega (arith, degree)),
        )

  pub line_within : (den : Piece) → IsBounded den → (q : Summands) → IsPolynomial q → AllVariables (Within (replaced_weight rows den q) (replaced_degree rows den q)) q
  line_within den heavy q valid =
      terms_within den heavy (most_denominators rows q) (replaced_weight rows den q) (replaced_degree rows den q) q valid.in_order valid.monomials (omega arith) (omega arith)

-- THE ROW OF A VARIABLE
module _ (row : Var → Option Row) (own : (v : Var) (r : Row) → row v ≡ Some r → r.var ≡ v) where
  -- the row of v is the first one of v
  abbrev IsFound : List Row → Var → Type 0
  IsFound rows v = (r : Row) → row v ≡ Some r → row_of rows v ≡ Some r

  self_eq : (v : Var) → is_eq (var_cmp v v) ≡ true
  self_eq v = ap is_eq (var_order.self v)

  found_first : (v : Var) (vs : List Var) → IsFound (filter_map row (v ∷ vs)) v
  found_first v vs r e =
      ap (λ (o : Option Row). row_of (cons_option o (filter_map row vs)) v) e
      ∙ ap (λ (b : Bool). cond b (Some r) (row_of (filter_map row vs) v)) (ap (λ (w : Var). is_eq (var_cmp w v)) (own v r e) ∙ self_eq v)

  found_later : (w : Var) (vs : List Var) (v : Var) → IsFound (filter_map row vs) v → IsFound (filter_map row (w ∷ vs)) v
  found_later w vs v h r e = go (row w) refl
    where
      test : (s : Row) → row w ≡ Some s → (b : Bool) → is_eq (var_cmp s.var v) ≡ b → cond b (Some s) (row_of (filter_map row vs) v) ≡ Some r
      test s is true t =
          let same : w ≡ v = sym (own w s is) ∙ one_variable s.var v t in
          sym is ∙ ap row same ∙ e
      test s is false t = h r e

      go : (o : Option Row) → row w ≡ o → row_of (cons_option o (filter_map row vs)) v ≡ Some r
      go None is = h r e
      go (Some s) is = test s is (is_eq (var_cmp s.var v)) refl

  each_map : (First Second : Var → Type 0) → ((v : Var) → First v → Second v) → (vs : List Var) → EachIn First vs → EachIn Second vs
  each_map First Second f [] h = tt
  each_map First Second f (v ∷ vs) h = (f v h.0, each_map First Second f vs h.1)

  pub each_found : (vs : List Var) → EachIn (IsFound (filter_map row vs)) vs
  each_found [] = tt
  each_found (v ∷ vs) =
      (found_first v vs, each_map (IsFound (filter_map row vs)) (IsFound (filter_map row (v ∷ vs))) (λ w. found_later v vs w) vs (each_found vs))

  both_each : (First Second Third : Var → Type 0) → ((v : Var) → First v → Second v → Third v) → (vs : List Var) → EachIn First vs → EachIn Second vs → EachIn Third vs
  both_each First Second Third f [] h g = tt
  both_each First Second Third f (v ∷ vs) h g = (f v h.0 g.0, both_each First Second Third f vs h.1 g.1)

  -- what holds of the first row of each variable holds of its row
  pub rows_each : (Q : Row → Type 0) (vs : List Var) → EachIn (λ v. IfSome (row_of (filter_map row vs) v) Q) vs → EachIn (λ v. (r : Row) → row v ≡ Some r → Q r) vs
  rows_each Q vs h =
      both_each (IsFound (filter_map row vs)) (λ v. IfSome (row_of (filter_map row vs) v) Q) (λ v. (r : Row) → row v ≡ Some r → Q r)
      (λ v found some r e. subst (λ (o : Option Row). IfSome o Q) (found r e) some) vs (each_found vs) h
