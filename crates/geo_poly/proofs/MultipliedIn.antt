-- A chain that is multiplied by factors, one after the other.
use Rattle.std.proofs.Common.{◌≡◌, ℕ, zero, suc, ◌+◌, ◌*◌, ◌-◌, ◌^◌, ◌<◌, ◌≤◌, pos, Some, List, [], ◌∷◌, ◌++◌, drop, get_or, length, refl, sym, ap, subst, take, ◌∙◌, arith}
use Rattle.std.specs.Prelude.{slice_get}
use Rattle.std.proofs.Math.Nat.{mul-le-mul}
use Rattle.std.proofs.lemmas.List.{map-append, take-append-drop}
use Rattle.sparse_lists.specs.SparseLists.{AllKeys, IsCanonical}
use Rattle.sparse_lists.proofs.Merging.{drop_at, get_or_any}
use Rattle.geo_poly.specs.declared.rows.Piece.{Piece}
use Rattle.geo_poly.specs.declared.rows.Row.{Row}
use Rattle.geo_poly.specs.declared.settings.Setting.{Setting}
use Rattle.geo_poly.specs.declared.variables.Var.{Var}
use Rattle.geo_poly.specs.Inner.Factored.{count_with, degree_with, numerator_at, piece_of, pieces_of, products_with, times_pieces, weight_with}
use Rattle.geo_poly.specs.Inner.Keyed.{AreInReach, ArePiecesInReach, terms_under}
use Rattle.geo_poly.specs.Inner.Settings.{AreStoredUnder, IsSetUnder, IsStoredUnder}
use Rattle.geo_poly.specs.Keys.{Keys}
use Rattle.geo_poly.specs.Monomials.{IsMonomial, Powers}
use Rattle.sparse_lists.specs.Coefficients.{coefficients}
use Rattle.geo_poly.specs.Polynomials.{CanMultiply, Summands, norm_of, product_of, term_cmp, total_degree}
use Rattle.geo_poly.specs.Shared.{Indices, named}
use Rattle.geo_poly.proofs.ChainPowers.{orders}
use Rattle.geo_poly.proofs.FactoredTerms.{CanMultiply-times_pieces, degree_with-append, degree_with-is, length-times_pieces-le, products_with-append, weight_with-append, weight_with-grows}
use Rattle.geo_poly.proofs.GoodPieces.{good_piece, good_pieces}
use Rattle.geo_poly.proofs.PieceReach.{later_reach, piece_in_reach}
use Rattle.geo_poly.proofs.PolynomialRing.{product_of-one}

-- THE LIST OF A FACTOR
numerator_stored : (vars : List Var) (keys : Keys) (rows : List Row) (lists : List Indices) (den : Piece) (i : ℕ) (list : Indices) → AreStoredUnder vars keys rows lists → slice_get lists i ≡ Some list
    → IsStoredUnder vars keys list (numerator_at rows den i).poly
numerator_stored vars keys [] [] den i list h e = absurd (cc)
numerator_stored vars keys [] (l ∷ lists) den i list h e = absurd h
numerator_stored vars keys (r ∷ rows) [] den i list h e = absurd h
numerator_stored vars keys (r ∷ rows) (l ∷ lists) den zero list h e = let same : l ≡ list = cc in subst (λ (x : Indices). IsStoredUnder vars keys x r.num.poly) same h.0
numerator_stored vars keys (r ∷ rows) (l ∷ lists) den (suc i) list h e = numerator_stored vars keys rows lists den i list h.1 e

no_numerator : (vars : List Var) (keys : Keys) (rows : List Row) (lists : List Indices) (den : Piece) (i : ℕ) → AreStoredUnder vars keys rows lists → length lists ≤ i → numerator_at rows den i ≡ den
no_numerator vars keys [] lists den i h past = refl
no_numerator vars keys (r ∷ rows) [] den i h past = absurd h
no_numerator vars keys (r ∷ rows) (l ∷ lists) den zero h past = absurd (omega arith)
no_numerator vars keys (r ∷ rows) (l ∷ lists) den (suc i) h past = no_numerator vars keys rows lists den i h.1 (omega arith)

module _ (setting : Setting) (keys : Keys) (set : IsSetUnder setting keys) where
  abbrev vars : List Var
  vars = setting.vars.now

  abbrev rows : List Row
  rows = setting.rows.now

  abbrev den : Piece
  den = setting.den.piece.now

  pub stored_there : (factor : ℕ) (list : Indices) → 0 < factor → slice_get setting.nums.now (factor - 1) ≡ Some list
      → IsStoredUnder setting.vars.now keys list (piece_of setting.rows.now setting.den.piece.now factor).poly
  stored_there zero list h e = absurd (omega (arith, h))
  stored_there (suc i) list h e =
      numerator_stored vars keys rows setting.nums.now den i list set.rows_stored
      (let back : suc i - 1 ≡ i = omega arith in subst (λ (j : ℕ). slice_get setting.nums.now j ≡ Some list) back e)

  pub stored_past : (factor : ℕ) → length setting.nums.now < factor → IsStoredUnder setting.vars.now keys setting.den.list.now (piece_of setting.rows.now setting.den.piece.now factor).poly
  stored_past zero h = absurd (omega (arith, h))
  stored_past (suc i) h =
      subst (λ (q : Piece). IsStoredUnder vars keys setting.den.list.now q.poly)
      (sym (no_numerator vars keys rows setting.nums.now den i set.rows_stored (omega (arith, h)))) set.den_stored

  pub stored_first : (factor : ℕ) → factor ≡ 0 → IsStoredUnder setting.vars.now keys setting.den.list.now (piece_of setting.rows.now setting.den.piece.now factor).poly
  stored_first factor e = subst (λ (k : ℕ). IsStoredUnder vars keys setting.den.list.now (piece_of rows den k).poly) (sym e) set.den_stored

-- a polynomial times one that is 1
pub product_by_one : (vars : List Var) (keys : Keys) (list : Indices) (poly p : Summands) → keys.powers 0 ≡ [] → list ≡ (record { 0 = 0 }, pos 1) ∷ []
    → terms_under vars keys list ≡ poly → IsCanonical term_cmp coefficients p → AllKeys IsMonomial p → product_of p poly ≡ p
product_by_one vars keys list poly p first e terms in_order monomials =
    let one : named vars (keys.powers 0) ≡ [] = ap (named vars) first in
    let is : poly ≡ ([], pos 1) ∷ [] = sym terms ∙ ap (terms_under vars keys) e ∙ ap (λ (m : Powers). (m, pos 1) ∷ []) one in
    ap (product_of p) is ∙ product_of-one p (record { in_order = in_order; monomials = orders p monomials })

-- THE LOOP
pub next_factor : (factors : List ℕ) (i : ℕ) → 0 < i → i ≤ length factors → drop (i - 1) factors ≡ get_or factors (i - 1) 0 ∷ drop i factors
next_factor factors i positive within =
    let x = get_or factors (i - 1) 0 in
    let below : i - 1 < length factors = omega arith in
    let one_more : i - 1 + 1 ≡ i = omega arith in
    drop_at factors (i - 1) x below (get_or_any factors (i - 1) 0 x below) ∙ ap (λ k. x ∷ drop k factors) one_more

module _ (setting : Setting) (s0 : Keys) (set : IsSetUnder setting s0) (factors : List ℕ) (base : Summands) (order : IsCanonical term_cmp coefficients base) (monomials : AllKeys IsMonomial base)
    (norm : weight_with (pieces_of setting.rows.now setting.den.piece.now factors) (norm_of base) < 2 ^ 127)
    (degree : degree_with (pieces_of setting.rows.now setting.den.piece.now factors) (total_degree base) ≤ 65535) where
  abbrev pieces : List ℕ → List Piece
  pieces ks = pieces_of setting.rows.now setting.den.piece.now ks

  -- the first factors only make it larger
  later_fits : (done left : List ℕ) → factors ≡ done ++ left → (weight_with (pieces left) (norm_of base) < 2 ^ 127) × (degree_with (pieces left) (total_degree base) ≤ 65535)
  later_fits done left e =
      let same : pieces factors ≡ pieces done ++ pieces left = ap pieces e ∙ map-append (piece_of setting.rows.now setting.den.piece.now) done left in
      let w = ap (λ (qs : List Piece). weight_with qs (norm_of base)) same ∙ weight_with-append (pieces done) (pieces left) (norm_of base) in
      let d = ap (λ (qs : List Piece). degree_with qs (total_degree base)) same
      ∙ degree_with-append (pieces done) (pieces left) (total_degree base)
      ∙ degree_with-is (pieces done) (degree_with (pieces left) (total_degree base)) in
      (omega (arith, norm, w, weight_with-grows (pieces done) (weight_with (pieces left) (norm_of base)) (good_pieces setting s0 set done)), omega (arith, degree, d))

  module _ (i : ℕ) (positive : 0 < i) (within : i ≤ length factors) where
    abbrev k : ℕ
    k = get_or factors (i - 1) 0

    abbrev rest : List Piece
    rest = pieces (drop i factors)

    shown : drop (i - 1) factors ≡ get_or factors (i - 1) 0 ∷ drop i factors
    shown = next_factor factors i positive within

    fits_now : (weight_with (pieces (drop (i - 1) factors)) (norm_of base) < 2 ^ 127) × (degree_with (pieces (drop (i - 1) factors)) (total_degree base) ≤ 65535)
    fits_now = later_fits (take (i - 1) factors) (drop (i - 1) factors) (sym (take-append-drop (i - 1) factors))

    pub can_multiply : CanMultiply (times_pieces (pieces_of setting.rows.now setting.den.piece.now (drop i factors)) base)
        (piece_of setting.rows.now setting.den.piece.now (get_or factors (i - 1) 0)).poly
    can_multiply =
        let w : weight_with (pieces (k ∷ drop i factors)) (norm_of base) < 2 ^ 127 = subst (λ (ks : List ℕ). weight_with (pieces ks) (norm_of base) < 2 ^ 127) shown fits_now.0 in
        let d : degree_with (pieces (k ∷ drop i factors)) (total_degree base) ≤ 65535 = subst (λ (ks : List ℕ). degree_with (pieces ks) (total_degree base) ≤ 65535) shown fits_now.1 in
        CanMultiply-times_pieces (piece_of setting.rows.now setting.den.piece.now k) rest base (good_piece setting s0 set k, good_pieces setting s0 set (drop i factors)) order monomials w d

    pub reaches : ArePiecesInReach setting.vars.now s0 (pieces_of setting.rows.now setting.den.piece.now factors) base
        → AreInReach setting.vars.now s0 (times_pieces (pieces_of setting.rows.now setting.den.piece.now (drop i factors)) base)
        (piece_of setting.rows.now setting.den.piece.now (get_or factors (i - 1) 0)).poly
    reaches reach =
        let done = take (i - 1) factors in
        let left = drop (i - 1) factors in
        let same : pieces factors ≡ pieces done ++ pieces left = ap pieces (sym (take-append-drop (i - 1) factors)) ∙ map-append (piece_of setting.rows.now setting.den.piece.now) done left in
        let later = later_reach setting.vars.now s0 (pieces done) (pieces left) base (subst (λ (qs : List Piece). ArePiecesInReach setting.vars.now s0 qs base) same reach) in
        piece_in_reach setting.vars.now s0 (piece_of setting.rows.now setting.den.piece.now k) rest base
        (subst (λ (ks : List ℕ). ArePiecesInReach setting.vars.now s0 (pieces ks) base) shown later)

    pub made_now : product_of (times_pieces (pieces_of setting.rows.now setting.den.piece.now (drop i factors)) base) (piece_of setting.rows.now setting.den.piece.now (get_or factors (i - 1) 0)).poly
        ≡ times_pieces (pieces_of setting.rows.now setting.den.piece.now (drop (i - 1) factors)) base
    made_now = ap (λ (ks : List ℕ). times_pieces (pieces ks) base) (sym shown)

    pub ticks_now : (n size start before now : ℕ) → length base ≡ n → size ≡ length (times_pieces (pieces_of setting.rows.now setting.den.piece.now (drop i factors)) base)
        → before ≤ start + products_with (pieces_of setting.rows.now setting.den.piece.now (drop i factors)) n
        → now ≤ before + size * length (piece_of setting.rows.now setting.den.piece.now (get_or factors (i - 1) 0)).poly
        → now ≤ start + products_with (pieces_of setting.rows.now setting.den.piece.now (drop (i - 1) factors)) n
    ticks_now n size start before now n-is size-is h step =
        let q = piece_of setting.rows.now setting.den.piece.now k in
        let good = good_piece setting s0 set k in
        let long : length (times_pieces rest base) ≤ count_with rest n = subst
        (λ (m : ℕ). length (times_pieces rest base) ≤ count_with rest m) n-is
        (length-times_pieces-le rest base (good_pieces setting s0 set (drop i factors))) in
        let all : size * length q.poly ≤ count_with rest n * q.count = mul-le-mul (omega (arith, size-is, long)) good.bounded.count in
        let whole : products_with (pieces (drop (i - 1) factors)) n ≡ products_with rest n + count_with rest n * q.count = ap (λ (ks : List ℕ). products_with (pieces ks) n) shown in
        omega (arith, h, step, all, whole)

    -- the products that are formed with the last factors are some of all
    pub ticks_part : (n start now : ℕ) → now ≤ start + products_with (pieces_of setting.rows.now setting.den.piece.now (drop (i - 1) factors)) n
        → now ≤ start + products_with (pieces_of setting.rows.now setting.den.piece.now factors) n
    ticks_part n start now h =
        let done = take (i - 1) factors in
        let left = drop (i - 1) factors in
        let same : pieces factors ≡ pieces done ++ pieces left = ap pieces (sym (take-append-drop (i - 1) factors)) ∙ map-append (piece_of setting.rows.now setting.den.piece.now) done left in
        let whole = ap (λ (qs : List Piece). products_with qs n) same ∙ products_with-append (pieces done) (pieces left) n in
        omega (arith, h, whole)
