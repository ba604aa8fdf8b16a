-- Nested sums: what terms share is multiplied in after they are added.
use Rattle.std.proofs.Common.{◌≡◌, ℕ, ◌+◌, ◌-◌, ◌^◌, ◌<◌, ◌≤◌, List, [], ◌∷◌, ◌++◌, drop, length, map, refl, sym, ap, ap₂, ◌∙◌, take, unsigned_abs, arith}
use Rattle.std.specs.Prelude.{All}
use Rattle.std.proofs.lemmas.List.{drop-drop, map-append, take-append-drop}
use Rattle.std.proofs.lemmas.List.Elements.{All-cons, All-head, All-nil, All-tail}
use Rattle.std.proofs.lemmas.List.Sums.{sum_by-append}
use Rattle.sparse_lists.specs.SparseLists.{AllKeys}
use Rattle.sparse_lists.proofs.Sums.{AllKeys-append, AllKeys-canonical}
use Rattle.geo_poly.specs.declared.pending.Pending.{Pending}
use Rattle.geo_poly.specs.declared.rows.Piece.{Piece}
use Rattle.geo_poly.specs.declared.rows.Row.{Row}
use Rattle.geo_poly.specs.declared.settings.Setting.{Setting}
use Rattle.geo_poly.specs.declared.shared.Shared.{Shared}
use Rattle.geo_poly.specs.declared.variables.Var.{Var}
use Rattle.geo_poly.specs.Inner.Factored.{Factored, IsPending, degree_with, factored_products, factored_terms, factored_weight}
use Rattle.geo_poly.specs.Inner.Factored.{piece_of, pieces_of, products_with, times_pieces, told_pending, weight_with}
use Rattle.geo_poly.specs.Inner.Settings.{IsSetUnder}
use Rattle.geo_poly.specs.Keys.{Keys}
use Rattle.geo_poly.specs.Inner.Keyed.{exponent_with, greatest_exponent}
use Rattle.geo_poly.specs.Inner.ReplacedExponents.{exponent_bound}
use Rattle.geo_poly.specs.Monomials.{Powers, degree_of, exponent}
use Rattle.sparse_lists.specs.Coefficients.{coefficients}
use Rattle.geo_poly.specs.Polynomials.{Summands, norm_of, polynomial_of, sum_of, term_cmp, total_degree}
use Rattle.geo_poly.specs.Replace.{others}
use Rattle.geo_poly.specs.Shared.{told, told_powers}
use Rattle.geo_poly.proofs.FactoredTerms.{AllGood, AllGoodTerms, AllWithin, degree_with-append, degree_with-is, factored_count}
use Rattle.geo_poly.proofs.FactoredTerms.{length-sum-le, norm_of-sum-le, products_with-mono, shared_products, shared_terms, shared_weight}
use Rattle.geo_poly.proofs.FactoredTerms.{sum_of_parts, total_degree-sum-le, weight_with-grows, weight_with-mono, with_pieces}
use Rattle.geo_poly.proofs.GoodPieces.{good_pieces}
use Rattle.geo_poly.proofs.PieceReach.{all_at_most, least, times_pieces-le, with-append, with-is}
use Rattle.geo_poly.proofs.ChainPowers.{some}
use Rattle.geo_poly.proofs.ReplaceTerms.{IsMonomial-others}

module _ (setting : Setting) (keys : Keys) (set : IsSetUnder setting keys) where
  abbrev rows : List Row
  rows = setting.rows.now

  abbrev den : Piece
  den = setting.den.piece.now

  good : (ks : List ℕ) → AllGood (pieces_of setting.rows.now setting.den.piece.now ks)
  good ks = good_pieces setting keys set ks

  module _ (p : Shared) where
    pub good_terms : (depth : ℕ) (es : List Pending) → AllGoodTerms (map (told_pending setting p depth) es)
    good_terms depth [] = tt
    good_terms depth (e ∷ es) = (good (drop depth e.factors.now), good_terms depth es)

    -- ALL TERMS
    pub all_within : (depth : ℕ) (es : List Pending) → All (IsPending setting p depth) es → AllWithin 65535 (map (told_pending setting p depth) es)
    all_within depth [] h = tt
    all_within depth (e ∷ es) h =
        let first = All-head (IsPending setting p depth) e es h in (
          record {
            nonzero = some (unsigned_abs e.coefficient) first.nonzero;
            monomial = IsMonomial-others rows (told_powers p e.id) first.monomial;
            degree = first.degree;
          },
          all_within depth es (All-tail (IsPending setting p depth) e es h),
        )

    -- WHAT ALL SHARE
    module _ (depth n : ℕ) (first : List ℕ) where
      abbrev Shares : Pending → Type 0
      Shares e = take n (drop depth e.factors.now) ≡ take n first

      abbrev shared : List Piece
      shared = pieces_of rows den (take n first)

      one_shares : (e : Pending) → Shares e → pieces_of rows den (drop depth e.factors.now) ≡ shared ++ pieces_of rows den (drop (depth + n) e.factors.now)
      one_shares e h =
          let ks = drop depth e.factors.now in
          ap (pieces_of rows den) (sym (take-append-drop n ks))
          ∙ map-append (piece_of rows den) (take n ks) (drop n ks)
          ∙ ap₂ (λ (x y : List ℕ). pieces_of rows den x ++ pieces_of rows den y) h (drop-drop n depth e.factors.now)

      pub all_share : (es : List Pending) → All (λ (e : Pending). take n (drop depth e.factors.now) ≡ take n first) es
          → map (told_pending setting p depth) es ≡ map (with_pieces (pieces_of setting.rows.now setting.den.piece.now (take n first))) (map (told_pending setting p (depth + n)) es)
      all_share [] h = refl
      all_share (e ∷ es) h =
          ap₂ (λ (f : Factored) (fs : List Factored). f ∷ fs)
          (ap (λ (qs : List Piece). (qs, (others rows (told_powers p e.id), e.coefficient))) (one_shares e (All-head Shares e es h)))
          (all_share es (All-tail Shares e es h))

      deeper_degree : (e : Pending) → Shares e → IsPending setting p depth e
          → degree_with (pieces_of rows den (drop (depth + n) e.factors.now)) (degree_of (others rows (told_powers p e.id))) + degree_with shared 0 ≤ 65535
      deeper_degree e h g =
          let d = degree_of (others rows (told_powers p e.id)) in
          let rest = pieces_of rows den (drop (depth + n) e.factors.now) in
          let whole = ap (λ (qs : List Piece). degree_with qs d) (one_shares e h) ∙ degree_with-append shared rest d ∙ degree_with-is shared (degree_with rest d) in
          omega (arith, whole, g.degree)

      abbrev bound : Var → ℕ
      bound v = exponent_bound v rows den setting.top (told p)

      deeper_exponent : (e : Pending) → Shares e → IsPending setting p depth e → (v : Var)
          → exponent_with v (pieces_of rows den (drop (depth + n) e.factors.now)) (exponent v (others rows (told_powers p e.id))) + exponent_with v shared 0 ≤ bound v
      deeper_exponent e h g v =
          let k = exponent v (others rows (told_powers p e.id)) in
          let rest = pieces_of rows den (drop (depth + n) e.factors.now) in
          let whole = ap (λ (qs : List Piece). exponent_with v qs k) (one_shares e h) ∙ with-append v shared rest k ∙ with-is v shared (exponent_with v rest k) in
          omega (arith, whole, g.exponents v)

      pub all_deeper : (es : List Pending) → All (λ (e : Pending). take n (drop depth e.factors.now) ≡ take n first) es
          → All (IsPending setting p depth) es → All (IsPending setting p (depth + n)) es
      all_deeper [] h g = All-nil (IsPending setting p (depth + n))
      all_deeper (e ∷ es) h g =
          let here = All-head (IsPending setting p depth) e es g in
          All-cons (IsPending setting p (depth + n)) e es
          (record {
            index = here.index;
            monomial = here.monomial;
            known = here.known;
            nonzero = here.nonzero;
            degree = omega (arith, deeper_degree e (All-head Shares e es h) here);
            exponents = λ v. omega (arith, deeper_exponent e (All-head Shares e es h) here v);
          })
          (all_deeper es (All-tail Shares e es h) (All-tail (IsPending setting p depth) e es g))

      lower : (es : List Pending) → All Shares es → All (IsPending setting p depth) es → AllWithin (65535 - degree_with shared 0) (map (told_pending setting p (depth + n)) es)
      lower [] h g = tt
      lower (e ∷ es) h g =
          let here = All-head (IsPending setting p depth) e es g in (
            record {
              nonzero = some (unsigned_abs e.coefficient) here.nonzero;
              monomial = IsMonomial-others rows (told_powers p e.id) here.monomial;
              degree = omega (arith, deeper_degree e (All-head Shares e es h) here);
            },
            lower es (All-tail Shares e es h) (All-tail (IsPending setting p depth) e es g),
          )

      few : (es : List Pending) → 1 ≤ length es → All Shares es → All (IsPending setting p depth) es → degree_with shared 0 ≤ 65535
      few [] l h g = absurd (omega arith)
      few (e ∷ es) l h g = omega (arith, deeper_degree e (All-head Shares e es h) (All-head (IsPending setting p depth) e es g))

      few_exponents : (v : Var) (es : List Pending) → 1 ≤ length es → All Shares es → All (IsPending setting p depth) es → exponent_with v shared 0 ≤ bound v
      few_exponents v [] l h g = absurd (omega arith)
      few_exponents v (e ∷ es) l h g = omega (arith, deeper_exponent e (All-head Shares e es h) (All-head (IsPending setting p depth) e es g) v)

      lower_exponents : (v : Var) (es : List Pending) → All Shares es → All (IsPending setting p depth) es
          → AllKeys (λ (m : Powers). exponent v m ≤ bound v - exponent_with v shared 0) (factored_terms (map (told_pending setting p (depth + n)) es))
      lower_exponents v [] h g = tt
      lower_exponents v (e ∷ es) h g =
          let f = told_pending setting p (depth + n) e in
          let most = bound v - exponent_with v shared 0 in
          let here = deeper_exponent e (All-head Shares e es h) (All-head (IsPending setting p depth) e es g) v in
          let one : greatest_exponent v (f.1 ∷ []) ≡ exponent v f.1.0 = omega arith in
          let same = ap (exponent_with v f.0) one in
          AllKeys-append (λ (m : Powers). exponent v m ≤ most) (times_pieces f.0 (f.1 ∷ [])) (factored_terms (map (told_pending setting p (depth + n)) es))
          (all_at_most v (times_pieces f.0 (f.1 ∷ [])) most (omega (arith, times_pieces-le v f.0 (f.1 ∷ []), same, here)))
          (lower_exponents v es (All-tail Shares e es h) (All-tail (IsPending setting p depth) e es g))

      module _ (es : List Pending) (share : All (λ (e : Pending). take n (drop depth e.factors.now) ≡ take n first) es) (pending : All (IsPending setting p depth) es)
          (norm : factored_weight (map (told_pending setting p depth) es) < 2 ^ 127) where
        abbrev deep : List Factored
        deep = map (told_pending setting p (depth + n)) es

        abbrev sum : Summands
        sum = polynomial_of (factored_terms deep)

        weighs : factored_weight (map (told_pending setting p depth) es) ≡ weight_with shared (factored_weight deep)
        weighs = ap factored_weight (all_share es share) ∙ shared_weight shared deep

        pub deeper_norm : factored_weight (map (told_pending setting p (depth + n)) es) < 2 ^ 127
        deeper_norm = omega (arith, norm, weighs, weight_with-grows shared (factored_weight deep) (good (take n first)))

        pub norm_left : weight_with (pieces_of setting.rows.now setting.den.piece.now (take n first)) (norm_of (polynomial_of (factored_terms (map (told_pending setting p (depth + n)) es)))) < 2 ^ 127
        norm_left = omega (arith, norm, weighs, weight_with-mono shared (norm_of sum) (factored_weight deep) (norm_of-sum-le deep (good_terms (depth + n) es)))

        pub degree_left : 1 ≤ length es → degree_with (pieces_of setting.rows.now setting.den.piece.now (take n first))
            (total_degree (polynomial_of (factored_terms (map (told_pending setting p (depth + n)) es)))) ≤ 65535
        degree_left some_term =
            omega (
              arith,
              few es some_term share pending,
              degree_with-is shared (total_degree sum),
              total_degree-sum-le (65535 - degree_with shared 0) deep (good_terms (depth + n) es) (lower es share pending),
            )

        pub exponents_left : 1 ≤ length es → (v : Var) → exponent_with v (pieces_of setting.rows.now setting.den.piece.now (take n first))
            (greatest_exponent v (polynomial_of (factored_terms (map (told_pending setting p (depth + n)) es))))
            ≤ exponent_bound v setting.rows.now setting.den.piece.now setting.top (told p)
        exponents_left some_term v =
            let most = bound v - exponent_with v shared 0 in
            omega (
              arith,
              few_exponents v es some_term share pending,
              with-is v shared (greatest_exponent v sum),
              least v most sum (AllKeys-canonical term_cmp coefficients (λ (m : Powers). exponent v m ≤ most) (factored_terms deep) (lower_exponents v es share pending)),
            )

        pub whole_sum : times_pieces (pieces_of setting.rows.now setting.den.piece.now (take n first)) (polynomial_of (factored_terms (map (told_pending setting p (depth + n)) es)))
            ≡ polynomial_of (factored_terms (map (told_pending setting p depth) es))
        whole_sum = sym (shared_terms shared deep) ∙ ap (λ (fs : List Factored). polynomial_of (factored_terms fs)) (sym (all_share es share))

        pub whole_products : (size : ℕ) → size ≤ length (polynomial_of (factored_terms (map (told_pending setting p (depth + n)) es)))
            → factored_products (map (told_pending setting p (depth + n)) es) + products_with (pieces_of setting.rows.now setting.den.piece.now (take n first)) size
            ≤ factored_products (map (told_pending setting p depth) es)
        whole_products size le =
            omega (
              arith,
              ap factored_products (all_share es share),
              shared_products shared deep,
              products_with-mono shared size (factored_count deep) (omega (arith, le, length-sum-le deep (good_terms (depth + n) es))),
            )

    -- TWO PARTS
    module _ (depth : ℕ) (es : List Pending) (at : ℕ) (front back : List Pending) (front-is : front ≡ take at es) (back-is : back ≡ drop at es) where
      abbrev whole : List Factored
      whole = map (told_pending setting p depth) es

      parts : map (told_pending setting p depth) front ++ map (told_pending setting p depth) back ≡ map (told_pending setting p depth) es
      parts =
          sym (map-append (told_pending setting p depth) front back)
          ∙ ap (map (told_pending setting p depth)) (ap₂ (λ (x y : List Pending). x ++ y) front-is back-is ∙ take-append-drop at es)

      weighs_both : factored_weight (map (told_pending setting p depth) front) + factored_weight (map (told_pending setting p depth) back) ≡ factored_weight (map (told_pending setting p depth) es)
      weighs_both =
          sym (sum_by-append (λ (f : Factored). weight_with f.0 (unsigned_abs f.1.1)) (map (told_pending setting p depth) front) (map (told_pending setting p depth) back)) ∙ ap factored_weight parts

      pub front_norm : factored_weight (map (told_pending setting p depth) es) < 2 ^ 127 → factored_weight (map (told_pending setting p depth) front) < 2 ^ 127
      front_norm h = omega (arith, h, weighs_both)

      pub back_norm : factored_weight (map (told_pending setting p depth) es) < 2 ^ 127 → factored_weight (map (told_pending setting p depth) back) < 2 ^ 127
      back_norm h = omega (arith, h, weighs_both)

      pub parts_fit : factored_weight (map (told_pending setting p depth) es) < 2 ^ 127
          → norm_of (polynomial_of (factored_terms (map (told_pending setting p depth) front))) + norm_of (polynomial_of (factored_terms (map (told_pending setting p depth) back))) < 2 ^ 127
      parts_fit h =
          omega (
            arith,
            h,
            weighs_both,
            norm_of-sum-le (map (told_pending setting p depth) front) (good_terms depth front),
            norm_of-sum-le (map (told_pending setting p depth) back) (good_terms depth back),
          )

      pub parts_sum : sum_of (polynomial_of (factored_terms (map (told_pending setting p depth) front))) (polynomial_of (factored_terms (map (told_pending setting p depth) back)))
          ≡ polynomial_of (factored_terms (map (told_pending setting p depth) es))
      parts_sum =
          sum_of_parts (map (told_pending setting p depth) front) (map (told_pending setting p depth) back) ∙ ap (λ (fs : List Factored). polynomial_of (factored_terms fs)) parts

      pub parts_products : factored_products (map (told_pending setting p depth) front)
          + factored_products (map (told_pending setting p depth) back) ≡ factored_products (map (told_pending setting p depth) es)
      parts_products =
          sym (sum_by-append (λ (f : Factored). products_with f.0 1) (map (told_pending setting p depth) front) (map (told_pending setting p depth) back)) ∙ ap factored_products parts
