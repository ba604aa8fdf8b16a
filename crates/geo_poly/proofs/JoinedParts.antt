-- What a nested sum makes of one term, and of two parts that are added and get what all share.
use Rattle.std.proofs.Common.{◌≡◌, ℕ, ◌+◌, ◌^◌, ◌<◌, ◌≤◌, ℤ, List, [], ◌∷◌, drop, get_or, length, map, refl, sym, ap, ap₂, subst, ◌∙◌, take, unsigned_abs, arith}
use Rattle.std.specs.Prelude.{All}
use Rattle.std.proofs.lemmas.List.{append-nil}
use Rattle.std.proofs.lemmas.List.Elements.{All-head}
use Rattle.std.proofs.lemmas.List.Sums.{sum_by-cons}
use Rattle.sparse_lists.specs.SparseLists.{AllKeys, IsCanonical}
use Rattle.sparse_lists.proofs.Canonical.{canonical_self}
use Rattle.sparse_lists.specs.Coefficients.{coefficients, Pairs}
use Rattle.poly_arena.specs.Chains.{Chains, Merges, pairs_of}
use Rattle.geo_poly.specs.Chained.{AddsChain, SameChains, StandsUnder, keyed_terms_under}
use Rattle.geo_poly.specs.declared.pending.Pending.{Pending}
use Rattle.geo_poly.specs.declared.rows.Piece.{Piece}
use Rattle.geo_poly.specs.declared.settings.Setting.{Setting}
use Rattle.geo_poly.specs.declared.shared.Shared.{Shared}
use Rattle.geo_poly.specs.declared.variables.Var.{Var}
use Rattle.geo_poly.specs.Inner.Factored.{Factored, IsPending, degree_with, factored_products, factored_terms, factored_weight, pieces_of, products_with, times_pieces, told_pending, weight_with}
use Rattle.geo_poly.specs.Inner.Settings.{IsSetUnder}
use Rattle.geo_poly.specs.Inner.Keyed.{ArePiecesInReach, HasRoom, KeepsKeys, exponent_with, greatest_exponent}
use Rattle.geo_poly.specs.Inner.ReplacedExponents.{IsReplacedInReach, exponent_bound}
use Rattle.geo_poly.specs.Keys.{Keys}
use Rattle.geo_poly.specs.Monomials.{IsMonomial, Powers, degree_of, exponent}
use Rattle.geo_poly.specs.Polynomials.{Summands, norm_of, polynomial_of, sum_of, term_cmp, total_degree}
use Rattle.geo_poly.specs.Replace.{others}
use Rattle.geo_poly.specs.Shared.{told, told_powers}
use Rattle.geo_poly.proofs.ChainPowers.{some}
use Rattle.geo_poly.proofs.ChainSteps.{AddsChain-merges, live-differs}
use Rattle.geo_poly.proofs.ChainSums.{sum_is}
use Rattle.geo_poly.proofs.FactoredTerms.{IsCanonical-times_pieces, monomials_of_sum}
use Rattle.geo_poly.proofs.InReach.{less_within}
use Rattle.geo_poly.proofs.NestedSums.{all_deeper, all_within, degree_left, exponents_left, good_terms, norm_left, whole_products, whole_sum}
use Rattle.geo_poly.proofs.Orders.{term_order}
use Rattle.geo_poly.proofs.PieceReach.{with-grows}
use Rattle.sparse_lists.proofs.Coefficients.{coefficients_add}
use Rattle.geo_poly.proofs.ReplaceTerms.{IsCanonical-polynomial_of, IsMonomial-others}

-- WHERE NO CHAIN CHANGED BEFORE
pub SameChains-trans : (old mid new : Chains) → SameChains old mid → SameChains mid new → SameChains old new
SameChains-trans old mid new same h = record { lists = λ n. h.lists n ∙ same.lists n }

pub AddsChain-same : (old mid new : Chains) (number : ℕ) → SameChains old mid → AddsChain mid new number → AddsChain old new number
AddsChain-same old mid new number same h = record {
  unused = sym (same.lists number) ∙ h.unused;
  others = λ n d. h.others n d ∙ same.lists n;
}

-- TWO CHAINS, MERGED INTO THE FIRST
module _ (vars : List Var) (s1 s2 : Keys) (kept : KeepsKeys s1 s2) (a0 a1 a2 a3 : Chains) (sum rest whole : ℕ) (p q w : Summands) (adds : AddsChain a0 a1 sum)
    (more : AddsChain a1 a2 rest) (stands : StandsUnder vars s1 a1 sum p) (second : StandsUnder vars s2 a2 rest q) (is : whole ≡ sum) where
  pub joined_adds : (list : Pairs) → Merges a2 a3 sum rest list → AddsChain a0 a3 whole
  joined_adds list merges =
      subst (AddsChain a0 a3) (sym is) (AddsChain-merges a0 a1 a2 a3 sum rest list adds more (live-differs a1 sum rest stands.live more.unused) merges)

  pub joined_stands : StandsUnder vars s2 a3 sum (sum_of (keyed_terms_under vars s2 (pairs_of a2 sum)) (keyed_terms_under vars s2 (pairs_of a2 rest))) → sum_of p q ≡ w → StandsUnder vars s2 a3 whole w
  joined_stands made e =
      subst (λ (n : ℕ). StandsUnder vars s2 a3 n w) (sym is)
      (subst (λ (x : Summands). StandsUnder vars s2 a3 sum x) (sum_is vars s1 s2 kept a1 a2 sum rest p q stands more second ∙ e) made)

-- WHAT ALL SHARE, MULTIPLIED INTO THE SUM
module _ (setting : Setting) (keys : Keys) (set : IsSetUnder setting keys) (p : Shared) (depth n : ℕ) (first : List ℕ) (es : List Pending)
    (share : All (λ (e : Pending). take n (drop depth e.factors.now) ≡ take n first) es) (pending : All (IsPending setting p depth) es)
    (norm : factored_weight (map (told_pending setting p depth) es) < 2 ^ 127) (long : 1 ≤ length es) (factors : List ℕ) (factors-is : factors ≡ take n first)
    (base : Summands) (base-is : base ≡ polynomial_of (factored_terms (map (told_pending setting p (depth + n)) es))) where
  abbrev deep : List Factored
  deep = map (told_pending setting p (depth + n)) es

  abbrev made : Summands
  made = polynomial_of (factored_terms deep)

  abbrev pieces : List ℕ → List Piece
  pieces ks = pieces_of setting.rows.now setting.den.piece.now ks

  pub joined_order : IsCanonical term_cmp coefficients base
  joined_order = subst (λ (x : Summands). IsCanonical term_cmp coefficients x) (sym base-is) (IsCanonical-polynomial_of (factored_terms deep))

  pub joined_monomials : AllKeys IsMonomial base
  joined_monomials =
      subst (λ (x : Summands). AllKeys IsMonomial x) (sym base-is)
      (monomials_of_sum 65535 deep (omega arith) (good_terms setting keys set p (depth + n) es)
      (all_within setting keys set p (depth + n) es (all_deeper setting keys set p depth n first es share pending)))

  pub joined_norm : weight_with (pieces_of setting.rows.now setting.den.piece.now factors) (norm_of base) < 2 ^ 127
  joined_norm =
      subst (λ (ks : List ℕ). weight_with (pieces ks) (norm_of base) < 2 ^ 127) (sym factors-is)
      (subst (λ (x : Summands). weight_with (pieces (take n first)) (norm_of x) < 2 ^ 127) (sym base-is) (norm_left setting keys set p depth n first es share pending norm))

  pub joined_degree : degree_with (pieces_of setting.rows.now setting.den.piece.now factors) (total_degree base) ≤ 65535
  joined_degree =
      subst (λ (ks : List ℕ). degree_with (pieces ks) (total_degree base) ≤ 65535) (sym factors-is)
      (subst (λ (x : Summands). degree_with (pieces (take n first)) (total_degree x) ≤ 65535) (sym base-is) (degree_left setting keys set p depth n first es share pending norm long))

  pub joined_reach : (later : Keys) → later.limits ≡ keys.limits → IsReplacedInReach setting.vars.now keys setting.rows.now setting.den.piece.now setting.top (told p)
      → ArePiecesInReach setting.vars.now later (pieces_of setting.rows.now setting.den.piece.now factors) base
  joined_reach later same reach =
      let most = λ (v : Var). exponent_bound v setting.rows.now setting.den.piece.now setting.top (told p) in
      less_within setting.vars.now keys later most (λ v. exponent_with v (pieces factors) (greatest_exponent v base)) same
      (λ v. subst (λ (ks : List ℕ). exponent_with v (pieces ks) (greatest_exponent v base) ≤ most v) (sym factors-is)
      (subst (λ (x : Summands). exponent_with v (pieces (take n first)) (greatest_exponent v x) ≤ most v) (sym base-is)
      (exponents_left setting keys set p depth n first es share pending norm long v))) reach

  pub joined_made : times_pieces (pieces_of setting.rows.now setting.den.piece.now factors) base ≡ polynomial_of (factored_terms (map (told_pending setting p depth) es))
  joined_made =
      ap₂ (λ (ks : List ℕ) (x : Summands). times_pieces (pieces ks) x) factors-is base-is ∙ whole_sum setting keys set p depth n first es share pending norm

  pub joined_products : (size : ℕ) → size ≡ length base
      → factored_products (map (told_pending setting p (depth + n)) es) + products_with (pieces_of setting.rows.now setting.den.piece.now factors) size
      ≤ factored_products (map (told_pending setting p depth) es)
  joined_products size e =
      subst (λ (ks : List ℕ). factored_products deep + products_with (pieces ks) size ≤ factored_products (map (told_pending setting p depth) es)) (sym factors-is)
      (whole_products setting keys set p depth n first es share pending norm size (let same : size ≡ length made = e ∙ ap length base-is in omega (arith, same)))

-- ONE TERM
pub alone : (es : List Pending) (e : Pending) → 1 ≤ length es → length es < 2 → e ≡ get_or es 0 e → es ≡ e ∷ []
alone [] e some few at = absurd (omega arith)
alone (u ∷ []) e some few at = ap (λ (x : Pending). x ∷ []) (sym at)
alone (u ∷ w ∷ es) e some few at = absurd (omega arith)

module _ (setting : Setting) (p : Shared) (depth : ℕ) (e : Pending) (es : List Pending) (one : es ≡ e ∷ []) (pending : All (IsPending setting p depth) es) where
  pub lone_pending : IsPending setting p depth e
  lone_pending = All-head (IsPending setting p depth) e [] (subst (All (IsPending setting p depth)) one pending)

  pub lone_room : (keys : Keys) → IsReplacedInReach setting.vars.now keys setting.rows.now setting.den.piece.now setting.top (told p)
      → HasRoom setting.vars.now keys (others setting.rows.now (told_powers p e.id))
  lone_room keys reach =
      let m = others setting.rows.now (told_powers p e.id) in
      less_within setting.vars.now keys keys (λ v. exponent_bound v setting.rows.now setting.den.piece.now setting.top (told p)) (λ v. exponent v m) refl
      (λ v. omega (arith, lone_pending.exponents v, with-grows v (pieces_of setting.rows.now setting.den.piece.now (drop depth e.factors.now)) (exponent v m))) reach

  abbrev lone_told : List Factored
  lone_told = map (told_pending setting p depth) es

  abbrev lone_term : Powers × ℤ
  lone_term = (others setting.rows.now (told_powers p e.id), e.coefficient)

  abbrev lone_pieces : List ℕ → List Piece
  lone_pieces ks = pieces_of setting.rows.now setting.den.piece.now ks

  told-is : lone_told ≡ (lone_pieces (drop depth e.factors.now), lone_term) ∷ []
  told-is = ap (map (told_pending setting p depth)) one

  module _ (factors : List ℕ) (factors-is : factors ≡ drop depth e.factors.now) (base : Summands) (base-is : base ≡ (others setting.rows.now (told_powers p e.id), e.coefficient) ∷ []) where
    lone_canonical : IsCanonical term_cmp coefficients (lone_term ∷ [])
    lone_canonical = (some (unsigned_abs e.coefficient) lone_pending.nonzero, tt, tt)

    pub lone_order : IsCanonical term_cmp coefficients base
    lone_order = subst (λ (x : Summands). IsCanonical term_cmp coefficients x) (sym base-is) lone_canonical

    pub lone_monomials : AllKeys IsMonomial base
    lone_monomials = subst (λ (x : Summands). AllKeys IsMonomial x) (sym base-is) (IsMonomial-others setting.rows.now (told_powers p e.id) lone_pending.monomial, tt)

    pub lone_norm : factored_weight (map (told_pending setting p depth) es) < 2 ^ 127 → weight_with (pieces_of setting.rows.now setting.den.piece.now factors) (norm_of base) < 2 ^ 127
    lone_norm norm =
        let size : norm_of base ≡ unsigned_abs e.coefficient = ap norm_of base-is ∙ sum_by-cons (λ (t : Powers × ℤ). unsigned_abs t.1) lone_term [] ∙ omega arith in
        let all : factored_weight lone_told ≡ weight_with (lone_pieces (drop depth e.factors.now)) (unsigned_abs e.coefficient) =
        ap factored_weight told-is ∙ sum_by-cons (λ (f : Factored). weight_with f.0 (unsigned_abs f.1.1)) (lone_pieces (drop depth e.factors.now), lone_term) [] ∙ omega arith in
        let here = ap₂ (λ (ks : List ℕ) (w : ℕ). weight_with (lone_pieces ks) w) factors-is size in
        omega (arith, norm, all, here)

    pub lone_degree : degree_with (pieces_of setting.rows.now setting.den.piece.now factors) (total_degree base) ≤ 65535
    lone_degree =
        let degree : total_degree base ≡ degree_of lone_term.0 = ap total_degree base-is ∙ omega arith in
        let here = ap₂ (λ (ks : List ℕ) (d : ℕ). degree_with (lone_pieces ks) d) factors-is degree in
        omega (arith, lone_pending.degree, here)

    pub lone_reach : (keys later : Keys) → later.limits ≡ keys.limits → IsReplacedInReach setting.vars.now keys setting.rows.now setting.den.piece.now setting.top (told p)
        → ArePiecesInReach setting.vars.now later (pieces_of setting.rows.now setting.den.piece.now factors) base
    lone_reach keys later same reach =
        less_within setting.vars.now keys later (λ v. exponent_bound v setting.rows.now setting.den.piece.now setting.top (told p))
        (λ v. exponent_with v (lone_pieces factors) (greatest_exponent v base)) same
        (λ v.
        let most : greatest_exponent v base ≡ exponent v lone_term.0 = ap (greatest_exponent v) base-is ∙ omega arith in
        let here = ap₂ (λ (ks : List ℕ) (k : ℕ). exponent_with v (lone_pieces ks) k) factors-is most in
        omega (arith, lone_pending.exponents v, here)) reach

    pub lone_made : times_pieces (pieces_of setting.rows.now setting.den.piece.now factors) base ≡ polynomial_of (factored_terms (map (told_pending setting p depth) es))
    lone_made =
        let qs = lone_pieces (drop depth e.factors.now) in
        ap₂ (λ (ks : List ℕ) (x : Summands). times_pieces (lone_pieces ks) x) factors-is base-is
        ∙ sym (canonical_self term_cmp coefficients term_order coefficients_add (times_pieces qs (lone_term ∷ [])) (IsCanonical-times_pieces qs (lone_term ∷ []) lone_canonical))
        ∙ ap polynomial_of (sym (append-nil (times_pieces qs (lone_term ∷ []))))
        ∙ ap (λ (fs : List Factored). polynomial_of (factored_terms fs)) (sym told-is)

    pub lone_products : (size : ℕ) → size ≡ length base → products_with (pieces_of setting.rows.now setting.den.piece.now factors) size ≤ factored_products (map (told_pending setting p depth) es)
    lone_products size size-is =
        let long : size ≡ 1 = size-is ∙ ap length base-is in
        let all : factored_products lone_told ≡ products_with (lone_pieces (drop depth e.factors.now)) 1 =
        ap factored_products told-is ∙ sum_by-cons (λ (f : Factored). products_with f.0 1) (lone_pieces (drop depth e.factors.now), lone_term) [] ∙ omega arith in
        let here = ap₂ (λ (ks : List ℕ) (k : ℕ). products_with (lone_pieces ks) k) factors-is long in
        omega (arith, all, here)
