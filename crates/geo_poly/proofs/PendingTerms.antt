-- The terms of a polynomial with their factors, one after the other, and in any order.
use Rattle.std.proofs.Common.{◌≡◌, ℕ, ◌≤◌, ℤ, List, [], ◌∷◌, ◌++◌, map, sym, ap, ap₂, subst, ◌∙◌, unsigned_abs, arith}
use Rattle.std.specs.Prelude.{All, Contains, ◌≢◌}
use Rattle.std.specs.List.Sorted.{IsPermutation}
use Rattle.std.proofs.lemmas.List.{append-nil, map_push}
use Rattle.std.proofs.lemmas.List.Elements.{All-push}
use Rattle.std.proofs.lemmas.List.Sorted.{All-permutation, IsPermutation-map, sum_by-IsPermutation}
use Rattle.std.proofs.lemmas.List.Sums.{sum_by-append, sum_by_push}
use Rattle.sparse_lists.specs.SparseLists.{AllKeys}
use Rattle.geo_poly.specs.Counted.{products_of_terms, term_products}
use Rattle.geo_poly.specs.declared.rows.Piece.{Piece}
use Rattle.geo_poly.specs.declared.rows.Row.{Row}
use Rattle.geo_poly.specs.declared.settings.Setting.{Setting}
use Rattle.geo_poly.specs.declared.shared.Shared.{Shared}
use Rattle.geo_poly.specs.declared.variables.Var.{Var}
use Rattle.geo_poly.specs.Inner.Accumulated.{accumulated_term, accumulated_terms}
use Rattle.geo_poly.specs.Inner.Factored.{AreFactors, ArePending, Factored, IsNumbered, Numbered, factored_products, factored_terms}
use Rattle.geo_poly.specs.Inner.Factored.{factored_weight, products_with, times_pieces, told_numbered, weight_with}
use Rattle.geo_poly.specs.Inner.ReplacedExponents.{exponent_bound, term_exponent}
use Rattle.geo_poly.specs.Monomials.{IsMonomial, Powers, degree_of, exponent}
use Rattle.geo_poly.specs.Polynomials.{Summands}
use Rattle.geo_poly.specs.Replace.{others, term_degree, term_weight, weight_of}
use Rattle.geo_poly.specs.Shared.{IsIndexOf, told as told_terms, told_powers}
use Rattle.geo_poly.proofs.FactoredTerms.{any_order, factored_terms-append}
use Rattle.geo_poly.proofs.Accumulated.{accumulated_terms-append}

-- the first terms q of the polynomial, those that become zero left out
pub record Made (setting : Setting) (p : Shared) (q : Summands) (es : List Numbered) : Type 0 where
  pub terms : factored_terms (map (told_numbered setting p 0) es) ≡ accumulated_terms setting.rows.now setting.den.piece.now.poly setting.top q
  pub weight : factored_weight (map (told_numbered setting p 0) es) ≤ weight_of setting.rows.now setting.den.piece.now setting.top q
  pub products : factored_products (map (told_numbered setting p 0) es) ≤ products_of_terms setting.rows.now setting.den.piece.now setting.top q
  pub pending : All (IsNumbered setting p 0) es

module _ (setting : Setting) (p : Shared) where
  abbrev rows : List Row
  rows = setting.rows.now

  abbrev den : Piece
  den = setting.den.piece.now

  abbrev top : ℕ
  top = setting.top

  abbrev told : Numbered → Factored
  told e = told_numbered setting p 0 e

  -- a term that becomes zero
  pub Made-zero : (q : Summands) (t : Powers × ℤ) (es : List Numbered)
      → accumulated_term setting.rows.now setting.den.piece.now.poly setting.top t ≡ [] → Made setting p q es → Made setting p (q ++ t ∷ []) es
  Made-zero q t es zero h = record {
    terms =
        h.terms ∙ sym (append-nil (accumulated_terms rows den.poly top q)) ∙ ap (λ (x : Summands). accumulated_terms rows den.poly top q ++ x) (ap (λ (x : Summands). x ++ []) (sym zero))
        ∙ sym (accumulated_terms-append rows den.poly top q (t ∷ []));
    weight = omega (arith, h.weight, sum_by-append (term_weight rows den top) q (t ∷ []));
    products = omega (arith, h.products, sum_by-append (λ (u : Powers × ℤ). term_products rows den top u.0) q (t ∷ []));
    pending = h.pending;
  }

  module _ (e : Numbered) (t : Powers × ℤ) (term-is : (told_powers p e.1.0, e.1.1) ≡ t) (factors : AreFactors setting t.0 e.0) where
    abbrev m : Powers
    m = told_powers p e.1.0

    here : AreFactors setting (told_powers p e.1.0) e.0
    here = subst (λ (n : Powers). AreFactors setting n e.0) (sym (ap (λ (u : Powers × ℤ). u.0) term-is)) factors

    one_value : times_pieces (told_numbered setting p 0 e).0 ((told_numbered setting p 0 e).1 ∷ []) ≡ accumulated_term rows den.poly top t
    one_value = here.terms ((others rows m, e.1.1) ∷ []) ∙ ap (accumulated_term rows den.poly top) term-is

    one_weight : weight_with (told_numbered setting p 0 e).0 (unsigned_abs e.1.1) ≡ term_weight rows den top t
    one_weight = here.weight (unsigned_abs e.1.1) ∙ ap (term_weight rows den top) term-is

    one_products : products_with (told_numbered setting p 0 e).0 1 ≤ term_products rows den top t.0
    one_products = subst (λ (u : Powers × ℤ). products_with (told_numbered setting p 0 e).0 1 ≤ term_products rows den top u.0) term-is here.products

    one_pending : IsIndexOf p e.1.0 → IsMonomial t.0 → AllKeys (Contains setting.vars.now) t.0 → unsigned_abs t.1 ≢ 0 → term_degree rows den top t ≤ 65535
        → ((v : Var) → term_exponent v rows den top t ≤ exponent_bound v rows den top (told_terms p)) → IsNumbered setting p 0 e
    one_pending index monomial known nonzero degree exponents =
        let m-is : told_powers p e.1.0 ≡ t.0 = ap (λ (u : Powers × ℤ). u.0) term-is in
        let c-is : e.1.1 ≡ t.1 = ap (λ (u : Powers × ℤ). u.1) term-is in
        record {
          index = index;
          monomial = subst IsMonomial (sym m-is) monomial;
          known = subst (λ (n : Powers). AllKeys (Contains setting.vars.now) n) (sym m-is) known;
          nonzero = λ z. nonzero (ap unsigned_abs (sym c-is) ∙ z);
          degree = let whole = here.degree (degree_of (others rows m)) ∙ ap (λ (u : Powers × ℤ). term_degree rows den top u) term-is in omega (arith, whole, degree);
          exponents = λ v.
              let whole = here.exponents v (exponent v (others rows m)) ∙ ap (λ (u : Powers × ℤ). term_exponent v rows den top u) term-is in omega (arith, whole, exponents v);
        }

    -- a term that does not
    pub Made-more : (q : Summands) (es : List Numbered) → IsIndexOf p e.1.0 → IsMonomial t.0 → AllKeys (Contains setting.vars.now) t.0
        → unsigned_abs t.1 ≢ 0 → term_degree setting.rows.now setting.den.piece.now setting.top t ≤ 65535
        → ((v : Var) → term_exponent v setting.rows.now setting.den.piece.now setting.top t ≤ exponent_bound v setting.rows.now setting.den.piece.now setting.top (told_terms p))
        → Made setting p q es → Made setting p (q ++ t ∷ []) (es ++ e ∷ [])
    Made-more q es index monomial known nonzero degree exponents h =
        let pushed = map_push told es e in
        record {
          terms =
              ap factored_terms pushed ∙ factored_terms-append (map told es) (told e ∷ [])
              ∙ ap₂ (λ (x y : Summands). x ++ (y ++ [])) h.terms one_value
              ∙ sym (accumulated_terms-append rows den.poly top q (t ∷ []));
          weight =
              let whole = ap factored_weight pushed ∙ sum_by_push (λ (f : Factored). weight_with f.0 (unsigned_abs f.1.1)) (map told es) (told e) in
              omega (arith, whole, h.weight, one_weight, sum_by_push (term_weight rows den top) q t);
          products =
              let whole = ap factored_products pushed ∙ sum_by_push (λ (f : Factored). products_with f.0 1) (map told es) (told e) in
              omega (arith, whole, h.products, one_products, sum_by_push (λ (u : Powers × ℤ). term_products rows den top u.0) q t);
          pending = All-push (IsNumbered setting p 0) es e h.pending (one_pending index monomial known nonzero degree exponents);
        }

  -- in any order
  pub ArePending-sorted : (q : Summands) (es fs : List Numbered) → IsPermutation es fs → ArePending setting p q es → ArePending setting p q fs
  ArePending-sorted q es fs moved h =
      let mapped = IsPermutation-map told es fs moved in
      record {
        terms = sym (any_order told es fs moved) ∙ h.terms;
        weight = omega (arith, h.weight, sum_by-IsPermutation (λ (f : Factored). weight_with f.0 (unsigned_abs f.1.1)) (map told es) (map told fs) mapped);
        products = omega (arith, h.products, sum_by-IsPermutation (λ (f : Factored). products_with f.0 1) (map told es) (map told fs) mapped);
        pending = All-permutation (IsNumbered setting p 0) es fs moved h.pending;
      }
