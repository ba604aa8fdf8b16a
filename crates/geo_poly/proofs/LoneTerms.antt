-- A list of one index, whose product with another is the list of multiples.
use Rattle.std.proofs.Common.{◌≡◌, ◌<◌, ◌≤◌, ℤ, List, [], ◌∷◌, get_or, length, sym, ap, subst, ◌∙◌, arith}
use Rattle.std.proofs.lemmas.List.{get_or-map, length-map}
use Rattle.sparse_lists.proofs.Merging.{get_or_any}
use Rattle.geo_poly.specs.declared.variables.Var.{Var}
use Rattle.geo_poly.specs.Polynomials.{CanMultiply, Summands, multiples, product_of}
use Rattle.geo_poly.specs.Inner.Keyed.{AreInReach, term_under, terms_under}
use Rattle.geo_poly.specs.Keys.{Keys}
use Rattle.geo_poly.specs.Monomials.{Powers}
use Rattle.geo_poly.specs.Shared.{Indices}
use Rattle.geo_poly.proofs.ProductLaws.{product_of_one, single}
use Rattle.geo_poly.proofs.Told.{item}

module _ (vars : List Var) (s : Keys) (list : Indices) (some : 1 ≤ length list) (few : length list < 2) where
  pub lone : term_under vars s (item list 0) ∷ [] ≡ terms_under vars s list
  lone =
      let term = term_under vars s (item list 0) in
      let is : term_under vars s (item list 0) ≡ get_or (terms_under vars s list) 0 (term_under vars s (item list 0)) =
      ap (term_under vars s) (get_or_any list 0 _ (item list 0) (omega arith)) ∙ sym (get_or-map (term_under vars s) list 0 (item list 0) term (omega arith)) in
      single (terms_under vars s list) term (omega (arith, length-map {B = Powers × ℤ} list (term_under vars s))) (omega (arith, length-map {B = Powers × ℤ} list (term_under vars s))) is

  pub multiples_of_lone : (q : Summands) → CanMultiply (terms_under vars s list) q → multiples (term_under vars s (item list 0)) q ≡ product_of (terms_under vars s list) q
  multiples_of_lone q can =
      product_of_one (term_under vars s (item list 0)) q (subst (λ (x : Summands). CanMultiply x q) (sym lone) can) ∙ ap (λ (x : Summands). product_of x q) lone

  pub reach_of_lone : (q : Summands) → AreInReach vars s (terms_under vars s list) q → AreInReach vars s (term_under vars s (item list 0) ∷ []) q
  reach_of_lone q reach = subst (λ (x : Summands). AreInReach vars s x q) (sym lone) reach

  pub can_of_lone : (q : Summands) → CanMultiply (terms_under vars s list) q → CanMultiply (term_under vars s (item list 0) ∷ []) q
  can_of_lone q can = subst (λ (x : Summands). CanMultiply x q) (sym lone) can

pub CanMultiply-flip : (p q : Summands) → CanMultiply p q → CanMultiply q p
CanMultiply-flip p q h = record {
  left_in_order = h.right_in_order;
  left_monomials = h.right_monomials;
  right_in_order = h.left_in_order;
  right_monomials = h.left_monomials;
  norm_fits = omega (arith, h.norm_fits);
  degree_fits = omega (arith, h.degree_fits);
}
