-- Two chains, made one after the other while keys are added, and their sum.
use Rattle.std.proofs.Common.{◌≡◌, ℕ, ◌+◌, ◌^◌, ◌<◌, List, sym, ap₂, subst}
use Rattle.sparse_lists.specs.SparseLists.{IsCanonical}
use Rattle.poly_arena.specs.Chains.{Chains, pairs_of}
use Rattle.geo_poly.specs.declared.variables.Var.{Var}
use Rattle.geo_poly.specs.Chained.{AddsChain, StandsUnder, keyed_terms_under}
use Rattle.geo_poly.specs.Inner.Keyed.{KeepsKeys}
use Rattle.geo_poly.specs.Keys.{Keys}
use Rattle.sparse_lists.specs.Coefficients.{coefficients}
use Rattle.geo_poly.specs.Polynomials.{Summands, norm_of, sum_of, term_cmp}
use Rattle.geo_poly.proofs.ChainSteps.{StandsUnder-kept, live-differs}

module _ (vars : List Var) (s1 s2 : Keys) (kept : KeepsKeys s1 s2) (a1 a2 : Chains) (sum rest : ℕ) (p q : Summands) (first : StandsUnder vars s1 a1 sum p) (adds : AddsChain a1 a2 rest)
    (second : StandsUnder vars s2 a2 rest q) where
  pub first_still : StandsUnder vars s2 a2 sum p
  first_still = StandsUnder-kept vars s1 s2 a1 a2 sum p kept (adds.others sum (live-differs a1 sum rest first.live adds.unused)) first

  pub first_order : IsCanonical term_cmp coefficients p → IsCanonical term_cmp coefficients (keyed_terms_under vars s2 (pairs_of a2 sum))
  first_order h = subst (λ (x : Summands). IsCanonical term_cmp coefficients x) (sym first_still.terms) h

  pub second_order : IsCanonical term_cmp coefficients q → IsCanonical term_cmp coefficients (keyed_terms_under vars s2 (pairs_of a2 rest))
  second_order h = subst (λ (x : Summands). IsCanonical term_cmp coefficients x) (sym second.terms) h

  pub norms_fit : norm_of p + norm_of q < 2 ^ 127 → norm_of (keyed_terms_under vars s2 (pairs_of a2 sum)) + norm_of (keyed_terms_under vars s2 (pairs_of a2 rest)) < 2 ^ 127
  norms_fit h =
      subst (λ (x : Summands). norm_of x + norm_of (keyed_terms_under vars s2 (pairs_of a2 rest)) < 2 ^ 127) (sym first_still.terms)
      (subst (λ (y : Summands). norm_of p + norm_of y < 2 ^ 127) (sym second.terms) h)

  pub sum_is : sum_of (keyed_terms_under vars s2 (pairs_of a2 sum)) (keyed_terms_under vars s2 (pairs_of a2 rest)) ≡ sum_of p q
  sum_is = ap₂ sum_of first_still.terms second.terms
