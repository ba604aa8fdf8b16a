use Rattle.std.proofs.Common.{sym, ap, ap₂, subst, ◌∙◌, arith}
use Rattle.std.proofs.lemmas.Result.{IfOk-weaker}
use Rattle.sparse_lists.specs.SparseLists.{IsCanonical}
use Rattle.sparse_lists.specs.Coefficients.{coefficients}
use Rattle.geo_poly.specs.Polynomials.{sum_of, norm_of, term_cmp}
use Rattle.geo_poly.specs.Shared.{terms_of, told}
use Rattle.geo_poly.proofs.IndexSums.{in_grown}
use Rattle.geo_poly.proofs.Told.{indices-kept}
use Rattle.geo_poly.proofs.sums.sum_list.Goals as goal

pub merged_lists-requires-clause-left_indices : goal.merged_lists-requires-clause-left_indices
merged_lists-requires-clause-left_indices c =
    rw c.deref.ensures.value (indices-kept c.args.vars.now c.moved.new.store c.moved-2.new.store c.in_ok-left.left.items c.in_ok-right.ensures.kept c.in_ok-left.ensures.indices)

pub merged_lists-requires-clause-left : goal.merged_lists-requires-clause-left
merged_lists-requires-clause-left c =
    subst (IsCanonical term_cmp coefficients)
    (sym (in_grown c.args.vars.now c.moved.new.store c.moved-2.new.store c.in_ok-left.left.items c.deref.result.now
    (told c.args.p.now) c.deref.ensures.value c.in_ok-right.ensures.kept c.in_ok-left.ensures.indices c.in_ok-left.ensures.terms))
    c.requires.left.polynomial.in_order

pub merged_lists-requires-clause-right : goal.merged_lists-requires-clause-right
merged_lists-requires-clause-right c =
    subst (IsCanonical term_cmp coefficients)
    (sym (ap (terms_of c.args.vars.now c.moved-2.new.store) c.deref-2.ensures.value ∙ c.in_ok-right.ensures.terms))
    c.requires.right.polynomial.in_order

pub merged_lists-requires-clause-fits : goal.merged_lists-requires-clause-fits
merged_lists-requires-clause-fits c =
    omega (
      arith,
      ap norm_of (in_grown c.args.vars.now c.moved.new.store c.moved-2.new.store c.in_ok-left.left.items c.deref.result.now
          (told c.args.p.now) c.deref.ensures.value c.in_ok-right.ensures.kept c.in_ok-left.ensures.indices c.in_ok-left.ensures.terms),
      ap norm_of (ap (terms_of c.args.vars.now c.moved-2.new.store) c.deref-2.ensures.value ∙ c.in_ok-right.ensures.terms),
      c.requires.fits,
    )

pub returns-clause-sum : goal.returns-clause-sum
returns-clause-sum c =
    IfOk-weaker c.merged_lists.result _ _
    (λ list h. h ∙ ap₂ sum_of (in_grown c.args.vars.now c.moved.new.store c.moved-2.new.store c.in_ok-left.left.items c.deref.result.now
    (told c.args.p.now) c.deref.ensures.value c.in_ok-right.ensures.kept c.in_ok-left.ensures.indices c.in_ok-left.ensures.terms)
    (ap (terms_of c.args.vars.now c.moved-2.new.store) c.deref-2.ensures.value ∙ c.in_ok-right.ensures.terms))
    c.merged_lists.ensures.sum
