use Rattle.std.proofs.Common.{◌≡◌, ◌<◌, false, true, length, sym, ap, subst, ◌∙◌, arith}
use Rattle.std.proofs.lemmas.List.Filters.{FiltersInPlace-all, FiltersInPlace-more_no, FiltersInPlace-more_swap}
use Rattle.geo_poly.specs.Shared.{IsShared, term_of, terms_of, var_at}
use Rattle.geo_poly.proofs.ZeroWalks.{has_it, index_in, kept_shared, kept_terms, lacks_it, monomial_in, same_behind}
use Rattle.geo_poly.proofs.zeros.keep_lacking.Goals.{then-not-has_number, else-not-has_number}
use Rattle.geo_poly.proofs.zeros.keep_lacking.Goals as goal

pub has_number-requires-clause-index : goal.has_number-requires-clause-index
has_number-requires-clause-index c =
    let xs = c.args.list.now.items in
    let i = c.loop-i.i in
    let within : c.loop-i.i < length c.args.list.now.items = omega (arith, c.loop-i-test.true, c.len-i-end.ensures) in
    index_in c.args.vars.now c.args.monos.now xs i c.index.result.now within (same_behind xs c.loop-i.list.items i c.index.result.now c.loop-i.invariant.rest c.index.ensures) c.requires.shared

pub has_number-requires-clause-monomial : goal.has_number-requires-clause-monomial
has_number-requires-clause-monomial c =
    let xs = c.args.list.now.items in
    let i = c.loop-i.i in
    let within : c.loop-i.i < length c.args.list.now.items = omega (arith, c.loop-i-test.true, c.len-i-end.ensures) in
    monomial_in c.args.vars.now c.args.monos.now xs i c.index.result.now within (same_behind xs c.loop-i.list.items i c.index.result.now c.loop-i.invariant.rest c.index.ensures) c.requires.shared

pub loop-i-preserved : goal.loop-i-preserved
loop-i-preserved c =
    let v = var_at c.args.vars.now c.args.number in
    let t = term_of c.args.vars.now c.args.monos.now c.index.result.now in
    let within : c.loop-i.i < length c.loop-i.list.items = omega (arith, c.loop-i-test.true, c.len-i-end.ensures, c.loop-i.invariant.long) in
    elim c.if-not-has_number.branch [
      | then-not-has_number w ↦
          let without : c.has_number.result ≡ false = grind (arith, w.if-not-has_number.true) in
          rw (w.list-is, w.kept-is) (FiltersInPlace-more_swap c.loop-i.invariant within (lacks_it v t c.has_number.result c.has_number.ensures without) c.index.ensures w.swap.ensures.by_index)
      | else-not-has_number w ↦
          let stands : c.has_number.result ≡ true = grind (arith, w.if-not-has_number.false) in
          rw (w.list-is, w.kept-is) (FiltersInPlace-more_no c.loop-i.invariant within (has_it v t c.has_number.result c.has_number.ensures stands) c.index.ensures)
    ]

pub returns-clause-shared : goal.returns-clause-shared
returns-clause-shared c =
    let vars = c.args.vars.now in
    let monos = c.args.monos.now in
    let kept = c.truncate.ensures.items ∙ FiltersInPlace-all c.loop-i.invariant (omega (arith, c.loop-i-test.false, c.len-i-end.ensures)) in
    subst (IsShared vars monos) (sym kept) (kept_shared vars monos c.args.list.now.items (var_at vars c.args.number) c.requires.shared)

pub returns-clause-terms : goal.returns-clause-terms
returns-clause-terms c =
    let vars = c.args.vars.now in
    let monos = c.args.monos.now in
    let kept = c.truncate.ensures.items ∙ FiltersInPlace-all c.loop-i.invariant (omega (arith, c.loop-i-test.false, c.len-i-end.ensures)) in
    ap (terms_of vars monos) kept ∙ kept_terms vars monos c.args.list.now.items (var_at vars c.args.number) c.requires.shared
