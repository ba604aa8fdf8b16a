use Rattle.std.proofs.Common.{List, ℕ, ap, subst, sym, arith, ◌∙◌}
use Rattle.std.proofs.lemmas.List.{take_all}
use Rattle.geo_poly.specs.Inner.Keyed.{greatest_exponent, greatest_of_rows}
use Rattle.geo_poly.specs.Inner.Limits.{AreLimits}
use Rattle.geo_poly.proofs.ExponentLimits.{AreLimits-less}
use Rattle.geo_poly.proofs.TermLimits.{AreLimitsOfRows-count, greatest_of_rows-take, row_at}
use Rattle.geo_poly.proofs.term_limits.raise_by_rows.Goals as goal

pub loop-num-preserved : goal.loop-num-preserved
loop-num-preserved c = record {
  whole = c.raise_all.ensures.whole ∙ c.loop-num.invariant.whole;
  limits = λ vars rows bound h g.
      let i = c.loop-num.num-index in
      let found = row_at vars rows c.args.nums.now i c.num-item.result c.loop-num-test.true c.num-item.is h in
      AreLimits-less vars _ _ _
      (λ v. omega (arith, greatest_of_rows-take v rows i found.row found.within found.is))
      (c.raise_all.ensures.limits vars _ _ (c.loop-num.invariant.limits vars rows bound h g)
      (subst (λ (ns : List ℕ). AreLimits vars (λ v. greatest_exponent v found.row.num.poly) ns) (sym c.deref.ensures.value) found.limits));
}

pub returns-clause-limits : goal.returns-clause-limits
returns-clause-limits c = λ vars rows bound h g.
    AreLimits-less vars _ _ _
    (λ v. omega (arith, ap (greatest_of_rows v) (take_all c.loop-num.num-index rows (omega (arith, AreLimitsOfRows-count vars rows c.args.nums.now h)))))
    (c.loop-num.invariant.limits vars rows bound h g)
