use Rattle.std.proofs.Common.{rules, arith, ◌≡◌, pos, length, ◌∷◌, ◌++◌, [], List, ap, sym, subst}
use Rattle.std.specs.Prelude.{Some, slice_get, slice_index_or}
use Rattle.ring_laws.specs.Fraction.{whole}
use Rattle.frac_laws.specs.declared.frac.Frac.{Frac}
use Rattle.frac_laws.specs.Numbers.{IsNumber}
use Rattle.std.proofs.lemmas.List.{length-append}
use Rattle.geo_place.proofs.Starting.{numbers_more}
use Rattle.geo_place.proofs.evaluation.numbers_of.Goals as goal

pub loop-value-preserved : goal.loop-value-preserved
loop-value-preserved c =
    let values = c.args.values.now in
    let ns = c.loop-value.numbers.items in
    let i = c.loop-value.value-index in
    let r = c.whole_number.result in
    let is : IsNumber r (whole (slice_index_or values i (pos 0))) = search rules in
    let pushed : c.push.new.self.items ≡ ns ++ r ∷ [] = c.in_ok-push.ensures.items in
    let more = length-append ns (r ∷ []) in
    let long = c.loop-value.invariant.long in
    record {
      numbers = subst (λ (fs : List Frac). (k : _) (s : Frac) → slice_get fs k ≡ Some s → IsNumber s (whole (slice_index_or values k (pos 0)))) (sym pushed)
          (numbers_more values ns r i long is c.loop-value.invariant.numbers);
      long = let l = ap (λ (fs : List Frac). length fs) pushed in omega (arith, l, more, long);
    }
