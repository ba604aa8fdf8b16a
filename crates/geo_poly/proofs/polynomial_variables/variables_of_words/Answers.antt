use Rattle.std.proofs.Common.{◌≡◌, ◌++◌, ◌+◌, ◌∷◌, [], Bool, cond, ap, sym, ◌∙◌, rules, arith}
use Rattle.std.proofs.lemmas.List.{append-nil}
use Rattle.mono_store.specs.Words.{count_from}
use Rattle.mono_store.proofs.WordOrder.{count_from-some}
use Rattle.geo_poly.specs.declared.variables.Var.{Var}
use Rattle.geo_poly.specs.Shared.{var_at}
use Rattle.geo_poly.proofs.DigitVariables.{AreFound-all, AreFound-more, AreFound-none}
use Rattle.geo_poly.proofs.polynomial_variables.variables_of_words.Goals as goal
use Rattle.geo_poly.proofs.polynomial_variables.variables_of_words.Goals.{then-has_digit+in_ok-push, else-has_digit}

pub has_digit-requires : goal.has_digit-requires
has_digit-requires c = omega (arith, c.loop-number.invariant.above, count_from-some c.args.p.now.monos.now.limits c.loop-number.number)

pub loop-number-init : goal.loop-number-init
loop-number-init c = record {
  above = search rules;
  found = ([], AreFound-none c.args.p.now _ (search rules));
}

pub loop-number-preserved : goal.loop-number-preserved
loop-number-preserved c = record {
  above = search rules;
  found =
      let p = c.args.p.now in
      let n = c.loop-number.number in
      let before = c.loop-number.invariant.found in
      let b = c.has_digit.result in
      let old = c.loop-number.items.items in
      let more = λ (v : Var) (b : Bool). c.loop-number.items.items ++ cond b (v ∷ []) [] in
      let v = var_at c.args.p.now.vars.now c.loop-number.number in
      let unit : c.unit_below-unit.result ≡ count_from c.args.p.now.monos.now.limits (c.loop-number.number + 1) = search rules in
      let pushed : c.if-has_digit.items.items ≡ c.loop-number.items.items
      ++ cond c.has_digit.result (var_at c.args.p.now.vars.now c.loop-number.number ∷ []) [] =
      elim c.if-has_digit.branch [
        | then-has_digit+in_ok-push w ↦
            let grown : c.if-has_digit.items.items ≡ c.loop-number.items.items ++ var_at c.args.p.now.vars.now c.loop-number.number ∷ [] = search rules in
            grown ∙ sym (ap (more v) w.if-has_digit.true)
        | else-has_digit w ↦
            let same : c.if-has_digit.items.items ≡ c.loop-number.items.items = search rules in
            same ∙ sym (append-nil old) ∙ sym (ap (more v) w.if-has_digit.false)
      ] in (
        before.0 ++ b ∷ [],
        AreFound-more p before.0 n c.unit_below-unit.result c.loop-number.above b old c.if-has_digit.items.items c.loop-number-test.true
            unit c.loop-number.invariant.above c.has_digit.ensures.some c.has_digit.ensures.none pushed before.1,
      );
}

pub returns : goal.returns
returns c =
    let found = c.loop-number.invariant.found in
    AreFound-all c.args.p.now found.0 c.loop-number.number c.loop-number.items.items (omega arith) c.requires.parts c.requires.words found.1
