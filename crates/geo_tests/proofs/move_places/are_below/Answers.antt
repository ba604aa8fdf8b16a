use Rattle.std.proofs.Common.{All, List, subst}
use Rattle.std.proofs.lemmas.List.{take_all}
use Rattle.std.proofs.lemmas.List.Elements.{All-more}
use Rattle.fraction_poly.specs.TableRows.{HasPointsBelow}
use Rattle.geo_poly.specs.declared.variables.Var.{Var}
use Rattle.geo_tests.proofs.move_places.are_below.Goals as goal

pub loop-v-preserved : goal.loop-v-preserved
loop-v-preserved c =
    All-more (HasPointsBelow c.args.n) c.args.variables.now c.loop-v.v-index _ c.loop-v-test.true c.loop-v.invariant (c.is_below.ensures c.if-not-is_below.false)

pub returns : goal.returns
returns c =
    λ _. subst (λ (vs : List Var). All (HasPointsBelow c.args.n) vs) (take_all c.loop-v.v-index c.args.variables.now c.loop-v-test.false) c.loop-v.invariant
