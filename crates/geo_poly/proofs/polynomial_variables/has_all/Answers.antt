use Rattle.std.proofs.Common.{slice_index_or, subst, arith}
use Rattle.std.specs.Prelude.{Contains}
use Rattle.sparse_lists.proofs.Merging.{get_or_any}
use Rattle.geo_poly.specs.declared.variables.Var.{Var}
use Rattle.geo_poly.specs.declared.variables.Var.TheVariants.{R}
use Rattle.geo_poly.proofs.Unions.{known_more, placed}
use Rattle.geo_poly.proofs.polynomial_variables.has_all.Goals as goal

abbrev none : Var
none = R (record { 0 = 0 }) (record { 0 = 0 }) (record { 0 = 0 }) (record { 0 = 0 })

pub loop-v-preserved : goal.loop-v-preserved
loop-v-preserved c =
    let list = c.args.list.now in
    let others = c.args.others.now in
    let i = c.loop-v.v-index in
    let x = slice_index_or others i none in
    known_more list others i x c.loop-v-test.true (get_or_any others i none x c.loop-v-test.true) (placed list x c.in-Some.place c.in-Some.ensures) c.loop-v.invariant

pub returns : goal.returns
returns c = λ _ v stands. subst (Contains c.args.list.now) stands.2 (c.loop-v.invariant stands.0 v (omega (arith, stands.1, c.loop-v-test.false)))
