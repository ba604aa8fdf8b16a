use Rattle.std.proofs.Common.{◌≡◌, ◌∷◌, List, sym, ap, subst, ◌∙◌, rules}
use Rattle.std.specs.declared.cmp.Ordering.TheVariants.{Less, Equal, Greater}
use Rattle.geo_poly.specs.declared.variables.Var.{Var}
use Rattle.geo_poly.specs.Replace.{row_of}
use Rattle.geo_poly.specs.Variables.{var_cmp}
use Rattle.geo_poly.proofs.Orders.{var_order}
use Rattle.elim_apply.specs.declared.numbered.NumberedRow.{NumberedRow}
use Rattle.elim_apply.specs.Inner.Sketches.{AreRising, sketches}
use Rattle.elim_apply.proofs.RisingRows.{behind_first, others_rise, row_missing}
use Rattle.elim_apply.proofs.known_rows.next_row.Goals as goal

pub loop-row-preserved : goal.loop-row-preserved
loop-row-preserved c =
    let left = c.loop-row.left.now in
    let r = c.in-Some.row.now in
    let others = c.in-Some.others.now in
    let first : c.loop-row.left.now ≡ c.in-Some.row.now ∷ c.in-Some.others.now = search rules in
    let before : var_cmp c.in-Some.row.now.var c.args.v ≡ Less = search rules in
    record {
      rising = others_rise left r others first c.loop-row.invariant.rising;
      here = behind_first left r others c.args.v first before ∙ c.loop-row.invariant.here;
      later = λ w later. behind_first left r others w first (var_order.trans r.var c.args.v w before later) ∙ c.loop-row.invariant.later w later;
    }

pub returns-in-Equal-clause-later : goal.returns-in-Equal-clause-later
returns-in-Equal-clause-later c =
    let first : c.loop-row.left.now ≡ c.in-Some.row.now ∷ c.in-Some.others.now = search rules in
    let same : var_cmp c.in-Some.row.now.var c.args.v ≡ Equal = search rules in
    let is = var_order.exact c.in-Some.row.now.var c.args.v same in
    λ w later.
    behind_first c.loop-row.left.now c.in-Some.row.now c.in-Some.others.now w first (ap (λ (u : Var). var_cmp u w) is ∙ later)
    ∙ c.loop-row.invariant.later w later

pub returns-in-Equal-clause-rising : goal.returns-in-Equal-clause-rising
returns-in-Equal-clause-rising c =
    let first : c.loop-row.left.now ≡ c.in-Some.row.now ∷ c.in-Some.others.now = search rules in
    others_rise c.loop-row.left.now c.in-Some.row.now c.in-Some.others.now first c.loop-row.invariant.rising

pub returns-in-Greater-clause-row : goal.returns-in-Greater-clause-row
returns-in-Greater-clause-row c =
    let first : c.loop-row.left.now ≡ c.in-Some.row.now ∷ c.in-Some.others.now = search rules in
    let after : var_cmp c.in-Some.row.now.var c.args.v ≡ Greater = search rules in
    let rising : AreRising (c.in-Some.row.now ∷ c.in-Some.others.now) = subst AreRising first c.loop-row.invariant.rising in
    sym (row_missing c.in-Some.row.now c.in-Some.others.now c.args.v rising after)
    ∙ ap (λ (rs : List NumberedRow). row_of (sketches rs) c.args.v) (sym first) ∙ c.loop-row.invariant.here
