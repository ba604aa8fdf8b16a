use Rattle.std.proofs.Common.{◌≡◌, ◌∙◌, List, Some, map, ap, ap₂, subst, sym, arith, rules}
use Rattle.geo_poly.specs.Counted.{replacement_products}
use Rattle.geo_poly.specs.declared.rows.Piece.{Piece}
use Rattle.geo_poly.specs.declared.rows.Row.{Row}
use Rattle.geo_poly.specs.PolynomialVariables.{variables_of}
use Rattle.geo_poly.specs.Replace.{AllBounded, IsBounded, most_denominators, replaced_by, replaced_degree, replaced_weight}
use Rattle.elim_apply.specs.LemmaTable.{lemma_table}
use Rattle.geo_logs.specs.Moves.{replacement}
use Rattle.elim_apply.proofs.MadeLines.{line_can_be_made, line_made, line_own}
use Rattle.elim_apply.proofs.NumberedRows.{denominator_bounded, rows_bounded}
use Rattle.elim_apply.proofs.applying.moved.Goals as goal

pub made_rows-requires-clause-rows : goal.made_rows-requires-clause-rows
made_rows-requires-clause-rows g c =
    line_can_be_made c.args.steps.now c.args.mv.now c.args.p.now c.args.rows.now c.requires.rows
    c.requires.points c.is_valid.ensures.valid c.requires.weight c.requires.degree

pub replace_within-requires-clause-rows : goal.replace_within-requires-clause-rows
replace_within-requires-clause-rows g c =
    let steps = c.args.steps.now in
    let mv = c.args.mv.now in
    let q = c.args.p.now in
    let made = replacement lemma_table steps mv q in
    let listed : c.deref.result.now ≡ c.in_ok-rows.rows = search rules in
    let rows : c.deref.result.now ≡ made.rows = line_made steps mv q c.args.rows.now c.requires.rows c.deref.result.now (ap (map Some) listed ∙ c.in_ok-rows.ensures.rows) in
    let den : c.in_ok-rows.den ≡ made.den = c.in_ok-rows.ensures.den in
    subst AllBounded (sym rows) (rows_bounded steps mv (variables_of q))

pub replace_within-requires-clause-den : goal.replace_within-requires-clause-den
replace_within-requires-clause-den g c =
    let steps = c.args.steps.now in
    let mv = c.args.mv.now in
    let q = c.args.p.now in
    let made = replacement lemma_table steps mv q in
    let listed : c.deref.result.now ≡ c.in_ok-rows.rows = search rules in
    let rows : c.deref.result.now ≡ made.rows = line_made steps mv q c.args.rows.now c.requires.rows c.deref.result.now (ap (map Some) listed ∙ c.in_ok-rows.ensures.rows) in
    let den : c.in_ok-rows.den ≡ made.den = c.in_ok-rows.ensures.den in
    subst IsBounded (sym den) (denominator_bounded steps mv)

pub replace_within-requires-clause-top : goal.replace_within-requires-clause-top
replace_within-requires-clause-top g c =
    let steps = c.args.steps.now in
    let mv = c.args.mv.now in
    let q = c.args.p.now in
    let made = replacement lemma_table steps mv q in
    let listed : c.deref.result.now ≡ c.in_ok-rows.rows = search rules in
    let rows : c.deref.result.now ≡ made.rows = line_made steps mv q c.args.rows.now c.requires.rows c.deref.result.now (ap (map Some) listed ∙ c.in_ok-rows.ensures.rows) in
    c.requires.top ∙ ap (λ (rs : List Row). most_denominators rs q) (sym rows)

pub replace_within-requires-clause-norm : goal.replace_within-requires-clause-norm
replace_within-requires-clause-norm g c =
    let steps = c.args.steps.now in
    let mv = c.args.mv.now in
    let q = c.args.p.now in
    let made = replacement lemma_table steps mv q in
    let listed : c.deref.result.now ≡ c.in_ok-rows.rows = search rules in
    let rows : c.deref.result.now ≡ made.rows = line_made steps mv q c.args.rows.now c.requires.rows c.deref.result.now (ap (map Some) listed ∙ c.in_ok-rows.ensures.rows) in
    let den : c.in_ok-rows.den ≡ made.den = c.in_ok-rows.ensures.den in
    let weight : replaced_weight c.deref.result.now c.in_ok-rows.den q ≡ replaced_weight made.rows made.den q =
    ap₂ (λ (rs : List Row) (d : Piece). replaced_weight rs d q) rows den in
    omega (arith, weight, c.requires.weight)

pub replace_within-requires-clause-degree : goal.replace_within-requires-clause-degree
replace_within-requires-clause-degree g c =
    let steps = c.args.steps.now in
    let mv = c.args.mv.now in
    let q = c.args.p.now in
    let made = replacement lemma_table steps mv q in
    let listed : c.deref.result.now ≡ c.in_ok-rows.rows = search rules in
    let rows : c.deref.result.now ≡ made.rows = line_made steps mv q c.args.rows.now c.requires.rows c.deref.result.now (ap (map Some) listed ∙ c.in_ok-rows.ensures.rows) in
    let den : c.in_ok-rows.den ≡ made.den = c.in_ok-rows.ensures.den in
    let degree : replaced_degree c.deref.result.now c.in_ok-rows.den q ≡ replaced_degree made.rows made.den q =
    ap₂ (λ (rs : List Row) (d : Piece). replaced_degree rs d q) rows den in
    omega (arith, degree, c.requires.degree)

pub returns-clause-moved : goal.returns-clause-moved
returns-clause-moved g c =
    let steps = c.args.steps.now in
    let mv = c.args.mv.now in
    let q = c.args.p.now in
    let made = replacement lemma_table steps mv q in
    let listed : c.deref.result.now ≡ c.in_ok-rows.rows = search rules in
    let rows : c.deref.result.now ≡ made.rows = line_made steps mv q c.args.rows.now c.requires.rows c.deref.result.now (ap (map Some) listed ∙ c.in_ok-rows.ensures.rows) in
    let den : c.in_ok-rows.den ≡ made.den = c.in_ok-rows.ensures.den in
    c.in_ok-moved.ensures.replaced ∙ ap₂ (λ (rs : List Row) (d : Piece). replaced_by rs d.poly q) rows den

pub returns-clause-known : goal.returns-clause-known
returns-clause-known g c =
    let steps = c.args.steps.now in
    let mv = c.args.mv.now in
    let q = c.args.p.now in
    let made = replacement lemma_table steps mv q in
    let listed : c.deref.result.now ≡ c.in_ok-rows.rows = search rules in
    let rows : c.deref.result.now ≡ made.rows = line_made steps mv q c.args.rows.now c.requires.rows c.deref.result.now (ap (map Some) listed ∙ c.in_ok-rows.ensures.rows) in
    let den : c.in_ok-rows.den ≡ made.den = c.in_ok-rows.ensures.den in
    c.put_back.ensures steps c.in_ok-rows.ensures.known (line_own steps mv q c.args.rows.now c.requires.rows c.in_ok-rows.rows (sym listed ∙ rows)) den

pub returns-clause-ticks : goal.returns-clause-ticks
returns-clause-ticks g c =
    let steps = c.args.steps.now in
    let mv = c.args.mv.now in
    let q = c.args.p.now in
    let made = replacement lemma_table steps mv q in
    let listed : c.deref.result.now ≡ c.in_ok-rows.rows = search rules in
    let rows : c.deref.result.now ≡ made.rows = line_made steps mv q c.args.rows.now c.requires.rows c.deref.result.now (ap (map Some) listed ∙ c.in_ok-rows.ensures.rows) in
    let den : c.in_ok-rows.den ≡ made.den = c.in_ok-rows.ensures.den in
    let products : replacement_products c.deref.result.now c.in_ok-rows.den q ≡ replacement_products made.rows made.den q =
    ap₂ (λ (rs : List Row) (d : Piece). replacement_products rs d q) rows den in
    omega (arith, c.in_ok-moved.ensures.ticks, products)

pub returns-in_err-moved-clause-ticks : goal.returns-in_err-moved-clause-ticks
returns-in_err-moved-clause-ticks g c =
    let steps = c.args.steps.now in
    let mv = c.args.mv.now in
    let q = c.args.p.now in
    let made = replacement lemma_table steps mv q in
    let listed : c.deref.result.now ≡ c.in_ok-rows.rows = search rules in
    let rows : c.deref.result.now ≡ made.rows = line_made steps mv q c.args.rows.now c.requires.rows c.deref.result.now (ap (map Some) listed ∙ c.in_ok-rows.ensures.rows) in
    let den : c.in_ok-rows.den ≡ made.den = c.in_ok-rows.ensures.den in
    let products : replacement_products c.deref.result.now c.in_ok-rows.den q ≡ replacement_products made.rows made.den q =
    ap₂ (λ (rs : List Row) (d : Piece). replacement_products rs d q) rows den in
    omega (arith, c.in_err-moved.ensures.ticks, products)
