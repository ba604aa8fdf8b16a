use Rattle.std.proofs.Common.{◌≡◌, ltb, List, length, map, sym, ap, ap₂, subst, ◌∙◌, arith}
use Rattle.std.specs.Prelude.{IfOk}
use Rattle.std.specs.List.Sorted.{IsStrictlySortedBy}
use Rattle.std.proofs.lemmas.List.{length-map}
use Rattle.sparse_lists.specs.SparseLists.{AllKeys}
use Rattle.mono_store.specs.Words.{Limits}
use Rattle.mono_store.proofs.WithoutEmpty.{above_zero}
use Rattle.geo_poly.specs.declared.variables.Var.{Var}
use Rattle.geo_poly.specs.Inner.Keyed.{IsIndexUnder, terms_under}
use Rattle.geo_poly.specs.Inner.Visits.{marked}
use Rattle.geo_poly.specs.Inner.Words.{word_keys}
use Rattle.geo_poly.specs.Polynomials.{IsPolynomial, Summands}
use Rattle.geo_poly.specs.Variables.{var_cmp}
use Rattle.geo_poly.proofs.MarkedVariables.{marked_rise}
use Rattle.geo_poly.proofs.NarrowWords.{narrow, narrow_keys, narrow_terms}
use Rattle.geo_poly.proofs.poly.Poly.of_words.Goals as goal

pub marked_variables-requires : goal.marked_variables-requires
marked_variables-requires c =
    let same : length c.args.vars ≡ length c.args.words = omega (arith, c.if-count-as_slice.false, c.count.ensures.count, ap length c.as_slice.ensures) in
    ap length (c.as_slice-3.ensures.value ∙ c.in_ok-known.ensures) ∙ length-map c.args.words (ltb 0) ∙ sym same ∙ sym (ap length c.as_slice-2.ensures)

pub over_words-requires-2-clause-rising : goal.over_words-requires-2-clause-rising
over_words-requires-2-clause-rising c =
    let items : c.in_ok-items.items.items ≡ narrow c.args.vars c.args.words =
    c.in_ok-items.ensures ∙ ap₂ marked c.as_slice-2.ensures (c.as_slice-3.ensures.value ∙ c.in_ok-known.ensures) in
    subst (IsStrictlySortedBy var_cmp) (sym items) (marked_rise c.args.vars (map (ltb 0) c.args.words) c.requires.rising)

pub over_words-requires-2-clause-indices : goal.over_words-requires-2-clause-indices
over_words-requires-2-clause-indices c =
    let vars = c.args.vars in
    let limits = c.args.words in
    let list = c.args.list.items in
    let same : length vars ≡ length limits = omega (arith, c.if-count-as_slice.false, c.count.ensures.count, ap length c.as_slice.ensures) in
    let items : c.in_ok-items.items.items ≡ narrow vars limits =
    c.in_ok-items.ensures ∙ ap₂ marked c.as_slice-2.ensures (c.as_slice-3.ensures.value ∙ c.in_ok-known.ensures) in
    subst (λ (ds : Limits). AllKeys (IsIndexUnder c.in_ok-items.items.items (word_keys ds)) list) (sym c.in_ok-kept.ensures)
    (subst (λ (vs : List Var). AllKeys (IsIndexUnder vs (word_keys (above_zero limits))) list) (sym items)
    (narrow_keys vars limits same list c.requires.indices))

pub over_words-requires-2-clause-polynomial : goal.over_words-requires-2-clause-polynomial
over_words-requires-2-clause-polynomial c =
    let vars = c.args.vars in
    let limits = c.args.words in
    let list = c.args.list.items in
    let same : length vars ≡ length limits = omega (arith, c.if-count-as_slice.false, c.count.ensures.count, ap length c.as_slice.ensures) in
    let items : c.in_ok-items.items.items ≡ narrow vars limits =
    c.in_ok-items.ensures ∙ ap₂ marked c.as_slice-2.ensures (c.as_slice-3.ensures.value ∙ c.in_ok-known.ensures) in
    let terms = ap₂ (λ (vs : List Var) (ds : Limits). terms_under vs (word_keys ds) list) items c.in_ok-kept.ensures in
    subst IsPolynomial (sym (terms ∙ narrow_terms vars limits same list)) c.requires.polynomial

pub returns : goal.returns
returns c =
    let vars = c.args.vars in
    let limits = c.args.words in
    let list = c.args.list.items in
    let same : length vars ≡ length limits = omega (arith, c.if-count-as_slice.false, c.count.ensures.count, ap length c.as_slice.ensures) in
    let items : c.in_ok-items.items.items ≡ narrow vars limits =
    c.in_ok-items.ensures ∙ ap₂ marked c.as_slice-2.ensures (c.as_slice-3.ensures.value ∙ c.in_ok-known.ensures) in
    let terms = ap₂ (λ (vs : List Var) (ds : Limits). terms_under vs (word_keys ds) list) items c.in_ok-kept.ensures in
    subst (λ (q : Summands). IfOk c.over_words-2.result (λ p. p ≡ q)) (terms ∙ narrow_terms vars limits same list) c.over_words-2.ensures
