use Rattle.std.proofs.Common.{Option, length, refl, sym, ap, subst, ◌∙◌, arith}
use Rattle.std.specs.Option.{option_map}
use Rattle.std.proofs.lemmas.Bool.{ltb-false, ltb-true}
use Rattle.std.proofs.lemmas.Option.{get_or_from_slice_get, slice_get_read, slice_get_within}
use Rattle.geo_poly.specs.declared.rows.Row.{Row}
use Rattle.geo_poly.specs.Replace.{row_of}
use Rattle.elim_apply.specs.Inner.Shares.{IsWithPower}
use Rattle.elim_apply.specs.Inner.Sketches.{sketched}
use Rattle.elim_apply.proofs.LineShares.{known_within, row_known}
use Rattle.elim_apply.proofs.shares.with_power.Goals as goal

pub returns-in_default : goal.returns-in_default
returns-in_default c = λ rows vars are at.
    let f = c.args.first.now in
    let past = ltb-false f.number (length c.args.known.now) (sym c.in_default.ensures.lookup.0) in
    absurd (omega (arith, past, known_within rows vars c.args.known.now are, slice_get_within vars f.number f.var at))

pub returns-in-Some-entry : goal.returns-in-Some-entry
returns-in-Some-entry c = λ rows vars are at.
    let f = c.args.first.now in
    let known = c.args.known.now in
    let read = c.in-Some.ensures.lookup in
    let entry = slice_get_read known (length known) f.number c.in-Some.entry.now refl (ltb-true f.number (length known) (sym read.0)) read.1 in
    let stands = get_or_from_slice_get vars f.number f.var f.var at in
    let row = ap (row_of rows) (sym stands) ∙ row_known rows vars known f.number c.in-Some.entry.now f.var are entry
    ∙ ap (option_map sketched) c.in-Some-entry.is in
    subst (λ (o : Option Row). IsWithPower o f.exponent c.args.share c.replacing.result) (sym row)
    (record {
      exponents = c.replacing.ensures.exponents;
      denominators-are = c.replacing.ensures.denominators;
      count = c.replacing.ensures.count;
      weight = c.replacing.ensures.weight;
      degree = c.replacing.ensures.degree;
    })

pub returns-in-None : goal.returns-in-None
returns-in-None c = λ rows vars are at.
    let f = c.args.first.now in
    let known = c.args.known.now in
    let read = c.in-Some.ensures.lookup in
    let entry = slice_get_read known (length known) f.number c.in-Some.entry.now refl (ltb-true f.number (length known) (sym read.0)) read.1 in
    let stands = get_or_from_slice_get vars f.number f.var f.var at in
    let row = ap (row_of rows) (sym stands) ∙ row_known rows vars known f.number c.in-Some.entry.now f.var are entry
    ∙ ap (option_map sketched) c.in-None.is in
    subst (λ (o : Option Row). IsWithPower o f.exponent c.args.share c.keeping-in-None.result) (sym row)
    (record {
      exponents = c.keeping-in-None.ensures.exponents;
      denominators-are = c.keeping-in-None.ensures.denominators;
      count = c.keeping-in-None.ensures.count;
      weight = c.keeping-in-None.ensures.weight;
      degree = c.keeping-in-None.ensures.degree;
    })
