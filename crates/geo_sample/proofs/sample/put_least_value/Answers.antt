use Rattle.std.proofs.Common.{ℕ, pos, Err, List, ◌∷◌, [], refl, sym, ap, subst, ◌∙◌, arith, add-one}
use Rattle.std.proofs.lemmas.Result.{err_from_is_err_and}
use Rattle.std.proofs.lemmas.Bool.{false≢true}
use Rattle.geo_poly.specs.Polynomials.{Summands}
use Rattle.geo_poly.specs.Specialise.{NoneZero}
use Rattle.geo_sample.specs.Tries.{AreMade, EndIn, all_specialised, tries_below}
use Rattle.geo_sample.proofs.TryEnds.{AreMade-append, handed_on, if_err}
use Rattle.geo_sample.proofs.LeastSamples.{a_try, stopped_at, one_more_lost, lost-le}
use Rattle.geo_sample.proofs.sample.put_least_value.Goals as goal

pub try_natural-requires-clause-nonzero : goal.try_natural-requires-clause-nonzero
try_natural-requires-clause-nonzero g c = subst NoneZero (sym c.loop-keeps.invariant.same) c.requires.nonzero

pub try_natural-requires-clause-fits : goal.try_natural-requires-clause-fits
try_natural-requires-clause-fits g c =
    omega (
      arith,
      lost-le c.args.v c.args.polys.now.items c.loop-keeps.k c.requires.collected c.requires.nonzero c.loop-keeps.invariant.lost,
      c.requires.low,
      c.requires.few,
    )

pub returns-then-keeps-clause-fits : goal.returns-then-keeps-clause-fits
returns-then-keeps-clause-fits g c =
    omega (
      arith,
      lost-le c.args.v c.args.polys.now.items c.loop-keeps.k c.requires.collected c.requires.nonzero c.loop-keeps.invariant.lost,
      c.requires.low,
      c.requires.few,
    )

pub overflow_add-k : goal.overflow_add-k
overflow_add-k g c =
    omega (
      arith,
      lost-le c.args.v c.args.polys.now.items c.loop-keeps.k c.requires.collected c.requires.nonzero c.loop-keeps.invariant.lost,
      c.requires.low,
      c.requires.few,
    )

pub returns-in_err-keeps-clause-stopped : goal.returns-in_err-keeps-clause-stopped
returns-in_err-keeps-clause-stopped g c =
    let v = c.args.v in
    let k = c.loop-keeps.k in
    let e = c.in_err-keeps.field-0.0 in
    let mid = c.loop-keeps.budget.left in
    let rest = c.try_natural.new.budget.left in
    let p = err_from_is_err_and c.from_residual.result c.from_residual.ensures.1 in
    let stop = subst (λ (ps : List Summands). EndIn e mid (a_try v ps k ∷ []) rest) c.loop-keeps.invariant.same c.in_err-keeps.ensures.stopped in
    if_err _ c.from_residual.result e p.0 p.1 p.2
    (stopped_at e v c.args.polys.now.items k c.args.budget.now.left mid rest
    c.requires.collected c.requires.nonzero c.loop-keeps.invariant.lost c.loop-keeps.invariant.made stop)

pub returns-then-keeps-clause-least : goal.returns-then-keeps-clause-least
returns-then-keeps-clause-least g c = record {
  natural = refl;
  keeps =
      subst (λ (ps : List Summands). NoneZero (all_specialised c.args.v (pos c.loop-keeps.k) ps)) c.loop-keeps.invariant.same
      (c.in_ok-keeps.ensures.keeps.0 c.if-keeps.true);
  least = c.loop-keeps.invariant.lost;
}

pub returns-then-keeps-clause-put : goal.returns-then-keeps-clause-put
returns-then-keeps-clause-put g c =
    c.in_ok-keeps.ensures.put c.if-keeps.true ∙ ap (all_specialised c.args.v (pos c.loop-keeps.k)) c.loop-keeps.invariant.same

pub returns-then-keeps-clause-made : goal.returns-then-keeps-clause-made
returns-then-keeps-clause-made g c =
    let v = c.args.v in
    let ps = c.args.polys.now.items in
    let k = c.loop-keeps.k in
    let mid = c.loop-keeps.budget.left in
    let rest = c.try_natural.new.budget.left in
    let one = subst (λ (qs : List Summands). AreMade mid (a_try v qs k ∷ []) rest) c.loop-keeps.invariant.same c.in_ok-keeps.ensures.made in
    AreMade-append c.args.budget.now.left mid rest (tries_below k v ps) (a_try v ps k ∷ []) c.loop-keeps.invariant.made one

pub loop-keeps-smaller : goal.loop-keeps-smaller
loop-keeps-smaller g c =
    omega (arith, lost-le c.args.v c.args.polys.now.items c.loop-keeps.k c.requires.collected c.requires.nonzero c.loop-keeps.invariant.lost)

pub loop-keeps-preserved : goal.loop-keeps-preserved
loop-keeps-preserved g c =
    let k = c.loop-keeps.k in
    let v = c.args.v in
    let ps = c.args.polys.now.items in
    let left = c.args.budget.now.left in
    let mid = c.loop-keeps.budget.left in
    let rest = c.try_natural.new.budget.left in
    let same = c.loop-keeps.invariant.same in
    let gone : NoneZero (all_specialised c.args.v (pos c.loop-keeps.k) c.loop-keeps.polys.items) → ⊥ = λ h. false≢true (sym c.if-keeps.false ∙ c.in_ok-keeps.ensures.keeps.1 h) in
    let here = subst (λ (qs : List Summands). NoneZero (all_specialised v (pos k) qs) → ⊥) same gone in
    let one = subst (λ (qs : List Summands). AreMade mid (a_try v qs k ∷ []) rest) same c.in_ok-keeps.ensures.made in
    record {
      same = c.in_ok-keeps.ensures.kept c.if-keeps.false ∙ same;
      lost = λ j lt keeps. one_more_lost v ps k c.loop-keeps.invariant.lost here j (omega (arith, lt)) keeps;
      made =
          subst (λ (n : ℕ). AreMade left (tries_below n v ps) rest) (sym (add-one k))
          (AreMade-append left mid rest (tries_below k v ps) (a_try v ps k ∷ []) c.loop-keeps.invariant.made one);
      counted = omega (arith, c.in_ok-keeps.ensures.counted, c.loop-keeps.invariant.counted);
    }

pub returns-in_err-keeps-clause-ticks : goal.returns-in_err-keeps-clause-ticks
returns-in_err-keeps-clause-ticks g c = omega (arith, c.in_err-keeps.ensures.afforded, c.loop-keeps.invariant.counted)

pub returns-in_err-keeps-clause-unworked : goal.returns-in_err-keeps-clause-unworked
returns-in_err-keeps-clause-unworked g c =
    λ e h n.
    let same = c.in_err-keeps.ensures.unworked e (ap Err (handed_on c.from_residual.result c.in_err-keeps.field-0.0 e c.from_residual.ensures.1 h)) n in
    omega (arith, same, ap (λ b. b.left) c.in_err-keeps.ensures.unpaid, c.loop-keeps.invariant.counted)

pub returns-then-keeps-clause-ticks : goal.returns-then-keeps-clause-ticks
returns-then-keeps-clause-ticks g c = omega (arith, c.in_ok-keeps.ensures.counted, c.loop-keeps.invariant.counted)

pub returns-then-keeps-clause-counted : goal.returns-then-keeps-clause-counted
returns-then-keeps-clause-counted g c = omega (arith, c.in_ok-keeps.ensures.counted, c.loop-keeps.invariant.counted)
