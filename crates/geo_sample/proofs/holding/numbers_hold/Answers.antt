use Rattle.std.proofs.Common.{◌≡◌, ℕ, ◌+◌, ◌∷◌, ◌++◌, [], ℤ, pos, Err, List, length, ◌<◌, get_or, take, drop, sym, ap, subst, ◌∙◌, arith}
use Rattle.std.specs.Prelude.{◌↔◌, IsTrue}
use Rattle.std.proofs.lemmas.Bool.Decides.{nat_tests}
use Rattle.std.proofs.lemmas.Result.{err_from_is_err_and}
use Rattle.std.proofs.lemmas.List.{take_more, take-append-drop}
use Rattle.sparse_lists.proofs.Merging.{drop_at, get_or_any}
use Rattle.geo_poly.specs.declared.variables.Var.{Var}
use Rattle.geo_poly.specs.declared.variables.Var.TheVariants.{R}
use Rattle.geo_poly.specs.Polynomials.{Summands}
use Rattle.geo_poly.specs.Specialise.{NoneZero}
use Rattle.geo_sample.specs.declared.errors.SampleError.{SampleError}
use Rattle.geo_sample.specs.Tries.{AreMade, EndIn, all_specialised, single_tries}
use Rattle.geo_sample.specs.Samples.{specialised_by}
use Rattle.geo_sample.proofs.TryEnds.{AreMade-nil, handed_on, if_err}
use Rattle.geo_sample.proofs.LeastSamples.{no_value, short_values, single_try, more_single, stopped_single, specialised_by-append}
use Rattle.geo_sample.proofs.holding.numbers_hold.Goals as goal

abbrev none : Var × ℤ
none = (R (record { 0 = 0 }) (record { 0 = 0 }) (record { 0 = 0 }) (record { 0 = 0 }), pos 0)

parts : (xs : List (Var × ℤ)) (i : ℕ) → i < length xs → take i xs ++ get_or xs i none ∷ drop (i + 1) xs ≡ xs
parts xs i lt = ap (λ (ys : List (Var × ℤ)). take i xs ++ ys) (sym (drop_at xs i (get_or xs i none) lt (get_or_any xs i none (get_or xs i none) lt))) ∙ take-append-drop i xs

pub returns-then-is_empty-clause-hold : goal.returns-then-is_empty-clause-hold
returns-then-is_empty-clause-hold g c =
    let none_long : length c.args.values.now ≡ 0 = grind (arith, nat_tests, c.if-is_empty.ensures) in
    let none = no_value c.args.values.now none_long in
    subst (λ (xs : List (Var × ℤ)). IsTrue c.none_zero.result ↔ NoneZero (specialised_by xs c.args.polys.now)) (sym none) c.none_zero.ensures

pub returns-then-is_empty-clause-made : goal.returns-then-is_empty-clause-made
returns-then-is_empty-clause-made g c =
    let left = c.args.budget.now.left in
    let none_long : length c.args.values.now ≡ 0 = grind (arith, nat_tests, c.if-is_empty.ensures) in
    let none = no_value c.args.values.now none_long in
    subst (λ (xs : List (Var × ℤ)). AreMade left (single_tries xs c.args.polys.now) left) (sym none) (AreMade-nil left)

pub returns-in_err-affordable_at_first-clause-stopped : goal.returns-in_err-affordable_at_first-clause-stopped
returns-in_err-affordable_at_first-clause-stopped g c =
    let xs = c.args.values.now in
    let ps = c.args.polys.now in
    let left = c.args.budget.now.left in
    let p = err_from_is_err_and c.from_residual.result c.from_residual.ensures.1 in
    let spent = c.in_err-affordable_at_first.ensures.spent in
    let some : 0 < length c.args.values.now = grind (arith, nat_tests, c.if-is_empty.ensures) in
    if_err _ c.from_residual.result c.in_err-affordable_at_first.field-0.0 p.0 p.1 p.2
    (subst (λ (e : SampleError). EndIn e left (single_tries xs ps) left) (sym spent.0) (short_values xs ps left some spent.1))

pub returns-in_err-put_value-clause-stopped : goal.returns-in_err-put_value-clause-stopped
returns-in_err-put_value-clause-stopped g c =
    let xs = c.args.values.now in
    let ps = c.args.polys.now in
    let i = c.loop-value.value-index in
    let x = get_or xs i none in
    let e = c.in_err-put_value.field-0.0 in
    let left = c.args.budget.now.left in
    let mid = c.loop-value.budget.left in
    let rest = c.put_value.new.budget.left in
    let p = err_from_is_err_and c.from_residual-in_err-put_value.result c.from_residual-in_err-put_value.ensures.1 in
    let stop = subst (λ (qs : List Summands). EndIn e mid (single_try x qs ∷ []) rest) c.loop-value.invariant.current c.in_err-put_value.ensures.stopped in
    if_err _ c.from_residual-in_err-put_value.result e p.0 p.1 p.2
    (subst (λ (ys : List (Var × ℤ)). EndIn e left (single_tries ys ps) rest) (parts xs i c.loop-value-test.true)
    (stopped_single e x ps (take i xs) (drop (i + 1) xs) left mid rest c.loop-value.invariant.made stop))

pub loop-value-preserved : goal.loop-value-preserved
loop-value-preserved g c =
    let xs = c.args.values.now in
    let ps = c.args.polys.now in
    let i = c.loop-value.value-index in
    let x = get_or xs i none in
    let left = c.args.budget.now.left in
    let mid = c.loop-value.budget.left in
    let rest = c.put_value.new.budget.left in
    let more : take (i + 1) xs ≡ take i xs ++ x ∷ [] = take_more xs i none c.loop-value-test.true in
    let before = c.loop-value.invariant.current in
    let made = subst (λ (qs : List Summands). AreMade mid (single_try x qs ∷ []) rest) before c.in_ok-put_value.ensures.made in
    let next = c.in_ok-put_value.ensures.put ∙ ap (all_specialised x.0 x.1) before in
    record {
      current = next ∙ sym (ap (λ (ys : List (Var × ℤ)). specialised_by ys ps) more ∙ specialised_by-append (take i xs) (x ∷ []) ps);
      made =
          subst (λ (ys : List (Var × ℤ)). AreMade left (single_tries ys ps) rest) (sym more)
          (more_single x ps (take i xs) left mid rest c.loop-value.invariant.made made);
      counted = omega (arith, c.in_ok-put_value.ensures.counted, c.loop-value.invariant.counted);
    }

pub returns-in_err-put_value-clause-ticks : goal.returns-in_err-put_value-clause-ticks
returns-in_err-put_value-clause-ticks g c = omega (arith, c.in_err-put_value.ensures.afforded, c.loop-value.invariant.counted)

pub returns-in_err-put_value-clause-unworked : goal.returns-in_err-put_value-clause-unworked
returns-in_err-put_value-clause-unworked g c =
    λ e h n.
    let same = c.in_err-put_value.ensures.unworked e (ap Err (handed_on c.from_residual-in_err-put_value.result c.in_err-put_value.field-0.0 e
    c.from_residual-in_err-put_value.ensures.1 h)) n in
    omega (arith, same, ap (λ b. b.left) c.in_err-put_value.ensures.unpaid, c.loop-value.invariant.counted)

pub returns-clause-ticks : goal.returns-clause-ticks
returns-clause-ticks g c = omega (arith, c.loop-value.invariant.counted)
