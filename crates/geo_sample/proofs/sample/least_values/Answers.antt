use Rattle.std.proofs.Common.{◌≡◌, ℕ, ◌+◌, ◌*◌, ◌<◌, ◌≤◌, ◌^◌, ◌∷◌, ◌++◌, [], ℤ, pos, Err, List, suc, All, unsigned_abs, length, sum_by, get_or, take, drop, sym, ap, subst, ◌∙◌, arith}
use Rattle.std.proofs.lemmas.Bool.Decides.{nat_tests}
use Rattle.std.proofs.lemmas.Result.{err_from_is_err_and}
use Rattle.std.proofs.lemmas.List.{take_more, take-append-drop}
use Rattle.std.proofs.lemmas.List.Elements.{All-push}
use Rattle.sparse_lists.proofs.Merging.{drop_at, get_or_any}
use Rattle.geo_poly.specs.declared.variables.Var.{Var}
use Rattle.geo_poly.specs.declared.variables.Var.TheVariants.{R}
use Rattle.geo_poly.specs.Polynomials.{Summands}
use Rattle.geo_poly.specs.Specialise.{IsCollected, NoneZero, degree_in}
use Rattle.geo_sample.specs.declared.errors.SampleError.{SampleError}
use Rattle.geo_sample.specs.declared.errors.SampleError.TheVariants.{NoMemory}
use Rattle.geo_sample.specs.Tries.{AreMade, EndIn, all_specialised, search_tries, tries_below}
use Rattle.geo_sample.specs.Samples.{IsLeastValue, IsLeastSample, specialised_by, SearchEndsIn}
use Rattle.geo_sample.proofs.TryEnds.{AreMade-nil, handed_on, if_err}
use Rattle.geo_sample.proofs.LeastSamples.{empty_sample, nothing_searched, short_search, collected_polynomials, collected_by, low_degrees}
use Rattle.geo_sample.proofs.LeastSamples.{stopped_search, value_lost, more_sample, more_tries, specialised_by-append}
use Rattle.geo_sample.proofs.sample.least_values.Goals as goal

abbrev none : Var
none = R (record { 0 = 0 }) (record { 0 = 0 }) (record { 0 = 0 }) (record { 0 = 0 })

parts : (vs : List Var) (i : ℕ) → i < length vs → take i vs ++ get_or vs i none ∷ drop (i + 1) vs ≡ vs
parts vs i lt = ap (λ (ws : List Var). take i vs ++ ws) (sym (drop_at vs i (get_or vs i none) lt (get_or_any vs i none (get_or vs i none) lt))) ∙ take-append-drop i vs

pub returns-then-is_empty-clause-least : goal.returns-then-is_empty-clause-least
returns-then-is_empty-clause-least g c =
    let vs = c.args.vars.now in
    let ps = c.args.polys.now in
    let none_long : length c.args.vars.now ≡ 0 = grind (arith, nat_tests, c.if-is_empty.ensures) in
    subst (λ (xs : List (Var × ℤ)). IsLeastSample vs ps xs) (sym c.new-values.ensures.items) (empty_sample vs ps none_long)

pub returns-then-is_empty-clause-made : goal.returns-then-is_empty-clause-made
returns-then-is_empty-clause-made g c =
    let left = c.args.budget.now.left in
    subst (λ (xs : List (Var × ℤ)). AreMade left (search_tries xs c.args.polys.now) left) (sym c.new-values.ensures.items) (AreMade-nil left)

pub returns-in_err-affordable_at_first-clause-stopped : goal.returns-in_err-affordable_at_first-clause-stopped
returns-in_err-affordable_at_first-clause-stopped g c =
    let vs = c.args.vars.now in
    let ps = c.args.polys.now in
    let left = c.args.budget.now.left in
    let p = err_from_is_err_and c.from_residual.result c.from_residual.ensures.1 in
    let spent = c.in_err-affordable_at_first.ensures.spent in
    let some : 0 < length c.args.vars.now = grind (arith, nat_tests, c.if-is_empty.ensures) in
    if_err _ c.from_residual.result c.in_err-affordable_at_first.field-0.0 p.0 p.1 p.2
    (subst (λ (e : SampleError). SearchEndsIn e vs ps left left) (sym spent.0) (short_search vs ps left (collected_polynomials ps c.are_valid.ensures.valid) c.requires some spent.1))

pub returns-in_err-current-clause-stopped : goal.returns-in_err-current-clause-stopped
returns-in_err-current-clause-stopped g c =
    let p = err_from_is_err_and c.from_residual-in_err-current.result c.from_residual-in_err-current.ensures.1 in
    if_err _ c.from_residual-in_err-current.result _ p.0 p.1 p.2
    (nothing_searched c.args.vars.now c.args.polys.now c.args.budget.now.left
    (collected_polynomials c.args.polys.now c.are_valid.ensures.valid) c.requires)

pub put_least_value-requires-clause-collected : goal.put_least_value-requires-clause-collected
put_least_value-requires-clause-collected g c =
    subst (All IsCollected) (sym c.loop-v.invariant.current) (collected_by c.loop-v.values.items c.args.polys.now (collected_polynomials c.args.polys.now c.are_valid.ensures.valid))

pub put_least_value-requires-clause-low : goal.put_least_value-requires-clause-low
put_least_value-requires-clause-low g c =
    let v = get_or c.args.vars.now c.loop-v.v-index none in
    subst (λ (ps : List Summands). sum_by (degree_in v) ps ≤ 65535 * length ps) (sym c.loop-v.invariant.current)
    (low_degrees v c.loop-v.values.items c.args.polys.now c.are_valid.ensures.valid)

pub returns-in_err-value-clause-stopped : goal.returns-in_err-value-clause-stopped
returns-in_err-value-clause-stopped g c =
    let vs = c.args.vars.now in
    let ps = c.args.polys.now in
    let i = c.loop-v.v-index in
    let v = get_or vs i none in
    let xs = c.loop-v.values.items in
    let e = c.in_err-value.field-0.0 in
    let left = c.args.budget.now.left in
    let mid = c.loop-v.budget.left in
    let rest = c.put_least_value.new.budget.left in
    let p = err_from_is_err_and c.from_residual-in_err-value.result c.from_residual-in_err-value.ensures.1 in
    let stop =
    subst (λ (qs : List Summands). (k : ℕ) × IsLeastValue v qs (pos k) × EndIn e mid (tries_below (suc k) v qs) rest) c.loop-v.invariant.current c.in_err-value.ensures.stopped in
    if_err _ c.from_residual-in_err-value.result e p.0 p.1 p.2
    (subst (λ (ws : List Var). SearchEndsIn e ws ps left rest) (parts vs i c.loop-v-test.true)
    (stopped_search e (take i vs) (drop (i + 1) vs) v ps xs left mid rest (collected_polynomials ps c.are_valid.ensures.valid) c.loop-v.invariant.least c.loop-v.invariant.made stop))

pub returns-in_err-push-clause-stopped : goal.returns-in_err-push-clause-stopped
returns-in_err-push-clause-stopped g c =
    let vs = c.args.vars.now in
    let ps = c.args.polys.now in
    let i = c.loop-v.v-index in
    let v = get_or vs i none in
    let xs = c.loop-v.values.items in
    let k = c.in_ok-value.value in
    let left = c.args.budget.now.left in
    let mid = c.loop-v.budget.left in
    let rest = c.put_least_value.new.budget.left in
    let p = err_from_is_err_and c.from_residual-in_err-push.result c.from_residual-in_err-push.ensures.1 in
    let before = c.loop-v.invariant.current in
    let value = subst (λ (qs : List Summands). IsLeastValue v qs (pos k)) before c.in_ok-value.ensures.least in
    let made = subst (λ (qs : List Summands). AreMade mid (tries_below (suc k) v qs) rest) before c.in_ok-value.ensures.made in
    if_err _ c.from_residual-in_err-push.result NoMemory p.0 p.1 p.2
    (subst (λ (ws : List Var). SearchEndsIn NoMemory ws ps left rest) (parts vs i c.loop-v-test.true)
    (stopped_search NoMemory (take i vs) (drop (i + 1) vs) v ps xs left mid rest (collected_polynomials ps c.are_valid.ensures.valid) c.loop-v.invariant.least c.loop-v.invariant.made
    (value_lost v (specialised_by xs ps) k mid rest value made)))

pub loop-v-preserved : goal.loop-v-preserved
loop-v-preserved g c =
    let vs = c.args.vars.now in
    let ps = c.args.polys.now in
    let i = c.loop-v.v-index in
    let v = get_or vs i none in
    let xs = c.loop-v.values.items in
    let k = c.in_ok-value.value in
    let left = c.args.budget.now.left in
    let mid = c.loop-v.budget.left in
    let rest = c.put_least_value.new.budget.left in
    let before = c.loop-v.invariant.current in
    let value = subst (λ (qs : List Summands). IsLeastValue v qs (pos k)) before c.in_ok-value.ensures.least in
    let made = subst (λ (qs : List Summands). AreMade mid (tries_below (suc k) v qs) rest) before c.in_ok-value.ensures.made in
    let items : c.push.new.self.items ≡ xs ++ (v, pos k) ∷ [] = c.in_ok-push.ensures.items ∙ ap (λ (x : Var × ℤ). xs ++ x ∷ []) c.pair.ensures in
    let more : take (i + 1) vs ≡ take i vs ++ v ∷ [] = take_more vs i none c.loop-v-test.true in
    let next = c.in_ok-value.ensures.put ∙ ap (all_specialised v (pos k)) before in
    record {
      current = next ∙ sym (ap (λ (ys : List (Var × ℤ)). specialised_by ys ps) items ∙ specialised_by-append xs ((v, pos k) ∷ []) ps);
      keeps = subst NoneZero (sym next) value.keeps;
      least =
          subst (λ (ys : List (Var × ℤ)). IsLeastSample (take (i + 1) vs) ps ys) (sym items)
          (subst (λ (ws : List Var). IsLeastSample ws ps (xs ++ (v, pos k) ∷ [])) (sym more) (more_sample (take i vs) v ps xs k c.loop-v.invariant.least value));
      fits =
          subst (All (λ (x : Var × ℤ). unsigned_abs x.1 < 2 ^ 127)) (sym items)
          (All-push (λ (x : Var × ℤ). unsigned_abs x.1 < 2 ^ 127) xs (v, pos k) c.loop-v.invariant.fits c.in_ok-value.ensures.fits);
      made = subst (λ (ys : List (Var × ℤ)). AreMade left (search_tries ys ps) rest) (sym items) (more_tries v ps xs k left mid rest c.loop-v.invariant.made made);
      counted = omega (arith, c.in_ok-value.ensures.counted, c.loop-v.invariant.counted);
    }

pub returns-in_err-value-clause-ticks : goal.returns-in_err-value-clause-ticks
returns-in_err-value-clause-ticks g c = omega (arith, c.in_err-value.ensures.ticks, c.loop-v.invariant.counted)

pub returns-in_err-value-clause-unworked : goal.returns-in_err-value-clause-unworked
returns-in_err-value-clause-unworked g c =
    λ e h n.
    let before = c.in_err-value.ensures.unworked e (ap Err (handed_on c.from_residual-in_err-value.result c.in_err-value.field-0.0 e
    c.from_residual-in_err-value.ensures.1 h)) n in
    omega (arith, before, c.loop-v.invariant.counted)

pub returns-in_err-push-clause-ticks : goal.returns-in_err-push-clause-ticks
returns-in_err-push-clause-ticks g c = omega (arith, c.in_ok-value.ensures.counted, c.loop-v.invariant.counted)

pub returns-clause-ticks : goal.returns-clause-ticks
returns-clause-ticks g c = omega (arith, c.loop-v.invariant.counted)
