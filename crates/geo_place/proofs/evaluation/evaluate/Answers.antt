use Rattle.std.proofs.Common.{rules, ◌≡◌, ◌-◌, ◌*◌, ◌<◌, ◌≤◌, ℕ, List, All, pos, length, arith, sym, ◌∙◌, ap, subst}
use Rattle.std.specs.Prelude.{Ok, Err, Some, slice_get, slice_index_or, take, drop}
use Rattle.std.specs.List.{AllByRecursion, filter}
use Rattle.ring_laws.specs.Fraction.{whole}
use Rattle.frac_laws.specs.Numbers.{IsNumber}
use Rattle.geo_terms.specs.Stores.{Store}
use Rattle.geo_program.specs.declared.commands.Command.{Command}
use Rattle.geo_program.specs.declared.commands.Command.TheVariants as command
use Rattle.geo_program.specs.WellFormed.{Source}
use Rattle.geo_conditions.specs.declared.items.Item.{Item}
use Rattle.geo_conditions.specs.declared.problem.Problem.{Problem}
use Rattle.geo_conditions.specs.Truth.{is_free}
use Rattle.geo_place.specs.Inner.{EndsWith, FirstFails, GoalsCome, IsItemMet, IsTaken}
use Rattle.geo_place.proofs.EndTurns.{ends_with}
use Rattle.geo_place.proofs.Finishing.{all_end, stated_fail, told_all}
use Rattle.geo_place.proofs.ItemTests.{passed_on}
use Rattle.std.proofs.lemmas.List.{length-drop}
use Rattle.geo_place.proofs.ListParts.{all_left, left_all, some_at}
use Rattle.geo_place.proofs.NextPoints.{all_items}
use Rattle.geo_place.proofs.Starting.{first_taken, frees_fit}
use Rattle.geo_place.proofs.evaluation.evaluate.Goals as goal

pub new-requires-clause-free : goal.new-requires-clause-free
new-requires-clause-free g c =
    let Q = c.args.problem.now in
    let V = c.args.values.now in
    let h = c.requires.0 in
    let commands_are : c.as_slice-commands.result.now ≡ g.run.program.commands = c.as_slice-commands.ensures ∙ ap (λ (p : Source). p.commands) c.requires.1.1 in
    let frees : c.free_points.result ≡ length (filter is_free g.run.program.commands) = c.free_points.ensures ∙ ap (λ (cs : List Command). length (filter is_free cs)) commands_are in
    let fit = frees_fit g.run Q V h in
    omega (arith, frees, fit)

pub loop-k-init : goal.loop-k-init
loop-k-init g c =
    let Q = c.args.problem.now in
    let V = c.args.values.now in
    let h = c.requires.0 in
    let commands_are : c.as_slice-commands.result.now ≡ g.run.program.commands = c.as_slice-commands.ensures ∙ ap (λ (p : Source). p.commands) c.requires.1.1 in
    let frees : c.free_points.result ≡ length (filter is_free g.run.program.commands) = c.free_points.ensures ∙ ap (λ (cs : List Command). length (filter is_free cs)) commands_are in
    let new = c.in_ok-progress in
    let behind = ap (λ (n : ℕ). drop (2 * n) V) frees in
    let long = ap (λ (zs : List _). length zs) behind in
    first_taken g.run Q V h new.progress new.ensures.points new.ensures.free
    (λ k r e. subst (λ zs. IsNumber r (whole (slice_index_or zs k (pos 0)))) behind (new.ensures.numbers k r e)) (new.ensures.length ∙ long) new.ensures.tested new.ensures.triples

pub take_command-requires : goal.take_command-requires
take_command-requires g c =
    let Q = c.args.problem.now in
    let V = c.args.values.now in
    let h = c.requires.0 in
    let commands_are : c.as_slice-commands.result.now ≡ g.run.program.commands = c.as_slice-commands.ensures ∙ ap (λ (p : Source). p.commands) c.requires.1.1 in
    let here = some_at c.as_slice-commands.result.now c.loop-k.k command.Point c.loop-k-test.true in
    (h, (c.loop-k.invariant, subst (λ (cs : List Command). slice_get cs c.loop-k.k ≡ Some (slice_index_or c.as_slice-commands.result.now c.loop-k.k command.Point)) commands_are here))

pub returns-in_err-take_command-clause-stopped : goal.returns-in_err-take_command-clause-stopped
returns-in_err-take_command-clause-stopped g c =
    let e = c.in_err-take_command.field-0.0 in
    passed_on c.from_residual-in_err-take_command.result e (EndsWith g.run) c.from_residual-in_err-take_command.ensures.1 (ends_with g.run e c.in_err-take_command.ensures.stops)

pub offset_bounds-items-tested : goal.offset_bounds-items-tested
offset_bounds-items-tested g c =
    let Q = c.args.problem.now in
    let V = c.args.values.now in
    let h = c.requires.0 in
    let commands_are : c.as_slice-commands.result.now ≡ g.run.program.commands = c.as_slice-commands.ensures ∙ ap (λ (p : Source). p.commands) c.requires.1.1 in
    let long = ap (λ (cs : List Command). length cs) commands_are in
    let last : c.loop-k.k ≡ length g.run.program.commands = omega (arith, c.loop-k-test.false, c.loop-k.auto.k-end, long) in
    let t = subst (λ (i : ℕ). IsTaken g.run i c.loop-k.progress) last c.loop-k.invariant in
    let items = c.as_slice-items.result.now in
    let same : items ≡ Q.conditions = c.as_slice-items.ensures.value ∙ ap (λ (q : Problem). q.conditions) c.problem.view_is in
    let few : c.loop-k.progress.tested ≤ length items =
    let a = t.tested in let b = all_items g.run Q V h in let d = ap (λ (is : List Item). length is) same in omega (arith, a, b, d) in
    search rules

pub slice_bounds-test_conditions-count : goal.slice_bounds-test_conditions-count
slice_bounds-test_conditions-count g c =
    let Q = c.args.problem.now in
    let V = c.args.values.now in
    let h = c.requires.0 in
    let commands_are : c.as_slice-commands.result.now ≡ g.run.program.commands = c.as_slice-commands.ensures ∙ ap (λ (p : Source). p.commands) c.requires.1.1 in
    let long = ap (λ (cs : List Command). length cs) commands_are in
    let last : c.loop-k.k ≡ length g.run.program.commands = omega (arith, c.loop-k-test.false, c.loop-k.auto.k-end, long) in
    let t = subst (λ (i : ℕ). IsTaken g.run i c.loop-k.progress) last c.loop-k.invariant in
    let items = c.as_slice-items.result.now in
    let same : items ≡ Q.conditions = c.as_slice-items.ensures.value ∙ ap (λ (q : Problem). q.conditions) c.problem.view_is in
    let few : c.loop-k.progress.tested ≤ length items =
    let a = t.tested in let b = all_items g.run Q V h in let d = ap (λ (is : List Item). length is) same in omega (arith, a, b, d) in
    few

pub slice_bounds-test_conditions-start : goal.slice_bounds-test_conditions-start
slice_bounds-test_conditions-start g c =
    let Q = c.args.problem.now in
    let V = c.args.values.now in
    let h = c.requires.0 in
    let commands_are : c.as_slice-commands.result.now ≡ g.run.program.commands = c.as_slice-commands.ensures ∙ ap (λ (p : Source). p.commands) c.requires.1.1 in
    let long = ap (λ (cs : List Command). length cs) commands_are in
    let last : c.loop-k.k ≡ length g.run.program.commands = omega (arith, c.loop-k-test.false, c.loop-k.auto.k-end, long) in
    let t = subst (λ (i : ℕ). IsTaken g.run i c.loop-k.progress) last c.loop-k.invariant in
    let items = c.as_slice-items.result.now in
    let same : items ≡ Q.conditions = c.as_slice-items.ensures.value ∙ ap (λ (q : Problem). q.conditions) c.problem.view_is in
    let few : c.loop-k.progress.tested ≤ length items =
    let a = t.tested in let b = all_items g.run Q V h in let d = ap (λ (is : List Item). length is) same in omega (arith, a, b, d) in
    few

pub test_conditions-requires-clause-stored : goal.test_conditions-requires-clause-stored
test_conditions-requires-clause-stored g c =
    let Q = c.args.problem.now in
    let V = c.args.values.now in
    let h = c.requires.0 in
    let commands_are : c.as_slice-commands.result.now ≡ g.run.program.commands = c.as_slice-commands.ensures ∙ ap (λ (p : Source). p.commands) c.requires.1.1 in
    let long = ap (λ (cs : List Command). length cs) commands_are in
    let last : c.loop-k.k ≡ length g.run.program.commands = omega (arith, c.loop-k-test.false, c.loop-k.auto.k-end, long) in
    let t = subst (λ (i : ℕ). IsTaken g.run i c.loop-k.progress) last c.loop-k.invariant in
    let items = c.as_slice-items.result.now in
    let same : items ≡ Q.conditions = c.as_slice-items.ensures.value ∙ ap (λ (q : Problem). q.conditions) c.problem.view_is in
    let few : c.loop-k.progress.tested ≤ length items =
    let a = t.tested in let b = all_items g.run Q V h in let d = ap (λ (is : List Item). length is) same in omega (arith, a, b, d) in
    let nodes = c.look-terms.result.now in
    let stored = c.look-terms.ensures ∙ ap (λ (q : Problem). q.steps.nodes) c.problem.view_is in
    let progress = c.loop-k.progress in
    let left = take (length items - progress.tested) (drop progress.tested items) in
    let left_is = left_all items progress.tested ∙ ap (λ (is : List Item). drop progress.tested is) same in
    subst (λ (is : List Item). All (λ i. i.term.0 < length nodes) is) (sym left_is)
    (all_left (λ (i : Item). i.term.0 < length nodes) Q.conditions progress.tested (subst (λ (ns : Store). All (λ i. i.term.0 < length ns) Q.conditions) (sym stored) h.stored))

pub test_conditions-requires-clause-few : goal.test_conditions-requires-clause-few
test_conditions-requires-clause-few g c =
    let Q = c.args.problem.now in
    let V = c.args.values.now in
    let h = c.requires.0 in
    let commands_are : c.as_slice-commands.result.now ≡ g.run.program.commands = c.as_slice-commands.ensures ∙ ap (λ (p : Source). p.commands) c.requires.1.1 in
    let long = ap (λ (cs : List Command). length cs) commands_are in
    let last : c.loop-k.k ≡ length g.run.program.commands = omega (arith, c.loop-k-test.false, c.loop-k.auto.k-end, long) in
    let t = subst (λ (i : ℕ). IsTaken g.run i c.loop-k.progress) last c.loop-k.invariant in
    let items = c.as_slice-items.result.now in
    let same : items ≡ Q.conditions = c.as_slice-items.ensures.value ∙ ap (λ (q : Problem). q.conditions) c.problem.view_is in
    let few : c.loop-k.progress.tested ≤ length items =
    let a = t.tested in let b = all_items g.run Q V h in let d = ap (λ (is : List Item). length is) same in omega (arith, a, b, d) in
    let nodes = c.look-terms.result.now in
    let stored = c.look-terms.ensures ∙ ap (λ (q : Problem). q.steps.nodes) c.problem.view_is in
    let progress = c.loop-k.progress in
    let left = take (length items - progress.tested) (drop progress.tested items) in
    let left_is = left_all items progress.tested ∙ ap (λ (is : List Item). drop progress.tested is) same in
    let short = ap (λ (is : List Item). length is) (left_all items progress.tested) ∙ length-drop progress.tested items in
    omega (arith, few, short, c.as_slice-items.type_inv.1)

pub returns-in_err-test_conditions-clause-stopped : goal.returns-in_err-test_conditions-clause-stopped
returns-in_err-test_conditions-clause-stopped g c =
    let Q = c.args.problem.now in
    let V = c.args.values.now in
    let h = c.requires.0 in
    let commands_are : c.as_slice-commands.result.now ≡ g.run.program.commands = c.as_slice-commands.ensures ∙ ap (λ (p : Source). p.commands) c.requires.1.1 in
    let long = ap (λ (cs : List Command). length cs) commands_are in
    let last : c.loop-k.k ≡ length g.run.program.commands = omega (arith, c.loop-k-test.false, c.loop-k.auto.k-end, long) in
    let t = subst (λ (i : ℕ). IsTaken g.run i c.loop-k.progress) last c.loop-k.invariant in
    let items = c.as_slice-items.result.now in
    let same : items ≡ Q.conditions = c.as_slice-items.ensures.value ∙ ap (λ (q : Problem). q.conditions) c.problem.view_is in
    let few : c.loop-k.progress.tested ≤ length items =
    let a = t.tested in let b = all_items g.run Q V h in let d = ap (λ (is : List Item). length is) same in omega (arith, a, b, d) in
    let nodes = c.look-terms.result.now in
    let stored = c.look-terms.ensures ∙ ap (λ (q : Problem). q.steps.nodes) c.problem.view_is in
    let progress = c.loop-k.progress in
    let left = take (length items - progress.tested) (drop progress.tested items) in
    let left_is = left_all items progress.tested ∙ ap (λ (is : List Item). drop progress.tested is) same in
    let e = c.in_err-test_conditions.field-0.0 in
    passed_on c.from_residual-in_err-test_conditions.result e (EndsWith g.run) c.from_residual-in_err-test_conditions.ensures.1
    (stated_fail g.run Q V h progress t left left_is e (subst (λ (ns : Store). FirstFails progress.sketch ns left progress.tested e) stored c.in_err-test_conditions.ensures.fails))

pub returns-in_err-holds-clause-stopped : goal.returns-in_err-holds-clause-stopped
returns-in_err-holds-clause-stopped g c =
    let Q = c.args.problem.now in
    let V = c.args.values.now in
    let h = c.requires.0 in
    let commands_are : c.as_slice-commands.result.now ≡ g.run.program.commands = c.as_slice-commands.ensures ∙ ap (λ (p : Source). p.commands) c.requires.1.1 in
    let long = ap (λ (cs : List Command). length cs) commands_are in
    let last : c.loop-k.k ≡ length g.run.program.commands = omega (arith, c.loop-k-test.false, c.loop-k.auto.k-end, long) in
    let t = subst (λ (i : ℕ). IsTaken g.run i c.loop-k.progress) last c.loop-k.invariant in
    let items = c.as_slice-items.result.now in
    let same : items ≡ Q.conditions = c.as_slice-items.ensures.value ∙ ap (λ (q : Problem). q.conditions) c.problem.view_is in
    let few : c.loop-k.progress.tested ≤ length items =
    let a = t.tested in let b = all_items g.run Q V h in let d = ap (λ (is : List Item). length is) same in omega (arith, a, b, d) in
    let nodes = c.look-terms.result.now in
    let stored = c.look-terms.ensures ∙ ap (λ (q : Problem). q.steps.nodes) c.problem.view_is in
    let progress = c.loop-k.progress in
    let left = take (length items - progress.tested) (drop progress.tested items) in
    let left_is = left_all items progress.tested ∙ ap (λ (is : List Item). drop progress.tested is) same in
    let goals = c.deref.result.now in
    let goals_are : goals ≡ Q.goals = c.deref.ensures.value ∙ ap (λ (q : Problem). q.goals) c.problem.view_is in
    let met = subst (λ (ns : Store). AllByRecursion (IsItemMet progress.sketch ns) left) stored c.in_ok-test_conditions.ensures.met in
    let e = c.in_err-holds.field-0.0 in
    passed_on c.from_residual-in_err-holds.result e (EndsWith g.run) c.from_residual-in_err-holds.ensures.1
    (all_end g.run Q V h progress t left left_is c.requires.1.0 met (Err e)
    (subst (λ (gs : List Item). GoalsCome progress.sketch Q.steps.nodes gs (Err e)) goals_are (subst (λ (ns : Store). GoalsCome progress.sketch ns goals (Err e)) stored c.in_err-holds.ensures)))

pub returns-clause-placed : goal.returns-clause-placed
returns-clause-placed g c =
    let Q = c.args.problem.now in
    let V = c.args.values.now in
    let h = c.requires.0 in
    let commands_are : c.as_slice-commands.result.now ≡ g.run.program.commands = c.as_slice-commands.ensures ∙ ap (λ (p : Source). p.commands) c.requires.1.1 in
    let long = ap (λ (cs : List Command). length cs) commands_are in
    let last : c.loop-k.k ≡ length g.run.program.commands = omega (arith, c.loop-k-test.false, c.loop-k.auto.k-end, long) in
    let t = subst (λ (i : ℕ). IsTaken g.run i c.loop-k.progress) last c.loop-k.invariant in
    let items = c.as_slice-items.result.now in
    let same : items ≡ Q.conditions = c.as_slice-items.ensures.value ∙ ap (λ (q : Problem). q.conditions) c.problem.view_is in
    let few : c.loop-k.progress.tested ≤ length items =
    let a = t.tested in let b = all_items g.run Q V h in let d = ap (λ (is : List Item). length is) same in omega (arith, a, b, d) in
    let nodes = c.look-terms.result.now in
    let stored = c.look-terms.ensures ∙ ap (λ (q : Problem). q.steps.nodes) c.problem.view_is in
    let progress = c.loop-k.progress in
    let left = take (length items - progress.tested) (drop progress.tested items) in
    let left_is = left_all items progress.tested ∙ ap (λ (is : List Item). drop progress.tested is) same in
    let goals = c.deref.result.now in
    let goals_are : goals ≡ Q.goals = c.deref.ensures.value ∙ ap (λ (q : Problem). q.goals) c.problem.view_is in
    let met = subst (λ (ns : Store). AllByRecursion (IsItemMet progress.sketch ns) left) stored c.in_ok-test_conditions.ensures.met in
    let b = c.in_ok-holds.holds in
    all_end g.run Q V h progress t left left_is c.requires.1.0 met (Ok b)
    (subst (λ (gs : List Item). GoalsCome progress.sketch Q.steps.nodes gs (Ok b)) goals_are (subst (λ (ns : Store). GoalsCome progress.sketch ns goals (Ok b)) stored c.in_ok-holds.ensures))

pub returns-clause-told : goal.returns-clause-told
returns-clause-told g c =
    let Q = c.args.problem.now in
    let V = c.args.values.now in
    let h = c.requires.0 in
    let commands_are : c.as_slice-commands.result.now ≡ g.run.program.commands = c.as_slice-commands.ensures ∙ ap (λ (p : Source). p.commands) c.requires.1.1 in
    let long = ap (λ (cs : List Command). length cs) commands_are in
    let last : c.loop-k.k ≡ length g.run.program.commands = omega (arith, c.loop-k-test.false, c.loop-k.auto.k-end, long) in
    let t = subst (λ (i : ℕ). IsTaken g.run i c.loop-k.progress) last c.loop-k.invariant in
    told_all g.run Q V h c.loop-k.progress t

pub returns-clause-triples : goal.returns-clause-triples
returns-clause-triples g c = c.loop-k.invariant.triples
