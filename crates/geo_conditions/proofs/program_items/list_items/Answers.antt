use Rattle.std.proofs.Common.{List, suc, ◌+◌, length, map, sym, ap, ◌∙◌, subst, ◌≤◌, ◌≡◌, add-one}
use Rattle.std.specs.List.{AllByRecursion}
use Rattle.std.proofs.lemmas.Result.{IfOk-weaker}
use Rattle.geo_points.specs.declared.ids.ParamId.{ParamId}
use Rattle.geo_points.specs.declared.ids.PointId.{PointId}
use Rattle.geo_points.specs.declared.ids.TermId.{TermId}
use Rattle.geo_terms.specs.Stores.{Store}
use Rattle.geo_program.specs.declared.commands.Command.{Command}
use Rattle.geo_program.specs.declared.statements.Statement.{Statement}
use Rattle.geo_program.specs.Programs.{source_of}
use Rattle.geo_program.specs.WellFormed.{empty_scope}
use Rattle.geo_program.proofs.Propositions.{program_well_formed}
use Rattle.geo_lowering.specs.Counting.{points_named}
use Rattle.geo_lowering.specs.Lowering.{pair_numbers}
use Rattle.geo_conditions.specs.Inner.ConditionLists.{IsNumberBraced, found_of}
use Rattle.geo_lowering.specs.Inner.Renaming.{AreRenamed}
use Rattle.geo_conditions.specs.declared.conditions.ListedCondition.{ListedCondition}
use Rattle.geo_conditions.specs.declared.item_terms.Places.{Places}
use Rattle.geo_conditions.specs.Inner.ItemForms.{ArePlaced, IsPrintableCondition, IsPrintableGoal, places_layout}
use Rattle.geo_conditions.specs.Inner.ItemTerms.{terms_layout}
use Rattle.geo_conditions.specs.Lists.{AreConditions}
use Rattle.geo_conditions.proofs.ItemScopes.{conditions_printable, goals_printable, numbers_braced, sides_braced}
use Rattle.geo_conditions.proofs.ListedItems.{conditions_by, few_named, goals_by, goals_by_names, placed_by, rows_by_names, same_layout}
use Rattle.geo_conditions.proofs.TermsInterned.{keeps_both}
use Rattle.geo_conditions.proofs.program_items.list_items.Goals as goal

pub list_program-requires-clause-braced : goal.list_program-requires-clause-braced
list_program-requires-clause-braced c =
    let p = source_of c.args.program.now in
    subst (λ (cs : List Command). AllByRecursion (IsNumberBraced p.nodes) cs) (sym c.as_slice-commands.ensures)
    (numbers_braced p.nodes empty_scope p.names p.commands (program_well_formed c.args.program.now).commands)

pub list_program-requires-clause-few : goal.list_program-requires-clause-few
list_program-requires-clause-few c =
    let p = source_of c.args.program.now in
    subst (λ (cs : List Command). points_named cs ≤ 512) (sym c.as_slice-commands.ensures) (few_named p (program_well_formed c.args.program.now))

pub list_program-requires-clause-sides : goal.list_program-requires-clause-sides
list_program-requires-clause-sides c = sides_braced (source_of c.args.program.now) (program_well_formed c.args.program.now)

pub list_goals-requires-clause-sides : goal.list_goals-requires-clause-sides
list_goals-requires-clause-sides c = sides_braced (source_of c.args.program.now) (program_well_formed c.args.program.now)

pub make_items-requires-clause-rows : goal.make_items-requires-clause-rows
make_items-requires-clause-rows c =
    let p = source_of c.args.program.now in
    let listed = c.in_ok-listed.listed in
    let h = c.in_ok-listed.ensures in
    let are = subst (λ (cs : List Command). AreConditions
    (record { names = p.names; nodes = p.nodes; commands = cs; statement = p.statement }) (map (found_of p.nodes) listed.items.items))
    c.as_slice-commands.ensures (h.conditions p.names) in
    rows_by_names p c.in_ok-printer.printer.names c.in_ok-printer.printer.terms.now c.in_ok-printer.ensures.names c.in_ok-printer.ensures.terms c.as_slice-rows.result.now
    (subst (λ (rows : List ListedCondition). AllByRecursion (λ i. IsPrintableCondition p.names p.nodes i.condition) rows) (sym c.as_slice-rows.ensures.value)
    (conditions_printable p h.valid.store (program_well_formed c.args.program.now) listed.items.items are h.valid.kept))

pub make_items-requires-clause-ratios : goal.make_items-requires-clause-ratios
make_items-requires-clause-ratios c =
    let p = source_of c.args.program.now in
    goals_by_names p c.in_ok-printer.printer.names c.in_ok-printer.printer.terms.now c.in_ok-printer.ensures.names c.in_ok-printer.ensures.terms c.as_slice-ratios.result.now
    (subst (λ (goals : List Statement). AllByRecursion (IsPrintableGoal p.names p.nodes) goals) (sym c.as_slice-ratios.ensures)
    (goals_printable p (program_well_formed c.args.program.now) c.in_ok-wanted.wanted.goals (c.in_ok-wanted.ensures p.names p.commands)))

pub make_items-requires-clause-placed : goal.make_items-requires-clause-placed
make_items-requires-clause-placed c =
    let p = source_of c.args.program.now in
    let nodes = c.rename_terms.new.steps.nodes in
    let places : Places = record { points = c.as_slice-points.result; lines = c.as_slice-lines.result; params = c.as_slice-params.result; terms = c.as_slice-terms.result } in
    let items = c.in_ok-renamed.renamed.items in
    subst (λ (terms : Store). ArePlaced terms nodes places) (sym c.in_ok-printer.ensures.terms)
    (placed_by p.nodes nodes places (ap length c.as_slice-terms.ensures.value ∙ c.in_ok-renamed.ensures.count)
    (subst (λ (ids : List TermId). AreRenamed (terms_layout places.points.now places.params.now) p.nodes nodes ids) (sym c.as_slice-terms.ensures.value) c.in_ok-renamed.ensures.renamed))

pub returns-clause-keeps : goal.returns-clause-keeps
returns-clause-keeps c = keeps_both c.args.steps.now c.rename_terms.new.steps c.make_items.new.steps c.in_ok-renamed.ensures.keeps c.make_items.ensures.keeps

pub returns-clause-conditions : goal.returns-clause-conditions
returns-clause-conditions c = λ version has.
    let p = source_of c.args.program.now in
    let places : Places = record { points = c.as_slice-points.result; lines = c.as_slice-lines.result; params = c.as_slice-params.result; terms = c.as_slice-terms.result } in
    let x : places.points.now ≡ c.args.points.now = c.as_slice-points.ensures.value ∙ c.points.view_is in
    let y : places.lines.now ≡ c.args.lines.now = c.as_slice-lines.ensures.value ∙ c.lines.view_is in
    let z : places.params.now ≡ c.args.params.now = c.as_slice-params.ensures.value ∙ c.params.view_is in
    let layouts = same_layout version p.commands places (ap (λ (l : List PointId). map (λ a. a.0) l) x ∙ has.points) (ap (λ (l : List (PointId × PointId)). map pair_numbers l) y ∙ has.lines)
    (ap (λ (l : List ParamId). map (λ t. t.0) l) z ∙ has.params) in
    let listed = c.in_ok-listed.listed in
    let are = subst (λ (cs : List Command). AreConditions
    (record { names = p.names; nodes = p.nodes; commands = cs; statement = p.statement }) (map (found_of p.nodes) listed.items.items))
    c.as_slice-commands.ensures (c.in_ok-listed.ensures.conditions p.names) in
    IfOk-weaker c.make_items.result _ _
    (λ both h. conditions_by p c.in_ok-printer.printer.names c.in_ok-printer.printer.terms.now c.in_ok-printer.ensures.names
    c.in_ok-printer.ensures.terms version (places_layout places) c.make_items.new.steps.nodes both.0
    c.as_slice-rows.result.now listed.items.items layouts c.as_slice-rows.ensures.value are h)
    c.make_items.ensures.conditions

pub returns-clause-goals : goal.returns-clause-goals
returns-clause-goals c = λ version has.
    let p = source_of c.args.program.now in
    let places : Places = record { points = c.as_slice-points.result; lines = c.as_slice-lines.result; params = c.as_slice-params.result; terms = c.as_slice-terms.result } in
    let x : places.points.now ≡ c.args.points.now = c.as_slice-points.ensures.value ∙ c.points.view_is in
    let y : places.lines.now ≡ c.args.lines.now = c.as_slice-lines.ensures.value ∙ c.lines.view_is in
    let z : places.params.now ≡ c.args.params.now = c.as_slice-params.ensures.value ∙ c.params.view_is in
    let layouts = same_layout version p.commands places (ap (λ (l : List PointId). map (λ a. a.0) l) x ∙ has.points) (ap (λ (l : List (PointId × PointId)). map pair_numbers l) y ∙ has.lines)
    (ap (λ (l : List ParamId). map (λ t. t.0) l) z ∙ has.params) in
    let commands = c.as_slice-commands.result.now in
    let lines_are : length commands + 1 ≡ suc (length p.commands) = add-one (length commands) ∙ ap (λ (cs : List Command). suc (length cs)) c.as_slice-commands.ensures in
    let goals = c.in_ok-wanted.wanted.goals in
    IfOk-weaker c.make_items.result _ _
    (λ both h. goals_by p c.in_ok-printer.printer.names c.in_ok-printer.printer.terms.now c.in_ok-printer.ensures.names
    c.in_ok-printer.ensures.terms version (places_layout places) (length commands + 1) c.make_items.new.steps.nodes both.1
    c.as_slice-ratios.result.now goals layouts lines_are c.as_slice-ratios.ensures (c.in_ok-wanted.ensures p.names p.commands) h)
    c.make_items.ensures.goals
