use Rattle.std.proofs.Common.{◌≡◌, ◌≤◌, List, map, refl, sym, ◌∙◌, ap, subst}
use Rattle.std.specs.List.{AllByRecursion}
use Rattle.geo_program.specs.declared.commands.Command.{Command}
use Rattle.geo_program.specs.declared.names.Name.{Name}
use Rattle.geo_program.specs.Forms.{statement_form}
use Rattle.geo_program.specs.FormTexts.{form_text}
use Rattle.geo_program.specs.Inner.Printing.{whole_scope}
use Rattle.geo_program.specs.Programs.{source_of}
use Rattle.geo_program.specs.WellFormed.{empty_scope}
use Rattle.geo_program.proofs.Propositions.{program_well_formed}
use Rattle.geo_lowering.specs.Counting.{points_named}
use Rattle.geo_conditions.specs.declared.conditions.ListedCondition.{ListedCondition}
use Rattle.geo_conditions.specs.Inner.ConditionLists.{IsNumberBraced, found_of}
use Rattle.geo_conditions.specs.Inner.ItemForms.{IsPrintableCondition}
use Rattle.geo_conditions.specs.Lists.{AreConditions}
use Rattle.geo_conditions.proofs.ItemScopes.{conditions_printable, numbers_braced, sides_braced}
use Rattle.geo_conditions.proofs.ListedItems.{few_named}
use Rattle.geo_library.proofs.FirstListed.{listed_missing}
use Rattle.geo_library.proofs.PrintedImages.{all_printable, statement_named}
use Rattle.geo_library.proofs.instances.asked_texts.Goals as goal

pub list_program-requires-clause-braced : goal.list_program-requires-clause-braced
list_program-requires-clause-braced c =
    let p = source_of c.args.theorem.now in
    subst (λ (cs : List Command). AllByRecursion (IsNumberBraced p.nodes) cs) (sym c.as_slice-commands.ensures)
    (numbers_braced p.nodes empty_scope p.names p.commands (program_well_formed c.args.theorem.now).commands)

pub list_program-requires-clause-few : goal.list_program-requires-clause-few
list_program-requires-clause-few c =
    let p = source_of c.args.theorem.now in
    subst (λ (cs : List Command). points_named cs ≤ 512) (sym c.as_slice-commands.ensures) (few_named p (program_well_formed c.args.theorem.now))

pub list_program-requires-clause-sides : goal.list_program-requires-clause-sides
list_program-requires-clause-sides c = sides_braced (source_of c.args.theorem.now) (program_well_formed c.args.theorem.now)

pub missing_condition-requires : goal.missing_condition-requires
missing_condition-requires c =
    let p = source_of c.args.theorem.now in
    let names = c.in_ok-names.names in
    let listed = c.in_ok-conditions.conditions.items.items in
    let h = c.in_ok-conditions.ensures in
    let are = subst (λ (cs : List Command). AreConditions
    (record { names = p.names; nodes = p.nodes; commands = cs; statement = p.statement }) (map (found_of p.nodes) listed))
    c.as_slice-commands.ensures (h.conditions p.names) in
    subst (λ (rows : List ListedCondition). AllByRecursion (λ i. IsPrintableCondition names p.nodes i.condition) rows) (sym c.as_slice-rows.ensures.value)
    (all_printable names p.names p.nodes (ap whole_scope c.in_ok-names.ensures ∙ c.requires) listed
    (conditions_printable p h.valid.store (program_well_formed c.args.theorem.now) listed are h.valid.kept))

pub statement_text-requires-clause-arguments : goal.statement_text-requires-clause-arguments
statement_text-requires-clause-arguments c =
    let p = source_of c.args.theorem.now in
    statement_named p c.in_ok-names.names p.nodes (program_well_formed c.args.theorem.now) refl (ap whole_scope c.in_ok-names.ensures ∙ c.requires)

pub statement_text-requires-clause-sides : goal.statement_text-requires-clause-sides
statement_text-requires-clause-sides c = (program_well_formed c.args.theorem.now).sides

pub returns-clause-missing : goal.returns-clause-missing
returns-clause-missing c =
    let p = source_of c.args.theorem.now in
    let listed = c.in_ok-conditions.conditions.items.items in
    let are = subst (λ (cs : List Command). AreConditions
    (record { names = p.names; nodes = p.nodes; commands = cs; statement = p.statement }) (map (found_of p.nodes) listed))
    c.as_slice-commands.ensures (c.in_ok-conditions.ensures.conditions p.names) in
    listed_missing p c.args.given.now c.in_ok-names.names c.in_ok-names.ensures c.args.listed.now c.as_slice-items.result.now (c.as_slice-items.ensures.value ∙ c.listed.view_is)
    listed c.as_slice-rows.result.now c.as_slice-rows.ensures.value are c.in_ok-missing.missing c.in_ok-missing.ensures

pub returns-clause-statement : goal.returns-clause-statement
returns-clause-statement c =
    let p = source_of c.args.theorem.now in
    c.in_ok-statement.ensures ∙ ap (λ (ns : List Name). form_text ns (statement_form p.nodes p.statement)) c.in_ok-names.ensures
