use Rattle.std.proofs.Common.{◌≡◌, refl, sym, ap, subst, [], ◌∙◌, arith}
use Rattle.std.proofs.lemmas.Result.{on_ok_weaker}
use Rattle.std.specs.Prelude.{List}
use Rattle.geo_program.specs.declared.statements.Statement.{Statement}
use Rattle.geo_terms.specs.declared.nodes.Node.TheVariants as node
use Rattle.geo_terms.specs.Stores.{tree_of, trees_of}
use Rattle.geo_terms.specs.Trees.{addition, division, multiplication, negation, ratio_leaf, subtraction}
use Rattle.geo_conditions.specs.Inner.GoalLists.{ListsGoals}
use Rattle.geo_conditions.specs.Statements.{ratio_goals}
use Rattle.geo_conditions.proofs.KeptConditions.{addition_parts, division_parts, multiplication_parts, negation_part, subtraction_parts, unfolds}
use Rattle.geo_conditions.proofs.KeptGoals.{leaf_goals, lists_none, lists_tree, walked_before, walked_now}
use Rattle.geo_conditions.proofs.goal_list.GoalList.+ratios.Goals as goal

pub list_ratios-returns-then-contains : goal.list_ratios-returns-then-contains
list_ratios-returns-then-contains t c =
    walked_before c.args.terms.now c.args.self.now c.args.e c.requires.list (sym c.contains.ensures ∙ c.if-contains.true)

pub list_ratios-returns : goal.list_ratios-returns
list_ratios-returns t c =
    walked_now c.args.terms.now c.args.self.now c.list_parts.new.self _ c.args.e c.in_ok-list_parts.ensures refl c.in_ok-insert.ensures.others

pub list_parts-list_ratios-requires : goal.list_parts-list_ratios-requires
list_parts-list_ratios-requires t c =
    let parts = negation_part c.args.terms.now c.requires.list.store c.args.e c.requires.braces c.in-Neg.f c.in-Neg.ensures in
    (omega (arith, parts.falls), (c.requires.list, parts.first))

pub list_parts-list_both-requires : goal.list_parts-list_both-requires
list_parts-list_both-requires t c =
    let parts = addition_parts c.args.terms.now c.requires.list.store c.args.e c.requires.braces c.in-Add.f c.in-Add.g c.in-Add.ensures in
    (omega (arith, parts.falls), (c.requires.list, (parts.first, parts.second)))

pub list_parts-list_both-requires-in-Sub : goal.list_parts-list_both-requires-in-Sub
list_parts-list_both-requires-in-Sub t c =
    let parts = subtraction_parts c.args.terms.now c.requires.list.store c.args.e c.requires.braces c.in-Sub.f c.in-Sub.g c.in-Sub.ensures in
    (omega (arith, parts.falls), (c.requires.list, (parts.first, parts.second)))

pub list_parts-list_both-requires-in-Mul : goal.list_parts-list_both-requires-in-Mul
list_parts-list_both-requires-in-Mul t c =
    let parts = multiplication_parts c.args.terms.now c.requires.list.store c.args.e c.requires.braces c.in-Mul.f c.in-Mul.g c.in-Mul.ensures in
    (omega (arith, parts.falls), (c.requires.list, (parts.first, parts.second)))

pub list_parts-list_both-requires-in-Div : goal.list_parts-list_both-requires-in-Div
list_parts-list_both-requires-in-Div t c =
    let parts = division_parts c.args.terms.now c.requires.list.store c.args.e c.requires.braces c.in-Div.f c.in-Div.g c.in-Div.ensures in
    (omega (arith, parts.falls), (c.requires.list, (parts.first, parts.second)))

pub list_parts-returns-in-R : goal.list_parts-returns-in-R
list_parts-returns-in-R t c =
    let nodes = c.args.terms.now in
    let is = unfolds nodes c.requires.list.store c.args.e c.requires.braces (node.R c.in-R.a c.in-R.b c.in-R.c c.in-R.d) c.in-R.ensures in
    on_ok_weaker c.add.result
    (λ one. lists_tree nodes c.args.self.now c.add.new.self c.args.e (ratio_leaf c.in-R.a c.in-R.b c.in-R.c c.in-R.d) is one) c.add.ensures

pub list_parts-returns-in-Neg : goal.list_parts-returns-in-Neg
list_parts-returns-in-Neg t c =
    let nodes = c.args.terms.now in
    let is = unfolds nodes c.requires.list.store c.args.e c.requires.braces (node.Neg c.in-Neg.f) c.in-Neg.ensures in
    on_ok_weaker c.list_ratios.result
    (λ all. lists_tree nodes c.args.self.now c.list_ratios.new.self c.args.e (negation (tree_of nodes c.in-Neg.f)) is all) c.list_ratios.ensures

pub list_parts-returns-in-Add : goal.list_parts-returns-in-Add
list_parts-returns-in-Add t c =
    let nodes = c.args.terms.now in
    let is = unfolds nodes c.requires.list.store c.args.e c.requires.braces (node.Add c.in-Add.f c.in-Add.g) c.in-Add.ensures in
    on_ok_weaker c.list_both.result
    (λ all. lists_tree nodes c.args.self.now c.list_both.new.self c.args.e (addition (tree_of nodes c.in-Add.f) (tree_of nodes c.in-Add.g)) is all)
    c.list_both.ensures

pub list_parts-returns-in-Sub : goal.list_parts-returns-in-Sub
list_parts-returns-in-Sub t c =
    let nodes = c.args.terms.now in
    let is = unfolds nodes c.requires.list.store c.args.e c.requires.braces (node.Sub c.in-Sub.f c.in-Sub.g) c.in-Sub.ensures in
    on_ok_weaker c.list_both-in-Sub.result
    (λ all. lists_tree nodes c.args.self.now c.list_both-in-Sub.new.self c.args.e (subtraction (tree_of nodes c.in-Sub.f) (tree_of nodes c.in-Sub.g)) is all)
    c.list_both-in-Sub.ensures

pub list_parts-returns-in-Mul : goal.list_parts-returns-in-Mul
list_parts-returns-in-Mul t c =
    let nodes = c.args.terms.now in
    let is = unfolds nodes c.requires.list.store c.args.e c.requires.braces (node.Mul c.in-Mul.f c.in-Mul.g) c.in-Mul.ensures in
    on_ok_weaker c.list_both-in-Mul.result
    (λ all. lists_tree nodes c.args.self.now c.list_both-in-Mul.new.self c.args.e (multiplication (tree_of nodes c.in-Mul.f) (tree_of nodes c.in-Mul.g)) is all)
    c.list_both-in-Mul.ensures

pub list_parts-returns-in-Div : goal.list_parts-returns-in-Div
list_parts-returns-in-Div t c =
    let nodes = c.args.terms.now in
    let is = unfolds nodes c.requires.list.store c.args.e c.requires.braces (node.Div c.in-Div.f c.in-Div.g) c.in-Div.ensures in
    on_ok_weaker c.list_both-in-Div.result
    (λ all. lists_tree nodes c.args.self.now c.list_both-in-Div.new.self c.args.e (division (tree_of nodes c.in-Div.f) (tree_of nodes c.in-Div.g)) is all)
    c.list_both-in-Div.ensures

pub list_parts-returns-in_default : goal.list_parts-returns-in_default
list_parts-returns-in_default t c =
    let nodes = c.args.terms.now in
    let d = c.in_default in
    let is = unfolds nodes c.requires.list.store c.args.e c.requires.braces c.node.result c.node.ensures in
    let none : ratio_goals (tree_of nodes c.args.e) ≡ [] = ap ratio_goals is ∙ leaf_goals (trees_of nodes) c.node.result d.not-R d.not-Neg d.not-Add d.not-Sub d.not-Mul d.not-Div in
    subst (λ (gs : List Statement). ListsGoals nodes c.args.self.now c.args.self.now gs) (sym none) (lists_none nodes c.args.self.now c.requires.list)
