use Rattle.std.proofs.Common.{◌≡◌, [], ◌∷◌, List, subst, sym, ap, ◌∙◌, if◌then◌else◌}
use Rattle.std.proofs.lemmas.Result.{on_ok_weaker}
use Rattle.geo_lowering.specs.Conditions.{Condition, divisor_conditions, nonzero}
use Rattle.geo_terms.specs.Stores.{node_tree, tree_of, trees_of}
use Rattle.geo_conditions.specs.Inner.ConditionLists.{Lists}
use Rattle.geo_conditions.specs.Lists.{found_at}
use Rattle.geo_conditions.proofs.KeptConditions.{lists_none, unfolds}
use Rattle.geo_conditions.proofs.condition_list.ConditionList.list_divisor.Goals as goal

pub returns-then-is_nonzero_number : goal.returns-then-is_nonzero_number
returns-then-is_nonzero_number c =
    let nodes = c.args.terms.now in
    let is = unfolds nodes c.requires.list.store c.args.e c.requires.braces c.node.result c.node.ensures in
    let none : divisor_conditions (tree_of nodes c.args.e) ≡ [] =
    ap divisor_conditions is ∙ c.is_nonzero_number.ensures (trees_of nodes) ∙ ap (λ b. if b then [] else nonzero (node_tree (trees_of nodes) c.node.result) ∷ []) c.if-is_nonzero_number.true in
    subst (λ (cs : List Condition). Lists nodes c.args.self.now c.args.self.now (found_at c.args.line cs)) (sym none) (lists_none nodes c.args.self.now c.requires.list)

pub returns-else-is_nonzero_number : goal.returns-else-is_nonzero_number
returns-else-is_nonzero_number c =
    let nodes = c.args.terms.now in
    let is = unfolds nodes c.requires.list.store c.args.e c.requires.braces c.node.result c.node.ensures in
    let one : divisor_conditions (tree_of nodes c.args.e) ≡ nonzero (tree_of nodes c.args.e) ∷ [] =
    ap divisor_conditions is ∙ c.is_nonzero_number.ensures (trees_of nodes) ∙ ap (λ b. if b then [] else nonzero (node_tree (trees_of nodes) c.node.result) ∷ []) c.if-is_nonzero_number.false
    ∙ ap (λ t. nonzero t ∷ []) (sym is) in
    on_ok_weaker c.add.result (λ (h : Lists nodes c.args.self.now c.add.new.self (found_at c.args.line (nonzero (tree_of nodes c.args.e) ∷ []))).
    subst (λ (cs : List Condition). Lists nodes c.args.self.now c.add.new.self (found_at c.args.line cs)) (sym one) h) c.add.ensures.lists
