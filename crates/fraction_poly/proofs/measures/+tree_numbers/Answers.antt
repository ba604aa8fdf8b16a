use Rattle.std.proofs.Common.{◌≡◌, refl, rules, subst}
use Rattle.std.proofs.lemmas.Option.{IfSome_then}
use Rattle.geo_terms.specs.declared.nodes.Node.{Node}
use Rattle.geo_terms.specs.declared.nodes.Node.TheVariants.{Neg}
use Rattle.geo_terms.specs.Stores.{trees_of}
use Rattle.fraction_poly.specs.Inner.Parts.{AreNumbersOfParts, IsPart}
use Rattle.fraction_poly.proofs.SmallTerms.{AreParts, numbers_are, numbers_of_parts, part_stored}
use Rattle.fraction_poly.proofs.measures.+tree_numbers.Goals as goal

pub tree_numbers-requires : goal.tree_numbers-requires
tree_numbers-requires t c = (
  search rules,
  (part_stored c.args.terms.now c.requires.valid c.args.id (Neg c.in-Neg.e) c.in-Neg.ensures c.in-Neg.e refl, c.requires.valid),
)

pub tree_numbers-requires-in-Add : goal.tree_numbers-requires-in-Add
tree_numbers-requires-in-Add t c =
    let e = c.in-Add.e in
    let part : IsPart c.node.result e = search rules in
    (search rules, (part_stored c.args.terms.now c.requires.valid c.args.id c.node.result c.node.ensures e part, c.requires.valid))

pub tree_numbers-requires-in-Add-2 : goal.tree_numbers-requires-in-Add-2
tree_numbers-requires-in-Add-2 t c =
    let f = c.in-Add.f in
    let part : IsPart c.node.result f = search rules in
    (search rules, (part_stored c.args.terms.now c.requires.valid c.args.id c.node.result c.node.ensures f part, c.requires.valid))

pub returns-in-Int : goal.returns-in-Int
returns-in-Int t c =
    numbers_are c.args.terms.now c.requires.valid c.args.id c.node.result c.node.ensures c.of_integer.result (search rules)

pub returns-in-Param : goal.returns-in-Param
returns-in-Param t c =
    numbers_are c.args.terms.now c.requires.valid c.args.id c.node.result c.node.ensures c.of_variable.result (search rules)

pub returns-in-Neg : goal.returns-in-Neg
returns-in-Neg t c =
    IfSome_then c.tree_numbers.result c.tree_numbers.ensures
    (λ n is. numbers_are c.args.terms.now c.requires.valid c.args.id (Neg c.in-Neg.e) c.in-Neg.ensures n is)

pub returns-in_ok-right-in-Add : goal.returns-in_ok-right-in-Add
returns-in_ok-right-in-Add t c =
    let nodes = c.args.terms.now in
    let parts : AreParts c.node.result c.in-Add.e c.in-Add.f = search rules in
    let node = c.node-in-Add.result in
    let same : c.node.result ≡ node = (let first = c.node.ensures in let again = c.node-in-Add.ensures in cc) in
    let left = c.in_ok-left-in-Add.left in
    let right = c.in_ok-right-in-Add.right in
    let both : AreNumbersOfParts (trees_of nodes) node left right =
    numbers_of_parts (trees_of nodes) left right node c.in-Add.e c.in-Add.f (subst (λ (n : Node). AreParts n c.in-Add.e c.in-Add.f) same parts)
    c.in_ok-left-in-Add.ensures c.in_ok-right-in-Add.ensures in
    numbers_are nodes c.requires.valid c.args.id node c.node-in-Add.ensures c.numbers_over.result (c.numbers_over.ensures (trees_of nodes) both)
