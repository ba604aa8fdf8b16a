use Rattle.std.proofs.Common.{◌≡◌, length, sym, ap, subst, ◌∙◌, rules, arith}
use Rattle.geo_points.specs.declared.ids.TermId.{TermId}
use Rattle.geo_terms.specs.Stores.{trees_of, tree_of}
use Rattle.geo_terms.specs.Trees.{Tree}
use Rattle.geo_terms.proofs.Trees.{tree_of-node}
use Rattle.fraction_poly.specs.Measures.{capped, numbers_of}
use Rattle.fraction_poly.specs.Inner.Parts.{AreNumbersOf}
use Rattle.fraction_poly.proofs.CappedNumbers.{AreNumbersOf-push, numbers_are_all}
use Rattle.fraction_poly.proofs.store_numbers.StoreNumbers.new.Goals as goal

pub loop-i-preserved : goal.loop-i-preserved
loop-i-preserved c =
    let nodes = c.args.terms.now in
    let each = c.loop-i.each.items in
    let id : TermId = record { 0 = c.loop-i.i } in
    let told : AreNumbersOf (trees_of nodes) c.deref.result.now = subst (AreNumbersOf (trees_of nodes)) (sym c.deref.ensures.value) c.loop-i.invariant.numbers in
    let tree : c.node_numbers.result ≡ capped (numbers_of (tree_of nodes id)) =
    c.node_numbers.ensures (trees_of nodes) told
    ∙ sym (ap (λ (e : Tree). capped (numbers_of e)) (tree_of-node nodes id c.node.result c.len-len.ensures.valid c.node.ensures)) in
    let at_end : c.node_numbers.result ≡ capped (numbers_of (tree_of nodes (record { 0 = length each }))) =
    tree ∙ ap (λ k. capped (numbers_of (tree_of nodes (record { 0 = k })))) (sym c.loop-i.invariant.count) in
    record {
      count = search rules;
      numbers = subst (AreNumbersOf (trees_of nodes)) (sym c.in_ok-push.ensures.items) (AreNumbersOf-push (trees_of nodes) each c.node_numbers.result c.loop-i.invariant.numbers at_end);
    }

pub returns-clause-numbers : goal.returns-clause-numbers
returns-clause-numbers c =
    numbers_are_all c.args.terms.now c.loop-i.each.items c.loop-i.invariant.numbers (omega (arith, c.loop-i.invariant.count, c.loop-i.auto.i-end, c.loop-i-test.false, c.len-len.ensures.len))
