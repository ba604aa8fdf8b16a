use Rattle.std.proofs.Common.{inl, sym, subst}
use Rattle.geo_points.specs.declared.ids.TermId.{TermId}
use Rattle.fraction_poly.proofs.ReachedParts.{IsReaching, PutsParts, TakesGreatest, takes_greatest, drained, height_falls, reaching-all, reaching-first, reaching-more}
use Rattle.fraction_poly.proofs.reaching.reached.Goals as goal

pub loop-index-init : goal.loop-index-init
loop-index-init c =
    subst (IsReaching c.args.terms.now c.args.id c.insert.new.self) (sym c.new-order.ensures.items)
    (reaching-first c.args.terms.now c.len.ensures.valid c.args.id c.new-pending.result c.insert.new.self c.new-pending.ensures.empty c.requires
    c.in_ok-insert.ensures.updates)

pub node-requires : goal.node-requires
node-requires c = c.loop-index.invariant.stored (record { 0 = c.in-Some.index }) (inl c.in-Some.ensures.member)

pub loop-index-smaller : goal.loop-index-smaller
loop-index-smaller c =
    let index : TermId = record { 0 = c.in-Some.index } in
    let takes : TakesGreatest c.in-Some.index c.loop-index.pending c.pop_last.new.self = takes_greatest c.in-Some.index c.loop-index.pending
    c.pop_last.new.self c.in-Some.ensures.member c.in-Some.ensures.greatest c.in-Some.ensures.updates in
    let put : PutsParts c.node.result c.pop_last.new.self c.add_parts.new.pending = record {
      parts = c.in_ok-add_parts.ensures.parts;
      kept = c.in_ok-add_parts.ensures.kept;
      others = c.in_ok-add_parts.ensures.others;
    } in
    height_falls c.args.terms.now c.len.ensures.valid c.args.id c.loop-index.order.items index c.node.result c.loop-index.pending
    c.pop_last.new.self c.add_parts.new.pending c.loop-index.invariant takes c.node.ensures put

pub loop-index-preserved : goal.loop-index-preserved
loop-index-preserved c =
    let index : TermId = record { 0 = c.in-Some.index } in
    let takes : TakesGreatest c.in-Some.index c.loop-index.pending c.pop_last.new.self = takes_greatest c.in-Some.index c.loop-index.pending
    c.pop_last.new.self c.in-Some.ensures.member c.in-Some.ensures.greatest c.in-Some.ensures.updates in
    let put : PutsParts c.node.result c.pop_last.new.self c.add_parts.new.pending = record {
      parts = c.in_ok-add_parts.ensures.parts;
      kept = c.in_ok-add_parts.ensures.kept;
      others = c.in_ok-add_parts.ensures.others;
    } in
    subst (IsReaching c.args.terms.now c.args.id c.add_parts.new.pending) (sym c.in_ok-push.ensures.items)
    (reaching-more c.args.terms.now c.len.ensures.valid c.args.id c.loop-index.order.items index c.node.result c.loop-index.pending
    c.pop_last.new.self c.add_parts.new.pending c.loop-index.invariant takes c.node.ensures put)

pub returns : goal.returns
returns c =
    reaching-all c.args.terms.now c.len.ensures.valid c.args.id c.loop-index.pending c.loop-index.order.items
    (drained c.args.terms.now c.len.ensures.valid c.args.id c.loop-index.pending c.in_default.ensures.variant.1) c.loop-index.invariant
