use Rattle.std.proofs.Common.{◌∙◌, ◌<◌, ℕ, ◌-◌, length, rules, sym, subst, arith}
use Rattle.std.specs.Prelude.{All}
use Rattle.proof_printer.proofs.Lookups.{first_of_all, none_placed, placed}
use Rattle.proof_printer.proofs.name_list.first_places.Goals as goal

pub loop-k-init : goal.loop-k-init
loop-k-init c = record {
  count = omega (arith, c.in_ok-resize.ensures.len, c.resize.new.self.ok.0);
  first =
      none_placed c.args.places.now c.args.none (length c.args.places.now) c.resize.new.self.items (omega arith)
      (λ n below. c.in_ok-resize.ensures.by_index.1 n 0 (search rules) (omega arith) (omega (arith, below, c.in_ok-resize.ensures.len, c.resize.new.self.ok.0)));
}

pub put-requires : goal.put-requires
put-requires c = omega (arith, c.loop-k.invariant.count, c.one_past-past.ensures.past (c.loop-k.k - 1) 0 (omega (arith, c.loop-k-test.true)))

pub loop-k-preserved : goal.loop-k-preserved
loop-k-preserved c = record {
  count = c.put.ensures.whole ∙ c.loop-k.invariant.count;
  first =
      placed c.args.places.now c.args.none (c.loop-k.k - 1) c.loop-k.k c.loop-k.firsts.items c.put.new.numbers.items
      (omega (arith, c.loop-k-test.true)) (omega (arith, c.loop-k-test.true)) c.put.ensures.whole c.put.ensures.place c.put.ensures.others c.loop-k.invariant.first;
}

pub returns-clause-past : goal.returns-clause-past
returns-clause-past c = subst (λ (m : ℕ). All (λ place. place < m) c.args.places.now) (sym c.loop-k.invariant.count) c.one_past-past.ensures.past

pub returns-clause-first : goal.returns-clause-first
returns-clause-first c = first_of_all c.args.places.now c.args.none c.loop-k.k c.loop-k.firsts.items (omega (arith, c.loop-k-test.false)) c.loop-k.invariant.first
