use Rattle.std.proofs.Common.{◌≤◌, ◌++◌, length, sym, ap, ap₂, subst, ◌∙◌, arith}
use Rattle.std.specs.Ordering.{nat_cmp}
use Rattle.sparse_lists.specs.Coefficients.{sum_of}
use Rattle.term_runs.specs.Runs.{IsRun, norm_of}
use Rattle.term_runs.proofs.Parts.{seen_drop, seen_range, seen_take, view_length}
use Rattle.term_runs.proofs.runs.Runs.join.Goals as goal

pub join_parts-requires-clause-left : goal.join_parts-requires-clause-left
join_parts-requires-clause-left g c =
    let f = g.T.Term.pair in
    let items = c.self.inside.items.items in
    let count = c.self.inside.count in
    let within : c.args.middle ≤ count = omega (arith, c.requires.middle, ap length c.self.view_is, view_length f items count c.self.invariant.0) in
    subst IsRun (seen_range f items c.args.self.now count c.self.view_is c.args.base c.args.middle within) c.requires.left

pub join_parts-requires-clause-right : goal.join_parts-requires-clause-right
join_parts-requires-clause-right g c =
    let f = g.T.Term.pair in
    let items = c.self.inside.items.items in
    let count = c.self.inside.count in
    subst IsRun (seen_drop f items c.args.self.now count c.self.view_is c.args.middle) c.requires.right

pub join_parts-requires-clause-fits : goal.join_parts-requires-clause-fits
join_parts-requires-clause-fits g c =
    let f = g.T.Term.pair in
    let items = c.self.inside.items.items in
    let count = c.self.inside.count in
    let within : c.args.middle ≤ count = omega (arith, c.requires.middle, ap length c.self.view_is, view_length f items count c.self.invariant.0) in
    omega (
      arith,
      c.requires.fits,
      ap norm_of (seen_range f items c.args.self.now count c.self.view_is c.args.base c.args.middle within),
      ap norm_of (seen_drop f items c.args.self.now count c.self.view_is c.args.middle),
    )

pub returns-clause-sum : goal.returns-clause-sum
returns-clause-sum g c =
    let f = g.T.Term.pair in
    let items = c.self.inside.items.items in
    let count = c.self.inside.count in
    let within : c.args.middle ≤ count = omega (arith, c.requires.middle, ap length c.self.view_is, view_length f items count c.self.invariant.0) in
    let begun : c.args.base ≤ count = omega (arith, within, c.requires.base) in
    c.in_ok-self-inside.ensures.sum
    ∙ ap₂ (λ left right. left ++ right) (sym (seen_take f items c.args.self.now count c.self.view_is c.args.base begun))
    (ap₂ (sum_of nat_cmp) (sym (seen_range f items c.args.self.now count c.self.view_is c.args.base c.args.middle within))
    (sym (seen_drop f items c.args.self.now count c.self.view_is c.args.middle)))
