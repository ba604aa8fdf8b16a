use Rattle.std.proofs.Common.{◌-◌, drop, map, take, sym, ap, ◌∙◌, rules}
use Rattle.std.proofs.Common.{◌≡◌}
use Rattle.term_runs.proofs.Parts.{view_drop}
use Rattle.term_runs.proofs.runs.Runs.terms_from.Goals as goal

pub returns : goal.returns
returns g c =
    let f = g.T.Term.pair in
    let items = c.self.inside.items.items in
    let count = c.self.inside.count in
    let whole : c.deref.result.now ≡ items = search rules in
    ap (λ xs. map f (take (count - c.args.base) (drop c.args.base xs))) whole
    ∙ sym (view_drop f items c.args.base count) ∙ ap (drop c.args.base) c.self.view_is
