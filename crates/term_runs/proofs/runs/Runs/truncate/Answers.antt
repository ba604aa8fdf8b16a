use Rattle.std.proofs.Common.{length, take, sym, ap, ◌∙◌, arith}
use Rattle.term_runs.proofs.Parts.{view_length, view_take}
use Rattle.term_runs.proofs.runs.Runs.truncate.Goals as goal

pub returns : goal.returns
returns g c =
    let f = g.T.Term.pair in
    let items = c.self.inside.items.items in
    let count = c.self.inside.count in
    sym (view_take f items c.args.base count (omega (arith, c.requires, view_length f items count c.self.invariant.0, ap length c.self.view_is)))
    ∙ ap (take c.args.base) c.self.view_is
