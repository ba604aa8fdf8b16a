use Rattle.std.proofs.Common.{◌≡◌, ◌++◌, map, subst}
use Rattle.std.specs.Result.{OnOk}
use Rattle.term_runs.proofs.Products.{keys_comm, products_comm}
use Rattle.term_runs.proofs.runs.Runs.push_product.Goals as goal

pub push_by_halves-requires-else-left-right-clause-keys : goal.push_by_halves-requires-else-left-right-clause-keys
push_by_halves-requires-else-left-right-clause-keys g c =
    let f = g.T.Term.pair in
    keys_comm g.T.Term.keys (map f c.args.right.now) (map f c.args.left.now) c.requires.keys

pub returns-else-left-right : goal.returns-else-left-right
returns-else-left-right g c =
    let f = g.T.Term.pair in
    let done = c.push_by_halves-else-left-right in
    subst (λ ps. OnOk done.result (done.new.self ≡ c.args.self.now ++ ps)) (products_comm (map f c.args.right.now) (map f c.args.left.now)) done.ensures
