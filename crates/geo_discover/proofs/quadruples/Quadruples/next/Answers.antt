use Rattle.std.proofs.Common.{◌≡◌, None, [], ◌∷◌, rules}
use Rattle.geo_discover.specs.Candidates.{triples}
use Rattle.geo_discover.specs.declared.quadruples.Quadruples.{Quadruples}
use Rattle.geo_discover.specs.Inner.Walks.{points_left, quadruples_left, triples_left}
use Rattle.geo_discover.proofs.Walks.{quadruples_last, quadruples_over, yields_none}
use Rattle.geo_discover.proofs.quadruples.Quadruples.next.Goals as goal

pub returns-in_err-b : goal.returns-in_err-b
returns-in_err-b c =
    let none : c.from_residual-in_err-b.result ≡ None = search rules in
    let gone : triples_left c.args.self.now.others ≡ [] = search rules in
    let turn : points_left c.args.self.now.later ≡ c.in_ok-self.field-0 ∷ points_left c.next-2.new.self = search rules in
    let last : triples (points_left c.next-2.new.self) ≡ [] = search rules in
    let left : triples_left c.next-3.new.self ≡ [] = search rules in
    let after : Quadruples = record { first = c.in_ok-self.field-0; others = c.next-3.new.self; later = c.next-2.new.self } in
    yields_none quadruples_left c.args.self.now after _ none (quadruples_last c.args.self.now.first _ _ _ _ gone turn last)
    (quadruples_over c.in_ok-self.field-0 _ _ left last)
