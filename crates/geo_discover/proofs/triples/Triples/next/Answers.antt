use Rattle.std.proofs.Common.{◌≡◌, None, [], ◌∷◌, rules}
use Rattle.geo_discover.specs.Candidates.{pairs}
use Rattle.geo_discover.specs.declared.triples.Triples.{Triples}
use Rattle.geo_discover.specs.Inner.Walks.{pairs_left, points_left, triples_left}
use Rattle.geo_discover.proofs.Walks.{triples_last, triples_over, yields_none}
use Rattle.geo_discover.proofs.triples.Triples.next.Goals as goal

pub returns-in_err-b : goal.returns-in_err-b
returns-in_err-b c =
    let none : c.from_residual-in_err-b.result ≡ None = search rules in
    let gone : pairs_left c.args.self.now.others ≡ [] = search rules in
    let turn : points_left c.args.self.now.later ≡ c.in_ok-self.field-0 ∷ points_left c.next-2.new.self = search rules in
    let last : pairs (points_left c.next-2.new.self) ≡ [] = search rules in
    let left : pairs_left c.next-3.new.self ≡ [] = search rules in
    let after : Triples = record { first = c.in_ok-self.field-0; others = c.next-3.new.self; later = c.next-2.new.self } in
    yields_none triples_left c.args.self.now after _ none (triples_last c.args.self.now.first _ _ _ _ gone turn last)
    (triples_over c.in_ok-self.field-0 _ _ left last)
