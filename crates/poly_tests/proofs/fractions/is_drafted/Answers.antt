use Rattle.std.proofs.Common.{IsTrue, length, rules}
use Rattle.fraction_poly.proofs.StepDrafts.{both_stored}
use Rattle.geo_terms.specs.Stores.{tree_of}
use Rattle.poly_tests.proofs.fractions.is_drafted.Goals as goal

pub row-requires-clause-numbers : goal.row-requires-clause-numbers
row-requires-clause-numbers c =
    let nodes = c.args.terms.now in
    let first : IsTrue c.has_room.result = search rules in
    let second : IsTrue c.has_room-else-not-has_room.result = search rules in
    record {
      stored = both_stored (length nodes) c.args.ids.0 c.args.ids.1 c.requires.first c.requires.second;
      room = λ _. record {
        first = (c.has_room.ensures.term (tree_of nodes c.args.ids.0) c.in_ok-measure.ensures).0 first;
        second = (c.has_room-else-not-has_room.ensures.term (tree_of nodes c.args.ids.1) c.in_ok-measure-2.ensures).0 second;
      };
    }
