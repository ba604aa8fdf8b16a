use Rattle.std.proofs.Common.{◌≡◌, length}
use Rattle.proof_printer.proofs.Lookups.{AreFirstFrom}
use Rattle.proof_printer.proofs.name_list.first_places.Given as goal

abbrev pub invariant-loop-k : goal.invariant-loop-k
invariant-loop-k l = record {
  count : length l.firsts.items ≡ l.past;
  first : AreFirstFrom l.places l.none l.k l.firsts.items;
}
