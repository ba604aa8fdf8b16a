use Rattle.std.proofs.Common.{drop, take}
use Rattle.geo_lexer.proofs.GapLemmas.{Leaves}
use Rattle.geo_lexer.proofs.gaps.next_place.Given as goal

abbrev pub invariant-loop-i : goal.invariant-loop-i
invariant-loop-i l = Leaves (take l.i (drop l.start l.bytes)) l.inside
