use Rattle.std.proofs.Common.{◌≡◌, [], drop, filter}
use Rattle.geo_poly.specs.Inner.Parts.{lacks}
use Rattle.geo_poly.specs.Shared.{told, var_at}
use Rattle.geo_poly.proofs.zeros.all_have.Given as goal

abbrev pub invariant-loop-i : goal.invariant-loop-i
invariant-loop-i l = filter (lacks (var_at l.p.vars.now l.number)) (drop l.i (told l.p)) ≡ []
