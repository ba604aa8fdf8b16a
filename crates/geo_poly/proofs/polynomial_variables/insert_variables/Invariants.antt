use Rattle.std.proofs.Common.{◌≡◌, map, take}
use Rattle.std.specs.BTreeSet.{insert_key}
use Rattle.std.specs.List.{fold}
use Rattle.geo_poly.specs.Variables.{var_cmp}
use Rattle.geo_poly.proofs.polynomial_variables.insert_variables.Given as goal

abbrev pub invariant-loop-i : goal.invariant-loop-i
invariant-loop-i l = l.variables.keys ≡ fold (insert_key var_cmp) l.initial.variables.keys (map (λ p. p.0) (take l.i l.powers))
