use Rattle.std.proofs.lemmas.List.Filters.{FiltersInPlace}
use Rattle.geo_poly.specs.Inner.Parts.{lacks}
use Rattle.geo_poly.specs.Shared.{term_of, var_at}
use Rattle.geo_poly.proofs.zeros.keep_lacking.Given as goal

abbrev pub invariant-loop-i : goal.invariant-loop-i
invariant-loop-i l =
    FiltersInPlace (λ t. lacks (var_at l.vars l.number) (term_of l.vars l.monos t)) l.initial.list.items l.list.items l.kept l.i
