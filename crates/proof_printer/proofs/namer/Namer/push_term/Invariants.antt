use Rattle.std.proofs.Common.{◌≡◌, ◌++◌}
use Rattle.std.specs.List.{flat_map}
use Rattle.geo_poly.specs.Polynomials.{term_at}
use Rattle.geo_poly.specs.Shared.{IsIndexOf, told, told_powers}
use Rattle.proof_printer.specs.Inner.Names.{naming_in}
use Rattle.proof_printer.specs.Polynomials.{power_text, term_text}
use Rattle.proof_printer.proofs.namer.Namer.push_term.Given as goal

abbrev pub invariant-loop-first : goal.invariant-loop-first
invariant-loop-first l =
    let n = naming_in l.self in
    record {
      index : IsIndexOf l.p l.rest;
      whole : l.out.items ++ flat_map (power_text n) (told_powers l.p l.rest) ≡ l.fn.out.items ++ term_text n (term_at (told l.p) l.i);
    }

abbrev pub decreases-loop-first : goal.decreases-loop-first
decreases-loop-first l = l.rest.0
