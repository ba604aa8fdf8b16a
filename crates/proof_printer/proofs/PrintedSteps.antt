-- What is printed of a line that is read without its polynomial.
use Rattle.std.proofs.Common.{◌≡◌, ◌++◌, Result, Ok, Err, List, [], refl, sym, subst}
use Rattle.std.specs.Prelude.{ℕ, IfOk, OnOk}
use Rattle.geo_poly.specs.Polynomials.{Summands}
use Rattle.geo_terms.specs.Constructions.{Construction}
use Rattle.proof_log.specs.declared.log.Line.{Line}
use Rattle.proof_printer.specs.Inner.Reading.{IsKept}
use Rattle.proof_printer.specs.Naming.{Naming}
use Rattle.proof_printer.specs.Readable.{lines_of, polynomial_after}
use Rattle.proof_printer.specs.declared.reading.Before.{Before}

-- where the line is this one
pub text_as : {A E : Type 0} (n : Naming) (c : Construction) (result : Result A E) (old new : List ℕ) (q : Summands) (l m : Line) → l ≡ m
    → OnOk result (new ≡ old ++ lines_of n c q m) → OnOk result (new ≡ old ++ lines_of n c q l)
text_as n c result old new q l m is h = subst (λ (x : Line). OnOk result (new ≡ old ++ lines_of n c q x)) (sym is) h

pub kept_as : {E : Type 0} (result : Result Before E) (q : Summands) (l m : Line) → l ≡ m → IfOk result (λ after. IsKept after (polynomial_after q m))
    → IfOk result (λ after. IsKept after (polynomial_after q l))
kept_as result q l m is h = subst (λ (x : Line). IfOk result (λ after. IsKept after (polynomial_after q x))) (sym is) h
