use Rattle.std.proofs.Common.{◌≡◌, FitsSigned, pos, to_z, unsigned_abs, sym, ap, ◌∙◌, rules}
use Rattle.std.specs.Int.{w128}
use Rattle.std.proofs.lemmas.Int.{to_z-of_z}
use Rattle.geo_sample.proofs.OneTerm.{lacking_term}
use Rattle.geo_sample.proofs.single_terms.SingleTerm.put_number.Goals as goal
use Rattle.geo_sample.proofs.single_terms.SingleTerm.put_number.Goals.{else-coefficient-ne0-via-then-coefficient-ne0+else-exponent-ne0, else-coefficient-ne0-via-else-coefficient-ne0}

pub returns-else-coefficient-ne0-clause-put : goal.returns-else-coefficient-ne0-clause-put
returns-else-coefficient-ne0-clause-put c = λ some. elim c.else-coefficient-ne0.branch [
  | else-coefficient-ne0-via-then-coefficient-ne0+else-exponent-ne0 w ↦
      sym (lacking_term c.args.v c.args.number c.args.self.now c.is_valid.ensures.monomial (sym c.exponent-exponent.ensures ∙ w.if-exponent-ne0.false))
  | else-coefficient-ne0-via-else-coefficient-ne0 w ↦
      let fits : FitsSigned w128 c.coefficient.result = search rules in
      let none : c.coefficient.result ≡ pos 0 = sym (to_z-of_z w128 c.coefficient.result fits) ∙ ap (to_z w128) w.if-coefficient-ne0.false in
      absurd (some (ap unsigned_abs (sym c.coefficient.ensures ∙ none)))
]
