use Rattle.std.proofs.Common.{List, ℕ, sym, subst, ◌∙◌, arith}
use Rattle.std.proofs.lemmas.Result.{IfOk-weaker}
use Rattle.geo_poly.specs.declared.variables.Var.{Var}
use Rattle.geo_poly.specs.Chained.{StandsUnder}
use Rattle.geo_poly.specs.Inner.Words.{word_keys}
use Rattle.geo_poly.specs.Polynomials.{IsPolynomial, polynomial_of}
use Rattle.geo_poly.specs.Replace.{replaced_by, replaced_terms}
use Rattle.geo_poly.proofs.ReplaceTerms.{IsPolynomial-replaced}
use Rattle.geo_poly.proofs.poly.Poly.packed_replacement.Goals as goal

pub keyed_replacement-requires-clause-rows_reach : goal.keyed_replacement-requires-clause-rows_reach
keyed_replacement-requires-clause-rows_reach g c = rw c.as_slice-names.ensures (λ i known. omega (arith, c.requires.room.each i known))

pub keyed_replacement-requires-clause-den_reach : goal.keyed_replacement-requires-clause-den_reach
keyed_replacement-requires-clause-den_reach g c = rw c.as_slice-names.ensures (λ i known. omega (arith, c.requires.room.each i known))

pub keyed_replacement-requires-clause-reach : goal.keyed_replacement-requires-clause-reach
keyed_replacement-requires-clause-reach g c = rw c.as_slice-names.ensures (λ i known. omega (arith, c.requires.room.each i known))

pub from_words-requires-clause-keys : goal.from_words-requires-clause-keys
from_words-requires-clause-keys g c =
    let keys = word_keys c.keyed_replacement.new.keys in
    let stands = subst (λ (vs : List Var). StandsUnder vs keys c.keyed_replacement.new.arena c.in_ok-chain.chain
    (replaced_by c.args.rows.now c.args.den.now.poly c.args.self.now)) c.as_slice-names.ensures c.in_ok-chain.ensures.chain in
    stands.keys

pub from_words-requires-clause-polynomial : goal.from_words-requires-clause-polynomial
from_words-requires-clause-polynomial g c =
    let rows = c.args.rows.now in
    let den = c.args.den.now in
    let keys = word_keys c.keyed_replacement.new.keys in
    let stands = subst (λ (vs : List Var). StandsUnder vs keys c.keyed_replacement.new.arena c.in_ok-chain.chain
    (replaced_by rows den.poly c.args.self.now)) c.as_slice-names.ensures c.in_ok-chain.ensures.chain in
    let whole = subst (λ (n : ℕ). IsPolynomial (polynomial_of (replaced_terms rows den.poly n c.args.self.now))) c.requires.top
    (IsPolynomial-replaced rows den c.args.top c.args.self.now c.requires.can) in
    subst IsPolynomial (sym stands.terms) whole

pub returns-clause-replaced : goal.returns-clause-replaced
returns-clause-replaced g c =
    let keys = word_keys c.keyed_replacement.new.keys in
    let stands = subst (λ (vs : List Var). StandsUnder vs keys c.keyed_replacement.new.arena c.in_ok-chain.chain
    (replaced_by c.args.rows.now c.args.den.now.poly c.args.self.now)) c.as_slice-names.ensures c.in_ok-chain.ensures.chain in
    IfOk-weaker c.from_words.result _ _ (λ p h. h ∙ stands.terms) c.from_words.ensures
