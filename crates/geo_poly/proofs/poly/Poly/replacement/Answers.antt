use Rattle.std.proofs.Common.{List, ℕ, Option, sym, ap, subst, arith}
use Rattle.std.specs.Prelude.{IfSome}
use Rattle.geo_poly.specs.declared.variables.Var.{Var}
use Rattle.geo_poly.specs.Inner.Limits.{AreLimits, HaveRoom, exponent_anywhere}
use Rattle.geo_poly.specs.Polynomials.{Summands}
use Rattle.mono_store.specs.Words.{Limits}
use Rattle.geo_poly.proofs.ExponentLimits.{AreLimits-less}
use Rattle.geo_poly.proofs.poly.Poly.replacement.Goals as goal

pub packed_replacement-requires-clause-room : goal.packed_replacement-requires-clause-room
packed_replacement-requires-clause-room g c =
    let rows = c.args.rows.now in
    let den = c.args.den.now in
    let top = c.args.top in
    let names = c.as_slice-names.result.now in
    let bound = λ (v : Var). exponent_anywhere v rows den top c.args.self.now in
    let limits = AreLimits-less names _ bound c.in_ok-limits.limits.items
    (λ v. omega (arith, ap (λ (q : Summands). exponent_anywhere v rows den top q) c.shared.ensures.terms)) c.in_ok-limits.ensures in
    let given = subst (λ (ns : List ℕ). AreLimits names bound ns) (sym c.deref.ensures.value) limits in
    let room = subst (λ (found : Option Limits). IfSome found (λ f. HaveRoom names f bound)) c.in-Some.is (c.in_ok-words.ensures bound given) in
    subst (λ (vs : List Var). HaveRoom vs c.in-Some.words bound) c.as_slice-names.ensures room

pub packed_replacement-requires-in-Some-2-clause-room : goal.packed_replacement-requires-in-Some-2-clause-room
packed_replacement-requires-in-Some-2-clause-room g c =
    let rows = c.args.rows.now in
    let den = c.args.den.now in
    let top = c.args.top in
    let names = c.as_slice-names.result.now in
    let bound = λ (v : Var). exponent_anywhere v rows den top c.args.self.now in
    let limits = AreLimits-less names _ bound c.in_ok-limits-2.limits.items
    (λ v. omega (arith, ap (λ (q : Summands). exponent_anywhere v rows den top q) c.shared.ensures.terms)) c.in_ok-limits-2.ensures in
    let given = subst (λ (ns : List ℕ). AreLimits names bound ns) (sym c.deref-2.ensures.value) limits in
    let room = subst (λ (found : Option Limits). IfSome found (λ f. HaveRoom names f bound)) c.in-Some-2.is (c.in_ok-words-2.ensures bound given) in
    subst (λ (vs : List Var). HaveRoom vs c.in-Some-2.words bound) c.as_slice-names.ensures room
