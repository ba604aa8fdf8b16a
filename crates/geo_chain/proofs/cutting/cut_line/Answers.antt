use Rattle.std.proofs.Common.{◌≡◌, ◌≢◌, true, false, [], sym, ◌∙◌}
use Rattle.geo_poly.proofs.FactorDivision.{factor_quotient}
use Rattle.geo_chain.proofs.DueCuts.{cut_made}
use Rattle.geo_chain.proofs.cutting.cut_line.Goals as goal

pub unreachable-requires : goal.unreachable-requires
unreachable-requires c =
    let some : c.args.p.now ≢ [] = λ e. absurd (let q : true ≡ false = sym (c.is_zero.ensures.1 e) ∙ c.if-is_zero.false in cc) in
    let found = factor_quotient c.args.known.now c.args.p.now c.in_ok-by.by c.is_valid.ensures.valid some c.in_ok-by.ensures in
    let none = rw c.in-None.is at c.in_ok-poly.ensures.none in
    none found.0 found.1 found.2

pub returns-clause-some : goal.returns-clause-some
returns-clause-some c =
    cut_made c.args.known.now c.args.p.now c.in-Some.poly c.in_ok-by.by c.is_valid.ensures.valid
    (λ e. absurd (let q : true ≡ false = sym (c.is_zero.ensures.1 e) ∙ c.if-is_zero.false in cc))
    c.in_ok-by.ensures
    (λ e. absurd (let q : true ≡ false = sym (c.is_one.ensures.1 e) ∙ c.if-is_one.false in cc))
    (rw c.in-Some.is at c.in_ok-poly.ensures.polynomial) (rw c.in-Some.is at c.in_ok-poly.ensures.some)
