use Rattle.std.proofs.Common.{ap, sym, ◌∙◌}
use Rattle.std.specs.Prelude.{IsTrue}
use Rattle.std.specs.Option.{option_copied}
use Rattle.geo_poly.specs.Monomials.{IsEarlier}
use Rattle.proof_log.proofs.Growth.{if_last, last_by_get}
use Rattle.proof_log.proofs.terms.is_after.Goals as goal

pub returns-in-Some : goal.returns-in-Some
returns-in-Some c = if_last (λ t. IsEarlier t.0 c.args.term.now.0) c.args.list.now c.in-Some.last.now (IsTrue c.before-in-Some.result)
    (last_by_get c.args.list.now c.deref.result.now c.in-Some.last.now (c.deref.ensures.value ∙ c.list.view_is) (sym c.last.ensures.value ∙ ap option_copied c.in-Some.is))
    c.before-in-Some.ensures
