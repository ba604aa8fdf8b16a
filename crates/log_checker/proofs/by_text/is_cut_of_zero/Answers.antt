use Rattle.std.proofs.Common.{◌≡◌, subst, rules}
use Rattle.geo_logs.specs.Judging.{IsByKnown}
use Rattle.log_checker.specs.Judged.{IsRead}
use Rattle.log_checker.proofs.ByText.{zero_cut}
use Rattle.log_checker.proofs.by_text.is_cut_of_zero.Goals as goal

pub returns : goal.returns
returns c = λ c' left known.
    let cut = c.in-Some-Cut in
    let vars : c.deref.result.now ≡ c.args.known.now = search rules in
    zero_cut c' c.args.known.now left c.args.bytes.now cut.field-0 cut.by cut.poly (subst (IsRead c.args.bytes.now) cut.is c.in_ok-by.ensures) cut.field-0-is
    (c.if-not-is_zero.ensures.0 (search rules)) c.coef.ensures.valid
    (subst (λ v. IsByKnown v cut.by.0) vars (c.is_by_known.ensures.0 known))
