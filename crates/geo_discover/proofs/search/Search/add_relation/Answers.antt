use Rattle.std.proofs.Common.{map, refl, ◌∙◌, arith}
use Rattle.proof_log.specs.Lines.{line_text}
use Rattle.geo_discover.proofs.Judging.{log_lines}
use Rattle.geo_discover.proofs.Putting.{breaks_behind, breaks_front, if_err, puts_both}
use Rattle.geo_discover.proofs.search.Search.add_relation.Goals as goal

pub returns-in_err-put_candidate-clause-err : goal.returns-in_err-put_candidate-clause-err
returns-in_err-put_candidate-clause-err g c =
    if_err _ _ c.in_err-put_candidate.field-0.0 c.from_residual.ensures.1
    (λ lines is one. breaks_front _ (map line_text lines) _ _ _ _ _ _ c.in_err-put_candidate.ensures.err)

pub returns-in_err-put_lines-clause-err : goal.returns-in_err-put_lines-clause-err
returns-in_err-put_lines-clause-err g c =
    if_err _ _ c.in_err-put_lines.field-0.0 c.from_residual-in_err-put_lines.ensures.1
    (λ lines is one. breaks_behind _ (map line_text lines) _ _ _ _ _ _ _ _ _ c.in_ok-put_candidate.ensures.ok c.put_candidate.ensures.faults
    (c.in_err-put_lines.ensures.err (map line_text lines) (c.bytes.ensures ∙ is ∙ log_lines lines) one))

pub returns-clause-ok : goal.returns-clause-ok
returns-clause-ok g c =
    λ lines is one. record {
      examined = omega arith;
      related = omega arith;
      unsettled = omega arith;
      first = refl;
      put = puts_both _ (map line_text lines) _ _ _ _ _ _ c.in_ok-put_candidate.ensures.ok
          (c.in_ok-put_lines.ensures.ok (map line_text lines) (c.bytes.ensures ∙ is ∙ log_lines lines) one);
    }
