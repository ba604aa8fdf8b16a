use Rattle.geo_discover.proofs.Putting.{if_err}
use Rattle.geo_discover.proofs.search.Search.add_open.Goals as goal

pub returns-in_err-put_candidate-clause-err : goal.returns-in_err-put_candidate-clause-err
returns-in_err-put_candidate-clause-err g c =
    if_err _ _ c.in_err-put_candidate.field-0.0 c.from_residual.ensures.1 (λ lines. c.in_err-put_candidate.ensures.err)
