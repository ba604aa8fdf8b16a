use Rattle.std.proofs.Common.{inl, inr}
use Rattle.geo_discover.proofs.Putting.{if_err}
use Rattle.geo_discover.proofs.search.Search.conclude.Goals as goal

pub returns-in_err-put_counts-clause-err : goal.returns-in_err-put_counts-clause-err
returns-in_err-put_counts-clause-err g c =
    if_err _ _ c.in_err-put_counts.field-0.0 c.from_residual.ensures.1 (inr c.in_err-put_counts.ensures.err)

pub returns-in-Some-clause-err : goal.returns-in-Some-clause-err
returns-in-Some-clause-err g c = inl (c.in-Some.error, c.put_counts.new.text.bytes, c.in-Some.is, c.answer_to.ensures, c.in_ok-put_counts.ensures.ok)
