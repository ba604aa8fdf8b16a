use Rattle.std.proofs.Common.{inl, inr, refl, arith}
use Rattle.geo_discover.proofs.Putting.{if_err}
use Rattle.geo_discover.proofs.search.Search.add_impossible.Goals as goal

pub returns-in_err-put_impossible-clause-err : goal.returns-in_err-put_impossible-clause-err
returns-in_err-put_impossible-clause-err g c =
    if_err _ _ c.in_err-put_impossible.field-0.0 c.from_residual.ensures.1 (omega arith, inr c.in_err-put_impossible.ensures.err)

pub returns-clause-err : goal.returns-clause-err
returns-clause-err g c = (omega arith, inl (refl, c.put_impossible.new.text.bytes, c.in_ok-put_impossible.ensures.ok))
