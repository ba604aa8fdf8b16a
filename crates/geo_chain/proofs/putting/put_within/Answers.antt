use Rattle.std.proofs.Common.{subst, sym}
use Rattle.geo_chain.specs.declared.size.Size.{Size}
use Rattle.geo_chain.specs.Written.{IsUnwritten, State}
use Rattle.geo_chain.proofs.Handing.{if_err}
use Rattle.geo_chain.proofs.putting.put_within.Goals as goal

pub returns-in_err-put_text-in-Written-clause-err : goal.returns-in_err-put_text-in-Written-clause-err
returns-in_err-put_text-in-Written-clause-err g c =
    λ lines.
    let before : Size
    → State = λ z. record { lines = lines; size = z; held = g.K.Sink.held c.args.sink.now; faults = g.K.Sink.faults c.args.sink.now } in
    let after : Size
    → State = λ z. record {
      lines = lines;
      size = z;
      held = g.K.Sink.held c.put_text.new.sink;
      faults = g.K.Sink.faults
          c.put_text.new.sink;
    } in
    let e = c.in_err-put_text-in-Written.field-0.0 in
    if_err _ _ e c.from_residual.ensures.1 (subst (λ (z : Size). IsUnwritten c.args.line.now (before z) (after z) e) (sym c.in-Written.is)
    (c.in_err-put_text-in-Written.ensures.err lines))
