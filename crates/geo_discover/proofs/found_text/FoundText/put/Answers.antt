use Rattle.geo_discover.proofs.Putting.{cut_off, fits_by, if_err, puts_one, too_long}
use Rattle.geo_discover.proofs.found_text.FoundText.put.Goals as goal

pub returns-in_err-after-clause-err : goal.returns-in_err-after-clause-err
returns-in_err-after-clause-err g c =
    if_err _ _ c.in_err-after.field-0.0 c.from_residual.ensures.1
    (λ l is. too_long l c.args.line.now c.args.self.now.bytes (g.K.Sink.held c.args.sink.now) (g.K.Sink.held c.args.sink.now)
    (g.K.Sink.faults c.args.sink.now) (g.K.Sink.faults c.args.sink.now) is c.args.self.now.within c.in_err-after.field-0.0 c.in_err-after.ensures.err)

pub returns-in_err-write_text-clause-err : goal.returns-in_err-write_text-clause-err
returns-in_err-write_text-clause-err g c =
    if_err _ _ c.in_err-write_text.field-0.0 c.from_residual-in_err-write_text.ensures.1
    (λ l is. cut_off l c.args.line.now c.args.self.now.bytes (g.K.Sink.held c.args.sink.now) (g.K.Sink.held c.write_text.new.sink)
    (g.K.Sink.faults c.args.sink.now) (g.K.Sink.faults c.write_text.new.sink) is c.args.self.now.within c.in_err-write_text.field-0.0
    (fits_by _ _ c.in_ok-after.ensures.sum c.in_ok-after.ensures.fits) c.in_err-write_text.ensures.err)

pub returns-clause-ok : goal.returns-clause-ok
returns-clause-ok g c =
    λ l is. puts_one l c.args.line.now c.args.self.now.bytes c.in_ok-after.after (g.K.Sink.held c.args.sink.now) (g.K.Sink.held c.write_text.new.sink) is
    c.in_ok-after.ensures.sum c.in_ok-after.ensures.fits c.in_ok-write_text.ensures.ok
