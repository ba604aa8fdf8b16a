use Rattle.geo_chain.proofs.Handing.{if_err}
use Rattle.geo_chain.proofs.log_writer.LogWriter.write.Goals as goal

pub returns-in_err-size-clause-err : goal.returns-in_err-size-clause-err
returns-in_err-size-clause-err g c = if_err _ _ c.in_err-size.field-0.0 c.from_residual.ensures.1
    (c.in_err-size.ensures.err c.args.self.now.lines)
