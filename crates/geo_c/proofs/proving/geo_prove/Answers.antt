use Rattle.std.proofs.Common.{arith}
use Rattle.geo_c.proofs.Decided.{proves}
use Rattle.geo_c.proofs.OneDue.{proof_told}
use Rattle.geo_c.proofs.proving.geo_prove.Goals as goal

pub returns-clause-decides : goal.returns-clause-decides
returns-clause-decides c = λ verdict says.
    let fits = c.ranges.steps.fits in proves c.args.text.now c.args.steps _ _ _ _ verdict says (omega (arith, fits)) c.prove_text.ensures

pub returns-clause-complete : goal.returns-clause-complete
returns-clause-complete c = proof_told c.args.text.now c.args.steps _ _ _ _ c.prove_text.ensures
