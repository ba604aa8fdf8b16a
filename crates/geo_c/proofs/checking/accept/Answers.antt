use Rattle.std.proofs.Common.{rules, subst}
use Rattle.proof_printer.specs.Due.{IsAcceptedText}
use Rattle.geo_program.specs.Programs.{source_of}
use Rattle.geo_c.proofs.Accepted.{acceptance_told}
use Rattle.geo_c.proofs.checking.accept.Goals as goal

pub returns-in-Ok : goal.returns-in-Ok
returns-in-Ok c = λ bytes steps short accepted.
    acceptance_told bytes steps _ _ _ _ (source_of c.args.program.now) c.args.verdict _ _ short accepted
    (subst (IsAcceptedText (source_of c.args.program.now) c.args.verdict) (search rules) c.in-Ok.ensures) c.of_verdict.ensures c.tell.ensures
