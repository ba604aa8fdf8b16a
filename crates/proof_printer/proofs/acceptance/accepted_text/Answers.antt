use Rattle.std.proofs.Common.{rules}
use Rattle.geo_conditions.specs.Problems.{form_of_problem}
use Rattle.geo_program.specs.Programs.{source_of}
use Rattle.proof_printer.proofs.Listed.{text_of_accepted}
use Rattle.proof_printer.proofs.acceptance.accepted_text.Goals as goal

pub returns : goal.returns
returns c = text_of_accepted (source_of c.args.program.now) (form_of_problem c.in_ok-problem.problem).construction.nodes _ c.args.verdict _ c.in_ok-problem.ensures.conditions.are (search rules)
