use Rattle.std.proofs.Common.{drop}
use Rattle.geo_program.specs.Programs.{source_of}
use Rattle.geo_lowering.specs.Parts.{layout_at}
use Rattle.geo_lowering.proofs.Begun.{IsBegun}
use Rattle.geo_lowering.proofs.lowering.push_commands.Given as goal

-- the steps of the first commands are pushed
abbrev pub invariant-loop-command : goal.invariant-loop-command
invariant-loop-command l =
    IsBegun l.version (source_of l.program) (layout_at l.places) l.steps l.terms l.fractions (drop l.command-index l.program.commands)
