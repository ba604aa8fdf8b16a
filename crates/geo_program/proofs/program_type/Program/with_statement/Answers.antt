use Rattle.std.proofs.Common.{◌∙◌}
use Rattle.geo_program.specs.Programs.{source_of}
use Rattle.geo_program.proofs.Propositions.{program_well_formed}
use Rattle.geo_program.proofs.Restated.{restated}
use Rattle.geo_program.proofs.program_type.Program.with_statement.Goals as goal

pub invariant_of-result : goal.invariant_of-result
invariant_of-result c =
    let p = source_of c.args.self.now in
    let h = restated p c.args.statement c.requires.relation (program_well_formed c.args.self.now) c.requires.points c.requires.short
    c.in_ok-names.names c.in_ok-terms.terms c.in_ok-items.items.items c.in_ok-names.ensures c.in_ok-terms.ensures
    (c.in_ok-items.ensures.items ∙ c.as_slice.ensures) in
    record { spelt = ∣ h.spelt ∣₁; short = h.short }
