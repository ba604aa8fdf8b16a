use Rattle.std.proofs.Common.{◌≡◌, ◌<◌, ◌^◌, ◌∙◌, sym, subst, arith}
use Rattle.geo_lowering.specs.declared.version.Version.{Version}
use Rattle.geo_program.specs.Programs.{source_of}
use Rattle.proof_log.specs.Writable.{IsVersion}
use Rattle.log_checker.proofs.VersionNumbers.{one_version, version_is}
use Rattle.proof_printer.specs.Inner.Names.{naming_in}
use Rattle.proof_printer.specs.Inner.Printing.{IsConstructionOf}
use Rattle.proof_printer.specs.Naming.{naming_of}
use Rattle.proof_printer.proofs.AcceptedProofs.{accepted_printable, printed_is_proof}
use Rattle.proof_printer.proofs.printing.text.Goals as goal

pub version_of-version-requires : goal.version_of-version-requires
version_of-version-requires c =
    let answer = c.in_ok-accepted.ensures.accepted in
    let about = answer.accepts.accepted.about in
    subst IsVersion (sym (answer.version ∙ about.same_version)) (version_is about.version)

pub print-requires : goal.print-requires
print-requires c =
    let few : c.args.steps < 2 ^ 128 = omega arith in
    let printer = c.in_ok-printer.printer in
    let accepted = c.in_ok-accepted.accepted in
    let answer = c.in_ok-accepted.ensures.accepted in
    let about = answer.accepts.accepted.about in
    let version = one_version c.version_of-version.result about.version (c.version_of-version.ensures ∙ answer.version ∙ about.same_version) in
    let of = subst (λ (v : Version). IsConstructionOf v (source_of accepted.program) printer.steps) version c.in_ok-printer.ensures.steps in
    accepted_printable (source_of accepted.program) printer.steps c.args.bytes.now c.args.steps accepted.verdict answer.accepts of few

pub returns-clause-readable : goal.returns-clause-readable
returns-clause-readable c =
    let printer = c.in_ok-printer.printer in
    let accepted = c.in_ok-accepted.accepted in
    let answer = c.in_ok-accepted.ensures.accepted in
    let about = answer.accepts.accepted.about in
    let version = one_version c.version_of-version.result about.version (c.version_of-version.ensures ∙ answer.version ∙ about.same_version) in
    let of = subst (λ (v : Version). IsConstructionOf v (source_of accepted.program) printer.steps) version c.in_ok-printer.ensures.steps in
    let named = subst (λ (v : Version). naming_in printer.namer ≡ naming_of v (source_of accepted.program)) version c.in_ok-printer.ensures.names in
    printed_is_proof (source_of accepted.program) printer.steps (naming_in printer.namer) c.args.bytes.now c.in_ok-print.field-0 c.args.steps accepted.verdict
    answer.accepts of named c.in_ok-accepted.ensures.means c.in_ok-print.ensures
