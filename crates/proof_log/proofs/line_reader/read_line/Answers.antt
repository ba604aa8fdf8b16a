use Rattle.std.proofs.Common.{subst}
use Rattle.std.specs.Prelude.{ℕ, List}
use Rattle.proof_log.specs.declared.errors.LineError.TheVariants.{BadLine}
use Rattle.proof_log.specs.Inner.Leads.{leads}
use Rattle.proof_log.specs.Inner.Reading.{Begins, NoneBegins}
use Rattle.proof_log.proofs.Growth.{from_err, from_ok_or}
use Rattle.proof_log.proofs.LineLeads.{exact_line, no_lead}
use Rattle.proof_log.proofs.line_reader.read_line.Goals as goal

pub returns-in_err-lead-clause-bad : goal.returns-in_err-lead-clause-bad
returns-in_err-lead-clause-bad c = λ _.
    no_lead c.args.bytes.now
    (subst (λ (l : List ℕ). NoneBegins leads l) c.new-reader.ensures
    (c.lead.ensures.none (from_err c.lead.result BadLine c.ok_or.result c.in_err-lead.field-0.0 c.ok_or.ensures.value
    c.in_err-lead.was)))

pub returns-clause-exact : goal.returns-clause-exact
returns-clause-exact c = λ l writable text.
    let at = from_ok_or (λ z. Begins leads c.new-reader.result z c.lead.new.self) c.lead.result BadLine c.ok_or.result c.in_ok-lead.lead c.ok_or.ensures.value c.in_ok-lead.was c.lead.ensures.some in
    let read = subst (λ (s : List ℕ). Begins leads s c.in_ok-lead.lead c.lead.new.self) c.new-reader.ensures at in
    exact_line c.body.result c.args.bytes.now c.lead.new.self c.in_ok-lead.lead l read c.body.ensures.line writable text
