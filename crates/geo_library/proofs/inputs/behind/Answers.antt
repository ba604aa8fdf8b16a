use Rattle.std.proofs.Common.{ℕ, List, ◌++◌, sym, ap, ◌∙◌}
use Rattle.proof_log.proofs.Texts.{strip_none, strip_some}
use Rattle.geo_library.proofs.ReadingNames.{if_none}
use Rattle.geo_library.proofs.inputs.behind.Goals as goal

pub returns-in_err-rest-clause-none : goal.returns-in_err-rest-clause-none
returns-in_err-rest-clause-none c = if_none c.from_residual.result _ (λ rest is. strip_none c.args.text.now c.args.bytes.now c.in_err-rest.ensures.cases rest is)

pub returns-clause-some : goal.returns-clause-some
returns-clause-some c = strip_some c.args.text.now c.args.bytes.now c.in_ok-rest.ensures.cases.0 ∙ ap (λ (l : List ℕ). c.args.text.now ++ l) (sym c.in_ok-rest.ensures.cases.1)
