use Rattle.std.proofs.Common.{arith}
use Rattle.std.proofs.lemmas.Result.{IfOk-weaker}
use Rattle.log_checker.proofs.PassedOn.{passed_on}
use Rattle.geo_library.specs.Citations.{IsCitation}
use Rattle.geo_library.specs.Told.{TellsRefusal}
use Rattle.geo_library.proofs.Chained.{citations_hold}
use Rattle.geo_library.proofs.ToldCases.{parts_length}
use Rattle.geo_library.proofs.citing.cite.Goals as goal

pub theorem_of-requires : goal.theorem_of-requires
theorem_of-requires c =
    let l = parts_length c.args.bytes.now c.cut_log.result.0.now c.cut_log.result.1.now c.cut_log.ensures in let b = c.requires in omega (arith, l, b)

pub returns-in_err-theorem-clause-refused : goal.returns-in_err-theorem-clause-refused
returns-in_err-theorem-clause-refused c =
    passed_on c.from_residual.result c.in_err-theorem.field-0.0 (TellsRefusal c.args.bytes.now c.args.steps) c.from_residual.ensures.1
    (c.in_err-theorem.ensures.refused c.args.bytes.now c.cut_log.result.1.now c.cut_log.ensures)

pub cite_theorem-requires-clause-short : goal.cite_theorem-requires-clause-short
cite_theorem-requires-clause-short c =
    let l = parts_length c.args.bytes.now c.cut_log.result.0.now c.cut_log.result.1.now c.cut_log.ensures in let b = c.requires in omega (arith, l, b)

pub returns-clause-cited : goal.returns-clause-cited
returns-clause-cited c = c.cite_theorem.ensures.cited c.args.bytes.now c.cut_log.ensures

pub returns-clause-holds : goal.returns-clause-holds
returns-clause-holds c =
    IfOk-weaker c.cite_theorem.result (IsCitation c.args.bytes.now c.args.steps) _ (λ text h. λ cited placed meets. citations_hold c.args.bytes.now c.args.steps text cited placed meets)
    (c.cite_theorem.ensures.cited c.args.bytes.now c.cut_log.ensures)

pub returns-clause-refused : goal.returns-clause-refused
returns-clause-refused c = c.cite_theorem.ensures.refused c.args.bytes.now c.cut_log.ensures
