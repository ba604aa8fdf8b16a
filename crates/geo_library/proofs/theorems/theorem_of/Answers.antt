use Rattle.std.proofs.Common.{◌≡◌, ◌≢◌, rules}
use Rattle.proof_log.specs.declared.log.Verdict.TheVariants.{Proved}
use Rattle.geo_library.proofs.WhyNoTheorem.{line_told, unproved_told}
use Rattle.geo_library.proofs.theorems.theorem_of.Goals as goal

pub returns-then-ne-clause-refused : goal.returns-then-ne-clause-refused
returns-then-ne-clause-refused c = λ bytes rest b.
    let n : c.in_ok-accepted.accepted.verdict ≢ Proved = search rules in
    unproved_told bytes c.args.log.now rest c.args.steps b c.in_ok-accepted.accepted c.in_ok-accepted.ensures.accepted n

pub returns-in-Some-clause-refused : goal.returns-in-Some-clause-refused
returns-in-Some-clause-refused c = λ bytes rest b.
    let e : c.in_ok-accepted.accepted.verdict ≡ Proved = search rules in
    line_told bytes c.args.log.now rest c.args.steps b c.in_ok-accepted.accepted c.in-Some.place c.as_slice.result.now c.as_slice.ensures c.in_ok-accepted.ensures.accepted e
    c.in-Some.ensures.within c.in-Some.ensures.lines c.in-Some.ensures.first
