-- What each of the three verdicts proves.
use Rattle.std.proofs.Common.{ℕ, List, ap, ◌∙◌}
use Rattle.geo_points.specs.Placements.{Placement}
use Rattle.geo_program.specs.WellFormed.{Source}
use Rattle.geo_conditions.specs.Truth.{Holds, Meets}
use Rattle.proof_log.specs.declared.log.Line.{Line}
use Rattle.proof_log.specs.declared.log.Verdict.TheVariants.{Proved, False, Impossible}
use Rattle.geo_logs.specs.Samples.{sample_variables}
use Rattle.log_checker.specs.Laws.{AcceptedVerdictsHold, FalseBreaks, ImpossibleIsNeverMet, IsAcceptedLog, ProvedIsTrue}
use Rattle.log_checker.proofs.FailingGoals.{fails_at}
use Rattle.log_checker.proofs.NeverMet.{holds_nowhere, nowhere_is_impossible}
use Rattle.log_checker.proofs.Printed.{sample_values, values_printed}
use Rattle.log_checker.proofs.Realised.{accepted_samples_are_met, broken}
use Rattle.log_checker.proofs.Verdicts.{holds_of_all, parts_of, shown_by}

proved_holds : (p : Source) (steps : ℕ) (lines : List Line) → IsAcceptedLog p steps lines Proved → (placed : Placement) → Meets p placed → Holds p placed
proved_holds p steps lines a = holds_of_all p a.subject a.well_formed (parts_of p a.subject a.about) lines Proved (shown_by p steps lines Proved a) (λ k. tt)

pub proved_is_true : ProvedIsTrue
proved_is_true p steps lines a =
    let r = (accepted_samples_are_met p steps lines Proved a tt).2 in
    record { placed = r.placed; meets = r.meets; holds = proved_holds p steps lines a }

pub false_breaks : FalseBreaks
false_breaks p steps g lines a =
    let s = parts_of p a.subject a.about in
    let shown = shown_by p steps lines (False g) a in
    let h = shown.sample tt in (
      sample_values s.version p h.1,
      record { before = h.0; sample = h.1; split = h.2; printed = values_printed s.version p s.form h.1 s.lowered (h.3 ∙ ap (λ c. sample_variables c) s.built) },
      broken p a.subject a.well_formed s h.1 h.4 g h.5,
      fails_at p a.subject a.well_formed s lines g shown h.1 h.4 h.5,
    )

pub impossible_is_never_met : ImpossibleIsNeverMet
impossible_is_never_met p steps k lines a =
    let nowhere = holds_nowhere p a.subject a.well_formed (parts_of p a.subject a.about) lines k (shown_by p steps lines (Impossible k) a) in
    (nowhere_is_impossible p k nowhere, nowhere)

pub accepted_verdicts_hold : AcceptedVerdictsHold
accepted_verdicts_hold p steps lines Proved a = proved_holds p steps lines a
accepted_verdicts_hold p steps lines (False g) a = tt
accepted_verdicts_hold p steps lines (Impossible k) a = (impossible_is_never_met p steps k lines a).0
