-- The verdict of the prover's list decides.
use Rattle.std.proofs.Common.{◌≡◌, ℕ, ◌<◌, ◌^◌, List, refl}
use Rattle.geo_program.specs.WellFormed.{IsWellFormed, Source}
use Rattle.proof_log.specs.declared.log.Line.{Line}
use Rattle.proof_log.specs.declared.log.Verdict.{Verdict}
use Rattle.proof_log.specs.declared.log.Verdict.TheVariants.{Proved, False, Impossible}
use Rattle.geo_logs.specs.Defined.{IsLogOfProver}
use Rattle.elim_apply.specs.LemmaTable.{lemma_table}
use Rattle.geo_logs.specs.Logs.{Subject}
use Rattle.geo_logs.proofs.AcceptedProvers.{provers_log_accepted}
use Rattle.elim_apply.proofs.MoveRows.{lemma_table_sound}
use Rattle.log_checker.specs.Laws.{DefinedLogsAreAccepted, DefinedVerdictsDecide, IsAcceptedLog, IsDecided, Means}
use Rattle.log_checker.specs.Subjects.{IsSubjectOf}
use Rattle.log_checker.proofs.Meanings.{meanings_exclude}
use Rattle.log_checker.proofs.Realised.{conditions_named, goals_named}
use Rattle.log_checker.proofs.ThreeVerdicts.{false_breaks, impossible_is_never_met, proved_is_true}
use Rattle.log_checker.proofs.Verdicts.{parts_of, valid}

-- the prover's list is an accepted one
pub defined_accepted : (p : Source) (subject : Subject) (steps left : ℕ) (lines : List Line) (verdict : Verdict) → IsWellFormed p → IsSubjectOf p subject → steps < 2 ^ 127
    → IsLogOfProver lemma_table subject steps lines verdict left → IsAcceptedLog p steps lines verdict
defined_accepted p subject steps left lines verdict w s small h =
    let parts = parts_of p subject s in
    let found = provers_log_accepted lemma_table subject steps left lines verdict (lemma_table_sound subject.construction (valid p subject w parts))
    (conditions_named p subject w parts) (goals_named p subject w parts) small h in
    record { well_formed = w; subject = subject; about = s; left = found.0; accepted = found.2 }

-- an accepted verdict means what it says
pub means : (p : Source) (steps : ℕ) (lines : List Line) (verdict : Verdict) → IsAcceptedLog p steps lines verdict → Means p verdict
means p steps lines Proved a = proved_is_true p steps lines a
means p steps lines (False g) a =
    let b = (false_breaks p steps g lines a).2 in record { placed = b.placed; meets = b.meets; fails = b.fails b.placed b.has b.meets }
means p steps lines (Impossible k) a = (impossible_is_never_met p steps k lines a).0

-- and then no other does
pub decided : (p : Source) (verdict : Verdict) → Means p verdict → IsDecided p verdict
decided p Proved m = record {
  proved = (λ e. m, λ t. refl);
  refuted = (λ e. absurd (let q : Proved ≡ False e.0 = e.1 in cc), λ r. absurd (meanings_exclude.true_or_refuted p m r));
  impossible = (λ e. absurd (let q : Proved ≡ Impossible e.0 = e.1 in cc), λ i. absurd (meanings_exclude.true_or_impossible p m i));
}
decided p (False g) m = record {
  proved = (λ e. absurd (let q : False g ≡ Proved = e in cc), λ t. absurd (meanings_exclude.true_or_refuted p t m));
  refuted = (λ e. m, λ r. (g, refl));
  impossible = (λ e. absurd (let q : False g ≡ Impossible e.0 = e.1 in cc), λ i. absurd (meanings_exclude.refuted_or_impossible p m i));
}
decided p (Impossible k) m = record {
  proved = (λ e. absurd (let q : Impossible k ≡ Proved = e in cc), λ t. absurd (meanings_exclude.true_or_impossible p t m));
  refuted = (λ e. absurd (let q : Impossible k ≡ False e.0 = e.1 in cc), λ r. absurd (meanings_exclude.refuted_or_impossible p r m));
  impossible = (λ e. m, λ i. (k, refl));
}

pub defined_verdicts_decide : DefinedVerdictsDecide
defined_verdicts_decide p subject steps left lines verdict w s small h =
    decided p verdict (means p steps lines verdict (defined_accepted p subject steps left lines verdict w s small h.0))

pub defined_logs_are_accepted : DefinedLogsAreAccepted
defined_logs_are_accepted p subject steps left lines verdict w s small h = defined_accepted p subject steps left lines verdict w s small h.0
