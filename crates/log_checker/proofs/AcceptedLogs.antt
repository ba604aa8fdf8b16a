-- What an accepted log over the lemma table shows.
use Rattle.std.proofs.Common.{subst}
use Rattle.proof_log.specs.declared.log.Verdict.{Verdict}
use Rattle.log_checker.specs.Shown.{AcceptedLogsAreTrue}
use Rattle.elim_apply.specs.LemmaTable.{lemma_table}
use Rattle.geo_logs.specs.Logs.{IsAccepted}
use Rattle.geo_logs.proofs.AcceptedGoals.{goals_are_zero}
use Rattle.geo_logs.proofs.AcceptedSamples.{sample_realises}
use Rattle.elim_apply.proofs.MoveRows.{lemma_table_sound}
use Rattle.geo_logs.proofs.TermVariables.{term_sound}
use Rattle.log_checker.proofs.ChainsBelow.{never_below}

pub accepted_true : AcceptedLogsAreTrue
accepted_true subject steps left lines verdict valid accepted =
    let sound = lemma_table_sound subject.construction valid in
    record {
      zero = λ i goal at says placed met has_value. goals_are_zero lemma_table subject steps left lines verdict sound accepted i goal at
          says (term_sound subject.construction goal.term) placed met has_value;
      never = λ k is. never_below subject steps left k lines valid (subst (λ (v : Verdict). IsAccepted lemma_table subject steps lines v left) is accepted);
      sample = sample_realises lemma_table subject steps left lines verdict sound accepted;
    }
