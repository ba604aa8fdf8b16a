-- What an accepted log over the lemma table shows of its subject.
use Rattle.std.specs.Prelude.{◌≡◌, ℕ, suc, ℤ, pos, Some, List, [], ◌∷◌, ◌++◌, map, slice_get}
use Rattle.ring_laws.specs.Fraction.{Same, whole}
use Rattle.geo_points.specs.Placements.{Placement}
use Rattle.geo_poly.specs.declared.variables.Var.{Var}
use Rattle.geo_terms.specs.Constructions.{IsConstruction, MeetsSteps}
use Rattle.geo_terms.specs.TermBounds.{IsTermBelow}
use Rattle.geo_terms.specs.Values.{HasTreeValue, tree_value}
use Rattle.elim_apply.specs.LemmaTable.{lemma_table}
use Rattle.proof_log.specs.declared.log.Line.{Line}
use Rattle.proof_log.specs.declared.log.Line.TheVariants.{Sample, Verdict as VerdictLine}
use Rattle.proof_log.specs.declared.log.Verdict.{Verdict}
use Rattle.proof_log.specs.declared.log.Verdict.TheVariants.{Impossible}
use Rattle.geo_logs.specs.Laws.{GivesConditions, GivesFailure, HasSample, SaysZero}
use Rattle.geo_logs.specs.Logs.{IsAccepted, Item, Subject}
use Rattle.geo_logs.specs.Placements.{HoldsAsCondition, MeetsStepsBelow}
use Rattle.geo_logs.specs.Samples.{sample_variables}

-- ACCEPTED LOGS
-- what a list of lines with this verdict shows of its subject
pub record IsShown (subject : Subject) (lines : List Line) (verdict : Verdict) : Type 0 where
  -- in every placement that meets the steps, each goal that the verdict says 0 is 0 wherever it has a value
  pub zero : (i : ℕ) (goal : Item) → slice_get subject.goals i ≡ Some goal → SaysZero verdict i → (placed : Placement)
      → MeetsSteps placed subject.construction
      → HasTreeValue placed goal.term → Same (tree_value placed goal.term) (whole (pos 0))
  -- a condition that is called impossible holds in no placement that meets the steps of the points below n, where its term names no others
  pub never : (k : ℕ) → verdict ≡ Impossible k
      → (i : ℕ) × (condition : Item) × (k ≡ suc i) × (slice_get subject.conditions i ≡ Some condition)
      × ((placed : Placement) (n : ℕ) → MeetsStepsBelow placed subject.construction n
      → IsTermBelow n subject.construction.params condition.term → HoldsAsCondition placed condition.term → ⊥)
  -- else a sample stands before the verdict, which gives the conditions, and the failing goal
  pub sample : HasSample verdict
      → (before : List Line) × (values : List (Var × ℤ)) × (lines ≡ before ++ Sample values ∷ VerdictLine verdict ∷ [])
      × (map (λ v. v.0) values ≡ sample_variables subject.construction) × GivesConditions subject values
      × GivesFailure subject values verdict

-- an accepted log over the lemma table shows this of every construction: nothing is asked of rows and terms any more
abbrev pub AcceptedLogsAreTrue : Type 0
AcceptedLogsAreTrue =
    (subject : Subject) (steps left : ℕ) (lines : List Line) (verdict : Verdict) → IsConstruction subject.construction
    → IsAccepted lemma_table subject steps lines verdict left → IsShown subject lines verdict
