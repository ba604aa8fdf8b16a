-- Subjects of one version, of programs with the same lines, have the same logs.
use Rattle.std.proofs.Common.{◌≡◌, List, [], map, sym, ◌∙◌, ap, subst}
use Rattle.geo_program.specs.declared.statements.Statement.{Statement}
use Rattle.geo_program.specs.Spelling.{SameSource}
use Rattle.geo_program.specs.WellFormed.{IsWellFormed, Source}
use Rattle.geo_terms.specs.Constructions.{Construction}
use Rattle.geo_lowering.specs.Lowering.{IsLowered}
use Rattle.geo_lowering.specs.StepForms.{step_form}
use Rattle.geo_lowering.specs.declared.version.Version.{Version}
use Rattle.geo_lowering.proofs.Alike.{lowered_forms_agree, same_programs_lower_alike}
use Rattle.geo_conditions.specs.Lists.{AreConditionItems, AreGoalItems, Found, ItemForm, all_found, condition_item, goal_item}
use Rattle.geo_conditions.specs.Statements.{statement_goals}
use Rattle.geo_conditions.proofs.SamePrograms.{same_programs_mean_the_same}
use Rattle.geo_conditions.proofs.Listings.{listed_once}
use Rattle.geo_logs.specs.Logs.{Subject}
use Rattle.log_checker.specs.Accepted.{SubjectsAgree}
use Rattle.log_checker.specs.Subjects.{IsSubjectOf, log_item, source_lines}
use Rattle.log_checker.proofs.AcceptedBytes.{same_lines_same_program}
use Rattle.log_checker.proofs.AlikeLogs.{AlikeSubjects, accepted_alike, defined_log_alike}
use Rattle.log_checker.proofs.VersionNumbers.{one_version}

one_conditions : (version : Version) (p : Source) (one other : List ItemForm) → AreConditionItems version p one → AreConditionItems version p other → one ≡ other
one_conditions version p one other h g =
    h.written ∙ ap (map (condition_item version p))
    (listed_once (λ (f : Found). f.condition) (all_found p) [] h.conditions g.conditions h.listed g.listed) ∙ sym g.written

one_goals : (version : Version) (p : Source) (one other : List ItemForm) → AreGoalItems version p one → AreGoalItems version p other → one ≡ other
one_goals version p one other h g =
    h.written ∙ ap (map (goal_item version p))
    (listed_once (λ (s : Statement). s) (statement_goals p.nodes p.statement) [] h.goals g.goals h.listed g.listed) ∙ sym g.written

pub alike_subjects : (p q : Source) (one other : Subject) → IsWellFormed p → IsWellFormed q → source_lines p ≡ source_lines q → IsSubjectOf p one → IsSubjectOf q other
    → one.version ≡ other.version → AlikeSubjects one other
alike_subjects p q one other v w e s t number =
    let version : s.version ≡ t.version = one_version s.version t.version (sym s.same_version ∙ number ∙ t.same_version) in
    let same : SameSource p q = same_lines_same_program p q v w e in
    let means = same_programs_mean_the_same p q same in
    let lowered = subst (λ (x : Version). IsLowered x q s.form) version (same_programs_lower_alike s.version p q s.form same s.lowered) in
    let forms = lowered_forms_agree t.version q s.form t.form lowered t.lowered in
    let conditions = subst (λ (x : Version). AreConditionItems x q s.conditions) version ((means.conditions s.version s.conditions).0 s.listed_conditions) in
    let goals = subst (λ (x : Version). AreGoalItems x q s.goals) version ((means.goals s.version s.goals).0 s.listed_goals) in
    record {
      version = number;
      program = s.same_program ∙ e ∙ sym t.same_program;
      conditions = s.same_conditions ∙ ap (map log_item) (one_conditions t.version q s.conditions t.conditions conditions t.listed_conditions) ∙ sym t.same_conditions;
      goals = s.same_goals ∙ ap (map log_item) (one_goals t.version q s.goals t.goals goals t.listed_goals) ∙ sym t.same_goals;
      steps = record {
        steps = ap (λ (c : Construction). map (step_form c.nodes) c.steps) s.same_construction ∙ forms.steps ∙ ap (λ (c : Construction). map (step_form c.nodes) c.steps) (sym t.same_construction);
        params = ap (λ (c : Construction). c.params) s.same_construction ∙ forms.numbers ∙ ap (λ (c : Construction). c.params) (sym t.same_construction);
      };
    }

pub subjects_agree : SubjectsAgree
subjects_agree = record {
  accepted = λ p q one other v w e s t n steps left lines verdict. accepted_alike one other (alike_subjects p q one other v w e s t n) steps lines verdict left;
  defined = λ p q one other v w e s t n. defined_log_alike one other (alike_subjects p q one other v w e s t n);
}
