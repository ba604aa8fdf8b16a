-- The condition that a verdict calls impossible holds in no placement that meets what stands before it.
use Rattle.std.proofs.Common.{◌≡◌, ⊎_elim, ℕ, zero, suc, ◌+◌, ◌-◌, List, [], ◌∷◌, ◌++◌, length, take, refl, sym, ◌∙◌, ap, subst, arith}
use Rattle.std.proofs.lemmas.List.{append_assoc, length-append, take_at}
use Rattle.std.proofs.lemmas.List.Elements.{All-from_recursion, recursion_from_All}
use Rattle.geo_points.specs.Placements.{Placement}
use Rattle.geo_terms.specs.TermBounds.{IsTermBelow}
use Rattle.geo_program.specs.declared.commands.Command.{Command}
use Rattle.geo_program.specs.WellFormed.{Source, IsWellFormed}
use Rattle.geo_lowering.specs.CommandsMet.{AreCommandsMet}
use Rattle.geo_lowering.specs.Conditions.{Condition, IsConditionMet}
use Rattle.geo_lowering.specs.Counting.{points_past}
use Rattle.geo_lowering.proofs.ConditionValues.{each_back, each_front}
use Rattle.geo_conditions.specs.Lists.{AreConditions, Found, all_found}
use Rattle.geo_conditions.specs.Truth.{IsImpossible}
use Rattle.geo_conditions.proofs.Extensions.{met_commands}
use Rattle.geo_conditions.proofs.Listings.{all_hold, listed_hold}
use Rattle.proof_log.specs.declared.log.Line.{Line}
use Rattle.proof_log.specs.declared.log.Verdict.TheVariants.{Impossible}
use Rattle.geo_logs.specs.Logs.{Item, Subject}
use Rattle.geo_logs.specs.Placements.{HoldsAsCondition, MeetsStepsBelow}
use Rattle.log_checker.specs.Shown.{IsShown}
use Rattle.log_checker.specs.VerdictNumbers.{HoldsNowhere, IsOnOwnPoint, MeetsBefore}
use Rattle.log_checker.proofs.FirstCommands.{first_below, first_lowered}
use Rattle.log_checker.proofs.GivenConditions.{IsGiven, IsLate, given_in}
use Rattle.log_checker.proofs.Origins.{origin}
use Rattle.log_checker.proofs.Places.{At, of_map, parted}
use Rattle.log_checker.proofs.Ready.{log_condition}
use Rattle.log_checker.proofs.Verdicts.{Parts}

-- a placement that meets commands meets the first of them
first_commands_met : (p : Source) (V : Placement) (cs : List Command) (n x m : ℕ) → AreCommandsMet p V x m cs → AreCommandsMet p V x m (take n cs)
first_commands_met p V [] zero x m h = tt
first_commands_met p V [] (suc n) x m h = tt
first_commands_met p V (c ∷ cs) zero x m h = tt
first_commands_met p V (c ∷ cs) (suc n) x m h = (h.0, first_commands_met p V cs n _ _ h.1)

-- one that meets the program meets what stands before each of its conditions, and that condition
pub nowhere_is_impossible : (p : Source) (k : ℕ) → HoldsNowhere p k → IsImpossible p
nowhere_is_impossible p k h V m =
    let C : Condition → Type 0 = IsConditionMet p V in
    let P : Found → Type 0 = λ f. C f.condition in
    let all = listed_hold (λ (f : Found). f.condition) C (all_found p) [] (h.before ++ h.found ∷ h.after) h.listed tt (recursion_from_All P (all_found p) m.conditions) in
    h.never V
    (record {
      above = first_commands_met p V p.commands (h.found.line - 1) 0 0 m.commands;
      own = λ o. first_commands_met p V p.commands h.found.line 0 0 m.commands;
      conditions = All-from_recursion P h.before (each_front P h.before (h.found ∷ h.after) all);
    })
    (each_back P h.before (h.found ∷ h.after) all).0

module _ (p : Source) (V : Placement) (before : List Found) (f : Found) (m : MeetsBefore p V before f) where
  -- the first commands, which a condition is given behind, are met
  pub given_met : (g : IsGiven p.nodes (IsConditionMet p V) p.commands 0 0 0 1 f) → AreCommandsMet p V 0 0 g.first
  given_met g =
      ⊎_elim
      (λ (e : f.line ≡ 1 + length g.first).
      let n : length g.first ≡ f.line - 1 = omega (arith, e) in
      subst (AreCommandsMet p V 0 0) (ap (λ cs. take (f.line - 1) cs) g.whole ∙ take_at g.first g.rest (f.line - 1) n) m.above)
      (λ (h : IsLate p.nodes (IsConditionMet p V) 0 1 g.first f).
      let n : length g.first ≡ f.line =
      let k : length g.first ≡ length h.before + 1 = ap length h.whole ∙ length-append h.before (h.command ∷ []) in
      let q = h.at in omega (arith, k, q) in
      let own : IsOnOwnPoint p f = record {
        before = h.before;
        command = h.command;
        after = g.rest;
        whole = g.whole ∙ ap (λ cs. cs ++ g.rest) h.whole ∙ append_assoc h.before (h.command ∷ []) g.rest;
        line = let q = h.at in omega (arith, q);
        late = h.late;
      } in
      subst (AreCommandsMet p V 0 0) (ap (λ cs. take f.line cs) g.whole ∙ take_at g.first g.rest f.line n) (m.own own)) g.at

module _ (p : Source) (subject : Subject) (w : IsWellFormed p) (s : Parts p subject) (lines : List Line) (k : ℕ) (shown : IsShown subject lines (Impossible k)) where
  pub holds_nowhere : HoldsNowhere p k
  holds_nowhere =
      let n = shown.never k refl in
      let found = of_map (log_condition s.version p) s.found n.0 n.1 (subst (λ items. At items n.0 n.1) s.conditions n.3) in
      let f = found.0 in
      let parts = parted s.found n.0 f found.1 in
      let listed = subst (λ fs. AreConditions p fs) parts.whole s.listed in
      let from = origin (λ (g : Found). g.condition) (all_found p) [] parts.before parts.after f listed (omega arith) in
      record {
        before = parts.before;
        found = f;
        after = parts.after;
        listed = listed;
        place = let e = n.2 in let q = parts.place in omega (arith, e, q);
        never = λ V m holds.
            let C : Condition → Type 0 = IsConditionMet p V in
            let held = (all_hold (λ (g : Found). g.condition) C from.front [] parts.before from.listing (recursion_from_All (λ (g : Found). C g.condition) parts.before m.conditions)).1 in
            let g = given_in p C w from.front from.rest f from.whole held holds in
            let met = given_met p V parts.before f m g in
            let low = first_lowered s.version p w s.form s.lowered g.first g.rest g.whole V met (met_commands p V g.first 0 1 g.held) in
            let N = points_past s.version 0 g.first in
            let nonzero = low.nonzero f.condition g.over holds in
            let below = first_below s.version p w s.form s.lowered g.first g.rest g.whole f.condition g.over in
            n.4 low.lowered N (subst (λ c. MeetsStepsBelow low.lowered c N) (sym s.built) low.steps)
            (subst (λ (t : Item). IsTermBelow N subject.construction.params t.term) (sym found.2)
            (subst (λ c. IsTermBelow N c.params (log_condition s.version p f).term) (sym s.built) below))
            (subst (λ (t : Item). HoldsAsCondition low.lowered t.term) (sym found.2) (record { has_value = nonzero.0; nonzero = nonzero.1 }));
      }
