-- What accepted logs prove of programs.
use Rattle.std.proofs.Common.{◌≡◌, ℕ, zero, suc, ◌<◌, List, [], ◌∷◌, map, length, refl, sym, ◌∙◌, ap, subst, arith}
use Rattle.std.proofs.lemmas.List.Elements.{All-from_recursion}
use Rattle.geo_points.specs.Placements.{Placement}
use Rattle.geo_program.specs.declared.statements.Statement.{Statement}
use Rattle.geo_program.specs.WellFormed.{Source, IsWellFormed}
use Rattle.geo_terms.specs.Constructions.{IsConstruction, MeetsSteps}
use Rattle.geo_lowering.specs.Lowering.{IsLowered, LoweredForm}
use Rattle.geo_lowering.specs.declared.version.Version.{Version}
use Rattle.geo_conditions.specs.Laws.{IsLoweredTo, IsZeroGoal}
use Rattle.geo_conditions.specs.Lists.{AreConditions, AreGoals, Found, condition_item, goal_item}
use Rattle.geo_conditions.specs.Truth.{Holds, Meets}
use Rattle.geo_conditions.proofs.LawProofs.{goals_are_terms, placements_lower}
use Rattle.proof_log.specs.declared.log.Line.{Line}
use Rattle.proof_log.specs.declared.log.Verdict.{Verdict}
use Rattle.geo_logs.specs.Laws.{SaysZero}
use Rattle.log_checker.specs.Shown.{IsShown}
use Rattle.geo_logs.specs.Logs.{Item, Subject}
use Rattle.log_checker.proofs.AcceptedLogs.{accepted_true}
use Rattle.log_checker.specs.Laws.{IsAcceptedLog}
use Rattle.log_checker.specs.Subjects.{IsSubjectOf, log_item}
use Rattle.log_checker.proofs.Places.{At, at_map, below, each_of, in_front, parted}
use Rattle.log_checker.proofs.Ready.{log_condition}
use Rattle.log_checker.proofs.Turns.{goals_in_turn}

-- a goal as a log takes it
abbrev pub log_goal : Version → Source → Statement → Item
log_goal version p g = log_item (goal_item version p g)

map_twice : {A B C : Type 0} (f : B → C) (g : A → B) (xs : List A) → map f (map g xs) ≡ map (λ x. f (g x)) xs
map_twice f g [] = refl
map_twice f g (x ∷ xs) = ap (λ ys. f (g x) ∷ ys) (map_twice f g xs)

-- the parts of a subject, with its own construction in the lowered form
pub record Parts (p : Source) (subject : Subject) : Type 0 where
  pub version : Version
  pub form : LoweredForm
  pub lowered : IsLowered version p form
  pub built : subject.construction ≡ form.construction
  pub found : List Found
  pub listed : AreConditions p found
  pub conditions : subject.conditions ≡ map (log_condition version p) found
  pub goals : List Statement
  pub listed_goals : AreGoals p goals
  pub same_goals : subject.goals ≡ map (log_goal version p) goals

pub parts_of : (p : Source) (subject : Subject) → IsSubjectOf p subject → Parts p subject
parts_of p subject s = record {
  version = s.version;
  form = s.form;
  lowered = s.lowered;
  built = s.same_construction;
  found = s.listed_conditions.conditions;
  listed = s.listed_conditions.listed;
  conditions = s.same_conditions ∙ ap (λ items. map log_item items) s.listed_conditions.written ∙ map_twice log_item (condition_item s.version p) s.listed_conditions.conditions;
  goals = s.listed_goals.goals;
  listed_goals = s.listed_goals.listed;
  same_goals = s.same_goals ∙ ap (λ items. map log_item items) s.listed_goals.written ∙ map_twice log_item (goal_item s.version p) s.listed_goals.goals;
}

module _ (p : Source) (subject : Subject) (w : IsWellFormed p) (s : Parts p subject) where
  abbrev v : Version
  v = s.version

  abbrev l : LoweredForm
  l = s.form

  pub valid : IsConstruction subject.construction
  valid = subst (λ c. IsConstruction c) (sym s.built) s.lowered.valid

  pub steps_built : (L : Placement) → MeetsSteps L l.construction → MeetsSteps L subject.construction
  steps_built L h = subst (λ c. MeetsSteps L c) (sym s.built) h

  goal_at : (k : ℕ) (g : Statement) → At s.goals k g → At subject.goals k (log_goal v p g)
  goal_at k g e = subst (λ items. At items k (log_goal v p g)) (sym s.same_goals) (at_map (log_goal v p) s.goals k g e)

  module _ (lines : List Line) (verdict : Verdict) (shown : IsShown subject lines verdict) where
    -- ALL GOALS
    -- the goals before a place have the value 0, where they are said to be
    pub zero_below : (V L : Placement) → IsLoweredTo v p l V L → Meets p V → (k : ℕ) → ((j : ℕ) → j < k → SaysZero verdict j) → (j : ℕ) (g : Statement) → j < k → At s.goals j g → IsZeroGoal v p L g
    zero_below V L i m zero says j g lt at = absurd (omega (arith, lt))
    zero_below V L i m (suc k) says j g lt at =
        let parts = parted s.goals j g at in
        let before = each_of (IsZeroGoal v p L) parts.before
        (λ n h at_n. zero_below V L i m k (λ a b. says a (omega (arith, b))) n h
        (let u : n < length parts.before = below parts.before n h at_n in let e = parts.place in omega (arith, u, e, lt))
        (subst (λ gs. At gs n h) (sym parts.whole) (in_front parts.before (g ∷ parts.after) n h at_n))) in
        let has = goals_in_turn v p l V L s.goals i s.listed_goals m parts.before parts.after g parts.whole before in
        (has, shown.zero j (log_goal v p g) (goal_at j g at) (says j lt) L (steps_built L i.steps) has)

    -- where all goals are said to be 0, the statement holds in every placement that meets the program
    pub holds_of_all : ((k : ℕ) → SaysZero verdict k) → (V : Placement) → Meets p V → Holds p V
    holds_of_all says V m =
        let d = placements_lower v p l V s.found w s.lowered s.listed m in
        let i : IsLoweredTo v p l V d.0 = record { well_formed = w; form = s.lowered; extends = d.1; steps = d.2 } in
        (goals_are_terms v p l V d.0 s.goals i s.listed_goals).1
        (All-from_recursion (IsZeroGoal v p d.0) s.goals
        (each_of (IsZeroGoal v p d.0) s.goals (λ k g at. zero_below V d.0 i m (suc k) (λ j lt. says j) k g (omega arith) at)))

-- THE UNIVERSAL HALF
pub shown_by : (p : Source) (steps : ℕ) (lines : List Line) (verdict : Verdict) (a : IsAcceptedLog p steps lines verdict) → IsShown a.subject lines verdict
shown_by p steps lines verdict a =
    accepted_true a.subject steps a.left lines verdict (valid p a.subject a.well_formed (parts_of p a.subject a.about)) a.accepted
