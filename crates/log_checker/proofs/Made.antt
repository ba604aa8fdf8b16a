-- What is made of a sample's values by the steps of some commands meets these steps and has these values.
use Rattle.std.proofs.Common.{◌≡◌, ℕ, zero, suc, ◌+◌, ◌<◌, ℤ, List, [], ◌∷◌, ◌++◌, map, refl, sym, ◌∙◌, ap, subst, arith}
use Rattle.geo_points.specs.declared.ids.PointId.{PointId}
use Rattle.ring_laws.specs.Fraction.{whole}
use Rattle.geo_points.specs.Placements.{Placement, SamePoint}
use Rattle.geo_points.specs.Points.{Point as Triple}
use Rattle.ring_laws.proofs.Fractions.{fractions}
use Rattle.geo_poly.specs.declared.variables.Var.{Var}
use Rattle.geo_poly.specs.declared.variables.Var.TheVariants.{X as Abscissa, Y as Ordinate, T as Number}
use Rattle.geo_program.specs.declared.commands.Command.{Command}
use Rattle.geo_program.specs.WellFormed.{Source}
use Rattle.geo_terms.specs.declared.steps.Step.{Step}
use Rattle.geo_terms.specs.declared.steps.Step.TheVariants as step
use Rattle.geo_terms.specs.Constructions.{IsStepMet}
use Rattle.geo_terms.specs.Stores.{Store}
use Rattle.geo_lowering.specs.Building.{AreMade}
use Rattle.geo_lowering.specs.Counting.{named, hidden, further, next_point, next_number, points_past}
use Rattle.geo_lowering.specs.Lowering.{IsLowered, Layout, LoweredForm, layout_of, command_steps, point_place, steps_from}
use Rattle.geo_lowering.specs.StepForms.{StepForm, step_form, AreFormsMet, IsFormMet}
use Rattle.geo_lowering.proofs.Bounds.{past_steps}
use Rattle.geo_lowering.proofs.Exists.{made_met}
use Rattle.geo_lowering.proofs.Fixed.{command_frees, frees_append, past_all}
use Rattle.geo_lowering.proofs.FormLaws.{FreesAgree, past}
use Rattle.geo_lowering.proofs.Laying.{AreLaid, laid_program}
use Rattle.geo_lowering.proofs.Steps.{step_of_form}
use Rattle.geo_lowering.specs.declared.version.Version.{Version}
use Rattle.geo_conditions.specs.Truth.{whole_point}
use Rattle.geo_logs.specs.Placements.{HasValuesBelow, MeetsStepsBelow}
use Rattle.geo_logs.specs.Samples.{value_in}
use Rattle.std.proofs.lemmas.List.{append_assoc}
use Rattle.log_checker.proofs.Places.{At, first, none}

-- the point and the number that a sample gives, by their places among all points and all numbers
abbrev pub sample_point : List (Var × ℤ) → ℕ → Triple
sample_point values n = whole_point (value_in values (Abscissa (record { 0 = n })), value_in values (Ordinate (record { 0 = n })))

abbrev pub sample_placement : List (Var × ℤ) → Placement
sample_placement values = record { point = sample_point values; number = λ t. whole (value_in values (Number (record { 0 = t }))) }

-- what a program is given
abbrev pub given_by : Version → Source → List (Var × ℤ) → Placement
given_by version p values = record { point = λ a. sample_point values (point_place version p.commands a); number = (sample_placement values).number }

-- STEPS IN FRONT
module _ (nodes : Store) where
  abbrev forms : List Step → List StepForm
  forms steps = map (step_form nodes) steps

  same_head : (s : Step) (ss : List Step) (f : StepForm) (fs : List StepForm) → forms (s ∷ ss) ≡ f ∷ fs → step_form nodes s ≡ f
  same_head s ss f fs e = let q : ◌≡◌ {A = List StepForm} (step_form nodes s ∷ forms ss) (f ∷ fs) = e in cc

  same_tail : (s : Step) (ss : List Step) (f : StepForm) (fs : List StepForm) → forms (s ∷ ss) ≡ f ∷ fs → forms ss ≡ fs
  same_tail s ss f fs e = let q : ◌≡◌ {A = List StepForm} (step_form nodes s ∷ forms ss) (f ∷ fs) = e in cc

  pub front_met : (placed : Placement) (fs more : List StepForm) (steps : List Step) (n : ℕ) → forms steps ≡ fs ++ more → AreFormsMet placed n fs
      → (k : ℕ) (s : Step) → n + k < past n fs → At steps k s → IsStepMet placed nodes (n + k) s
  front_met placed [] more steps n e h k s lt at = absurd (omega (arith, lt))
  front_met placed (f ∷ fs) more [] n e h k s lt at = none k s at
  front_met placed (f ∷ fs) more (t ∷ ts) n e h zero s lt at =
      let q : n ≡ n + 0 = omega arith in
      subst (λ i. IsStepMet placed nodes i s) q
      (subst (λ r. IsStepMet placed nodes n r) (first t s ts at)
      (step_of_form placed nodes n t (subst (λ g. IsFormMet placed n g) (sym (same_head t ts f (fs ++ more) e)) h.0)))
  front_met placed (f ∷ fs) more (t ∷ ts) n e h (suc k) s lt at =
      let q : suc n + k ≡ n + suc k = omega arith in
      subst (λ i. IsStepMet placed nodes i s) q (front_met placed fs more ts (suc n) (same_tail t ts f (fs ++ more) e) h.1 k s (omega (arith, lt)) at)

  pub front_free : (placed other : Placement) (fs more : List StepForm) (steps : List Step) (n : ℕ) → forms steps ≡ fs ++ more → FreesAgree placed other n fs
      → (k : ℕ) → n + k < past n fs → At steps k step.Point → SamePoint (placed.point (n + k)) (other.point (n + k))
  front_free placed other [] more steps n e h k lt at = absurd (omega (arith, lt))
  front_free placed other (f ∷ fs) more [] n e h k lt at = none k step.Point at
  front_free placed other (f ∷ fs) more (t ∷ ts) n e h zero lt at =
      let q : n ≡ n + 0 = omega arith in
      subst (λ i. SamePoint (placed.point i) (other.point i)) q
      (h.0 (sym (same_head t ts f (fs ++ more) e) ∙ ap (step_form nodes) (first t step.Point ts at)))
  front_free placed other (f ∷ fs) more (t ∷ ts) n e h (suc k) lt at =
      let q : suc n + k ≡ n + suc k = omega arith in
      subst (λ i. SamePoint (placed.point i) (other.point i)) q (front_free placed other fs more ts (suc n) (same_tail t ts f (fs ++ more) e) h.1 k (omega (arith, lt)) at)

-- the first commands are laid out
pub laid_front : (version : Version) (l : Layout) (bs cs : List Command) (x q j n m : ℕ) → AreLaid version l x q j n m (bs ++ cs) → AreLaid version l x q j n m bs
laid_front version l [] cs x q j n m h = tt
laid_front version l (b ∷ bs) cs x q j n m h = (h.0, laid_front version l bs cs _ _ _ (next_point version n b) (next_number m b) h.1)

-- STEPS OF COMMANDS
module _ (version : Version) (p : Source) where
  abbrev L : Layout
  L = layout_of version p.commands

  pub steps_split : (bs cs : List Command) (n m : ℕ) → (more : List StepForm) × (steps_from version L p.nodes n m (bs ++ cs) ≡ steps_from version L p.nodes n m bs ++ more)
  steps_split [] cs n m = (steps_from version L p.nodes n m cs, refl)
  steps_split (b ∷ bs) cs n m =
      let h = steps_split bs cs (next_point version n b) (next_number m b) in
      let here = command_steps version L p.nodes n m b in
      (h.0, ap (λ fs. here ++ fs) h.1 ∙ sym (append_assoc here (steps_from version L p.nodes (next_point version n b) (next_number m b) bs) h.0))

  -- the free points that are made are those of the sample
  pub made_free : (values : List (Var × ℤ)) (lowered : Placement) (cs : List Command) (x q j n m : ℕ) → AreLaid version L x q j n m cs
      → AreMade version p (given_by version p values) lowered x n m cs → FreesAgree lowered (sample_placement values) n (steps_from version L p.nodes n m cs)
  made_free values lowered [] x q j n m d h = tt
  made_free values lowered (c ∷ cs) x q j n m d h =
      let here = command_steps version L p.nodes n m c in
      let rest = steps_from version L p.nodes (next_point version n c) (next_number m c) cs in
      frees_append lowered (sample_placement values) n here rest
      (command_frees version p lowered (sample_placement values) n m c
      (λ e. let at : point_place version p.commands x ≡ n = d.0.point (ap named e) ∙ ap (λ b. further n (hidden version b)) e in
      subst (λ i. SamePoint (lowered.point n) (sample_point values i)) at (h.1 e)))
      (subst (λ i. FreesAgree lowered (sample_placement values) i rest) (sym (past_steps version L p.nodes n m c))
      (made_free values lowered cs _ _ _ (next_point version n c) (next_number m c) d.1 h.2))

-- STEPS OF THE FIRST COMMANDS
module _ (version : Version) (p : Source) (l : LoweredForm) (i : IsLowered version p l) (before rest : List Command) (e : p.commands ≡ before ++ rest) where
  abbrev in_front : List StepForm
  in_front = steps_from version (layout_of version p.commands) p.nodes 0 0 before

  more : (ms : List StepForm) × (map (step_form l.construction.nodes) l.construction.steps ≡ in_front ++ ms)
  more = let s = steps_split version p before rest 0 0 in (s.0, i.steps ∙ ap (λ cs. steps_from version (layout_of version p.commands) p.nodes 0 0 cs) e ∙ s.1)

  last : past 0 in_front ≡ points_past version 0 before
  last = past_all version p before 0 0

  -- a placement that meets them meets the steps of all points below the last of theirs
  pub first_met : (placed : Placement) → AreFormsMet placed 0 in_front → MeetsStepsBelow placed l.construction (points_past version 0 before)
  first_met placed met k s lt at_k =
      let q : 0 + k ≡ k = omega arith in
      let b : 0 + k < past 0 in_front = subst (λ n. 0 + k < n) (sym last) (omega (arith, lt)) in
      subst (λ n. IsStepMet placed l.construction.nodes n s) q
      (front_met l.construction.nodes placed in_front more.0 l.construction.steps 0 more.1 met k s b at_k)

-- WHAT IS MADE
module _ (version : Version) (p : Source) (l : LoweredForm) (i : IsLowered version p l) (values : List (Var × ℤ)) (before rest : List Command) (e : p.commands ≡ before ++ rest)
    (at : ℕ → Triple) (h : AreMade version p (given_by version p values) (record { point = at; number = (given_by version p values).number }) 0 0 0 before) where
  abbrev made : Placement
  made = record { point = at; number = (given_by version p values).number }

  pub meets_below : MeetsStepsBelow made l.construction (points_past version 0 before)
  meets_below = first_met version p l i before rest e made (made_met version p (given_by version p values) made before 0 0 0 h)

  free_point : (a : PointId) → a.0 < points_past version 0 before → At l.construction.steps a.0 step.Point → SamePoint (at a.0) (sample_point values a.0)
  free_point a lt is_free =
      let q : 0 + a.0 ≡ a.0 = omega arith in
      let b : 0 + a.0 < past 0 (in_front version p l i before rest e) = subst (λ n. 0 + a.0 < n) (sym (last version p l i before rest e)) (omega (arith, lt)) in
      let ms = more version p l i before rest e in
      subst (λ n. SamePoint (at n) (sample_point values n)) q
      (front_free l.construction.nodes made (sample_placement values) (in_front version p l i before rest e) ms.0 l.construction.steps 0 ms.1
      (made_free version p values made before 0 0 0 0 0
      (laid_front version (layout_of version p.commands) before rest 0 0 0 0 0
      (subst (λ cs. AreLaid version (layout_of version p.commands) 0 0 0 0 0 cs) e (laid_program version p.commands))) h) a.0 b is_free)

  pub has_values : HasValuesBelow made l.construction (points_past version 0 before) values
  unfolding whole
  has_values = record {
    by_x = λ a lt made_free_there. (free_point a lt made_free_there).by_x;
    by_y = λ a lt made_free_there. (free_point a lt made_free_there).by_y;
    by_number = λ t lt. fractions.same_refl _;
  }
