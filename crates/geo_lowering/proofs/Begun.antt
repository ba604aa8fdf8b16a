-- The steps of a program, pushed command by command.
use Rattle.std.proofs.Common.{◌≡◌, ℕ, suc, ◌+◌, ◌<◌, ◌≤◌, Some, List, [], ◌∷◌, ◌++◌, length, map, refl, sym, ◌∙◌, ap, ap₂, subst, arith, length-append}
use Rattle.std.specs.Prelude.{slice_get}
use Rattle.std.specs.List.{AllByRecursion}
use Rattle.std.proofs.lemmas.List.{append_assoc, length-map}
use Rattle.geo_points.specs.declared.ids.TermId.{TermId}
use Rattle.geo_terms.specs.declared.steps.Step.{Step}
use Rattle.geo_terms.specs.declared.steps.Step.TheVariants as step
use Rattle.geo_terms.specs.Constructions.{Construction, IsConstruction, IsStep}
use Rattle.geo_terms.specs.Stores.{Store, tree_of}
use Rattle.geo_program.specs.declared.commands.Command.{Command}
use Rattle.geo_program.specs.declared.names.Name.{Name}
use Rattle.geo_program.specs.declared.names.NameKind.TheVariants as kind
use Rattle.geo_program.specs.Forms.{IsStored, command_form}
use Rattle.geo_program.specs.WellFormed.{AreCommands, IsWellFormed, Scope, Source, empty_scope, later_names, own_names, scope_of}
use Rattle.geo_lowering.specs.declared.version.Version.{Version}
use Rattle.geo_lowering.specs.declared.step_numbers.Fractions.{Fractions}
use Rattle.geo_lowering.specs.Counting.{counted, named, next_point, next_number, numbers_from, numbers_had, points_past}
use Rattle.geo_lowering.specs.Inner.Growing.{HasMore, KeepsTerms}
use Rattle.geo_lowering.specs.Lowering.{Layout, command_steps, layout_of, steps_from}
use Rattle.geo_lowering.specs.Inner.Renaming.{AreRenamed, item_at}
use Rattle.geo_lowering.specs.StepForms.{StepForm, along, turned_along, weighted, step_form}
use Rattle.geo_lowering.specs.Inner.StepLists.{AreStepsFrom, HasStoredNumber, HaveForms}
use Rattle.geo_lowering.specs.Inner.StepNumbers.{AreFractions, IsTerm}
use Rattle.geo_lowering.proofs.Bounds.{Bounds, bounds_next, command_over, numbers_from-up, past_steps}
use Rattle.geo_lowering.proofs.Exists.{points_past-up}
use Rattle.geo_lowering.proofs.FormLaws.{AreFormsOver, past}
use Rattle.geo_lowering.proofs.Laying.{AreLaid, AreNamed, laid_program, named_program}

-- TERMS THAT STAY

pub kept_term : (a b : Construction) → KeepsTerms a b → (e : _) (id : TermId) → IsTerm a.nodes e id → IsTerm b.nodes e id
kept_term a b h e id t = record {
  stored = let x : length a.nodes ≤ length b.nodes = h.longer in let w : id.0 < length a.nodes = t.stored in omega arith;
  tree = h.trees id t.stored ∙ t.tree;
}

pub kept_fractions : (a b : Construction) → KeepsTerms a b → (f : Fractions) → AreFractions a.nodes f → AreFractions b.nodes f
kept_fractions a b h f t = record {
  one = kept_term a b h _ f.one t.one;
  half = kept_term a b h _ f.half t.half;
  two_thirds = kept_term a b h _ f.two_thirds t.two_thirds;
}

pub kept_renamed : (a b : Construction) → KeepsTerms a b → (l : Layout) (terms : Store) (items : List TermId) → AreRenamed l terms a.nodes items → AreRenamed l terms b.nodes items
kept_renamed a b h l terms items r = record {
  stored = λ k w. let x : length a.nodes ≤ length b.nodes = h.longer in let s : (item_at items (record { 0 = k })).0 < length a.nodes = r.stored k w in omega arith;
  trees = λ k w. h.trees (item_at items (record { 0 = k })) (r.stored k w) ∙ r.trees k w;
}

-- FORMS

-- a step has the same form where its number has the same tree
form_kept : (a b : Construction) → KeepsTerms a b → (s : Step) → HasStoredNumber a.nodes s → step_form b.nodes s ≡ step_form a.nodes s
form_kept a b h step.Point w = refl
form_kept a b h (step.Inter u v p q) w = refl
form_kept a b h (step.Foot p u v) w = refl
form_kept a b h (step.Pratio p u v r) w = ap (along p.0 u.0 v.0) (h.trees r w)
form_kept a b h (step.Tratio u v r) w = ap (turned_along u.0 v.0) (h.trees r w)
form_kept a b h (step.Weights o u v r s) w = ap₂ (weighted o.0 u.0 v.0) (h.trees r w.0) (h.trees s w.1)

forms_kept : (a b : Construction) → KeepsTerms a b → (steps : List Step) → AllByRecursion (HasStoredNumber a.nodes) steps → map (step_form b.nodes) steps ≡ map (step_form a.nodes) steps
forms_kept a b h [] w = refl
forms_kept a b h (s ∷ steps) w = ap₂ (λ (x : StepForm) (xs : List StepForm). x ∷ xs) (form_kept a b h s w.0) (forms_kept a b h steps w.1)

stored_step : (nodes : Store) (n m : ℕ) (s : Step) → IsStep nodes n m s → HasStoredNumber nodes s
stored_step nodes n m step.Point h = tt
stored_step nodes n m (step.Inter u v p q) h = tt
stored_step nodes n m (step.Foot p u v) h = tt
stored_step nodes n m (step.Pratio p u v r) h = h.3.stored
stored_step nodes n m (step.Tratio u v r) h = h.2.stored
stored_step nodes n m (step.Weights o u v r s) h = (h.3.stored, h.4.stored)

stored_steps : (nodes : Store) (m n : ℕ) (steps : List Step) → ((k : ℕ) (s : Step) → slice_get steps k ≡ Some s → IsStep nodes (n + k) m s) → AllByRecursion (HasStoredNumber nodes) steps
stored_steps nodes m n [] h = tt
stored_steps nodes m n (s ∷ steps) h = (
  stored_step nodes (n + 0) m s (h 0 s refl),
  stored_steps nodes m (suc n) steps (λ k t e. subst (λ i. IsStep nodes i m t) (let q : n + suc k ≡ suc n + k = omega arith in q) (h (suc k) t e)),
)

-- the steps of a construction have the same forms where all terms stay
pub construction_kept : (a b : Construction) → IsConstruction a → KeepsTerms a b → map (step_form b.nodes) a.steps ≡ map (step_form a.nodes) a.steps
construction_kept a b c h =
    forms_kept a b h a.steps
    (stored_steps a.nodes a.params 0 a.steps (λ k s e. subst (λ i. IsStep a.nodes i a.params s) (let q : k ≡ 0 + k = omega arith in q) (c.steps k s e)))

-- steps over the points before them
pub are_steps : (nodes : Store) (n m : ℕ) (steps : List Step) → AreFormsOver n m (map (step_form nodes) steps) → AllByRecursion (HasStoredNumber nodes) steps → AreStepsFrom nodes n m steps
are_steps nodes n m [] h w = tt
are_steps nodes n m (step.Point ∷ steps) h w = (tt, are_steps nodes (suc n) m steps h.1 w.1)
are_steps nodes n m (step.Inter u v p q ∷ steps) h w = (h.0, are_steps nodes (suc n) m steps h.1 w.1)
are_steps nodes n m (step.Foot p u v ∷ steps) h w = (h.0, are_steps nodes (suc n) m steps h.1 w.1)
are_steps nodes n m (step.Pratio p u v r ∷ steps) h w = ((h.0.0, h.0.1, h.0.2, record { stored = w.0; number = h.0.3 }), are_steps nodes (suc n) m steps h.1 w.1)
are_steps nodes n m (step.Tratio u v r ∷ steps) h w = ((h.0.0, h.0.1, record { stored = w.0; number = h.0.2 }), are_steps nodes (suc n) m steps h.1 w.1)
are_steps nodes n m (step.Weights o u v r s ∷ steps) h w =
    ((h.0.0, h.0.1, h.0.2, record { stored = w.0.0; number = h.0.3 }, record { stored = w.0.1; number = h.0.4 }), are_steps nodes (suc n) m steps h.1 w.1)

pub past-length : (n : ℕ) (fs : List StepForm) → past n fs ≡ n + length fs
past-length n [] = omega arith
past-length n (f ∷ fs) = let h : past (suc n) fs ≡ suc n + length fs = past-length (suc n) fs in omega arith

-- PROGRAMS

stored_commands : (nodes : Store) (s : Scope) (names : List Name) (cs : List Command) → AreCommands nodes s names cs → AllByRecursion (IsStored nodes) cs
stored_commands nodes s names [] h = tt
stored_commands nodes s names (c ∷ cs) h =
    (h.0.stored, stored_commands nodes (scope_of s (own_names (command_form nodes c) names)) (later_names (command_form nodes c) names) cs h.1)

pub stored_program : (p : Source) → IsWellFormed p → AllByRecursion (IsStored p.nodes) p.commands
stored_program p w = stored_commands p.nodes empty_scope p.names p.commands w.commands

-- what is pushed are the steps of the first commands, and these are left
pub record IsBegun (version : Version) (p : Source) (l : Layout) (c : Construction) (terms : List TermId) (f : Fractions) (rest : List Command) : Type 0 where
  pub named_points : ℕ
  pub named_params : ℕ
  pub named_lines : ℕ
  pub bounds : Bounds l named_points named_params named_lines (length c.steps) c.params
  pub names : AreNamed p.nodes named_points named_params named_lines rest
  pub laid : AreLaid version l named_points named_params named_lines (length c.steps) c.params rest
  pub stored : AllByRecursion (IsStored p.nodes) rest
  pub steps : map (step_form c.nodes) c.steps ++ steps_from version l p.nodes (length c.steps) c.params rest ≡ steps_from version l p.nodes 0 0 p.commands
  pub params : numbers_from c.params rest ≡ numbers_had p.commands
  pub points : points_past version (length c.steps) rest ≤ 512
  pub renamed : AreRenamed l p.nodes c.nodes terms
  pub fractions : AreFractions c.nodes f

-- nothing is pushed yet
pub begun_first : (version : Version) (p : Source) (l : Layout) (c : Construction) (terms : List TermId) (f : Fractions) → IsWellFormed p → points_past version 0 p.commands ≤ 512
    → l ≡ layout_of version p.commands → c.steps ≡ [] → c.params ≡ 0 → AreRenamed l p.nodes c.nodes terms → AreFractions c.nodes f → IsBegun version p l c terms f p.commands
begun_first version p l c terms f w few same empty nothing renamed fractions =
    let none : length c.steps ≡ 0 = ap length empty in
    record {
      named_points = 0;
      named_params = 0;
      named_lines = 0;
      bounds = no_bounds_at l (length c.steps) c.params;
      names = named_program p w;
      laid = subst (λ i. AreLaid version l 0 0 0 i c.params p.commands) (sym none)
          (subst (λ i. AreLaid version l 0 0 0 0 i p.commands) (sym nothing)
          (subst (λ k. AreLaid version k 0 0 0 0 0 p.commands) (sym same) (laid_program version p.commands)));
      stored = stored_program p w;
      steps = λ i. map (step_form c.nodes) (empty i) ++ steps_from version l p.nodes (none i) (nothing i) p.commands;
      params = ap (λ i. numbers_from i p.commands) nothing;
      points = subst (λ i. points_past version i p.commands ≤ 512) (sym none) few;
      renamed = renamed;
      fractions = fractions;
    }
  where
    no_bounds_at : (l : Layout) (n m : ℕ) → Bounds l 0 0 0 n m
    no_bounds_at l n m = record { points = λ a h. absurd (omega arith); lines = λ i h. absurd (omega arith); params = λ t h. absurd (omega arith) }

-- the parameters so far are among those of the program
pub number_below : (version : Version) (p : Source) (l : Layout) (c : Construction) (terms : List TermId) (f : Fractions) (rest : List Command) → IsBegun version p l c terms f rest
    → numbers_had p.commands < 4294967295 → c.params < 4294967295
number_below version p l c terms f rest h few =
    let up : c.params ≤ numbers_from c.params rest = numbers_from-up c.params rest in
    let all : numbers_from c.params rest ≡ numbers_had p.commands = h.params in omega arith

module _ (version : Version) (p : Source) (l : Layout) (terms : List TermId) (f : Fractions) (k : Command) (rest : List Command)
    (old : Construction) (h : IsBegun version p l old terms f (k ∷ rest)) where
  -- after the number of the command, and the list of its steps
  module _ (mid : Construction) (kept : KeepsTerms old mid) (params : mid.params ≡ next_number old.params k) (list : List Step)
      (forms : HaveForms mid.nodes (command_steps version l p.nodes (length old.steps) old.params k) list) where
    same_count : length mid.steps ≡ length old.steps
    same_count = ap length kept.steps

    pub pushes_steps : AreStepsFrom mid.nodes (length mid.steps) mid.params list
    pushes_steps =
        are_steps mid.nodes (length mid.steps) mid.params list
        (subst (λ fs. AreFormsOver (length mid.steps) mid.params fs) (sym forms.formed)
        (subst (λ n. AreFormsOver n mid.params (command_steps version l p.nodes (length old.steps) old.params k)) (sym same_count)
        (command_over version l p.nodes h.named_points h.named_params h.named_lines (length old.steps) old.params mid.params k h.bounds
        (let e : mid.params ≡ next_number old.params k = params in omega arith) h.names.0)))
        forms.stored

    count_all : length old.steps + length list ≡ next_point version (length old.steps) k
    count_all =
        let n = length old.steps in
        ap (λ i. n + i) (sym (length-map list (step_form mid.nodes)) ∙ ap length forms.formed)
        ∙ sym (past-length n (command_steps version l p.nodes n old.params k))
        ∙ past_steps version l p.nodes n old.params k

    pub pushes_within : length mid.steps + length list ≤ 512
    pushes_within =
        let n = length old.steps in
        let all : n + length list ≡ next_point version n k = count_all in
        let up : next_point version n k ≤ points_past version (next_point version n k) rest = points_past-up version (next_point version n k) rest in
        let few : points_past version (next_point version n k) rest ≤ 512 = h.points in
        let same : length mid.steps ≡ n = same_count in omega arith

    -- the steps are pushed
    module _ (valid : IsConstruction old) (new : Construction) (more : HasMore mid new (map (step_form mid.nodes) list)) where
      kept_all : KeepsTerms mid (record new { steps = mid.steps })
      kept_all = record {
        steps = refl;
        longer = let e : length new.nodes ≡ length mid.nodes = ap length more.nodes in
            omega arith;
        trees = λ id w. ap (λ (nodes : Store). tree_of nodes id) more.nodes;
      }

      new_forms : map (step_form new.nodes) new.steps ≡ map (step_form old.nodes) old.steps ++ command_steps version l p.nodes (length old.steps) old.params k
      new_forms =
          ap (λ (nodes : Store). map (step_form nodes) new.steps) more.nodes
          ∙ more.steps
          ∙ ap₂ (λ (xs ys : List StepForm). xs ++ ys) (ap (map (step_form mid.nodes)) kept.steps ∙ construction_kept old mid valid kept) forms.formed

      new_count : length new.steps ≡ next_point version (length old.steps) k
      new_count =
          sym (length-map new.steps (step_form new.nodes))
          ∙ ap length new_forms
          ∙ length-append (map (step_form old.nodes) old.steps) (command_steps version l p.nodes (length old.steps) old.params k)
          ∙ ap₂ (λ (i j : ℕ). i + j) (length-map old.steps (step_form old.nodes)) (ap length (sym forms.formed) ∙ length-map list (step_form mid.nodes))
          ∙ count_all

      new_params : new.params ≡ next_number old.params k
      new_params = more.params ∙ params

      pub begun_next : IsBegun version p l new terms f rest
      begun_next =
          let n = length old.steps in
          let m = old.params in
          let x = counted kind.Point (named k) h.named_points in
          let q = counted kind.Param (named k) h.named_params in
          let j = counted kind.Line (named k) h.named_lines in
          record {
            named_points = x;
            named_params = q;
            named_lines = j;
            bounds = subst (λ i. Bounds l x q j i new.params) (sym new_count)
                (subst (λ i. Bounds l x q j (next_point version n k) i) (sym new_params)
                (bounds_next version l p.nodes h.named_points h.named_params h.named_lines n m k h.bounds h.names.0 h.laid.0));
            names = h.names.1;
            laid = subst (λ i. AreLaid version l x q j i new.params rest) (sym new_count)
                (subst (λ i. AreLaid version l x q j (next_point version n k) i rest) (sym new_params) h.laid.1);
            stored = h.stored.1;
            steps =
                ap₂ (λ (i t : ℕ). map (step_form new.nodes) new.steps ++ steps_from version l p.nodes i t rest) new_count new_params
                ∙ ap (λ fs. fs ++ steps_from version l p.nodes (next_point version n k) (next_number m k) rest) new_forms
                ∙ append_assoc (map (step_form old.nodes) old.steps) (command_steps version l p.nodes n m k) (steps_from version l p.nodes (next_point version n k) (next_number m k) rest)
                ∙ h.steps;
            params = ap (λ i. numbers_from i rest) new_params ∙ h.params;
            points = subst (λ i. points_past version i rest ≤ 512) (sym new_count) h.points;
            renamed = kept_renamed mid (record new { steps = mid.steps }) kept_all l p.nodes terms (kept_renamed old mid kept l p.nodes terms h.renamed);
            fractions = kept_fractions mid (record new { steps = mid.steps }) kept_all f (kept_fractions old mid kept f h.fractions);
          }
