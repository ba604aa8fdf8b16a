-- The terms of the cited program, renamed by the places of its images, are the images of its terms where they stand.
use Rattle.std.proofs.Common.{◌≡◌, ℕ, suc, ◌<◌, ◌≤◌, List, [], ◌∷◌, ◌++◌, length, map, refl, sym, ◌∙◌, ap, ap₂, subst}
use Rattle.std.specs.Prelude.{slice_index_or}
use Rattle.std.specs.List.{AllByRecursion}
use Rattle.std.proofs.lemmas.List.{get_or-map}
use Rattle.geo_points.specs.declared.ids.ParamId.{ParamId}
use Rattle.geo_points.specs.declared.ids.PointId.{PointId}
use Rattle.geo_terms.specs.Stores.{Store}
use Rattle.geo_terms.specs.Trees.{Tree, integer_leaf, parameter_leaf, area_leaf, pythagoras_leaf, ratio_leaf, negation, addition, subtraction, multiplication, division}
use Rattle.geo_program.specs.declared.commands.Command.{Command}
use Rattle.geo_program.specs.declared.names.NameKind.TheVariants as kind
use Rattle.geo_program.specs.WellFormed.{IsWellFormed, Source}
use Rattle.geo_lowering.specs.Counting.{counted, named, points_from}
use Rattle.geo_lowering.specs.Lowering.{IsLowered, Layout, LoweredForm, layout_of, renamed}
use Rattle.geo_lowering.specs.declared.version.Version.TheVariants.{Two}
use Rattle.geo_lowering.proofs.Exists.{params_past}
use Rattle.geo_lowering.proofs.Laying.{AreNamed, named_program}
use Rattle.geo_lowering.proofs.Values.{IsOver}
use Rattle.geo_conditions.proofs.ConditionScopes.{params-up, points-up}
use Rattle.geo_conditions.specs.Inner.ItemTerms.{terms_layout}
use Rattle.geo_library.specs.CitedGoals.{command_goals}
use Rattle.geo_library.specs.Inner.Asking.{GoalForm, goal_forms, goals_from}
use Rattle.geo_library.specs.Inner.Cases.{image_forms, image_forms_from}
use Rattle.geo_library.specs.Inner.Naming.{AreImages}
use Rattle.geo_library.specs.Renamings.{IsRenaming, Renaming, image}
use Rattle.geo_library.proofs.Given.{params_counted, points_counted}
use Rattle.geo_library.proofs.GoalScopes.{goals_over}

-- one layout behind another, below n points and m parameters
pub renamed_twice : (n m : ℕ) (c k l : Layout) → ((a : ℕ) → a < n → c.point a ≡ l.point (k.point a)) → ((t : ℕ) → t < m → c.param t ≡ l.param (k.param t))
    → (e : Tree) → IsOver n m e → renamed c e ≡ renamed l (renamed k e)
renamed_twice n m c k l p q (integer_leaf z) h = refl
renamed_twice n m c k l p q (parameter_leaf t) h = λ i. parameter_leaf (record { 0 = q t.0 h i })
renamed_twice n m c k l p q (area_leaf a b d) h = λ i. area_leaf (record { 0 = p a.0 h.0 i }) (record { 0 = p b.0 h.1 i }) (record { 0 = p d.0 h.2 i })
renamed_twice n m c k l p q (pythagoras_leaf a b d) h = λ i. pythagoras_leaf (record { 0 = p a.0 h.0 i }) (record { 0 = p b.0 h.1 i }) (record { 0 = p d.0 h.2 i })
renamed_twice n m c k l p q (ratio_leaf a b d f) h = λ i. ratio_leaf (record { 0 = p a.0 h.0 i }) (record { 0 = p b.0 h.1 i }) (record { 0 = p d.0 h.2 i }) (record { 0 = p f.0 h.3 i })
renamed_twice n m c k l p q (negation e) h = ap negation (renamed_twice n m c k l p q e h)
renamed_twice n m c k l p q (addition e f) h = ap₂ addition (renamed_twice n m c k l p q e h.0) (renamed_twice n m c k l p q f h.1)
renamed_twice n m c k l p q (subtraction e f) h = ap₂ subtraction (renamed_twice n m c k l p q e h.0) (renamed_twice n m c k l p q f h.1)
renamed_twice n m c k l p q (multiplication e f) h = ap₂ multiplication (renamed_twice n m c k l p q e h.0) (renamed_twice n m c k l p q f h.1)
renamed_twice n m c k l p q (division e f) h = ap₂ division (renamed_twice n m c k l p q e h.0) (renamed_twice n m c k l p q f h.1)

-- the image of a number is the place of what it stands for
at_image : (places numbers images : List ℕ) → AreImages places numbers images → (a : ℕ) → a < length numbers → slice_index_or images a 0 ≡ slice_index_or places (slice_index_or numbers a 0) 0
at_image places numbers images e a b = ap (λ (xs : List ℕ). slice_index_or xs a 0) e ∙ get_or-map (λ n. slice_index_or places n 0) numbers a 0 0 b

-- the goals of the commands name points and parameters below these alone
abbrev pub AreGoalsOver : ℕ → ℕ → Store → ℕ → List Command → Type 0
AreGoalsOver X Y nodes x [] = Unit {0}
AreGoalsOver X Y nodes x (c ∷ cs) = AllByRecursion (IsOver X Y) (command_goals nodes (record { 0 = x }) c) × AreGoalsOver X Y nodes (counted kind.Point (named c) x) cs

pub goals_named : (X Y : ℕ) (nodes : Store) (x y j : ℕ) (cs : List Command) → points_from x cs ≡ X → params_past y cs ≡ Y → AreNamed nodes x y j cs → AreGoalsOver X Y nodes x cs
goals_named X Y nodes x y j [] ex ey k = tt
goals_named X Y nodes x y j (c ∷ cs) ex ey k =
    let x' = counted kind.Point (named c) x in
    let y' = counted kind.Param (named c) y in
    let ux : x' ≤ X = subst (λ n. x' ≤ n) ex (points-up x' cs) in
    let ly : y ≤ Y = subst (λ n. y ≤ n) ey (params-up y (c ∷ cs)) in
    (goals_over nodes x y j X Y c ux ly k.0, goals_named X Y nodes x' y' (counted kind.Line (named c) j) cs ex ey k.1)

module _ (q : Source) (form : LoweredForm) (low : IsLowered Two q form) (r : Renaming) (points : List PointId) (params : List ParamId)
    (at_points : AreImages (map (λ p. p.0) form.points) r.points (map (λ p. p.0) points)) (at_params : AreImages (map (λ p. p.0) form.params) r.params (map (λ p. p.0) params)) where
  pub image_placed : (e : Tree) → IsOver (length r.points) (length r.params) e → renamed (terms_layout points params) e ≡ renamed (layout_of Two q.commands) (image r e)
  image_placed e h =
      renamed_twice (length r.points) (length r.params) (terms_layout points params) (record {
        point = λ a. slice_index_or r.points a 0;
        line = λ i. record { left = 0; right = 0 };
        param = λ t. slice_index_or r.params t 0;
      }) (layout_of Two q.commands)
      (λ a b. at_image (map (λ p. p.0) form.points) r.points (map (λ p. p.0) points) at_points a b ∙ ap (λ (ps : List ℕ). slice_index_or ps (slice_index_or r.points a 0) 0) low.points)
      (λ t b. at_image (map (λ p. p.0) form.params) r.params (map (λ p. p.0) params) at_params t b ∙ ap (λ (ps : List ℕ). slice_index_or ps (slice_index_or r.params t 0) 0) low.params)
      e h

  forms_placed : (line : ℕ) (es : List Tree) → AllByRecursion (IsOver (length r.points) (length r.params)) es → goal_forms (terms_layout points params) line es ≡ image_forms q r line es
  forms_placed line [] h = refl
  forms_placed line (e ∷ es) h = λ i. record { line = line; term = image_placed e h.0 i } ∷ forms_placed line es h.1 i

  pub goals_placed : (nodes : Store) (x line : ℕ) (cs : List Command) → AreGoalsOver (length r.points) (length r.params) nodes x cs
      → goals_from nodes (terms_layout points params) x line cs ≡ image_forms_from q r nodes x line cs
  goals_placed nodes x line [] h = refl
  goals_placed nodes x line (c ∷ cs) h =
      ap₂ (λ (fs gs : List GoalForm). fs ++ gs) (forms_placed line (command_goals nodes (record { 0 = x }) c) h.0) (goals_placed nodes (counted kind.Point (named c) x) (suc line) cs h.1)

-- of a whole program
pub program_placed : (p q : Source) (texts : List (List ℕ)) (r : Renaming) → IsWellFormed p → IsWellFormed q → IsRenaming p.names q.names texts r
    → (form : LoweredForm) → IsLowered Two q form → (points : List PointId) (params : List ParamId) → AreImages (map (λ p. p.0) form.points) r.points (map (λ p. p.0) points)
    → AreImages (map (λ p. p.0) form.params) r.params (map (λ p. p.0) params)
    → goals_from p.nodes (terms_layout points params) 0 1 p.commands ≡ image_forms_from q r p.nodes 0 1 p.commands
program_placed p q texts r wp wq ren form low points params at_points at_params =
    goals_placed q form low r points params at_points at_params p.nodes 0 1 p.commands
    (goals_named (length r.points) (length r.params) p.nodes 0 0 0 p.commands (sym (points_counted p q texts r wp wq ren)) (sym (params_counted p q texts r wp wq ren)) (named_program p wp))
