-- The integers of a sample are the values that it gives the program.
use Rattle.std.proofs.Common.{◌≡◌, ℕ, zero, suc, ◌+◌, ◌<◌, Bool, true, false, ℤ, pos, List, [], ◌∷◌, ◌++◌, map, length, refl, sym, ◌∙◌, ap, subst, arith}
use Rattle.std.specs.Prelude.{slice_index_or}
use Rattle.std.specs.List.{flat_map}
use Rattle.ring_laws.specs.Fraction.{Same, whole}
use Rattle.geo_points.specs.Placements.{Placement, SamePoint}
use Rattle.ring_laws.proofs.Fractions.{fractions}
use Rattle.geo_poly.specs.declared.variables.Var.{Var}
use Rattle.geo_poly.specs.declared.variables.Var.TheVariants.{X as Abscissa, Y as Ordinate, T as Number}
use Rattle.geo_program.specs.declared.commands.Command.{Command}
use Rattle.geo_program.specs.declared.commands.Command.TheVariants.{Point, Param, Line, Parallel, Perp, Med, Intersec, Inter, Foot, Pratio}
use Rattle.geo_program.specs.declared.commands.Command.TheVariants.{Tratio, Online, Lratio, Midpoint, Translate, Symmetric, Reflect}
use Rattle.geo_program.specs.declared.commands.Command.TheVariants.{Circumcenter, Orthocenter, Centroid, Oncircle, Second, Cc, Inverse}
use Rattle.geo_program.specs.declared.commands.Command.TheVariants.{Weights, AssumeDifferent, AssumeNotCollinear, AssumeNotParallel}
use Rattle.geo_program.specs.declared.names.NameKind.TheVariants as kind
use Rattle.geo_program.specs.WellFormed.{Source}
use Rattle.geo_terms.specs.declared.steps.Step.{Step}
use Rattle.geo_terms.specs.declared.steps.Step.TheVariants as step
use Rattle.geo_terms.specs.Stores.{Store, tree_of}
use Rattle.geo_terms.specs.Trees.{Tree}
use Rattle.geo_points.specs.declared.ids.PointId.{PointId}
use Rattle.geo_points.specs.declared.ids.TermId.{TermId}
use Rattle.geo_lowering.specs.Building.{AreFreesSame}
use Rattle.geo_lowering.specs.Counting.{named, counted, hidden, further, next_point, next_number, numbers_had}
use Rattle.geo_lowering.specs.Lowering.{IsLowered, Layout, LoweredForm, layout_of, command_steps, point_place, renamed, steps_from, weights_steps}
use Rattle.geo_lowering.specs.StepForms.{StepForm, free, step_form}
use Rattle.geo_lowering.proofs.Laying.{AreLaid, laid_program}
use Rattle.geo_lowering.specs.declared.version.Version.{Version}
use Rattle.geo_lowering.specs.declared.version.Version.TheVariants.{One, Two}
use Rattle.geo_conditions.specs.Truth.{HasValues, ProgramValues, free_points, is_free, whole_point}
use Rattle.geo_logs.specs.Samples.{coordinates_from, parameters_from, sample_variables, value_in}
use Rattle.geo_logs.proofs.SampleVariables.{EachValue, IsDistinct, IsOwn, each_own, sample_distinct}
use Rattle.log_checker.specs.Subjects.{AreSampleValues}
use Rattle.log_checker.proofs.Made.{given_by}
use Rattle.log_checker.proofs.Places.{map-item, map-length}

-- what the sample has for a named point
abbrev pub sample_pair : Version → Source → List (Var × ℤ) → ℕ → ℤ × ℤ
sample_pair version p values a = (value_in values (Abscissa (record { 0 = point_place version p.commands a })), value_in values (Ordinate (record { 0 = point_place version p.commands a })))

-- the values that a sample gives the program
abbrev pub sample_values : Version → Source → List (Var × ℤ) → ProgramValues
sample_values version p values = record {
  coordinates = map (sample_pair version p values) (free_points 0 p.commands);
  numbers = map (λ v. value_in values v) (parameters_from 0 (numbers_had p.commands));
}

-- A PLACEMENT HAS THEM
free_is : (c : Command) → is_free c ≡ true → c ≡ Point
free_is Point e = refl
free_is _ e = cc

-- with x in front, where it is so
abbrev WithFirst : Bool → ℕ → List ℕ → List ℕ
WithFirst b x xs = elim b [ true ↦ x ∷ xs | false ↦ xs ]

-- both placements have the same point at this place of the list
abbrev IsSameAt : Placement → Placement → List ℕ → ℕ → Type 0
IsSameAt one other xs k = SamePoint (one.point (slice_index_or xs k 0)) (other.point (slice_index_or xs k 0))

frees_at : (one other : Placement) (cs : List Command) (x : ℕ) → AreFreesSame one other x cs → (k : ℕ) → k < length (free_points x cs) → IsSameAt one other (free_points x cs) k
frees_at one other [] x h k lt = absurd (omega (arith, lt))
frees_at one other (c ∷ cs) x h k lt = next (is_free c) refl (free_points (counted kind.Point (named c) x) cs) (frees_at one other cs (counted kind.Point (named c) x) h.1) k lt
  where
    next : (b : Bool) → is_free c ≡ b → (rest : List ℕ) → ((k : ℕ) → k < length rest → IsSameAt one other rest k)
        → (k : ℕ) → k < length {A = ℕ} (WithFirst b x rest) → IsSameAt one other (WithFirst b x rest) k
    next true e rest later zero lt = h.0 (free_is c e)
    next true e rest later (suc k) lt = later k (omega (arith, lt))
    next false e rest later k lt = later k lt

parameters-length : (k n : ℕ) → length (parameters_from k n) ≡ n
parameters-length k zero = refl
parameters-length k (suc n) = ap suc (parameters-length (suc k) n)

parameter-item : (k n i : ℕ) (v : Var) → i < n → slice_index_or (parameters_from k n) i v ≡ Number (record { 0 = k + i })
parameter-item k zero i v lt = absurd (omega (arith, lt))
parameter-item k (suc n) zero v lt = let q : k ≡ k + 0 = omega arith in ap (λ j. Number (record { 0 = j })) q
parameter-item k (suc n) (suc i) v lt =
    let q : suc k + i ≡ k + suc i = omega arith in parameter-item (suc k) n i v (omega (arith, lt)) ∙ ap (λ j. Number (record { 0 = j })) q

pub has_sample_values : (version : Version) (p : Source) (values : List (Var × ℤ)) (V : Placement)
    → AreFreesSame V (given_by version p values) 0 p.commands → V.number ≡ (given_by version p values).number
    → HasValues p V (sample_values version p values)
has_sample_values version p values V frees numbers =
    let n = numbers_had p.commands in
    let ts = parameters_from 0 n in
    let long : length (map (λ v. value_in values v) ts) ≡ n = map-length (λ v. value_in values v) ts ∙ parameters-length 0 n in
    let points = free_points 0 p.commands in
    let wide : length (map (sample_pair version p values) points) ≡ length points = map-length (sample_pair version p values) points in
    record {
      points = wide;
      numbers = long;
      same_points = λ k lt.
          let b : k < length points = omega (arith, lt, wide) in
          subst (λ xy. SamePoint (V.point (slice_index_or points k 0)) (whole_point xy)) (sym (map-item (sample_pair version p values) points k 0 (pos 0, pos 0) b))
          (frees_at V (given_by version p values) p.commands 0 frees k b);
      same_numbers = λ k lt.
          let b : k < n = omega (arith, lt, long) in
          let c : k < length ts = let e = parameters-length 0 n in omega (arith, b, e) in
          let t : Var = Number (record { 0 = 0 }) in
          let q : 0 + k ≡ k = omega arith in
          let item : slice_index_or (map (λ v. value_in values v) ts) k (pos 0) ≡ value_in values (Number (record { 0 = k })) =
          map-item (λ v. value_in values v) ts k t (pos 0) c ∙ ap (λ v. value_in values v) (parameter-item 0 n k t b ∙ ap (λ j. Number (record { 0 = j })) q) in
          subst (λ z. Same (V.number k) (whole z)) (sym item) (subst (λ f. Same (V.number k) (f k)) numbers (fractions.same_refl (V.number k)));
    }

-- AND THEY ARE PRINTED
-- the coordinates of the points that the step forms leave free
abbrev form_coordinates : ℕ → List StepForm → List Var
form_coordinates k [] = []
form_coordinates k (free ∷ fs) = Abscissa (record { 0 = k }) ∷ Ordinate (record { 0 = k }) ∷ form_coordinates (suc k) fs
form_coordinates k (_ ∷ fs) = form_coordinates (suc k) fs

of_steps : (nodes : Store) (steps : List Step) (k : ℕ) → coordinates_from k steps ≡ form_coordinates k (map (step_form nodes) steps)
of_steps nodes [] k = refl
of_steps nodes (step.Point ∷ ss) k = ap (λ vs. Abscissa (record { 0 = k }) ∷ Ordinate (record { 0 = k }) ∷ vs) (of_steps nodes ss (suc k))
of_steps nodes (step.Inter u v p q ∷ ss) k = of_steps nodes ss (suc k)
of_steps nodes (step.Foot p u v ∷ ss) k = of_steps nodes ss (suc k)
of_steps nodes (step.Pratio w u v r ∷ ss) k = of_steps nodes ss (suc k)
of_steps nodes (step.Tratio u v r ∷ ss) k = of_steps nodes ss (suc k)
of_steps nodes (step.Weights o u v r s ∷ ss) k = of_steps nodes ss (suc k)

-- those of `weights`: none
weights_coordinates : (version : Version) (n a b c : ℕ) (e f : Tree) (p q r : PointId) (t u : TermId) (rest : List StepForm)
    → form_coordinates n (weights_steps version n a b c e f ++ rest) ≡ form_coordinates (next_point version n (Weights p q r t u)) rest
weights_coordinates One n a b c e f p q r t u rest = refl
weights_coordinates Two n a b c e f p q r t u rest = refl

module _ (version : Version) (l : Layout) (nodes : Store) where
  abbrev With : Bool → ℕ → List Var → List Var
  With b n vs = elim b [ true ↦ Abscissa (record { 0 = n }) ∷ Ordinate (record { 0 = n }) ∷ vs | false ↦ vs ]

  of_command : (n m : ℕ) (c : Command) (rest : List StepForm) → form_coordinates n (command_steps version l nodes n m c ++ rest) ≡ With (is_free c) n (form_coordinates (next_point version n c) rest)
  of_command n m (Weights a b c r s) rest =
      weights_coordinates version n (l.point a.0) (l.point b.0) (l.point c.0) (renamed l (tree_of nodes r)) (renamed l (tree_of nodes s)) a b c r s rest
  of_command n m _ rest = refl

  -- both coordinates of a named point
  abbrev both : ℕ → List Var
  both a = Abscissa (record { 0 = l.point a }) ∷ Ordinate (record { 0 = l.point a }) ∷ []

  of_commands : (cs : List Command) (x q j n m : ℕ) → AreLaid version l x q j n m cs → form_coordinates n (steps_from version l nodes n m cs) ≡ flat_map both (free_points x cs)
  of_commands [] x q j n m d = refl
  of_commands (c ∷ cs) x q j n m d =
      of_command n m c (steps_from version l nodes (next_point version n c) (next_number m c) cs)
      ∙ go (is_free c) refl (form_coordinates (next_point version n c) (steps_from version l nodes (next_point version n c) (next_number m c) cs)) (free_points (counted kind.Point (named c) x) cs)
      (of_commands cs _ _ _ (next_point version n c) (next_number m c) d.1)
    where
      go : (b : Bool) → is_free c ≡ b → (C : List Var) (F : List ℕ) → C ≡ flat_map both F → With b n C ≡ flat_map both (elim b [ true ↦ x ∷ F | false ↦ F ])
      go true e C F h =
          let is = free_is c e in
          let at : l.point x ≡ n = d.0.point (ap named is) ∙ ap (λ b. further n (hidden version b)) is in
          ap (λ vs. Abscissa (record { 0 = n }) ∷ Ordinate (record { 0 = n }) ∷ vs) h
          ∙ ap (λ i. Abscissa (record { 0 = i }) ∷ Ordinate (record { 0 = i }) ∷ flat_map both F) (sym at)
      go false e C F h = h

  map_both : (g : Var → ℤ) (xs : List ℕ)
      → map g (flat_map both xs) ≡ flat_map (λ (xy : ℤ × ℤ). xy.0 ∷ xy.1 ∷ []) (map (λ a. (g (Abscissa (record { 0 = l.point a })), g (Ordinate (record { 0 = l.point a })))) xs)
  map_both g [] = refl
  map_both g (x ∷ xs) = ap (λ zs. g (Abscissa (record { 0 = l.point x })) ∷ g (Ordinate (record { 0 = l.point x })) ∷ zs) (map_both g xs)

map-join : {A B : Type 0} (f : A → B) (xs ys : List A) → map f (xs ++ ys) ≡ map f xs ++ map f ys
map-join f [] ys = refl
map-join f (x ∷ xs) ys = ap (λ zs. f x ∷ zs) (map-join f xs ys)

-- each integer is the value of its variable
own_integers : (values ys : List (Var × ℤ)) → EachValue (IsOwn values) ys → map (λ (y : Var × ℤ). y.1) ys ≡ map (λ v. value_in values v) (map (λ (y : Var × ℤ). y.0) ys)
own_integers values [] h = refl
own_integers values (y ∷ ys) h = λ i. sym h.0 i ∷ own_integers values ys h.1 i

pub values_printed : (version : Version) (p : Source) (l : LoweredForm) (values : List (Var × ℤ)) → IsLowered version p l → map (λ (y : Var × ℤ). y.0) values ≡ sample_variables l.construction
    → AreSampleValues values (sample_values version p values)
values_printed version p l values i e =
    let c = l.construction in
    let g : Var → ℤ = λ v. value_in values v in
    let distinct = subst (λ vs. IsDistinct vs) (sym e) (sample_distinct c) in
    let places = layout_of version p.commands in
    let coordinates : coordinates_from 0 c.steps ≡ flat_map (both version places p.nodes) (free_points 0 p.commands) =
    of_steps c.nodes c.steps 0 ∙ ap (λ fs. form_coordinates 0 fs) i.steps ∙ of_commands version places p.nodes p.commands 0 0 0 0 0 (laid_program version p.commands) in
    own_integers values values (each_own values distinct)
    ∙ ap (λ vs. map g vs) e
    ∙ map-join g (coordinates_from 0 c.steps) (parameters_from 0 c.params)
    ∙ ap (λ vs. map g vs ++ map g (parameters_from 0 c.params)) coordinates
    ∙ ap (λ zs. zs ++ map g (parameters_from 0 c.params)) (map_both version places p.nodes g (free_points 0 p.commands))
    ∙ ap (λ n. flat_map (λ (xy : ℤ × ℤ). xy.0 ∷ xy.1 ∷ []) (map (sample_pair version p values) (free_points 0 p.commands)) ++ map g (parameters_from 0 n)) i.numbers
