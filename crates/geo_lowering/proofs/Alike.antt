-- Programs that are the same are lowered alike: what lowering sees of a command can be read off its form.
use Rattle.std.proofs.Common.{◌≡◌, ℕ, zero, suc, Bool, true, false, List, [], ◌∷◌, ◌++◌, map, refl, sym, ◌∙◌, ap, ap₂, eqb, if◌then◌else◌, ◌-◌, Option, Some}
use Rattle.std.specs.Prelude.{slice_index, slice_index_or}
use Rattle.geo_points.specs.declared.ids.ParamId.{ParamId}
use Rattle.geo_points.specs.declared.ids.PointId.{PointId}
use Rattle.geo_terms.specs.Stores.{Store}
use Rattle.geo_terms.specs.Trees.{Tree}
use Rattle.geo_program.specs.declared.commands.Command.{Command}
use Rattle.geo_program.specs.declared.commands.Command.TheVariants.{Point, Param, Line, Parallel, Perp, Med, Intersec, Inter, Foot, Pratio}
use Rattle.geo_program.specs.declared.commands.Command.TheVariants.{Tratio, Online, Lratio, Midpoint, Translate, Symmetric, Reflect}
use Rattle.geo_program.specs.declared.commands.Command.TheVariants.{Circumcenter, Orthocenter, Centroid, Oncircle, Second, Cc, Inverse}
use Rattle.geo_program.specs.declared.commands.Command.TheVariants.{Weights, AssumeDifferent, AssumeNotCollinear, AssumeNotParallel}
use Rattle.geo_program.specs.declared.names.NameKind.{NameKind}
use Rattle.geo_program.specs.declared.names.NameKind.TheVariants as kind
use Rattle.geo_program.specs.Forms.{Argument, CommandForm, point_argument, line_argument, number_argument, command_form}
use Rattle.geo_program.specs.Spelling.{SameSource}
use Rattle.geo_program.specs.WellFormed.{Source}
use Rattle.geo_lowering.specs.declared.version.Version.{Version}
use Rattle.geo_lowering.specs.Counting.{named, hidden, has_number, further, counted, gathered, next_point, next_number, numbers_from, param_places, weights_points}
use Rattle.geo_lowering.specs.Laws.{LoweredFormsAgree, SameProgramsLowerAlike}
use Rattle.geo_lowering.specs.Lowering.{Layout, Pair, command_steps, layout_of, line_places, pair_numbers, pair_of, point_place}
use Rattle.geo_lowering.specs.Lowering.{point_places, points_after, renamed, steps_from, steps_of, weights_steps}
use Rattle.geo_lowering.specs.StepForms.{StepForm, along, turned_along}

-- what lowering sees of a command
record Sight : Type 0 where
  kind : Option NameKind
  hidden : ℕ
  number : Bool
  pair : (ℕ → ℕ) → ℕ → Pair
  steps : Layout → ℕ → ℕ → List StepForm

abbrev sight : (version : Version) → Store → Command → Sight
sight version nodes c = record {
  kind = named c;
  hidden = hidden version c;
  number = has_number c;
  pair = λ point n. pair_of point n c;
  steps = λ l n m. command_steps version l nodes n m c;
}

-- of a command whose number is this tree
abbrev numbered : (Layout → Tree → StepForm) → Tree → Sight
numbered step e = record {
  kind = Some kind.Point;
  hidden = 0;
  number = false;
  pair = λ point n. pair_of point n Point;
  steps = λ l n m. step l (renamed l e) ∷ [];
}

-- of `weights` with these numbers
abbrev by_weights : Version → PointId → PointId → PointId → Tree → Tree → Sight
by_weights version a b c e f = record {
  kind = Some kind.Point;
  hidden = weights_points version - 1;
  number = false;
  pair = λ point n. pair_of point n Point;
  steps = λ l n m. weights_steps version n (l.point a.0) (l.point b.0) (l.point c.0) (renamed l e) (renamed l f);
}

-- the command whose word begins with these letters
abbrev by_letter : List ℕ → ℕ → Command → Command → Command
by_letter word letter c d = if eqb (slice_index word 0) letter then c else d

-- what lowering sees of a command with this word, so many points and these arguments
abbrev seen_by : (version : Version) → List ℕ → ℕ → List Argument → Sight
seen_by version word zero [] = sight version [] Param
seen_by version word zero (point_argument a ∷ point_argument b ∷ []) = sight version [] (by_letter word 97 (AssumeDifferent a b) (Line a b))
seen_by version word zero (point_argument a ∷ point_argument b ∷ point_argument c ∷ []) = sight version [] (AssumeNotCollinear a b c)
seen_by version word zero (point_argument a ∷ point_argument b ∷ point_argument c ∷ point_argument d ∷ []) = sight version [] (AssumeNotParallel a b c d)
seen_by version word (suc zero) (point_argument p ∷ line_argument b ∷ []) = sight version [] (Parallel p b)
seen_by version word (suc (suc zero)) (point_argument p ∷ line_argument b ∷ []) = sight version [] (Perp p b)
seen_by version word (suc (suc zero)) (point_argument a ∷ point_argument b ∷ []) = sight version [] (Med a b)
seen_by version word (suc (suc (suc zero))) (point_argument a ∷ point_argument b ∷ []) = sight version [] (Oncircle a b)
seen_by version word (suc zero) (line_argument a ∷ line_argument b ∷ []) = sight version [] (Intersec a b)
seen_by version word (suc zero) (point_argument a ∷ point_argument b ∷ point_argument c ∷ point_argument d ∷ []) = sight version [] (Inter a b c d)
seen_by version word (suc zero) (point_argument w ∷ point_argument u ∷ point_argument v ∷ number_argument e ∷ []) =
    numbered (λ l r. along (l.point w.0) (l.point u.0) (l.point v.0) r) e
seen_by version word (suc zero) (point_argument a ∷ point_argument b ∷ number_argument e ∷ []) =
    if eqb (slice_index word 0) 116
    then numbered (λ l r. turned_along (l.point a.0) (l.point b.0) r) e
    else numbered (λ l r. along (l.point a.0) (l.point a.0) (l.point b.0) r) e
seen_by version word (suc zero) (point_argument a ∷ point_argument b ∷ []) = sight version [] (by_letter word 111 (Online a b) (by_letter word 109 (Midpoint a b) (Symmetric a b)))
seen_by version word (suc zero) (point_argument a ∷ point_argument b ∷ point_argument c ∷ []) =
    sight version [] (by_letter word 102 (Foot a b c) (by_letter word 116 (Translate a b c) (Inverse a b c)))
seen_by version word (suc (suc zero)) (point_argument a ∷ point_argument b ∷ point_argument c ∷ []) =
    sight version []
    (by_letter word 114 (Reflect a b c)
    (by_letter word 115 (Second a b c) (if eqb (slice_index word 1) 101 then Centroid a b c else Cc a b c)))
seen_by version word (suc (suc (suc zero))) (point_argument a ∷ point_argument b ∷ point_argument c ∷ []) = sight version [] (Orthocenter a b c)
seen_by version word (suc (suc (suc (suc (suc zero))))) (point_argument a ∷ point_argument b ∷ point_argument c ∷ []) = sight version [] (Circumcenter a b c)
seen_by version word (suc (suc zero)) (point_argument a ∷ point_argument b ∷ point_argument c ∷ number_argument e ∷ number_argument f ∷ []) = by_weights version a b c e f
seen_by version word _ _ = sight version [] Point

abbrev seen : (version : Version) → CommandForm → Sight
seen version f = seen_by version f.word f.points f.arguments

seen-is : (version : Version) (nodes : Store) (c : Command) → seen version (command_form nodes c) ≡ sight version nodes c
seen-is version nodes Point = refl
seen-is version nodes _ = refl

sights : (version : Version) (nodes : Store) (cs : List Command) → map (seen version) (map (command_form nodes) cs) ≡ map (sight version nodes) cs
sights version nodes [] = refl
sights version nodes (c ∷ cs) = ap₂ (λ (x : Sight) (xs : List Sight). x ∷ xs) (seen-is version nodes c) (sights version nodes cs)

-- the lists of a program, over what is seen of its commands
abbrev next_point' : ℕ → Sight → ℕ
next_point' n s = counted kind.Point s.kind (further n s.hidden)

abbrev next_number' : ℕ → Sight → ℕ
next_number' m s = elim s.number [ true ↦ suc m | false ↦ m ]

abbrev point_places' : ℕ → List Sight → List ℕ
point_places' n [] = []
point_places' n (s ∷ ss) = gathered kind.Point s.kind (further n s.hidden) (point_places' (next_point' n s) ss)

abbrev line_places' : (ℕ → ℕ) → ℕ → List Sight → List Pair
line_places' point n [] = []
line_places' point n (s ∷ ss) = gathered kind.Line s.kind (s.pair point n) (line_places' point (next_point' n s) ss)

abbrev param_places' : ℕ → List Sight → List ℕ
param_places' m [] = []
param_places' m (s ∷ ss) = gathered kind.Param s.kind m (param_places' (next_number' m s) ss)

abbrev numbers_from' : ℕ → List Sight → ℕ
numbers_from' m [] = m
numbers_from' m (s ∷ ss) = numbers_from' (next_number' m s) ss

abbrev points_after' : ℕ → List Sight → List ℕ
points_after' n [] = []
points_after' n (s ∷ ss) = next_point' n s ∷ points_after' (next_point' n s) ss

abbrev steps_from' : Layout → ℕ → ℕ → List Sight → List StepForm
steps_from' l n m [] = []
steps_from' l n m (s ∷ ss) = s.steps l n m ++ steps_from' l (next_point' n s) (next_number' m s) ss

module _ (version : Version) (nodes : Store) where
  point_places-is : (n : ℕ) (cs : List Command) → point_places version n cs ≡ point_places' n (map (sight version nodes) cs)
  point_places-is n [] = refl
  point_places-is n (c ∷ cs) = ap (λ (xs : List ℕ). gathered kind.Point (named c) (further n (hidden version c)) xs) (point_places-is (next_point version n c) cs)

  line_places-is : (point : ℕ → ℕ) (n : ℕ) (cs : List Command) → line_places version point n cs ≡ line_places' point n (map (sight version nodes) cs)
  line_places-is point n [] = refl
  line_places-is point n (c ∷ cs) = ap (λ (xs : List Pair). gathered kind.Line (named c) (pair_of point n c) xs) (line_places-is point (next_point version n c) cs)

  param_places-is : (m : ℕ) (cs : List Command) → param_places m cs ≡ param_places' m (map (sight version nodes) cs)
  param_places-is m [] = refl
  param_places-is m (c ∷ cs) = ap (λ (xs : List ℕ). gathered kind.Param (named c) m xs) (param_places-is (next_number m c) cs)

  numbers_from-is : (m : ℕ) (cs : List Command) → numbers_from m cs ≡ numbers_from' m (map (sight version nodes) cs)
  numbers_from-is m [] = refl
  numbers_from-is m (c ∷ cs) = numbers_from-is (next_number m c) cs

  points_after-is : (n : ℕ) (cs : List Command) → points_after version n cs ≡ points_after' n (map (sight version nodes) cs)
  points_after-is n [] = refl
  points_after-is n (c ∷ cs) = ap (λ (xs : List ℕ). next_point version n c ∷ xs) (points_after-is (next_point version n c) cs)

  steps_from-is : (l : Layout) (n m : ℕ) (cs : List Command) → steps_from version l nodes n m cs ≡ steps_from' l n m (map (sight version nodes) cs)
  steps_from-is l n m [] = refl
  steps_from-is l n m (c ∷ cs) = ap (λ (xs : List StepForm). command_steps version l nodes n m c ++ xs) (steps_from-is l (next_point version n c) (next_number m c) cs)

module _ (version : Version) (p q : Source) (s : SameSource p q) where
  same_sights : map (sight version p.nodes) p.commands ≡ map (sight version q.nodes) q.commands
  same_sights = sym (sights version p.nodes p.commands) ∙ ap (map (seen version)) s.commands ∙ sights version q.nodes q.commands

  same_points : point_places version 0 p.commands ≡ point_places version 0 q.commands
  same_points = point_places-is version p.nodes 0 p.commands ∙ ap (point_places' 0) same_sights ∙ sym (point_places-is version q.nodes 0 q.commands)

  same_places : (a : ℕ) → point_place version p.commands a ≡ point_place version q.commands a
  same_places a = ap (λ places. slice_index_or places a 0) same_points

  same_lines : line_places version (point_place version p.commands) 0 p.commands ≡ line_places version (point_place version q.commands) 0 q.commands
  same_lines =
      line_places-is version p.nodes (point_place version p.commands) 0 p.commands
      ∙ ap₂ (λ (point : ℕ → ℕ) (ss : List Sight). line_places' point 0 ss) (λ i a. same_places a i) same_sights
      ∙ sym (line_places-is version q.nodes (point_place version q.commands) 0 q.commands)

  same_params : param_places 0 p.commands ≡ param_places 0 q.commands
  same_params = param_places-is version p.nodes 0 p.commands ∙ ap (param_places' 0) same_sights ∙ sym (param_places-is version q.nodes 0 q.commands)

  same_layout : layout_of version p.commands ≡ layout_of version q.commands
  same_layout = λ i. record {
    point = λ a. slice_index_or (same_points i) a 0;
    line = λ a. slice_index_or (same_lines i) a (record { left = 0; right = 0 });
    param = λ t. slice_index_or (same_params i) t 0;
  }

  same_steps : steps_of version p ≡ steps_of version q
  same_steps =
      steps_from-is version p.nodes (layout_of version p.commands) 0 0 p.commands
      ∙ ap₂ (λ (l : Layout) (ss : List Sight). steps_from' l 0 0 ss) same_layout same_sights
      ∙ sym (steps_from-is version q.nodes (layout_of version q.commands) 0 0 q.commands)

pub same_programs_lower_alike : SameProgramsLowerAlike
same_programs_lower_alike version p q l s h = record {
  valid = h.valid;
  steps = h.steps ∙ same_steps version p q s;
  numbers =
      h.numbers
      ∙ numbers_from-is version p.nodes 0 p.commands
      ∙ ap (numbers_from' 0) (same_sights version p q s)
      ∙ sym (numbers_from-is version q.nodes 0 q.commands);
  points = h.points ∙ same_points version p q s;
  lines = h.lines ∙ same_lines version p q s;
  params = h.params ∙ same_params version p q s;
  after =
      h.after
      ∙ points_after-is version p.nodes 0 p.commands
      ∙ ap (points_after' 0) (same_sights version p q s)
      ∙ sym (points_after-is version q.nodes 0 q.commands);
}

-- lists with the same images, one after another, are the same where images come back
back : {A B : Type 0} (f : A → B) (g : B → A) → ((a : A) → g (f a) ≡ a) → (xs : List A) → map g (map f xs) ≡ xs
back f g h [] = refl
back f g h (x ∷ xs) = ap₂ (λ y ys. y ∷ ys) (h x) (back f g h xs)

same_lists : {A B : Type 0} (f : A → B) (g : B → A) → ((a : A) → g (f a) ≡ a) → (xs ys : List A) → map f xs ≡ map f ys → xs ≡ ys
same_lists f g h xs ys e = sym (back f g h xs) ∙ ap (map g) e ∙ back f g h ys

pub lowered_forms_agree : LoweredFormsAgree
lowered_forms_agree version p l m i j = record {
  steps = i.steps ∙ sym j.steps;
  numbers = i.numbers ∙ sym j.numbers;
  points = same_lists (λ (a : PointId). a.0) (λ k. record { 0 = k }) (λ a. refl) l.points m.points (i.points ∙ sym j.points);
  lines =
      same_lists pair_numbers (λ (q : Pair). (record { 0 = q.left }, record { 0 = q.right })) (λ ab. refl) l.lines m.lines (i.lines ∙ sym j.lines);
  params = same_lists (λ (t : ParamId). t.0) (λ k. record { 0 = k }) (λ t. refl) l.params m.params (i.params ∙ sym j.params);
  after = i.after ∙ sym j.after;
}
