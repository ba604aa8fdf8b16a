-- What the functions of the crate say to one another: points and numbers in lowest terms, what comes of reckonings, and how far an
-- evaluation has come.
use Rattle.std.specs.Prelude.{◌≡◌, ◌≤◌, ◌<◌, ◌^◌, ◌+◌, ◌*◌, ◌++◌, ◌∷◌, [], ℕ, suc, ℤ, pos, ◌*ℤ◌, unsigned_abs, All, Bool, true, false, Result, Ok, Err, List, length, map, slice_get, Some, None, take}
use Rattle.std.specs.List.{AllByRecursion}
use Rattle.std.proofs.Common.{mul-pos, lit<}
use Rattle.ring_laws.specs.Fraction.{IsNonzero, Same, whole}
use Rattle.frac_laws.specs.Numbers.{IsNumber, fraction_of}
use Rattle.geo_points.specs.Placements.{Placement, SamePlacement, SamePoint}
use Rattle.geo_points.specs.Points.{Point, x_coordinate, y_coordinate}
use Rattle.geo_terms.specs.declared.steps.Step.{Step}
use Rattle.geo_terms.specs.declared.steps.Step.TheVariants as step
use Rattle.geo_terms.specs.Stores.{Store, tree_of}
use Rattle.geo_program.specs.WellFormed.{IsWellFormed, Source}
use Rattle.geo_lowering.specs.Conditions.{Condition}
use Rattle.geo_lowering.specs.Counting.{numbers_had, points_from, points_past}
use Rattle.geo_lowering.specs.Lowering.{IsLowered, point_place, steps_of}
use Rattle.geo_lowering.specs.StepForms.{StepForm, free, crossing_of, foot_of, along, turned_along, weighted}
use Rattle.geo_lowering.specs.declared.version.Version.TheVariants.{Two}
use Rattle.geo_conditions.specs.declared.items.Item.{Item}
use Rattle.geo_conditions.specs.declared.problem.Problem.{Problem}
use Rattle.geo_conditions.specs.Lists.{AreConditions, Found, IsListed, condition_item, found_from, item_form}
use Rattle.geo_conditions.specs.Problems.{form_of_problem}
use Rattle.geo_conditions.specs.Truth.{ProgramValues, integers_of}
use Rattle.geo_place.specs.declared.errors.PlaceError.{PlaceError}
use Rattle.geo_place.specs.declared.errors.PlaceError.TheVariants.{NoMemory, TooLarge, Unmet}
use Rattle.geo_place.specs.declared.evaluation.Progress.{Progress}
use Rattle.geo_place.specs.declared.placed.At.{At}
use Rattle.geo_place.specs.declared.positions.Position.{Position}
use Rattle.geo_place.specs.declared.positions.Reckoned.{Reckoned}
use Rattle.geo_place.specs.declared.sketch.Sketch.{Sketch}
use Rattle.geo_place.specs.declared.triples.Triple.{Triple}
use Rattle.geo_place.specs.Evaluation.{EndsAs, IsLeast, IsListedAt, IsReckoned, IsRight, TurnOverflows, IsTriplePast, LineTurn, Succeeds, test, too_large, turns_from, unmet}
use Rattle.geo_place.specs.Formulas.{Spot, reckoned}
use Rattle.geo_place.specs.Reckonings.{HasResult, Overflows, Reckoning, number}

-- POSITIONS
-- the position is that of the point
pub record IsPosition (s : Position) (A : Point) : Type 0 where
  pub x : IsNumber s.x (x_coordinate A)
  pub y : IsNumber s.y (y_coordinate A)

-- these come of the reckonings of both coordinates
pub record AreResults (r : Reckoned) (s : Spot) : Type 0 where
  pub x : HasResult s.x r.x
  pub y : HasResult s.y r.y

-- the point at a position
abbrev pub point_at : Position → Point
point_at s = record {
  x = s.x.num *ℤ s.y.den;
  y = s.y.num *ℤ s.x.den;
  w = unsigned_abs s.x.den * unsigned_abs s.y.den;
  positive = mul-pos s.x.nonzero s.y.nonzero;
}

-- the triple is the point's, with the least w, and its coordinates fit
pub record IsTripleOf (t : Triple) (A : Point) : Type 0 where
  pub told : Point
  pub x : t.x ≡ told.x
  pub y : t.y ≡ told.y
  pub w : t.w ≡ pos told.w
  pub least : IsLeast told
  pub same : SamePoint told A
  pub short_x : unsigned_abs t.x < 2 ^ 127
  pub short_y : unsigned_abs t.y < 2 ^ 127

-- SKETCHES
-- the placement of a sketch; past the ends it has zeros
unfoldable pub placement_of : Sketch → Placement
placement_of sketch = record {
  point = λ k. elim (slice_get sketch.points.items k) [
    | None ↦ record { x = pos 0; y = pos 0; w = 1; positive = lit< tt }
    | Some s ↦ point_at s
  ];
  number = λ k. elim (slice_get sketch.numbers.items k) [ None ↦ whole (pos 0) | Some r ↦ fraction_of r ];
}

-- the numbers of the free points among those that steps make, which begin at n
abbrev pub free_places : ℕ → List StepForm → List ℕ
free_places n [] = []
free_places n (free ∷ fs) = n ∷ free_places (suc n) fs
free_places n (crossing_of u v p q ∷ fs) = free_places (suc n) fs
free_places n (foot_of p u v ∷ fs) = free_places (suc n) fs
free_places n (along w u v r ∷ fs) = free_places (suc n) fs
free_places n (turned_along u v r ∷ fs) = free_places (suc n) fs
free_places n (weighted o u v r s ∷ fs) = free_places (suc n) fs

-- ITEMS
-- what is reckoned of the item's term
abbrev pub item_reckoned : Sketch → Store → Item → Reckoning
item_reckoned sketch nodes item = reckoned (placement_of sketch) (tree_of nodes item.term)

-- it is reckoned, and is not 0
abbrev pub IsItemMet : Sketch → Store → Item → Type 0
IsItemMet sketch nodes item = (Overflows (item_reckoned sketch nodes item) → ⊥) × IsNonzero (number (item_reckoned sketch nodes item))

-- it is reckoned, and is 0
abbrev pub IsItemNull : Sketch → Store → Item → Type 0
IsItemNull sketch nodes item =
    (Overflows (item_reckoned sketch nodes item) → ⊥) × Same (number (item_reckoned sketch nodes item)) (whole (pos 0))

-- the item, which is the k-th, gives this error
abbrev pub FailsItem : Sketch → Store → Item → ℕ → PlaceError → Type 0
FailsItem sketch nodes item k (Unmet j) = (j ≡ k) × IsItemNull sketch nodes item
FailsItem sketch nodes item k (TooLarge line) = (line ≡ item.line) × Overflows (item_reckoned sketch nodes item)
FailsItem sketch nodes item k NoMemory = Unit {0}

-- the first of these items that is not met gives this error, where so many stand before them
pub record FirstFails (sketch : Sketch) (nodes : Store) (items : List Item) (earlier : ℕ) (error : PlaceError) : Type 0 where
  pub before : List Item
  pub item : Item
  pub after : List Item
  pub parts : items ≡ before ++ item ∷ after
  pub met : AllByRecursion (IsItemMet sketch nodes) before
  pub fails : FailsItem sketch nodes item (suc (earlier + length before)) error

-- the first of these items that is not 0
pub record StopsGoals (sketch : Sketch) (nodes : Store) (items : List Item) (Q : Item → Type 0) : Type 0 where
  pub before : List Item
  pub item : Item
  pub after : List Item
  pub parts : items ≡ before ++ item ∷ after
  pub null : AllByRecursion (IsItemNull sketch nodes) before
  pub stops : Q item

-- what comes of goals: all are 0; the first that is not is not refused, or is
abbrev pub GoalsCome : Sketch → Store → List Item → Result Bool PlaceError → Type 0
GoalsCome sketch nodes items (Ok true) = AllByRecursion (IsItemNull sketch nodes) items
GoalsCome sketch nodes items (Ok false) = StopsGoals sketch nodes items (IsItemMet sketch nodes)
GoalsCome sketch nodes items (Err (TooLarge line)) =
    StopsGoals sketch nodes items (λ i. (line ≡ i.line) × Overflows (item_reckoned sketch nodes i))
GoalsCome sketch nodes items (Err error) = ⊥

-- RUNS
-- a program, its values, the placement that is reckoned from them, and the program's conditions
pub record Run : Type 0 where
  pub program : Source
  pub values : ProgramValues
  pub placed : Placement
  pub conditions : List Found

-- these are the problem and the values of the run
pub record IsRun (run : Run) (problem : Problem) (ints : List ℤ) : Type 0 where
  pub formed : IsWellFormed run.program
  pub lowered : IsLowered Two run.program (form_of_problem problem)
  pub reckoned : IsReckoned run.program run.values run.placed
  pub listed : AreConditions run.program run.conditions
  pub stored : All (λ i. i.term.0 < length problem.steps.nodes) problem.conditions
  pub written : map (item_form problem.steps.nodes) problem.conditions ≡ map (condition_item Two run.program) run.conditions
  pub ints_are : ints ≡ integers_of run.values
  pub short : All (λ z. unsigned_abs z < 2 ^ 127) ints

-- the sketch has the first points of the run's placement, and all its numbers
pub record IsSketchOf (run : Run) (sketch : Sketch) : Type 0 where
  pub few : length sketch.points.items ≤ length (steps_of Two run.program)
  pub numbers : length sketch.numbers.items ≡ numbers_had run.program.commands
  pub free : sketch.free ≡ length (free_places 0 (take (length sketch.points.items) (steps_of Two run.program)))
  pub same : SamePlacement (length sketch.points.items) (length sketch.numbers.items) (placement_of sketch) run.placed

-- the turn stops evaluation with this error
abbrev pub StopsAt : Run → LineTurn → PlaceError → Type 0
StopsAt run t (Unmet k) =
    (c : Condition) × (t.turn ≡ test c) × IsListedAt run.program c k × (TurnOverflows run.program run.placed t.turn → ⊥)
    × (IsRight run.program run.placed t.turn → ⊥)
StopsAt run t (TooLarge line) = (t.line ≡ line) × TurnOverflows run.program run.placed t.turn
StopsAt run t NoMemory = ⊥

-- one of these turns stops evaluation with this error, and all before it pass
pub record Stop (run : Run) (turns : List LineTurn) (error : PlaceError) : Type 0 where
  pub before : List LineTurn
  pub turn : LineTurn
  pub after : List LineTurn
  pub parts : turns ≡ before ++ turn ∷ after
  pub passed : AllByRecursion (Succeeds run.program run.placed) before
  pub stops : StopsAt run turn error

-- evaluation stops with this error, unless memory is wanting
abbrev pub Stops : Run → List LineTurn → PlaceError → Type 0
Stops run turns NoMemory = Unit {0}
Stops run turns error = Stop run turns error

-- the condition passes its test
abbrev pub IsPassed : Run → Condition → Type 0
IsPassed run c = (TurnOverflows run.program run.placed (test c) → ⊥) × IsRight run.program run.placed (test c)

-- the first k commands are evaluated, and all their turns pass
pub record IsTaken (run : Run) (k : ℕ) (progress : Progress) : Type 0 where
  pub sketch : IsSketchOf run progress.sketch
  pub points : length progress.sketch.points.items ≡ points_past Two 0 (take k run.program.commands)
  pub tested : progress.tested ≤ length run.conditions
  pub listed : IsListed (λ f. f.condition) [] (found_from run.program.nodes 0 1 (take k run.program.commands))
      (take progress.tested run.conditions)
  pub held : AllByRecursion (λ f. IsPassed run f.condition) (take progress.tested run.conditions)
  pub told : length progress.triples.items ≡ points_from 0 (take k run.program.commands)
  pub triples : (a : ℕ) (t : Triple) → slice_get progress.triples.items a ≡ Some t
      → IsTripleOf t (run.placed.point (point_place Two run.program.commands a))
  pub passed : AllByRecursion (Succeeds run.program run.placed) (turns_from run.program 1 0 0 0 (take k run.program.commands))

-- evaluation ends with this error, unless memory is wanting
abbrev pub EndsWith : Run → PlaceError → Type 0
EndsWith run (Unmet k) = EndsAs run.program run.placed (unmet k)
EndsWith run (TooLarge line) = EndsAs run.program run.placed (too_large line)
EndsWith run NoMemory = Unit {0}

-- TRIPLES
-- the triple of a point that is told
abbrev pub triple_at : At → Triple
triple_at a = record { x = a.x; y = a.y; w = a.w }

-- the numbers of the step stand in the store
abbrev pub HasNumber : Store → Step → Type 0
HasNumber nodes (step.Pratio w u v r) = r.0 < length nodes
HasNumber nodes (step.Tratio u v r) = r.0 < length nodes
HasNumber nodes (step.Weights o u v r s) = (r.0 < length nodes) × (s.0 < length nodes)
HasNumber nodes _ = Unit {0}

-- the triple of the position stands behind those before it, and is not too large
pub record TellsTriple (old new : List Triple) (s : Position) : Type 0 where
  pub triple : Triple
  pub pushed : new ≡ old ++ triple ∷ []
  pub is : IsTripleOf triple (point_at s)
  pub fits : IsTriplePast (point_at s) → ⊥

-- the triple of the position is too large, at the line, unless memory is wanting
abbrev pub IsTripleStop : Position → ℕ → PlaceError → Type 0
IsTripleStop s line (TooLarge l) = (l ≡ line) × IsTriplePast (point_at s)
IsTripleStop s line NoMemory = Unit {0}
IsTripleStop s line (Unmet k) = ⊥
