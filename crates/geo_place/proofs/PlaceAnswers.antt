-- What `place` answers, from the end of the evaluation.
use Rattle.std.proofs.Common.{◌≡◌, ℕ, zero, suc, ◌+◌, ◌<◌, ◌≤◌, true, false, pos, List, [], ◌∷◌, length, map, refl, sym, ◌∙◌, ap, subst, arith}
use Rattle.std.specs.Prelude.{◌≤ℤ◌, All, IsErrAnd, Option, Some, None, Result, Ok, Err, slice_get}
use Rattle.std.specs.List.{AllByRecursion}
use Rattle.std.proofs.lemmas.Int.{ints}
use Rattle.std.proofs.lemmas.List.Elements.{All-from_recursion, recursion_from_All}
use Rattle.geo_program.specs.Words.{IsNameText}
use Rattle.geo_place.proofs.ListParts.{head_of, none_before, tail_of}
use Rattle.geo_points.specs.Placements.{Placement}
use Rattle.geo_points.specs.Points.{Point as Triplet}
use Rattle.geo_program.specs.declared.commands.Command.{Command}
use Rattle.geo_program.specs.declared.names.Name.{Name}
use Rattle.geo_program.specs.declared.names.NameKind.{NameKind}
use Rattle.geo_program.specs.declared.names.NameKind.TheVariants as kind
use Rattle.geo_program.specs.Names.{names_of}
use Rattle.geo_program.specs.WellFormed.{IsWellFormed, Scope, Source}
use Rattle.geo_lowering.specs.Building.{forgotten}
use Rattle.geo_lowering.specs.Counting.{counted, gathered, named, points_from}
use Rattle.geo_lowering.specs.Lowering.{IsLowered, LoweredForm, point_place}
use Rattle.geo_conditions.proofs.ConditionScopes.{scope_past}
use Rattle.geo_program.proofs.ScopeLemmas.{points_declared}
use Rattle.geo_lowering.specs.declared.version.Version.TheVariants.{Two}
use Rattle.geo_conditions.specs.Lists.{Found}
use Rattle.geo_conditions.specs.Truth.{ProgramValues}
use Rattle.geo_place.specs.declared.errors.PlaceError.{PlaceError}
use Rattle.geo_place.specs.declared.errors.PlaceError.TheVariants.{NoMemory, TooLarge, Unmet}
use Rattle.geo_place.specs.declared.placed.At.{At}
use Rattle.geo_place.specs.declared.placed.Placed.{Placed}
use Rattle.geo_place.specs.declared.triples.Triple.{Triple}
use Rattle.geo_place.specs.Evaluation.{EndsAs, IsLeast, IsReckoned, placed_all}
use Rattle.geo_place.specs.Inner.{EndsWith, IsTripleOf, triple_at}
use Rattle.geo_place.specs.Placing.{AreTold, AnswersValues, IsDrawable, IsPointTold, Places, point_lines}
use Rattle.geo_place.proofs.LawProofs.{evaluation_places, unmet_values_place_nothing}
use Rattle.geo_place.proofs.LeastTriples.{least_once}

-- NAMES
-- as many names of points as commands that name points, and as many lines
pub names_counted : (p : Source) → IsWellFormed p → points_from 0 p.commands ≡ length (names_of kind.Point p.names)
names_counted p w = sym (ap (λ (s : Scope). s.points) (scope_past p.nodes p.names p.commands 0 0 0 w.commands)) ∙ points_declared p.names

lines_next : (made : Option NameKind) (x line : ℕ) (lines : List ℕ) → counted kind.Point made x + length lines ≡ x + length (gathered kind.Point made line lines)
lines_next (Some kind.Point) x line lines = omega arith
lines_next (Some kind.Param) x line lines = refl
lines_next (Some kind.Line) x line lines = refl
lines_next None x line lines = refl

pub lines_counted : (x line : ℕ) (cs : List Command) → points_from x cs ≡ x + length (point_lines line cs)
lines_counted x line [] = omega arith
lines_counted x line (c ∷ cs) =
    lines_counted (counted kind.Point (named c) x) (suc line) cs ∙ lines_next (named c) x line (point_lines (suc line) cs)

-- TRIPLES
get_map : {A B : Type 0} (f : A → B) (xs : List A) (k : ℕ) (x : A) → slice_get xs k ≡ Some x → slice_get (map f xs) k ≡ Some (f x)
get_map f [] k x e = cc
get_map f (y ∷ ys) zero x e = ap (λ (o : Option _). elim o [ None ↦ Some (f y) | Some z ↦ Some (f z) ]) e
get_map f (y ∷ ys) (suc k) x e = get_map f ys k x e

pub told_of : (a : At) (A : Triplet) → IsLeast A → IsTripleOf (triple_at a) A → IsPointTold a A
told_of a A l h =
    let s = least_once h.told A h.least l h.same in
    record { x = h.x ∙ s.x; y = h.y ∙ s.y; w = h.w ∙ ap pos s.w; least = l }

module _ (p : Source) (w : IsWellFormed p) (l : LoweredForm) (i : IsLowered Two p l) (v : ProgramValues) (placed : Placement) (r : IsReckoned p v placed) where
  pub are_told : ((k : ℕ) → IsLeast (placed.point k)) → (points : List At) (triples : List Triple)
      → map (λ a. a.name) points ≡ names_of kind.Point p.names → map (λ a. a.line) points ≡ point_lines 1 p.commands → map triple_at points ≡ triples
      → ((a : ℕ) (t : Triple) → slice_get triples a ≡ Some t → IsTripleOf t (placed.point (point_place Two p.commands a))) → AreTold p (forgotten Two p placed) points
  are_told least points triples a b c h = record {
    names = a;
    lines = b;
    triples = λ k q e. told_of q (placed.point (point_place Two p.commands k)) (least (point_place Two p.commands k))
        (h k (triple_at q) (subst (λ (ts : List Triple). slice_get ts k ≡ Some (triple_at q)) c (get_map triple_at points k q e)));
  }

  pub answer_placed : (answer : Placed) → EndsAs p placed (placed_all answer.holds) → AreTold p (forgotten Two p placed) answer.points → Places p v answer
  answer_placed answer e t =
      let k = evaluation_places p l v placed answer.holds w i r e in
      record { reckoned = placed; is_reckoned = r; ends = e; told = t; only = k.0; holds = k.1 }

  pub answer_stopped : (conditions : List Found) (e : PlaceError) → EndsWith (record { program = p; values = v; placed = placed; conditions = conditions }) e → AnswersValues p v (Err e)
  answer_stopped conditions (Unmet k) h = record { reckoned = placed; is_reckoned = r; ends = h; none = λ q a b. unmet_values_place_nothing p l v placed k w i r h q a b }
  answer_stopped conditions (TooLarge line) h = record { reckoned = placed; is_reckoned = r; ends = h }
  answer_stopped conditions NoMemory h = tt

-- an error that is passed on
pub refused_answer : (p : Source) (v : ProgramValues) (r : Result Placed PlaceError) (x : PlaceError) → IsErrAnd r (λ e. e ≡ x) → AnswersValues p v (Err x) → AnswersValues p v r
refused_answer p v (Ok t) x h a = absurd h
refused_answer p v (Err e) x h a = subst (λ (f : PlaceError). AnswersValues p v (Err f)) (sym h) a

-- POINTS THAT CAN BE DRAWN
name_some : (text : List ℕ) → IsNameText text → 1 ≤ length text
name_some [] h = let z : false ≡ true = h.first in cc
name_some (c ∷ cs) h = omega arith

names_some : (names : List Name) → AllByRecursion (λ n. IsNameText n.text) names → AllByRecursion (λ t. 1 ≤ length t) (names_of kind.Point names)
names_some [] h = tt
names_some (n ∷ ns) h = go n.kind (names_some ns h.1)
  where
    go : (k : NameKind) → AllByRecursion (λ t. 1 ≤ length t) (names_of kind.Point ns) → AllByRecursion (λ t. 1 ≤ length t) (names_of kind.Point (record { text = n.text; kind = k } ∷ ns))
    go kind.Point r = (name_some n.text h.0, r)
    go kind.Param r = r
    go kind.Line r = r

each_drawable : (points : List At) (texts : List (List ℕ)) → map (λ a. a.name) points ≡ texts → AllByRecursion (λ t. 1 ≤ length t) texts
    → ((k : ℕ) (a : At) → slice_get points k ≡ Some a → 1 ≤ length a.name → IsDrawable a) → AllByRecursion IsDrawable points
each_drawable [] texts e h f = tt
each_drawable (p ∷ ps) [] e h f = absurd (none_before [] p.name (map (λ a. a.name) ps) e)
each_drawable (p ∷ ps) (t ∷ ts) e h f =
    (f 0 p refl (subst (λ (n : List ℕ). 1 ≤ length n) (sym (head_of e)) h.0), each_drawable ps ts (tail_of e) h.1 (λ k a g. f (suc k) a g))

pub all_drawable : (p : Source) → IsWellFormed p → (placed : Placement) (points : List At) (triples : List Triple)
    → map (λ a. a.name) points ≡ names_of kind.Point p.names → map triple_at points ≡ triples
    → ((a : ℕ) (t : Triple) → slice_get triples a ≡ Some t → IsTripleOf t (placed.point (point_place Two p.commands a))) → All IsDrawable points
all_drawable p w placed points triples a c h =
    All-from_recursion IsDrawable points
    (each_drawable points (names_of kind.Point p.names) a (names_some p.names (recursion_from_All (λ n. IsNameText n.text) p.names w.names))
    (λ k q e n.
    let t = h k (triple_at q) (subst (λ (ts : List Triple). slice_get ts k ≡ Some (triple_at q)) c (get_map triple_at points k q e)) in
    record {
      w = subst (λ z. pos 1 ≤ℤ z) (sym t.w) (let l : 0 < t.told.w = t.told.positive in omega (arith, ints, l));
      short_x = t.short_x;
      short_y = t.short_y;
      named = n;
    }))
