-- Values have an answer.
use Rattle.std.proofs.Common.{◌≡◌, ℕ, zero, suc, ◌+◌, pos, List, [], ◌∷◌, length}
use Rattle.std.proofs.Common.{map, Some, Result, Ok, Err, refl, ap, subst, arith}
use Rattle.std.specs.Prelude.{slice_get}
use Rattle.geo_points.specs.Placements.{Placement}
use Rattle.geo_program.specs.declared.names.NameKind.TheVariants as kind
use Rattle.geo_program.specs.Names.{names_of}
use Rattle.geo_program.specs.WellFormed.{IsWellFormed, Source}
use Rattle.geo_lowering.specs.Building.{forgotten}
use Rattle.geo_lowering.specs.Lowering.{IsLowered, LoweredForm, point_place}
use Rattle.geo_lowering.specs.declared.version.Version.TheVariants.{Two}
use Rattle.geo_lowering.proofs.Existing.{programs_have_lowered_forms}
use Rattle.geo_conditions.specs.Truth.{ProgramValues}
use Rattle.geo_place.specs.declared.errors.PlaceError.{PlaceError}
use Rattle.geo_place.specs.declared.errors.PlaceError.TheVariants.{NoMemory, TooLarge, Unmet}
use Rattle.geo_place.specs.declared.placed.At.{At}
use Rattle.geo_place.specs.declared.placed.Placed.{Placed}
use Rattle.geo_place.specs.Evaluation.{End, EndsAs, IsLeast, IsReckoned}
use Rattle.geo_place.specs.Evaluation.{placed_all, too_large, unmet}
use Rattle.geo_place.specs.Laws.{ValuesHaveAnAnswer}
use Rattle.geo_place.specs.Placing.{AnswersValues, AreTold, IsPointTold, point_lines}
use Rattle.geo_place.proofs.Ends.{evaluation_ends}
use Rattle.geo_place.proofs.Existence.{placement_least, placement_reckoned, reckoned_placement}
use Rattle.geo_place.proofs.PlaceAnswers.{answer_placed, answer_stopped, lines_counted, names_counted}

-- THE POINTS THAT ARE TOLD
module _ (placed : Placement) where
  abbrev told_at : ℕ → List ℕ → ℕ → At
  told_at k name line = record { name = name; line = line; x = (placed.point k).x; y = (placed.point k).y; w = pos (placed.point k).w }

  -- the points from k on, with these names and lines
  abbrev told_from : ℕ → List (List ℕ) → List ℕ → List At
  told_from k [] lines = []
  told_from k (name ∷ names) [] = []
  told_from k (name ∷ names) (line ∷ lines) = told_at k name line ∷ told_from (suc k) names lines

  told_names : (k : ℕ) (names : List (List ℕ)) (lines : List ℕ) → length names ≡ length lines → map (λ a. a.name) (told_from k names lines) ≡ names
  told_names k [] lines e = refl
  told_names k (name ∷ names) [] e = absurd (omega (arith, e))
  told_names k (name ∷ names) (line ∷ lines) e = ap (λ (ns : List (List ℕ)). name ∷ ns) (told_names (suc k) names lines (omega (arith, e)))

  told_lines : (k : ℕ) (names : List (List ℕ)) (lines : List ℕ) → length names ≡ length lines → map (λ a. a.line) (told_from k names lines) ≡ lines
  told_lines k [] [] e = refl
  told_lines k [] (line ∷ lines) e = absurd (omega (arith, e))
  told_lines k (name ∷ names) [] e = absurd (omega (arith, e))
  told_lines k (name ∷ names) (line ∷ lines) e = ap (λ (ls : List ℕ). line ∷ ls) (told_lines (suc k) names lines (omega (arith, e)))

  told_triples : ((k : ℕ) → IsLeast (placed.point k)) → (k : ℕ) (names : List (List ℕ)) (lines : List ℕ) (i : ℕ) (a : At)
      → slice_get (told_from k names lines) i ≡ Some a → IsPointTold a (placed.point (k + i))
  told_triples least k [] lines i a e = cc
  told_triples least k (name ∷ names) [] i a e = cc
  told_triples least k (name ∷ names) (line ∷ lines) zero a e =
      let same : told_at k name line ≡ a = cc in
      let here : k ≡ k + zero = omega arith in
      subst (λ (b : At). IsPointTold b (placed.point (k + zero))) same
      (subst (λ (j : ℕ). IsPointTold (told_at k name line) (placed.point j)) here (record { x = refl; y = refl; w = refl; least = least k }))
  told_triples least k (name ∷ names) (line ∷ lines) (suc i) a e =
      let there : suc k + i ≡ k + suc i = omega arith in
      subst (λ (j : ℕ). IsPointTold a (placed.point j)) there (told_triples least (suc k) names lines i a e)

-- THE ANSWER
module _ (p : Source) (w : IsWellFormed p) where
  as_many : length (names_of kind.Point p.names) ≡ length (point_lines 1 p.commands)
  as_many = let names = names_counted p w in let lines = lines_counted 0 1 p.commands in omega (arith, names, lines)

  all_told : (placed : Placement) → ((k : ℕ) → IsLeast (placed.point k))
      → AreTold p placed (told_from placed 0 (names_of kind.Point p.names) (point_lines 1 p.commands))
  all_told placed least = record {
    names = told_names placed 0 (names_of kind.Point p.names) (point_lines 1 p.commands) as_many;
    lines = told_lines placed 0 (names_of kind.Point p.names) (point_lines 1 p.commands) as_many;
    triples = λ k a e.
        let here : 0 + k ≡ k = omega arith in
        subst (λ (j : ℕ). IsPointTold a (placed.point j)) here (told_triples placed least 0 (names_of kind.Point p.names) (point_lines 1 p.commands) k a e);
  }

  module _ (l : LoweredForm) (i : IsLowered Two p l) (v : ProgramValues) (placed : Placement) (r : IsReckoned p v placed) (least : (k : ℕ) → IsLeast (placed.point k)) where
    answer_of : (end : End) → EndsAs p placed end → (answer : Result Placed PlaceError) × AnswersValues p v answer × (answer ≡ Err NoMemory → ⊥)
    answer_of (unmet k) e = (Err (Unmet k), answer_stopped p w l i v placed r [] (Unmet k) e, λ q. cc)
    answer_of (too_large line) e = (Err (TooLarge line), answer_stopped p w l i v placed r [] (TooLarge line) e, λ q. cc)
    answer_of (placed_all holds) e =
        let there = forgotten Two p placed in
        let points = told_from there 0 (names_of kind.Point p.names) (point_lines 1 p.commands) in
        let answer : Placed = record { points = points; holds = holds } in
        (Ok answer, answer_placed p w l i v placed r answer e (all_told there (λ k. least (point_place Two p.commands k))), λ q. cc)

pub values_have_an_answer : ValuesHaveAnAnswer
values_have_an_answer p v w short a b =
    let lowered = programs_have_lowered_forms Two p w short in
    let placed = reckoned_placement p v in
    let end = evaluation_ends p placed in
    answer_of p w lowered.0 lowered.1 v placed (placement_reckoned p w v a b) (placement_least p v) end.0 end.1
