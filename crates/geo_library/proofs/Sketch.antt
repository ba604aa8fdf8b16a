-- All points of a construction, told by terms over its free coordinates and its numbers.
use Rattle.std.proofs.Common.{◌≡◌, ℕ, zero, suc, ◌<◌, ◌≤◌, ◌⊎◌, inl, inr, Bool, true, false, Option, Some, None, List, [], ◌∷◌, length, refl, sym, subst, arith}
use Rattle.std.specs.Prelude.{slice_get}
use Rattle.std.proofs.Math.Nat.{eq-or-lt_of_le}
use Rattle.ring_laws.specs.Fraction.{Same}
use Rattle.geo_points.specs.declared.ids.PointId.{PointId}
use Rattle.geo_points.specs.Placements.{Placement}
use Rattle.geo_points.specs.Points.{x_coordinate, y_coordinate}
use Rattle.geo_points.proofs.Expressions.{thrice}
use Rattle.geo_terms.specs.Constructions.{Construction, IsConstruction, IsStepMet}
use Rattle.geo_terms.specs.declared.steps.Step.{Step}
use Rattle.geo_terms.specs.declared.steps.Step.TheVariants.{Point, Inter, Foot, Pratio, Tratio, Weights}
use Rattle.geo_terms.specs.Stores.{tree_of}
use Rattle.geo_terms.specs.TermBounds.{IsTermBelow}
use Rattle.geo_terms.specs.Trees.{Tree, IsStepNumber, integer_leaf, parameter_leaf, area_leaf, pythagoras_leaf, ratio_leaf, negation, addition, subtraction, multiplication, division}
use Rattle.geo_logs.specs.Naming.{IsFree}
use Rattle.geo_logs.specs.Placements.{MeetsStepsBelow}
use Rattle.geo_library.proofs.ToldPoints.{AreBelow, Coordinates, TellsPoint}
use Rattle.geo_library.proofs.Flat.{flat, flat_below, flat_told}
use Rattle.geo_library.proofs.Telling.{points_are_told}

-- the numbers of N are those of the placement: the coordinates of its free points below n, and its parameters
pub record Agrees (N placed : Placement) (c : Construction) (n : ℕ) : Type 0 where
  pub by_x : (a : PointId) → a.0 < n → IsFree c a → Same (N.number (thrice a.0)) (x_coordinate (placed.point a.0))
  pub by_y : (a : PointId) → a.0 < n → IsFree c a → Same (N.number (suc (thrice a.0))) (y_coordinate (placed.point a.0))
  pub by_number : (t : ℕ) → t < c.params → Same (N.number (suc (suc (thrice t)))) (placed.number t)

pub fewer : {N placed : Placement} {c : Construction} {n k : ℕ} → k ≤ n → Agrees N placed c n → Agrees N placed c k
fewer le h = record {
  by_x = λ a lt f. h.by_x a (omega (arith, lt, le)) f;
  by_y = λ a lt f. h.by_y a (omega (arith, lt, le)) f;
  by_number = h.by_number;
}

-- the terms of the points below k
pub record Sketch (c : Construction) (M k : ℕ) : Type 0 where
  pub terms : ℕ → Coordinates
  pub below : (a : ℕ) → a < k → AreBelow M (terms a)
  pub told : (N placed : Placement) (a : ℕ) → a < k → Agrees N placed c (suc a) → MeetsStepsBelow placed c (suc a)
      → TellsPoint N (terms a) (placed.point a)

number_below : (n m : ℕ) (e : Tree) → IsStepNumber n m e → IsTermBelow n m e
number_below n m (integer_leaf z) h = tt
number_below n m (parameter_leaf t) h = h
number_below n m (area_leaf a b c) h = h
number_below n m (pythagoras_leaf a b c) h = h
number_below n m (ratio_leaf a b c d) h = absurd h
number_below n m (negation e) h = number_below n m e h
number_below n m (addition e f) h = (number_below n m e h.0, number_below n m f h.1)
number_below n m (subtraction e f) h = (number_below n m e h.0, number_below n m f h.1)
number_below n m (multiplication e f) h = (number_below n m e h.0, number_below n m f h.1)
number_below n m (division e f) h = (number_below n m e h.0, number_below n m f h.1)

-- one number more
is_same : ℕ → ℕ → Bool
is_same zero zero = true
is_same zero (suc b) = false
is_same (suc a) zero = false
is_same (suc a) (suc b) = is_same a b

same_self : (k : ℕ) → is_same k k ≡ true
unfolding is_same
same_self zero = refl
same_self (suc k) = same_self k

not_less : (a k : ℕ) → a < k → is_same a k ≡ false
unfolding is_same
not_less a zero lt = absurd (omega (arith, lt))
not_less zero (suc k) lt = refl
not_less (suc a) (suc k) lt = not_less a k (omega (arith, lt))

abbrev chosen : Bool → Coordinates → Coordinates → Coordinates
chosen true e f = e
chosen false e f = f

module _ (c : Construction) (valid : IsConstruction c) (M : ℕ) (points : (a : ℕ) → a < length c.steps → suc (thrice a) < M)
    (room : (t : ℕ) → t < c.params → suc (suc (thrice t)) < M) where
  -- the terms of the point k
  record Made (k : ℕ) (cs : ℕ → Coordinates) : Type 0 where
    e : Coordinates
    below : AreBelow M e
    told : (N placed : Placement) → Agrees N placed c (suc k) → ((a : ℕ) → a < k → TellsPoint N (cs a) (placed.point a))
        → ((s : Step) → slice_get c.steps k ≡ Some s → IsStepMet placed c.nodes k s) → TellsPoint N e (placed.point k)

  module _ (k : ℕ) (lt : k < length c.steps) (s : Sketch c M k) where
    abbrev cs : ℕ → Coordinates
    cs = s.terms

    abbrev term_at : (r : Tree) → Tree
    term_at r = flat cs r

    made : (t : Step) → slice_get c.steps k ≡ Some t → Made k cs
    made Point at = record {
      e = record { x = parameter_leaf (record { 0 = thrice k }); y = parameter_leaf (record { 0 = suc (thrice k) }) };
      below = let p : suc (thrice k) < M = points k lt in record { x = omega (arith, p); y = p };
      told = λ N placed ag each met. record {
        by_x = record { has = tt; same = ag.by_x (record { 0 = k }) (omega arith) at };
        by_y = record { has = tt; same = ag.by_y (record { 0 = k }) (omega arith) at };
      };
    }
    made (Inter u v p q) at =
        let b = valid.steps k (Inter u v p q) at in
        let step = points_are_told.crossing (cs u.0) (cs v.0) (cs p.0) (cs q.0) in
        record {
          e = step.0;
          below = step.1 M (s.below u.0 b.0) (s.below v.0 b.1) (s.below p.0 b.2) (s.below q.0 b.3);
          told = λ N placed ag each met. step.2 N (placed.point u.0) (placed.point v.0) (placed.point p.0) (placed.point q.0) (placed.point k)
              (each u.0 b.0) (each v.0 b.1) (each p.0 b.2) (each q.0 b.3) (met (Inter u v p q) at);
        }
    made (Foot p u v) at =
        let b = valid.steps k (Foot p u v) at in
        let step = points_are_told.foot (cs p.0) (cs u.0) (cs v.0) in
        record {
          e = step.0;
          below = step.1 M (s.below p.0 b.0) (s.below u.0 b.1) (s.below v.0 b.2);
          told = λ N placed ag each met. step.2 N (placed.point p.0) (placed.point u.0) (placed.point v.0) (placed.point k)
              (each p.0 b.0) (each u.0 b.1) (each v.0 b.2) (met (Foot p u v) at);
        }
    made (Pratio w u v r) at =
        let b = valid.steps k (Pratio w u v r) at in
        let number = tree_of c.nodes r in let within = number_below k c.params number b.3.number in
        let step = points_are_told.along (cs w.0) (cs u.0) (cs v.0) (term_at number) in
        record {
          e = step.0;
          below = step.1 M (s.below w.0 b.0) (s.below u.0 b.1) (s.below v.0 b.2) (flat_below cs M k c.params s.below room number within);
          told = λ N placed ag each met. let h = met (Pratio w u v r) at in
              step.2 N (placed.point w.0) (placed.point u.0) (placed.point v.0) (placed.point k) _
              (each w.0 b.0) (each u.0 b.1) (each v.0 b.2)
              (flat_told cs N placed k k c.params (λ a less again. each a less) ag.by_number number within within h.0) h.1;
        }
    made (Tratio u v r) at =
        let b = valid.steps k (Tratio u v r) at in
        let number = tree_of c.nodes r in let within = number_below k c.params number b.2.number in
        let step = points_are_told.turned (cs u.0) (cs v.0) (term_at number) in
        record {
          e = step.0;
          below = step.1 M (s.below u.0 b.0) (s.below v.0 b.1) (flat_below cs M k c.params s.below room number within);
          told = λ N placed ag each met. let h = met (Tratio u v r) at in
              step.2 N (placed.point u.0) (placed.point v.0) (placed.point k) _ (each u.0 b.0) (each v.0 b.1)
              (flat_told cs N placed k k c.params (λ a less again. each a less) ag.by_number number within within h.0) h.1;
        }
    made (Weights o u v r t) at =
        let b = valid.steps k (Weights o u v r t) at in
        let first = tree_of c.nodes r in let within = number_below k c.params first b.3.number in
        let second = tree_of c.nodes t in let inside = number_below k c.params second b.4.number in
        let step = points_are_told.weighted (cs o.0) (cs u.0) (cs v.0) (term_at first) (term_at second) in
        record {
          e = step.0;
          below = step.1 M (s.below o.0 b.0) (s.below u.0 b.1) (s.below v.0 b.2) (flat_below cs M k c.params s.below room first within)
              (flat_below cs M k c.params s.below room second inside);
          told = λ N placed ag each met. let h = met (Weights o u v r t) at in
              step.2 N (placed.point o.0) (placed.point u.0) (placed.point v.0) (placed.point k) _ _ (each o.0 b.0) (each u.0 b.1) (each v.0 b.2)
              (flat_told cs N placed k k c.params (λ a less again. each a less) ag.by_number first within within h.0)
              (flat_told cs N placed k k c.params (λ a less again. each a less) ag.by_number second inside inside h.1) h.2;
        }

    step_at : (o : Option Step) → slice_get c.steps k ≡ o → (o ≡ None → ⊥) → Made k cs
    step_at None at some = absurd (some refl)
    step_at (Some t) at some = made t at

    module _ (new : Made k cs) where
      abbrev next_terms : ℕ → Coordinates
      next_terms a = chosen (is_same a k) new.e (cs a)

      next_below : (a : ℕ) → (a ≡ k) ⊎ (a < k) → AreBelow M (next_terms a)
      next_below a (inl e) = subst (λ j. AreBelow M (next_terms j)) (sym e) (subst (λ b. AreBelow M (chosen b new.e (cs k))) (sym (same_self k)) new.below)
      next_below a (inr less) = subst (λ b. AreBelow M (chosen b new.e (cs a))) (sym (not_less a k less)) (s.below a less)

      next_told : (N placed : Placement) (a : ℕ) → (a ≡ k) ⊎ (a < k) → Agrees N placed c (suc a) → MeetsStepsBelow placed c (suc a)
          → TellsPoint N (next_terms a) (placed.point a)
      next_told N placed a (inr less) ag met =
          subst (λ b. TellsPoint N (chosen b new.e (cs a)) (placed.point a)) (sym (not_less a k less)) (s.told N placed a less ag met)
      next_told N placed a (inl e) ag met =
          let ag' : Agrees N placed c (suc k) = subst (λ j. Agrees N placed c (suc j)) e ag in
          let met' : MeetsStepsBelow placed c (suc k) = subst (λ j. MeetsStepsBelow placed c (suc j)) e met in
          subst (λ j. TellsPoint N (next_terms j) (placed.point j)) (sym e)
          (subst (λ b. TellsPoint N (chosen b new.e (cs k)) (placed.point k)) (sym (same_self k))
          (new.told N placed ag'
          (λ b less. s.told N placed b less (fewer (omega (arith, less)) ag') (λ j step lt' at. met' j step (omega (arith, lt', less)) at))
          (λ step at. met' k step (omega arith) at)))

      next : Sketch c M (suc k)
      next = record {
        terms = next_terms;
        below = λ a lt'. next_below a (eq-or-lt_of_le (omega (arith, lt')));
        told = λ N placed a lt'. next_told N placed a (eq-or-lt_of_le (omega (arith, lt')));
      }

  some_step : (steps : List Step) (k : ℕ) → k < length steps → slice_get steps k ≡ None → ⊥
  some_step [] k lt e = absurd (omega (arith, lt))
  some_step (t ∷ ts) zero lt e = let q : ◌≡◌ {A = Option Step} (Some t) None = e in absurd (cc)
  some_step (t ∷ ts) (suc k) lt e = some_step ts k (omega (arith, lt)) e

  pub sketch : (k : ℕ) → k ≤ length c.steps → Sketch c M k
  sketch zero le = record {
    terms = λ a. record { x = parameter_leaf (record { 0 = 0 }); y = parameter_leaf (record { 0 = 0 }) };
    below = λ a lt. absurd (omega (arith, lt));
    told = λ N placed a lt ag met. absurd (omega (arith, lt));
  }
  sketch (suc k) le =
      let lt : k < length c.steps = omega (arith, le) in
      let s = sketch k (omega (arith, le)) in
      next k lt s (step_at k lt s (slice_get c.steps k) refl (some_step c.steps k lt))
