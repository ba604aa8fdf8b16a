-- Where the goals of a command are 0, and its conditions hold, it is met.
use Rattle.std.proofs.Common.{◌≡◌, ◌≢◌, ℕ, Bool, true, false, pos, [], ◌∷◌}
use Rattle.std.specs.List.{AllByRecursion}
use Rattle.std.proofs.lemmas.List.Elements.{recursion_from_All}
use Rattle.ring_laws.specs.Fraction.{Fraction, Same, whole, plus, minus, times}
use Rattle.ring_laws.proofs.Fractions.{fractions}
use Rattle.geo_points.specs.declared.ids.PointId.{PointId}
use Rattle.geo_points.specs.Placements.{Placement}
use Rattle.geo_points.specs.Points.{Point as Triple, cross_product}
use Rattle.geo_points.specs.Steps.{IsAlong}
use Rattle.geo_points.specs.Vectors.{Differ, rise, run}
use Rattle.geo_points.proofs.Expressions.{abscissa, ordinate, whole_number, ◌+'◌, ◌-'◌, ◌*'◌, opposite', fact}
use Rattle.geo_points.proofs.Geometry.{geo_combination}
use Rattle.geo_points.proofs.Weighted.{weighted_back}
use Rattle.geo_terms.specs.Stores.{Store, tree_of}
use Rattle.geo_terms.specs.Trees.{Tree}
use Rattle.geo_terms.specs.Values.{tree_value}
use Rattle.geo_program.specs.declared.commands.Command.{Command}
use Rattle.geo_program.specs.declared.commands.Command.TheVariants.{Point, Param, Line, Parallel, Perp, Med, Intersec, Inter, Foot, Pratio}
use Rattle.geo_program.specs.declared.commands.Command.TheVariants.{Tratio, Online, Lratio, Midpoint, Translate, Symmetric, Reflect}
use Rattle.geo_program.specs.declared.commands.Command.TheVariants.{Circumcenter, Orthocenter, Centroid, Oncircle, Second, Cc, Inverse}
use Rattle.geo_program.specs.declared.commands.Command.TheVariants.{Weights, AssumeDifferent, AssumeNotCollinear, AssumeNotParallel}
use Rattle.geo_program.specs.WellFormed.{Source}
use Rattle.geo_lowering.specs.CommandsMet.{IsCommandMet, reading}
use Rattle.geo_lowering.specs.Conditions.{IsConditionMet, command_conditions}
use Rattle.geo_lowering.specs.Relations.{IsMidpoint, IsSymmetric, middle, one}
use Rattle.geo_lowering.proofs.Commands.{corner_differ, middle-is, translate_up}
use Rattle.geo_lowering.proofs.ZeroTerms.{midpoint-is}
use Rattle.geo_conditions.specs.Terms.{HasZeroValue}
use Rattle.geo_library.specs.CitedGoals.{command_goals, has_lines}
use Rattle.geo_library.specs.Laws.{GoalsMakeCommandsMet}
use Rattle.geo_library.proofs.PointGoals.{along_is, halfway, inverted, on_line, oncircle_number, online_number, same_distance, same_distance_from, thirds, turned_is, upright, weights_are}

-- O is the middle of A and X
symmetric_is : (X A O : Triple) → IsMidpoint O A X → IsSymmetric X A O
symmetric_is X A O m = record {
  by_x = geo_combination (X ∷ A ∷ O ∷ []) []
      (fact (opposite' (whole_number 1)) (whole_number 2 *' abscissa 2) (abscissa 1 +' abscissa 0) ∷ []) (abscissa 0 -' abscissa 2)
      (abscissa 2 -' abscissa 1) (m.by_x, tt) tt;
  by_y = geo_combination (X ∷ A ∷ O ∷ []) []
      (fact (opposite' (whole_number 1)) (whole_number 2 *' ordinate 2) (ordinate 1 +' ordinate 0) ∷ []) (ordinate 0 -' ordinate 2)
      (ordinate 2 -' ordinate 1) (m.by_y, tt) tt;
}

-- OWN NUMBERS
-- t is the command's own number, if it has one that no other fixes
abbrev pub IsOwn : (ℕ → Triple) → Triple → Fraction → Command → Type 0
IsOwn at X t (Online a b) = IsAlong (at a.0) (at a.0) (at b.0) t X
IsOwn at X t (Oncircle o a) =
    Same (minus (times (run (at a.0) X) (plus (rise (at a.0) (at o.0)) (times t (run (at o.0) (at a.0))))) (times (rise (at a.0) X) (minus (run (at a.0) (at o.0)) (times t (rise (at o.0) (at a.0))))))
    (whole (pos 0))
IsOwn at X t _ = Unit {0}

-- the conditions that give it one
abbrev pub MayOwn : (ℕ → Triple) → Triple → Command → Type 0
MayOwn at X (Online a b) = Differ (at a.0) (at b.0)
MayOwn at X (Oncircle o a) = cross_product (at o.0) (at a.0) (at o.0) X ≢ pos 0
MayOwn at X _ = Unit {0}

-- the goals are 0
abbrev pub AreZero : Store → Placement → PointId → Command → Type 0
AreZero nodes R x c = AllByRecursion (HasZeroValue R) (command_goals nodes x c)

pub own_number : (nodes : Store) (R : Placement) (x : PointId) (c : Command) → MayOwn R.point (R.point x.0) c → AreZero nodes R x c → (t : Fraction) × IsOwn R.point (R.point x.0) t c
own_number nodes R x (Online a b) m z = online_number (R.point x.0) (R.point a.0) (R.point b.0) m z.0.1
own_number nodes R x (Oncircle o a) m z =
    let X = R.point x.0 in let O = R.point o.0 in let A = R.point a.0 in
    oncircle_number X O A (corner_differ O A X m) (same_distance X O A z.0.1)
own_number nodes R x c m z = (whole (pos 0), tt)

-- COMMANDS
module _ (s : Source) (placed : Placement) (x : PointId) where
  abbrev R : Placement
  R = reading s placed

  abbrev X : Triple
  X = placed.point x.0

  abbrev at : PointId → Triple
  at a = placed.point a.0

  abbrev number : Tree → Fraction
  number e = tree_value R e

  pub command_met : (t : Fraction) (c : Command) → has_lines c ≡ false → AreZero s.nodes R x c → IsOwn placed.point X t c → IsCommandMet s placed X t c
  command_met t Point l z o = tt
  command_met t Param l z o = tt
  command_met t (Line a b) l z o = tt
  command_met t (Parallel p b) l z o = tt
  command_met t (Perp p b) l z o = tt
  command_met t (Med a b) l z o = tt
  command_met t (Intersec a b) l z o = let e : true ≡ false = l in cc
  command_met t (Inter a b c d) l z o = record { on_first = on_line (at a) (at b) X z.0.1; on_second = on_line (at c) (at d) X z.1.0.1 }
  command_met t (Foot p a b) l z o = record { on_line = on_line (at a) (at b) X z.0.1; perpendicular = upright (at p) X (at a) (at b) z.1.0.1 }
  command_met t (Pratio w u v r) l z o = (z.0.0.0.1.0.0, along_is X (at w) (at u) (at v) (number (tree_of s.nodes r)) z.0.1)
  command_met t (Tratio u v r) l z o = (z.0.0.0.1.0.0, turned_is X (at u) (at v) (number (tree_of s.nodes r)) z.0.1)
  command_met t (Online a b) l z o = o
  command_met t (Lratio a b r) l z o = (z.0.0.0.1.0.0, along_is X (at a) (at a) (at b) (number (tree_of s.nodes r)) z.0.1)
  command_met t (Midpoint a b) l z o = (midpoint-is X (at a) (at b)).1 z.0.1
  command_met t (Translate a b c) l z o = translate_up X (at a) (at b) (at c) (along_is X (at c) (at a) (at b) one z.0.1)
  command_met t (Symmetric a o) l z n = symmetric_is X (at a) (at o) ((midpoint-is (at o) (at a) X).1 z.0.1)
  command_met t (Reflect a p q) l z o =
      let m = middle-is (at a) X in
      record { halfway = halfway (at a) X (at p) (at q) (middle (at a) X) m.by_x m.by_y z.0.1; perpendicular = upright (at a) X (at p) (at q) z.1.0.1 }
  command_met t (Circumcenter a b c) l z o =
      let first = same_distance_from X (at a) (at b) z.0.1 in
      record { first = first; second = fractions.same_trans _ _ _ (fractions.same_sym _ _ first) (same_distance_from X (at a) (at c) z.1.0.1) }
  command_met t (Orthocenter a b c) l z o = record { first = upright (at a) X (at c) (at b) z.0.1; second = upright (at b) X (at c) (at a) z.1.0.1 }
  command_met t (Centroid a b c) l z o = let h = thirds X (at a) (at b) (at c) z.0.1 in record { by_x = h.0; by_y = h.1 }
  command_met t (Oncircle o a) l z n = record { distance = same_distance X (at o) (at a) z.0.1; aligned = n }
  command_met t (Second a b o) l z n = record { on_line = on_line (at a) (at b) X z.0.1; distance = same_distance X (at o) (at a) z.1.0.1 }
  command_met t (Cc o p a) l z n = record { first = same_distance X (at o) (at a) z.0.1; second = same_distance X (at p) (at a) z.1.0.1 }
  command_met t (Inverse p o a) l z n = record { on_line = on_line (at o) (at p) X z.0.1; product = inverted X (at p) (at o) (at a) z.1.0.1 }
  command_met t (Weights a b c r q) l z n =
      let h = weights_are X (at a) (at b) (at c) (number (tree_of s.nodes r)) (number (tree_of s.nodes q)) z.0.1 in
      (z.0.0.0.0.0.0.1.0.0, z.0.0.0.0.0.1.0.0, weighted_back (at a) (at b) (at c) (number (tree_of s.nodes r)) (number (tree_of s.nodes q)) X h.0 h.1)
  command_met t (AssumeDifferent a b) l z n = tt
  command_met t (AssumeNotCollinear a b c) l z n = tt
  command_met t (AssumeNotParallel a b c d) l z n = tt

  -- the conditions of a command give its number
  may_own : (c : Command) → AllByRecursion (IsConditionMet s placed) (command_conditions s.nodes x c) → MayOwn placed.point X c
  may_own (Online a b) h = h.0
  may_own (Oncircle o a) h = h.1.0
  may_own c h = tt

pub goals_make_commands_met : GoalsMakeCommandsMet
goals_make_commands_met p placed x c l h z =
    let R = reading p placed in
    let zeros = recursion_from_All (HasZeroValue R) (command_goals p.nodes x c) z in
    let own = own_number p.nodes R x c (may_own p placed x c (recursion_from_All (IsConditionMet p placed) (command_conditions p.nodes x c) h)) zeros in
    (own.0, command_met p placed x own.0 c l zeros own.1)
