-- `weights`: down to its steps in each version, and up again.
use Rattle.std.proofs.Common.{◌≡◌, ℕ, suc, ◌-◌, List, [], ◌∷◌}
use Rattle.ring_laws.specs.Fraction.{Fraction}
use Rattle.geo_points.specs.Placements.{Placement}
use Rattle.geo_points.specs.Points.{Point}
use Rattle.geo_points.specs.Steps.{IsAlong, IsWeighted}
use Rattle.geo_points.proofs.Expressions.{Quantity, abscissa, ordinate, whole_number, given_number, ◌-'◌, ◌*'◌, opposite', fact}
use Rattle.geo_points.proofs.Geometry.{geo_combination}
use Rattle.geo_points.proofs.Placed.{along_exists}
use Rattle.geo_points.proofs.Same.{along-same, weighted-same}
use Rattle.geo_points.proofs.Steps.{along-x, along-y, along_back}
use Rattle.geo_points.proofs.Weighted.{combination, weighted-x, weighted-y, weighted_back}
use Rattle.geo_terms.specs.Trees.{Tree}
use Rattle.geo_terms.specs.Values.{HasTreeValue, tree_value}
use Rattle.geo_lowering.specs.declared.version.Version.{Version}
use Rattle.geo_lowering.specs.declared.version.Version.TheVariants.{One, Two}
use Rattle.geo_lowering.specs.Counting.{further, weights_points}
use Rattle.geo_lowering.specs.Lowering.{weights_steps}
use Rattle.geo_lowering.specs.StepForms.{AreFormsMet}
use Rattle.geo_lowering.proofs.Placing.{Near, StandsFor, made, near}
use Rattle.geo_lowering.proofs.Puts.{first_of, put, puts, puts_here, second_of}

-- the points are A B C H X, as 0 to 4, and the numbers r and s: from A first along AB to H
abbrev first_part : (ℕ → Quantity) → Quantity
first_part coordinate = given_number 0 *' (coordinate 1 -' coordinate 0)

abbrev second_part : (ℕ → Quantity) → Quantity
second_part coordinate = given_number 1 *' (coordinate 2 -' coordinate 0)

pub weights_down : (A B C X : Point) (r s : Fraction) → IsWeighted A B C r s X → (H : Point) × IsAlong A A B r H × IsAlong H A C s X
weights_down A B C X r s w =
    let h = along_exists A A B r in
    let H = h.0 in (
      H,
      h.1,
      along_back H A C s X
          (geo_combination (A ∷ B ∷ C ∷ H ∷ X ∷ []) (r ∷ s ∷ [])
          (fact (whole_number 1) (abscissa 4 -' abscissa 0) (combination abscissa) ∷ fact (opposite' (whole_number 1)) (abscissa 3 -' abscissa 0) (first_part abscissa) ∷ [])
          (abscissa 4 -' abscissa 3) (second_part abscissa) (weighted-x A B C r s X w, (along-x A A B r H h.1, tt)) tt)
          (geo_combination (A ∷ B ∷ C ∷ H ∷ X ∷ []) (r ∷ s ∷ [])
          (fact (whole_number 1) (ordinate 4 -' ordinate 0) (combination ordinate) ∷ fact (opposite' (whole_number 1)) (ordinate 3 -' ordinate 0) (first_part ordinate) ∷ [])
          (ordinate 4 -' ordinate 3) (second_part ordinate) (weighted-y A B C r s X w, (along-y A A B r H h.1, tt)) tt),
    )

pub weights_up : (A B C H X : Point) (r s : Fraction) → IsAlong A A B r H → IsAlong H A C s X → IsWeighted A B C r s X
weights_up A B C H X r s h k =
    weighted_back A B C r s X
    (geo_combination (A ∷ B ∷ C ∷ H ∷ X ∷ []) (r ∷ s ∷ [])
    (fact (whole_number 1) (abscissa 4 -' abscissa 3) (second_part abscissa) ∷ fact (whole_number 1) (abscissa 3 -' abscissa 0) (first_part abscissa) ∷ [])
    (abscissa 4 -' abscissa 0) (combination abscissa) (along-x H A C s X k, (along-x A A B r H h, tt)) tt)
    (geo_combination (A ∷ B ∷ C ∷ H ∷ X ∷ []) (r ∷ s ∷ [])
    (fact (whole_number 1) (ordinate 4 -' ordinate 3) (second_part ordinate) ∷ fact (whole_number 1) (ordinate 3 -' ordinate 0) (first_part ordinate) ∷ [])
    (ordinate 4 -' ordinate 0) (combination ordinate) (along-y H A C s X k, (along-y A A B r H h, tt)) tt)

-- where its steps are met, its last point is the one that it names
pub weights_met : (version : Version) (p : Placement) (n a b c : ℕ) (e f : Tree) → AreFormsMet p n (weights_steps version n a b c e f)
    → HasTreeValue p e × HasTreeValue p f
    × IsWeighted (p.point a) (p.point b) (p.point c) (tree_value p e) (tree_value p f) (p.point (further n (weights_points version - 1)))
weights_met One p n a b c e f h =
    (h.0.0, h.1.0.0, weights_up (p.point a) (p.point b) (p.point c) (p.point n) (p.point (suc n)) (tree_value p e) (tree_value p f) h.0.1 h.1.0.1)
weights_met Two p n a b c e f h = h.0

-- its points, put in at n and so on
pub record PlacedWeights (version : Version) (n : ℕ) (at : ℕ → Point) (number : ℕ → Fraction) (a b c : ℕ) (e f : Tree) (X : Point) : Type 0 where
  pub points : List Point
  pub met : AreFormsMet (made n at number points) n (weights_steps version n a b c e f)
  pub new : puts at n points (further n (weights_points version - 1)) ≡ X

pub place_weights : (version : Version) (n : ℕ) (at : ℕ → Point) (number : ℕ → Fraction) (a b c : ℕ) (e f : Tree) (A B C X : Point) (r s : Fraction)
    → Near n at number a A → Near n at number b B → Near n at number c C → StandsFor n at number e r → StandsFor n at number f s
    → IsWeighted A B C r s X → PlacedWeights version n at number a b c e f X
place_weights One n at number a b c e f A B C X r s h i j p q w =
    let d = weights_down A B C X r s w in
    let H = d.0 in
    let As = H ∷ X ∷ [] in
    let first = first_of at n H (X ∷ []) in
    let N = near n at number As in record {
      points = As;
      met = (
        ((p As).0, along-same _ _ _ _ _ _ _ _ _ _ (N a A h) (N a A h) (N b B i) (p As).1 first d.1),
        (((q As).0, along-same _ _ _ _ _ _ _ _ _ _ first (N a A h) (N c C j) (q As).1 (second_of at n H X []) d.2), tt),
      );
      new = puts_here (put at n H) (suc n) X [];
    }
place_weights Two n at number a b c e f A B C X r s h i j p q w =
    let As = X ∷ [] in
    let N = near n at number As in record {
      points = As;
      met = (((p As).0, (q As).0, weighted-same _ _ _ _ _ _ _ _ _ _ _ _ (N a A h) (N b B i) (N c C j) (p As).1 (q As).1 (first_of at n X []) w), tt);
      new = puts_here at n X [];
    }
