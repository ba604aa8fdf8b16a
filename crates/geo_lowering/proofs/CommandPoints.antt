-- The points of one command are put in: where the named points meet it, and where its conditions ask for no more than that it can be met.
use Rattle.std.proofs.Common.{◌≡◌, ℕ, suc, false, ◌<◌, List, [], ◌∷◌, sym, subst, Some}
use Rattle.ring_laws.specs.Fraction.{Fraction, Same, quotient, IsNonzero}
use Rattle.geo_points.specs.Placements.{Placement}
use Rattle.geo_points.specs.Points.{Point as Triple, pythagoras_difference}
use Rattle.geo_points.proofs.Expressions.{half}
use Rattle.ring_laws.proofs.Fractions.{fractions}
use Rattle.geo_points.proofs.Placed.{along_exists}
use Rattle.geo_terms.specs.Stores.{Store, tree_of}
use Rattle.geo_terms.specs.Trees.{Tree, parameter_leaf, division}
use Rattle.geo_terms.specs.Values.{HasTreeValue, tree_value}
use Rattle.geo_program.specs.declared.commands.Command.{Command}
use Rattle.geo_program.specs.declared.commands.Command.TheVariants.{Point, Param, Line, Parallel, Perp, Med, Intersec, Inter, Foot, Pratio}
use Rattle.geo_program.specs.declared.commands.Command.TheVariants.{Tratio, Online, Lratio, Midpoint, Translate, Symmetric, Reflect}
use Rattle.geo_program.specs.declared.commands.Command.TheVariants.{Circumcenter, Orthocenter, Centroid, Oncircle, Second, Cc, Inverse}
use Rattle.geo_program.specs.declared.commands.Command.TheVariants.{Weights, AssumeDifferent, AssumeNotCollinear, AssumeNotParallel}
use Rattle.geo_program.specs.declared.names.NameKind.TheVariants as kind
use Rattle.geo_program.specs.WellFormed.{Source}
use Rattle.geo_lowering.specs.declared.version.Version.{Version}
use Rattle.geo_lowering.specs.Counting.{named, hidden, further}
use Rattle.geo_lowering.specs.CommandsMet.{reading, lines_of, IsCommandMet}
use Rattle.geo_lowering.specs.Lowering.{Layout, layout_of, renamed, command_steps, one_tree, half_tree, square_tree}
use Rattle.geo_lowering.specs.Relations.{one, two_thirds}
use Rattle.geo_lowering.specs.StepForms.{AreFormsMet}
use Rattle.geo_lowering.proofs.Laying.{IsNamed}
use Rattle.geo_lowering.proofs.Bounds.{Bounds}
use Rattle.geo_lowering.proofs.Values.{seen, renamed-value, renamed-has, AgreeBelow, value-same, over_expression}
use Rattle.geo_points.proofs.Exchange.{pythagoras_difference-same}
use Rattle.geo_lowering.specs.Conditions.{command_conditions, early_conditions, expression_conditions}
use Rattle.geo_points.proofs.Same.{self_point}
use Rattle.geo_lowering.proofs.Puts.{put, puts, puts_here}
use Rattle.geo_lowering.proofs.Placing.{made, Near, near, StandsFor, one_stands, half_stands, number_stands, place_along, place_turned}
use Rattle.geo_lowering.proofs.Placing.{place_crossing, place_foot, place_reflection, place_bisector, place_upright, place_centroid}
use Rattle.geo_lowering.proofs.Placing.{place_orthocenter, place_oncircle, place_circumcenter}
use Rattle.geo_program.specs.Expressions.{IsExpression}
use Rattle.geo_lowering.proofs.Commands.{midpoint_down, translate_down, symmetric_down, inter_down, foot_down, centroid_down, reflect_down}
use Rattle.geo_lowering.proofs.Commands.{second_down, cc_down, oncircle_down, inverse_down, corner_differ, turned_differ}
use Rattle.geo_lowering.proofs.Centers.{circumcenter_down, orthocenter_down, circumcenter_apart, orthocenter_apart, corner_side}
use Rattle.geo_lowering.proofs.Standing.{intersec_down, directions-are, quotient-same}
use Rattle.geo_points.proofs.Making.{crossing_exists, foot_exists, turned_exists}
use Rattle.geo_points.proofs.Zeros.{far}
use Rattle.geo_lowering.proofs.ConditionValues.{Hold, step_value, each_back, each_front}
use Rattle.geo_points.proofs.Weighted.{weighted_exists}
use Rattle.geo_lowering.proofs.WeightedCommands.{place_weights}
use Rattle.geo_lowering.proofs.Up.{AllStand, AllSame}

-- the points that a command makes, put in at n and so on; X is the one that it names
pub record Placed (version : Version) (l : Layout) (nodes : Store) (n m : ℕ) (at : ℕ → Triple) (number : ℕ → Fraction) (c : Command) (X : Triple) : Type 0 where
  pub points : List Triple
  pub met : AreFormsMet (made n at number points) n (command_steps version l nodes n m c)
  pub new : named c ≡ Some kind.Point → puts at n points (further n (hidden version c)) ≡ X

-- the same, where X may be any point, but for a free point
pub record Built (version : Version) (l : Layout) (nodes : Store) (n m : ℕ) (at : ℕ → Triple) (number : ℕ → Fraction) (c : Command) (F : Triple) : Type 0 where
  pub points : List Triple
  pub met : AreFormsMet (made n at number points) n (command_steps version l nodes n m c)
  pub free : c ≡ Point → puts at n points n ≡ F

module _ (version : Version) (s : Source) (V : Placement) (at : ℕ → Triple) (x y j n m : ℕ) where
  abbrev l : Layout
  l = layout_of version s.commands

  abbrev pub so_far : Placement
  so_far = record { point = at; number = V.number }

  module _ (B : Bounds l x y j n m) (g : AllSame version l s.nodes V so_far (lines_of V s.commands) x) (st : AllStand version l s.nodes V so_far (lines_of V s.commands) j) where
    abbrev NearHere : ℕ → Triple → Type 0
    NearHere k A = Near n at V.number k A

    N : (a : ℕ) → a < x → NearHere (l.point a) (V.point a)
    N a h = record { below = B.points a h; same = g a h }

    L : (i : ℕ) → i < j → NearHere (l.line i).left (at (l.line i).left)
    L i h = record { below = (B.lines i h).0; same = self_point _ }

    R : (i : ℕ) → i < j → NearHere (l.line i).right (at (l.line i).right)
    R i h = record { below = (B.lines i h).1; same = self_point _ }

    reads : (e : Tree) → IsExpression x y false e → HasTreeValue (reading s V) e → StandsFor n at V.number (renamed l e) (tree_value (reading s V) e)
    reads e i h As =
        let lowered : Placement = made n at V.number As in
        let agree : AgreeBelow x y (reading s V) (seen l lowered) =
        record { points = λ a b. near n at V.number As (l.point a) (V.point a) (N a b); numbers = λ t b. fractions.same_refl _ } in
        let k = value-same x y (reading s V) (seen l lowered) agree e (over_expression x y false e i) h in (
          subst (λ (A : Type 0). A) (sym (renamed-has l lowered e)) k.0,
          subst (λ r. Same (tree_value (reading s V) e) r) (sym (renamed-value l lowered e)) k.1,
        )

    squares : (o a p : ℕ) (O A P : Triple) → NearHere o O → NearHere a A → NearHere p P → IsNonzero (pythagoras_difference O P O)
        → StandsFor n at V.number (division (square_tree o a) (square_tree o p)) (quotient (pythagoras_difference O A O) (pythagoras_difference O P O))
    squares o a p O A P h i k z As =
        let o' = near n at V.number As o O h in let a' = near n at V.number As a A i in let p' = near n at V.number As p P k in
        let q = quotient-same _ _ _ _ z (pythagoras_difference-same _ _ _ _ _ _ o' a' o') (pythagoras_difference-same _ _ _ _ _ _ o' p' o') in ((tt, tt, q.0), q.1)

    -- the command is met: its hidden points are there
    pub command_down : (c : Command) → IsNamed s.nodes x y j c → IsCommandMet s V (V.point x) (V.number m) c → Hold s V (command_conditions s.nodes (record { 0 = x }) c)
        → Placed version l s.nodes n m at V.number c (V.point x)
    command_down Point k h z = record { points = (V.point x) ∷ []; met = (tt, tt); new = λ e. puts_here at n (V.point x) [] }
    command_down Param k h z = record { points = []; met = tt; new = λ e. cc }
    command_down (Line a b) k h z = record { points = []; met = tt; new = λ e. cc }
    command_down (Parallel p b) k h z =
        let E = along_exists (V.point p.0) (at (l.line b.0).left) (at (l.line b.0).right) one in
        record {
          points = E.0 ∷ [];
          met = place_along n at V.number (l.point p.0) (l.line b.0).left (l.line b.0).right one_tree
              (V.point p.0) (at (l.line b.0).left) (at (l.line b.0).right) one E.0 (N p.0 k.0) (L b.0 k.1.0) (R b.0 k.1.0)
              (one_stands n at V.number) E.1;
          new = λ e. cc;
        }
    command_down (Perp p b) k h z =
        let E = along_exists (V.point p.0) (at (l.line b.0).left) (at (l.line b.0).right) one in
        let G = turned_exists (V.point p.0) E.0 one in
        record {
          points = E.0 ∷ G.0 ∷ [];
          met = place_upright n at V.number (l.point p.0) (l.line b.0).left (l.line b.0).right (V.point p.0)
              (at (l.line b.0).left) (at (l.line b.0).right) E.0 G.0 (N p.0 k.0) (L b.0 k.1.0) (R b.0 k.1.0) E.1 G.1;
          new = λ e. cc;
        }
    command_down (Med a b) k h z =
        let D = along_exists (V.point a.0) (V.point a.0) (V.point b.0) half in
        let E = turned_exists D.0 (V.point b.0) one in
        record { points = D.0 ∷ E.0 ∷ []; met = place_bisector n at V.number (l.point a.0) (l.point b.0) (V.point a.0) (V.point b.0) D.0 E.0 (N a.0 k.0) (N b.0 k.1.0) D.1 E.1; new = λ e. cc }
    command_down (Intersec a b) k h z =
        record {
          points = (V.point x) ∷ [];
          met = place_crossing n at V.number (l.line a.0).left (l.line a.0).right (l.line b.0).left
              (l.line b.0).right (at (l.line a.0).left) (at (l.line a.0).right) (at (l.line b.0).left) (at (l.line b.0).right) (V.point x)
              (L a.0 k.0) (R a.0 k.0) (L b.0 k.1.0) (R b.0 k.1.0) (intersec_down (V.point x) _ _ _ _ _ _ (st a.0 k.0) (st b.0 k.1.0) h.0 h.1 z.0);
          new = λ e. puts_here at n (V.point x) [];
        }
    command_down (Inter a b c d) k h z =
        record {
          points = (V.point x) ∷ [];
          met = place_crossing n at V.number (l.point a.0) (l.point b.0) (l.point c.0) (l.point d.0)
              (V.point a.0) (V.point b.0) (V.point c.0) (V.point d.0) (V.point x) (N a.0 k.0) (N b.0 k.1.0) (N c.0 k.1.1.0) (N d.0 k.1.1.1.0)
              (inter_down (V.point x) (V.point a.0) (V.point b.0) (V.point c.0) (V.point d.0) h z.0);
          new = λ e. puts_here at n (V.point x) [];
        }
    command_down (Foot p a b) k h z =
        record {
          points = (V.point x) ∷ [];
          met = place_foot n at V.number (l.point p.0) (l.point a.0) (l.point b.0) (V.point p.0)
              (V.point a.0) (V.point b.0) (V.point x) (N p.0 k.0) (N a.0 k.1.0) (N b.0 k.1.1.0)
              (foot_down (V.point x) (V.point p.0) (V.point a.0) (V.point b.0) h z.0);
          new = λ e. puts_here at n (V.point x) [];
        }
    command_down (Pratio w u v r) k h z =
        record {
          points = (V.point x) ∷ [];
          met = place_along n at V.number (l.point w.0) (l.point u.0) (l.point v.0)
              (renamed l (tree_of s.nodes r)) (V.point w.0) (V.point u.0) (V.point v.0) (tree_value (reading s V) (tree_of s.nodes r)) (V.point x)
              (N w.0 k.0) (N u.0 k.1.0) (N v.0 k.1.1.0) (reads (tree_of s.nodes r) k.1.1.1.0.0 h.0) (h.1);
          new =
              λ e. puts_here at n (V.point x) [];
        }
    command_down (Tratio u v r) k h z =
        record {
          points = (V.point x) ∷ [];
          met = place_turned n at V.number (l.point u.0) (l.point v.0) (renamed l (tree_of s.nodes r))
              (V.point u.0) (V.point v.0) (tree_value (reading s V) (tree_of s.nodes r)) (V.point x) (N u.0 k.0) (N v.0 k.1.0)
              (reads (tree_of s.nodes r) k.1.1.0.0 h.0) (h.1);
          new = λ e. puts_here at n (V.point x) [];
        }
    command_down (Online a b) k h z =
        record {
          points = (V.point x) ∷ [];
          met = place_along n at V.number (l.point a.0) (l.point a.0) (l.point b.0)
              (parameter_leaf (record { 0 = m })) (V.point a.0) (V.point a.0) (V.point b.0) (V.number m) (V.point x) (N a.0 k.0) (N a.0 k.0)
              (N b.0 k.1.0) (number_stands n at V.number m) (h);
          new = λ e. puts_here at n (V.point x) [];
        }
    command_down (Lratio a b r) k h z =
        record {
          points = (V.point x) ∷ [];
          met = place_along n at V.number (l.point a.0) (l.point a.0) (l.point b.0)
              (renamed l (tree_of s.nodes r)) (V.point a.0) (V.point a.0) (V.point b.0) (tree_value (reading s V) (tree_of s.nodes r)) (V.point x)
              (N a.0 k.0) (N a.0 k.0) (N b.0 k.1.0) (reads (tree_of s.nodes r) k.1.1.0.0 h.0) (h.1);
          new = λ e. puts_here at n (V.point x) [];
        }
    command_down (Midpoint a b) k h z =
        record {
          points = (V.point x) ∷ [];
          met = place_along n at V.number (l.point a.0) (l.point a.0) (l.point b.0) half_tree
              (V.point a.0) (V.point a.0) (V.point b.0) half (V.point x) (N a.0 k.0) (N a.0 k.0) (N b.0 k.1.0) (half_stands n at V.number)
              (midpoint_down (V.point x) (V.point a.0) (V.point b.0) h);
          new = λ e. puts_here at n (V.point x) [];
        }
    command_down (Translate a b c) k h z =
        record {
          points = (V.point x) ∷ [];
          met = place_along n at V.number (l.point c.0) (l.point a.0) (l.point b.0) one_tree (V.point c.0)
              (V.point a.0) (V.point b.0) one (V.point x) (N c.0 k.1.1.0) (N a.0 k.0) (N b.0 k.1.0) (one_stands n at V.number)
              (translate_down (V.point x) (V.point a.0) (V.point b.0) (V.point c.0) h);
          new = λ e. puts_here at n (V.point x) [];
        }
    command_down (Symmetric a o) k h z =
        record {
          points = (V.point x) ∷ [];
          met = place_along n at V.number (l.point o.0) (l.point a.0) (l.point o.0) one_tree (V.point o.0)
              (V.point a.0) (V.point o.0) one (V.point x) (N o.0 k.1.0) (N a.0 k.0) (N o.0 k.1.0) (one_stands n at V.number)
              (symmetric_down (V.point x) (V.point a.0) (V.point o.0) h);
          new = λ e. puts_here at n (V.point x) [];
        }
    command_down (Reflect a p q) k h z =
        let d = reflect_down (V.point x) (V.point a.0) (V.point p.0) (V.point q.0) h z.0 in
        record {
          points = d.0 ∷ (V.point x) ∷ [];
          met = place_reflection n at V.number (l.point a.0) (l.point p.0) (l.point q.0)
              (l.point a.0) (V.point a.0) (V.point p.0) (V.point q.0) (V.point a.0) d.0 (V.point x) (N a.0 k.0) (N p.0 k.1.0) (N q.0 k.1.1.0)
              (N a.0 k.0) d.1 d.2;
          new = λ e. puts_here (put at n d.0) (suc n) (V.point x) [];
        }
    command_down (Circumcenter a b c) k h z =
        let d = circumcenter_down (V.point x) (V.point a.0) (V.point b.0) (V.point c.0) h z.0 in
        record {
          points = d.0 ∷ d.1 ∷ d.2 ∷ d.3 ∷ (V.point x) ∷ [];
          met = place_circumcenter n at V.number (l.point a.0) (l.point b.0)
              (l.point c.0) (V.point a.0) (V.point b.0) (V.point c.0) d.0 d.1 d.2 d.3 (V.point x) (N a.0 k.0) (N b.0 k.1.0)
              (N c.0 k.1.1.0) d.4 d.5 d.6 d.7 d.8;
          new =
              λ e. puts_here (put (put (put (put at n d.0) (suc n) d.1) (suc (suc n)) d.2) (suc (suc (suc n))) d.3) (suc (suc (suc (suc n))))
              (V.point x) [];
        }
    command_down (Orthocenter a b c) k h z =
        let d = orthocenter_down (V.point x) (V.point a.0) (V.point b.0) (V.point c.0) h z.0 in
        record {
          points = d.0 ∷ d.1 ∷ (V.point x) ∷ [];
          met = place_orthocenter n at V.number (l.point a.0) (l.point b.0) (l.point c.0)
              (V.point a.0) (V.point b.0) (V.point c.0) d.0 d.1 (V.point x) (N a.0 k.0) (N b.0 k.1.0) (N c.0 k.1.1.0) d.2 d.3 d.4;
          new =
              λ e. puts_here (put (put at n d.0) (suc n) d.1) (suc (suc n)) (V.point x) [];
        }
    command_down (Centroid a b c) k h z =
        let d = centroid_down (V.point x) (V.point a.0) (V.point b.0) (V.point c.0) h in
        record {
          points = d.0 ∷ (V.point x) ∷ [];
          met = place_centroid n at V.number (l.point a.0) (l.point b.0) (l.point c.0) (V.point a.0)
              (V.point b.0) (V.point c.0) d.0 (V.point x) (N a.0 k.0) (N b.0 k.1.0) (N c.0 k.1.1.0) d.1 d.2;
          new =
              λ e. puts_here (put at n d.0) (suc n) (V.point x) [];
        }
    command_down (Oncircle o a) k h z =
        let d = oncircle_down (V.point x) (V.point o.0) (V.point a.0) (V.number m) h z.0 z.1.0 in
        record {
          points = d.0 ∷ d.1 ∷ (V.point x) ∷ [];
          met = place_oncircle n at V.number (l.point o.0) (l.point a.0) m (V.point o.0)
              (V.point a.0) d.0 d.1 (V.point x) (N o.0 k.0) (N a.0 k.1.0) d.2 d.3 d.4;
          new =
              λ e. puts_here (put (put at n d.0) (suc n) d.1) (suc (suc n)) (V.point x) [];
        }
    command_down (Second a b o) k h z =
        let d = second_down (V.point x) (V.point a.0) (V.point b.0) (V.point o.0) h z.0 z.1.0 in
        record {
          points = d.0 ∷ (V.point x) ∷ [];
          met = place_reflection n at V.number (l.point o.0) (l.point a.0) (l.point b.0)
              (l.point a.0) (V.point o.0) (V.point a.0) (V.point b.0) (V.point a.0) d.0 (V.point x) (N o.0 k.1.1.0) (N a.0 k.0) (N b.0 k.1.0)
              (N a.0 k.0) d.1 d.2;
          new = λ e. puts_here (put at n d.0) (suc n) (V.point x) [];
        }
    command_down (Cc o p a) k h z =
        let d = cc_down (V.point x) (V.point o.0) (V.point p.0) (V.point a.0) h z.0 z.1.0 in
        record {
          points = d.0 ∷ (V.point x) ∷ [];
          met = place_reflection n at V.number (l.point a.0) (l.point o.0) (l.point p.0)
              (l.point a.0) (V.point a.0) (V.point o.0) (V.point p.0) (V.point a.0) d.0 (V.point x) (N a.0 k.1.1.0) (N o.0 k.0) (N p.0 k.1.0)
              (N a.0 k.1.1.0) d.1 d.2;
          new = λ e. puts_here (put at n d.0) (suc n) (V.point x) [];
        }
    command_down (Inverse p o a) k h z =
        record {
          points = (V.point x) ∷ [];
          met = place_along n at V.number (l.point o.0) (l.point o.0) (l.point p.0)
              (division (square_tree (l.point o.0) (l.point a.0)) (square_tree (l.point o.0) (l.point p.0))) (V.point o.0) (V.point o.0)
              (V.point p.0) (quotient (pythagoras_difference (V.point o.0) (V.point a.0) (V.point o.0))
              (pythagoras_difference (V.point o.0) (V.point p.0) (V.point o.0))) (V.point x) (N o.0 k.1.0) (N o.0 k.1.0) (N p.0 k.0)
              (squares (l.point o.0) (l.point a.0) (l.point p.0) (V.point o.0) (V.point a.0) (V.point p.0) (N o.0 k.1.0) (N a.0 k.1.1.0)
              (N p.0 k.0) (far (V.point o.0) (V.point p.0) z.0)) (inverse_down (V.point x) (V.point p.0) (V.point o.0) (V.point a.0) h z.0);
          new = λ e. puts_here at n (V.point x) [];
        }
    command_down (Weights a b c r q) k h z =
        let placed = place_weights version n at V.number (l.point a.0) (l.point b.0) (l.point c.0) (renamed l (tree_of s.nodes r))
        (renamed l (tree_of s.nodes q)) (V.point a.0) (V.point b.0) (V.point c.0) (V.point x)
        (tree_value (reading s V) (tree_of s.nodes r)) (tree_value (reading s V) (tree_of s.nodes q)) (N a.0 k.0) (N b.0 k.1.0) (N c.0 k.1.1.0)
        (reads (tree_of s.nodes r) k.1.1.1.0.0 h.0) (reads (tree_of s.nodes q) k.1.1.1.1.0.0 h.1) h.2 in
        record { points = placed.points; met = placed.met; new = λ e. placed.new }
    command_down (AssumeDifferent a b) k h z = record { points = []; met = tt; new = λ e. cc }
    command_down (AssumeNotCollinear a b c) k h z = record { points = []; met = tt; new = λ e. cc }
    command_down (AssumeNotParallel a b c d) k h z = record { points = []; met = tt; new = λ e. cc }

    -- the conditions that do not name the point hold: there is a point that meets the command
    pub command_built : (c : Command) (F : Triple) → IsNamed s.nodes x y j c → Hold s V (early_conditions s.nodes c) → Built version l s.nodes n m at V.number c F
    command_built Point F k z = record { points = F ∷ []; met = (tt, tt); free = λ e. puts_here at n F [] }
    command_built Param F k z = record { points = []; met = tt; free = λ e. cc }
    command_built (Line a b) F k z = record { points = []; met = tt; free = λ e. cc }
    command_built (Parallel p b) F k z =
        let E = along_exists (V.point p.0) (at (l.line b.0).left) (at (l.line b.0).right) one in
        record {
          points = E.0 ∷ [];
          met = place_along n at V.number (l.point p.0) (l.line b.0).left (l.line b.0).right one_tree
              (V.point p.0) (at (l.line b.0).left) (at (l.line b.0).right) one E.0 (N p.0 k.0) (L b.0 k.1.0) (R b.0 k.1.0)
              (one_stands n at V.number) E.1;
          free = λ e. cc;
        }
    command_built (Perp p b) F k z =
        let E = along_exists (V.point p.0) (at (l.line b.0).left) (at (l.line b.0).right) one in
        let G = turned_exists (V.point p.0) E.0 one in
        record {
          points = E.0 ∷ G.0 ∷ [];
          met = place_upright n at V.number (l.point p.0) (l.line b.0).left (l.line b.0).right (V.point p.0)
              (at (l.line b.0).left) (at (l.line b.0).right) E.0 G.0 (N p.0 k.0) (L b.0 k.1.0) (R b.0 k.1.0) E.1 G.1;
          free = λ e. cc;
        }
    command_built (Med a b) F k z =
        let D = along_exists (V.point a.0) (V.point a.0) (V.point b.0) half in
        let E = turned_exists D.0 (V.point b.0) one in
        record { points = D.0 ∷ E.0 ∷ []; met = place_bisector n at V.number (l.point a.0) (l.point b.0) (V.point a.0) (V.point b.0) D.0 E.0 (N a.0 k.0) (N b.0 k.1.0) D.1 E.1; free = λ e. cc }
    command_built (Intersec a b) F k z =
        let Y = crossing_exists (at (l.line a.0).left) (at (l.line a.0).right) (at (l.line b.0).left) (at (l.line b.0).right)
        (λ e. z.0 ((directions-are _ _ _ _ _ _ (st a.0 k.0) (st b.0 k.1.0)).1 e)) in
        record {
          points = Y.0 ∷ [];
          met = place_crossing n at V.number (l.line a.0).left (l.line a.0).right (l.line b.0).left
              (l.line b.0).right (at (l.line a.0).left) (at (l.line a.0).right) (at (l.line b.0).left) (at (l.line b.0).right) Y.0 (L a.0 k.0)
              (R a.0 k.0) (L b.0 k.1.0) (R b.0 k.1.0) (Y.1);
          free = λ e. cc;
        }
    command_built (Inter a b c d) F k z =
        let Y = crossing_exists (V.point a.0) (V.point b.0) (V.point c.0) (V.point d.0) z.0 in
        record {
          points = Y.0 ∷ [];
          met = place_crossing n at V.number (l.point a.0) (l.point b.0) (l.point c.0) (l.point d.0) (V.point a.0)
              (V.point b.0) (V.point c.0) (V.point d.0) Y.0 (N a.0 k.0) (N b.0 k.1.0) (N c.0 k.1.1.0) (N d.0 k.1.1.1.0) (Y.1);
          free =
              λ e. cc;
        }
    command_built (Foot p a b) F k z =
        let Y = foot_exists (V.point p.0) (V.point a.0) (V.point b.0) z.0 in
        record {
          points = Y.0 ∷ [];
          met = place_foot n at V.number (l.point p.0) (l.point a.0) (l.point b.0) (V.point p.0) (V.point a.0)
              (V.point b.0) Y.0 (N p.0 k.0) (N a.0 k.1.0) (N b.0 k.1.1.0) (Y.1);
          free = λ e. cc;
        }
    command_built (Pratio w u v r) F k z =
        let Y = along_exists (V.point w.0) (V.point u.0) (V.point v.0) (tree_value (reading s V) (tree_of s.nodes r)) in
        record {
          points = Y.0 ∷ [];
          met = place_along n at V.number (l.point w.0) (l.point u.0) (l.point v.0)
              (renamed l (tree_of s.nodes r)) (V.point w.0) (V.point u.0) (V.point v.0) (tree_value (reading s V) (tree_of s.nodes r)) Y.0
              (N w.0 k.0) (N u.0 k.1.0) (N v.0 k.1.1.0)
              (reads (tree_of s.nodes r) k.1.1.1.0.0 (step_value s V x y (tree_of s.nodes r) k.1.1.1.0.0 z)) (Y.1);
          free = λ e. cc;
        }
    command_built (Tratio u v r) F k z =
        let Y = turned_exists (V.point u.0) (V.point v.0) (tree_value (reading s V) (tree_of s.nodes r)) in
        record {
          points = Y.0 ∷ [];
          met = place_turned n at V.number (l.point u.0) (l.point v.0) (renamed l (tree_of s.nodes r))
              (V.point u.0) (V.point v.0) (tree_value (reading s V) (tree_of s.nodes r)) Y.0 (N u.0 k.0) (N v.0 k.1.0)
              (reads (tree_of s.nodes r) k.1.1.0.0 (step_value s V x y (tree_of s.nodes r) k.1.1.0.0 z)) (Y.1);
          free = λ e. cc;
        }
    command_built (Online a b) F k z =
        let Y = along_exists (V.point a.0) (V.point a.0) (V.point b.0) (V.number m) in
        record {
          points = Y.0 ∷ [];
          met = place_along n at V.number (l.point a.0) (l.point a.0) (l.point b.0)
              (parameter_leaf (record { 0 = m })) (V.point a.0) (V.point a.0) (V.point b.0) (V.number m) Y.0 (N a.0 k.0) (N a.0 k.0)
              (N b.0 k.1.0) (number_stands n at V.number m) (Y.1);
          free = λ e. cc;
        }
    command_built (Lratio a b r) F k z =
        let Y = along_exists (V.point a.0) (V.point a.0) (V.point b.0) (tree_value (reading s V) (tree_of s.nodes r)) in
        record {
          points = Y.0 ∷ [];
          met = place_along n at V.number (l.point a.0) (l.point a.0) (l.point b.0)
              (renamed l (tree_of s.nodes r)) (V.point a.0) (V.point a.0) (V.point b.0) (tree_value (reading s V) (tree_of s.nodes r)) Y.0
              (N a.0 k.0) (N a.0 k.0) (N b.0 k.1.0) (reads (tree_of s.nodes r) k.1.1.0.0 (step_value s V x y (tree_of s.nodes r) k.1.1.0.0 z))
              (Y.1);
          free = λ e. cc;
        }
    command_built (Midpoint a b) F k z =
        let Y = along_exists (V.point a.0) (V.point a.0) (V.point b.0) half in
        record {
          points = Y.0 ∷ [];
          met = place_along n at V.number (l.point a.0) (l.point a.0) (l.point b.0) half_tree (V.point a.0)
              (V.point a.0) (V.point b.0) half Y.0 (N a.0 k.0) (N a.0 k.0) (N b.0 k.1.0) (half_stands n at V.number) (Y.1);
          free = λ e. cc;
        }
    command_built (Translate a b c) F k z =
        let Y = along_exists (V.point c.0) (V.point a.0) (V.point b.0) one in
        record {
          points = Y.0 ∷ [];
          met = place_along n at V.number (l.point c.0) (l.point a.0) (l.point b.0) one_tree (V.point c.0)
              (V.point a.0) (V.point b.0) one Y.0 (N c.0 k.1.1.0) (N a.0 k.0) (N b.0 k.1.0) (one_stands n at V.number) (Y.1);
          free = λ e. cc;
        }
    command_built (Symmetric a o) F k z =
        let Y = along_exists (V.point o.0) (V.point a.0) (V.point o.0) one in
        record {
          points = Y.0 ∷ [];
          met = place_along n at V.number (l.point o.0) (l.point a.0) (l.point o.0) one_tree (V.point o.0)
              (V.point a.0) (V.point o.0) one Y.0 (N o.0 k.1.0) (N a.0 k.0) (N o.0 k.1.0) (one_stands n at V.number) (Y.1);
          free = λ e. cc;
        }
    command_built (Reflect a p q) F k z =
        let M = foot_exists (V.point a.0) (V.point p.0) (V.point q.0) z.0 in
        let Y = along_exists M.0 (V.point a.0) M.0 one in
        record {
          points = M.0 ∷ Y.0 ∷ [];
          met = place_reflection n at V.number (l.point a.0) (l.point p.0) (l.point q.0) (l.point a.0)
              (V.point a.0) (V.point p.0) (V.point q.0) (V.point a.0) M.0 Y.0 (N a.0 k.0) (N p.0 k.1.0) (N q.0 k.1.1.0) (N a.0 k.0) M.1 Y.1;
          free = λ e. cc;
        }
    command_built (Circumcenter a b c) F k z =
        let D = along_exists (V.point a.0) (V.point a.0) (V.point b.0) half in
        let E = turned_exists D.0 (V.point b.0) one in
        let G = along_exists (V.point a.0) (V.point a.0) (V.point c.0) half in
        let I = turned_exists G.0 (V.point c.0) one in
        let Y = crossing_exists D.0 E.0 G.0 I.0 (circumcenter_apart (V.point a.0) (V.point b.0) (V.point c.0) D.0 E.0 G.0 I.0 D.1 E.1 G.1 I.1 z.0) in
        record {
          points = D.0 ∷ E.0 ∷ G.0 ∷ I.0 ∷ Y.0 ∷ [];
          met = place_circumcenter n at V.number (l.point a.0) (l.point b.0) (l.point c.0)
              (V.point a.0) (V.point b.0) (V.point c.0) D.0 E.0 G.0 I.0 Y.0 (N a.0 k.0) (N b.0 k.1.0) (N c.0 k.1.1.0) D.1 E.1 G.1 I.1 Y.1;
          free = λ e. cc;
        }
    command_built (Orthocenter a b c) F k z =
        let D = foot_exists (V.point a.0) (V.point b.0) (V.point c.0) (corner_differ (V.point a.0) (V.point b.0) (V.point c.0) z.0) in
        let E = foot_exists (V.point b.0) (V.point a.0) (V.point c.0) (corner_side (V.point a.0) (V.point b.0) (V.point c.0) z.0) in
        let Y = crossing_exists (V.point a.0) D.0 (V.point b.0) E.0 (orthocenter_apart (V.point a.0) (V.point b.0) (V.point c.0) D.0 E.0 D.1 E.1 z.0) in
        record {
          points = D.0 ∷ E.0 ∷ Y.0 ∷ [];
          met = place_orthocenter n at V.number (l.point a.0) (l.point b.0) (l.point c.0)
              (V.point a.0) (V.point b.0) (V.point c.0) D.0 E.0 Y.0 (N a.0 k.0) (N b.0 k.1.0) (N c.0 k.1.1.0) D.1 E.1 Y.1;
          free = λ e. cc;
        }
    command_built (Centroid a b c) F k z =
        let G = along_exists (V.point b.0) (V.point b.0) (V.point c.0) half in
        let Y = along_exists (V.point a.0) (V.point a.0) G.0 two_thirds in
        record {
          points = G.0 ∷ Y.0 ∷ [];
          met = place_centroid n at V.number (l.point a.0) (l.point b.0) (l.point c.0) (V.point a.0)
              (V.point b.0) (V.point c.0) G.0 Y.0 (N a.0 k.0) (N b.0 k.1.0) (N c.0 k.1.1.0) G.1 Y.1;
          free = λ e. cc;
        }
    command_built (Oncircle o a) F k z =
        let T = turned_exists (V.point o.0) (V.point a.0) (V.number m) in
        let M = foot_exists (V.point o.0) (V.point a.0) T.0 (turned_differ (V.point o.0) (V.point a.0) T.0 (V.number m) z.0 T.1) in
        let Y = along_exists M.0 (V.point a.0) M.0 one in
        record {
          points = T.0 ∷ M.0 ∷ Y.0 ∷ [];
          met = place_oncircle n at V.number (l.point o.0) (l.point a.0) m (V.point o.0)
              (V.point a.0) T.0 M.0 Y.0 (N o.0 k.0) (N a.0 k.1.0) T.1 M.1 Y.1;
          free = λ e. cc;
        }
    command_built (Second a b o) F k z =
        let M = foot_exists (V.point o.0) (V.point a.0) (V.point b.0) z.0 in
        let Y = along_exists M.0 (V.point a.0) M.0 one in
        record {
          points = M.0 ∷ Y.0 ∷ [];
          met = place_reflection n at V.number (l.point o.0) (l.point a.0) (l.point b.0) (l.point a.0)
              (V.point o.0) (V.point a.0) (V.point b.0) (V.point a.0) M.0 Y.0 (N o.0 k.1.1.0) (N a.0 k.0) (N b.0 k.1.0) (N a.0 k.0) M.1 Y.1;
          free = λ e. cc;
        }
    command_built (Cc o p a) F k z =
        let M = foot_exists (V.point a.0) (V.point o.0) (V.point p.0) z.0 in
        let Y = along_exists M.0 (V.point a.0) M.0 one in
        record {
          points = M.0 ∷ Y.0 ∷ [];
          met = place_reflection n at V.number (l.point a.0) (l.point o.0) (l.point p.0) (l.point a.0)
              (V.point a.0) (V.point o.0) (V.point p.0) (V.point a.0) M.0 Y.0 (N a.0 k.1.1.0) (N o.0 k.0) (N p.0 k.1.0)
              (N a.0 k.1.1.0) M.1 Y.1;
          free = λ e. cc;
        }
    command_built (Inverse p o a) F k z =
        let Y = along_exists (V.point o.0) (V.point o.0) (V.point p.0)
        (quotient (pythagoras_difference (V.point o.0) (V.point a.0) (V.point o.0))
        (pythagoras_difference (V.point o.0) (V.point p.0) (V.point o.0))) in
        record {
          points = Y.0 ∷ [];
          met = place_along n at V.number (l.point o.0) (l.point o.0) (l.point p.0)
              (division (square_tree (l.point o.0) (l.point a.0)) (square_tree (l.point o.0) (l.point p.0))) (V.point o.0) (V.point o.0)
              (V.point p.0) (quotient (pythagoras_difference (V.point o.0) (V.point a.0) (V.point o.0))
              (pythagoras_difference (V.point o.0) (V.point p.0) (V.point o.0))) Y.0 (N o.0 k.1.0) (N o.0 k.1.0) (N p.0 k.0)
              (squares (l.point o.0) (l.point a.0) (l.point p.0) (V.point o.0) (V.point a.0) (V.point p.0) (N o.0 k.1.0) (N a.0 k.1.1.0)
              (N p.0 k.0) (far (V.point o.0) (V.point p.0) z.0)) (Y.1);
          free = λ e. cc;
        }
    command_built (Weights a b c r q) F k z =
        let conditions = expression_conditions (tree_of s.nodes r) in
        let others = expression_conditions (tree_of s.nodes q) in
        let first = tree_value (reading s V) (tree_of s.nodes r) in
        let second = tree_value (reading s V) (tree_of s.nodes q) in
        let Y = weighted_exists (V.point a.0) (V.point b.0) (V.point c.0) first second in
        let placed = place_weights version n at V.number (l.point a.0) (l.point b.0) (l.point c.0) (renamed l (tree_of s.nodes r))
        (renamed l (tree_of s.nodes q)) (V.point a.0) (V.point b.0) (V.point c.0) Y.0
        first second (N a.0 k.0) (N b.0 k.1.0) (N c.0 k.1.1.0)
        (reads (tree_of s.nodes r) k.1.1.1.0.0 (step_value s V x y (tree_of s.nodes r) k.1.1.1.0.0 (each_front _ conditions others z)))
        (reads (tree_of s.nodes q) k.1.1.1.1.0.0 (step_value s V x y (tree_of s.nodes q) k.1.1.1.1.0.0 (each_back _ conditions others z))) Y.1 in
        record { points = placed.points; met = placed.met; free = λ e. cc }
    command_built (AssumeDifferent a b) F k z = record { points = []; met = tt; free = λ e. cc }
    command_built (AssumeNotCollinear a b c) F k z = record { points = []; met = tt; free = λ e. cc }
    command_built (AssumeNotParallel a b c d) F k z = record { points = []; met = tt; free = λ e. cc }
