-- Up: where a lowered placement meets the steps, its named points meet the commands.
use Rattle.std.proofs.Common.{◌≡◌, ℕ, suc, ◌-◌, ◌<◌, ⊎_elim, Option, Some, None, List, [], ◌∷◌, refl, sym, ap, subst, subst₂, arith}
use Rattle.std.proofs.Math.Nat.{eq-or-lt_of_le}
use Rattle.ring_laws.specs.Fraction.{Fraction}
use Rattle.geo_points.specs.Placements.{Placement, SamePoint}
use Rattle.geo_points.specs.Points.{Point as Triple}
use Rattle.geo_points.specs.Steps.{IsAlong, IsTurned, IsWeighted}
use Rattle.ring_laws.proofs.Fractions.{fractions}
use Rattle.geo_terms.specs.Stores.{Store, tree_of}
use Rattle.geo_terms.specs.Trees.{Tree}
use Rattle.geo_terms.specs.Values.{HasTreeValue, tree_value}
use Rattle.geo_program.specs.declared.commands.Command.{Command}
use Rattle.geo_program.specs.declared.commands.Command.TheVariants.{Point, Param, Line, Parallel, Perp, Med, Intersec, Inter, Foot, Pratio}
use Rattle.geo_program.specs.declared.commands.Command.TheVariants.{Tratio, Online, Lratio, Midpoint, Translate, Symmetric, Reflect}
use Rattle.geo_program.specs.declared.commands.Command.TheVariants.{Circumcenter, Orthocenter, Centroid, Oncircle, Second, Cc, Inverse}
use Rattle.geo_program.specs.declared.commands.Command.TheVariants.{Weights, AssumeDifferent, AssumeNotCollinear, AssumeNotParallel}
use Rattle.geo_program.specs.declared.names.NameKind.{NameKind}
use Rattle.geo_program.specs.declared.names.NameKind.TheVariants as kind
use Rattle.geo_program.specs.WellFormed.{IsWellFormed, Source}
use Rattle.geo_lowering.specs.declared.version.Version.{Version}
use Rattle.geo_lowering.specs.Counting.{named, hidden, further, counted, next_point, next_number, weights_points}
use Rattle.geo_lowering.specs.CommandsMet.{reading, drawn, lines_of, IsCommandMet, AreCommandsMet, MeetsCommands}
use Rattle.geo_lowering.specs.Lines.{DrawnLine, line_at}
use Rattle.geo_lowering.specs.Lowering.{Layout, Pair, layout_of, pair_of, renamed, command_steps, steps_from, steps_of, Extends}
use Rattle.geo_lowering.specs.StepForms.{AreFormsMet}
use Rattle.geo_lowering.proofs.FormLaws.{met_front, met_back}
use Rattle.geo_lowering.proofs.Laying.{IsNamed, AreNamed, IsLaid, AreLaid, IsDrawn, AreDrawn, named_program, laid_program, drawn_program}
use Rattle.geo_lowering.proofs.Bounds.{past_steps}
use Rattle.geo_lowering.proofs.Values.{renamed-value, renamed-has}
use Rattle.geo_points.proofs.Same.{self_point, flip_point, cross_product-same, along-same, turned-same, geo-same}
use Rattle.geo_lowering.proofs.ZeroTerms.{different-is}
use Rattle.geo_points.proofs.Expressions.{abscissa, ordinate, given_number, ◌-'◌, ◌*'◌}
use Rattle.geo_lowering.proofs.Commands.{midpoint_up, translate_up, symmetric_up, inter_up, foot_up, centroid_up, reflect_up, second_up, cc_up, oncircle_up, inverse_up}
use Rattle.geo_lowering.proofs.WeightedCommands.{weights_met}
use Rattle.geo_lowering.proofs.Centers.{circumcenter_up, orthocenter_up}
use Rattle.geo_lowering.proofs.Standing.{Stands, line_stands, parallel_stands, perp_stands, med_stands, intersec_up}
use Rattle.geo_lowering.proofs.Numbers.{from_half, from_two_thirds}
use Rattle.geo_lowering.specs.Building.{forgotten}

-- LINES
-- the same two points stand for a line
pub stands-same : (l : DrawnLine) (C D E F : Triple) → SamePoint C E → SamePoint D F → Stands l C D → Stands l E F
stands-same l C D E F c d s =
    let moved = geo-same (C ∷ D ∷ []) (E ∷ F ∷ []) (s.factor ∷ []) (s.factor ∷ []) (c, (d, tt)) (fractions.same_refl _, tt) in
    record {
      factor = s.factor;
      nonzero = s.nonzero;
      by_x = fractions.same_trans _ _ _ s.by_x (moved (given_number 0 *' (abscissa 1 -' abscissa 0)));
      by_y = fractions.same_trans _ _ _ s.by_y (moved (given_number 0 *' (ordinate 1 -' ordinate 0)));
      down = λ Z o. cross_product-same C D C Z E F E Z c d c (self_point Z) (s.down Z o);
      up = λ Z h. s.up Z (cross_product-same E F E Z C D C Z (flip_point C E c) (flip_point D F d) (flip_point C E c) (self_point Z) h);
    }

module _ (version : Version) (l : Layout) (nodes : Store) (placed lowered : Placement) (lines : List DrawnLine) where
  -- each line before j stands on its pair of points
  abbrev pub AllStand : ℕ → Type 0
  AllStand j = (i : ℕ) → i < j → Stands (line_at lines i) (lowered.point (l.line i).left) (lowered.point (l.line i).right)

  -- each named point before x is the same in both placements
  abbrev pub AllSame : ℕ → Type 0
  AllSame x = (a : ℕ) → a < x → SamePoint (placed.point a) (lowered.point (l.point a))

  -- a new line stands on its pair
  pub drawn_stands : (x q j n m : ℕ) (c : Command) → AllSame x → AllStand j → IsNamed nodes x q j c → AreFormsMet lowered n (command_steps version l nodes n m c) → named c ≡ Some kind.Line
      → Stands (line_at (drawn placed lines c) 0) (lowered.point (pair_of l.point n c).left) (lowered.point (pair_of l.point n c).right)
  drawn_stands x y j n m Point g s n' h e = cc
  drawn_stands x y j n m (Line a b) g s n' h e = stands-same _ _ _ _ _ (g a.0 n'.0) (g b.0 n'.1.0) (line_stands (placed.point a.0) (placed.point b.0))
  drawn_stands x y j n m (Parallel p b) g s n' h e =
      stands-same _ _ _ _ _ (g p.0 n'.0) (self_point (lowered.point n))
      (parallel_stands (placed.point p.0) (line_at lines b.0) _ _ (lowered.point n) (s b.0 n'.1.0)
      (along-same _ _ _ _ _ _ _ _ _ _ (flip_point _ _ (g p.0 n'.0)) (self_point _) (self_point _) (fractions.same_refl _) (self_point _) h.0.1))
  drawn_stands x y j n m (Perp p b) g s n' h e =
      let P = flip_point _ _ (g p.0 n'.0) in
      stands-same _ _ _ _ _ (g p.0 n'.0) (self_point (lowered.point (suc n)))
      (perp_stands (placed.point p.0) (line_at lines b.0) _ _ (lowered.point n) (lowered.point (suc n)) (s b.0 n'.1.0)
      (along-same _ _ _ _ _ _ _ _ _ _ P (self_point _) (self_point _) (fractions.same_refl _) (self_point _) h.0.1)
      (turned-same _ _ _ _ _ _ _ _ P (self_point _) (fractions.same_refl _) (self_point _) h.1.0.1))
  drawn_stands x y j n m (Med a b) g s n' h e =
      let A = flip_point _ _ (g a.0 n'.0) in let B = flip_point _ _ (g b.0 n'.1.0) in
      med_stands (placed.point a.0) (placed.point b.0) (lowered.point n) (lowered.point (suc n))
      (along-same _ _ _ _ _ _ _ _ _ _ A A B (fractions.same_refl _) (self_point _) (from_half _ _ _ _ h.0.1))
      (turned-same _ _ _ _ _ _ _ _ (self_point _) B (fractions.same_refl _) (self_point _) h.1.0.1)
  drawn_stands x y j n m _ g s n' h e = cc

  next_stands : (j n : ℕ) (k : Option NameKind) (c : Command) → named c ≡ k → AllStand j
      → (named c ≡ Some kind.Line → Stands (line_at lines j) (lowered.point (l.line j).left) (lowered.point (l.line j).right))
      → AllStand (counted kind.Line k j)
  next_stands j n (Some kind.Line) c e s d i b =
      ⊎_elim (λ (y : i ≡ j). subst (λ z. Stands (line_at lines z) (lowered.point (l.line z).left) (lowered.point (l.line z).right)) (sym y) (d e)) (λ (u : i < j). s i u) (eq-or-lt_of_le (omega arith))
  next_stands j n (Some kind.Point) c e s d i b = s i b
  next_stands j n (Some kind.Param) c e s d i b = s i b
  next_stands j n None c e s d i b = s i b

  -- one command later
  pub stands_next : (x q j n m : ℕ) (c : Command) → AllSame x → AllStand j → IsNamed nodes x q j c → IsLaid version l x q j n m c → IsDrawn placed lines j c
      → AreFormsMet lowered n (command_steps version l nodes n m c) → AllStand (counted kind.Line (named c) j)
  stands_next x q j n m c g s h d r k =
      next_stands j n (named c) c refl s
      (λ e. subst (λ (y : DrawnLine). Stands y (lowered.point (l.line j).left) (lowered.point (l.line j).right)) (sym (r e))
      (subst (λ (p : Pair). Stands (line_at (drawn placed lines c) 0) (lowered.point p.left) (lowered.point p.right)) (sym (d.line e)) (drawn_stands x q j n m c g s h k e)))

-- COMMANDS
-- a command is met at the point that it names
pub met_at : (s : Source) (placed : Placement) (X Y : Triple) (t : Fraction) (c : Command) → (named c ≡ Some kind.Point → X ≡ Y) → IsCommandMet s placed X t c → IsCommandMet s placed Y t c
met_at s placed X Y t Point e h = h
met_at s placed X Y t Param e h = h
met_at s placed X Y t (Line a b) e h = h
met_at s placed X Y t (Parallel p b) e h = h
met_at s placed X Y t (Perp p b) e h = h
met_at s placed X Y t (Med a b) e h = h
met_at s placed X Y t (Intersec a b) e h = subst (λ Z. IsCommandMet s placed Z t (Intersec a b)) (e refl) h
met_at s placed X Y t (Inter a b c d) e h = subst (λ Z. IsCommandMet s placed Z t (Inter a b c d)) (e refl) h
met_at s placed X Y t (Foot p a b) e h = subst (λ Z. IsCommandMet s placed Z t (Foot p a b)) (e refl) h
met_at s placed X Y t (Pratio w u v r) e h = subst (λ Z. IsCommandMet s placed Z t (Pratio w u v r)) (e refl) h
met_at s placed X Y t (Tratio u v r) e h = subst (λ Z. IsCommandMet s placed Z t (Tratio u v r)) (e refl) h
met_at s placed X Y t (Online a b) e h = subst (λ Z. IsCommandMet s placed Z t (Online a b)) (e refl) h
met_at s placed X Y t (Lratio a b r) e h = subst (λ Z. IsCommandMet s placed Z t (Lratio a b r)) (e refl) h
met_at s placed X Y t (Midpoint a b) e h = subst (λ Z. IsCommandMet s placed Z t (Midpoint a b)) (e refl) h
met_at s placed X Y t (Translate a b c) e h = subst (λ Z. IsCommandMet s placed Z t (Translate a b c)) (e refl) h
met_at s placed X Y t (Symmetric a o) e h = subst (λ Z. IsCommandMet s placed Z t (Symmetric a o)) (e refl) h
met_at s placed X Y t (Reflect a p q) e h = subst (λ Z. IsCommandMet s placed Z t (Reflect a p q)) (e refl) h
met_at s placed X Y t (Circumcenter a b c) e h = subst (λ Z. IsCommandMet s placed Z t (Circumcenter a b c)) (e refl) h
met_at s placed X Y t (Orthocenter a b c) e h = subst (λ Z. IsCommandMet s placed Z t (Orthocenter a b c)) (e refl) h
met_at s placed X Y t (Centroid a b c) e h = subst (λ Z. IsCommandMet s placed Z t (Centroid a b c)) (e refl) h
met_at s placed X Y t (Oncircle o a) e h = subst (λ Z. IsCommandMet s placed Z t (Oncircle o a)) (e refl) h
met_at s placed X Y t (Second a b o) e h = subst (λ Z. IsCommandMet s placed Z t (Second a b o)) (e refl) h
met_at s placed X Y t (Cc o p a) e h = subst (λ Z. IsCommandMet s placed Z t (Cc o p a)) (e refl) h
met_at s placed X Y t (Inverse p o a) e h = subst (λ Z. IsCommandMet s placed Z t (Inverse p o a)) (e refl) h
met_at s placed X Y t (Weights a b c r q) e h = subst (λ Z. IsCommandMet s placed Z t (Weights a b c r q)) (e refl) h
met_at s placed X Y t (AssumeDifferent a b) e h = h
met_at s placed X Y t (AssumeNotCollinear a b c) e h = h
met_at s placed X Y t (AssumeNotParallel a b c d) e h = h

module _ (version : Version) (s : Source) (lowered : Placement) where
  abbrev l : Layout
  l = layout_of version s.commands

  abbrev V : Placement
  V = forgotten version s lowered

  along_read : (e : Tree) (W U Z Y : Triple) → HasTreeValue lowered (renamed l e) × IsAlong W U Z (tree_value lowered (renamed l e)) Y
      → HasTreeValue (reading s V) e × IsAlong W U Z (tree_value (reading s V) e) Y
  along_read e W U Z Y h = (subst (λ (A : Type 0). A) (renamed-has l lowered e) h.0, subst (λ r. IsAlong W U Z r Y) (renamed-value l lowered e) h.1)

  turned_read : (e : Tree) (U Z Y : Triple) → HasTreeValue lowered (renamed l e) × IsTurned U Z (tree_value lowered (renamed l e)) Y
      → HasTreeValue (reading s V) e × IsTurned U Z (tree_value (reading s V) e) Y
  turned_read e U Z Y h = (subst (λ (A : Type 0). A) (renamed-has l lowered e) h.0, subst (λ r. IsTurned U Z r Y) (renamed-value l lowered e) h.1)

  weighted_read : (e f : Tree) (A B C Y : Triple) → HasTreeValue lowered (renamed l e) × HasTreeValue lowered (renamed l f)
      × IsWeighted A B C (tree_value lowered (renamed l e)) (tree_value lowered (renamed l f)) Y
      → HasTreeValue (reading s V) e × HasTreeValue (reading s V) f × IsWeighted A B C (tree_value (reading s V) e) (tree_value (reading s V) f) Y
  weighted_read e f A B C Y h = (
    subst (λ (A : Type 0). A) (renamed-has l lowered e) h.0,
    subst (λ (A : Type 0). A) (renamed-has l lowered f) h.1,
    subst₂ (λ r q. IsWeighted A B C r q Y) (renamed-value l lowered e) (renamed-value l lowered f) h.2,
  )

  -- where the steps of a command are met, it is met
  pub command_up : (x q j n m : ℕ) (c : Command) → IsNamed s.nodes x q j c → AllStand version l s.nodes V lowered (lines_of V s.commands) j
      → AreFormsMet lowered n (command_steps version l s.nodes n m c) → IsCommandMet s V (lowered.point (further n (hidden version c))) (lowered.number m) c
  command_up x y j n m Point k e h = tt
  command_up x y j n m Param k e h = tt
  command_up x y j n m (Line a b) k e h = tt
  command_up x y j n m (Parallel p b) k e h = tt
  command_up x y j n m (Perp p b) k e h = tt
  command_up x y j n m (Med a b) k e h = tt
  command_up x y j n m (Intersec a b) k e h = intersec_up (lowered.point n) _ _ _ _ _ _ (e a.0 k.0) (e b.0 k.1.0) h.0
  command_up x y j n m (Inter a b c d) k e h = inter_up (lowered.point n) (V.point a.0) (V.point b.0) (V.point c.0) (V.point d.0) h.0
  command_up x y j n m (Foot p a b) k e h = foot_up (lowered.point n) (V.point p.0) (V.point a.0) (V.point b.0) h.0
  command_up x y j n m (Pratio w u v r) k e h = along_read (tree_of s.nodes r) (V.point w.0) (V.point u.0) (V.point v.0) (lowered.point n) h.0
  command_up x y j n m (Tratio u v r) k e h = turned_read (tree_of s.nodes r) (V.point u.0) (V.point v.0) (lowered.point n) h.0
  command_up x y j n m (Online a b) k e h = h.0.1
  command_up x y j n m (Lratio a b r) k e h = along_read (tree_of s.nodes r) (V.point a.0) (V.point a.0) (V.point b.0) (lowered.point n) h.0
  command_up x y j n m (Midpoint a b) k e h = midpoint_up (lowered.point n) (V.point a.0) (V.point b.0) (from_half _ _ _ _ h.0.1)
  command_up x y j n m (Translate a b c) k e h = translate_up (lowered.point n) (V.point a.0) (V.point b.0) (V.point c.0) h.0.1
  command_up x y j n m (Symmetric a o) k e h = symmetric_up (lowered.point n) (V.point a.0) (V.point o.0) h.0.1
  command_up x y j n m (Reflect a p q) k e h = reflect_up (lowered.point (suc n)) (V.point a.0) (V.point p.0) (V.point q.0) (lowered.point n) h.0 h.1.0.1
  command_up x y j n m (Circumcenter a b c) k e h =
      circumcenter_up (lowered.point (suc (suc (suc (suc n))))) (V.point a.0) (V.point b.0) (V.point c.0) (lowered.point n)
      (lowered.point (suc n)) (lowered.point (suc (suc n))) (lowered.point (suc (suc (suc n)))) (from_half _ _ _ _ h.0.1) h.1.0.1
      (from_half _ _ _ _ h.1.1.0.1) h.1.1.1.0.1 h.1.1.1.1.0
  command_up x y j n m (Orthocenter a b c) k e h = orthocenter_up (lowered.point (suc (suc n))) (V.point a.0) (V.point b.0) (V.point c.0) (lowered.point n) (lowered.point (suc n)) h.0 h.1.0 h.1.1.0
  command_up x y j n m (Centroid a b c) k e h =
      centroid_up (lowered.point (suc n)) (V.point a.0) (V.point b.0) (V.point c.0) (lowered.point n) (from_half _ _ _ _ h.0.1)
      (from_two_thirds _ _ _ _ h.1.0.1)
  command_up x y j n m (Oncircle o a) k e h = oncircle_up (lowered.point (suc (suc n))) (V.point o.0) (V.point a.0) (lowered.number m) (lowered.point n) (lowered.point (suc n)) h.0.1 h.1.0 h.1.1.0.1
  command_up x y j n m (Second a b o) k e h = second_up (lowered.point (suc n)) (V.point a.0) (V.point b.0) (V.point o.0) (lowered.point n) h.0 h.1.0.1
  command_up x y j n m (Cc o p a) k e h = cc_up (lowered.point (suc n)) (V.point o.0) (V.point p.0) (V.point a.0) (lowered.point n) h.0 h.1.0.1
  command_up x y j n m (Inverse p o a) k e h = inverse_up (lowered.point n) (V.point p.0) (V.point o.0) (V.point a.0) ((different-is (V.point o.0) (V.point p.0)).1 h.0.0.2) h.0.1
  command_up x y j n m (Weights a b c r q) k e h =
      weighted_read (tree_of s.nodes r) (tree_of s.nodes q) (V.point a.0) (V.point b.0) (V.point c.0) (lowered.point (further n (weights_points version - 1)))
      (weights_met version lowered n (l.point a.0) (l.point b.0) (l.point c.0) (renamed l (tree_of s.nodes r)) (renamed l (tree_of s.nodes q)) h)
  command_up x y j n m (AssumeDifferent a b) k e h = tt
  command_up x y j n m (AssumeNotCollinear a b c) k e h = tt
  command_up x y j n m (AssumeNotParallel a b c d) k e h = tt

  -- so are all commands, one after another
  pub commands_up : (cs : List Command) (x q j n m : ℕ) → AreNamed s.nodes x q j cs → AreLaid version l x q j n m cs → AreDrawn V (lines_of V s.commands) j cs
      → AllStand version l s.nodes V lowered (lines_of V s.commands) j → AreFormsMet lowered n (steps_from version l s.nodes n m cs) → AreCommandsMet s V x m cs
  commands_up [] x q j n m k d r w h = tt
  commands_up (c ∷ cs) x q j n m k d r w h =
      let steps = command_steps version l s.nodes n m c in
      let rest = steps_from version l s.nodes (next_point version n c) (next_number m c) cs in
      let first = met_front lowered n steps rest h in (
        met_at s V (lowered.point (further n (hidden version c))) (V.point x) (lowered.number m) c (λ e. ap (λ i. lowered.point i) (sym (d.0.point e)))
            (command_up x q j n m c k.0 w first),
        commands_up cs _ _ _ (next_point version n c) (next_number m c) k.1 d.1 r.1
            (stands_next version l s.nodes V lowered (lines_of V s.commands) x q j n m c (λ a b. self_point _) w k.0 d.0 r.0 first)
            (subst (λ i. AreFormsMet lowered i rest) (past_steps version l s.nodes n m c) (met_back lowered n steps rest h)),
      )

-- a lowered placement that meets the steps extends a placement that meets the commands
pub up : (version : Version) (s : Source) (lowered : Placement) → IsWellFormed s → AreFormsMet lowered 0 (steps_of version s) → MeetsCommands s (forgotten version s lowered)
up version s lowered w h =
    commands_up version s lowered s.commands 0 0 0 0 0 (named_program s w) (laid_program version s.commands) (drawn_program s (forgotten version s lowered) w) (λ i b. absurd (omega arith)) h

pub forgotten-extends : (version : Version) (s : Source) (lowered : Placement) → Extends version s (forgotten version s lowered) lowered
forgotten-extends version s lowered = record { points = λ a b. refl; numbers = λ k b. refl }
