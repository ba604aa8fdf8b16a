-- Down: a placement that meets the commands and their conditions extends to one that meets the steps.
use Rattle.std.proofs.Common.{◌≡◌, ℕ, ◌<◌, ◌≤◌, ⊎_elim, Option, Some, None, List, [], ◌∷◌, refl, sym, ◌∙◌, ap, subst, arith}
use Rattle.std.proofs.Math.Nat.{eq-or-lt_of_le}
use Rattle.geo_points.specs.Placements.{Placement}
use Rattle.geo_points.specs.Points.{Point as Triple}
use Rattle.ring_laws.proofs.Fractions.{fractions}
use Rattle.geo_program.specs.declared.commands.Command.{Command}
use Rattle.geo_program.specs.declared.names.NameKind.{NameKind}
use Rattle.geo_program.specs.declared.names.NameKind.TheVariants as kind
use Rattle.geo_program.specs.WellFormed.{IsWellFormed, Source}
use Rattle.geo_lowering.specs.declared.version.Version.{Version}
use Rattle.geo_lowering.specs.Counting.{named, counted, next_point, next_number, points_from}
use Rattle.geo_lowering.specs.CommandsMet.{lines_of, AreCommandsMet, MeetsCommands}
use Rattle.geo_lowering.specs.Lines.{DrawnLine}
use Rattle.geo_lowering.specs.Lowering.{Layout, layout_of, command_steps, steps_from, steps_of, Extends}
use Rattle.geo_lowering.specs.StepForms.{AreFormsMet}
use Rattle.geo_lowering.proofs.Laying.{AreNamed, AreLaid, AreDrawn, named_program, laid_program, drawn_program}
use Rattle.geo_lowering.proofs.Bounds.{Bounds, bounds_next, no_bounds, past_steps, next_point-up, command_over}
use Rattle.std.proofs.lemmas.List.Elements.{recursion_from_All}
use Rattle.geo_lowering.specs.Conditions.{IsConditionMet, command_conditions, AreConditionsMet}
use Rattle.geo_lowering.proofs.CommandPoints.{command_down}
use Rattle.geo_lowering.proofs.FormLaws.{forms-same, met_append}
use Rattle.geo_lowering.proofs.Puts.{puts, puts_below, of_path}
use Rattle.geo_lowering.proofs.Up.{AllStand, stands-same, stands_next}

-- what holds below x, and of x where the kind is that of points, holds below what x is counted up to
pub extend : (P : ℕ → Type 0) (x : ℕ) (k : Option NameKind) → ((a : ℕ) → a < x → P a) → (k ≡ Some kind.Point → P x) → (a : ℕ) → a < counted kind.Point k x → P a
extend P x (Some kind.Point) h e a b = ⊎_elim (λ (i : a ≡ x). subst P (sym i) (e refl)) (λ (c : a < x). h a c) (eq-or-lt_of_le (omega arith))
extend P x (Some kind.Param) h e a b = h a b
extend P x (Some kind.Line) h e a b = h a b
extend P x None h e a b = h a b

module _ (version : Version) (s : Source) (V : Placement) where
  abbrev l : Layout
  l = layout_of version s.commands

  abbrev lines : List DrawnLine
  lines = lines_of V s.commands

  -- the numbers are those of V, and the points are these
  abbrev with_points : (ℕ → Triple) → Placement
  with_points at = record { point = at; number = V.number }

  -- the points of the commands are put in after those below n
  pub record Extended (n m : ℕ) (at : ℕ → Triple) (cs : List Command) (x : ℕ) : Type 0 where
    pub made : ℕ → Triple
    pub below : (k : ℕ) → k < n → made k ≡ at k
    pub same : (a : ℕ) → a < points_from x cs → made (l.point a) ≡ V.point a
    pub met : AreFormsMet (with_points made) n (steps_from version l s.nodes n m cs)

  -- lines stand where points are put in behind them
  stands_kept : (at : ℕ → Triple) (x y j n m : ℕ) (As : List Triple) → Bounds l x y j n m
      → AllStand version l s.nodes V (with_points at) lines j → AllStand version l s.nodes V (with_points (puts at n As)) lines j
  stands_kept at x y j n m As B w i b =
      stands-same _ _ _ _ _ (of_path (sym (puts_below at n As _ (B.lines i b).0))) (of_path (sym (puts_below at n As _ (B.lines i b).1))) (w i b)

  pub down : (cs : List Command) (x y j n m : ℕ) (at : ℕ → Triple) → AreNamed s.nodes x y j cs → AreLaid version l x y j n m cs → AreDrawn V lines j cs → Bounds l x y j n m
      → ((a : ℕ) → a < x → at (l.point a) ≡ V.point a) → AllStand version l s.nodes V (with_points at) lines j → AreCommandsMet s V x m cs → AreConditionsMet s V x cs
      → Extended n m at cs x
  down [] x y j n m at k d r B e w h z = record { made = at; below = λ i b. refl; same = e; met = tt }
  down (c ∷ cs) x y j n m at k d r B e w h z =
      let placed = command_down version s V at x y j n m B (λ a b. of_path (sym (e a b))) w c k.0 h.0 (recursion_from_All (IsConditionMet s V) (command_conditions s.nodes (record { 0 = x }) c) z.0) in
      let As = placed.points in
      let steps = command_steps version l s.nodes n m c in
      let u : n ≤ next_point version n c = next_point-up version n c in
      let kept : (a : ℕ) → a < x → puts at n As (l.point a) ≡ V.point a = λ a b. puts_below at n As (l.point a) (B.points a b) ∙ e a b in
      let later = down cs _ _ _ (next_point version n c) (next_number m c) (puts at n As) k.1 d.1 r.1 (bounds_next version l s.nodes x y j n m c B k.0 d.0)
      (extend (λ a. puts at n As (l.point a) ≡ V.point a) x (named c) kept (λ i. ap (puts at n As) (d.0.point i) ∙ placed.new i))
      (stands_next version l s.nodes V (with_points (puts at n As)) lines x y j n m c (λ a b. of_path (sym (kept a b))) (stands_kept at x y j n m As B w) k.0 d.0 r.0 placed.met)
      h.1 z.1 in
      let p = past_steps version l s.nodes n m c in
      record {
        made = later.made;
        below = λ i b. later.below i (omega arith) ∙ puts_below at n As i b;
        same = later.same;
        met = met_append (with_points later.made) n steps (steps_from version l s.nodes (next_point version n c) (next_number m c) cs)
            (forms-same n (next_number m c) (with_points (puts at n As)) (with_points later.made) steps
            (record { points = λ i b. of_path (sym (later.below i (omega arith))); numbers = λ i b. fractions.same_refl _ })
            (command_over version l s.nodes x y j n m (next_number m c) c B (omega arith) k.0) placed.met)
            (subst (λ i. AreFormsMet (with_points later.made) i (steps_from version l s.nodes (next_point version n c) (next_number m c) cs)) (sym p) later.met);
      }

-- the extension of a whole program
pub extension : (version : Version) (s : Source) (V : Placement) → IsWellFormed s → MeetsCommands s V → AreConditionsMet s V 0 s.commands
    → (lowered : Placement) × Extends version s V lowered × AreFormsMet lowered 0 (steps_of version s)
extension version s V w h z =
    let d = down version s V s.commands 0 0 0 0 0 V.point (named_program s w) (laid_program version s.commands) (drawn_program s V w) (no_bounds (layout_of version s.commands))
    (λ a b. absurd (omega arith)) (λ i b. absurd (omega arith)) h z in (
      record { point = d.made; number = V.number },
      record { points = d.same; numbers = λ k b. refl },
      d.met,
    )
