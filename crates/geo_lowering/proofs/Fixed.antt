-- Two placements that meet a program and share its free points and its numbers are the same.
use Rattle.std.proofs.Common.{◌≡◌, ℕ, suc, ◌<◌, ◌≤◌, List, [], ◌∷◌, ◌++◌, refl, sym, ◌∙◌, ap, subst, arith, Option, Some, None}
use Rattle.ring_laws.specs.Fraction.{Fraction, Same}
use Rattle.geo_points.specs.Placements.{Placement, SamePoint, SamePlacement}
use Rattle.geo_program.specs.declared.commands.Command.{Command}
use Rattle.geo_program.specs.declared.commands.Command.TheVariants.{Point, Param, Line, Parallel, Perp, Med, Intersec, Inter, Foot, Pratio}
use Rattle.geo_program.specs.declared.commands.Command.TheVariants.{Tratio, Online, Lratio, Midpoint, Translate, Symmetric, Reflect}
use Rattle.geo_program.specs.declared.commands.Command.TheVariants.{Circumcenter, Orthocenter, Centroid, Oncircle, Second, Cc, Inverse}
use Rattle.geo_program.specs.declared.commands.Command.TheVariants.{Weights, AssumeDifferent, AssumeNotCollinear, AssumeNotParallel}
use Rattle.geo_program.specs.declared.names.NameKind.{NameKind}
use Rattle.geo_program.specs.declared.names.NameKind.TheVariants as kind
use Rattle.geo_program.specs.WellFormed.{IsWellFormed, Source}
use Rattle.geo_terms.specs.Trees.{Tree}
use Rattle.geo_lowering.specs.declared.version.Version.{Version}
use Rattle.geo_lowering.specs.declared.version.Version.TheVariants.{One, Two}
use Rattle.geo_lowering.specs.Counting.{points_past, named, hidden, further, counted, next_point, next_number, numbers_from, numbers_had, points_from, points_named}
use Rattle.geo_lowering.specs.CommandsMet.{MeetsCommands}
use Rattle.geo_lowering.specs.Lowering.{Layout, layout_of, point_place, command_steps, steps_from, steps_of, weights_steps}
use Rattle.geo_lowering.specs.StepForms.{StepForm}
use Rattle.geo_lowering.proofs.FormLaws.{past, FreesAgree, forms_unique, past-append}
use Rattle.geo_lowering.proofs.Laying.{AreNamed, AreLaid, named_program, laid_program}
use Rattle.geo_lowering.proofs.Bounds.{Bounds, bounds_next, no_bounds, past_steps, program_over}
use Rattle.geo_lowering.specs.Building.{AreFreesSame}
use Rattle.geo_lowering.specs.Conditions.{AreConditionsMet}
use Rattle.geo_lowering.proofs.Down.{extension}
use Rattle.geo_lowering.proofs.Exists.{params_past, lines_past}
use Rattle.geo_lowering.proofs.Puts.{of_path}
use Rattle.geo_points.proofs.Same.{point_trans}

pub frees_append : (p q : Placement) (n : ℕ) (fs gs : List StepForm) → FreesAgree p q n fs → FreesAgree p q (past n fs) gs → FreesAgree p q n (fs ++ gs)
frees_append p q n [] gs h k = k
frees_append p q n (f ∷ fs) gs h k = (h.0, frees_append p q (suc n) fs gs h.1 k)

module _ (version : Version) (s : Source) where
  abbrev l : Layout
  l = layout_of version s.commands

  -- the number past the steps is that past the points
  pub past_all : (cs : List Command) (n m : ℕ) → past n (steps_from version l s.nodes n m cs) ≡ points_past version n cs
  past_all [] n m = refl
  past_all (c ∷ cs) n m =
      past-append n (command_steps version l s.nodes n m c) (steps_from version l s.nodes (next_point version n c) (next_number m c) cs)
      ∙ ap (λ i. past i (steps_from version l s.nodes (next_point version n c) (next_number m c) cs)) (past_steps version l s.nodes n m c)
      ∙ past_all cs (next_point version n c) (next_number m c)

  -- each name of the program stands among its points
  pub bounds_all : (cs : List Command) (x y j n m : ℕ) → Bounds l x y j n m → AreNamed s.nodes x y j cs → AreLaid version l x y j n m cs
      → Bounds l (points_from x cs) (params_past y cs) (lines_past j cs) (points_past version n cs) (numbers_from m cs)
  bounds_all [] x y j n m B k d = B
  bounds_all (c ∷ cs) x y j n m B k d = bounds_all cs _ _ _ (next_point version n c) (next_number m c) (bounds_next version l s.nodes x y j n m c B k.0 d.0) k.1 d.1

  module _ (p q : Placement) where
    weights_frees : (v : Version) (n a b c : ℕ) (e f : Tree) → FreesAgree p q n (weights_steps v n a b c e f)
    weights_frees One n a b c e f = (λ h. cc, (λ h. cc, tt))
    weights_frees Two n a b c e f = (λ h. cc, tt)

    -- of the steps of a command only that of `point` leaves its point free
    pub command_frees : (n m : ℕ) (c : Command) → (c ≡ Point → SamePoint (p.point n) (q.point n)) → FreesAgree p q n (command_steps version l s.nodes n m c)
    command_frees n m Point f = (λ e. f refl, tt)
    command_frees n m Param f = tt
    command_frees n m (Line a b) f = tt
    command_frees n m (Parallel p b) f = (λ e. cc, tt)
    command_frees n m (Perp p b) f = (λ e. cc, (λ e. cc, tt))
    command_frees n m (Med a b) f = (λ e. cc, (λ e. cc, tt))
    command_frees n m (Intersec a b) f = (λ e. cc, tt)
    command_frees n m (Inter a b c d) f = (λ e. cc, tt)
    command_frees n m (Foot p a b) f = (λ e. cc, tt)
    command_frees n m (Pratio w u v r) f = (λ e. cc, tt)
    command_frees n m (Tratio u v r) f = (λ e. cc, tt)
    command_frees n m (Online a b) f = (λ e. cc, tt)
    command_frees n m (Lratio a b r) f = (λ e. cc, tt)
    command_frees n m (Midpoint a b) f = (λ e. cc, tt)
    command_frees n m (Translate a b c) f = (λ e. cc, tt)
    command_frees n m (Symmetric a o) f = (λ e. cc, tt)
    command_frees n m (Reflect a p q) f = (λ e. cc, (λ e. cc, tt))
    command_frees n m (Circumcenter a b c) f = (λ e. cc, (λ e. cc, (λ e. cc, (λ e. cc, (λ e. cc, tt)))))
    command_frees n m (Orthocenter a b c) f = (λ e. cc, (λ e. cc, (λ e. cc, tt)))
    command_frees n m (Centroid a b c) f = (λ e. cc, (λ e. cc, tt))
    command_frees n m (Oncircle o a) f = (λ e. cc, (λ e. cc, (λ e. cc, tt)))
    command_frees n m (Second a b o) f = (λ e. cc, (λ e. cc, tt))
    command_frees n m (Cc o p a) f = (λ e. cc, (λ e. cc, tt))
    command_frees n m (Inverse p o a) f = (λ e. cc, tt)
    command_frees n m (Weights a b c r q') f = weights_frees version n (l.point a.0) (l.point b.0) (l.point c.0) _ _
    command_frees n m (AssumeDifferent a b) f = tt
    command_frees n m (AssumeNotCollinear a b c) f = tt
    command_frees n m (AssumeNotParallel a b c d) f = tt

    pub frees : (V V' : Placement) (cs : List Command) (x y j n m : ℕ) → AreLaid version l x y j n m cs → AreFreesSame V V' x cs
        → ((a : ℕ) → a < points_from x cs → p.point (l.point a) ≡ V.point a) → ((a : ℕ) → a < points_from x cs → q.point (l.point a) ≡ V'.point a)
        → FreesAgree p q n (steps_from version l s.nodes n m cs)
    frees V V' [] x y j n m d f g h = tt
    frees V V' (c ∷ cs) x y j n m d f g h =
        frees_append p q n (command_steps version l s.nodes n m c) (steps_from version l s.nodes (next_point version n c) (next_number m c) cs)
        (command_frees n m c
        (λ e. let here : l.point x ≡ n = d.0.point (ap named e) ∙ ap (λ i. further n (hidden version i)) e in
        let first : x < points_from x (c ∷ cs) = free_below x c cs e in
        subst (λ i. SamePoint (p.point i) (q.point i)) here (point_trans _ _ _ (of_path (g x first)) (point_trans _ _ _ (f.0 e) (of_path (sym (h x first)))))))
        (subst (λ i. FreesAgree p q i (steps_from version l s.nodes (next_point version n c) (next_number m c) cs)) (sym (past_steps version l s.nodes n m c))
        (frees V V' cs _ _ _ (next_point version n c) (next_number m c) d.1 f.1 g h))
      where
        points_up : (x : ℕ) (cs : List Command) → x ≤ points_from x cs
        points_up x [] = omega arith
        points_up x (c ∷ cs) = let u : counted kind.Point (named c) x ≤ points_from (counted kind.Point (named c) x) cs = points_up (counted kind.Point (named c) x) cs in
            let v : x ≤ counted kind.Point (named c) x = at_least x (named c) in omega arith
          where
            at_least : (x : ℕ) (k : Option NameKind) → x ≤ counted kind.Point k x
            at_least x (Some kind.Point) = omega arith
            at_least x (Some kind.Param) = omega arith
            at_least x (Some kind.Line) = omega arith
            at_least x None = omega arith

        free_below : (x : ℕ) (c : Command) (cs : List Command) → c ≡ Point → x < points_from x (c ∷ cs)
        free_below x c cs e = subst (λ d. x < points_from x (d ∷ cs)) (sym e) (let u : suc x ≤ points_from (suc x) cs = points_up (suc x) cs in omega arith)

-- the placement of a program is fixed by its free points and its numbers
pub fixed : (s : Source) (V V' : Placement) → IsWellFormed s → MeetsCommands s V → AreConditionsMet s V 0 s.commands → MeetsCommands s V' → AreConditionsMet s V' 0 s.commands
    → AreFreesSame V V' 0 s.commands → ((k : ℕ) → k < numbers_had s.commands → Same (V.number k) (V'.number k))
    → SamePlacement (points_named s.commands) (numbers_had s.commands) V V'
fixed s V V' w h z h' z' f g =
    let d = extension Two s V w h z in
    let d' = extension Two s V' w h' z' in
    let laid = laid_program Two s.commands in
    let names = named_program s w in
    let B = bounds_all Two s s.commands 0 0 0 0 0 (no_bounds (layout_of Two s.commands)) names laid in
    let same = forms_unique 0 (numbers_had s.commands) d.0 d'.0 (steps_of Two s)
    (record { points = λ k b. absurd (omega arith); numbers = λ k b. moved (sym (d.1.numbers k b)) (sym (d'.1.numbers k b)) (g k b) })
    (program_over Two s w) (frees Two s d.0 d'.0 V V' s.commands 0 0 0 0 0 laid f d.1.points d'.1.points) d.2 d'.2 in
    let e = past_all Two s s.commands 0 0 in
    record {
      same_points = λ a b. let low : point_place Two s.commands a < points_past Two 0 s.commands = B.points a b in
          point_trans _ _ _ (of_path (sym (d.1.points a b))) (point_trans _ _ _ (same.points (point_place Two s.commands a) (omega arith)) (of_path (d'.1.points a b)));
      same_numbers = g;
    }
  where
    moved : {a b c d : Fraction} → a ≡ b → c ≡ d → Same a c → Same b d
    moved {a} {b} {c} {d} h k z = subst (λ r. Same b r) k (subst (λ r. Same r c) h z)
