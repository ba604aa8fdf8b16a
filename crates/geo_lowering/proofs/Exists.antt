-- A lowered placement is made command by command, where the conditions that do not name a new point hold in all that are made so far.
use Rattle.std.proofs.Common.{◌≡◌, ℕ, suc, ◌≤◌, List, [], ◌∷◌, ◌++◌, sym, ◌∙◌, subst, arith, append-nil, All}
use Rattle.geo_points.specs.Placements.{Placement, SamePoint}
use Rattle.geo_points.specs.Points.{Point as Triple}
use Rattle.ring_laws.proofs.Fractions.{fractions}
use Rattle.geo_program.specs.declared.commands.Command.{Command}
use Rattle.geo_program.specs.declared.commands.Command.TheVariants.{Point}
use Rattle.geo_program.specs.declared.names.NameKind.TheVariants as kind
use Rattle.geo_program.specs.WellFormed.{IsWellFormed, Source}
use Rattle.geo_lowering.specs.declared.version.Version.{Version}
use Rattle.geo_lowering.specs.Counting.{points_past, named, counted, next_point, next_number, numbers_from, points_from}
use Rattle.geo_lowering.specs.CommandsMet.{lines_of}
use Rattle.geo_lowering.specs.Lowering.{Layout, layout_of, command_steps, steps_from}
use Rattle.geo_lowering.specs.StepForms.{AreFormsMet}
use Rattle.geo_lowering.proofs.FormLaws.{met_append, forms-same}
use Rattle.geo_lowering.proofs.Laying.{IsNamed, AreNamed, AreLaid, AreDrawn, named_program, laid_program, drawn_program}
use Rattle.geo_lowering.proofs.Bounds.{Bounds, bounds_next, no_bounds, past_steps, next_point-up, numbers_from-up, command_over}
use Rattle.std.proofs.lemmas.List.{append_assoc}
use Rattle.std.proofs.lemmas.List.Elements.{recursion_from_All}
use Rattle.geo_lowering.specs.Building.{forgotten, AreMade}
use Rattle.geo_lowering.specs.Conditions.{IsConditionMet, early_conditions}
use Rattle.geo_lowering.proofs.CommandPoints.{command_built}
use Rattle.geo_lowering.proofs.Puts.{puts, puts_below, of_path}
use Rattle.geo_points.proofs.Same.{self_point, flip_point, point_trans}
use Rattle.geo_lowering.proofs.Up.{AllStand, stands_next}
use Rattle.geo_lowering.proofs.Values.{AgreeBelow}

pub points_past-up : (version : Version) (n : ℕ) (cs : List Command) → n ≤ points_past version n cs
points_past-up version n [] = omega arith
points_past-up version n (c ∷ cs) =
    let h : n ≤ next_point version n c = next_point-up version n c in
    let k : next_point version n c ≤ points_past version (next_point version n c) cs = points_past-up version
    (next_point version n c) cs in omega arith

-- the number after the parameters, and after the lines
abbrev pub params_past : ℕ → List Command → ℕ
params_past y [] = y
params_past y (c ∷ cs) = params_past (counted kind.Param (named c) y) cs

abbrev pub lines_past : ℕ → List Command → ℕ
lines_past j [] = j
lines_past j (c ∷ cs) = lines_past (counted kind.Line (named c) j) cs

module _ (version : Version) (s : Source) (given : Placement) where
  abbrev l : Layout
  l = layout_of version s.commands

  -- what is known of the command behind others
  pub record Behind (x y j n m : ℕ) (bs : List Command) (c : Command) : Type 0 where
    pub bounds : Bounds l (points_from x bs) (params_past y bs) (lines_past j bs) (points_past version n bs) (numbers_from m bs)
    pub names : IsNamed s.nodes (points_from x bs) (params_past y bs) (lines_past j bs) c

  pub behind : (bs cs : List Command) (c : Command) (x y j n m : ℕ) → Bounds l x y j n m → AreNamed s.nodes x y j (bs ++ c ∷ cs) → AreLaid version l x y j n m (bs ++ c ∷ cs) → Behind x y j n m bs c
  behind [] cs c x y j n m B k d = record { bounds = B; names = k.0 }
  behind (b ∷ bs) cs c x y j n m B k d =
      let h = behind bs cs c _ _ _ (next_point version n b) (next_number m b) (bounds_next version l s.nodes x y j n m b B k.0 d.0) k.1 d.1 in record { bounds = h.bounds; names = h.names }

  -- lines stand behind commands whose steps are met
  pub stands_behind : (lowered : Placement) (bs cs : List Command) (x y j n m : ℕ) → AreNamed s.nodes x y j (bs ++ cs) → AreLaid version l x y j n m (bs ++ cs)
      → AreDrawn (forgotten version s lowered) (lines_of (forgotten version s lowered) s.commands) j (bs ++ cs)
      → AllStand version l s.nodes (forgotten version s lowered) lowered (lines_of (forgotten version s lowered) s.commands) j → AreMade version s given lowered x n m bs
      → AllStand version l s.nodes (forgotten version s lowered) lowered (lines_of (forgotten version s lowered) s.commands) (lines_past j bs)
  stands_behind lowered [] cs x y j n m k d r w h = w
  stands_behind lowered (b ∷ bs) cs x y j n m k d r w h =
      stands_behind lowered bs cs _ _ _ (next_point version n b) (next_number m b) k.1 d.1 r.1
      (stands_next version l s.nodes (forgotten version s lowered) lowered (lines_of (forgotten version s lowered) s.commands) x y j n m b (λ a i. self_point _) w k.0 d.0 r.0 h.0) h.2

  free_next : (n : ℕ) (c : Command) → c ≡ Point → suc n ≤ next_point version n c
  free_next n c e = subst (λ d. suc n ≤ next_point version n d) (sym e) (let h : suc n ≤ suc n = omega arith in h)

  -- what is made stays made at the same points
  made-same : (p q : Placement) (bs cs : List Command) (x y j n m : ℕ) → Bounds l x y j n m → AreNamed s.nodes x y j (bs ++ cs) → AreLaid version l x y j n m (bs ++ cs)
      → AgreeBelow (points_past version n bs) (numbers_from m bs) p q → AreMade version s given p x n m bs → AreMade version s given q x n m bs
  made-same p q [] cs x y j n m B k d g h = tt
  made-same p q (b ∷ bs) cs x y j n m B k d g h =
      let up : next_point version n b ≤ points_past version (next_point version n b) bs = points_past-up version (next_point version n b) bs in
      let nu : next_number m b ≤ numbers_from (next_number m b) bs = numbers_from-up (next_number m b) bs in
      let steps = command_steps version l s.nodes n m b in
      let e = past_steps version l s.nodes n m b in (
        forms-same n (next_number m b) p q steps (record { points = λ i c. g.points i (omega arith); numbers = λ i c. g.numbers i (omega arith) })
            (command_over version l s.nodes x y j n m (next_number m b) b B (omega arith) k.0) h.0,
        λ i. let f : suc n ≤ next_point version n b = free_next n b i in point_trans _ _ _ (flip_point _ _ (g.points n (omega arith))) (h.1 i),
        made-same p q bs cs _ _ _ (next_point version n b) (next_number m b) (bounds_next version l s.nodes x y j n m b B k.0 d.0) k.1 d.1 g h.2,
      )

  -- one command more
  made_snoc : (p : Placement) (bs : List Command) (c : Command) (x n m : ℕ) → AreMade version s given p x n m bs
      → AreFormsMet p (points_past version n bs) (command_steps version l s.nodes (points_past version n bs) (numbers_from m bs) c)
      → (c ≡ Point → SamePoint (p.point (points_past version n bs)) (given.point (points_from x bs))) → AreMade version s given p x n m (bs ++ c ∷ [])
  made_snoc p [] c x n m h k f = (k, f, tt)
  made_snoc p (b ∷ bs) c x n m h k f = (h.0, h.1, made_snoc p bs c _ (next_point version n b) (next_number m b) h.2 k f)

  abbrev with_points : (ℕ → Triple) → Placement
  with_points at = record { point = at; number = given.number }

  -- the conditions of each command that do not name its point hold in all that is made before it
  abbrev pub IsReady : Type 0
  IsReady = (before rest : List Command) (c : Command) → s.commands ≡ before ++ c ∷ rest → (at : ℕ → Triple) → AreMade version s given (with_points at) 0 0 0 before
      → All (IsConditionMet s (forgotten version s (with_points at))) (early_conditions s.nodes c)

  pub exists : IsWellFormed s → IsReady → (cs before : List Command) (at : ℕ → Triple) → s.commands ≡ before ++ cs → AreMade version s given (with_points at) 0 0 0 before
      → (made : ℕ → Triple) × AreMade version s given (with_points made) 0 0 0 s.commands
  exists w ready [] before at e h = (at, subst (λ bs. AreMade version s given (with_points at) 0 0 0 bs) (sym (e ∙ append-nil before)) h)
  exists w ready (c ∷ cs) before at e h =
      let V = forgotten version s (with_points at) in
      let k = subst (λ bs. AreNamed s.nodes 0 0 0 bs) e (named_program s w) in
      let d = subst (λ bs. AreLaid version l 0 0 0 0 0 bs) e (laid_program version s.commands) in
      let r = subst (λ bs. AreDrawn V (lines_of V s.commands) 0 bs) e (drawn_program s V w) in
      let f = behind before cs c 0 0 0 0 0 (no_bounds l) k d in
      let st = stands_behind (with_points at) before (c ∷ cs) 0 0 0 0 0 k d r (λ i b. absurd (omega arith)) h in
      let n = points_past version 0 before in
      let built = command_built version s V at (points_from 0 before) (params_past 0 before) (lines_past 0 before) n (numbers_from 0 before) f.bounds (λ a b. self_point _) st c
      (given.point (points_from 0 before)) f.names (recursion_from_All (IsConditionMet s V) (early_conditions s.nodes c) (ready before cs c e at h)) in
      let at' = puts at n built.points in
      let kept = made-same (with_points at) (with_points at') before (c ∷ cs) 0 0 0 0 0 (no_bounds l) k d
      (record { points = λ i b. of_path (sym (puts_below at n built.points i b)); numbers = λ i b. fractions.same_refl _ }) h in
      exists w ready cs (before ++ c ∷ []) at' (e ∙ sym (append_assoc before (c ∷ []) cs)) (made_snoc (with_points at') before c 0 0 0 kept built.met (λ i. of_path (built.free i)))

  -- what is made meets all steps, and has the given free points
  pub made_met : (p : Placement) (cs : List Command) (x n m : ℕ) → AreMade version s given p x n m cs → AreFormsMet p n (steps_from version l s.nodes n m cs)
  made_met p [] x n m h = tt
  made_met p (c ∷ cs) x n m h =
      met_append p n (command_steps version l s.nodes n m c) (steps_from version l s.nodes (next_point version n c) (next_number m c) cs) h.0
      (subst (λ i. AreFormsMet p i (steps_from version l s.nodes (next_point version n c) (next_number m c) cs)) (sym (past_steps version l s.nodes n m c)) (made_met p cs _ _ _ h.2))
