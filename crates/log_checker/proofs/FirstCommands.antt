-- A placement that meets the first commands and their conditions is lowered up to the points of these.
use Rattle.std.proofs.Common.{◌≡◌, ℕ, ◌≤◌, List, [], ◌∷◌, ◌++◌, sym, ◌∙◌, ap, subst, arith}
use Rattle.ring_laws.proofs.Fractions.{fractions}
use Rattle.geo_points.specs.Placements.{Placement}
use Rattle.geo_terms.specs.TermBounds.{IsTermBelow}
use Rattle.geo_program.specs.declared.commands.Command.{Command}
use Rattle.geo_program.specs.WellFormed.{Source, IsWellFormed}
use Rattle.geo_lowering.specs.CommandsMet.{AreCommandsMet, lines_of}
use Rattle.geo_lowering.specs.Conditions.{AreConditionsMet, Condition, IsConditionMet}
use Rattle.geo_lowering.specs.Counting.{next_point, next_number, numbers_from, points_from, points_past}
use Rattle.geo_lowering.specs.Lines.{DrawnLine}
use Rattle.geo_lowering.specs.Lowering.{IsLowered, LoweredForm, command_steps, layout_of, steps_from}
use Rattle.geo_lowering.specs.StepForms.{AreFormsMet}
use Rattle.geo_lowering.specs.declared.version.Version.{Version}
use Rattle.geo_lowering.proofs.Bounds.{no_bounds, numbers_from-up, past_steps}
use Rattle.geo_lowering.proofs.Down.{down}
use Rattle.geo_lowering.proofs.Exists.{params_past, lines_past}
use Rattle.geo_lowering.proofs.Fixed.{bounds_all}
use Rattle.geo_lowering.proofs.FormLaws.{met_front, met_back}
use Rattle.geo_lowering.proofs.Laying.{AreNamed, AreLaid, AreDrawn, named_program, laid_program, drawn_program}
use Rattle.geo_lowering.proofs.Puts.{of_path}
use Rattle.geo_lowering.proofs.Up.{AllStand, AllSame, stands_next}
use Rattle.geo_conditions.specs.Terms.{HasNonzeroValue, condition_term}
use Rattle.geo_conditions.proofs.Agreement.{Agrees, IsConditionOver, condition_is}
use Rattle.geo_conditions.proofs.ConditionScopes.{points-up}
use Rattle.geo_logs.specs.Placements.{MeetsStepsBelow}
use Rattle.log_checker.proofs.Made.{first_met, laid_front}
use Rattle.log_checker.proofs.Names.{condition_below}
use Rattle.log_checker.proofs.Prefixes.{named_front, numbers_split}

-- the first commands draw the first lines
drawn_front : (placed : Placement) (lines : List DrawnLine) (bs cs : List Command) (j : ℕ) → AreDrawn placed lines j (bs ++ cs) → AreDrawn placed lines j bs
drawn_front placed lines [] cs j h = tt
drawn_front placed lines (b ∷ bs) cs j h = (h.0, drawn_front placed lines bs cs _ h.1)

-- all lines stand on their pairs
stands_first : (version : Version) (s : Source) (V L : Placement) (cs : List Command) (x y j n m : ℕ)
    → AllSame version (layout_of version s.commands) s.nodes V L (lines_of V s.commands) (points_from x cs)
    → AreNamed s.nodes x y j cs → AreLaid version (layout_of version s.commands) x y j n m cs → AreDrawn V (lines_of V s.commands) j cs
    → AllStand version (layout_of version s.commands) s.nodes V L (lines_of V s.commands) j → AreFormsMet L n (steps_from version (layout_of version s.commands) s.nodes n m cs)
    → AllStand version (layout_of version s.commands) s.nodes V L (lines_of V s.commands) (lines_past j cs)
stands_first version s V L [] x y j n m g k d r w h = w
stands_first version s V L (c ∷ cs) x y j n m g k d r w h =
    let l = layout_of version s.commands in
    let steps = command_steps version l s.nodes n m c in
    let rest = steps_from version l s.nodes (next_point version n c) (next_number m c) cs in
    let u : x ≤ points_from x (c ∷ cs) = points-up x (c ∷ cs) in
    stands_first version s V L cs _ _ _ (next_point version n c) (next_number m c) g k.1 d.1 r.1
    (stands_next version l s.nodes V L (lines_of V s.commands) x y j n m c (λ a b. g a (omega arith)) w k.0 d.0 r.0 (met_front L n steps rest h))
    (subst (λ i. AreFormsMet L i rest) (past_steps version l s.nodes n m c) (met_back L n steps rest h))

module _ (version : Version) (p : Source) (w : IsWellFormed p) (l : LoweredForm) (i : IsLowered version p l) (first rest : List Command) (e : p.commands ≡ first ++ rest) where
  abbrev X : ℕ
  X = points_from 0 first

  abbrev Y : ℕ
  Y = params_past 0 first

  abbrev J : ℕ
  J = lines_past 0 first

  named_first : AreNamed p.nodes 0 0 0 first
  named_first = named_front p.nodes first rest 0 0 0 (subst (λ bs. AreNamed p.nodes 0 0 0 bs) e (named_program p w))

  laid_first : AreLaid version (layout_of version p.commands) 0 0 0 0 0 first
  laid_first = laid_front version (layout_of version p.commands) first rest 0 0 0 0 0 (subst (λ bs. AreLaid version (layout_of version p.commands) 0 0 0 0 0 bs) e (laid_program version p.commands))

  few : numbers_from 0 first ≤ l.construction.params
  few =
      subst (λ k. numbers_from 0 first ≤ k) (sym (i.numbers ∙ ap (λ cs. numbers_from 0 cs) e ∙ numbers_split first rest 0))
      (numbers_from-up (numbers_from 0 first) rest)

  -- a condition over what they name has a term over their points
  pub first_below : (c : Condition) → IsConditionOver X Y J c → IsTermBelow (points_past version 0 first) l.construction.params (condition_term (layout_of version p.commands) c)
  first_below c o =
      condition_below (layout_of version p.commands) X Y J (points_past version 0 first) (numbers_from 0 first) l.construction.params
      (bounds_all version p first 0 0 0 0 0 (no_bounds (layout_of version p.commands)) named_first laid_first) few c o

  module _ (V : Placement) (met : AreCommandsMet p V 0 0 first) (conditions : AreConditionsMet p V 0 first) where
    -- the lowered placement meets the steps of their points, and the term of a condition that holds is not 0 in it
    pub record IsFirstLowered : Type 0 where
      pub lowered : Placement
      pub steps : MeetsStepsBelow lowered l.construction (points_past version 0 first)
      pub nonzero : (c : Condition) → IsConditionOver X Y J c → IsConditionMet p V c → HasNonzeroValue lowered (condition_term (layout_of version p.commands) c)

    pub first_lowered : IsFirstLowered
    first_lowered =
        let drawn = drawn_front V (lines_of V p.commands) first rest 0 (subst (λ bs. AreDrawn V (lines_of V p.commands) 0 bs) e (drawn_program p V w)) in
        let d = down version p V first 0 0 0 0 0 V.point named_first laid_first drawn (no_bounds (layout_of version p.commands))
        (λ a b. absurd (omega arith)) (λ a b. absurd (omega arith)) met conditions in
        let L : Placement = record { point = d.made; number = V.number } in
        let same : AllSame version (layout_of version p.commands) p.nodes V L (lines_of V p.commands) X = λ a b. of_path (sym (d.same a b)) in
        let agrees : Agrees version p V L X Y J = record {
          points = same;
          numbers = λ t b. fractions.same_refl _;
          lines = stands_first version p V L first 0 0 0 0 0 same named_first laid_first drawn (λ a b. absurd (omega arith)) d.met;
        } in
        record {
          lowered = L;
          steps = first_met version p l i first rest e L d.met;
          nonzero = λ c o h. (condition_is version p V L X Y J agrees c o).0 h;
        }
