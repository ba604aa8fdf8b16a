-- A lowered placement that meets all steps agrees with the one that it extends.
use Rattle.std.proofs.Common.{ℕ, suc, ◌≤◌, List, [], ◌∷◌, length, sym, subst, arith}
use Rattle.std.specs.List.{AllByRecursion}
use Rattle.std.proofs.lemmas.List.Elements.{All-from_recursion}
use Rattle.ring_laws.specs.Fraction.{Same}
use Rattle.geo_points.specs.Placements.{Placement}
use Rattle.ring_laws.proofs.Fractions.{fractions}
use Rattle.geo_program.specs.declared.commands.Command.{Command}
use Rattle.geo_program.specs.declared.names.NameKind.TheVariants as kind
use Rattle.geo_program.specs.WellFormed.{Source, IsWellFormed}
use Rattle.geo_lowering.specs.declared.version.Version.{Version}
use Rattle.geo_lowering.specs.CommandsMet.{lines_of}
use Rattle.geo_lowering.specs.Conditions.{Condition, IsConditionMet, command_conditions, AreConditionsMet}
use Rattle.geo_lowering.specs.Counting.{named, counted, next_point, next_number, points_from}
use Rattle.geo_lowering.specs.Lowering.{layout_of, command_steps, steps_from, steps_of, Extends}
use Rattle.geo_lowering.specs.StepForms.{AreFormsMet}
use Rattle.geo_lowering.proofs.Bounds.{past_steps, no_bounds}
use Rattle.geo_lowering.proofs.ConditionValues.{each_front, each_back}
use Rattle.geo_lowering.proofs.Exists.{params_past, lines_past}
use Rattle.geo_lowering.proofs.Fixed.{bounds_all}
use Rattle.geo_lowering.proofs.FormLaws.{met_front, met_back}
use Rattle.geo_lowering.proofs.Laying.{AreNamed, AreLaid, AreDrawn, named_program, laid_program, drawn_program}
use Rattle.geo_lowering.proofs.Puts.{of_path}
use Rattle.geo_lowering.proofs.Up.{AllStand, AllSame, stands_next}
use Rattle.geo_conditions.proofs.Agreement.{Agrees}
use Rattle.geo_conditions.proofs.ConditionScopes.{points-up}
use Rattle.geo_conditions.specs.Lists.{Found, found_at, found_from, all_found}
use Rattle.geo_conditions.specs.Statements.{statement_conditions}

-- all lines stand on their pairs
stands_all : (version : Version) (s : Source) (V L : Placement) (cs : List Command) (x y j n m : ℕ)
    → AllSame version (layout_of version s.commands) s.nodes V L (lines_of V s.commands) (points_from x cs)
    → AreNamed s.nodes x y j cs → AreLaid version (layout_of version s.commands) x y j n m cs → AreDrawn V (lines_of V s.commands) j cs
    → AllStand version (layout_of version s.commands) s.nodes V L (lines_of V s.commands) j → AreFormsMet L n (steps_from version (layout_of version s.commands) s.nodes n m cs)
    → AllStand version (layout_of version s.commands) s.nodes V L (lines_of V s.commands) (lines_past j cs)
stands_all version s V L [] x y j n m g k d r w h = w
stands_all version s V L (c ∷ cs) x y j n m g k d r w h =
    let l = layout_of version s.commands in
    let steps = command_steps version l s.nodes n m c in
    let rest = steps_from version l s.nodes (next_point version n c) (next_number m c) cs in
    let u : x ≤ points_from x (c ∷ cs) = points-up x (c ∷ cs) in
    stands_all version s V L cs _ _ _ (next_point version n c) (next_number m c) g k.1 d.1 r.1
    (stands_next version l s.nodes V L (lines_of V s.commands) x y j n m c (λ a b. g a (omega arith)) w k.0 d.0 r.0 (met_front L n steps rest h))
    (subst (λ i. AreFormsMet L i rest) (past_steps version l s.nodes n m c) (met_back L n steps rest h))

pub extension_agrees : (version : Version) (s : Source) (V L : Placement) → IsWellFormed s → Extends version s V L → AreFormsMet L 0 (steps_of version s)
    → Agrees version s V L (points_from 0 s.commands) (params_past 0 s.commands) (lines_past 0 s.commands)
extension_agrees version s V L w e h =
    let k = named_program s w in let d = laid_program version s.commands in
    let same : AllSame version (layout_of version s.commands) s.nodes V L (lines_of V s.commands) (points_from 0 s.commands) = λ a b. of_path (sym (e.points a b)) in
    let B = bounds_all version s s.commands 0 0 0 0 0 (no_bounds (layout_of version s.commands)) k d in
    record {
      points = same;
      numbers = λ t b. subst (λ r. Same (V.number ((layout_of version s.commands).param t)) r) (sym (e.numbers ((layout_of version s.commands).param t) (B.params t b))) (fractions.same_refl _);
      lines = stands_all version s V L s.commands 0 0 0 0 0 same k d (drawn_program s V w) (λ i b. absurd (omega arith)) h;
    }

-- CONDITIONS COMMAND BY COMMAND
module _ (s : Source) (V : Placement) where
  abbrev pub Met : List Found → Type 0
  Met fs = AllByRecursion (λ f. IsConditionMet s V f.condition) fs

  pub at_line : (line : ℕ) (cs : List Condition) → AllByRecursion (IsConditionMet s V) cs → Met (found_at line cs)
  at_line line [] h = tt
  at_line line (c ∷ cs) h = (h.0, at_line line cs h.1)

  pub of_line : (line : ℕ) (cs : List Condition) → Met (found_at line cs) → AllByRecursion (IsConditionMet s V) cs
  of_line line [] h = tt
  of_line line (c ∷ cs) h = (h.0, of_line line cs h.1)

  pub met_commands : (cs : List Command) (x line : ℕ) → Met (found_from s.nodes x line cs) → AreConditionsMet s V x cs
  met_commands [] x line h = tt
  met_commands (c ∷ cs) x line h =
      let here = found_at line (command_conditions s.nodes (record { 0 = x }) c) in
      let rest = found_from s.nodes (counted kind.Point (named c) x) (suc line) cs in (
        All-from_recursion (IsConditionMet s V) (command_conditions s.nodes (record { 0 = x }) c)
            (of_line line (command_conditions s.nodes (record { 0 = x }) c) (each_front (λ f. IsConditionMet s V f.condition) here rest h)),
        met_commands cs _ (suc line) (each_back (λ f. IsConditionMet s V f.condition) here rest h),
      )

  pub met_program : Met (all_found s) → AreConditionsMet s V 0 s.commands
  met_program h =
      met_commands s.commands 0 1 (each_front (λ f. IsConditionMet s V f.condition) (found_from s.nodes 0 1 s.commands)
      (found_at (suc (length s.commands)) (statement_conditions s.nodes s.statement)) h)
