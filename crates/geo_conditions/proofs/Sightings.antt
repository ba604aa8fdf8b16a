-- What programs that are the same have the same: their counts, places, lines, conditions and statements, and what it means to meet them.
use Rattle.std.proofs.Common.{◌≡◌, ℕ, suc, true, false, List, [], ◌∷◌, ◌++◌, fold, length, map, refl, sym, ap, ap₂, ◌∙◌}
use Rattle.std.specs.Prelude.{slice_index_or}
use Rattle.geo_points.specs.Placements.{Placement}
use Rattle.geo_terms.specs.Stores.{Store}
use Rattle.geo_program.specs.declared.commands.Command.{Command}
use Rattle.geo_program.specs.declared.commands.LineId.{LineId}
use Rattle.geo_program.specs.declared.names.NameKind.TheVariants as kind
use Rattle.geo_program.specs.Forms.{command_form}
use Rattle.geo_program.specs.Spelling.{SameSource}
use Rattle.geo_program.specs.WellFormed.{Source}
use Rattle.geo_lowering.specs.declared.version.Version.{Version}
use Rattle.geo_lowering.specs.CommandsMet.{AreCommandsMet, MeetsCommands, drawn, line_of, lines_of, reading}
use Rattle.geo_lowering.specs.Conditions.{Condition, IsConditionMet, command_conditions}
use Rattle.geo_lowering.specs.Counting.{named, hidden, further, counted, gathered, next_point, next_number, numbers_from, numbers_had, param_places, points_from, points_named}
use Rattle.geo_lowering.specs.Lines.{DrawnLine, line_at}
use Rattle.geo_lowering.specs.Lowering.{Pair, layout_of, line_places, pair_of, point_place, point_places}
use Rattle.geo_conditions.specs.Lists.{Found, all_found, found_at, found_from}
use Rattle.geo_conditions.specs.Truth.{Holds, free_points, is_free}
use Rattle.geo_conditions.proofs.Sights.{Sight, condition_over, condition_over-is, holds_over-is, met_over-is, said, said-is, saying, seen, seen-is, sight}

sights : (nodes : Store) (cs : List Command) → map seen (map (command_form nodes) cs) ≡ map (sight nodes) cs
sights nodes [] = refl
sights nodes (c ∷ cs) = ap₂ (λ (x : Sight) (xs : List Sight). x ∷ xs) (seen-is nodes c) (sights nodes cs)

-- LISTS
-- the lists of a program, over what is seen of its commands
abbrev next_point' : Version → ℕ → Sight → ℕ
next_point' version n s = counted kind.Point s.kind (further n (s.hidden version))

abbrev next_number' : ℕ → Sight → ℕ
next_number' m s = elim s.number [ true ↦ suc m | false ↦ m ]

abbrev point_places' : Version → ℕ → List Sight → List ℕ
point_places' version n [] = []
point_places' version n (s ∷ ss) = gathered kind.Point s.kind (further n (s.hidden version)) (point_places' version (next_point' version n s) ss)

abbrev line_places' : Version → (ℕ → ℕ) → ℕ → List Sight → List Pair
line_places' version point n [] = []
line_places' version point n (s ∷ ss) = gathered kind.Line s.kind (s.pair point n) (line_places' version point (next_point' version n s) ss)

abbrev param_places' : ℕ → List Sight → List ℕ
param_places' m [] = []
param_places' m (s ∷ ss) = gathered kind.Param s.kind m (param_places' (next_number' m s) ss)

abbrev numbers_from' : ℕ → List Sight → ℕ
numbers_from' m [] = m
numbers_from' m (s ∷ ss) = numbers_from' (next_number' m s) ss

abbrev points_from' : ℕ → List Sight → ℕ
points_from' x [] = x
points_from' x (s ∷ ss) = points_from' (counted kind.Point s.kind x) ss

abbrev free_points' : ℕ → List Sight → List ℕ
free_points' x [] = []
free_points' x (s ∷ ss) = elim s.free [ true ↦ x ∷ free_points' (counted kind.Point s.kind x) ss | false ↦ free_points' (counted kind.Point s.kind x) ss ]

abbrev lines_after' : Placement → List DrawnLine → List Sight → List DrawnLine
lines_after' placed lines [] = lines
lines_after' placed lines (s ∷ ss) = lines_after' placed (lines ++ s.lines placed lines) ss

abbrev found_from' : ℕ → ℕ → List Sight → List Found
found_from' x line [] = []
found_from' x line (s ∷ ss) = found_at line (s.conditions (record { 0 = x })) ++ found_from' (counted kind.Point s.kind x) (suc line) ss

abbrev length' : List Sight → ℕ
length' [] = 0
length' (s ∷ ss) = suc (length' ss)

-- the commands are met, where terms read the first placement and these are the lines
abbrev are_met' : Placement → (LineId → DrawnLine) → Placement → ℕ → ℕ → List Sight → Type 0
are_met' read line placed x m [] = Unit {0}
are_met' read line placed x m (s ∷ ss) =
    s.met read line placed (placed.point x) (placed.number m) × are_met' read line placed (counted kind.Point s.kind x) (next_number' m s) ss

module _ (nodes : Store) where
  point_places-is : (version : Version) (n : ℕ) (cs : List Command) → point_places version n cs ≡ point_places' version n (map (sight nodes) cs)
  point_places-is version n [] = refl
  point_places-is version n (c ∷ cs) = ap (λ (xs : List ℕ). gathered kind.Point (named c) (further n (hidden version c)) xs) (point_places-is version (next_point version n c) cs)

  line_places-is : (version : Version) (point : ℕ → ℕ) (n : ℕ) (cs : List Command) → line_places version point n cs ≡ line_places' version point n (map (sight nodes) cs)
  line_places-is version point n [] = refl
  line_places-is version point n (c ∷ cs) = ap (λ (xs : List Pair). gathered kind.Line (named c) (pair_of point n c) xs) (line_places-is version point (next_point version n c) cs)

  param_places-is : (m : ℕ) (cs : List Command) → param_places m cs ≡ param_places' m (map (sight nodes) cs)
  param_places-is m [] = refl
  param_places-is m (c ∷ cs) = ap (λ (xs : List ℕ). gathered kind.Param (named c) m xs) (param_places-is (next_number m c) cs)

  numbers_from-is : (m : ℕ) (cs : List Command) → numbers_from m cs ≡ numbers_from' m (map (sight nodes) cs)
  numbers_from-is m [] = refl
  numbers_from-is m (c ∷ cs) = numbers_from-is (next_number m c) cs

  points_from-is : (x : ℕ) (cs : List Command) → points_from x cs ≡ points_from' x (map (sight nodes) cs)
  points_from-is x [] = refl
  points_from-is x (c ∷ cs) = points_from-is (counted kind.Point (named c) x) cs

  free_points-is : (x : ℕ) (cs : List Command) → free_points x cs ≡ free_points' x (map (sight nodes) cs)
  free_points-is x [] = refl
  free_points-is x (c ∷ cs) = ap (λ (xs : List ℕ). elim (is_free c) [ true ↦ x ∷ xs | false ↦ xs ]) (free_points-is (counted kind.Point (named c) x) cs)

  lines_after-is : (placed : Placement) (lines : List DrawnLine) (cs : List Command)
      → fold (λ ls c. ls ++ drawn placed ls c) lines cs ≡ lines_after' placed lines (map (sight nodes) cs)
  lines_after-is placed lines [] = refl
  lines_after-is placed lines (c ∷ cs) = lines_after-is placed (lines ++ drawn placed lines c) cs

  found_from-is : (x line : ℕ) (cs : List Command) → found_from nodes x line cs ≡ found_from' x line (map (sight nodes) cs)
  found_from-is x line [] = refl
  found_from-is x line (c ∷ cs) =
      ap (λ (fs : List Found). found_at line (command_conditions nodes (record { 0 = x }) c) ++ fs) (found_from-is (counted kind.Point (named c) x) (suc line) cs)

  length-is : (cs : List Command) → length cs ≡ length' (map (sight nodes) cs)
  length-is [] = refl
  length-is (c ∷ cs) = ap suc (length-is cs)

are_met-is : (s : Source) (placed : Placement) (x m : ℕ) (cs : List Command)
    → AreCommandsMet s placed x m cs ≡ are_met' (reading s placed) (line_of s placed) placed x m (map (sight s.nodes) cs)
are_met-is s placed x m [] = refl
are_met-is s placed x m (c ∷ cs) =
    ap₂ (λ (A : Type 0) (B : Type 0). A × B) (met_over-is s placed (placed.point x) (placed.number m) c)
    (are_met-is s placed (counted kind.Point (named c) x) (next_number m c) cs)

-- PROGRAMS
module _ (p q : Source) (s : SameSource p q) where
  same_sights : map (sight p.nodes) p.commands ≡ map (sight q.nodes) q.commands
  same_sights = sym (sights p.nodes p.commands) ∙ ap (map seen) s.commands ∙ sights q.nodes q.commands

  pub same_saying : saying p.nodes p.statement ≡ saying q.nodes q.statement
  same_saying = sym (said-is p.nodes p.statement) ∙ ap said s.statement ∙ said-is q.nodes q.statement

  -- counts and places
  pub same_length : length p.commands ≡ length q.commands
  same_length = length-is p.nodes p.commands ∙ ap length' same_sights ∙ sym (length-is q.nodes q.commands)

  pub same_numbers : numbers_had p.commands ≡ numbers_had q.commands
  same_numbers = numbers_from-is p.nodes 0 p.commands ∙ ap (numbers_from' 0) same_sights ∙ sym (numbers_from-is q.nodes 0 q.commands)

  pub same_named : points_named p.commands ≡ points_named q.commands
  same_named = points_from-is p.nodes 0 p.commands ∙ ap (points_from' 0) same_sights ∙ sym (points_from-is q.nodes 0 q.commands)

  pub same_frees : free_points 0 p.commands ≡ free_points 0 q.commands
  same_frees = free_points-is p.nodes 0 p.commands ∙ ap (free_points' 0) same_sights ∙ sym (free_points-is q.nodes 0 q.commands)

  same_points : (version : Version) → point_places version 0 p.commands ≡ point_places version 0 q.commands
  same_points version =
      point_places-is p.nodes version 0 p.commands ∙ ap (point_places' version 0) same_sights ∙ sym (point_places-is q.nodes version 0 q.commands)

  same_places : (version : Version) (a : ℕ) → point_place version p.commands a ≡ point_place version q.commands a
  same_places version a = ap (λ places. slice_index_or places a 0) (same_points version)

  same_pairs : (version : Version) → line_places version (point_place version p.commands) 0 p.commands ≡ line_places version (point_place version q.commands) 0 q.commands
  same_pairs version =
      line_places-is p.nodes version (point_place version p.commands) 0 p.commands
      ∙ ap₂ (λ (point : ℕ → ℕ) (ss : List Sight). line_places' version point 0 ss) (λ i a. same_places version a i) same_sights
      ∙ sym (line_places-is q.nodes version (point_place version q.commands) 0 q.commands)

  same_params : param_places 0 p.commands ≡ param_places 0 q.commands
  same_params = param_places-is p.nodes 0 p.commands ∙ ap (param_places' 0) same_sights ∙ sym (param_places-is q.nodes 0 q.commands)

  pub same_layout : (version : Version) → layout_of version p.commands ≡ layout_of version q.commands
  same_layout version = λ i. record {
    point = λ a. slice_index_or (same_points version i) a 0;
    line = λ a. slice_index_or (same_pairs version i) a (record { left = 0; right = 0 });
    param = λ t. slice_index_or (same_params i) t 0;
  }

  -- conditions
  pub same_found : all_found p ≡ all_found q
  same_found =
      let commands : found_from p.nodes 0 1 p.commands ≡ found_from q.nodes 0 1 q.commands =
      found_from-is p.nodes 0 1 p.commands ∙ ap (found_from' 0 1) same_sights ∙ sym (found_from-is q.nodes 0 1 q.commands) in
      λ i. commands i ++ found_at (suc (same_length i)) (same_saying i).conditions

  module _ (placed : Placement) where
    same_reading : reading p placed ≡ reading q placed
    same_reading = λ i. record { point = placed.point; number = λ t. placed.number (slice_index_or (same_params i) t 0) }

    same_drawn : lines_of placed p.commands ≡ lines_of placed q.commands
    same_drawn = lines_after-is p.nodes placed [] p.commands ∙ ap (lines_after' placed []) same_sights ∙ sym (lines_after-is q.nodes placed [] q.commands)

    same_line : line_of p placed ≡ line_of q placed
    same_line = λ i a. line_at (same_drawn i) a.0

    -- what it means to meet the commands
    pub same_met : MeetsCommands p placed ≡ MeetsCommands q placed
    same_met =
        are_met-is p placed 0 0 p.commands
        ∙ (λ i. are_met' (same_reading i) (same_line i) placed 0 0 (same_sights i))
        ∙ sym (are_met-is q placed 0 0 q.commands)

    -- that a condition holds
    pub same_condition : (c : Condition) → IsConditionMet p placed c ≡ IsConditionMet q placed c
    same_condition c =
        condition_over-is p placed c
        ∙ (λ i. condition_over (same_reading i) (same_line i) placed c)
        ∙ sym (condition_over-is q placed c)

    -- that the statement holds
    pub same_holding : Holds p placed ≡ Holds q placed
    same_holding =
        holds_over-is p placed p.statement
        ∙ (λ i. (same_saying i).holds (same_reading i) placed)
        ∙ sym (holds_over-is q placed q.statement)
