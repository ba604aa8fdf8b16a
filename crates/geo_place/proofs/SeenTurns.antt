-- The turns of a program, as they can be read off the forms of its commands and of its statement.
use Rattle.std.proofs.Common.{◌≡◌, ℕ, zero, suc, Bool, true, false, List, [], ◌∷◌, ◌++◌, length, map, Option, Some, refl, sym, ◌∙◌, ap, ap₂, eqb, if◌then◌else◌}
use Rattle.std.specs.Prelude.{slice_index}
use Rattle.std.specs.List.{AllByRecursion}
use Rattle.std.proofs.lemmas.List.{map-append}
use Rattle.geo_points.specs.declared.ids.PointId.{PointId}
use Rattle.geo_terms.specs.Stores.{Store}
use Rattle.geo_terms.specs.Trees.{Tree}
use Rattle.geo_program.specs.declared.commands.Command.{Command}
use Rattle.geo_program.specs.declared.commands.Command.TheVariants.{Point, Param, Line, Parallel, Perp, Med, Intersec, Inter, Foot, Online}
use Rattle.geo_program.specs.declared.commands.Command.TheVariants.{Midpoint, Translate, Symmetric, Reflect, Circumcenter, Orthocenter}
use Rattle.geo_program.specs.declared.commands.Command.TheVariants.{Centroid, Oncircle, Second, Cc, Inverse, AssumeDifferent}
use Rattle.geo_program.specs.declared.commands.Command.TheVariants.{AssumeNotCollinear, AssumeNotParallel}
use Rattle.geo_program.specs.declared.names.NameKind.{NameKind}
use Rattle.geo_program.specs.declared.names.NameKind.TheVariants as kind
use Rattle.geo_program.specs.declared.statements.Statement.{Statement}
use Rattle.geo_program.specs.declared.statements.Statement.TheVariants as statement
use Rattle.geo_program.specs.Forms.{Argument, CommandForm, point_argument, line_argument, number_argument, command_form}
use Rattle.geo_program.specs.Spelling.{SameSource}
use Rattle.geo_program.specs.WellFormed.{Source}
use Rattle.geo_lowering.specs.Conditions.{Condition, early_conditions, expression_conditions, late_conditions}
use Rattle.geo_lowering.specs.Counting.{named, hidden, has_number, is_made, further, counted, gathered, next_point, next_number}
use Rattle.geo_lowering.specs.Lowering.{Layout, command_steps, layout_of, renamed, steps_from, steps_of}
use Rattle.geo_lowering.specs.StepForms.{StepForm, along, turned_along, weighted}
use Rattle.geo_lowering.specs.declared.version.Version.TheVariants.{Two}
use Rattle.geo_conditions.specs.Statements.{pair_goals, statement_conditions, statement_goals}
use Rattle.geo_conditions.specs.Terms.{goal_term}
use Rattle.geo_conditions.proofs.GoalTexts.{IsPair, pairs_paired}
use Rattle.geo_conditions.proofs.Sightings.{same_layout, same_length, same_saying}
use Rattle.geo_place.specs.Evaluation.{LineTurn, Turn, at_line, judge, make, makes, test, turns_from, turns_of, write}
use Rattle.geo_place.specs.Placing.{point_lines}

-- TASKS
-- a turn, without the store of the program
pub data Task : Type 0 where
  tests : Condition → Task
  makes_point : ℕ → StepForm → Task
  writes : ℕ → Task
  judges : Tree → Task

pub record LineTask : Type 0 where
  pub line : ℕ
  pub task : Task

abbrev pub task_of : Layout → Store → Turn → Task
task_of l nodes (test c) = tests c
task_of l nodes (make n f) = makes_point n f
task_of l nodes (write n) = writes n
task_of l nodes (judge g) = judges (goal_term l nodes g)

abbrev pub line_task : Layout → Store → LineTurn → LineTask
line_task l nodes t = record { line = t.line; task = task_of l nodes t.turn }

-- COMMANDS
-- what evaluation sees of a command
record Sight : Type 0 where
  kind : Option NameKind
  hidden : ℕ
  number : Bool
  steps : Layout → ℕ → ℕ → List StepForm
  early : List Condition
  late : PointId → List Condition

abbrev sight : Store → Command → Sight
sight nodes c = record {
  kind = named c;
  hidden = hidden Two c;
  number = has_number c;
  steps = λ l n m. command_steps Two l nodes n m c;
  early = early_conditions nodes c;
  late = λ x. late_conditions x c;
}

-- of a command whose number is this tree
abbrev numbered : (Layout → Tree → StepForm) → Tree → Sight
numbered step e = record {
  kind = Some kind.Point;
  hidden = 0;
  number = false;
  steps = λ l n m. step l (renamed l e) ∷ [];
  early = expression_conditions e;
  late = λ x. [];
}

-- of `weights` with these numbers
abbrev by_weights : PointId → PointId → PointId → Tree → Tree → Sight
by_weights a b c e f = record {
  kind = Some kind.Point;
  hidden = 0;
  number = false;
  steps = λ l n m. weighted (l.point a.0) (l.point b.0) (l.point c.0) (renamed l e) (renamed l f) ∷ [];
  early = expression_conditions e ++ expression_conditions f;
  late = λ x. [];
}

-- the command whose word begins with this letter, or the other one
abbrev by_letter : List ℕ → ℕ → Command → Command → Command
by_letter word letter c d = if eqb (slice_index word 0) letter then c else d

-- what evaluation sees of a command with this word, so many points and these arguments
abbrev seen_by : List ℕ → ℕ → List Argument → Sight
seen_by word zero [] = sight [] Param
seen_by word zero (point_argument a ∷ point_argument b ∷ []) = sight [] (by_letter word 97 (AssumeDifferent a b) (Line a b))
seen_by word zero (point_argument a ∷ point_argument b ∷ point_argument c ∷ []) = sight [] (AssumeNotCollinear a b c)
seen_by word zero (point_argument a ∷ point_argument b ∷ point_argument c ∷ point_argument d ∷ []) = sight [] (AssumeNotParallel a b c d)
seen_by word (suc zero) (point_argument p ∷ line_argument b ∷ []) = sight [] (Parallel p b)
seen_by word (suc (suc zero)) (point_argument p ∷ line_argument b ∷ []) = sight [] (Perp p b)
seen_by word (suc (suc zero)) (point_argument a ∷ point_argument b ∷ []) = sight [] (Med a b)
seen_by word (suc (suc (suc zero))) (point_argument a ∷ point_argument b ∷ []) = sight [] (Oncircle a b)
seen_by word (suc zero) (line_argument a ∷ line_argument b ∷ []) = sight [] (Intersec a b)
seen_by word (suc zero) (point_argument a ∷ point_argument b ∷ point_argument c ∷ point_argument d ∷ []) = sight [] (Inter a b c d)
seen_by word (suc zero) (point_argument w ∷ point_argument u ∷ point_argument v ∷ number_argument e ∷ []) =
    numbered (λ l r. along (l.point w.0) (l.point u.0) (l.point v.0) r) e
seen_by word (suc zero) (point_argument a ∷ point_argument b ∷ number_argument e ∷ []) =
    if eqb (slice_index word 0) 116
    then numbered (λ l r. turned_along (l.point a.0) (l.point b.0) r) e
    else numbered (λ l r. along (l.point a.0) (l.point a.0) (l.point b.0) r) e
seen_by word (suc zero) (point_argument a ∷ point_argument b ∷ []) = sight [] (by_letter word 111 (Online a b) (by_letter word 109 (Midpoint a b) (Symmetric a b)))
seen_by word (suc zero) (point_argument a ∷ point_argument b ∷ point_argument c ∷ []) = sight [] (by_letter word 102 (Foot a b c) (by_letter word 116 (Translate a b c) (Inverse a b c)))
seen_by word (suc (suc zero)) (point_argument a ∷ point_argument b ∷ point_argument c ∷ []) =
    sight []
    (by_letter word 114 (Reflect a b c)
    (by_letter word 115 (Second a b c) (if eqb (slice_index word 1) 101 then Centroid a b c else Cc a b c)))
seen_by word (suc (suc (suc zero))) (point_argument a ∷ point_argument b ∷ point_argument c ∷ []) = sight [] (Orthocenter a b c)
seen_by word (suc (suc (suc (suc (suc zero))))) (point_argument a ∷ point_argument b ∷ point_argument c ∷ []) = sight [] (Circumcenter a b c)
seen_by word (suc (suc zero)) (point_argument a ∷ point_argument b ∷ point_argument c ∷ number_argument e ∷ number_argument f ∷ []) = by_weights a b c e f
seen_by word _ _ = sight [] Point

abbrev seen : CommandForm → Sight
seen f = seen_by f.word f.points f.arguments

seen-is : (nodes : Store) (c : Command) → seen (command_form nodes c) ≡ sight nodes c
seen-is nodes Point = refl
seen-is nodes _ = refl

sights : (nodes : Store) (cs : List Command) → map seen (map (command_form nodes) cs) ≡ map (sight nodes) cs
sights nodes [] = refl
sights nodes (c ∷ cs) = ap₂ (λ (x : Sight) (xs : List Sight). x ∷ xs) (seen-is nodes c) (sights nodes cs)

-- THE LISTS OF A PROGRAM
abbrev next_point' : ℕ → Sight → ℕ
next_point' n s = counted kind.Point s.kind (further n s.hidden)

abbrev next_number' : ℕ → Sight → ℕ
next_number' m s = elim s.number [ true ↦ suc m | false ↦ m ]

abbrev steps_from' : Layout → ℕ → ℕ → List Sight → List StepForm
steps_from' l n m [] = []
steps_from' l n m (s ∷ ss) = s.steps l n m ++ steps_from' l (next_point' n s) (next_number' m s) ss

abbrev point_lines' : ℕ → List Sight → List ℕ
point_lines' line [] = []
point_lines' line (s ∷ ss) = gathered kind.Point s.kind line (point_lines' (suc line) ss)

abbrev on_line : ℕ → List Task → List LineTask
on_line line ts = map (λ t. record { line = line; task = t }) ts

abbrev makes' : ℕ → List StepForm → List Task
makes' n [] = []
makes' n (f ∷ fs) = makes_point n f ∷ makes' (suc n) fs

abbrev command_tasks : Layout → ℕ → ℕ → ℕ → Sight → List Task
command_tasks l x n m s =
    map tests s.early ++ makes' n (s.steps l n m) ++ gathered kind.Point s.kind (writes (further n s.hidden)) [] ++ map tests (s.late (record { 0 = x }))

abbrev tasks_from' : Layout → ℕ → ℕ → ℕ → ℕ → List Sight → List LineTask
tasks_from' l line x n m [] = []
tasks_from' l line x n m (s ∷ ss) =
    on_line line (command_tasks l x n m s) ++ tasks_from' l (suc line) (counted kind.Point s.kind x) (next_point' n s) (next_number' m s) ss

module _ (l : Layout) (nodes : Store) where
  on_line-is : (line : ℕ) (ts : List Turn) → map (line_task l nodes) (at_line line ts) ≡ on_line line (map (task_of l nodes) ts)
  on_line-is line [] = refl
  on_line-is line (t ∷ ts) = ap (λ (zs : List LineTask). record { line = line; task = task_of l nodes t } ∷ zs) (on_line-is line ts)

  tests-is : (cs : List Condition) → map (task_of l nodes) (map test cs) ≡ map tests cs
  tests-is [] = refl
  tests-is (c ∷ cs) = ap (λ (zs : List Task). tests c ∷ zs) (tests-is cs)

  makes-is : (n : ℕ) (fs : List StepForm) → map (task_of l nodes) (makes n fs) ≡ makes' n fs
  makes-is n [] = refl
  makes-is n (f ∷ fs) = ap (λ (zs : List Task). makes_point n f ∷ zs) (makes-is (suc n) fs)

  writes-is : (b : Bool) (n : ℕ) → map (task_of l nodes) (elim b [ true ↦ write n ∷ [] | false ↦ [] ]) ≡ elim b [ true ↦ writes n ∷ [] | false ↦ [] ]
  writes-is true n = refl
  writes-is false n = refl

  command-is : (x n m : ℕ) (c : Command)
      → map (task_of l nodes)
      (map test (early_conditions nodes c) ++ makes n (command_steps Two l nodes n m c) ++ gathered kind.Point (named c) (write (further n (hidden Two c))) []
      ++ map test (late_conditions (record { 0 = x }) c))
      ≡ command_tasks l x n m (sight nodes c)
  command-is x n m c =
      let T = task_of l nodes in
      let e = map test (early_conditions nodes c) in
      let f = makes n (command_steps Two l nodes n m c) in
      let g : List Turn = gathered kind.Point (named c) (write (further n (hidden Two c))) [] in
      let h = map test (late_conditions (record { 0 = x }) c) in
      map-append T (e ++ f ++ g) h ∙ ap (λ (ts : List Task). ts ++ map T h) (map-append T (e ++ f) g ∙ ap (λ (ts : List Task). ts ++ map T g) (map-append T e f))
      ∙ (λ i. tests-is (early_conditions nodes c) i ++ makes-is n (command_steps Two l nodes n m c) i ++ writes-is (is_made kind.Point (named c)) (further n (hidden Two c)) i
      ++ tests-is (late_conditions (record { 0 = x }) c) i)

  steps_from-is : (n m : ℕ) (cs : List Command) → steps_from Two l nodes n m cs ≡ steps_from' l n m (map (sight nodes) cs)
  steps_from-is n m [] = refl
  steps_from-is n m (c ∷ cs) = ap (λ (xs : List StepForm). command_steps Two l nodes n m c ++ xs) (steps_from-is (next_point Two n c) (next_number m c) cs)

point_lines-is : (nodes : Store) (line : ℕ) (cs : List Command) → point_lines line cs ≡ point_lines' line (map (sight nodes) cs)
point_lines-is nodes line [] = refl
point_lines-is nodes line (c ∷ cs) = ap (λ (xs : List ℕ). gathered kind.Point (named c) line xs) (point_lines-is nodes (suc line) cs)

module _ (p : Source) where
  abbrev L : Layout
  L = layout_of Two p.commands

  turns_from-is : (line x n m : ℕ) (cs : List Command) → map (line_task L p.nodes) (turns_from p line x n m cs) ≡ tasks_from' L line x n m (map (sight p.nodes) cs)
  turns_from-is line x n m [] = refl
  turns_from-is line x n m (c ∷ cs) =
      let first = at_line line (map test (early_conditions p.nodes c)
      ++ makes n (command_steps Two L p.nodes n m c) ++ gathered kind.Point (named c) (write (further n (hidden Two c))) [] ++ map test (late_conditions (record { 0 = x }) c)) in
      let rest = turns_from p (suc line) (counted kind.Point (named c) x) (next_point Two n c) (next_number m c) cs in
      map-append (line_task L p.nodes) first rest
      ∙ ap₂ (λ (xs ys : List LineTask). xs ++ ys) (on_line-is L p.nodes line _ ∙ ap (λ (ts : List Task). on_line line ts) (command-is L p.nodes x n m c))
      (turns_from-is (suc line) (counted kind.Point (named c) x) (next_point Two n c) (next_number m c) cs)

-- STATEMENTS
goals_end : (l : Layout) (nodes : Store) (gs : List Statement) (g : Statement)
    → map (task_of l nodes) (map judge (gs ++ g ∷ [])) ≡ map (λ h. judges (goal_term l nodes h)) gs ++ judges (goal_term l nodes g) ∷ []
goals_end l nodes [] g = refl
goals_end l nodes (h ∷ gs) g = ap (λ (zs : List Task). judges (goal_term l nodes h) ∷ zs) (goals_end l nodes gs g)

-- the goal of a pair does not look into the store
pair_term : (l : Layout) (one other : Store) (g : Statement) → IsPair g → goal_term l one g ≡ goal_term l other g
pair_term l one other (statement.Parallel a b c d) h = refl
pair_term l one other g h = absurd h

pair_terms : (l : Layout) (one other : Store) (gs : List Statement) → AllByRecursion IsPair gs
    → map (λ g. judges (goal_term l one g)) gs ≡ map (λ g. judges (goal_term l other g)) gs
pair_terms l one other [] h = refl
pair_terms l one other (g ∷ gs) h = ap₂ (λ (x : Tree) (xs : List Task). judges x ∷ xs) (pair_term l one other g h.0) (pair_terms l one other gs h.1)

-- SAME PROGRAMS
module _ (p q : Source) (s : SameSource p q) where
  same_sights : map (sight p.nodes) p.commands ≡ map (sight q.nodes) q.commands
  same_sights = sym (sights p.nodes p.commands) ∙ ap (map seen) s.commands ∙ sights q.nodes q.commands

  pub same_steps : steps_of Two p ≡ steps_of Two q
  same_steps =
      steps_from-is (layout_of Two p.commands) p.nodes 0 0 p.commands ∙ ap₂ (λ (l : Layout) (ss : List Sight). steps_from' l 0 0 ss) (same_layout p q s Two) same_sights
      ∙ sym (steps_from-is (layout_of Two q.commands) q.nodes 0 0 q.commands)

  pub same_point_lines : point_lines 1 p.commands ≡ point_lines 1 q.commands
  same_point_lines = point_lines-is p.nodes 1 p.commands ∙ ap (point_lines' 1) same_sights ∙ sym (point_lines-is q.nodes 1 q.commands)

  abbrev pub Lp : Layout
  Lp = layout_of Two p.commands

  abbrev pub Lq : Layout
  Lq = layout_of Two q.commands

  command_tasks_same : map (line_task Lp p.nodes) (turns_from p 1 0 0 0 p.commands) ≡ map (line_task Lq q.nodes) (turns_from q 1 0 0 0 q.commands)
  command_tasks_same =
      turns_from-is p 1 0 0 0 p.commands ∙ ap₂ (λ (l : Layout) (ss : List Sight). tasks_from' l 1 0 0 0 ss) (same_layout p q s Two) same_sights ∙ sym (turns_from-is q 1 0 0 0 q.commands)

  conditions_same : map (line_task Lp p.nodes) (at_line (suc (length p.commands)) (map test (statement_conditions p.nodes p.statement)))
      ≡ map (line_task Lq q.nodes) (at_line (suc (length q.commands)) (map test (statement_conditions q.nodes q.statement)))
  conditions_same =
      on_line-is Lp p.nodes (suc (length p.commands)) (map test (statement_conditions p.nodes p.statement))
      ∙ ap (on_line (suc (length p.commands))) (tests-is Lp p.nodes (statement_conditions p.nodes p.statement))
      ∙ (λ i. on_line (suc (same_length p q s i)) (map tests (same_saying p q s i).conditions))
      ∙ sym (ap (on_line (suc (length q.commands))) (tests-is Lq q.nodes (statement_conditions q.nodes q.statement)))
      ∙ sym (on_line-is Lq q.nodes (suc (length q.commands)) (map test (statement_conditions q.nodes q.statement)))

  goal_tasks : map (task_of Lp p.nodes) (map judge (statement_goals p.nodes p.statement)) ≡ map (task_of Lq q.nodes) (map judge (statement_goals q.nodes q.statement))
  goal_tasks =
      goals_end Lp p.nodes (pair_goals p.nodes p.statement) p.statement
      ∙ ap (λ (ts : List Task). ts ++ judges (goal_term Lp p.nodes p.statement) ∷ []) (pair_terms Lp p.nodes q.nodes (pair_goals p.nodes p.statement) (pairs_paired p.nodes p.statement))
      ∙ (λ i. map (λ g. judges (goal_term (same_layout p q s Two i) q.nodes g)) (same_saying p q s i).pairs ++ judges ((same_saying p q s i).term (same_layout p q s Two i)) ∷ [])
      ∙ sym (goals_end Lq q.nodes (pair_goals q.nodes q.statement) q.statement)

  goals_same : map (line_task Lp p.nodes) (at_line (suc (length p.commands)) (map judge (statement_goals p.nodes p.statement)))
      ≡ map (line_task Lq q.nodes) (at_line (suc (length q.commands)) (map judge (statement_goals q.nodes q.statement)))
  goals_same =
      on_line-is Lp p.nodes (suc (length p.commands)) (map judge (statement_goals p.nodes p.statement))
      ∙ (λ i. on_line (suc (same_length p q s i)) (goal_tasks i))
      ∙ sym (on_line-is Lq q.nodes (suc (length q.commands)) (map judge (statement_goals q.nodes q.statement)))

  pub same_tasks : map (line_task Lp p.nodes) (turns_of p) ≡ map (line_task Lq q.nodes) (turns_of q)
  same_tasks =
      let P = line_task Lp p.nodes in
      let Q = line_task Lq q.nodes in
      let pc = at_line (suc (length p.commands)) (map test (statement_conditions p.nodes p.statement)) in
      let pg = at_line (suc (length p.commands)) (map judge (statement_goals p.nodes p.statement)) in
      let qc = at_line (suc (length q.commands)) (map test (statement_conditions q.nodes q.statement)) in
      let qg = at_line (suc (length q.commands)) (map judge (statement_goals q.nodes q.statement)) in
      let pt = turns_from p 1 0 0 0 p.commands in
      let qt = turns_from q 1 0 0 0 q.commands in
      map-append P (pt ++ pc) pg ∙ ap (λ (ts : List LineTask). ts ++ map P pg) (map-append P pt pc) ∙ (λ i. command_tasks_same i ++ conditions_same i ++ goals_same i)
      ∙ sym (map-append Q (qt ++ qc) qg ∙ ap (λ (ts : List LineTask). ts ++ map Q qg) (map-append Q qt qc))
