-- Programs that are the same ask the same: what a command asks can be read off its form.
use Rattle.std.proofs.Common.{◌≡◌, ℕ, zero, suc, Option, Some, None, List, [], ◌∷◌, ◌++◌, length, map, refl, sym, ◌∙◌, ap, eqb, if◌then◌else◌}
use Rattle.std.specs.Prelude.{slice_index}
use Rattle.geo_points.specs.declared.ids.PointId.{PointId}
use Rattle.geo_terms.specs.Stores.{Store}
use Rattle.geo_terms.specs.Trees.{Tree}
use Rattle.geo_program.specs.declared.commands.Command.{Command}
use Rattle.geo_program.specs.declared.commands.Command.TheVariants.{Point, Param, Line, Parallel, Perp, Med, Intersec, Inter, Foot, Pratio}
use Rattle.geo_program.specs.declared.commands.Command.TheVariants.{Tratio, Online, Lratio, Midpoint, Translate, Symmetric, Reflect}
use Rattle.geo_program.specs.declared.commands.Command.TheVariants.{Circumcenter, Orthocenter, Centroid, Oncircle, Second, Cc, Inverse}
use Rattle.geo_program.specs.declared.commands.Command.TheVariants.{Weights, AssumeDifferent, AssumeNotCollinear, AssumeNotParallel}
use Rattle.geo_program.specs.declared.names.Name.{Name}
use Rattle.geo_program.specs.declared.names.NameKind.{NameKind}
use Rattle.geo_program.specs.declared.names.NameKind.TheVariants as kind
use Rattle.geo_program.specs.declared.statements.Statement.{Statement}
use Rattle.geo_program.specs.declared.statements.Statement.TheVariants as statement
use Rattle.geo_program.specs.Forms.{Argument, CommandForm, StatementForm, command_form, line_argument, number_argument, point_argument, side_argument, statement_form}
use Rattle.geo_program.specs.FormTexts.{form_text}
use Rattle.geo_program.specs.Spelling.{SameSource}
use Rattle.geo_program.specs.WellFormed.{Source}
use Rattle.geo_lowering.specs.Conditions.{Condition, command_conditions, different, expression_conditions}
use Rattle.geo_lowering.specs.Counting.{counted, named}
use Rattle.geo_conditions.specs.Statements.{statement_conditions}
use Rattle.geo_library.specs.CitedGoals.{along_goal, command_goals, turned_goal, weights_goal}
use Rattle.geo_library.specs.Instances.{Asked, AskedAt, all_asked, asked_at, asks_goal, asks_statement, commands_asked, conditions_asked, statement_asked}
use Rattle.geo_library.specs.Renamings.{Renaming, given_names, image}
use Rattle.geo_library.specs.SameLaws.{SameProgramsAskTheSame}

-- COMMANDS
-- what a citation sees of a command
record Sight : Type 0 where
  kind : Option NameKind
  conditions : PointId → List Condition
  goals : PointId → List Tree

abbrev sight : Store → Command → Sight
sight nodes c = record { kind = named c; conditions = λ x. command_conditions nodes x c; goals = λ x. command_goals nodes x c }

-- of a command whose number is this tree
abbrev numbered : (PointId → Tree → Tree) → Tree → Sight
numbered goal e = record { kind = Some kind.Point; conditions = λ x. expression_conditions e ++ []; goals = λ x. goal x e ∷ [] }

-- the command whose word begins with this letter
abbrev by_letter : List ℕ → ℕ → Command → Command → Command
by_letter word letter c d = if eqb (slice_index word 0) letter then c else d

-- what a citation sees of a command with this word, so many points and these arguments
abbrev seen_by : List ℕ → ℕ → List Argument → Sight
seen_by word zero [] = sight [] Param
seen_by word zero (point_argument a ∷ point_argument b ∷ []) = sight [] (Line a b)
seen_by word (suc zero) (point_argument p ∷ line_argument b ∷ []) = sight [] (Parallel p b)
seen_by word (suc (suc zero)) (point_argument p ∷ line_argument b ∷ []) = sight [] (Perp p b)
seen_by word (suc (suc zero)) (point_argument a ∷ point_argument b ∷ []) = sight [] (Med a b)
seen_by word (suc (suc (suc zero))) (point_argument a ∷ point_argument b ∷ []) = sight [] (Oncircle a b)
seen_by word (suc zero) (line_argument a ∷ line_argument b ∷ []) = sight [] (Intersec a b)
seen_by word (suc zero) (point_argument a ∷ point_argument b ∷ point_argument c ∷ point_argument d ∷ []) = sight [] (Inter a b c d)
seen_by word (suc zero) (point_argument w ∷ point_argument u ∷ point_argument v ∷ number_argument e ∷ []) = numbered (λ x n. along_goal x w u v n) e
seen_by word (suc zero) (point_argument a ∷ point_argument b ∷ number_argument e ∷ []) =
    if eqb (slice_index word 0) 116 then numbered (λ x n. turned_goal x a b n) e else numbered (λ x n. along_goal x a a b n) e
seen_by word (suc zero) (point_argument a ∷ point_argument b ∷ []) = sight [] (by_letter word 111 (Online a b) (by_letter word 109 (Midpoint a b) (Symmetric a b)))
seen_by word (suc zero) (point_argument a ∷ point_argument b ∷ point_argument c ∷ []) = sight [] (by_letter word 102 (Foot a b c) (by_letter word 116 (Translate a b c) (Inverse a b c)))
seen_by word (suc (suc zero)) (point_argument a ∷ point_argument b ∷ point_argument c ∷ []) =
    sight []
    (by_letter word 114 (Reflect a b c)
    (by_letter word 115 (Second a b c) (if eqb (slice_index word 1) 101 then Centroid a b c else Cc a b c)))
seen_by word (suc (suc (suc zero))) (point_argument a ∷ point_argument b ∷ point_argument c ∷ []) = sight [] (Orthocenter a b c)
seen_by word (suc (suc (suc (suc (suc zero))))) (point_argument a ∷ point_argument b ∷ point_argument c ∷ []) = sight [] (Circumcenter a b c)
seen_by word (suc (suc zero)) (point_argument a ∷ point_argument b ∷ point_argument c ∷ number_argument e ∷ number_argument f ∷ []) =
    record { kind = Some kind.Point; conditions = λ x. (expression_conditions e ++ expression_conditions f) ++ []; goals = λ x. weights_goal x a b c e f ∷ [] }
seen_by word _ _ = sight [] Point

-- of an assumption of these points
abbrev assumed : List Argument → Sight
assumed (point_argument a ∷ point_argument b ∷ []) = sight [] (AssumeDifferent a b)
assumed (point_argument a ∷ point_argument b ∷ point_argument c ∷ []) = sight [] (AssumeNotCollinear a b c)
assumed (point_argument a ∷ point_argument b ∷ point_argument c ∷ point_argument d ∷ []) = sight [] (AssumeNotParallel a b c d)
assumed _ = sight [] Point

abbrev seen : CommandForm → Sight
seen f = elim f.condition [ None ↦ seen_by f.word f.points f.arguments | Some word ↦ assumed f.arguments ]

seen-is : (nodes : Store) (c : Command) → seen (command_form nodes c) ≡ sight nodes c
seen-is nodes Point = refl
seen-is nodes _ = refl

same_sight : (np nq : Store) (c d : Command) → command_form np c ≡ command_form nq d → sight np c ≡ sight nq d
same_sight np nq c d e = sym (seen-is np c) ∙ ap seen e ∙ seen-is nq d

-- STATEMENTS
-- the conditions of a statement with this word and these arguments
abbrev conditions_by : List ℕ → List Argument → List Condition
conditions_by word (side_argument e ∷ side_argument f ∷ []) = expression_conditions e ++ expression_conditions f
conditions_by word (point_argument a ∷ point_argument b ∷ point_argument c ∷ point_argument d ∷ []) =
    if eqb (slice_index word 0) 104 then different c b ∷ different b d ∷ [] else []
conditions_by word _ = []

conditions-are : (nodes : Store) (s : Statement) → conditions_by (statement_form nodes s).word (statement_form nodes s).arguments ≡ statement_conditions nodes s
conditions-are nodes (statement.Equal e f) = refl
conditions-are nodes (statement.Collinear a b c) = refl
conditions-are nodes (statement.Parallel a b c d) = refl
conditions-are nodes (statement.Perpendicular a b c d) = refl
conditions-are nodes (statement.Identical a b) = refl
conditions-are nodes (statement.Midpoint m a b) = refl
conditions-are nodes (statement.SameLength a b c d) = refl
conditions-are nodes (statement.Harmonic a b c d) = refl
conditions-are nodes (statement.Concyclic a b c d) = refl

-- WHAT IS ASKED
module _ (given : List Name) (r : Renaming) where
  -- by a command that is seen so
  abbrev sight_asked : PointId → Sight → List Asked
  sight_asked x s = conditions_asked given r (s.conditions x) ++ map (λ e. asks_goal (image r e)) (s.goals x)

  commands_alike : (np nq : Store) (cs ds : List Command) (x line : ℕ) → map (command_form np) cs ≡ map (command_form nq) ds → commands_asked given r np x line cs ≡ commands_asked given r nq x line ds
  commands_alike np nq [] [] x line e = refl
  commands_alike np nq [] (d ∷ ds) x line e = absurd (let l : zero ≡ suc (length (map (command_form nq) ds)) = ap length e in cc)
  commands_alike np nq (c ∷ cs) [] x line e = absurd (let l : suc (length (map (command_form np) cs)) ≡ zero = ap length e in cc)
  commands_alike np nq (c ∷ cs) (d ∷ ds) x line e =
      let heads : command_form np c ≡ command_form nq d = cc in
      let tails : map (command_form np) cs ≡ map (command_form nq) ds = cc in
      let same = same_sight np nq c d heads in
      let rest = commands_alike np nq cs ds (counted kind.Point (named c) x) (suc line) tails
      ∙ ap (λ (s : Sight). commands_asked given r nq (counted kind.Point s.kind x) (suc line) ds) same in
      λ i. asked_at line (sight_asked (record { 0 = x }) (same i)) ++ rest i

  statements_alike : (np nq : Store) (s t : Statement) → statement_form np s ≡ statement_form nq t → statement_asked given r np s ≡ statement_asked given r nq t
  statements_alike np nq s t e =
      let conditions : statement_conditions np s ≡ statement_conditions nq t =
      sym (conditions-are np s) ∙ ap (λ (f : StatementForm). conditions_by f.word f.arguments) e ∙ conditions-are nq t in
      λ i. conditions_asked given r (conditions i) ++ asks_statement (form_text given (e i)) ∷ []

  program_alike : (p q : Source) → SameSource p q → all_asked given r p ≡ all_asked given r q
  program_alike p q s =
      let lines : length p.commands ≡ length q.commands = same_length p.nodes q.nodes p.commands q.commands s.commands in
      λ i. commands_alike p.nodes q.nodes p.commands q.commands 0 1 s.commands i ++ asked_at (suc (lines i)) (statements_alike p.nodes q.nodes p.statement q.statement s.statement i)
    where
      same_length : (np nq : Store) (cs ds : List Command) → map (command_form np) cs ≡ map (command_form nq) ds → length cs ≡ length ds
      same_length np nq [] [] e = refl
      same_length np nq [] (d ∷ ds) e = absurd (let l : zero ≡ suc (length (map (command_form nq) ds)) = ap length e in cc)
      same_length np nq (c ∷ cs) [] e = absurd (let l : suc (length (map (command_form np) cs)) ≡ zero = ap length e in cc)
      same_length np nq (c ∷ cs) (d ∷ ds) e = let tails : map (command_form np) cs ≡ map (command_form nq) ds = cc in ap suc (same_length np nq cs ds tails)

pub same_programs_ask_the_same : SameProgramsAskTheSame
same_programs_ask_the_same p q texts r s =
    program_alike (given_names p.names texts) r p q s ∙ ap (λ (names : List Name). all_asked (given_names names texts) r q) s.names
