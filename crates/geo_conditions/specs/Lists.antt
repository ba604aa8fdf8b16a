-- The list of conditions and the list of goals of a program, with their texts, terms and lines.
use Rattle.std.specs.Prelude.{◌≡◌, ◌⊎◌, ℕ, suc, ◌<◌, codes, All, Contains, List, [], ◌∷◌, ◌++◌, length, map}
use Rattle.geo_terms.specs.Stores.{Store, tree_of}
use Rattle.geo_terms.specs.Trees.{Tree}
use Rattle.geo_program.specs.declared.commands.Command.{Command}
use Rattle.geo_program.specs.declared.names.NameKind.TheVariants as kind
use Rattle.geo_program.specs.declared.statements.Statement.{Statement}
use Rattle.geo_program.specs.Forms.{StatementForm, line_argument, side_argument, on_points, statement_form}
use Rattle.geo_program.specs.FormTexts.{form_text}
use Rattle.geo_program.specs.WellFormed.{Source}
use Rattle.geo_lowering.specs.Conditions.{Condition, different, not_collinear, not_parallel, crossing, nonzero, command_conditions}
use Rattle.geo_lowering.specs.Counting.{named, counted}
use Rattle.geo_lowering.specs.Lowering.{IsLowered, LoweredForm, layout_of}
use Rattle.geo_lowering.specs.declared.version.Version.{Version}
use Rattle.geo_conditions.specs.declared.items.Item.{Item}
use Rattle.geo_conditions.specs.Statements.{statement_conditions, statement_goals}
use Rattle.geo_conditions.specs.Terms.{condition_term, goal_term}

-- ONCE EACH
-- the result is `listed` and then the items, but for each that is among those before it
abbrev pub IsListed : {A B : Type 0} → (A → B) → List A → List A → List A → Type 0
IsListed key listed [] result = result ≡ listed
IsListed key listed (x ∷ xs) result =
    (Contains (map key listed) (key x) × IsListed key listed xs result)
    ⊎ ((Contains (map key listed) (key x) → ⊥) × IsListed key (listed ++ x ∷ []) xs result)

-- CONDITIONS
-- a condition and the line that gives it
pub record Found : Type 0 where
  pub condition : Condition
  pub line : ℕ

-- conditions that one line gives
abbrev pub found_at : ℕ → List Condition → List Found
found_at line conditions = map (λ c. record { condition = c; line = line }) conditions

-- the conditions that the commands give, whose points begin at x and whose lines at `line`
abbrev pub found_from : Store → ℕ → ℕ → List Command → List Found
found_from nodes x line [] = []
found_from nodes x line (c ∷ cs) =
    found_at line (command_conditions nodes (record { 0 = x }) c) ++ found_from nodes (counted kind.Point (named c) x) (suc line) cs

-- all conditions that a program gives: command by command, a line each, and then by its statement
abbrev pub all_found : Source → List Found
all_found p = found_from p.nodes 0 1 p.commands ++ found_at (suc (length p.commands)) (statement_conditions p.nodes p.statement)

-- the list of conditions of a program: each of them once, where it is given first
abbrev pub AreConditions : Source → List Found → Type 0
AreConditions p conditions = IsListed (λ f. f.condition) [] (all_found p) conditions

-- the list of goals of a program: each of them once
abbrev pub AreGoals : Source → List Statement → Type 0
AreGoals p goals = IsListed (λ g. g) [] (statement_goals p.nodes p.statement) goals

-- TEXTS
-- a condition's word, and what stands behind it
abbrev pub condition_form : Condition → StatementForm
condition_form (different a b) = on_points (codes "different") (a ∷ b ∷ [])
condition_form (not_collinear a b c) = on_points (codes "not_collinear") (a ∷ b ∷ c ∷ [])
condition_form (not_parallel a b c d) = on_points (codes "not_parallel") (a ∷ b ∷ c ∷ d ∷ [])
condition_form (crossing a b) = record { word = codes "crossing"; arguments = line_argument a ∷ line_argument b ∷ [] }
condition_form (nonzero e) = record { word = codes "nonzero"; arguments = side_argument e ∷ [] }

-- ITEMS
-- a condition or a goal of a list: its text, its term, over the points and numbers of the lowered form, and its line in the canonical program
pub record ItemForm : Type 0 where
  pub text : List ℕ
  pub term : Tree
  pub line : ℕ

-- a listed condition
abbrev pub condition_item : Version → Source → Found → ItemForm
condition_item version p f = record {
  text = form_text p.names (condition_form f.condition);
  term = condition_term (layout_of version p.commands) f.condition;
  line = f.line;
}

-- a goal
abbrev pub goal_item : Version → Source → Statement → ItemForm
goal_item version p g = record {
  text = form_text p.names (statement_form p.nodes g);
  term = goal_term (layout_of version p.commands) p.nodes g;
  line = suc (length p.commands);
}

-- these are the items of the program's conditions
pub record AreConditionItems (version : Version) (p : Source) (items : List ItemForm) : Type 0 where
  pub conditions : List Found
  pub listed : AreConditions p conditions
  pub written : items ≡ map (condition_item version p) conditions

-- these are the items of its goals
pub record AreGoalItems (version : Version) (p : Source) (items : List ItemForm) : Type 0 where
  pub goals : List Statement
  pub listed : AreGoals p goals
  pub written : items ≡ map (goal_item version p) goals

-- an item, its term unfolded
abbrev pub item_form : Store → Item → ItemForm
item_form nodes i = record { text = i.text; term = tree_of nodes i.term; line = i.line }

-- the items stand in the store, and are those of the program's conditions
pub record AreStoredConditions (version : Version) (p : Source) (nodes : Store) (items : List Item) : Type 0 where
  pub stored : All (λ i. i.term.0 < length nodes) items
  pub are : AreConditionItems version p (map (item_form nodes) items)

-- the items stand in the store, and are those of its goals
pub record AreStoredGoals (version : Version) (p : Source) (nodes : Store) (items : List Item) : Type 0 where
  pub stored : All (λ i. i.term.0 < length nodes) items
  pub are : AreGoalItems version p (map (item_form nodes) items)

-- the lowered form of the program by this version, with the items of its conditions and of its goals
pub record IsProblem (version : Version) (p : Source) (l : LoweredForm) (cs gs : List Item) : Type 0 where
  pub lowered : IsLowered version p l
  pub conditions : AreStoredConditions version p l.construction.nodes cs
  pub goals : AreStoredGoals version p l.construction.nodes gs
