-- Goals as they are kept, and what listing more of them does.
use Rattle.std.specs.Prelude.{Contains, List, [], ◌∷◌, ◌++◌, map}
use Rattle.std.specs.List.{AllByRecursion}
use Rattle.geo_points.specs.declared.ids.TermId.{TermId}
use Rattle.geo_program.specs.declared.statements.Statement.{Statement}
use Rattle.geo_terms.specs.Stores.{Store, IsStore, tree_of}
use Rattle.geo_conditions.specs.declared.goal_list.GoalList.{GoalList}
use Rattle.geo_conditions.specs.declared.goal_list.GoalSource.{GoalSource}
use Rattle.geo_conditions.specs.declared.goal_list.GoalSource.TheVariants.{Nothing, One, Expression}
use Rattle.geo_conditions.specs.Inner.ConditionLists.{HasBraces, IsMarked}
use Rattle.geo_conditions.specs.Lists.{IsListed}
use Rattle.geo_conditions.specs.Statements.{ratio_goals}

-- the goals are all listed
abbrev pub AreGoalsListed : List Statement → List Statement → Type 0
AreGoalsListed listed goals = AllByRecursion (λ g. Contains (map (λ h. h) listed) g) goals

-- the goals of the walked terms are listed
pub record IsGoalList (nodes : Store) (list : GoalList) : Type 0 where
  pub store : IsStore nodes
  pub walked : (e : TermId) → IsMarked list.walked e → AreGoalsListed list.goals (ratio_goals (tree_of nodes e))

-- the list has these goals more, each once and only where it was not there
pub record ListsGoals (nodes : Store) (old new : GoalList) (goals : List Statement) : Type 0 where
  pub valid : IsGoalList nodes new
  pub leads : (rest result : List Statement) → IsListed (λ g. g) new.goals rest result
      → IsListed (λ g. g) old.goals (goals ++ rest) result

-- the goals that a source gives
abbrev pub goals_given : Store → GoalSource → List Statement
goals_given nodes Nothing = []
goals_given nodes (One g) = g ∷ []
goals_given nodes (Expression e) = ratio_goals (tree_of nodes e)

-- its term stands in the store, and its braces at most 128 deep
abbrev pub IsGoalSourceKept : Store → GoalSource → Type 0
IsGoalSourceKept nodes (Expression e) = HasBraces nodes e
IsGoalSourceKept nodes _ = Unit {0}
