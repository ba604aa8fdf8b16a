-- Conditions as they are kept, and what listing more of them does.
use Rattle.std.specs.Prelude.{◌≡◌, ◌<◌, ◌≤◌, Bool, true, false, Contains, List, [], ◌∷◌, ◌++◌, length, map, slice_index_or}
use Rattle.std.specs.List.{AllByRecursion}
use Rattle.geo_points.specs.declared.ids.TermId.{TermId}
use Rattle.geo_program.specs.declared.commands.Command.{Command}
use Rattle.geo_program.specs.declared.commands.Command.TheVariants.{Pratio, Tratio, Lratio, Weights}
use Rattle.geo_program.specs.declared.statements.Statement.{Statement}
use Rattle.geo_program.specs.declared.statements.Statement.TheVariants.{Equal}
use Rattle.geo_program.specs.Expressions.{nesting}
use Rattle.geo_terms.specs.Stores.{Store, IsStore, tree_of}
use Rattle.geo_lowering.specs.Conditions.{Condition, different, not_collinear, not_parallel, crossing, nonzero, expression_conditions}
use Rattle.geo_conditions.specs.declared.condition_list.ConditionList.{ConditionList}
use Rattle.geo_conditions.specs.declared.condition_sources.ConditionSource.{ConditionSource}
use Rattle.geo_conditions.specs.declared.condition_sources.ConditionSource.TheVariants.{Nothing, One, Expression, Expressions}
use Rattle.geo_conditions.specs.declared.conditions.Condition.{Condition as KeptCondition}
use Rattle.geo_conditions.specs.declared.conditions.Condition.TheVariants.{Different, NotCollinear, NotParallel, Crossing, Nonzero}
use Rattle.geo_conditions.specs.declared.conditions.ListedCondition.{ListedCondition}
use Rattle.geo_conditions.specs.Lists.{Found, IsListed}

-- the condition, its term unfolded
abbrev pub condition_of : Store → KeptCondition → Condition
condition_of nodes (Different a b) = different a b
condition_of nodes (NotCollinear a b c) = not_collinear a b c
condition_of nodes (NotParallel a b c d) = not_parallel a b c d
condition_of nodes (Crossing a b) = crossing a b
condition_of nodes (Nonzero e) = nonzero (tree_of nodes e)

-- with its line
abbrev pub found_of : Store → ListedCondition → Found
found_of nodes i = record { condition = condition_of nodes i.condition; line = i.line }

-- the term stands in the store, and its braces at most 128 deep
abbrev pub HasBraces : Store → TermId → Type 0
HasBraces nodes e = (e.0 < length nodes) × (nesting (tree_of nodes e) ≤ 128)

-- so does the term of the condition
abbrev pub IsKept : Store → KeptCondition → Type 0
IsKept nodes (Nonzero e) = HasBraces nodes e
IsKept nodes _ = Unit {0}

-- the conditions are all listed
abbrev pub AreListed : Store → List ListedCondition → List Condition → Type 0
AreListed nodes items conditions = AllByRecursion (λ c. Contains (map (λ f. f.condition) (map (found_of nodes) items)) c) conditions

-- the term is marked
abbrev pub IsMarked : List Bool → TermId → Type 0
IsMarked marks e = slice_index_or marks e.0 false ≡ true

-- the look-up has the listed conditions, and those of the walked terms are among them
pub record IsConditionList (nodes : Store) (list : ConditionList) : Type 0 where
  pub store : IsStore nodes
  pub known : list.known ≡ map (λ i. i.condition) list.items.items
  pub kept : AllByRecursion (λ i. IsKept nodes i.condition) list.items.items
  pub walked : (e : TermId) → IsMarked list.walked e → AreListed nodes list.items.items (expression_conditions (tree_of nodes e))

-- the same conditions, and the same terms
pub record IsSameList (old new : ConditionList) : Type 0 where
  pub items : new.items.items ≡ old.items.items
  pub known : new.known ≡ old.known
  pub walked : new.walked ≡ old.walked

-- the list has these conditions more, each once and only where it was not there
pub record Lists (nodes : Store) (old new : ConditionList) (found : List Found) : Type 0 where
  pub valid : IsConditionList nodes new
  pub leads : (rest result : List Found) → IsListed (λ f. f.condition) (map (found_of nodes) new.items.items) rest result
      → IsListed (λ f. f.condition) (map (found_of nodes) old.items.items) (found ++ rest) result

-- SOURCES
-- the conditions that a source gives
abbrev pub conditions_given : Store → ConditionSource → List Condition
conditions_given nodes Nothing = []
conditions_given nodes (One c) = condition_of nodes c ∷ []
conditions_given nodes (Expression e) = expression_conditions (tree_of nodes e)
conditions_given nodes (Expressions e f) = expression_conditions (tree_of nodes e) ++ expression_conditions (tree_of nodes f)

-- its terms stand in the store, and their braces at most 128 deep
abbrev pub IsSourceKept : Store → ConditionSource → Type 0
IsSourceKept nodes Nothing = Unit {0}
IsSourceKept nodes (One c) = IsKept nodes c
IsSourceKept nodes (Expression e) = HasBraces nodes e
IsSourceKept nodes (Expressions e f) = HasBraces nodes e × HasBraces nodes f

-- so do the numbers of the command
abbrev pub IsNumberBraced : Store → Command → Type 0
IsNumberBraced nodes (Pratio w u v r) = HasBraces nodes r
IsNumberBraced nodes (Tratio u v r) = HasBraces nodes r
IsNumberBraced nodes (Lratio a b r) = HasBraces nodes r
IsNumberBraced nodes (Weights a b c r s) = HasBraces nodes r × HasBraces nodes s
IsNumberBraced nodes _ = Unit {0}

-- so do the sides of the statement
abbrev pub AreSidesBraced : Store → Statement → Type 0
AreSidesBraced nodes (Equal e f) = HasBraces nodes e × HasBraces nodes f
AreSidesBraced nodes _ = Unit {0}
