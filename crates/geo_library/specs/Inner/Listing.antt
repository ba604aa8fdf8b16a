-- The conditions that are asked, as the code takes them.
use Rattle.std.specs.Prelude.{◌≡◌, ℕ, ◌⊎◌, Contains, Option, Some, None, List, [], ◌∷◌}
use Rattle.geo_program.specs.declared.names.Name.{Name}
use Rattle.geo_program.specs.FormTexts.{form_text}
use Rattle.geo_terms.specs.Stores.{Store}
use Rattle.geo_conditions.specs.declared.conditions.ListedCondition.{ListedCondition}
use Rattle.geo_conditions.specs.Inner.ConditionLists.{condition_of}
use Rattle.geo_conditions.specs.Lists.{condition_form}

-- the text of a condition, with these names
abbrev pub asked_text : List Name → Store → ListedCondition → List ℕ
asked_text names nodes i = form_text names (condition_form (condition_of nodes i.condition))

-- the line of the first condition whose text is not listed, if there is one
abbrev pub IsFirstMissing : List (List ℕ) → (ListedCondition → List ℕ) → List ListedCondition → Option ℕ → Type 0
IsFirstMissing listed text [] found = found ≡ None
IsFirstMissing listed text (i ∷ more) found =
    (Contains listed (text i) × IsFirstMissing listed text more found) ⊎ ((Contains listed (text i) → ⊥) × (found ≡ Some i.line))
