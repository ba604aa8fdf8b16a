-- The lines of conditions, one by one. No public contract cites them.
use Rattle.std.specs.Prelude.{ℕ, suc, List, [], ◌∷◌, ◌++◌, codes}
use Rattle.std.specs.Fmt.{decimal}
use Rattle.geo_conditions.specs.declared.items.Item.{Item}

-- the line of a condition with this number
abbrev pub condition_line : ℕ → List ℕ → List ℕ
condition_line k text = codes "condition " ++ decimal k ++ codes " " ++ text ++ 10 ∷ []

-- the lines of conditions, numbered from k on
abbrev pub condition_lines : ℕ → List Item → List ℕ
condition_lines k [] = []
condition_lines k (item ∷ items) = condition_line k item.text ++ condition_lines (suc k) items
