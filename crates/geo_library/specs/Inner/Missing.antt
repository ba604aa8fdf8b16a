-- The first condition that the citing program does not have, where a condition may be given again.
use Rattle.std.specs.Prelude.{◌≡◌, ℕ, ◌⊎◌, Contains, Option, Some, None, List, [], ◌∷◌}
use Rattle.geo_program.specs.declared.names.Name.{Name}
use Rattle.geo_program.specs.FormTexts.{form_text}
use Rattle.geo_conditions.specs.Lists.{Found, condition_form}

-- the text of a condition, with these names, is listed
abbrev pub IsFound : List (List ℕ) → List Name → Found → Type 0
IsFound listed given f = Contains listed (form_text given (condition_form f.condition))

-- the line of the first condition whose text is not listed, if there is one
abbrev pub IsFirstNotFound : List (List ℕ) → List Name → List Found → Option ℕ → Type 0
IsFirstNotFound listed given [] missing = missing ≡ None
IsFirstNotFound listed given (f ∷ more) missing =
    (IsFound listed given f × IsFirstNotFound listed given more missing) ⊎ ((IsFound listed given f → ⊥) × (missing ≡ Some f.line))
