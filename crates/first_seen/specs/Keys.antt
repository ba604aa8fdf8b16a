-- Keys in the order in which they came, each once.
use Rattle.std.specs.Prelude.{Bool, List, [], ◌∷◌, ◌++◌, if◌then◌else◌}
use Rattle.std.specs.List.{list_any}

-- the keys with k: they stay if one is equal to k, and else k goes last
abbrev pub with_key : {K : Type 0} → (K → K → Bool) → List K → K → List K
with_key eq keys k = if list_any (eq k) keys then keys else keys ++ k ∷ []
