-- Comparing texts.
use Rattle.std.specs.Prelude.{ℕ, Bool, true, false, ◌==◌, ◌&&◌, Option, List, [], ◌∷◌, find, option_map}

-- both texts are the same
abbrev pub is_text : List ℕ → List ℕ → Bool
is_text [] [] = true
is_text (a ∷ as') (b ∷ bs) = a == b && is_text as' bs
is_text _ _ = false

-- what a table of words has for a word
abbrev pub found : {W : Type 0} → List (List ℕ × W) → List ℕ → Option W
found table word = option_map (λ e. e.1) (find (λ e. is_text e.0 word) table)
