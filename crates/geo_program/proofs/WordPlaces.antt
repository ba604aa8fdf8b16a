-- The places of words in tables.
use Rattle.std.proofs.Common.{◌≡◌, ℕ, suc, Bool, true, false, List, [], ◌∷◌, eqb, ◌&&◌, if◌then◌else◌, refl}

-- two texts are the same
abbrev pub same_text : List ℕ → List ℕ → Bool
same_text [] [] = true
same_text (x ∷ xs) (y ∷ ys) = eqb x y && same_text xs ys
same_text _ _ = false

-- the place of a word in a table, or the table's length
abbrev pub place_of : List ℕ → List (List ℕ) → ℕ
place_of word [] = 0
place_of word (w ∷ words) = if same_text word w then 0 else suc (place_of word words)

-- both parts of a test that passes
pub both : (x y : Bool) → (x && y) ≡ true → (x ≡ true) × (y ≡ true)
both true true h = (refl, refl)
both true false h = absurd (cc)
both false y h = absurd (cc)
