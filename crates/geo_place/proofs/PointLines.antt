-- The line of a point, put together.
use Rattle.std.proofs.Common.{◌≡◌, ℕ, List, [], ◌∷◌, ◌++◌, append_assoc, ap, sym, ◌∙◌}
use Rattle.std.specs.List.{join_with_byte}

pub line_joined : (a n x y w b c d e f : List ℕ) → b ≡ a ++ n → c ≡ b ++ 32 ∷ x → d ≡ c ++ 32 ∷ y → e ≡ d ++ 32 ∷ w → f ≡ e ++ 10 ∷ []
    → f ≡ a ++ (join_with_byte 32 (n ∷ x ∷ y ∷ w ∷ []) ++ 10 ∷ [])
line_joined a n x y w b c d e f p q r s t =
    let W = w ++ 10 ∷ [] in
    let Y = y ++ 32 ∷ W in
    let X = x ++ 32 ∷ Y in
    let last : e ++ 10 ∷ [] ≡ d ++ 32 ∷ W = ap (λ (z : List ℕ). z ++ 10 ∷ []) s ∙ append_assoc d (32 ∷ w) (10 ∷ []) in
    let third : d ++ 32 ∷ W ≡ c ++ 32 ∷ Y = ap (λ (z : List ℕ). z ++ 32 ∷ W) r ∙ append_assoc c (32 ∷ y) (32 ∷ W) in
    let second : c ++ 32 ∷ Y ≡ b ++ 32 ∷ X = ap (λ (z : List ℕ). z ++ 32 ∷ Y) q ∙ append_assoc b (32 ∷ x) (32 ∷ Y) in
    let first : b ++ 32 ∷ X ≡ a ++ (n ++ 32 ∷ X) = ap (λ (z : List ℕ). z ++ 32 ∷ X) p ∙ append_assoc a n (32 ∷ X) in
    let inner : (y ++ 32 ∷ w) ++ 10 ∷ [] ≡ Y = append_assoc y (32 ∷ w) (10 ∷ []) in
    let middle : (x ++ 32 ∷ (y ++ 32 ∷ w)) ++ 10 ∷ [] ≡ X = append_assoc x (32 ∷ (y ++ 32 ∷ w)) (10 ∷ []) ∙ ap (λ (z : List ℕ). x ++ 32 ∷ z) inner in
    let whole : (n ++ 32 ∷ (x ++ 32 ∷ (y ++ 32 ∷ w))) ++ 10 ∷ [] ≡ n ++ 32 ∷ X = append_assoc n (32 ∷ (x ++ 32 ∷ (y ++ 32 ∷ w))) (10 ∷ []) ∙ ap (λ (z : List ℕ). n ++ 32 ∷ z) middle in
    t ∙ last ∙ third ∙ second ∙ first ∙ ap (λ (z : List ℕ). a ++ z) (sym whole)
