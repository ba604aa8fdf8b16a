-- Placed points have one drawing.
use Rattle.std.proofs.Common.{◌≡◌, ℕ, List, [], ◌∷◌, ◌++◌, refl, sym, ◌∙◌, ap, subst}
use Rattle.std.specs.Prelude.{Ok, Err}
use Rattle.std.specs.List.{AllByRecursion}
use Rattle.std.proofs.lemmas.List.Elements.{recursion_from_All}
use Rattle.geo_place.specs.declared.placed.At.{At}
use Rattle.geo_place.proofs.ListParts.{head_of, tail_of}
use Rattle.geo_figure.specs.declared.errors.DrawError.TheVariants.{NoMemory, TooLarge}
use Rattle.geo_figure.specs.Drawing.{DrawTurn, FitsNumbers, IsTooLargeAt}
use Rattle.geo_figure.specs.Laws.{PointsHaveOneDrawing}

-- the first turn that does not pass is one
first_once : (b : List DrawTurn) (t : DrawTurn) (a b' : List DrawTurn) (t' : DrawTurn) (a' : List DrawTurn) → b ++ t ∷ a ≡ b' ++ t' ∷ a'
    → AllByRecursion FitsNumbers b → (FitsNumbers t → ⊥) → AllByRecursion FitsNumbers b' → (FitsNumbers t' → ⊥) → t ≡ t'
first_once [] t a [] t' a' e h n k m = head_of e
first_once [] t a (x ∷ b') t' a' e h n k m = absurd (n (subst FitsNumbers (sym (head_of e)) k.0))
first_once (x ∷ b) t a [] t' a' e h n k m = absurd (m (subst FitsNumbers (head_of e) h.0))
first_once (x ∷ b) t a (y ∷ b') t' a' e h n k m = first_once b t a b' t' a' (tail_of e) h.1 n k.1 m

line_once : (points : List At) (line line' : ℕ) → IsTooLargeAt points line → IsTooLargeAt points line' → line ≡ line'
line_once points line line' h k =
    let same = first_once h.before h.turn h.after k.before k.turn k.after (sym h.parts ∙ k.parts) (recursion_from_All FitsNumbers h.before h.passed) h.refused
    (recursion_from_All FitsNumbers k.before k.passed) k.refused in
    sym h.same_line ∙ ap (λ (t : DrawTurn). t.line) same ∙ k.same_line

pub one_drawing : PointsHaveOneDrawing
one_drawing placed (Ok a) (Ok b) h k m n = ap Ok (h.0 ∙ sym k.0)
one_drawing placed (Ok a) (Err (TooLarge line)) h k m n = absurd (h.1 line k)
one_drawing placed (Ok a) (Err NoMemory) h k m n = absurd (n refl)
one_drawing placed (Err (TooLarge line)) (Ok b) h k m n = absurd (k.1 line h)
one_drawing placed (Err (TooLarge line)) (Err (TooLarge line')) h k m n = ap (λ (i : ℕ). Err (TooLarge i)) (line_once placed.points line line' h k)
one_drawing placed (Err (TooLarge line)) (Err NoMemory) h k m n = absurd (n refl)
one_drawing placed (Err NoMemory) other h k m n = absurd (m refl)
