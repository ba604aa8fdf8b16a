-- Lexemes with spaces before them, one after another.
use Rattle.std.proofs.Common.{◌≡◌, ℕ, List, [], ◌∷◌, ◌++◌, map, refl, sym, ap, ◌∙◌, append_assoc}
use Rattle.std.specs.List.{flat_map}
use Rattle.std.proofs.lemmas.List.{append-nil}
use Rattle.std.proofs.lemmas.List.Concat.{flat_map-append}
use Rattle.geo_lexer.specs.Lexemes.{Lexeme, word_lexeme}
use Rattle.geo_points.specs.declared.ids.PointId.{PointId}
use Rattle.geo_program.specs.declared.names.Name.{Name}
use Rattle.geo_program.specs.CanonicalText.{argument_lexemes, lexeme_text, line_text}
use Rattle.geo_program.specs.Expressions.{expression_lexemes, point_lexeme}
use Rattle.geo_program.specs.Forms.{number_argument, point_argument}
use Rattle.geo_program.specs.Inner.Printing.{spaced_text}
use Rattle.geo_terms.specs.Trees.{Tree}

pub spaced-append : (xs ys : List Lexeme) → spaced_text (xs ++ ys) ≡ spaced_text xs ++ spaced_text ys
unfolding spaced_text
spaced-append xs ys = flat_map-append (λ lexeme. 32 ∷ lexeme_text lexeme) xs ys

pub spaced_one : (lexeme : Lexeme) → spaced_text (lexeme ∷ []) ≡ 32 ∷ lexeme_text lexeme
unfolding spaced_text
spaced_one lexeme = append-nil (32 ∷ lexeme_text lexeme)

-- a line is its first lexeme and the others with spaces before them
pub line_text-spaced : (lexeme : Lexeme) (lexemes : List Lexeme) → line_text (lexeme ∷ lexemes) ≡ lexeme_text lexeme ++ spaced_text lexemes
unfolding spaced_text
line_text-spaced lexeme [] = sym (append-nil (lexeme_text lexeme))
line_text-spaced lexeme (next ∷ lexemes) = ap (λ text. lexeme_text lexeme ++ (32 ∷ text)) (line_text-spaced next lexemes)

-- one list is the other with these lexemes behind it
pub record Appends (before after : List ℕ) (lexemes : List Lexeme) : Type 0 where
  pub is : after ≡ before ++ spaced_text lexemes

infixl 5 ◌⟫◌
pub ◌⟫◌ : {a b c : List ℕ} {xs ys : List Lexeme} → Appends a b xs → Appends b c ys → Appends a c (xs ++ ys)
◌⟫◌ {a} {b} {c} {xs} {ys} h k = record {
  is = k.is ∙ ap (λ t. t ++ spaced_text ys) h.is ∙ append_assoc a (spaced_text xs) (spaced_text ys) ∙ ap (λ t. a ++ t) (sym (spaced-append xs ys));
}

pub appends : (a b : List ℕ) (xs : List Lexeme) → b ≡ a ++ spaced_text xs → Appends a b xs
appends a b xs h = record { is = h }

pub appends_none : (a : List ℕ) → Appends a a []
unfolding spaced_text
appends_none a = record { is = sym (append-nil a) }

pub appends_lexeme : (a b : List ℕ) (lexeme : Lexeme) → b ≡ a ++ 32 ∷ lexeme_text lexeme → Appends a b (lexeme ∷ [])
appends_lexeme a b lexeme h = record { is = h ∙ ap (λ t. a ++ t) (sym (spaced_one lexeme)) }

-- the same lexemes, written otherwise
pub appends_same : {a b : List ℕ} {xs : List Lexeme} (ys : List Lexeme) → Appends a b xs → xs ≡ ys → Appends a b ys
appends_same {a} {b} {xs} ys h e = record { is = h.is ∙ ap (λ l. a ++ spaced_text l) e }

-- a line's first lexeme, and then the others
pub begins_line : (a b c : List ℕ) (lexeme : Lexeme) (lexemes : List Lexeme) → b ≡ a ++ lexeme_text lexeme → Appends b c lexemes → c ≡ a ++ line_text (lexeme ∷ lexemes)
begins_line a b c lexeme lexemes first rest =
    rest.is
    ∙ ap (λ t. t ++ spaced_text lexemes) first
    ∙ append_assoc a (lexeme_text lexeme) (spaced_text lexemes)
    ∙ ap (λ t. a ++ t) (sym (line_text-spaced lexeme lexemes))

-- a token that is this text
pub appends_token : (a b token text : List ℕ) → b ≡ a ++ 32 ∷ token → token ≡ text → Appends a b (word_lexeme text ∷ [])
appends_token a b token text h is = appends_lexeme a b (word_lexeme text) (h ∙ ap (λ t. a ++ 32 ∷ t) is)

-- points and the number of a step, as arguments
pub flat_map-points : (names : List Name) (points : List PointId) (e : Tree)
    → map (point_lexeme names) points ++ expression_lexemes names e ≡ flat_map (argument_lexemes names)
    (map point_argument points ++ number_argument e ∷ [])
flat_map-points names [] e = sym (append-nil (expression_lexemes names e))
flat_map-points names (a ∷ points) e = ap (λ l. point_lexeme names a ∷ l) (flat_map-points names points e)

-- points and the two numbers of a step, as arguments
pub flat_map-numbers : (names : List Name) (points : List PointId) (r s : Tree)
    → flat_map (argument_lexemes names) (map point_argument points ++ number_argument r ∷ []) ++ expression_lexemes names s
    ≡ flat_map (argument_lexemes names) (map point_argument points ++ number_argument r ∷ number_argument s ∷ [])
flat_map-numbers names [] r s = append_assoc (expression_lexemes names r) [] (expression_lexemes names s) ∙ ap (λ l. expression_lexemes names r ++ l) (sym (append-nil (expression_lexemes names s)))
flat_map-numbers names (a ∷ points) r s = ap (λ l. point_lexeme names a ∷ l) (flat_map-numbers names points r s)

-- points, as arguments
pub points_spelt : (names : List Name) (points : List PointId) → map (point_lexeme names) points ≡ flat_map (argument_lexemes names) (map point_argument points)
points_spelt names [] = refl
points_spelt names (a ∷ points) = ap (λ l. point_lexeme names a ∷ l) (points_spelt names points)
