-- How long texts are, by the lengths of their lexemes.
use Rattle.std.proofs.Common.{◌≡◌, ℕ, zero, suc, ◌+◌, ◌*◌, ◌≤◌, Bool, true, false, if◌then◌else◌, List, [], ◌∷◌, ◌++◌, length, get_or, Some, None, refl, arith, length-append}
use Rattle.std.specs.Prelude.{All, sum_by}
use Rattle.std.specs.List.{AllByRecursion, cons_option, flat_map}
use Rattle.std.proofs.lemmas.List.Sums.{sum_by-append, sum_by-cons}
use Rattle.geo_lexer.specs.Lexemes.{Lexeme}
use Rattle.geo_program.specs.declared.commands.Command.{Command}
use Rattle.geo_program.specs.declared.names.Name.{Name}
use Rattle.geo_program.specs.declared.names.NameKind.TheVariants as kind
use Rattle.geo_program.specs.CanonicalText.{Sketch, canonical_text, command_lexemes, commands_lexemes, lexeme_text, line_lexemes, line_text, no_sketches, sketch_lexemes, statement_lexemes}
use Rattle.geo_program.specs.Names.{is_kind, name_text, names_of}
use Rattle.geo_program.specs.Forms.{command_form}
use Rattle.geo_program.specs.WellFormed.{Source, later_names, own_names}
use Rattle.geo_program.specs.Words.{IsNameText}
use Rattle.geo_terms.specs.Stores.{Store}

-- the bytes of a lexeme, and the space or the line feed after it
abbrev pub lexeme_size : Lexeme → ℕ
lexeme_size lexeme = length (lexeme_text lexeme) + 1

pub length-line_text : (lexeme : Lexeme) (lexemes : List Lexeme) → length (line_text (lexeme ∷ lexemes)) + 1 ≡ sum_by lexeme_size (lexeme ∷ lexemes)
length-line_text lexeme [] = omega (arith, sum_by-cons lexeme_size lexeme [])
length-line_text lexeme (next ∷ lexemes) =
    omega (arith, length-line_text next lexemes, sum_by-cons lexeme_size lexeme (next ∷ lexemes), length-append (lexeme_text lexeme) (32 ∷ line_text (next ∷ lexemes)))

-- a line has a lexeme
abbrev pub IsFilled : List Lexeme → Type 0
IsFilled [] = ⊥
IsFilled (lexeme ∷ lexemes) = Unit {0}

-- lines with lexemes are as long as all their lexemes with one byte after each
pub length-lines : (lines : List (List Lexeme)) → AllByRecursion IsFilled lines → length (flat_map (λ line. line_text line ++ 10 ∷ []) lines) ≡ sum_by lexeme_size (flat_map (λ line. line) lines)
length-lines [] h = refl
length-lines ([] ∷ lines) h = absurd h.0
length-lines ((lexeme ∷ lexemes) ∷ lines) h =
    omega (
      arith,
      length-lines lines h.1,
      length-line_text lexeme lexemes,
      length-append (line_text (lexeme ∷ lexemes) ++ 10 ∷ []) (flat_map (λ line. line_text line ++ 10 ∷ []) lines),
      length-append (line_text (lexeme ∷ lexemes)) (10 ∷ []),
      sum_by-append lexeme_size (lexeme ∷ lexemes) (flat_map (λ (line : List Lexeme). line) lines),
    )

-- commands, and one more line
lines_filled : (all : List Name) (nodes : Store) (names : List Name) (commands : List Command) (sketches : List Sketch) (last : List Lexeme)
    → IsFilled last → AllByRecursion IsFilled (commands_lexemes all nodes names commands sketches ++ last ∷ [])
lines_filled all nodes names (command ∷ commands) (sketch ∷ sketches) last h =
    (tt, lines_filled all nodes (later_names (command_form nodes command) names) commands sketches last h)
lines_filled all nodes names [] sketches last h = (h, tt)
lines_filled all nodes names (command ∷ commands) [] last h = (h, tt)

-- the canonical text is as long as its lexemes with one byte after each
pub length-canonical_text : (p : Source) → length (canonical_text p) ≡ sum_by lexeme_size (flat_map (λ line. line) (line_lexemes (no_sketches p.commands) p))
length-canonical_text p =
    length-lines (line_lexemes (no_sketches p.commands) p)
    (lines_filled p.names p.nodes p.names p.commands (no_sketches p.commands) (statement_lexemes p.names p.nodes p.statement) tt)

-- lexemes of lines, with a byte after each
lines_size : List (List Lexeme) → ℕ
lines_size lines = sum_by lexeme_size (flat_map (λ line. line) lines)

lines_size-cons : (line : List Lexeme) (lines : List (List Lexeme)) → lines_size (line ∷ lines) ≡ sum_by lexeme_size line + lines_size lines
unfolding lines_size
lines_size-cons line lines = sum_by-append lexeme_size line (flat_map (λ (line : List Lexeme). line) lines)

-- without the numbers that may follow points the lines are no longer
sketches_lengthen : (all : List Name) (nodes : Store) (names : List Name) (commands : List Command) (sketches : List Sketch)
    (last : List Lexeme) → length commands ≡ length sketches
    → lines_size (commands_lexemes all nodes names commands (no_sketches commands) ++ last ∷ [])
    ≤ lines_size (commands_lexemes all nodes names commands sketches ++ last ∷ [])
sketches_lengthen all nodes names [] sketches last h = omega arith
sketches_lengthen all nodes names (command ∷ commands) [] last h = absurd (omega arith)
sketches_lengthen all nodes names (command ∷ commands) (sketch ∷ sketches) last h =
    let own = command_lexemes all nodes (own_names (command_form nodes command) names) command in
    let later = later_names (command_form nodes command) names in
    omega (
      arith,
      sketches_lengthen all nodes later commands sketches last (omega arith),
      lines_size-cons (own ++ []) (commands_lexemes all nodes later commands (no_sketches commands) ++ last ∷ []),
      lines_size-cons (own ++ sketch_lexemes sketch) (commands_lexemes all nodes later commands sketches ++ last ∷ []),
      sum_by-append lexeme_size own [],
      sum_by-append lexeme_size own (sketch_lexemes sketch),
    )

-- the canonical text is not longer than the lexemes of any text of the program, with a byte after each
pub canonical_text_short : (p : Source) (sketches : List Sketch) → length p.commands ≡ length sketches
    → length (canonical_text p) ≤ sum_by lexeme_size (flat_map (λ line. line) (line_lexemes sketches p))
unfolding lines_size
canonical_text_short p sketches h =
    omega (arith, length-canonical_text p, sketches_lengthen p.names p.nodes p.names p.commands sketches (statement_lexemes p.names p.nodes p.statement) h)

-- lexemes of at most m bytes
pub sizes_small : (m : ℕ) (lexemes : List Lexeme) → AllByRecursion (λ l. lexeme_size l ≤ m) lexemes → sum_by lexeme_size lexemes ≤ m * length lexemes
sizes_small m [] h = omega arith
sizes_small m (l ∷ lexemes) h = omega (arith, h.0, sum_by-cons lexeme_size l lexemes, sizes_small m lexemes h.1)

-- names have at most 64 bytes
pub texts_short : (names : List Name) → All (λ n. IsNameText n.text) names → AllByRecursion (λ n. length n.text ≤ 64) names
texts_short [] h = tt
texts_short (n ∷ names) h = ((h 0 n (omega arith)).short, texts_short names (λ k d lt. h (suc k) d (omega (arith, lt))))

-- the name of each point has at most 64 bytes
pub short_points : (names : List Name) → AllByRecursion (λ n. length n.text ≤ 64) names → (k : ℕ) → length (name_text kind.Point names k) ≤ 64
short_points [] h k = empty k
  where
    empty : (k : ℕ) → length (get_or {A = List ℕ} [] k []) ≤ 64
    empty zero = omega arith
    empty (suc k) = omega arith
short_points (n ∷ names) h k = by_test (short_points names h.1) (is_kind n.kind kind.Point) k
  where
    by_test : ((k : ℕ) → length (name_text kind.Point names k) ≤ 64) → (b : Bool) (k : ℕ)
        → length (get_or (cons_option (if b then Some n.text else None) (names_of kind.Point names)) k []) ≤ 64
    by_test later true zero = h.0
    by_test later true (suc k) = later k
    by_test later false k = later k
