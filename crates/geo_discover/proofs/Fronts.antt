-- How long the lines before the chains are, with one candidate and with another.
use Rattle.std.proofs.Common.{◌≡◌, ℕ, ◌+◌, ◌≤◌, List, [], ◌∷◌, ◌++◌, codes, length, map, ◌∙◌, ap, arith}
use Rattle.std.specs.Prelude.{IfSome, IsSomeAnd, Option, None, Some, sum_by}
use Rattle.std.specs.List.{flat_map}
use Rattle.std.proofs.lemmas.List.{length-append, map-append}
use Rattle.std.proofs.lemmas.List.Sums.{sum_by-append, sum_by-cons}
use Rattle.geo_lexer.specs.Lexemes.{Lexeme, close_brace, open_brace, word_lexeme}
use Rattle.geo_logs.specs.Ends.{text_length}
use Rattle.geo_program.specs.CanonicalText.{argument_lexemes, commands_lexemes, line_text, no_sketches, statement_lexemes}
use Rattle.geo_program.specs.Expressions.{braced}
use Rattle.geo_program.specs.Forms.{statement_form}
use Rattle.geo_program.specs.Relations.{with_statement}
use Rattle.geo_program.specs.WellFormed.{Source}
use Rattle.geo_program.specs.declared.statements.Statement.{Statement}
use Rattle.geo_program.proofs.Lengths.{length-line_text, lexeme_size}
use Rattle.proof_log.specs.declared.log.Line.{Line}
use Rattle.proof_log.specs.declared.log.Line.TheVariants.{Header, Program as ProgramLine}
use Rattle.geo_chain.specs.FirstLines.{program_lines}
use Rattle.geo_chain.proofs.Passing.{text_length-append}
use Rattle.geo_discover.specs.FoundTexts.{candidate_text}
use Rattle.geo_discover.specs.Inner.Sharing.{IsFrontOf}

module _ (p : Source) where
  -- the word and the braces around a statement
  around : ℕ
  around = lexeme_size (word_lexeme (codes "prove")) + lexeme_size open_brace + lexeme_size close_brace

  stated : Statement → List ℕ
  stated s = line_text (statement_lexemes p.names p.nodes s)

  stated_length : (s : Statement) → length (stated s) ≡ around + length (candidate_text p s)
  unfolding around stated
  stated_length s =
      let word = word_lexeme (statement_form p.nodes s).word in
      let others = flat_map (argument_lexemes p.names) (statement_form p.nodes s).arguments in
      let inner : List Lexeme = word ∷ others in
      let prove = word_lexeme (codes "prove") in
      let size = lexeme_size in
      let whole : length (line_text (prove ∷ braced inner)) + 1 ≡ sum_by size (prove ∷ braced inner) = length-line_text prove (braced inner) in
      let a : sum_by size (prove ∷ braced inner) ≡ size prove + sum_by size (open_brace ∷ (inner ++ close_brace ∷ [])) = sum_by-cons size prove (braced inner) in
      let b : sum_by size (open_brace ∷ (inner ++ close_brace ∷ [])) ≡ size open_brace + sum_by size (inner ++ close_brace ∷ []) =
      sum_by-cons size open_brace (inner ++ close_brace ∷ []) in
      let d : sum_by size (inner ++ close_brace ∷ []) ≡ sum_by size inner + sum_by size (close_brace ∷ []) =
      sum_by-append size inner (close_brace ∷ []) in
      let e : sum_by size (close_brace ∷ []) ≡ size close_brace + 0 = sum_by-cons size close_brace [] in
      let f : length (candidate_text p s) + 1 ≡ sum_by size inner = length-line_text word others in
      omega (arith, whole, a, b, d, e, f)

  -- the lines before that of the statement
  before : List Line
  before = Header 2 ∷ map ProgramLine (map line_text (commands_lexemes p.names p.nodes p.names p.commands (no_sketches p.commands)))

  lines_split : (s : Statement) → program_lines (with_statement p s) ≡ before ++ ProgramLine (stated s) ∷ []
  unfolding before stated
  lines_split s =
      let commands = commands_lexemes p.names p.nodes p.names p.commands (no_sketches p.commands) in
      let last = statement_lexemes p.names p.nodes s in
      ap (λ (xs : List (List ℕ)). Header 2 ∷ map ProgramLine xs) (map-append line_text commands (last ∷ []))
      ∙ ap (λ (xs : List Line). Header 2 ∷ xs) (map-append ProgramLine (map line_text commands) (line_text last ∷ []))

  line_length : (text : List ℕ) → text_length (ProgramLine text ∷ []) ≡ length text + 3
  line_length text =
      let a : length ((codes "| " ++ text) ++ 10 ∷ []) ≡ length (codes "| " ++ text) + 1 = length-append (codes "| " ++ text) (10 ∷ []) in
      let b : length (codes "| " ++ text) ≡ 2 + length text = length-append (codes "| ") text in
      let d : text_length (ProgramLine text ∷ []) ≡ length ((codes "| " ++ text) ++ 10 ∷ []) + 0 = length-append ((codes "| " ++ text) ++ 10 ∷ []) [] in
      omega (arith, a, b, d)

  whole_length : (s : Statement) → text_length (program_lines (with_statement p s)) ≡ text_length before + (around + length (candidate_text p s) + 3)
  whole_length s =
      let a : text_length (program_lines (with_statement p s)) ≡ text_length (before ++ ProgramLine (stated s) ∷ []) =
      ap (λ (xs : List Line). text_length xs) (lines_split s) in
      let b = text_length-append before (ProgramLine (stated s) ∷ []) in
      let d = line_length (stated s) in
      let e = stated_length s in
      omega (arith, a, b, d, e)

  -- those with one candidate bound those with each
  pub front_with : (first : Statement) (n : ℕ) → n ≡ text_length (program_lines (with_statement p first)) → IsFrontOf p n
  front_with first n e =
      λ s. let a = whole_length s in let b = whole_length first in omega (arith, e, a, b)

  -- with a candidate whose text has so many bytes they have at most as many more
  pub front_within : (s : Statement) (front : Option ℕ) (bytes most : ℕ) → IfSome front (IsFrontOf p) → IsSomeAnd front (λ n. most ≡ n + bytes)
      → bytes ≡ length (candidate_text p s) → text_length (program_lines (with_statement p s)) ≤ most
  front_within s None bytes most h sum own = absurd sum
  front_within s (Some n) bytes most h sum own = let a = h s in omega (arith, a, sum, own)
