-- Programs that are the same have one canonical text.
use Rattle.std.proofs.Common.{◌≡◌, List, [], ◌∷◌, ◌++◌, map, refl, ap, ap₂, ◌∙◌}
use Rattle.std.specs.Prelude.{codes}
use Rattle.std.specs.List.{flat_map}
use Rattle.geo_lexer.specs.Lexemes.{Lexeme, word_lexeme}
use Rattle.geo_program.specs.declared.commands.Command.{Command}
use Rattle.geo_program.specs.declared.names.Name.{Name}
use Rattle.geo_program.specs.CanonicalText.{argument_lexemes, canonical_text, commands_lexemes, condition_lexemes, line_lexemes, line_text, no_sketches, statement_lexemes}
use Rattle.geo_program.specs.Expressions.{braced}
use Rattle.geo_program.specs.Forms.{CommandForm, StatementForm, command_form}
use Rattle.geo_program.specs.Spelling.{SameSource}
use Rattle.geo_program.specs.WellFormed.{Source, later_names, own_names}
use Rattle.geo_terms.specs.Stores.{Store}

-- the spelling of a form with its own name among these
form_lexemes : List Name → List Name → CommandForm → List Lexeme
form_lexemes all names form =
    (word_lexeme form.word ∷ condition_lexemes form.condition ++ (map (λ name. word_lexeme name.text) (own_names form names) ++ flat_map (argument_lexemes all) form.arguments)) ++ []

-- the spelling of a statement's form
sentence_lexemes : List Name → StatementForm → List Lexeme
sentence_lexemes all form =
    word_lexeme (codes "prove") ∷ braced (word_lexeme form.word ∷ flat_map (argument_lexemes all) form.arguments)

-- commands of the same forms are spelt alike, over the same names
same_commands : (all names : List Name) (np nq : Store) (cs ds : List Command) → map (command_form np) cs ≡ map (command_form nq) ds
    → commands_lexemes all np names cs (no_sketches cs) ≡ commands_lexemes all nq names ds (no_sketches ds)
unfolding form_lexemes
same_commands all names np nq [] [] h = refl
same_commands all names np nq [] (d ∷ ds) h = absurd (cc)
same_commands all names np nq (c ∷ cs) [] h = absurd (cc)
same_commands all names np nq (c ∷ cs) (d ∷ ds) h =
    let form : command_form np c ≡ command_form nq d = cc in
    let forms : map (command_form np) cs ≡ map (command_form nq) ds = cc in
    ap (λ x. form_lexemes all names x ∷ commands_lexemes all np (later_names x names) cs (no_sketches cs)) form
    ∙ ap (λ xs. form_lexemes all names (command_form nq d) ∷ xs) (same_commands all (later_names (command_form nq d) names) np nq cs ds forms)

-- programs that are the same have the same lines
pub same_lines : (p q : Source) → SameSource p q → line_lexemes (no_sketches p.commands) p ≡ line_lexemes (no_sketches q.commands) q
unfolding sentence_lexemes
same_lines p q same =
    let commands = same_commands p.names p.names p.nodes q.nodes p.commands q.commands same.commands in
    ap₂ (λ cs s. cs ++ sentence_lexemes p.names s ∷ []) commands same.statement
    ∙ ap (λ names. commands_lexemes names q.nodes names q.commands (no_sketches q.commands) ++ statement_lexemes names q.nodes q.statement ∷ []) same.names

-- programs that are the same have the same canonical text
pub same_text : (p q : Source) → SameSource p q → canonical_text p ≡ canonical_text q
same_text p q same = ap (λ lines. flat_map (λ line. line_text line ++ 10 ∷ []) lines) (same_lines p q same)
