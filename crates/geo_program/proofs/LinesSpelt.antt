-- The canonical text of a well-formed program has the program's lexemes.
use Rattle.std.proofs.Common.{◌≡◌, List, [], ◌∷◌, ◌++◌, refl, sym, ap, subst, ◌∙◌, inl, arith}
use Rattle.std.specs.Prelude.{All}
use Rattle.std.specs.List.{AllByRecursion, flat_map}
use Rattle.std.proofs.lemmas.List.Elements.{All-from_recursion, All-weaker, recursion_from_All}
use Rattle.geo_lexer.specs.Lexemes.{Lexeme, MayStand, word_lexeme, number_lexeme, open_brace, close_brace}
use Rattle.geo_lexer.proofs.Phrases.{Spells, Spells-close, Spells-lines, Spells-nil, Spells-number, Spells-open, Spells-space, Spells-word}
use Rattle.geo_program.specs.declared.commands.Command.{Command}
use Rattle.geo_program.specs.declared.names.Name.{Name}
use Rattle.geo_program.specs.CanonicalText.{canonical_text, command_lexemes, commands_lexemes, lexeme_text, line_lexemes, line_text, no_sketches, statement_lexemes}
use Rattle.geo_program.specs.Forms.{Argument, command_form, statement_form}
use Rattle.geo_program.specs.Inner.Printing.{whole_scope}
use Rattle.geo_program.specs.Spelling.{AreSketches, SpellsSource}
use Rattle.geo_program.specs.WellFormed.{AreCommands, IsArgument, IsWellFormed, Scope, Source, empty_scope, later_names, own_names, scope_of}
use Rattle.geo_program.specs.Words.{IsNameText}
use Rattle.geo_program.proofs.OnceNamed.{All-back, All-front}
use Rattle.geo_program.proofs.OwnNames.{own_and_later}
use Rattle.geo_program.proofs.ScopeLemmas.{IsWithinScope, IsWithinScope-scope_of, IsWithinScope-trans, arguments_wider, scope_of-append}
use Rattle.geo_program.proofs.Standing.{MayAllStand, MayAllStand-append, command_stands, statement_stands}
use Rattle.geo_terms.specs.Stores.{Store}

lexeme_spelt : (lexeme : Lexeme) → MayStand lexeme → Spells (lexeme_text lexeme) (lexeme ∷ [])
lexeme_spelt (word_lexeme text) h = Spells-word text h
lexeme_spelt (number_lexeme n) h = Spells-number n h
lexeme_spelt open_brace h = Spells-open
lexeme_spelt close_brace h = Spells-close

-- a line has its lexemes
pub line_spelt : (lexemes : List Lexeme) → MayAllStand lexemes → Spells (line_text lexemes) lexemes
line_spelt [] h = Spells-nil
line_spelt (lexeme ∷ []) h = lexeme_spelt lexeme h.0
line_spelt (lexeme ∷ next ∷ lexemes) h =
    Spells-space (lexeme_text lexeme) (line_text (next ∷ lexemes)) (lexeme ∷ []) (next ∷ lexemes) (lexeme_spelt lexeme h.0) (line_spelt (next ∷ lexemes) h.1)

-- all lexemes of each line may stand in a text
abbrev LinesStand : List (List Lexeme) → Type 0
LinesStand lines = AllByRecursion MayAllStand lines

module _ (all : List Name) (nodes : Store) (valid : All (λ n. IsNameText n.text) all) where
  arguments_in : (s : Scope) (arguments : List Argument) → IsWithinScope s (whole_scope all) → All (IsArgument s) arguments → AllByRecursion (IsArgument (whole_scope all)) arguments
  arguments_in s arguments within h = recursion_from_All (IsArgument (whole_scope all)) arguments (arguments_wider s (whole_scope all) arguments within h)

  lines_stand : (s : Scope) (names : List Name) (commands : List Command) (last : List Lexeme)
      → IsWithinScope (scope_of s names) (whole_scope all) → All (λ n. IsNameText n.text) names → AreCommands nodes s names commands
      → MayAllStand last → LinesStand (commands_lexemes all nodes names commands (no_sketches commands) ++ last ∷ [])
  lines_stand s names [] last within named h end = (end, tt)
  lines_stand s names (command ∷ commands) last within named h end =
      let f = command_form nodes command in
      let own = own_names f names in
      let later = later_names f names in
      let scopes : scope_of s names ≡ scope_of (scope_of s own) later = ap (scope_of s) (sym (own_and_later f names)) ∙ scope_of-append s own later in
      let both : All (λ n. IsNameText n.text) (own ++ later) = subst (All (λ n. IsNameText n.text)) (sym (own_and_later f names)) named in
      let here = IsWithinScope-trans s (scope_of s names) (whole_scope all) (IsWithinScope-scope_of s names) within in
      let line = command_lexemes all nodes own command in
      let stands = command_stands all valid nodes own command (All-front (λ (n : Name). IsNameText n.text) own later both) (arguments_in s f.arguments here h.0.arguments) in (
        MayAllStand-append line [] stands tt,
        lines_stand (scope_of s own) later commands last (subst (λ (t : Scope). IsWithinScope t (whole_scope all)) scopes within) (All-back (λ (n : Name). IsNameText n.text) own later both) h.1 end,
      )

-- no command has numbers behind it
pub AreSketches-none : (commands : List Command) → AreSketches commands (no_sketches commands)
AreSketches-none [] = tt
AreSketches-none (command ∷ commands) = (inl refl, AreSketches-none commands)

-- the canonical text has no comment, and the lexemes of the program
pub canonical_text_spelt : (p : Source) → IsWellFormed p → Spells (canonical_text p) (flat_map (λ line. line) (line_lexemes (no_sketches p.commands) p))
canonical_text_spelt p h =
    let lines = line_lexemes (no_sketches p.commands) p in
    let statement = statement_stands p.names h.names p.nodes p.statement (recursion_from_All (IsArgument (whole_scope p.names)) (statement_form p.nodes p.statement).arguments h.statement) in
    let stand = lines_stand p.names p.nodes h.names empty_scope p.names p.commands (statement_lexemes p.names p.nodes p.statement)
    (record { points = omega arith; params = omega arith; lines = omega arith }) h.names h.commands statement in
    Spells-lines line_text (λ line. line) lines
    (All-weaker MayAllStand (λ line. Spells (line_text line) line) line_spelt lines (All-from_recursion MayAllStand lines stand))

-- the canonical text of a well-formed program spells it
pub well_formed_is_spelt : (p : Source) → IsWellFormed p → SpellsSource (canonical_text p) p
well_formed_is_spelt p h = record {
  well_formed = h;
  sketches = no_sketches p.commands;
  sketched = AreSketches-none p.commands;
  lexemes = (canonical_text_spelt p h).has;
}
