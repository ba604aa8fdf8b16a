-- Reading a whole program.
use Rattle.std.proofs.Common.{◌≡◌, ℕ, ◌*◌, ◌≤◌, List, [], ◌∷◌, ◌++◌, length, map, Some, None, codes, refl, sym, ap, ◌∙◌, subst, arith}
use Rattle.std.specs.Prelude.{All, Option, sum_by}
use Rattle.std.specs.List.{flat_map}
use Rattle.std.proofs.lemmas.Grind.{flat_map-append}
use Rattle.std.proofs.lemmas.List.{append-nil, length-map}
use Rattle.geo_lexer.specs.declared.token_types.Fault.{Fault}
use Rattle.geo_lexer.specs.declared.token_types.Token.{Token}
use Rattle.geo_lexer.specs.Lexemes.{Lexeme, lexeme_of, word_lexeme}
use Rattle.geo_lexer.specs.Tokens.{IsLexed}
use Rattle.geo_lexer.proofs.TokenListLemmas.{StandInRow-lexed}
use Rattle.geo_program.specs.CanonicalText.{argument_lexemes, canonical_text, commands_lexemes, line_lexemes, statement_lexemes}
use Rattle.geo_program.specs.Expressions.{braced}
use Rattle.geo_program.specs.Forms.{statement_form}
use Rattle.geo_program.specs.Spelling.{SpellsSource}
use Rattle.geo_program.specs.WellFormed.{AllDiffer, AreCommands, IsArgument, IsWellFormed, Source, empty_scope, scope_of}
use Rattle.geo_program.specs.Words.{IsNameText}
use Rattle.geo_program.specs.declared.commands.Command.{Command}
use Rattle.geo_program.specs.declared.names.Name.{Name}
use Rattle.geo_program.specs.declared.statements.Statement.{Statement}
use Rattle.geo_program.proofs.Lengths.{canonical_text_short, lexeme_size}
use Rattle.geo_program.proofs.Pushing.{AreSketches-length, commands_lexemes-kept}
use Rattle.geo_program.proofs.Staying.{AreCommands-kept}
use Rattle.geo_parser.specs.declared.reader.Reader.{Reader}
use Rattle.geo_parser.specs.Inner.Coming.{Coming, lexemes_of}
use Rattle.geo_parser.specs.Forms.{command_slot}
use Rattle.geo_parser.specs.Inner.Reads.{Extends, Passes, ReadsAllCommands, ReadsStatement, Refuses, extent, fault_of, statement_slots}
use Rattle.geo_parser.specs.Refusals.{IsRefused, placed_lexemes}
use Rattle.geo_parser.proofs.CommandReading.{Passes-length}
use Rattle.geo_parser.proofs.CommandsReading.{KeepsTrees-extends, points_kept}
use Rattle.geo_parser.proofs.Reading.{Extends-same, Extends-then, Passes-then}
use Rattle.geo_parser.proofs.Sizes.{lexemes_short, tokens_few}

-- what is to come of a whole text
abbrev pub whole_text : List ℕ → List Token → Option Fault → Coming
whole_text bytes tokens stop = record { tokens = placed_lexemes bytes tokens; end = length bytes; stop = stop }

-- a reader before the first token
abbrev pub first_reader : List ℕ → List Token → Option Fault → Reader
first_reader bytes tokens stop = record { cursor = whole_text bytes tokens stop; names = []; terms = []; points = 0 }

-- the lexemes that are to come of a whole text are those of its tokens
pub lexemes-whole_text : (bytes : List ℕ) (tokens : List Token) (stop : Option Fault) → lexemes_of (whole_text bytes tokens stop) ≡ map (lexeme_of bytes) tokens
lexemes-whole_text bytes [] stop = refl
lexemes-whole_text bytes (t ∷ ts) stop = ap (λ ls. lexeme_of bytes t ∷ ls) (lexemes-whole_text bytes ts stop)

-- there are no more tokens than bytes
pub extent-first : (bytes : List ℕ) (tokens : List Token) (stop : Option Fault) → IsLexed bytes tokens stop → extent (first_reader bytes tokens stop) ≤ length bytes
extent-first bytes tokens stop lexed =
    let row = StandInRow-lexed bytes tokens stop lexed in
    omega (arith, tokens_few bytes 0 lexed.end tokens lexed.tokens_are, row.end_within, length-map {B = Lexeme × ℕ} tokens (λ (t : Token). (lexeme_of bytes t, t.start)))

-- there is less to come behind the commands
pub extent-all : (a c : Reader) (commands : List Command) → ReadsAllCommands a c commands → extent c ≤ extent a
extent-all a c commands h = omega (arith, h.read.room, ap length h.prove.terms, Passes-length h.middle c _ h.prove.passes)

-- A REFUSED TEXT

module _ (bytes : List ℕ) (tokens : List Token) (stop : Option Fault) (lexed : IsLexed bytes tokens stop) where
  pub refused_at : (f : Fault) → fault_of (first_reader bytes tokens stop) [] (command_slot ∷ []) ≡ Some f → IsRefused bytes f
  refused_at f h = record { tokens = tokens; stop = stop; lexed = lexed; first = h }

  pub refused_later : (c : Reader) (commands : List Command) (f : Fault) → ReadsAllCommands (first_reader bytes tokens stop) c commands → Refuses statement_slots c f → IsRefused bytes f
  refused_later c commands f h k = refused_at f (h.read.follows ∙ h.prove.follows [] ∙ k.first [] [])

-- A PROGRAM

-- a text that spells a program is not much shorter than the canonical one
pub spelt_short : (bytes : List ℕ) (p : Source) → SpellsSource bytes p → length (canonical_text p) ≤ 2 * length bytes
spelt_short bytes p h =
    let own = h.lexemes in
    let row = StandInRow-lexed bytes own.tokens None own.lexed in
    omega (
      arith,
      canonical_text_short p h.sketches (AreSketches-length p.commands h.sketches h.sketched),
      ap (sum_by lexeme_size) own.meant,
      lexemes_short bytes 0 own.lexed.end own.tokens own.lexed.tokens_are,
      row.end_within,
    )

module _ (bytes : List ℕ) (tokens : List Token) (stop : Option Fault) (lexed : IsLexed bytes tokens stop) (c d : Reader) (commands : List Command) (statement : Statement)
    (h : ReadsAllCommands (first_reader bytes tokens stop) c commands) (k : ReadsStatement c d statement) where
  abbrev a : Reader
  a = first_reader bytes tokens stop

  abbrev b : Reader
  b = h.middle

  -- the parts of the program
  abbrev pub read_source : Source
  read_source = record { names = d.names; nodes = d.terms; commands = commands; statement = statement }

  names_are : d.names ≡ b.names
  names_are = k.reads.names ∙ h.prove.names

  extends : Extends b.terms d.terms
  extends = Extends-then b.terms c.terms d.terms (Extends-same h.prove.terms) k.reads.terms

  made : AreCommands d.terms empty_scope d.names commands
  made =
      subst (λ ns. AreCommands d.terms empty_scope ns commands) (sym names_are)
      (AreCommands-kept b.terms d.terms (KeepsTrees-extends b.terms d.terms extends) empty_scope b.names commands h.read.made)

  well_formed : IsWellFormed read_source
  well_formed = record {
    names = subst (All (λ n. IsNameText n.text)) (sym names_are) h.read.texts;
    differ = subst AllDiffer (sym names_are) h.read.differ;
    commands = made;
    few = omega (arith, points_kept b.terms d.terms commands, h.read.counted, h.read.few);
    statement = subst (λ ns. All (IsArgument (scope_of empty_scope ns)) (statement_form d.terms statement).arguments) (sym k.reads.names) k.valid;
    sides = k.sides;
  }

  lines_are : commands_lexemes d.names d.terms d.names commands h.read.sketches ≡ commands_lexemes b.names b.terms b.names commands h.read.sketches
  lines_are =
      ap (λ ns. commands_lexemes ns d.terms ns commands h.read.sketches) names_are
      ∙ ap (λ ns. commands_lexemes ns d.terms b.names commands h.read.sketches) (sym (append-nil b.names))
      ∙ commands_lexemes-kept [] b.names [] b.names b.terms d.terms commands h.read.sketches refl (KeepsTrees-extends b.terms d.terms extends) h.read.made

  -- the lexemes of the commands
  abbrev firsts : List Lexeme
  firsts = flat_map (λ line. line) (commands_lexemes b.names b.terms b.names commands h.read.sketches)

  -- those of the statement
  abbrev lasts : List Lexeme
  lasts = statement_lexemes d.names d.terms statement

  lexemes_are : flat_map (λ line. line) (line_lexemes h.read.sketches read_source) ≡ firsts ++ lasts
  lexemes_are =
      flat_map-append (λ (line : List Lexeme). line) (commands_lexemes d.names d.terms d.names commands h.read.sketches) (lasts ∷ [])
      ∙ ap (λ lines. flat_map (λ (line : List Lexeme). line) lines ++ (lasts ++ [])) lines_are
      ∙ ap (λ ls. firsts ++ ls) (append-nil lasts)

  passes_all : Passes a d (firsts ++ lasts)
  passes_all =
      let P : List Name → Type 0 = λ ns. Passes c d (braced (word_lexeme (statement_form d.terms statement).word ∷ flat_map (argument_lexemes ns) (statement_form d.terms statement).arguments)) in
      let last = Passes-then b c d (word_lexeme (codes "prove") ∷ []) _ h.prove.passes (subst P (sym k.reads.names) k.reads.passes) in
      Passes-then a b d firsts lasts h.read.passes last

  meant : map (lexeme_of bytes) tokens ≡ flat_map (λ line. line) (line_lexemes h.read.sketches read_source)
  meant =
      sym (lexemes-whole_text bytes tokens stop) ∙ passes_all.spelt
      ∙ ap (λ ts. (firsts ++ lasts) ++ map (λ (t : Lexeme × ℕ). t.0) ts) k.ended ∙ append-nil (firsts ++ lasts) ∙ sym lexemes_are

  stops : stop ≡ None
  stops = sym passes_all.stop ∙ k.whole

  -- the text spells the program
  pub spelt : SpellsSource bytes read_source
  spelt = record {
    well_formed = well_formed;
    sketches = h.read.sketches;
    sketched = h.read.sketched;
    lexemes = record { tokens = tokens; lexed = subst (IsLexed bytes tokens) stops lexed; meant = meant };
  }

  -- its canonical text is not much longer
  pub short : length (canonical_text read_source) ≤ 2 * length bytes
  short = spelt_short bytes read_source spelt
