-- Texts that spell programs, and refusals.
use Rattle.std.proofs.Common.{◌≡◌, ℕ, List, [], ◌∷◌, ◌++◌, Some, None, is_some, true≢false, length, map, refl, sym, ap, ◌∙◌, subst, arith}
use Rattle.std.specs.Prelude.{Err, IfOk, MatchResult, Ok, Result}
use Rattle.std.specs.List.{flat_map}
use Rattle.std.proofs.lemmas.Grind.{flat_map-append}
use Rattle.std.proofs.lemmas.List.{append-nil}
use Rattle.geo_lexer.specs.declared.token_types.Fault.{Fault}
use Rattle.geo_lexer.proofs.Uniqueness.{one_lexing}
use Rattle.geo_lexer.specs.Lexemes.{Lexeme, word_lexeme}
use Rattle.geo_program.specs.CanonicalText.{Sketch, argument_lexemes, commands_lexemes, line_lexemes, statement_lexemes}
use Rattle.geo_program.specs.Expressions.{braced}
use Rattle.geo_program.specs.Forms.{statement_form}
use Rattle.geo_program.specs.Programs.{SameProgram, Spells, program_text, source_of}
use Rattle.geo_program.specs.Spelling.{AreSketches}
use Rattle.geo_program.specs.WellFormed.{IsWellFormed, Source}
use Rattle.geo_program.specs.declared.program_type.Program.{Program}
use Rattle.geo_program.proofs.LinesSpelt.{well_formed_is_spelt}
use Rattle.geo_program.proofs.OneProgram.{spells_one}
use Rattle.geo_program.proofs.Propositions.{program_well_formed}
use Rattle.geo_parser.specs.declared.errors.ParseError.{ParseError}
use Rattle.geo_parser.specs.declared.errors.ParseError.TheVariants.{NoMemory, Syntax}
use Rattle.geo_parser.specs.Forms.{command_slot, end_slot}
use Rattle.geo_parser.specs.Laws.{PrintedProgramsAreRead, RefusalsAreUnique, SpeltTextsAreNotRefused}
use Rattle.geo_parser.specs.Refusals.{IsRefused, first_fault, placed_lexemes}
use Rattle.geo_parser.specs.Slots.{Reading, beginning}
use Rattle.geo_parser.specs.Inner.Reads.{reading}
use Rattle.geo_parser.proofs.ProgramReading.{lexemes-whole_text}
use Rattle.geo_parser.proofs.ProgramWalks.{commands_go, statement_goes}
use Rattle.geo_parser.proofs.Walks.{first_fault-walk, walk}

-- nothing is not something
some_is_none : {X : Type 0} {x : X} → Some x ≡ None → ⊥
some_is_none e = true≢false (ap is_some e)

-- a text has one first refusal
pub one_refusal : RefusalsAreUnique
one_refusal bytes f g h k =
    let same = one_lexing bytes h.tokens k.tokens h.stop k.stop h.lexed k.lexed in
    let equal : Some f ≡ Some g =
    sym h.first ∙ ap (λ ts. first_fault beginning (command_slot ∷ []) (placed_lexemes bytes ts) (length bytes) h.stop) same.0
    ∙ ap (λ stop. first_fault beginning (command_slot ∷ []) (placed_lexemes bytes k.tokens) (length bytes) stop) same.1 ∙ k.first in
    cc

-- nothing is refused in the lexemes of a program
program_goes : (p : Source) (sketches : List Sketch) → IsWellFormed p → AreSketches p.commands sketches → (r : Reading)
    × (walk beginning (command_slot ∷ []) (flat_map (λ line. line) (line_lexemes sketches p)) ≡ Some (r, end_slot ∷ []))
program_goes p sketches h sketched =
    let lines = commands_lexemes p.names p.nodes p.names p.commands sketches in
    let last = statement_lexemes p.names p.nodes p.statement in
    let lexemes : flat_map (λ line. line) (line_lexemes sketches p) ≡ flat_map (λ line. line) lines ++ last =
    flat_map-append (λ (line : List Lexeme). line) lines (last ∷ []) ∙ ap (λ ls. flat_map (λ (line : List Lexeme). line) lines ++ ls) (append-nil last) in
    let inner : List Lexeme = braced (word_lexeme (statement_form p.nodes p.statement).word ∷ flat_map (argument_lexemes p.names) (statement_form p.nodes p.statement).arguments) in
    let front = commands_go [] p.names p.names p.nodes p.commands sketches [] [] 0 [] inner refl refl h.names h.differ h.commands sketched (omega (arith, h.few)) in
    let end = statement_goes front.names front.begun p.names front.points p.nodes p.statement [] front.declared h.names h.differ h.statement in
    (reading p.names [] front.points, ap (walk beginning (command_slot ∷ [])) lexemes ∙ front.goes ∙ end)

-- a text that spells a program is not refused
pub spelt_not_refused : SpeltTextsAreNotRefused
spelt_not_refused bytes p fault spelt refused =
    let own = spelt.lexemes in
    let same = one_lexing bytes refused.tokens own.tokens refused.stop None refused.lexed own.lexed in
    let through = program_goes p spelt.sketches spelt.well_formed spelt.sketched in
    let lexemes : map (λ t. t.0) (placed_lexemes bytes own.tokens) ≡ flat_map (λ line. line) (line_lexemes spelt.sketches p) = lexemes-whole_text bytes own.tokens None ∙ own.meant in
    let goes : walk beginning (command_slot ∷ []) (map (λ t. t.0) (placed_lexemes bytes own.tokens)) ≡ Some (through.0, end_slot ∷ []) = ap (walk beginning (command_slot ∷ [])) lexemes ∙ through.1 in
    let none = first_fault-walk beginning through.0 (command_slot ∷ []) (end_slot ∷ []) (placed_lexemes bytes own.tokens) (length bytes) goes in
    let some : Some fault ≡ None =
    sym refused.first ∙ ap (λ ts. first_fault beginning (command_slot ∷ []) (placed_lexemes bytes ts) (length bytes) refused.stop) same.0
    ∙ ap (λ stop. first_fault beginning (command_slot ∷ []) (placed_lexemes bytes own.tokens) (length bytes) stop) same.1 ∙ none in
    some_is_none some

-- the canonical text of a program is read again
pub read_again : PrintedProgramsAreRead
read_again p =
    let own = well_formed_is_spelt (source_of p) (program_well_formed p) in record {
      same = λ q other. spells_one (program_text p) (source_of p) (source_of q) own other;
      allowed = λ fault refused. spelt_not_refused (program_text p) (source_of p) fault own refused;
    }

-- what an answer says of a program that the text spells
module _ (bytes : List ℕ) (p : Program) (own : Spells bytes p) where
  pub same_program : (r : Result Program ParseError) → IfOk r (λ q. Spells bytes q) → IfOk r (SameProgram p)
  same_program (Ok q) h = spells_one bytes (source_of p) (source_of q) own h
  same_program (Err e) h = tt

  pub same_or_no_memory : (r : Result Program ParseError) → IfOk r (λ q. Spells bytes q) → ((f : Fault) → r ≡ Err (Syntax f) → IsRefused bytes f) → MatchResult r (SameProgram p) (λ e. e ≡ NoMemory)
  same_or_no_memory (Ok q) h refused = spells_one bytes (source_of p) (source_of q) own h
  same_or_no_memory (Err (Syntax f)) h refused = absurd (spelt_not_refused bytes (source_of p) f own (refused f refl))
  same_or_no_memory (Err NoMemory) h refused = refl

-- a program's canonical text spells it
pub printed_spells : (bytes : List ℕ) (p : Program) → bytes ≡ program_text p → Spells bytes p
printed_spells bytes p e =
    let P : List ℕ → Type 0 = λ text. Spells text p in
    subst P (sym e) (well_formed_is_spelt (source_of p) (program_well_formed p))
