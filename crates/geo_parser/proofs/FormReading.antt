-- Reading what stands behind a command's new name and behind a statement's word.
use Rattle.std.proofs.Common.{◌≡◌, ℕ, false, List, [], ◌∷◌, length, None, inl, refl, sym, ap, ◌∙◌, subst, arith}
use Rattle.std.specs.Prelude.{All}
use Rattle.std.specs.List.{flat_map}
use Rattle.std.proofs.lemmas.List.{append-nil}
use Rattle.std.proofs.lemmas.List.Elements.{All-cons, All-nil}
use Rattle.geo_points.specs.declared.ids.TermId.{TermId}
use Rattle.geo_lexer.specs.declared.token_types.Fault.{Fault}
use Rattle.geo_lexer.specs.Lexemes.{Lexeme, word_lexeme, open_brace, close_brace}
use Rattle.geo_program.specs.CanonicalText.{argument_lexemes}
use Rattle.geo_program.specs.Expressions.{braced, expression_lexemes}
use Rattle.geo_program.specs.Forms.{AreSidesStored, Argument, CommandForm, IsStored, StatementForm, command_form, number_argument, statement_form}
use Rattle.geo_program.specs.WellFormed.{IsArgument, empty_scope, scope_of}
use Rattle.geo_program.specs.declared.commands.Command.{Command}
use Rattle.geo_program.specs.declared.names.Name.{Name}
use Rattle.geo_program.specs.declared.statements.Statement.{Statement}
use Rattle.geo_program.proofs.Staying.{AreSidesStored-kept, statement_form-kept}
use Rattle.geo_terms.specs.Stores.{tree_of}
use Rattle.geo_parser.specs.declared.command_words.CommandWord.{CommandWord}
use Rattle.geo_parser.specs.declared.reader.Reader.{Reader}
use Rattle.geo_parser.specs.declared.statement_words.StatementWord.{StatementWord}
use Rattle.geo_parser.specs.Inner.CommandWords.{command_condition, command_kind, command_points, command_slots, command_text}
use Rattle.geo_parser.specs.Forms.{Slot, a_number, close_slot, end_slot, open_slot, statement_slot}
use Rattle.geo_parser.specs.Inner.Reads.{Reads, ReadsArguments, ReadsExpression, ReadsForm, ReadsStated, ReadsStatement, ReadsStatementWord, Refuses, argument_slots, scope, statement_slots}
use Rattle.geo_parser.specs.Inner.StatementWords.{statement_due, statement_text}
use Rattle.geo_parser.proofs.CommandReading.{Passes-length}
use Rattle.geo_parser.proofs.CommandsReading.{KeepsTrees-extends}
use Rattle.geo_parser.proofs.Reading.{Extends-same, Extends-then, Passes-then, Reads-then, Refuses-first, Refuses-then}

-- the number of a step is an argument
pub ReadsArguments-number : (a b : Reader) (e : TermId) → ReadsExpression 0 false a b e → ReadsArguments (number_argument (tree_of b.terms e) ∷ []) a b
ReadsArguments-number a b e h =
    let P : List Lexeme → Type 0 = λ ls. Reads (a_number ∷ []) a b ls in record {
      reads = subst P (sym (append-nil (expression_lexemes a.names (tree_of b.terms e)))) h.reads;
      valid = All-cons (IsArgument (scope a)) _ [] (h.tree.valid, omega (arith, h.tree.nested)) (All-nil (IsArgument (scope a)));
    }

-- the form of a command with this word and these arguments
abbrev pub form_of : CommandWord → List Argument → CommandForm
form_of word arguments = record {
  word = command_text word;
  condition = command_condition word;
  made = command_kind word;
  points = command_points word;
  arguments = arguments;
}

-- a command with these arguments
pub ReadsForm-made : (word : CommandWord) (arguments : List Argument) (old new : Reader) (command : Command) → ReadsArguments arguments old new → flat_map argument_slots arguments ≡ command_slots word
    → command_form new.terms command ≡ form_of word arguments → IsStored new.terms command → ReadsForm word old new command
ReadsForm-made word arguments old new command h slots made stored =
    let same : arguments ≡ (command_form new.terms command).arguments = ap (λ f. f.arguments) (sym made) in
    let P : List Slot → Type 0 = λ F. Reads F old new (flat_map (argument_lexemes old.names) arguments) in
    let Q : List Argument → Type 0 = λ xs. Reads (command_slots word) old new (flat_map (argument_lexemes old.names) xs) in
    let R : List Lexeme → Type 0 = λ ls. Reads (command_slots word) old new ls in
    record {
      sketch = None;
      sketched = inl refl;
      named = record { text = ap (λ f. f.word) made; condition = ap (λ f. f.condition) made; kind = ap (λ f. f.made) made; points = ap (λ f. f.points) made };
      reads = subst R (sym (append-nil (flat_map (argument_lexemes old.names) (command_form new.terms command).arguments))) (subst Q same (subst P slots h.reads));
      valid = subst (All (IsArgument (scope old))) same h.valid;
      stored = stored;
    }

-- the word is known by an equation
pub ReadsForm-at : (word word' : CommandWord) (old new : Reader) (command : Command) → word ≡ word' → ReadsForm word' old new command → ReadsForm word old new command
ReadsForm-at word word' old new command e h = let P : CommandWord → Type 0 = λ w. ReadsForm w old new command in subst P (sym e) h

pub Refuses-at : (word word' : CommandWord) (s : Reader) (f : Fault) → word ≡ word' → Refuses (command_slots word') s f → Refuses (command_slots word) s f
Refuses-at word word' s f e h = let P : CommandWord → Type 0 = λ w. Refuses (command_slots w) s f in subst P (sym e) h

-- a statement with these arguments
pub ReadsStated-made : (word : StatementWord) (arguments : List Argument) (old new : Reader) (statement : Statement)
    → ReadsArguments arguments old new → flat_map argument_slots arguments ≡ statement_due word
    → (statement_form new.terms statement).word ≡ statement_text word → (statement_form new.terms statement).arguments ≡ arguments
    → AreSidesStored new.terms statement → ReadsStated word old new statement
ReadsStated-made word arguments old new statement h slots text made stored =
    let P : List Slot → Type 0 = λ F. Reads F old new (flat_map (argument_lexemes old.names) arguments) in
    let Q : List Argument → Type 0 = λ xs. Reads (statement_due word) old new (flat_map (argument_lexemes old.names) xs) in
    record {
      text = text;
      reads = subst Q (sym made) (subst P slots h.reads);
      valid = subst (All (IsArgument (scope old))) (sym made) h.valid;
      sides = stored;
    }

pub ReadsStated-at : (word word' : StatementWord) (old new : Reader) (statement : Statement) → word ≡ word' → ReadsStated word' old new statement → ReadsStated word old new statement
ReadsStated-at word word' old new statement e h = let P : StatementWord → Type 0 = λ w. ReadsStated w old new statement in subst P (sym e) h

pub Refuses-stated : (word word' : StatementWord) (s : Reader) (f : Fault) → word ≡ word' → Refuses (statement_due word') s f → Refuses (statement_due word) s f
Refuses-stated word word' s f e h = let P : StatementWord → Type 0 = λ w. Refuses (statement_due w) s f in subst P (sym e) h

-- THE STATEMENT

module _ (word : StatementWord) (a b : Reader) (w : ReadsStatementWord word a b) where
  -- the word of a statement and what is due behind it
  pub Reads-statement : (c : Reader) (ls : List Lexeme) → Reads (statement_due word) b c ls → Reads (statement_slot ∷ []) a c (word_lexeme (statement_text word) ∷ ls)
  Reads-statement c ls h = record {
    passes = Passes-then a b c (word_lexeme (statement_text word) ∷ []) ls w.passes h.passes;
    names = h.names ∙ w.names;
    points = h.points ∙ w.points;
    terms = Extends-then a.terms b.terms c.terms (Extends-same w.terms) h.terms;
    room = omega (arith, h.room, ap length w.terms, Passes-length a b _ w.passes);
    follows = λ begun rest. w.follows begun rest ∙ h.follows begun rest;
  }

  pub Refuses-statement : (f : Fault) → Refuses (statement_due word) b f → Refuses (statement_slot ∷ []) a f
  Refuses-statement f h = record { first = λ begun rest. w.follows begun rest ∙ h.first begun rest }

-- what is refused behind the first brace
pub Refuses-word : (a b : Reader) (f : Fault) → Reads (open_slot 0 ∷ []) a b (open_brace ∷ []) → Refuses (statement_slot ∷ []) b f → Refuses statement_slots a f
Refuses-word a b f o h =
    Refuses-then (open_slot 0 ∷ []) (statement_slot ∷ close_slot ∷ end_slot ∷ []) a b _ o f (Refuses-first (statement_slot ∷ []) (close_slot ∷ end_slot ∷ []) b f h)

-- `{`, the statement and `}`
module _ (a b c d : Reader) (word : StatementWord) (statement : Statement) (o : Reads (open_slot 0 ∷ []) a b (open_brace ∷ []))
    (w : ReadsStatementWord word b c) (s : ReadsStated word c d statement) where
  within : Reads (statement_slot ∷ []) b d (word_lexeme (statement_text word) ∷ flat_map (argument_lexemes c.names) (statement_form d.terms statement).arguments)
  within = Reads-statement word b c w d _ s.reads

  pub Refuses-close : (f : Fault) → Refuses (close_slot ∷ []) d f → Refuses statement_slots a f
  Refuses-close f h =
      Refuses-then (open_slot 0 ∷ []) (statement_slot ∷ close_slot ∷ end_slot ∷ []) a b _ o f
      (Refuses-then (statement_slot ∷ []) (close_slot ∷ end_slot ∷ []) b d _ within f (Refuses-first (close_slot ∷ []) (end_slot ∷ []) d f h))

  module _ (e : Reader) (k : Reads (close_slot ∷ []) d e (close_brace ∷ [])) where
    pub Refuses-end : (f : Fault) → Refuses (end_slot ∷ []) e f → Refuses statement_slots a f
    Refuses-end f h =
        Refuses-then (open_slot 0 ∷ []) (statement_slot ∷ close_slot ∷ end_slot ∷ []) a b _ o f
        (Refuses-then (statement_slot ∷ []) (close_slot ∷ end_slot ∷ []) b d _ within f (Refuses-then (close_slot ∷ []) (end_slot ∷ []) d e _ k f h))

    pub ReadsStatement-made : e.cursor.tokens ≡ [] → e.cursor.stop ≡ None → ReadsStatement a e statement
    ReadsStatement-made ended whole =
        let all = Reads-then (open_slot 0 ∷ []) (statement_slot ∷ close_slot ∷ []) a b _ o e _ (Reads-then (statement_slot ∷ []) (close_slot ∷ []) b d _ within e _ k) in
        let names : c.names ≡ a.names = w.names ∙ o.names in
        let kept : statement_form e.terms statement ≡ statement_form d.terms statement = statement_form-kept d.terms e.terms (KeepsTrees-extends d.terms e.terms k.terms) statement s.sides in
        let P : List ℕ → List Name → StatementForm → Type 0 = λ text ns f. Reads (open_slot 0 ∷ statement_slot ∷ close_slot ∷ []) a e
        (braced (word_lexeme text ∷ flat_map (argument_lexemes ns) f.arguments)) in
        let Q : StatementForm → Type 0 = λ f. Reads (open_slot 0 ∷ statement_slot ∷ close_slot ∷ []) a e (braced (word_lexeme f.word ∷ flat_map (argument_lexemes a.names) f.arguments)) in
        let R : StatementForm → Type 0 = λ f. All (IsArgument (scope a)) f.arguments in
        record {
          reads = subst Q (sym kept) (subst (λ text. P text a.names (statement_form d.terms statement)) (sym s.text)
              (subst (λ ns. P (statement_text word) ns (statement_form d.terms statement)) names all));
          valid = subst R (sym kept) (subst (λ ns. All (IsArgument (scope_of empty_scope ns)) (statement_form d.terms statement).arguments) names s.valid);
          sides = AreSidesStored-kept d.terms e.terms (KeepsTrees-extends d.terms e.terms k.terms) statement s.sides;
          ended = ended;
          whole = whole;
        }
