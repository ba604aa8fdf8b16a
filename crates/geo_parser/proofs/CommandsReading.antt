-- Reading the commands one after another.
use Rattle.std.proofs.Common.{◌≡◌, ◌+◌, ◌≤◌, List, [], ◌∷◌, ◌++◌, length, map, Some, None, refl, sym, ap, ap₂, ◌∙◌, subst, arith, append_assoc, length-append}
use Rattle.std.specs.Prelude.{All, IfNone, IfSome, Option, sum_by}
use Rattle.std.specs.List.{flat_map}
use Rattle.std.proofs.lemmas.Grind.{flat_map-append}
use Rattle.std.proofs.lemmas.List.{append-nil, length-map}
use Rattle.std.proofs.lemmas.List.Elements.{All-append}
use Rattle.std.proofs.lemmas.List.Sums.{sum_by-cons, sum_by_push}
use Rattle.geo_lexer.specs.Lexemes.{Lexeme, word_lexeme}
use Rattle.geo_program.specs.CanonicalText.{argument_lexemes, command_lexemes, commands_lexemes, condition_lexemes, sketch_lexemes}
use Rattle.geo_program.specs.Forms.{command_form}
use Rattle.geo_program.specs.WellFormed.{AllDiffer, AreCommands, IsArgument, IsCommand, empty_scope, scope_of}
use Rattle.geo_program.specs.Words.{IsNameText}
use Rattle.geo_program.specs.declared.commands.Command.{Command}
use Rattle.geo_program.specs.declared.commands.Command.TheVariants.{Point}
use Rattle.geo_program.specs.declared.names.Name.{Name}
use Rattle.geo_program.proofs.Pushing.{AreCommands-push, AreSketches-length, AreSketches-push, commands_lexemes-kept, commands_lexemes-push}
use Rattle.geo_program.proofs.Staying.{AreCommands-kept, KeepsTrees, command_lexemes-append}
use Rattle.geo_terms.specs.Stores.{Store}
use Rattle.geo_parser.specs.declared.command_words.CommandWord.{CommandWord}
use Rattle.geo_parser.specs.declared.reader.Reader.{Reader}
use Rattle.geo_parser.specs.Inner.CommandWords.{command_condition, command_text}
use Rattle.geo_parser.specs.Inner.Reads.{Extends, Passes, ReadsCommand, ReadsCommands, ReadsWord}
use Rattle.geo_parser.proofs.CommandReading.{Passes-length}
use Rattle.geo_parser.proofs.Reading.{Extends-same, Extends-then, Passes-then}

-- how many points a command makes does not depend on the store
points_any : (nodes wider : Store) (command : Command) → (command_form wider command).points ≡ (command_form nodes command).points
points_any nodes wider Point = refl
points_any nodes wider _ = refl

pub points_kept : (nodes wider : Store) (commands : List Command) → sum_by (λ c. (command_form wider c).points) commands ≡ sum_by (λ c. (command_form nodes c).points) commands
points_kept nodes wider [] = refl
points_kept nodes wider (c ∷ commands) =
    omega (
      arith,
      sum_by-cons (λ (k : Command). (command_form wider k).points) c commands,
      sum_by-cons (λ (k : Command). (command_form nodes k).points) c commands,
      points_any nodes wider c,
      points_kept nodes wider commands,
    )

pub KeepsTrees-extends : (old new : Store) → Extends old new → KeepsTrees old new
KeepsTrees-extends old new h = record { longer = h.longer; trees = h.others }

module _ (a b c d : Reader) (commands : List Command) (word : CommandWord) (command : Command) (h : ReadsCommands a b commands) (w : ReadsWord word b c) (k : ReadsCommand word c d command) where
  abbrev longer : List Name
  longer = b.names ++ k.own

  names_are : d.names ≡ longer
  names_are = k.names ∙ ap (λ ns. ns ++ k.own) w.names

  terms_extend : Extends b.terms d.terms
  terms_extend = Extends-then b.terms c.terms d.terms (Extends-same w.terms) k.terms

  is_command : IsCommand d.terms (scope_of empty_scope b.names) k.own command
  is_command = record {
    named = k.kinds;
    arguments = subst (λ ns. All (IsArgument (scope_of empty_scope ns)) (command_form d.terms command).arguments) w.names k.valid;
    stored = k.stored;
  }

  made : AreCommands d.terms empty_scope b.names commands
  made = AreCommands-kept b.terms d.terms (KeepsTrees-extends b.terms d.terms terms_extend) empty_scope b.names commands h.made

  are_commands : AreCommands d.terms empty_scope longer (commands ++ command ∷ [])
  are_commands = AreCommands-push d.terms empty_scope b.names commands k.own command made is_command

  -- the lexemes of the command
  abbrev own : List Lexeme
  own = command_lexemes b.names d.terms k.own command ++ sketch_lexemes k.sketch

  lines_are : commands_lexemes longer d.terms longer (commands ++ command ∷ []) (h.sketches ++ k.sketch ∷ []) ≡ commands_lexemes b.names b.terms b.names commands h.sketches ++ own ∷ []
  lines_are =
      commands_lexemes-push longer d.terms empty_scope b.names commands h.sketches k.own command k.sketch made (AreSketches-length commands h.sketches h.sketched) k.kinds
      ∙ ap (λ lines. lines ++ (command_lexemes longer d.terms k.own command ++ sketch_lexemes k.sketch) ∷ [])
      (commands_lexemes-kept [] b.names k.own b.names b.terms d.terms commands h.sketches refl (KeepsTrees-extends b.terms d.terms terms_extend) h.made)
      ∙ ap (λ ls. commands_lexemes b.names b.terms b.names commands h.sketches ++ (ls ++ sketch_lexemes k.sketch) ∷ []) (command_lexemes-append b.names k.own d.terms k.own command is_command)

  lexemes_are : flat_map (λ line. line)
      (commands_lexemes longer d.terms longer (commands ++ command ∷ []) (h.sketches ++ k.sketch ∷ [])) ≡ flat_map (λ line. line)
      (commands_lexemes b.names b.terms b.names commands h.sketches) ++ own
  lexemes_are =
      ap (flat_map (λ line. line)) lines_are
      ∙ flat_map-append (λ (line : List Lexeme). line) (commands_lexemes b.names b.terms b.names commands h.sketches) (own ∷ [])
      ∙ ap (λ ls. flat_map (λ (line : List Lexeme). line) (commands_lexemes b.names b.terms b.names commands h.sketches) ++ ls) (append-nil own)

  abbrev texts : List Lexeme
  texts = map (λ (name : Name). word_lexeme name.text) k.own

  -- what stands behind the words
  abbrev behind : List Name → List Lexeme
  behind ns = texts ++ (flat_map (argument_lexemes ns) (command_form d.terms command).arguments ++ sketch_lexemes k.sketch)

  own_is : (word_lexeme (command_text word) ∷ condition_lexemes (command_condition word)) ++ behind c.names ≡ own
  own_is =
      let f = command_form d.terms command in
      let condition = condition_lexemes f.condition in
      let spelling = flat_map (argument_lexemes b.names) f.arguments in
      ap (λ ns. (word_lexeme (command_text word) ∷ condition_lexemes (command_condition word)) ++ behind ns) w.names
      ∙ ap₂ (λ t o. (word_lexeme t ∷ condition_lexemes o) ++ behind b.names) (sym k.named.text) (sym k.named.condition)
      ∙ ap (λ ls. word_lexeme f.word ∷ ls) (
      ap (λ ls. condition ++ ls) (sym (append_assoc texts spelling (sketch_lexemes k.sketch)))
      ∙ sym (append_assoc condition (texts ++ spelling) (sketch_lexemes k.sketch)))

  passes_all : Passes a d (flat_map (λ line. line) (commands_lexemes longer d.terms longer (commands ++ command ∷ []) (h.sketches ++ k.sketch ∷ [])))
  passes_all =
      let one = Passes-then b c d (word_lexeme (command_text word) ∷ condition_lexemes (command_condition word)) _ w.passes k.passes in
      let P : List Lexeme → Type 0 = λ ls. Passes b d ls in
      let Q : List Lexeme → Type 0 = λ ls. Passes a d ls in
      subst Q (sym lexemes_are) (Passes-then a b d _ own h.passes (subst P own_is one))

  -- at most as many names as tokens
  names_few : length d.names + length d.cursor.tokens ≤ length a.cursor.tokens
  names_few =
      omega (
        arith,
        ap length names_are,
        length-append b.names k.own,
        h.names,
        Passes-length b c _ w.passes,
        Passes-length c d _ k.passes,
        length-append texts (flat_map (argument_lexemes c.names) (command_form d.terms command).arguments ++ sketch_lexemes k.sketch),
        length-map k.own (λ (name : Name). word_lexeme name.text),
      )

  -- one more command is read
  pub ReadsCommands-more : ReadsCommands a d (commands ++ command ∷ [])
  ReadsCommands-more = record {
    sketches = h.sketches ++ k.sketch ∷ [];
    sketched = AreSketches-push commands h.sketches command k.sketch h.sketched k.sketched;
    passes = subst (λ ns. Passes a d (flat_map (λ line. line) (commands_lexemes ns d.terms ns (commands ++ command ∷ []) (h.sketches ++ k.sketch ∷ [])))) (sym names_are) passes_all;
    made = subst (λ ns. AreCommands d.terms empty_scope ns (commands ++ command ∷ [])) (sym names_are) are_commands;
    texts = subst (All (λ n. IsNameText n.text)) (sym names_are) (All-append (λ n. IsNameText n.text) b.names k.own h.texts k.texts);
    differ = subst AllDiffer (sym names_are) (subst (λ ns. AllDiffer (ns ++ k.own)) w.names (k.differ (subst AllDiffer (sym w.names) h.differ)));
    counted = omega (arith, k.counted, w.points, h.counted, k.named.points, points_kept b.terms d.terms commands, sum_by_push (λ (e : Command). (command_form d.terms e).points) commands command);
    few = k.few;
    room = omega (arith, k.room, h.room, ap length w.terms, Passes-length b c _ w.passes);
    names = names_few;
    follows = h.follows ∙ w.follows [] ∙ k.follows [];
  }

-- what an option's fact says of its value
pub at_some : {X : Type 0} (o : Option X) (x : X) (P : X → Type 0) → o ≡ Some x → IfSome o P → P x
at_some {X} o x P is h = let Q : Option X → Type 0 = λ r. IfSome r P in subst Q is h

pub at_none : {X : Type 0} (o : Option X) (P : Type 0) → o ≡ None → IfNone o P → P
at_none {X} o P is h = let Q : Option X → Type 0 = λ r. IfNone r P in subst Q is h
