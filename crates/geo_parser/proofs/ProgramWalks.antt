-- Going through the lexemes of commands and of the statement.
use Rattle.std.proofs.Common.{◌≡◌, ◌⊎◌, inl, inr, true≢false, ℕ, ◌+◌, ◌≤◌, Bool, true, false, List, [], ◌∷◌, ◌++◌, map, Option, Some, None, is_some, codes, refl, sym, ap, ◌∙◌, subst, arith}
use Rattle.std.specs.Prelude.{All, nat_le, sum_by}
use Rattle.std.specs.List.{flat_map}
use Rattle.std.proofs.lemmas.Bool.Decides.{nat_tests}
use Rattle.std.proofs.lemmas.List.{append-nil, append_assoc}
use Rattle.std.proofs.lemmas.List.Elements.{All-head, All-tail}
use Rattle.std.proofs.lemmas.List.Sums.{sum_by-cons}
use Rattle.geo_lexer.specs.Lexemes.{Lexeme, word_lexeme, open_brace, close_brace}
use Rattle.geo_program.specs.CanonicalText.{Sketch, argument_lexemes, command_lexemes, commands_lexemes, condition_lexemes, sketch_lexemes, statement_lexemes}
use Rattle.geo_program.specs.Forms.{Argument, command_form, statement_form}
use Rattle.geo_program.specs.Spelling.{AreSketches}
use Rattle.geo_program.specs.WellFormed.{AllDiffer, AreCommands, IsArgument, IsCommand, empty_scope, later_names, own_names, scope_of}
use Rattle.geo_program.specs.Words.{IsNameText}
use Rattle.geo_program.specs.declared.commands.Command.{Command}
use Rattle.geo_program.specs.declared.commands.Command.TheVariants.{Point}
use Rattle.geo_program.specs.declared.names.Name.{Name}
use Rattle.geo_program.specs.declared.names.NameKind.{NameKind}
use Rattle.geo_program.specs.declared.statements.Statement.{Statement}
use Rattle.geo_program.proofs.OnceNamed.{AllDiffer-front, All-front}
use Rattle.geo_program.proofs.OneProgram.{grouped}
use Rattle.geo_program.proofs.OwnNames.{own_and_later}
use Rattle.geo_program.proofs.ScopeLemmas.{scope_of-append}
use Rattle.geo_program.proofs.Staying.{command_lexemes-append}
use Rattle.geo_terms.specs.Stores.{Store}
use Rattle.geo_parser.specs.Forms.{Slot, close_slot, command_slot, commands, condition_slot, due_behind, end_slot, new_name_slot, sketch_slot, statement_slot}
use Rattle.geo_parser.specs.Inner.Reads.{argument_slots, reading, statement_slots}
use Rattle.geo_parser.specs.Slots.{Reading, follow, taken}
use Rattle.geo_parser.proofs.CommandReading.{begin_command-due, begin_command-prove}
use Rattle.geo_parser.specs.Texts.{is_text}
use Rattle.geo_parser.proofs.DueBehind.{IsDueBehind, command_due_behind, command_is_no_prove, condition_due_behind, first_slots, is_point, last_slots, sketch_slots, statement_due_behind}
use Rattle.geo_parser.proofs.ExpressionWalks.{Goes-arguments}
use Rattle.geo_parser.proofs.Known.{differ_none, free_text}
use Rattle.geo_parser.proofs.NameUses.{begin_name-new}
use Rattle.geo_parser.proofs.Walks.{walk, walk_taken}

-- nothing is not something
some_is_none : {X : Type 0} {x : X} → Some x ≡ None → ⊥
some_is_none e = true≢false (ap is_some e)

-- no number follows here
abbrev NoNumber : List Lexeme → Type 0
NoNumber more = (r : Reading) (rest : List Slot) → walk r (sketch_slot ∷ rest) more ≡ walk r rest more

-- the two numbers that may follow the name of a point
sketch_goes : (r : Reading) (rest : List Slot) (sketch : Sketch) (more : List Lexeme) → NoNumber more → walk r (sketch_slot ∷ rest) (sketch_lexemes sketch ++ more) ≡ walk r rest more
sketch_goes r rest None more h = h r rest
sketch_goes r rest (Some (m, n)) more h = refl

-- what may follow the arguments of a command
last_goes : (command : Command) (r : Reading) (rest : List Slot) (sketch : Sketch) (more : List Lexeme) → (sketch ≡ None)
    ⊎ (command ≡ Point) → NoNumber more → walk r (last_slots command ++ rest) (sketch_lexemes sketch ++ more) ≡ walk r rest more
last_goes command r rest sketch more only h = by (is_point command) refl only
  where
    by : (b : Bool) → is_point command ≡ b → (sketch ≡ None) ⊎ (command ≡ Point) → walk r (sketch_slots b ++ rest) (sketch_lexemes sketch ++ more) ≡ walk r rest more
    by true e only' = sketch_goes r rest sketch more h
    by false e (inl none) = ap (λ s. walk r rest (sketch_lexemes s ++ more)) none
    by false e (inr is) = absurd (true≢false (sym (ap is_point is) ∙ e))

-- the text of a name in the middle
text_at : (before : List Name) (name : Name) (after : List Name) → All (λ n. IsNameText n.text) (before ++ name ∷ after) → IsNameText name.text
text_at [] name after h = All-head (λ n. IsNameText n.text) name after h
text_at (n ∷ before) name after h = text_at before name after (All-tail (λ m. IsNameText m.text) n (before ++ name ∷ after) h)

-- a command behind other names
module _ (before : List Name) (texts : All (λ n. IsNameText n.text) before) (differ : AllDiffer before) (names begun : List Name) (all : names ++ begun ≡ before) (points : ℕ) where
  -- its word
  word_goes : (word : List ℕ) (due : List Slot) (rest : List Slot) (more : List Lexeme) → is_text word (codes "prove") ≡ false → Some due ≡ due_behind word commands
      → walk (reading names begun points) (command_slot ∷ rest) (word_lexeme word ∷ more) ≡ walk (reading before [] points) (due ++ command_slot ∷ rest) more
  word_goes word due rest more no_prove is =
      walk_taken (reading names begun points) (reading before [] points) (command_slot ∷ rest) (due ++ command_slot ∷ rest) (word_lexeme word) more
      (begin_command-due (reading names begun points) word rest (Some due) no_prove is
      ∙ ap (λ ns. taken (reading ns [] points) (due ++ command_slot ∷ rest)) all)

  -- its new name
  name_goes : (kind : NameKind) (own : ℕ) (name : Name) (after : List Name) (rest : List Slot) (more : List Lexeme) → name.kind ≡ kind → points + own ≤ 512
      → All (λ n. IsNameText n.text) (before ++ name ∷ after) → AllDiffer (before ++ name ∷ after)
      → walk (reading before [] points) (new_name_slot kind own ∷ rest) (word_lexeme name.text ∷ more) ≡ walk (reading before (name ∷ []) (points + own)) rest more
  name_goes kind own name after rest more is few valid others =
      let room : nat_le (points + own) 512 ≡ true = grind (arith, nat_tests) in
      walk_taken (reading before [] points) (reading before (name ∷ []) (points + own)) (new_name_slot kind own ∷ rest) rest (word_lexeme name.text) more
      (begin_name-new (reading before [] points) before refl kind own name.text rest true (free_text name.text (text_at before name after valid)) (differ_none before name after others) room
      ∙ ap (λ k. taken (reading before ((record { text = name.text; kind = k }) ∷ []) (points + own)) rest) (sym is))

  -- its arguments
  arguments_go : (own : List Name) (k : ℕ) (arguments : List Argument) (last rest : List Slot) (more : List Lexeme) → All (IsArgument (scope_of empty_scope before)) arguments
      → walk (reading before own k) ((flat_map argument_slots arguments ++ last) ++ command_slot ∷ rest) (flat_map (argument_lexemes before) arguments ++ more)
      ≡ walk (reading before own k) (last ++ command_slot ∷ rest) more
  arguments_go own k arguments last rest more valid =
      ap (λ F. walk (reading before own k) F (flat_map (argument_lexemes before) arguments ++ more)) (append_assoc (flat_map argument_slots arguments) last (command_slot ∷ rest))
      ∙ (Goes-arguments before texts differ (reading before own k) refl arguments valid).goes (last ++ command_slot ∷ rest) more

  -- all of them
  form_goes : (word : List ℕ) (condition : Option (List ℕ)) (made : Option NameKind) (k : ℕ) (arguments : List Argument) (own after : List Name) (last rest : List Slot) (more : List Lexeme)
      → is_text word (codes "prove") ≡ false → Some (first_slots condition made k (flat_map argument_slots arguments ++ last)) ≡ due_behind word commands
      → IsDueBehind condition made k (flat_map argument_slots arguments ++ last)
      → map (λ n. n.kind) own ≡ elim made [ None ↦ [] | Some kind ↦ kind ∷ [] ] → All (IsArgument (scope_of empty_scope before)) arguments → points + k ≤ 512
      → All (λ n. IsNameText n.text) (before ++ (own ++ after)) → AllDiffer (before ++ (own ++ after))
      → walk (reading names begun points) (command_slot ∷ rest)
      (word_lexeme word ∷ condition_lexemes condition
      ++ (map (λ name. word_lexeme name.text) own ++ (flat_map (argument_lexemes before) arguments ++ more)))
      ≡ walk (reading before own (points + k)) (last ++ command_slot ∷ rest) more
  form_goes word None (Some kind) k arguments (name ∷ []) after last rest more no_prove due behind named valid few right others =
      let is : name.kind ≡ kind = cc in
      let slots = flat_map argument_slots arguments ++ last in
      word_goes word (new_name_slot kind k ∷ slots) rest (word_lexeme name.text ∷ (flat_map (argument_lexemes before) arguments ++ more)) no_prove due
      ∙ name_goes kind k name after (slots ++ command_slot ∷ rest) (flat_map (argument_lexemes before) arguments ++ more) is few right others
      ∙ arguments_go (name ∷ []) (points + k) arguments last rest more valid
  form_goes word (Some condition) None k arguments [] after last rest more no_prove due behind named valid few right others =
      let slots = flat_map argument_slots arguments ++ last in
      let same : points ≡ points + k = omega (arith, behind.2) in
      word_goes word (condition_slot ∷ []) rest (word_lexeme condition ∷ (flat_map (argument_lexemes before) arguments ++ more)) no_prove due
      ∙ walk_taken (reading before [] points) (reading before [] points) (condition_slot ∷ command_slot ∷ rest)
      (slots ++ command_slot ∷ rest) (word_lexeme condition) (flat_map (argument_lexemes before) arguments ++ more)
      (ap (λ o. follow (reading before [] points) o (command_slot ∷ rest)) (sym behind.0))
      ∙ ap (λ n. walk (reading before [] n) (slots ++ command_slot ∷ rest) (flat_map (argument_lexemes before) arguments ++ more)) same
      ∙ arguments_go [] (points + k) arguments last rest more valid
  form_goes word None (Some kind) k arguments [] after last rest more no_prove due behind named valid few right others = absurd (cc)
  form_goes word None (Some kind) k arguments (n ∷ m ∷ own) after last rest more no_prove due behind named valid few right others = absurd (cc)
  form_goes word None None k arguments own after last rest more no_prove due behind named valid few right others = absurd (true≢false (sym behind))
  form_goes word (Some condition) None k arguments (n ∷ own) after last rest more no_prove due behind named valid few right others = absurd (cc)
  form_goes word (Some condition) (Some kind) k arguments own after last rest more no_prove due behind named valid few right others = absurd (some_is_none behind.1)

  -- the whole command
  command_goes : (nodes : Store) (own after : List Name) (command : Command) (sketch : Sketch) (rest : List Slot) (more : List Lexeme) → IsCommand nodes (scope_of empty_scope before) own command
      → points + (command_form nodes command).points ≤ 512 → All (λ n. IsNameText n.text) (before ++ (own ++ after))
      → AllDiffer (before ++ (own ++ after)) → (sketch ≡ None) ⊎ (command ≡ Point) → NoNumber more
      → walk (reading names begun points) (command_slot ∷ rest) ((command_lexemes before nodes own command ++ sketch_lexemes sketch) ++ more)
      ≡ walk (reading before own (points + (command_form nodes command).points)) (command_slot ∷ rest) more
  command_goes nodes own after command sketch rest more is few right others only none =
      let f = command_form nodes command in
      ap (walk (reading names begun points) (command_slot ∷ rest)) (grouped before own nodes command sketch more)
      ∙ form_goes f.word f.condition f.made f.points f.arguments own after (last_slots command) rest (sketch_lexemes sketch ++ more)
      (command_is_no_prove nodes command) (command_due_behind nodes command)
      (condition_due_behind nodes command) is.named is.arguments few right others
      ∙ last_goes command (reading before own (points + f.points)) (command_slot ∷ rest) sketch more only none

-- behind the commands all names are declared or begun
pub record Behind (r : Reading) (all : List Name) (rest : List Slot) (lexemes more : List Lexeme) : Type 0 where
  pub names : List Name
  pub begun : List Name
  pub points : ℕ
  pub declared : names ++ begun ≡ all
  pub goes : walk r (command_slot ∷ rest) lexemes ≡ walk (reading names begun points) (command_slot ∷ rest) more

-- the lexemes of commands, and then `prove`
abbrev pub then_prove : List (List Lexeme) → List Lexeme → List Lexeme
then_prove lines more = flat_map (λ line. line) lines ++ word_lexeme (codes "prove") ∷ more

no_number : (all : List Name) (nodes : Store) (names : List Name) (commands : List Command) (sketches : List Sketch) (more : List Lexeme)
    → NoNumber (then_prove (commands_lexemes all nodes names commands sketches) more)
no_number all nodes names (command ∷ _) (sketch ∷ sketches) more r rest = refl
no_number all nodes names [] sketches more r rest = refl
no_number all nodes names (command ∷ _) [] more r rest = refl

-- the commands one after another
pub commands_go : (before names all : List Name) (nodes : Store) (commands : List Command) (sketches : List Sketch) (declared begun : List Name) (points : ℕ) (rest : List Slot) (more : List Lexeme)
    → before ++ names ≡ all → declared ++ begun ≡ before → All (λ n. IsNameText n.text) all → AllDiffer all
    → AreCommands nodes (scope_of empty_scope before) names commands → AreSketches commands sketches
    → points + sum_by (λ c. (command_form nodes c).points) commands ≤ 512
    → Behind (reading declared begun points) all rest (then_prove (commands_lexemes all nodes names commands sketches) more) (word_lexeme (codes "prove") ∷ more)
commands_go before names all nodes [] sketches declared begun points rest more whole here texts differ are sketched few = record {
  names = declared;
  begun = begun;
  points = points;
  declared = here ∙ sym (append-nil before) ∙ ap (λ ns. before ++ ns) (sym are) ∙ whole;
  goes = refl;
}
commands_go before names all nodes (command ∷ commands) [] declared begun points rest more whole here texts differ are sketched few = absurd sketched
commands_go before names all nodes (command ∷ commands) (sketch ∷ sketches) declared begun points rest more whole here texts differ are sketched few =
    let f = command_form nodes command in
    let own = own_names f names in
    let later = later_names f names in
    let next = before ++ own in
    let apart : before ++ (own ++ later) ≡ all = ap (λ ns. before ++ ns) (own_and_later f names) ∙ whole in
    let joined : next ++ later ≡ all = append_assoc before own later ∙ apart in
    let texts' : All (λ n. IsNameText n.text) (before ++ (own ++ later)) = subst (All (λ n. IsNameText n.text)) (sym apart) texts in
    let differ' : AllDiffer (before ++ (own ++ later)) = subst AllDiffer (sym apart) differ in
    let front = All-front (λ (n : Name). IsNameText n.text) before (own ++ later) texts' in
    let room : points + f.points ≤ 512 = omega (arith, few, sum_by-cons (λ (c : Command). (command_form nodes c).points) command commands) in
    let behind = then_prove (commands_lexemes all nodes later commands sketches) more in
    let spelling : command_lexemes all nodes own command ≡ command_lexemes before nodes own command =
    ap (λ ns. command_lexemes ns nodes own command) (sym whole) ∙ command_lexemes-append before names nodes own command are.0 in
    let one = command_goes before front (AllDiffer-front before (own ++ later) differ') declared begun here points nodes own later command sketch rest behind are.0 room texts' differ' sketched.0
    (no_number all nodes later commands sketches more) in
    let scopes = sym (scope_of-append empty_scope before own) in
    let others = commands_go next later all nodes commands sketches before own (points + f.points) rest more joined refl texts differ
    (subst (λ s. AreCommands nodes s later commands) scopes are.1) sketched.1
    (omega (arith, few, sum_by-cons (λ (c : Command). (command_form nodes c).points) command commands)) in record {
      names = others.names;
      begun = others.begun;
      points = others.points;
      declared = others.declared;
      goes =
          ap (walk (reading declared begun points) (command_slot ∷ rest))
          (append_assoc (command_lexemes all nodes own command ++ sketch_lexemes sketch)
          (flat_map (λ (line : List Lexeme). line) (commands_lexemes all nodes later commands sketches))
          (word_lexeme (codes "prove") ∷ more)
          ∙ ap (λ ls. (ls ++ sketch_lexemes sketch) ++ behind) spelling)
          ∙ one ∙ others.goes;
    }

-- THE STATEMENT

pub statement_goes : (names begun all : List Name) (points : ℕ) (nodes : Store) (statement : Statement) (rest : List Slot) → names ++ begun ≡ all → All (λ n. IsNameText n.text) all → AllDiffer all
    → All (IsArgument (scope_of empty_scope all)) (statement_form nodes statement).arguments
    → walk (reading names begun points) (command_slot ∷ rest) (statement_lexemes all nodes statement) ≡ Some (reading all [] points, end_slot ∷ [])
statement_goes names begun all points nodes statement rest here texts differ valid =
    let arguments = (statement_form nodes statement).arguments in
    let slots = flat_map argument_slots arguments in
    let spelling = flat_map (argument_lexemes all) arguments in
    let r = reading all [] points in
    let go = Goes-arguments all texts differ r refl arguments valid in
    walk_taken (reading names begun points) r (command_slot ∷ rest) statement_slots (word_lexeme (codes "prove"))
    (open_brace ∷ (word_lexeme (statement_form nodes statement).word ∷ spelling ++ close_brace ∷ []))
    (begin_command-prove (reading names begun points) (codes "prove") rest refl ∙ ap (λ ns. taken (reading ns [] points) statement_slots) here)
    ∙ walk_taken r r (statement_slot ∷ close_slot ∷ end_slot ∷ []) (slots ++ close_slot ∷ end_slot ∷ []) (word_lexeme (statement_form nodes statement).word) (spelling ++ close_brace ∷ [])
    (ap (λ o. follow r o (close_slot ∷ end_slot ∷ [])) (sym (statement_due_behind nodes statement)))
    ∙ go.goes (close_slot ∷ end_slot ∷ []) (close_brace ∷ [])
