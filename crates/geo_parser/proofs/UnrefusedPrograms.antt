-- A program is read where nothing is refused: each text spells one, or it is refused.
use Rattle.std.proofs.Common.{◌≡◌, true≢false, ℕ, zero, suc, ◌<◌, ◌≤◌, ◌⊎◌, Bool, true, false, List, [], ◌∷◌, ◌++◌, length}
use Rattle.std.proofs.Common.{map, Option, Some, None, is_some, codes, refl, sym, ap, ◌∙◌, subst, inl, inr, arith}
use Rattle.std.specs.Prelude.{All, option_map}
use Rattle.std.specs.List.{flat_map}
use Rattle.std.proofs.lemmas.List.{append-nil}
use Rattle.std.proofs.lemmas.List.Elements.{All-cons, All-nil}
use Rattle.geo_points.specs.declared.ids.PointId.{PointId}
use Rattle.geo_points.specs.declared.ids.TermId.{TermId}
use Rattle.geo_lexer.specs.declared.token_types.Fault.{Fault}
use Rattle.geo_lexer.specs.declared.token_types.Token.{Token}
use Rattle.geo_lexer.specs.Lexemes.{Lexeme, MayStand, lexeme_of, word_lexeme}
use Rattle.geo_lexer.specs.Tokens.{IsLexed}
use Rattle.geo_lexer.proofs.Lexings.{texts_are_lexed}
use Rattle.geo_lexer.proofs.Meanings.{lexemes_may_stand}
use Rattle.geo_program.specs.CanonicalText.{argument_lexemes, condition_lexemes}
use Rattle.geo_program.specs.Expressions.{braced, expression_lexemes}
use Rattle.geo_program.specs.Forms.{side_argument, point_argument, statement_form, AreSidesStored}
use Rattle.geo_program.specs.Programs.{Spells}
use Rattle.geo_program.specs.Spelling.{SpellsSource}
use Rattle.geo_program.specs.WellFormed.{AllDiffer, IsArgument, Source}
use Rattle.geo_program.specs.Words.{IsNameText}
use Rattle.geo_program.specs.declared.commands.Command.{Command}
use Rattle.geo_program.specs.declared.names.Name.{Name}
use Rattle.geo_program.specs.declared.program_type.Program.{Program}
use Rattle.geo_program.specs.declared.statements.Statement.{Statement}
use Rattle.geo_program.specs.declared.statements.Statement.TheVariants as statement
use Rattle.geo_program.proofs.LinesSpelt.{well_formed_is_spelt}
use Rattle.geo_terms.specs.Stores.{Store, tree_of}
use Rattle.geo_terms.specs.Trees.{Tree}
use Rattle.geo_parser.specs.declared.command_words.CommandWord.{CommandWord}
use Rattle.geo_parser.specs.declared.command_words.CommandWord.TheVariants.{Assume}
use Rattle.geo_parser.specs.declared.command_words.ConditionWord.{ConditionWord}
use Rattle.geo_parser.specs.declared.command_words.TheConstants.{CONDITIONS}
use Rattle.geo_parser.specs.declared.reader.Reader.{Reader}
use Rattle.geo_parser.specs.declared.statement_words.QuadrupleStatement.{QuadrupleStatement}
use Rattle.geo_parser.specs.declared.statement_words.QuadrupleStatement.TheVariants.{Parallel, Perpendicular, SameLength, Harmonic, Concyclic}
use Rattle.geo_parser.specs.declared.statement_words.StatementWord.{StatementWord}
use Rattle.geo_parser.specs.declared.statement_words.StatementWord.TheVariants.{Equal, Identical, Triple, Quadruple}
use Rattle.geo_parser.specs.declared.statement_words.TheConstants.{STATEMENTS}
use Rattle.geo_parser.specs.declared.statement_words.TripleStatement.{TripleStatement}
use Rattle.geo_parser.specs.declared.statement_words.TripleStatement.TheVariants.{Collinear, Midpoint}
use Rattle.geo_parser.specs.Forms.{Slot, close_slot, command_slot, commands, condition_slot, conditions, due_behind}
use Rattle.geo_parser.specs.Forms.{end_slot, naming_commands, open_slot, side, statement_slot, statements}
use Rattle.geo_parser.specs.Inner.Coming.{next_lexeme}
use Rattle.geo_parser.specs.Inner.CommandWords.{command_condition, command_due, command_text, condition_slots, condition_text}
use Rattle.geo_parser.specs.Inner.Reads.{Passes, Reads, ReadsAllCommands, ReadsArguments, ReadsCommands, ReadsCondition, ReadsPart, ReadsProve}
use Rattle.geo_parser.specs.Inner.Reads.{ReadsStated, ReadsStatement, ReadsStatementWord, ReadsWord, fault_of, reading, scope, statement_slots}
use Rattle.geo_parser.specs.Inner.StatementWords.{statement_due, statement_text}
use Rattle.geo_parser.specs.Laws.{TextsSpellOrAreRefused}
use Rattle.geo_parser.specs.Refusals.{IsRefused, first_fault, placed_lexemes}
use Rattle.geo_parser.specs.Slots.{Outcome, Reading, begin_command, follow, next, refused, taken}
use Rattle.geo_parser.specs.Texts.{found, is_text}
use Rattle.geo_parser.proofs.CommandReading.{Passes-length, begin_command-due, begin_command-prove, completed_none, due_behind-naming}
use Rattle.geo_parser.proofs.CommandsReading.{ReadsCommands-more, at_some}
use Rattle.geo_parser.proofs.Finding.{due_behind-dues, same_text, text_found}
use Rattle.geo_parser.proofs.FormReading.{ReadsStated-made, ReadsStatement-made}
use Rattle.geo_parser.proofs.ProgramReading.{first_reader, lexemes-whole_text, read_source, refused_at, spelt, spelt_short}
use Rattle.geo_parser.proofs.Reading.{Passes-then, Passes-token, ReadsArguments-then, advanced, first_fault-taken}
use Rattle.geo_parser.proofs.Unrefused.{Unrefused, Unrefused-behind, Unrefused-past, Unrefused-then, close_read, four_points_read}
use Rattle.geo_parser.proofs.Unrefused.{never_refused, open_read, three_points_read, two_points_read, word_there}
use Rattle.geo_parser.proofs.UnrefusedCommands.{command_read}
use Rattle.geo_parser.proofs.UnrefusedExpressions.{part_read}
use Rattle.geo_parser.proofs.Walks.{fault_on}
use Rattle.geo_parser.proofs.WordTables.{command_table, unnamed_condition}

-- WORDS

-- the words of conditions and of statements
abbrev condition_table : List (List ℕ × ConditionWord)
condition_table = map (λ e. (e.0.now, e.1)) CONDITIONS

abbrev statement_table : List (List ℕ × StatementWord)
statement_table = map (λ e. (e.0.now, e.1)) STATEMENTS

-- the word of a condition
condition_read : (s : Reader) → Unrefused s [] (condition_slot ∷ command_slot ∷ []) → (word : ConditionWord) × ReadsCondition word s (advanced s)
condition_read s u =
    let w = word_there s [] (condition_slot ∷ command_slot ∷ []) u 4 refl (λ z. refl) refl refl in
    by w.0 w.1 (found condition_table w.0) refl
  where
    due : (word : List ℕ) → option_map condition_slots (found condition_table word) ≡ due_behind word conditions
    due word = due_behind-dues condition_slots condition_table word

    by : (word : List ℕ) → next_lexeme s.cursor.tokens ≡ Some (word_lexeme word) → (o : Option ConditionWord) → found condition_table word ≡ o
        → (k : ConditionWord) × ReadsCondition k s (advanced s)
    by word is None e =
        absurd (never_refused s [] (condition_slot ∷ command_slot ∷ []) u (word_lexeme word) is 4
        (ap (λ o. follow (reading s.names [] s.points) o (command_slot ∷ [])) (sym (due word) ∙ ap (option_map condition_slots) e)))
    by word is (Some k) e =
        let text = at_some (found condition_table word) k (λ c. condition_text c ≡ word) e (text_found condition_text condition_table word refl) in
        let P : List ℕ → Type 0 = λ w. Passes s (advanced s) (word_lexeme w ∷ []) in (
          k,
          record {
            passes = subst P (sym text) (Passes-token s (word_lexeme word) is);
            names = refl;
            points = refl;
            terms = refl;
            follows = λ begun rest. first_fault-taken _ _ _ _ s.cursor.tokens s.cursor.end s.cursor.stop (word_lexeme word) is
                (ap (λ o. follow (reading s.names begun s.points) o rest) (sym (due word) ∙ ap (option_map condition_slots) e));
          },
        )

-- the word of a command, or `prove`
abbrev IsCommandOrProve : Reader → Type 0
IsCommandOrProve s = (t : Reader) × (ReadsProve s t ⊎ ((word : CommandWord) × ReadsWord word s t))

module _ (s : Reader) (u : Unrefused s [] (command_slot ∷ [])) (word : List ℕ) (is : next_lexeme s.cursor.tokens ≡ Some (word_lexeme word)) where
  prove_word : is_text word (codes "prove") ≡ true → IsCommandOrProve s
  prove_word h =
      let P : List ℕ → Type 0 = λ w. Passes s (advanced s) (word_lexeme w ∷ []) in (
        advanced s,
        inl (record {
          passes = subst P (same_text word (codes "prove") h) (Passes-token s (word_lexeme word) is);
          names = refl;
          points = refl;
          terms = refl;
          follows = λ rest. first_fault-taken _ _ _ _ s.cursor.tokens s.cursor.end s.cursor.stop (word_lexeme word) is
              (begin_command-prove (reading s.names [] s.points) word rest h ∙ ap (λ r. taken r statement_slots) (completed_none s.names s.points));
        }),
      )

  -- behind `assume` the word of a condition is due
  assume_word : word ≡ codes "assume" → IsCommandOrProve s
  assume_word same =
      let goes : (rest : List Slot) → begin_command (reading s.names [] s.points) word rest ≡ taken (reading s.names [] s.points) (condition_slot ∷ command_slot ∷ rest) =
      λ rest. ap (λ w. begin_command (reading s.names [] s.points) w rest) same
      ∙ ap (λ r. taken r (condition_slot ∷ command_slot ∷ rest)) (completed_none s.names s.points) in
      let k = condition_read (advanced s) (Unrefused-behind s [] (command_slot ∷ []) u (word_lexeme word) is [] (condition_slot ∷ command_slot ∷ []) (goes [])) in
      let P : List ℕ → Type 0 = λ w. Passes s (advanced s) (word_lexeme w ∷ []) in (
        advanced (advanced s),
        inr (
          Assume k.0,
          record {
            passes = Passes-then s (advanced s) (advanced (advanced s)) (word_lexeme (codes "assume") ∷ []) (word_lexeme (condition_text k.0) ∷ [])
                (subst P same (Passes-token s (word_lexeme word) is)) k.1.passes;
            names = refl;
            points = refl;
            terms = refl;
            follows = λ rest. first_fault-taken _ _ _ _ s.cursor.tokens s.cursor.end s.cursor.stop (word_lexeme word) is (goes rest)
                ∙ k.1.follows [] (command_slot ∷ rest);
          },
        ),
      )

  naming_word : is_text word (codes "prove") ≡ false → is_text word (codes "assume") ≡ false → IsCommandOrProve s
  naming_word no_prove no_assume = by (found command_table word) refl
    where
      due : option_map command_due (found command_table word) ≡ due_behind word naming_commands
      due = due_behind-dues command_due command_table word

      goes : (o : Option CommandWord) → found command_table word ≡ o → option_map command_due o ≡ due_behind word commands
      goes o e = sym (ap (option_map command_due) e) ∙ due ∙ sym (due_behind-naming word no_assume)

      by : (o : Option CommandWord) → found command_table word ≡ o → IsCommandOrProve s
      by None e =
          absurd (never_refused s [] (command_slot ∷ []) u (word_lexeme word) is 4 (begin_command-due (reading s.names [] s.points) word [] None no_prove (goes None e)))
      by (Some k) e =
          let text = at_some (found command_table word) k (λ c. command_text c ≡ word) e (text_found command_text command_table word refl) in
          let none = at_some (found command_table word) k (λ c. command_condition c ≡ None) e (unnamed_condition word) in
          let P : List ℕ → Option (List ℕ) → Type 0 = λ w o. Passes s (advanced s) (word_lexeme w ∷ condition_lexemes o) in (
            advanced s,
            inr (
              k,
              record {
                passes = subst (λ o. P (command_text k) o) (sym none) (subst (λ w. P w None) (sym text) (Passes-token s (word_lexeme word) is));
                names = refl;
                points = refl;
                terms = refl;
                follows = λ rest. first_fault-taken _ _ _ _ s.cursor.tokens s.cursor.end s.cursor.stop (word_lexeme word) is
                    (begin_command-due (reading s.names [] s.points) word rest (Some (command_due k)) no_prove (goes (Some k) e)
                    ∙ ap (λ q. taken q (command_due k ++ command_slot ∷ rest)) (completed_none s.names s.points));
              },
            ),
          )

command_word_read : (s : Reader) → Unrefused s [] (command_slot ∷ []) → IsCommandOrProve s
command_word_read s u =
    let w = word_there s [] (command_slot ∷ []) u 11 refl (λ z. refl) refl refl in
    by w.0 w.1 (is_text w.0 (codes "prove")) refl (is_text w.0 (codes "assume")) refl
  where
    by : (word : List ℕ) → next_lexeme s.cursor.tokens ≡ Some (word_lexeme word) → (p : Bool) → is_text word (codes "prove") ≡ p → (a : Bool)
        → is_text word (codes "assume") ≡ a
        → IsCommandOrProve s
    by word is true proved a assumed = prove_word s u word is proved
    by word is false other true assumed = assume_word s u word is (same_text word (codes "assume") assumed)
    by word is false other false named = naming_word s u word is other named

-- COMMANDS

-- all commands are read, and behind `prove` the statement is due
abbrev IsAllRead : Reader → Type 0
IsAllRead a = (c : Reader) × (cs : List Command) × ReadsAllCommands a c cs × Unrefused c [] statement_slots

-- one command, and then the others
next_command : (a b : Reader) (cs : List Command) → ReadsCommands a b cs → Unrefused b [] (command_slot ∷ [])
    → ((d : Reader) (more : List Command) → length d.cursor.tokens < length b.cursor.tokens → ReadsCommands a d more → Unrefused d [] (command_slot ∷ [])
    → IsAllRead a) → IsAllRead a
next_command a b cs h u onward = let w = command_word_read b u in by w.0 w.1
  where
    by : (t : Reader) → ReadsProve b t ⊎ ((word : CommandWord) × ReadsWord word b t) → IsAllRead a
    by t (inl proved) =
        (t, cs, record { middle = b; read = h; prove = proved }, Unrefused-past b t _ [] [] (command_slot ∷ []) statement_slots proved.passes (proved.follows []) u)
    by t (inr (word, k)) =
        let behind = command_due word ++ command_slot ∷ [] in
        let v = Unrefused-past b t _ [] [] (command_slot ∷ []) behind k.passes (k.follows []) u in
        let c = command_read word t (omega (arith, k.points, h.few)) v in
        let less : length c.0.cursor.tokens < length b.cursor.tokens = omega (arith, Passes-length b t _ k.passes, Passes-length t c.0 _ c.2.passes) in
        onward c.0 (cs ++ c.1 ∷ []) less (ReadsCommands-more a b t c.0 cs word c.1 h k c.2)
        (Unrefused-past t c.0 _ [] [] behind (command_slot ∷ []) c.2.passes (c.2.follows []) v)

commands_read : (n : ℕ) (a b : Reader) (cs : List Command) → length b.cursor.tokens ≤ n → ReadsCommands a b cs → Unrefused b [] (command_slot ∷ []) → IsAllRead a
commands_read zero a b cs few h u = next_command a b cs h u (λ d more less k v. absurd (omega arith))
commands_read (suc n) a b cs few h u = next_command a b cs h u (λ d more less k v. commands_read n a d more (omega arith) k v)

-- no command is read yet
ReadsCommands-none : (a : Reader) → a.names ≡ [] → a.points ≡ 0 → ReadsCommands a a []
ReadsCommands-none a no_names no_points = record {
  sketches = [];
  sketched = tt;
  passes = record { spelt = refl; stop = refl };
  made = no_names;
  texts = subst (All (λ n. IsNameText n.text)) (sym no_names) (All-nil (λ n. IsNameText n.text));
  differ = subst AllDiffer (sym no_names) tt;
  counted = no_points;
  few = omega arith;
  room = omega arith;
  names = omega (arith, ap length no_names);
  follows = refl;
}

-- THE STATEMENT

statement_word_read : (s : Reader) (begun : List Name) (rest : List Slot) → Unrefused s begun (statement_slot ∷ rest)
    → (word : StatementWord) × ReadsStatementWord word s (advanced s)
statement_word_read s begun rest u =
    let w = word_there s begun (statement_slot ∷ rest) u 4 refl (λ z. refl) refl refl in
    by w.0 w.1 (found statement_table w.0) refl
  where
    due : (word : List ℕ) → option_map statement_due (found statement_table word) ≡ due_behind word statements
    due word = due_behind-dues statement_due statement_table word

    by : (word : List ℕ) → next_lexeme s.cursor.tokens ≡ Some (word_lexeme word) → (o : Option StatementWord) → found statement_table word ≡ o
        → (k : StatementWord) × ReadsStatementWord k s (advanced s)
    by word is None e =
        absurd (never_refused s begun (statement_slot ∷ rest) u (word_lexeme word) is 4
        (ap (λ o. follow (reading s.names begun s.points) o rest) (sym (due word) ∙ ap (option_map statement_due) e)))
    by word is (Some k) e =
        let text = at_some (found statement_table word) k (λ c. statement_text c ≡ word) e (text_found statement_text statement_table word refl) in
        let P : List ℕ → Type 0 = λ w. Passes s (advanced s) (word_lexeme w ∷ []) in (
          k,
          record {
            passes = subst P (sym text) (Passes-token s (word_lexeme word) is);
            names = refl;
            points = refl;
            terms = refl;
            follows = λ begun' more. first_fault-taken _ _ _ _ s.cursor.tokens s.cursor.end s.cursor.stop (word_lexeme word) is
                (ap (λ o. follow (reading s.names begun' s.points) o more) (sym (due word) ∙ ap (option_map statement_due) e));
          },
        )

-- a side of an equation is an argument
ReadsArguments-side : (a b : Reader) (e : TermId) → ReadsPart 0 true a b e → ReadsArguments (side_argument (tree_of b.terms e) ∷ []) a b
ReadsArguments-side a b e h =
    let P : List Lexeme → Type 0 = λ ls. Reads side a b ls in record {
      reads = subst P (sym (append-nil (braced (expression_lexemes a.names (tree_of b.terms e))))) h.reads;
      valid = All-cons (IsArgument (scope a)) _ [] (h.tree.valid, omega (arith, h.tree.nested)) (All-nil (IsArgument (scope a)));
    }

-- statements on points, whatever the store
triple_stated : (word : TripleStatement) (a b c : PointId) → (k : Statement)
    × ((nodes : Store) → statement_form nodes k
    ≡ record { word = statement_text (Triple word); arguments = point_argument a ∷ point_argument b ∷ point_argument c ∷ [] })
    × ((nodes : Store) → AreSidesStored nodes k)
triple_stated Collinear a b c = (statement.Collinear a b c, λ nodes. refl, λ nodes. tt)
triple_stated Midpoint a b c = (statement.Midpoint a b c, λ nodes. refl, λ nodes. tt)

quadruple_stated : (word : QuadrupleStatement) (a b c d : PointId) → (k : Statement)
    × ((nodes : Store) → statement_form nodes k
    ≡ record { word = statement_text (Quadruple word); arguments = point_argument a ∷ point_argument b ∷ point_argument c ∷ point_argument d ∷ [] })
    × ((nodes : Store) → AreSidesStored nodes k)
quadruple_stated Parallel a b c d = (statement.Parallel a b c d, λ nodes. refl, λ nodes. tt)
quadruple_stated Perpendicular a b c d = (statement.Perpendicular a b c d, λ nodes. refl, λ nodes. tt)
quadruple_stated SameLength a b c d = (statement.SameLength a b c d, λ nodes. refl, λ nodes. tt)
quadruple_stated Harmonic a b c d = (statement.Harmonic a b c d, λ nodes. refl, λ nodes. tt)
quadruple_stated Concyclic a b c d = (statement.Concyclic a b c d, λ nodes. refl, λ nodes. tt)

module _ (s : Reader) (begun : List Name) (rest : List Slot) where
  -- two sides
  equal_read : Unrefused s begun (statement_due Equal ++ rest) → (t : Reader) × (k : Statement) × ReadsStated Equal s t k
  equal_read u =
      let e = part_read 128 0 (omega arith) true s begun (side ++ rest) u in
      let f = part_read 128 0 (omega arith) true e.0 begun rest (Unrefused-then side s e.0 _ begun (side ++ rest) e.2.reads u) in
      let nodes = f.0.terms in
      let later = f.2.reads.terms in
      let kept : tree_of nodes e.1 ≡ tree_of e.0.terms e.1 = later.others e.1 e.2.stored in
      let P : Tree → Type 0 = λ tree. ReadsArguments (side_argument tree ∷ []) s e.0 in
      let first = subst P (sym kept) (ReadsArguments-side s e.0 e.1 e.2) in
      let read =
      ReadsArguments-then (side_argument (tree_of nodes e.1) ∷ []) (side_argument (tree_of nodes f.1) ∷ []) s e.0 f.0 first (ReadsArguments-side e.0 f.0 f.1 f.2) in
      (f.0, statement.Equal e.1 f.1, ReadsStated-made Equal _ s f.0 _ read refl refl refl (omega (arith, e.2.stored, later.longer), f.2.stored))

  stated_read : (word : StatementWord) → Unrefused s begun (statement_due word ++ rest) → (t : Reader) × (k : Statement) × ReadsStated word s t k
  stated_read Equal u = equal_read u
  stated_read Identical u =
      let p = two_points_read s begun rest u in (p.0, statement.Identical p.1 p.2, ReadsStated-made Identical _ s p.0 _ p.3 refl refl refl tt)
  stated_read (Triple word) u =
      let p = three_points_read s begun rest u in
      let made = triple_stated word p.1 p.2 p.3 in
      let form = made.1 p.0.terms in
      (p.0, made.0, ReadsStated-made (Triple word) _ s p.0 made.0 p.4 refl (ap (λ f. f.word) form) (ap (λ f. f.arguments) form) (made.2 p.0.terms))
  stated_read (Quadruple word) u =
      let p = four_points_read s begun rest u in
      let made = quadruple_stated word p.1 p.2 p.3 p.4 in
      let form = made.1 p.0.terms in
      (p.0, made.0, ReadsStated-made (Quadruple word) _ s p.0 made.0 p.5 refl (ap (λ f. f.word) form) (ap (λ f. f.arguments) form) (made.2 p.0.terms))

-- THE END

-- where only the end may come, nothing is to come
ended : (r : Reading) (tokens : List (Lexeme × ℕ)) (end : ℕ) (stop : Option Fault) → first_fault r (end_slot ∷ []) tokens end stop ≡ None
    → (tokens ≡ []) × (stop ≡ None)
ended r [] end (Some f) none = absurd (true≢false (ap is_some none))
ended r [] end None none = (refl, refl)
ended r (t ∷ ts) end stop none = absurd (true≢false (ap is_some none))

statement_read : (s : Reader) → Unrefused s [] statement_slots → (t : Reader) × (k : Statement) × ReadsStatement s t k
statement_read s u =
    let o = open_read 0 s [] (statement_slot ∷ close_slot ∷ end_slot ∷ []) u in
    let v = Unrefused-then (open_slot 0 ∷ []) s o.0 _ [] (statement_slot ∷ close_slot ∷ end_slot ∷ []) o.2 u in
    let w = statement_word_read o.0 [] (close_slot ∷ end_slot ∷ []) v in
    let behind = statement_due w.0 ++ (close_slot ∷ end_slot ∷ []) in
    let x = Unrefused-past o.0 (advanced o.0) _ [] [] (statement_slot ∷ close_slot ∷ end_slot ∷ []) behind w.1.passes (w.1.follows [] (close_slot ∷ end_slot ∷ [])) v in
    let k = stated_read (advanced o.0) [] (close_slot ∷ end_slot ∷ []) w.0 x in
    let spelling = flat_map (argument_lexemes (advanced o.0).names) (statement_form k.0.terms k.1).arguments in
    let y = Unrefused-then (statement_due w.0) (advanced o.0) k.0 spelling [] (close_slot ∷ end_slot ∷ []) k.2.reads x in
    let c = close_read k.0 [] (end_slot ∷ []) y in
    let z = Unrefused-then (close_slot ∷ []) k.0 c.0 _ [] (end_slot ∷ []) c.1 y in
    let nothing = ended (reading c.0.names [] c.0.points) c.0.cursor.tokens c.0.cursor.end c.0.cursor.stop z.none in
    (c.0, k.1, ReadsStatement-made s o.0 (advanced o.0) k.0 w.0 k.1 o.2 w.1 k.2 c.0 c.1 nothing.0 nothing.1)

-- PROGRAMS

-- where nothing is refused, all of the text are tokens
stop_none : (r : Reading) (slots : List Slot) (tokens : List (Lexeme × ℕ)) (end : ℕ) (stop : Option Fault) → first_fault r slots tokens end stop ≡ None → stop ≡ None
stop_none r slots [] end (Some f) none = absurd (true≢false (ap is_some none))
stop_none r slots [] end None none = refl
stop_none r slots (t ∷ ts) end stop none = by (next r slots t.0) none (λ s rest. stop_none s rest ts end stop)
  where
    by : (o : Outcome) → fault_on o t.1 ts end stop ≡ None
        → ((s : Reading) (rest : List Slot) → first_fault s rest ts end stop ≡ None → stop ≡ None) → stop ≡ None
    by (refused n) h onward = absurd (true≢false (ap is_some h))
    by (taken s rest) h onward = onward s rest h

module _ (bytes : List ℕ) (tokens : List Token) (stop : Option Fault) (lexed : IsLexed bytes tokens stop)
    (none : fault_of (first_reader bytes tokens stop) [] (command_slot ∷ []) ≡ None) where
  unrefused : Unrefused (first_reader bytes tokens stop) [] (command_slot ∷ [])
  unrefused =
      let whole = stop_none _ (command_slot ∷ []) (placed_lexemes bytes tokens) (length bytes) stop none in
      let small = lexemes_may_stand bytes (map (lexeme_of bytes) tokens) (record { tokens = tokens; lexed = subst (IsLexed bytes tokens) whole lexed; meant = refl }) in
      record { may = subst (All MayStand) (sym (lexemes-whole_text bytes tokens stop)) small; none = none }

  unrefused_spells : (p : Source) × SpellsSource bytes p
  unrefused_spells =
      let a = first_reader bytes tokens stop in
      let c = commands_read (length a.cursor.tokens) a a [] (omega arith) (ReadsCommands-none a refl refl) unrefused in
      let d = statement_read c.0 c.3 in (
        read_source bytes tokens stop lexed c.0 d.0 c.1 d.1 c.2 d.2,
        spelt bytes tokens stop lexed c.0 d.0 c.1 d.1 c.2 d.2,
      )

pub texts_spell_or_are_refused : TextsSpellOrAreRefused
texts_spell_or_are_refused bytes =
    let l = texts_are_lexed bytes in by l.0 l.1 l.2 (fault_of (first_reader bytes l.0 l.1) [] (command_slot ∷ [])) refl
  where
    by : (tokens : List Token) (stop : Option Fault) → IsLexed bytes tokens stop → (o : Option Fault)
        → fault_of (first_reader bytes tokens stop) [] (command_slot ∷ []) ≡ o
        → ((p : Source) × SpellsSource bytes p) ⊎ ((fault : Fault) × IsRefused bytes fault)
    by tokens stop lexed None none = inl (unrefused_spells bytes tokens stop lexed none)
    by tokens stop lexed (Some f) some = inr (f, refused_at bytes tokens stop lexed f some)

-- a short text that spells the parts of a program spells the program
pub spelt_program : (bytes : List ℕ) (p : Source) → length bytes ≤ 67108864 → SpellsSource bytes p → (q : Program) × Spells bytes q
spelt_program bytes p few h = (
  record {
    names = p.names;
    terms = p.nodes;
    commands = p.commands;
    statement = p.statement;
    spelt = ∣ well_formed_is_spelt p h.well_formed ∣₁;
    short = omega (arith, spelt_short bytes p h, few);
  },
  h,
)
