-- Reading the words and the names of commands.
use Rattle.std.proofs.Common.{◌≡◌, true≢false, ℕ, zero, suc, ◌+◌, ◌<◌, ◌≤◌, Bool, true, false, cond, List, [], ◌∷◌, ◌++◌, length, get_or}
use Rattle.std.proofs.Common.{map, Some, None, is_some, codes, refl, sym, ap, ◌∙◌, subst, arith, length-append}
use Rattle.std.specs.Prelude.{All, Contains, Option, find, if◌then◌else◌, nat_le, option_map}
use Rattle.std.specs.List.{flat_map}
use Rattle.std.proofs.lemmas.List.{append-nil, length-map}
use Rattle.std.proofs.lemmas.List.Elements.{All-cons, All-nil}
use Rattle.geo_lexer.specs.declared.token_types.Fault.{Fault}
use Rattle.geo_lexer.specs.Lexemes.{Lexeme, word_lexeme, number_lexeme, open_brace, close_brace}
use Rattle.geo_program.specs.CanonicalText.{argument_lexemes, sketch_lexemes}
use Rattle.geo_program.specs.Forms.{CommandForm, command_form}
use Rattle.geo_program.specs.WellFormed.{AllDiffer, IsArgument, empty_scope, kinds_made, scope_of}
use Rattle.geo_program.specs.Words.{IsNameText, reserved_words}
use Rattle.geo_program.specs.declared.commands.Command.{Command}
use Rattle.geo_program.specs.declared.names.Name.{Name}
use Rattle.geo_program.specs.declared.names.NameKind.{NameKind}
use Rattle.geo_program.proofs.Pushing.{AllDiffer-push}
use Rattle.geo_parser.specs.declared.command_words.CommandWord.{CommandWord}
use Rattle.geo_parser.specs.declared.command_words.CommandWord.TheVariants.{Assume, Point}
use Rattle.geo_parser.specs.declared.reader.Reader.{Reader}
use Rattle.geo_parser.specs.Inner.Coming.{Coming, fault_from, fault_here, lexemes_of, next_lexeme}
use Rattle.geo_parser.specs.Inner.CommandWords.{command_due, command_kind, command_points, command_slots}
use Rattle.geo_parser.specs.Inner.Dictionaries.{IsNew, IsNoNewName, name_of}
use Rattle.geo_parser.specs.Forms.{Due, Slot, command_slot, commands, condition_slot, due_behind, naming_commands, new_name_slot}
use Rattle.geo_parser.specs.Inner.Symbols.{IsWord}
use Rattle.geo_parser.specs.Inner.Reads.{Passes, ReadsCommand, ReadsForm, ReadsNewName, Refuses, a_name, extent, fault_of, reading, statement_slots}
use Rattle.geo_parser.specs.Refusals.{fault_at, first_fault}
use Rattle.geo_parser.specs.Slots.{Outcome, Reading, begin_command, completed, follow, next, refused, taken}
use Rattle.geo_parser.specs.Texts.{is_text}
use Rattle.geo_parser.proofs.Finding.{is_text_self, is_text_sym}
use Rattle.geo_parser.proofs.NameUses.{begin_name-new, begun}
use Rattle.geo_parser.proofs.Reading.{Extends-same, Extends-then, Passes-then, Passes-token, Refuses-first, Refuses-token, advanced, first_fault-taken}

-- THE WORD OF A COMMAND

-- what comes of a word where a command is due, by what is known of it
abbrev by_word : Bool → Option (List Slot) → Reading → List Slot → Outcome
by_word prove due r rest = if prove then taken (completed r) statement_slots else follow (completed r) due (command_slot ∷ rest)

module _ (r : Reading) (word : List ℕ) (rest : List Slot) where
  pub begin_command-prove : is_text word (codes "prove") ≡ true → begin_command r word rest ≡ taken (completed r) statement_slots
  begin_command-prove h = ap (λ b. by_word b (due_behind word commands) r rest) h

  pub begin_command-due : (due : Option (List Slot)) → is_text word (codes "prove") ≡ false → due ≡ due_behind word commands
      → begin_command r word rest ≡ follow (completed r) due (command_slot ∷ rest)
  begin_command-due due h is = ap (λ b. by_word b (due_behind word commands) r rest) h ∙ ap (λ o. follow (completed r) o (command_slot ∷ rest)) (sym is)

-- behind another word than `assume` a new name is due
pub due_behind-naming : (word : List ℕ) → is_text word (codes "assume") ≡ false → due_behind word commands ≡ due_behind word naming_commands
due_behind-naming word h =
    ap (λ b. option_map (λ (d : Due). d.1) (cond b (Some (codes "assume", condition_slot ∷ [])) (find (λ d. is_text d.0 word) naming_commands))) (is_text_sym (codes "assume") word ∙ h)

-- where no name is begun, nothing is completed
pub completed_none : (names : List Name) (points : ℕ) → completed (reading names [] points) ≡ reading names [] points
completed_none names points = ap (λ ns. reading ns [] points) (append-nil names)

module _ (s : Reader) (word : List ℕ) (is : next_lexeme s.cursor.tokens ≡ Some (word_lexeme word)) where
  pub Refuses-no_command : is_text word (codes "prove") ≡ false → is_text word (codes "assume") ≡ false
      → None ≡ due_behind word naming_commands → Refuses (command_slot ∷ []) s (fault_here 4 s.cursor.tokens s.cursor.end s.cursor.stop)
  Refuses-no_command h no_assume none =
      Refuses-token (command_slot ∷ []) s (word_lexeme word) is 4 (λ begun rest. begin_command-due (reading s.names begun s.points) word rest None h (none ∙ sym (due_behind-naming word no_assume)))

  -- behind `assume` the word of a condition is due
  module _ (same : word ≡ codes "assume") where
    assume_goes : (rest : List Slot) → fault_of s [] (command_slot ∷ rest) ≡ fault_of (advanced s) [] (condition_slot ∷ command_slot ∷ rest)
    assume_goes rest =
        first_fault-taken _ _ _ _ s.cursor.tokens s.cursor.end s.cursor.stop (word_lexeme word) is
        (ap (λ w. begin_command (reading s.names [] s.points) w rest) same ∙ ap (λ r. taken r (condition_slot ∷ command_slot ∷ rest)) (completed_none s.names s.points))

    pub Refuses-condition : (f : Fault) → Refuses (condition_slot ∷ []) (advanced s) f → fault_of s [] (command_slot ∷ []) ≡ Some f
    Refuses-condition f h = assume_goes [] ∙ h.first [] (command_slot ∷ [])

  -- A NEW NAME

  -- a word that can be no new name is refused
  pub Refuses-no_new_name : (kind : NameKind) (points refusal : ℕ) → IsNoNewName s.names word refusal
      → Refuses (new_name_slot kind points ∷ []) s (fault_here refusal s.cursor.tokens s.cursor.end s.cursor.stop)
  Refuses-no_new_name kind points refusal h =
      Refuses-token (new_name_slot kind points ∷ []) s (word_lexeme word) is refusal (λ begun rest. h.may_not (reading s.names begun s.points) kind points rest refl)

  module _ (points : ℕ) (new : IsNew s.names word) where
    -- a new name with which there are too many points is refused
    pub Refuses-points : (kind : NameKind) → nat_le (s.points + points) 512 ≡ false → Refuses (new_name_slot kind points ∷ []) s (fault_here 10 s.cursor.tokens s.cursor.end s.cursor.stop)
    Refuses-points kind many =
        Refuses-token (new_name_slot kind points ∷ []) s (word_lexeme word) is 10
        (λ begun rest. begin_name-new (reading s.names begun s.points) s.names refl kind points word rest false new.free new.undeclared
        many)

    -- another one is read
    pub ReadsNewName-token : nat_le (s.points + points) 512 ≡ true → s.points + points ≤ 512 → IsWord word
        → (Contains reserved_words word → ⊥) → ReadsNewName points s (record (advanced s) { points = s.points + points }) word
    ReadsNewName-token few below valid free = record {
      passes = record { spelt = (Passes-token s (word_lexeme word) is).spelt; stop = refl };
      names = refl;
      terms = refl;
      counted = refl;
      few = below;
      valid = record { first = valid.first; rest = valid.rest; short = valid.short; free = free };
      fresh = new;
      follows = λ kind begun rest. first_fault-taken _ _ _ _ s.cursor.tokens s.cursor.end s.cursor.stop (word_lexeme word) is
          (begin_name-new (reading s.names begun s.points) s.names refl kind points word rest true new.free new.undeclared few);
    }

-- A COMMAND

-- what comes of a word where a command is due, by the reading in which the command before is completed
abbrev by_completed : Reading → Bool → Option (List Slot) → List Slot → Outcome
by_completed r prove due rest = if prove then taken r statement_slots else follow r due (command_slot ∷ rest)

-- where a command is due, the name that is begun may be declared
next-completed : (names begun : List Name) (points : ℕ) (rest : List Slot) (l : Lexeme)
    → next (reading names begun points) (command_slot ∷ rest) l ≡ next (reading (names ++ begun) [] points) (command_slot ∷ rest) l
next-completed names begun points rest (word_lexeme word) =
    ap (λ r. by_completed r (is_text word (codes "prove")) (due_behind word commands) rest) (sym (completed_none (names ++ begun) points))
next-completed names begun points rest (number_lexeme n) = refl
next-completed names begun points rest open_brace = refl
next-completed names begun points rest close_brace = refl

fault_from-completed : (names begun : List Name) (points : ℕ) (rest : List Slot) (k : Coming)
    → fault_from (reading names begun points) (command_slot ∷ rest) k ≡ fault_from (reading (names ++ begun) [] points)
    (command_slot ∷ rest) k
fault_from-completed names begun points rest k = by k.tokens
  where
    by : (tokens : List (Lexeme × ℕ)) → first_fault (reading names begun points) (command_slot ∷ rest) tokens k.end k.stop ≡ first_fault
        (reading (names ++ begun) [] points) (command_slot ∷ rest) tokens k.end k.stop
    by [] = refl
    by (t ∷ ts) =
        ap (λ (o : Outcome). elim o [ refused refusal ↦ Some (fault_at t.1 refusal) | taken s more ↦ first_fault s more ts k.end k.stop ]) (next-completed names begun points rest t.0)

-- there are as many tokens less as lexemes were read
pub Passes-length : (a b : Reader) (ls : List Lexeme) → Passes a b ls → length a.cursor.tokens ≡ length ls + length b.cursor.tokens
Passes-length a b ls h =
    omega (arith, ap length h.spelt, length-append ls (lexemes_of b.cursor), length-map a.cursor.tokens (λ t. t.0), length-map b.cursor.tokens (λ t. t.0))

-- a word that no name is, is no name's text
undeclared_at : (names : List Name) (word : List ℕ) → name_of names word ≡ None → (k : ℕ) → k < length names → get_or (map (λ n. n.text) names) k word ≡ word → ⊥
undeclared_at [] word none k lt is = absurd (omega arith)
undeclared_at (n ∷ names) word none k lt is = by (is_text n.text word) refl none k lt is (undeclared_at names word)
  where
    by : (b : Bool) → is_text n.text word ≡ b → cond b (Some n) (name_of names word) ≡ None → (k' : ℕ) → k' < length (n ∷ names) → get_or (n.text ∷ map (λ m. m.text) names) k' word ≡ word
        → (name_of names word ≡ None → (j : ℕ) → j < length names → get_or (map (λ m. m.text) names) j word ≡ word → ⊥) → ⊥
    by true h missing k' lt' is' rest = cc
    by false h missing zero lt' is' rest = true≢false (sym (sym h ∙ ap (λ t. is_text t word) is' ∙ is_text_self word))
    by false h missing (suc k') lt' is' rest = rest missing k' (omega arith) is'

undeclared : (names : List Name) (word : List ℕ) → name_of names word ≡ None → Contains (map (λ n. n.text) names) word → ⊥
undeclared names word none there = undeclared_at names word none there.0 (omega (arith, there.1, length-map names (λ (n : Name). n.text))) there.2

-- what is due behind the word of a command with a new name
pub due_named : (word : CommandWord) (kind : NameKind) → command_kind word ≡ Some kind → command_due word ≡ new_name_slot kind (command_points word) ∷ command_slots word
due_named word kind h = ap (λ k. elim k [ None ↦ command_slots word | Some kind ↦ new_name_slot kind (command_points word) ∷ command_slots word ]) h

-- the kinds that the form of a command makes
kinds_are : (f : CommandForm) (made : Option NameKind) → f.made ≡ made → elim made [ None ↦ [] | Some kind ↦ kind ∷ [] ] ≡ kinds_made f
kinds_are f made h = ap (λ m. elim m [ None ↦ [] | Some kind ↦ kind ∷ [] ]) (sym h)

module _ (word : CommandWord) (kind : NameKind) (has : command_kind word ≡ Some kind) (points : ℕ) (counted : points ≡ command_points word) (a : Reader) where
  due_is : new_name_slot kind points ∷ command_slots word ≡ command_due word
  due_is = ap (λ n. new_name_slot kind n ∷ command_slots word) counted ∙ sym (due_named word kind has)

  -- a command is refused where its new name is
  pub Refuses-name : (f : Fault) → Refuses (new_name_slot kind points ∷ []) a f → Refuses (command_due word) a f
  Refuses-name f h = subst (λ due. Refuses due a f) due_is (Refuses-first (new_name_slot kind points ∷ []) (command_slots word) a f h)

  module _ (b : Reader) (text : List ℕ) (name : ReadsNewName points a b text) where
    -- the new name, and what is due behind it
    follows_name : (begun : List Name) (rest : List Slot) → fault_of a begun (command_due word ++ rest) ≡ fault_of b (a_name text kind ∷ []) (command_slots word ++ rest)
    follows_name begun rest = ap (λ due. fault_of a begun (due ++ rest)) (sym due_is) ∙ name.follows kind begun (command_slots word ++ rest)

    -- a command is refused where what stands behind its new name is
    pub Refuses-form : (f : Fault) → Refuses (command_slots word) b f → Refuses (command_due word) a f
    Refuses-form f h = record { first = λ begun rest. follows_name begun rest ∙ h.first (a_name text kind ∷ []) rest }

    -- there is less to come
    pub extent-name : extent b ≤ extent a
    extent-name = omega (arith, Passes-length a b (word_lexeme text ∷ []) name.passes, ap length name.terms)

    -- a command is read where its new name and the rest of it are
    pub ReadsCommand-made : (c : Reader) (command : Command) → ReadsForm word b c command → ReadsCommand word a (record c { names = c.names ++ a_name text kind ∷ [] }) command
    ReadsCommand-made c command h =
        let new = a_name text kind in
        let form = command_form c.terms command in
        let both = Passes-then a b c (word_lexeme text ∷ []) _ name.passes h.reads.passes in
        let P : List Name → Type 0 = λ ns. Passes a c (word_lexeme text ∷ flat_map (argument_lexemes ns) form.arguments ++ sketch_lexemes h.sketch) in
        let Q : List Name → Type 0 = λ ns. All (IsArgument (scope_of empty_scope ns)) form.arguments in
        let lexemes = subst P name.names both in record {
          own = new ∷ [];
          sketch = h.sketch;
          sketched = h.sketched;
          named = h.named;
          passes = record { spelt = lexemes.spelt; stop = lexemes.stop };
          names = ap (λ ns. ns ++ new ∷ []) (h.reads.names ∙ name.names);
          kinds = kinds_are form (Some kind) (h.named.kind ∙ has);
          texts = All-cons (λ n. IsNameText n.text) new [] name.valid (All-nil (λ n. IsNameText n.text));
          differ = λ differ. AllDiffer-push a.names new differ (undeclared a.names text name.fresh.undeclared);
          valid = subst Q name.names h.valid;
          stored = h.stored;
          counted = h.reads.points ∙ name.counted ∙ ap (λ n. a.points + n) counted;
          few = omega (arith, h.reads.points, name.few);
          terms = Extends-then a.terms b.terms c.terms (Extends-same name.terms) h.reads.terms;
          room = omega (arith, h.reads.room, extent-name);
          follows = λ rest. follows_name [] (command_slot ∷ rest) ∙ h.reads.follows (new ∷ []) (command_slot ∷ rest) ∙ fault_from-completed c.names (new ∷ []) c.points rest c.cursor;
        }

-- A COMMAND WITHOUT A NAME

points_unnamed : (word : CommandWord) → command_kind word ≡ None → command_points word ≡ 0
points_unnamed (Assume w) h = refl
points_unnamed Point h = absurd (true≢false (ap is_some h))
points_unnamed _ h = absurd (true≢false (ap is_some h))

module _ (word : CommandWord) (has : command_kind word ≡ None) (a : Reader) where
  pub due_unnamed : command_slots word ≡ command_due word
  due_unnamed = ap (λ k. elim k [ None ↦ command_slots word | Some kind ↦ new_name_slot kind (command_points word) ∷ command_slots word ]) (sym has)

  pub Refuses-unnamed : (f : Fault) → Refuses (command_slots word) a f → Refuses (command_due word) a f
  Refuses-unnamed f h = subst (λ due. Refuses due a f) due_unnamed h

  pub ReadsCommand-unnamed : (c : Reader) (command : Command) → a.points ≤ 512 → ReadsForm word a c command → ReadsCommand word a c command
  ReadsCommand-unnamed c command few h = record {
    own = [];
    sketch = h.sketch;
    sketched = h.sketched;
    named = h.named;
    passes = h.reads.passes;
    names = h.reads.names ∙ sym (append-nil a.names);
    kinds = kinds_are (command_form c.terms command) None (h.named.kind ∙ has);
    texts = All-nil (λ n. IsNameText n.text);
    differ = λ differ. subst AllDiffer (sym (append-nil a.names)) differ;
    valid = h.valid;
    stored = h.stored;
    counted = omega (arith, h.reads.points, points_unnamed word has);
    few = omega (arith, h.reads.points, few);
    terms = h.reads.terms;
    room = h.reads.room;
    follows = λ rest. ap (λ due. fault_of a [] (due ++ command_slot ∷ rest)) (sym due_unnamed) ∙ h.reads.follows [] (command_slot ∷ rest);
  }
