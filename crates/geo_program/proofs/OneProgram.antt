-- Lexemes are those of one program at most.
use Rattle.std.proofs.Common.{◌≡◌, ℕ, Bool, true, false, Option, Some, None, is_some, List, [], ◌∷◌, ◌++◌, map, refl, sym, ap, ap₂, subst, ◌∙◌, arith, append_assoc, eq-eqb}
use Rattle.std.specs.Prelude.{All, codes}
use Rattle.std.specs.List.{flat_map}
use Rattle.std.proofs.lemmas.Bool.{false≢true}
use Rattle.std.proofs.lemmas.List.{append-nil}
use Rattle.std.proofs.lemmas.List.Elements.{All-head, All-tail}
use Rattle.geo_lexer.specs.Lexemes.{Lexeme, word_lexeme, close_brace}
use Rattle.geo_lexer.proofs.Meanings.{one_meaning}
use Rattle.geo_program.specs.declared.commands.Command.{Command}
use Rattle.geo_program.specs.declared.names.Name.{Name}
use Rattle.geo_program.specs.declared.names.NameKind.TheVariants.{Line}
use Rattle.geo_program.specs.declared.statements.Statement.{Statement}
use Rattle.geo_program.specs.CanonicalText.{Sketch, argument_lexemes, command_lexemes, commands_lexemes, condition_lexemes, line_lexemes, sketch_lexemes, statement_lexemes}
use Rattle.geo_program.specs.Expressions.{expression_lexemes, point_lexeme}
use Rattle.geo_program.specs.Forms.{Argument, CommandForm, StatementForm, point_argument, line_argument, number_argument, side_argument, command_form, statement_form}
use Rattle.geo_program.specs.Names.{name_text}
use Rattle.geo_program.specs.Spelling.{AreSketches, SameSource, SpellsSource}
use Rattle.geo_program.specs.WellFormed.{AllDiffer, AreCommands, IsArgument, IsCommand, IsWellFormed, Scope, Source, empty_scope, kinds_made, later_names, own_names, scope_of}
use Rattle.geo_program.specs.Words.{IsNameText}
use Rattle.geo_program.proofs.OnceNamed.{AllDiffer-front, All-front, same_number}
use Rattle.geo_program.proofs.Reading.{ReadsAlike, braced_read, expression_read, line_same, point_read}
use Rattle.geo_program.proofs.OwnNames.{own_and_later}
use Rattle.geo_program.proofs.ScopeLemmas.{lines_declared, points_declared, scope_of-append}
use Rattle.geo_program.proofs.Shapes.{argument_kind, command_is_no_prove, same_kind_of_condition, same_shape, same_statement_shape, shape_of}
use Rattle.geo_program.proofs.Staying.{arguments_lexemes-append, over_names}
use Rattle.geo_program.proofs.WordPlaces.{same_text}
use Rattle.geo_terms.specs.Stores.{Store}

-- ARGUMENTS

module _ (names : List Name) (valid : All (λ n. IsNameText n.text) names) (differ : AllDiffer names) where
  argument_read : (x y : Argument) (r s : List Lexeme) → argument_kind x ≡ argument_kind y → IsArgument (scope_of empty_scope names) x → IsArgument (scope_of empty_scope names) y
      → argument_lexemes names x ++ r ≡ argument_lexemes names y ++ s → ReadsAlike x y r s
  argument_read (point_argument a) (point_argument b) r s k hx hy h =
      let first : point_lexeme names a ≡ point_lexeme names b = cc in
      let rest : r ≡ s = cc in
      let is = points_declared names in
      record { same = ap point_argument (point_read names valid differ a b (omega arith) (omega arith) first); rest = rest }
  argument_read (line_argument a) (line_argument b) r s k hx hy h =
      let first : name_text Line names a.0 ≡ name_text Line names b.0 = cc in
      let rest : r ≡ s = cc in
      let is = lines_declared names in
      record { same = ap line_argument (line_same a b (same_number Line names a.0 b.0 differ (omega arith) (omega arith) first)); rest = rest }
  argument_read (number_argument e) (number_argument f) r s k hx hy h =
      let one = expression_read names valid differ false e f r s (over_names names false e hx.0) (over_names names false f hy.0) h in
      record { same = ap number_argument one.same; rest = one.rest }
  argument_read (side_argument e) (side_argument f) r s k hx hy h =
      let one = braced_read (expression_lexemes names) e f r s
      (expression_read names valid differ true e f (close_brace ∷ r) (close_brace ∷ s) (over_names names true e hx.0) (over_names names true f hy.0)) h in
      record { same = ap side_argument one.same; rest = one.rest }
  argument_read x y r s k hx hy h = absurd (false≢true (eq-eqb (argument_kind x) (argument_kind y) k))

  -- arguments of the same kinds are read in one way
  pub arguments_read : (xs ys : List Argument) (r s : List Lexeme) → map argument_kind xs ≡ map argument_kind ys
      → All (IsArgument (scope_of empty_scope names)) xs → All (IsArgument (scope_of empty_scope names)) ys
      → flat_map (argument_lexemes names) xs ++ r ≡ flat_map (argument_lexemes names) ys ++ s → ReadsAlike xs ys r s
  arguments_read [] [] r s k hx hy h = record { same = refl; rest = h }
  arguments_read [] (y ∷ ys) r s k hx hy h = absurd (cc)
  arguments_read (x ∷ xs) [] r s k hx hy h = absurd (cc)
  arguments_read (x ∷ xs) (y ∷ ys) r s k hx hy h =
      let P = IsArgument (scope_of empty_scope names) in
      let spell = argument_lexemes names in
      let kind : argument_kind x ≡ argument_kind y = cc in
      let kinds : map argument_kind xs ≡ map argument_kind ys = cc in
      let regrouped : spell x ++ (flat_map spell xs ++ r) ≡ spell y ++ (flat_map spell ys ++ s) =
      sym (append_assoc (spell x) (flat_map spell xs) r) ∙ h ∙ append_assoc (spell y) (flat_map spell ys) s in
      let one = argument_read x y (flat_map spell xs ++ r) (flat_map spell ys ++ s) kind (All-head P x xs hx) (All-head P y ys hy) regrouped in
      let more = arguments_read xs ys r s kinds (All-tail P x xs hx) (All-tail P y ys hy) one.rest in
      record { same = ap₂ (λ a more. a ∷ more) one.same more.same; rest = more.rest }

-- COMMANDS

form_same : (f g : CommandForm) → shape_of f ≡ shape_of g → f.arguments ≡ g.arguments → f ≡ g
form_same f g shapes arguments =
    ap₂ (λ s a. record { word = s.word; condition = s.condition; made = s.made; points = s.points; arguments = a }) shapes arguments

name_same : (n m : Name) → n.text ≡ m.text → n.kind ≡ m.kind → n ≡ m
name_same n m text kind = ap₂ (λ t k. record { text = t; kind = k }) text kind

statement_form_same : (f g : StatementForm) → f.word ≡ g.word → f.arguments ≡ g.arguments → f ≡ g
statement_form_same f g word arguments = ap₂ (λ w a. record { word = w; arguments = a }) word arguments

-- the first lexeme is a word
begins_with_word : List Lexeme → Bool
begins_with_word (word_lexeme text ∷ lexemes) = true
begins_with_word _ = false

-- the numbers that may follow a point end where a word begins
sketch_read : (k l : Sketch) (r s : List Lexeme) → begins_with_word r ≡ true → begins_with_word s ≡ true → sketch_lexemes k ++ r ≡ sketch_lexemes l ++ s → r ≡ s
unfolding begins_with_word
sketch_read None None r s hr hs h = h
sketch_read (Some k) (Some l) r s hr hs h = cc
sketch_read None (Some l) r s hr hs h = absurd (false≢true (sym (ap begins_with_word h) ∙ hr))
sketch_read (Some k) None r s hr hs h = absurd (false≢true (ap begins_with_word h ∙ hs))

-- the word of the condition that is assumed
condition_read : (a b : Option (List ℕ)) (r s : List Lexeme) → is_some a ≡ is_some b → condition_lexemes a ++ r ≡ condition_lexemes b ++ s → ReadsAlike a b r s
condition_read None None r s some h = record { same = refl; rest = h }
condition_read (Some x) (Some y) r s some h =
    let word : x ≡ y = cc in
    let rest : r ≡ s = cc in
    record { same = ap Some word; rest = rest }
condition_read None (Some y) r s some h = absurd (false≢true some)
condition_read (Some x) None r s some h = absurd (false≢true (sym some))

-- names of the same kinds
names_read : (ns ms : List Name) (r s : List Lexeme) → map (λ n. n.kind) ns ≡ map (λ n. n.kind) ms
    → map (λ name. word_lexeme name.text) ns ++ r ≡ map (λ name. word_lexeme name.text) ms ++ s → ReadsAlike ns ms r s
names_read [] [] r s kinds h = record { same = refl; rest = h }
names_read [] (m ∷ ms) r s kinds h = absurd (cc)
names_read (n ∷ ns) [] r s kinds h = absurd (cc)
names_read (n ∷ ns) (m ∷ ms) r s kinds h =
    let text : n.text ≡ m.text = cc in
    let kind : n.kind ≡ m.kind = cc in
    let others : map (λ (n : Name). n.kind) ns ≡ map (λ (n : Name). n.kind) ms = cc in
    let rest : map (λ (name : Name). word_lexeme name.text) ns ++ r ≡ map (λ (name : Name). word_lexeme name.text) ms ++ s = cc in
    let read = names_read ns ms r s others rest in
    record { same = ap₂ (λ x xs. x ∷ xs) (name_same n m text kind) read.same; rest = read.rest }

-- a command of each program, and what follows them
record SameCommands (np nq : Store) (ns ms : List Name) (c d : Command) (r s : List Lexeme) : Type 0 where
  pub names : ns ≡ ms
  pub form : command_form np c ≡ command_form nq d
  pub rest : r ≡ s

-- the lexemes of a command in groups
pub grouped : (all own : List Name) (nodes : Store) (c : Command) (k : Sketch) (r : List Lexeme) → let f = command_form nodes c in
    (command_lexemes all nodes own c ++ sketch_lexemes k) ++ r
    ≡ word_lexeme f.word ∷ condition_lexemes f.condition ++ (map (λ (name : Name). word_lexeme name.text) own ++ (flat_map (argument_lexemes all) f.arguments ++ (sketch_lexemes k ++ r)))
grouped all own nodes c k r =
    let f = command_form nodes c in
    let condition = condition_lexemes f.condition in
    let texts = map (λ (name : Name). word_lexeme name.text) own in
    let spelling = flat_map (argument_lexemes all) f.arguments in
    append_assoc (word_lexeme f.word ∷ condition ++ (texts ++ spelling)) (sketch_lexemes k) r
    ∙ ap (λ l. word_lexeme f.word ∷ l) (
    append_assoc condition (texts ++ spelling) (sketch_lexemes k ++ r)
    ∙ ap (λ l. condition ++ l) (append_assoc texts spelling (sketch_lexemes k ++ r)))

command_read : (before more others : List Name) (np nq : Store) (ns ms : List Name) (c d : Command) (k l : Sketch) (r s : List Lexeme)
    → All (λ n. IsNameText n.text) before → AllDiffer before
    → IsCommand np (scope_of empty_scope before) ns c → IsCommand nq (scope_of empty_scope before) ms d
    → begins_with_word r ≡ true → begins_with_word s ≡ true
    → (command_lexemes (before ++ more) np ns c ++ sketch_lexemes k) ++ r ≡ (command_lexemes (before ++ others) nq ms d ++ sketch_lexemes l) ++ s
    → SameCommands np nq ns ms c d r s
command_read before more others np nq ns ms c d k l r s valid differ hc hd hr hs h =
    let f = command_form np c in
    let g = command_form nq d in
    let spell = argument_lexemes before in
    let apart = sym (grouped (before ++ more) ns np c k r) ∙ h ∙ grouped (before ++ others) ms nq d l s in
    let words : f.word ≡ g.word = cc in
    let behind : condition_lexemes f.condition ++ (map (λ (name : Name). word_lexeme name.text) ns ++ (flat_map (argument_lexemes (before ++ more)) f.arguments ++ (sketch_lexemes k ++ r)))
    ≡ condition_lexemes g.condition ++ (map (λ (name : Name). word_lexeme name.text) ms ++ (flat_map (argument_lexemes (before ++ others)) g.arguments ++ (sketch_lexemes l ++ s))) = cc in
    let conditions = condition_read f.condition g.condition _ _ (same_kind_of_condition np nq c d words) behind in
    let shapes : shape_of f ≡ shape_of g = same_shape np nq c d words conditions.same in
    let kinds : kinds_made f ≡ kinds_made g = ap (λ s. elim s.made [ None ↦ [] | Some kind ↦ kind ∷ [] ]) shapes in
    let names = names_read ns ms _ _ (hc.named ∙ kinds ∙ sym hd.named) conditions.rest in
    let spelt : flat_map spell f.arguments ++ (sketch_lexemes k ++ r) ≡ flat_map spell g.arguments ++ (sketch_lexemes l ++ s) =
    ap (λ a. a ++ (sketch_lexemes k ++ r)) (sym (arguments_lexemes-append before more f.arguments hc.arguments))
    ∙ names.rest
    ∙ ap (λ a. a ++ (sketch_lexemes l ++ s)) (arguments_lexemes-append before others g.arguments hd.arguments) in
    let read = arguments_read before valid differ f.arguments g.arguments (sketch_lexemes k ++ r) (sketch_lexemes l ++ s) (ap (λ s. s.arguments) shapes) hc.arguments hd.arguments spelt in
    record { names = names.same; form = form_same f g shapes read.same; rest = sketch_read k l r s hr hs read.rest }

-- the statement of each program
statement_read : (before : List Name) (np nq : Store) (s t : Statement) → All (λ n. IsNameText n.text) before → AllDiffer before
    → All (IsArgument (scope_of empty_scope before)) (statement_form np s).arguments → All (IsArgument (scope_of empty_scope before)) (statement_form nq t).arguments
    → statement_lexemes before np s ≡ statement_lexemes before nq t → statement_form np s ≡ statement_form nq t
statement_read before np nq s t valid differ hs ht h =
    let f = statement_form np s in
    let g = statement_form nq t in
    let spell = argument_lexemes before in
    let words : f.word ≡ g.word = cc in
    let tails : flat_map spell f.arguments ++ close_brace ∷ [] ≡ flat_map spell g.arguments ++ close_brace ∷ [] = cc in
    let read = arguments_read before valid differ f.arguments g.arguments (close_brace ∷ []) (close_brace ∷ []) (same_statement_shape np nq s t words) hs ht tails in
    statement_form_same f g words read.same

-- PROGRAMS

-- commands with their places for numbers, as many of each
data AreTogether : List Command → List Sketch → Type 0 where
  none : AreTogether [] []
  more : {c : Command} {cs : List Command} {k : Sketch} {ks : List Sketch} → AreTogether cs ks → AreTogether (c ∷ cs) (k ∷ ks)

together : (cs : List Command) (ks : List Sketch) → AreSketches cs ks → AreTogether cs ks
together [] [] g = none
together [] (k ∷ ks) g = absurd g
together (c ∷ cs) [] g = absurd g
together (c ∷ cs) (k ∷ ks) g = more (together cs ks g.1)

-- the lexemes of commands and of a statement
abbrev lines : List Name → Store → List Name → List Command → List Sketch → Statement → List Lexeme
lines all nodes names commands sketches s =
    flat_map (λ line. line) (commands_lexemes all nodes names commands sketches ++ statement_lexemes all nodes s ∷ [])

lines_begin : (all : List Name) (nodes : Store) (names : List Name) (commands : List Command) (sketches : List Sketch) (s : Statement)
    → begins_with_word (lines all nodes names commands sketches s) ≡ true
unfolding begins_with_word
lines_begin all nodes names (c ∷ commands) (k ∷ sketches) s = refl
lines_begin all nodes names [] sketches s = refl
lines_begin all nodes names (c ∷ commands) [] s = refl

-- a command's first word is no `prove`
not_prove : (nodes : Store) (c : Command) → (command_form nodes c).word ≡ codes "prove" → ⊥
not_prove nodes c h =
    false≢true (sym (command_is_no_prove nodes c) ∙ ap (λ w. same_text w (codes "prove")) h)

-- what is left of two programs is the same
record SameLeft (np nq : Store) (sp sq : Statement) (ns ms : List Name) (cs ds : List Command) : Type 0 where
  pub names : ns ≡ ms
  pub commands : map (command_form np) cs ≡ map (command_form nq) ds
  pub statement : statement_form np sp ≡ statement_form nq sq

module _ (P Q : List Name) (np nq : Store) (sp sq : Statement)
    (valid_p : All (λ n. IsNameText n.text) P) (differ_p : AllDiffer P)
    (statement_p : All (IsArgument (scope_of empty_scope P)) (statement_form np sp).arguments)
    (statement_q : All (IsArgument (scope_of empty_scope Q)) (statement_form nq sq).arguments) where
  -- equal lexemes are those of the same commands and statement
  lines_read : {cs ds : List Command} {ks ls : List Sketch} (before ns ms : List Name)
      → AreTogether cs ks → AreTogether ds ls → P ≡ before ++ ns → Q ≡ before ++ ms
      → AreCommands np (scope_of empty_scope before) ns cs → AreCommands nq (scope_of empty_scope before) ms ds
      → lines P np ns cs ks sp ≡ lines Q nq ms ds ls sq → SameLeft np nq sp sq ns ms cs ds
  lines_read before ns ms none none isp isq hp hq h =
      let one : statement_lexemes P np sp ++ [] ≡ statement_lexemes Q nq sq ++ [] = h in
      let left : ns ≡ ms = hp ∙ sym hq in
      let all : P ≡ Q = isp ∙ ap (λ names. before ++ names) left ∙ sym isq in
      let statements : statement_lexemes P np sp ≡ statement_lexemes P nq sq =
      sym (append-nil (statement_lexemes P np sp)) ∙ one ∙ append-nil (statement_lexemes Q nq sq) ∙ ap (λ names. statement_lexemes names nq sq) (sym all) in
      let over_p = subst (λ (names : List Name). All (IsArgument (scope_of empty_scope names)) (statement_form nq sq).arguments) (sym all) statement_q in
      record { names = left; commands = refl; statement = statement_read P np nq sp sq valid_p differ_p statement_p over_p statements }
  lines_read before ns ms (more {c = c} tp) none isp isq hp hq h =
      let word : (command_form np c).word ≡ codes "prove" = cc in absurd (not_prove np c word)
  lines_read before ns ms none (more {c = d} tq) isp isq hp hq h =
      let word : codes "prove" ≡ (command_form nq d).word = cc in absurd (not_prove nq d (sym word))
  lines_read before ns ms (more {c = c} {cs = cs} {k = k} {ks = ks} tp) (more {c = d} {cs = ds} {k = l} {ks = ls} tq) isp isq hp hq h =
      let f = command_form np c in
      let g = command_form nq d in
      let own = own_names f ns in
      let own' = own_names g ms in
      let later = later_names f ns in
      let later' = later_names g ms in
      let r = lines P np later cs ks sp in
      let s = lines Q nq later' ds ls sq in
      let valid = subst (λ (names : List Name). All (λ x. IsNameText x.text) names) isp valid_p in
      let differ = subst AllDiffer isp differ_p in
      let apart : (command_lexemes (before ++ ns) np own c ++ sketch_lexemes k) ++ r ≡ (command_lexemes (before ++ ms) nq own' d ++ sketch_lexemes l) ++ s =
      ap (λ all. (command_lexemes all np own c ++ sketch_lexemes k) ++ r) (sym isp) ∙ h ∙ ap (λ all. (command_lexemes all nq own' d ++ sketch_lexemes l) ++ s) isq in
      let one = command_read before ns ms np nq own own' c d k l r s
      (All-front (λ x. IsNameText x.text) before ns valid) (AllDiffer-front before ns differ)
      hp.0 hq.0 (lines_begin P np later cs ks sp) (lines_begin Q nq later' ds ls sq) apart in
      let next = before ++ own in
      let joined = λ (names : List Name). sym (append_assoc before own names) in
      let rest = lines_read next later later' tp tq
      (isp ∙ ap (λ names. before ++ names) (sym (own_and_later f ns)) ∙ joined later)
      (isq ∙ ap (λ names. before ++ names) (sym (own_and_later g ms) ∙ ap (λ x. x ++ later') (sym one.names)) ∙ joined later')
      (subst (λ (s : Scope). AreCommands np s later cs) (sym (scope_of-append empty_scope before own)) hp.1)
      (subst (λ (s : Scope). AreCommands nq s later' ds) (ap (scope_of (scope_of empty_scope before)) (sym one.names) ∙ sym (scope_of-append empty_scope before own)) hq.1)
      one.rest in
      record {
        names = sym (own_and_later f ns) ∙ ap₂ (λ x y. x ++ y) one.names rest.names ∙ own_and_later g ms;
        commands = ap₂ (λ x xs. x ∷ xs) one.form rest.commands;
        statement = rest.statement;
      }

-- programs of the same lexemes are the same
pub same_lexemes : (p q : Source) (ks ls : List Sketch) → IsWellFormed p → IsWellFormed q → AreSketches p.commands ks → AreSketches q.commands ls
    → flat_map (λ line. line) (line_lexemes ks p) ≡ flat_map (λ line. line) (line_lexemes ls q) → SameSource p q
same_lexemes p q ks ls hp hq kp kq h =
    let left = lines_read p.names q.names p.nodes q.nodes p.statement q.statement hp.names hp.differ hp.statement hq.statement [] p.names q.names
    (together p.commands ks kp) (together q.commands ls kq)
    refl refl hp.commands hq.commands h in
    record { names = left.names; commands = left.commands; statement = left.statement }

-- a text spells one program at most
pub spells_one : (bytes : List ℕ) (p q : Source) → SpellsSource bytes p → SpellsSource bytes q → SameSource p q
spells_one bytes p q hp hq =
    same_lexemes p q hp.sketches hq.sketches hp.well_formed hq.well_formed hp.sketched hq.sketched
    (one_meaning bytes _ _ hp.lexemes hq.lexemes)
