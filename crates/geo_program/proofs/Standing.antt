-- The lexemes of a well-formed program may stand in a text.
use Rattle.std.proofs.Common.{◌≡◌, ℕ, ◌<◌, Bool, true, false, ◌&&◌, Option, Some, None, List, [], ◌∷◌, ◌++◌, length, map, get_or, leb, refl, arith}
use Rattle.std.specs.Prelude.{All, codes}
use Rattle.std.specs.List.{AllByRecursion, flat_map, list_all}
use Rattle.std.proofs.lemmas.Bool.{leb-true}
use Rattle.std.proofs.lemmas.List.Elements.{All-get_or, All-head, All-tail, All-nil, All-cons}
use Rattle.std.proofs.lemmas.List.Sums.{AllPass-from_list_all}
use Rattle.geo_lexer.specs.Bytes.{is_letter, is_word_byte}
use Rattle.geo_lexer.specs.Lexemes.{IsWord, Lexeme, MayStand, word_lexeme, close_brace}
use Rattle.geo_points.specs.declared.ids.PointId.{PointId}
use Rattle.geo_program.specs.declared.commands.Command.{Command}
use Rattle.geo_program.specs.declared.names.Name.{Name}
use Rattle.geo_program.specs.declared.names.NameKind.{NameKind}
use Rattle.geo_program.specs.declared.names.NameKind.TheVariants.{Point, Param, Line}
use Rattle.geo_program.specs.declared.statements.Statement.{Statement}
use Rattle.geo_program.specs.declared.statements.Statement.TheVariants as statement
use Rattle.geo_program.specs.CanonicalText.{argument_lexemes, command_lexemes, condition_lexemes, statement_lexemes}
use Rattle.geo_program.specs.Expressions.{IsExpression, braced, expression_lexemes, point_lexeme}
use Rattle.geo_program.specs.Forms.{Argument, point_argument, line_argument, number_argument, side_argument, command_form, statement_form}
use Rattle.geo_program.specs.Names.{is_kind, name_text, names_of}
use Rattle.geo_program.specs.Inner.Printing.{whole_scope}
use Rattle.geo_program.specs.WellFormed.{IsArgument}
use Rattle.geo_program.specs.Words.{IsNameText}
use Rattle.geo_program.proofs.ScopeLemmas.{declared_of}
use Rattle.geo_program.proofs.Shapes.{shapes_pass}
use Rattle.geo_program.proofs.TableLemmas.{length-names_of}
use Rattle.geo_program.proofs.WordPlaces.{both}
use Rattle.geo_terms.specs.Stores.{Store}
use Rattle.geo_terms.specs.Trees.{Tree, integer_leaf, parameter_leaf, area_leaf, pythagoras_leaf, ratio_leaf, negation, addition, subtraction, multiplication, division}

-- all of them may stand in a text
abbrev pub MayAllStand : List Lexeme → Type 0
MayAllStand lexemes = AllByRecursion MayStand lexemes

pub MayAllStand-append : (xs ys : List Lexeme) → MayAllStand xs → MayAllStand ys → MayAllStand (xs ++ ys)
MayAllStand-append [] ys h k = k
MayAllStand-append (x ∷ xs) ys h k = (h.0, MayAllStand-append xs ys h.1 k)

-- WORDS

-- a test for words
abbrev pub is_word : List ℕ → Bool
is_word text = is_letter (get_or text 0 0) && list_all is_word_byte text && leb (length text) 64

-- the same of the word of a condition
abbrev is_word_or_none : Option (List ℕ) → Bool
is_word_or_none None = true
is_word_or_none (Some word) = is_word word

pub IsWord-tested : (text : List ℕ) → is_word text ≡ true → IsWord text
IsWord-tested text h =
    let all = both (is_letter (get_or text 0 0) && list_all is_word_byte text) (leb (length text) 64) h in
    let first = both (is_letter (get_or text 0 0)) (list_all is_word_byte text) all.0 in
    record { first = first.0; all = AllPass-from_list_all is_word_byte text first.1; short = leb-true (length text) 64 all.1 }

-- a name's text is a word
pub IsWord-name : (text : List ℕ) → IsNameText text → IsWord text
IsWord-name text h = record { first = h.first; all = h.rest; short = h.short }

-- the words of commands and statements
command_word : (nodes : Store) (c : Command) → is_word (command_form nodes c).word ≡ true
command_word nodes c = shapes_pass (λ s. is_word s.word) refl refl nodes c

condition_word : (nodes : Store) (c : Command) → is_word_or_none (command_form nodes c).condition ≡ true
condition_word nodes c = shapes_pass (λ s. is_word_or_none s.condition) refl refl nodes c

pub statement_word : (nodes : Store) (s : Statement) → is_word (statement_form nodes s).word ≡ true
statement_word nodes (statement.Equal a b) = refl
statement_word nodes (statement.Collinear a b c) = refl
statement_word nodes (statement.Parallel a b c d) = refl
statement_word nodes (statement.Perpendicular a b c d) = refl
statement_word nodes (statement.Identical a b) = refl
statement_word nodes (statement.Midpoint a b c) = refl
statement_word nodes (statement.SameLength a b c d) = refl
statement_word nodes (statement.Harmonic a b c d) = refl
statement_word nodes (statement.Concyclic a b c d) = refl

-- what holds of the texts of all names holds of those of a kind
pub All-names_of : (P : List ℕ → Type 0) (kind : NameKind) (names : List Name) → All (λ n. P n.text) names → All P (names_of kind names)
All-names_of P kind [] h = All-nil P
All-names_of P kind (name ∷ names) h =
    by_test (is_kind name.kind kind) refl (All-names_of P kind names (All-tail (λ n. P n.text) name names h))
  where
    by_test : (b : Bool) → is_kind name.kind kind ≡ b → All P (names_of kind names) → All P (names_of kind (name ∷ names))
    by_test true e rest = rw e (All-cons P name.text (names_of kind names) (All-head (λ n. P n.text) name names h) rest)
    by_test false e rest = rw e rest

-- OVER NAMES THAT ARE WORDS

module _ (names : List Name) (valid : All (λ n. IsNameText n.text) names) where
  -- a declared name is a word
  pub IsWord-name_text : (kind : NameKind) (k : ℕ) → k < declared_of kind (whole_scope names) → IsWord (name_text kind names k)
  IsWord-name_text kind k within =
      IsWord-name (name_text kind names k)
      (All-get_or IsNameText (names_of kind names) k [] (omega (arith, length-names_of kind names)) (All-names_of IsNameText kind names valid))

  point_stands : (a : PointId) → a.0 < (whole_scope names).points → MayStand (point_lexeme names a)
  point_stands a h = IsWord-name_text Point a.0 h

  braced_stands : (xs : List Lexeme) → MayAllStand xs → MayAllStand (braced xs)
  braced_stands xs h = (tt, MayAllStand-append xs (close_brace ∷ []) h (tt, tt))

  parts_stand : (word : List ℕ) (xs ys : List Lexeme) → is_word word ≡ true → MayAllStand xs → MayAllStand ys → MayAllStand (word_lexeme word ∷ braced xs ++ braced ys)
  parts_stand word xs ys w h k = (IsWord-tested word w, MayAllStand-append (braced xs) (braced ys) (braced_stands xs h) (braced_stands ys k))

  pub expression_stands : (ratios : Bool) (e : Tree) → IsExpression (whole_scope names).points (whole_scope names).params ratios e → MayAllStand (expression_lexemes names e)
  expression_stands ratios (integer_leaf n) h = (h, tt)
  expression_stands ratios (parameter_leaf t) h = (IsWord-name_text Param t.0 h, tt)
  expression_stands ratios (area_leaf a b c) h =
      (IsWord-tested (codes "signed_area3") refl, (point_stands a h.0, (point_stands b h.1, (point_stands c h.2, tt))))
  expression_stands ratios (pythagoras_leaf a b c) h =
      (IsWord-tested (codes "pythagoras_difference3") refl, (point_stands a h.0, (point_stands b h.1, (point_stands c h.2, tt))))
  expression_stands ratios (ratio_leaf a b c d) h =
      (IsWord-tested (codes "sratio") refl, (point_stands a h.1, (point_stands b h.2, (point_stands c h.3, (point_stands d h.4, tt)))))
  expression_stands ratios (negation e) h =
      (IsWord-tested (codes "neg") refl, braced_stands (expression_lexemes names e) (expression_stands ratios e h))
  expression_stands ratios (addition e f) h = parts_stand (codes "sum") _ _ refl (expression_stands ratios e h.0) (expression_stands ratios f h.1)
  expression_stands ratios (subtraction e f) h = parts_stand (codes "sub") _ _ refl (expression_stands ratios e h.0) (expression_stands ratios f h.1)
  expression_stands ratios (multiplication e f) h = parts_stand (codes "mult") _ _ refl (expression_stands ratios e h.0) (expression_stands ratios f h.1)
  expression_stands ratios (division e f) h = parts_stand (codes "div") _ _ refl (expression_stands ratios e h.0) (expression_stands false f h.1)

  pub argument_stands : (x : Argument) → IsArgument (whole_scope names) x → MayAllStand (argument_lexemes names x)
  argument_stands (point_argument a) h = (point_stands a h, tt)
  argument_stands (line_argument a) h = (IsWord-name_text Line a.0 h, tt)
  argument_stands (number_argument e) h = expression_stands false e h.0
  argument_stands (side_argument e) h = braced_stands (expression_lexemes names e) (expression_stands true e h.0)

  pub arguments_stand : (arguments : List Argument) → AllByRecursion (IsArgument (whole_scope names)) arguments → MayAllStand (flat_map (argument_lexemes names) arguments)
  arguments_stand [] h = tt
  arguments_stand (x ∷ arguments) h =
      MayAllStand-append (argument_lexemes names x) (flat_map (argument_lexemes names) arguments) (argument_stands x h.0) (arguments_stand arguments h.1)

  condition_stands : (condition : Option (List ℕ)) → is_word_or_none condition ≡ true → MayAllStand (condition_lexemes condition)
  condition_stands None h = tt
  condition_stands (Some word) h = (IsWord-tested word h, tt)

  names_stand : (own : List Name) → All (λ n. IsNameText n.text) own → MayAllStand (map (λ name. word_lexeme name.text) own)
  names_stand [] h = tt
  names_stand (n ∷ own) h = (IsWord-name n.text (All-head (λ n. IsNameText n.text) n own h), names_stand own (All-tail (λ n. IsNameText n.text) n own h))

  pub command_stands : (nodes : Store) (own : List Name) (c : Command) → All (λ n. IsNameText n.text) own
      → AllByRecursion (IsArgument (whole_scope names)) (command_form nodes c).arguments → MayAllStand (command_lexemes names nodes own c)
  command_stands nodes own c named h =
      let f = command_form nodes c in
      let texts = map (λ (name : Name). word_lexeme name.text) own in
      let behind = MayAllStand-append texts (flat_map (argument_lexemes names) f.arguments) (names_stand own named) (arguments_stand f.arguments h) in (
        IsWord-tested f.word (command_word nodes c),
        MayAllStand-append (condition_lexemes f.condition) (texts ++ flat_map (argument_lexemes names) f.arguments) (condition_stands f.condition (condition_word nodes c)) behind,
      )

  pub statement_stands : (nodes : Store) (s : Statement) → AllByRecursion (IsArgument (whole_scope names)) (statement_form nodes s).arguments → MayAllStand (statement_lexemes names nodes s)
  statement_stands nodes s h =
      let inner = flat_map (argument_lexemes names) (statement_form nodes s).arguments in (
        IsWord-tested (codes "prove") refl,
        braced_stands (word_lexeme (statement_form nodes s).word ∷ inner)
            (IsWord-tested (statement_form nodes s).word (statement_word nodes s), arguments_stand (statement_form nodes s).arguments h),
      )
