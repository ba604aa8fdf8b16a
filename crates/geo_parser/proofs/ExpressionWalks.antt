-- Going through the lexemes of an expression and of arguments.
use Rattle.std.proofs.Common.{◌≡◌, ℕ, ◌+◌, ◌<◌, ◌≤◌, Bool, true, false, IsTrue, List, [], ◌∷◌, ◌++◌, length, map, Some, refl, ap, ◌∙◌, subst, arith}
use Rattle.std.specs.Prelude.{All, if◌then◌else◌, nat_le}
use Rattle.std.specs.List.{flat_map}
use Rattle.std.proofs.lemmas.Bool.Decides.{nat_tests}
use Rattle.std.proofs.lemmas.List.Elements.{All-head, All-tail}
use Rattle.geo_points.specs.declared.ids.PointId.{PointId}
use Rattle.geo_lexer.specs.Lexemes.{Lexeme, word_lexeme, number_lexeme, open_brace, close_brace}
use Rattle.geo_program.specs.CanonicalText.{argument_lexemes}
use Rattle.geo_program.specs.Expressions.{IsExpression, braced, expression_lexemes, nesting, point_lexeme}
use Rattle.geo_program.specs.Forms.{Argument, line_argument, number_argument, point_argument, side_argument}
use Rattle.geo_program.specs.WellFormed.{AllDiffer, IsArgument, empty_scope, scope_of}
use Rattle.geo_program.specs.Words.{IsNameText}
use Rattle.geo_program.specs.declared.names.Name.{Name}
use Rattle.geo_program.specs.declared.names.NameKind.{NameKind}
use Rattle.geo_program.specs.declared.names.NameKind.TheVariants.{Line, Param, Point}
use Rattle.geo_program.specs.Names.{name_text, names_of}
use Rattle.geo_program.proofs.ScopeLemmas.{lines_declared, params_declared, points_declared}
use Rattle.geo_terms.specs.Trees.{Tree, integer_leaf, parameter_leaf, area_leaf, pythagoras_leaf, ratio_leaf, negation, addition, subtraction, multiplication, division}
use Rattle.geo_parser.specs.declared.expression_words.ExpressionWord.{ExpressionWord}
use Rattle.geo_parser.specs.declared.expression_words.ExpressionWord.TheVariants.{SignedArea, PythagorasDifference, Ratio, Neg, Sum, Sub, Mult, Div}
use Rattle.geo_parser.specs.Forms.{a_point, close_slot, due_behind, expression_slot, expressions, name_slot, open_slot}
use Rattle.geo_parser.specs.Inner.Reads.{argument_slots}
use Rattle.geo_parser.specs.Slots.{Reading, refused, taken}
use Rattle.geo_parser.specs.Inner.StatementWords.{expression_due, expression_text}
use Rattle.geo_parser.proofs.ExpressionReading.{begin_expression-form, begin_expression-name}
use Rattle.geo_parser.proofs.Known.{known}
use Rattle.geo_parser.proofs.NameUses.{use_name-known}
use Rattle.geo_parser.proofs.Reserved.{free_of_expressions}
use Rattle.geo_parser.proofs.Walks.{Goes, Goes-behind, Goes-none, Goes-then, Goes-token}

module _ (names : List Name) (texts : All (λ n. IsNameText n.text) names) (differ : AllDiffer names) (r : Reading) (declared : r.declared ≡ names) where
  -- a declared name
  pub Goes-name : (kind : NameKind) (k : ℕ) → k < length (names_of kind names) → Goes r (name_slot kind ∷ []) (word_lexeme (name_text kind names k) ∷ []) r
  Goes-name kind k within =
      let here = known kind names k texts differ within in
      Goes-token r r (name_slot kind ∷ []) (word_lexeme (name_text kind names k))
      (λ rest. use_name-known r names declared kind (name_text kind names k) rest here.name true here.free here.named here.kind_is)

  Goes-point : (a : PointId) → a.0 < length (names_of Point names) → Goes r (a_point ∷ []) (point_lexeme names a ∷ []) r
  Goes-point a within = Goes-name Point a.0 within

  -- points one after another
  Goes-three : (a b c : PointId) → a.0 < length (names_of Point names) → b.0 < length (names_of Point names) → c.0 < length (names_of Point names)
      → Goes r (a_point ∷ a_point ∷ a_point ∷ []) (map (point_lexeme names) (a ∷ b ∷ c ∷ [])) r
  Goes-three a b c x y z =
      Goes-then r r r (a_point ∷ []) (a_point ∷ a_point ∷ []) _ _ (Goes-point a x) (Goes-then r r r (a_point ∷ []) (a_point ∷ []) _ _ (Goes-point b y) (Goes-point c z))

  -- a word and the rest of an expression
  Goes-form : (level : ℕ) (ratios : Bool) (form : ExpressionWord) (ls : List Lexeme) → (form ≡ Ratio → IsTrue ratios)
      → Some (expression_due level ratios form) ≡ due_behind (expression_text form) (expressions level ratios)
      → Goes r (expression_due level ratios form) ls r
      → Goes r (expression_slot level ratios ∷ []) (word_lexeme (expression_text form) ∷ ls) r
  Goes-form level ratios form ls allowed due h =
      Goes-behind r r r (expression_slot level ratios ∷ []) (expression_due level ratios form) (word_lexeme (expression_text form)) ls
      (λ rest. begin_expression-form r level ratios form (expression_text form) rest allowed refl due) h

  -- an expression between braces of this level
  Goes-braced : (level : ℕ) (ratios : Bool) (ls : List Lexeme) → level ≤ 128 → Goes r (expression_slot level ratios ∷ []) ls r
      → Goes r (open_slot level ∷ expression_slot level ratios ∷ close_slot ∷ []) (braced ls) r
  Goes-braced level ratios ls shallow h =
      let deep : nat_le level 128 ≡ true = grind (arith, nat_tests) in
      let opened = Goes-token r r (open_slot level ∷ []) open_brace (λ rest. ap (λ b. if b then taken r rest else refused 9) deep) in
      let closed = Goes-token r r (close_slot ∷ []) close_brace (λ rest. refl) in
      Goes-then r r r (open_slot level ∷ []) (expression_slot level ratios ∷ close_slot ∷ []) _ _ opened (Goes-then r r r (expression_slot level ratios ∷ []) (close_slot ∷ []) ls _ h closed)

  -- two of them
  Goes-both : (level : ℕ) (ratios ratios' : Bool) (xs ys : List Lexeme) → level ≤ 128 → Goes r (expression_slot level ratios ∷ []) xs r → Goes r (expression_slot level ratios' ∷ []) ys r
      → Goes r ((open_slot level ∷ expression_slot level ratios ∷ close_slot ∷ []) ++ (open_slot level ∷ expression_slot level ratios' ∷ close_slot ∷ [])) (braced xs ++ braced ys) r
  Goes-both level ratios ratios' xs ys shallow h k = Goes-then r r r _ _ _ _ (Goes-braced level ratios xs shallow h) (Goes-braced level ratios' ys shallow k)

  -- an expression
  pub Goes-expression : (level : ℕ) (ratios : Bool) (e : Tree)
      → IsExpression (length (names_of Point names)) (length (names_of Param names)) ratios e → level + nesting e ≤ 128
      → Goes r (expression_slot level ratios ∷ []) (expression_lexemes names e) r
  Goes-expression level ratios (integer_leaf n) h deep = Goes-token r r (expression_slot level ratios ∷ []) (number_lexeme n) (λ rest. refl)
  Goes-expression level ratios (parameter_leaf t) h deep =
      let here = known Param names t.0 texts differ h in
      Goes-token r r (expression_slot level ratios ∷ []) (word_lexeme (name_text Param names t.0))
      (λ rest. begin_expression-name r level ratios (name_text Param names t.0) rest (free_of_expressions level ratios (name_text Param names t.0) here.free)
      ∙ use_name-known r names declared Param (name_text Param names t.0) rest here.name true here.free here.named here.kind_is)
  Goes-expression level ratios (area_leaf a b c) h deep = Goes-form level ratios SignedArea _ (λ e. cc) refl (Goes-three a b c h.0 h.1 h.2)
  Goes-expression level ratios (pythagoras_leaf a b c) h deep = Goes-form level ratios PythagorasDifference _ (λ e. cc) refl (Goes-three a b c h.0 h.1 h.2)
  Goes-expression level ratios (ratio_leaf a b c d) h deep =
      Goes-form level ratios Ratio _ (λ e. h.0) refl (Goes-then r r r (a_point ∷ []) (a_point ∷ a_point ∷ a_point ∷ []) _ _ (Goes-point a h.1) (Goes-three b c d h.2 h.3 h.4))
  Goes-expression level ratios (negation e) h deep =
      Goes-form level ratios Neg _ (λ e. cc) refl (Goes-braced (level + 1) ratios _ (omega arith) (Goes-expression (level + 1) ratios e h (omega arith)))
  Goes-expression level ratios (addition e f) h deep =
      Goes-form level ratios Sum _ (λ e. cc) refl
      (Goes-both (level + 1) ratios ratios _ _ (omega arith) (Goes-expression (level + 1) ratios e h.0 (omega arith)) (Goes-expression (level + 1) ratios f h.1 (omega arith)))
  Goes-expression level ratios (subtraction e f) h deep =
      Goes-form level ratios Sub _ (λ e. cc) refl
      (Goes-both (level + 1) ratios ratios _ _ (omega arith) (Goes-expression (level + 1) ratios e h.0 (omega arith)) (Goes-expression (level + 1) ratios f h.1 (omega arith)))
  Goes-expression level ratios (multiplication e f) h deep =
      Goes-form level ratios Mult _ (λ e. cc) refl
      (Goes-both (level + 1) ratios ratios _ _ (omega arith) (Goes-expression (level + 1) ratios e h.0 (omega arith)) (Goes-expression (level + 1) ratios f h.1 (omega arith)))
  Goes-expression level ratios (division e f) h deep =
      Goes-form level ratios Div _ (λ e. cc) refl
      (Goes-both (level + 1) ratios false _ _ (omega arith) (Goes-expression (level + 1) ratios e h.0 (omega arith)) (Goes-expression (level + 1) false f h.1 (omega arith)))

  -- an expression over the names
  Goes-over : (ratios : Bool) (e : Tree) → IsExpression (scope_of empty_scope names).points (scope_of empty_scope names).params ratios e
      → nesting e ≤ 128 → Goes r (expression_slot 0 ratios ∷ []) (expression_lexemes names e) r
  Goes-over ratios e h deep =
      let P : ℕ → ℕ → Type 0 = λ points params. IsExpression points params ratios e in
      Goes-expression 0 ratios e (subst (P (length (names_of Point names))) (params_declared names) (subst (λ n. P n (scope_of empty_scope names).params) (points_declared names) h)) (omega arith)

  Goes-argument : (x : Argument) → IsArgument (scope_of empty_scope names) x → Goes r (argument_slots x) (argument_lexemes names x) r
  Goes-argument (point_argument a) h = Goes-point a (omega (arith, points_declared names))
  Goes-argument (line_argument a) h = Goes-name Line a.0 (omega (arith, lines_declared names))
  Goes-argument (number_argument e) h = Goes-over false e h.0 h.1
  Goes-argument (side_argument e) h = Goes-braced 0 true _ (omega arith) (Goes-over true e h.0 h.1)

  -- the arguments of a command or a statement
  pub Goes-arguments : (xs : List Argument) → All (IsArgument (scope_of empty_scope names)) xs → Goes r (flat_map argument_slots xs) (flat_map (argument_lexemes names) xs) r
  Goes-arguments [] h = Goes-none r
  Goes-arguments (x ∷ xs) h =
      Goes-then r r r (argument_slots x) (flat_map argument_slots xs) (argument_lexemes names x) (flat_map (argument_lexemes names) xs)
      (Goes-argument x (All-head (IsArgument (scope_of empty_scope names)) x xs h)) (Goes-arguments xs (All-tail (IsArgument (scope_of empty_scope names)) x xs h))
