-- Conditions over a program's names have one text only where they are the same.
use Rattle.std.proofs.Common.{◌≡◌, ℕ, false, Contains, All, List, [], ◌∷◌, ◌++◌, length, refl, sym, ap, subst, arith}
use Rattle.std.specs.Prelude.{codes}
use Rattle.std.specs.List.{AllByRecursion, flat_map}
use Rattle.std.proofs.lemmas.List.Elements.{All-from_recursion}
use Rattle.geo_lexer.specs.Lexemes.{Lexeme, HasLexemes, word_lexeme, close_brace}
use Rattle.geo_lexer.proofs.Meanings.{one_meaning}
use Rattle.geo_program.specs.CanonicalText.{argument_lexemes, line_text}
use Rattle.geo_program.specs.Expressions.{IsExpression, braced, expression_lexemes}
use Rattle.geo_program.specs.Forms.{Argument, point_argument, line_argument}
use Rattle.geo_program.specs.declared.names.NameKind.TheVariants as kind
use Rattle.geo_program.specs.Names.{names_of}
use Rattle.geo_program.specs.WellFormed.{Source, IsWellFormed, IsArgument, Scope, scope_of, empty_scope}
use Rattle.geo_program.proofs.LinesSpelt.{line_spelt}
use Rattle.geo_program.proofs.OneProgram.{arguments_read}
use Rattle.geo_program.proofs.Reading.{braced_read, expression_read}
use Rattle.geo_program.proofs.ScopeLemmas.{points_declared, params_declared}
use Rattle.geo_program.proofs.Standing.{MayAllStand, MayAllStand-append, IsWord-tested, arguments_stand, expression_stands}
use Rattle.geo_terms.specs.Trees.{Tree}
use Rattle.geo_lowering.specs.Conditions.{Condition, different, not_collinear, not_parallel, crossing, nonzero}
use Rattle.geo_lowering.specs.Counting.{points_from}
use Rattle.geo_lowering.proofs.Exists.{params_past, lines_past}
use Rattle.geo_lowering.proofs.Laying.{named_program}
use Rattle.geo_conditions.specs.Laws.{TextsTellConditions}
use Rattle.geo_program.specs.FormTexts.{form_text}
use Rattle.geo_conditions.specs.Lists.{Found, all_found, condition_form}
use Rattle.geo_conditions.proofs.Agreement.{IsConditionOver}
use Rattle.geo_conditions.proofs.ConditionScopes.{FoundOver, program_over, scope_past}

module _ (p : Source) (w : IsWellFormed p) where
  abbrev S : Scope
  S = scope_of empty_scope p.names

  -- the condition is over what the names declare
  abbrev pub IsOverNames : Condition → Type 0
  IsOverNames c = IsConditionOver S.points S.params S.lines c

  abbrev spelling : List Argument → List Lexeme
  spelling arguments = flat_map (argument_lexemes p.names) arguments

  abbrev lexemes : Condition → List Lexeme
  lexemes c = word_lexeme (condition_form c).word ∷ spelling (condition_form c).arguments

  stands : (c : Condition) → IsOverNames c → MayAllStand (lexemes c)
  stands (different a b) o = (IsWord-tested (codes "different") refl, arguments_stand p.names w.names (point_argument a ∷ point_argument b ∷ []) (o.0, (o.1, tt)))
  stands (not_collinear a b c) o = (IsWord-tested (codes "not_collinear") refl, arguments_stand p.names w.names (point_argument a ∷ point_argument b ∷ point_argument c ∷ []) (o.0, (o.1, (o.2, tt))))
  stands (not_parallel a b c d) o = (
    IsWord-tested (codes "not_parallel") refl,
    arguments_stand p.names w.names (point_argument a ∷ point_argument b ∷ point_argument c ∷ point_argument d ∷ [])
        (o.0, (o.1, (o.2, (o.3, tt)))),
  )
  stands (crossing a b) o = (IsWord-tested (codes "crossing") refl, arguments_stand p.names w.names (line_argument a ∷ line_argument b ∷ []) (o.0, (o.1, tt)))
  stands (nonzero e) o =
      let inner = expression_lexemes p.names e in
      let braces : MayAllStand (braced inner) = (tt, MayAllStand-append inner (close_brace ∷ []) (expression_stands p.names w.names false e o) (tt, tt)) in
      (IsWord-tested (codes "nonzero") refl, MayAllStand-append (braced inner) [] braces tt)

  -- one text has one list of lexemes
  pub same_lexemes : (c d : Condition) → IsOverNames c → IsOverNames d → form_text p.names (condition_form c) ≡ form_text p.names (condition_form d) → lexemes c ≡ lexemes d
  same_lexemes c d oc od e =
      one_meaning (line_text (lexemes c)) (lexemes c) (lexemes d) (line_spelt (lexemes c) (stands c oc)).has
      (subst (λ text. HasLexemes text (lexemes d)) (sym e) (line_spelt (lexemes d) (stands d od)).has)

  abbrev Named : List Argument → Type 0
  Named xs = AllByRecursion (IsArgument S) xs

  all_named : (xs : List Argument) → Named xs → All (IsArgument S) xs
  all_named xs h = All-from_recursion (IsArgument S) xs h

  pub same : (c d : Condition) → IsOverNames c → IsOverNames d → lexemes c ≡ lexemes d → c ≡ d
  same (different a b) (different c d) o u h =
      let tails : spelling (point_argument a ∷ point_argument b ∷ []) ≡ spelling (point_argument c ∷ point_argument d ∷ []) = cc in
      let xs = point_argument a ∷ point_argument b ∷ [] in let ys = point_argument c ∷ point_argument d ∷ [] in
      let k : xs ≡ ys = (arguments_read p.names w.names w.differ xs ys [] [] refl (all_named xs (o.0, (o.1, tt))) (all_named ys (u.0, (u.1, tt))) (ap (λ t. t ++ []) tails)).same in
      let x : a ≡ c = cc in let y : b ≡ d = cc in λ i. different (x i) (y i)
  same (not_collinear a b c) (not_collinear d e f) o u h =
      let xs = point_argument a ∷ point_argument b ∷ point_argument c ∷ [] in let ys = point_argument d ∷ point_argument e ∷ point_argument f ∷ [] in
      let tails : spelling xs ≡ spelling ys = cc in
      let k : xs ≡ ys = (arguments_read p.names w.names w.differ xs ys [] [] refl (all_named xs (o.0, (o.1, (o.2, tt)))) (all_named ys (u.0, (u.1, (u.2, tt)))) (ap (λ t. t ++ []) tails)).same in
      let x : a ≡ d = cc in let y : b ≡ e = cc in let z : c ≡ f = cc in λ i. not_collinear (x i) (y i) (z i)
  same (not_parallel a b c d) (not_parallel e f g h') o u h =
      let xs = point_argument a ∷ point_argument b ∷ point_argument c ∷ point_argument d ∷ [] in let ys = point_argument e ∷ point_argument f ∷ point_argument g ∷ point_argument h' ∷ [] in
      let tails : spelling xs ≡ spelling ys = cc in
      let k : xs ≡ ys = (arguments_read p.names w.names w.differ xs ys [] [] refl (all_named xs (o.0, (o.1, (o.2, (o.3, tt)))))
      (all_named ys (u.0, (u.1, (u.2, (u.3, tt))))) (ap (λ t. t ++ []) tails)).same in
      let x : a ≡ e = cc in let y : b ≡ f = cc in let z : c ≡ g = cc in let v : d ≡ h' = cc in λ i. not_parallel (x i) (y i) (z i) (v i)
  same (crossing a b) (crossing c d) o u h =
      let xs = line_argument a ∷ line_argument b ∷ [] in let ys = line_argument c ∷ line_argument d ∷ [] in
      let tails : spelling xs ≡ spelling ys = cc in
      let k : xs ≡ ys = (arguments_read p.names w.names w.differ xs ys [] [] refl (all_named xs (o.0, (o.1, tt))) (all_named ys (u.0, (u.1, tt))) (ap (λ t. t ++ []) tails)).same in
      let x : a ≡ c = cc in let y : b ≡ d = cc in λ i. crossing (x i) (y i)
  same (nonzero e) (nonzero f) o u h =
      let spell = expression_lexemes p.names in
      let tails : braced (spell e) ++ [] ≡ braced (spell f) ++ [] = cc in
      let oe = over e o in let of = over f u in
      ap nonzero (braced_read spell e f [] [] (expression_read p.names w.names w.differ false e f (close_brace ∷ []) (close_brace ∷ []) oe of) tails).same
    where
      over : (e : Tree) → IsExpression S.points S.params false e → IsExpression (length (names_of kind.Point p.names)) (length (names_of kind.Param p.names)) false e
      over e o = subst (λ y. IsExpression (length (names_of kind.Point p.names)) y false e) (params_declared p.names) (subst (λ x. IsExpression x S.params false e) (points_declared p.names) o)
  same c d o u h =
      let words : (condition_form c).word ≡ (condition_form d).word = cc in
      let lengths : length (condition_form c).word ≡ length (condition_form d).word = ap length words in
      absurd (omega arith)

-- what each found condition is, it is at its place
found_at_place : (x y j : ℕ) (fs : List Found) (f : Found) → FoundOver x y j fs → Contains fs f → IsConditionOver x y j f.condition
found_at_place x y j fs f o c =
    let P : Found → Type 0 = λ g. IsConditionOver x y j g.condition in subst P c.2 (All-from_recursion P fs o c.0 f c.1)

pub texts_tell_conditions : TextsTellConditions
texts_tell_conditions p f g w cf cg e =
    let o = program_over p w (named_program p w) in
    let k = scope_past p.nodes p.names p.commands 0 0 0 w.commands in
    let over : (h : Found) → Contains (all_found p) h → IsOverNames p w h.condition = λ h c. subst (λ (s : Scope). IsConditionOver s.points s.params s.lines h.condition) (sym k)
    (found_at_place (points_from 0 p.commands) (params_past 0 p.commands) (lines_past 0 p.commands) (all_found p) h o c) in
    same p w f.condition g.condition (over f cf) (over g cg) (same_lexemes p w f.condition g.condition (over f cf) (over g cg) e)
