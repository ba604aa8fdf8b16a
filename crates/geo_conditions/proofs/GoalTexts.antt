-- Goals of one text are equal.
use Rattle.std.proofs.Common.{◌≡◌, ◌⊎◌, inl, inr, Contains, List, [], ◌∷◌, ◌++◌, refl, sym, ap, subst, ◌∙◌, arith}
use Rattle.std.specs.Prelude.{codes}
use Rattle.std.specs.List.{AllByRecursion, flat_map}
use Rattle.std.proofs.lemmas.List.Elements.{All-from_recursion}
use Rattle.geo_lexer.specs.Lexemes.{HasLexemes, Lexeme, word_lexeme}
use Rattle.geo_lexer.proofs.Meanings.{one_meaning}
use Rattle.geo_program.specs.declared.statements.Statement.{Statement}
use Rattle.geo_program.specs.declared.statements.Statement.TheVariants.{Equal, Collinear, Parallel, Perpendicular, Identical, Midpoint, SameLength, Harmonic, Concyclic}
use Rattle.geo_program.specs.CanonicalText.{argument_lexemes, line_text}
use Rattle.geo_program.specs.Forms.{statement_form}
use Rattle.geo_program.specs.WellFormed.{IsArgument, IsWellFormed, Source}
use Rattle.geo_program.specs.Words.{statement_words}
use Rattle.geo_program.proofs.LinesSpelt.{line_spelt}
use Rattle.geo_program.proofs.OneProgram.{arguments_read}
use Rattle.geo_program.proofs.WordPlaces.{place_of}
use Rattle.geo_program.proofs.Standing.{IsWord-tested, MayAllStand, arguments_stand}
use Rattle.geo_terms.specs.Stores.{Store, tree_of}
use Rattle.geo_terms.specs.Trees.{Tree, integer_leaf, parameter_leaf, area_leaf, pythagoras_leaf, ratio_leaf, negation, addition, subtraction, multiplication, division}
use Rattle.geo_lowering.proofs.ConditionValues.{each_append}
use Rattle.geo_points.specs.declared.ids.PointId.{PointId}
use Rattle.geo_program.specs.FormTexts.{form_text}
use Rattle.geo_program.specs.Inner.Printing.{whole_scope}
use Rattle.geo_program.proofs.Shapes.{same_statement_shape}
use Rattle.geo_program.proofs.Standing.{statement_word}
use Rattle.geo_conditions.specs.Laws.{GoalTextsTellGoals}
use Rattle.geo_conditions.specs.Statements.{pair_goals, ratio_goals, statement_goals}
use Rattle.geo_conditions.proofs.ItemScopes.{goals_named}

-- A PARALLEL'S FORM
-- the goal is a pair's
abbrev pub IsPair : Statement → Type 0
IsPair (Parallel a b c d) = Unit {0}
IsPair _ = ⊥

parallel_form : (nodes : Store) (s : Statement) (a b c d : PointId) → statement_form nodes s ≡ statement_form nodes (Parallel a b c d) → s ≡ Parallel a b c d
parallel_form nodes (Parallel p q r s) a b c d e =
    let arguments = ap (λ f. f.arguments) e in
    let x : p ≡ a = cc in let y : q ≡ b = cc in let z : r ≡ c = cc in let w : s ≡ d = cc in λ i. Parallel (x i) (y i) (z i) (w i)
parallel_form nodes s a b c d e =
    let places : place_of (statement_form nodes s).word statement_words ≡ place_of (codes "parallel") statement_words = ap (λ f. place_of f.word statement_words) e in
    absurd (omega arith)

-- whatever the store: it has no term
pub same_pair : (nodes other : Store) (g h : Statement) → IsPair h → statement_form nodes g ≡ statement_form other h → g ≡ h
same_pair nodes other g (Parallel a b c d) k e = parallel_form nodes g a b c d e
same_pair nodes other g h k e = absurd k

-- WHAT GOALS ARE
-- the statement itself, or a pair's
abbrev IsKnown : Statement → Statement → Type 0
IsKnown s g = (g ≡ s) ⊎ IsPair g

ratios_paired : (e : Tree) → AllByRecursion IsPair (ratio_goals e)
ratios_paired (integer_leaf z) = tt
ratios_paired (parameter_leaf t) = tt
ratios_paired (area_leaf a b c) = tt
ratios_paired (pythagoras_leaf a b c) = tt
ratios_paired (ratio_leaf a b c d) = (tt, tt)
ratios_paired (negation e) = ratios_paired e
ratios_paired (addition e f) = each_append IsPair (ratio_goals e) (ratio_goals f) (ratios_paired e) (ratios_paired f)
ratios_paired (subtraction e f) = each_append IsPair (ratio_goals e) (ratio_goals f) (ratios_paired e) (ratios_paired f)
ratios_paired (multiplication e f) = each_append IsPair (ratio_goals e) (ratio_goals f) (ratios_paired e) (ratios_paired f)
ratios_paired (division e f) = each_append IsPair (ratio_goals e) (ratio_goals f) (ratios_paired e) (ratios_paired f)

-- the goals of ratios are pairs'
pub pairs_paired : (nodes : Store) (t : Statement) → AllByRecursion IsPair (pair_goals nodes t)
pairs_paired nodes (Equal e f) = each_append IsPair (ratio_goals (tree_of nodes e)) (ratio_goals (tree_of nodes f)) (ratios_paired (tree_of nodes e)) (ratios_paired (tree_of nodes f))
pairs_paired nodes (Harmonic a b c d) = (tt, (tt, tt))
pairs_paired nodes (Collinear a b c) = tt
pairs_paired nodes (Parallel a b c d) = tt
pairs_paired nodes (Perpendicular a b c d) = tt
pairs_paired nodes (Identical a b) = tt
pairs_paired nodes (Midpoint m a b) = tt
pairs_paired nodes (SameLength a b c d) = tt
pairs_paired nodes (Concyclic a b c d) = tt

known : (s : Statement) (gs : List Statement) → AllByRecursion IsPair gs → AllByRecursion (IsKnown s) gs
known s [] h = tt
known s (g ∷ gs) h = (inr h.0, known s gs h.1)

-- what holds of each holds of what is contained
at_place : (Q : Statement → Type 0) (goals : List Statement) (g : Statement) → AllByRecursion Q goals → Contains goals g → Q g
at_place Q goals g h c = subst Q c.2 (All-from_recursion Q goals h c.0 g c.1)

module _ (p : Source) (w : IsWellFormed p) where
  abbrev spelling : Statement → List Lexeme
  spelling g = flat_map (argument_lexemes p.names) (statement_form p.nodes g).arguments

  abbrev lexemes : Statement → List Lexeme
  lexemes g = word_lexeme (statement_form p.nodes g).word ∷ spelling g

  abbrev Named : Statement → Type 0
  Named g = AllByRecursion (IsArgument (whole_scope p.names)) (statement_form p.nodes g).arguments

  stands : (g : Statement) → Named g → MayAllStand (lexemes g)
  stands g h = (IsWord-tested (statement_form p.nodes g).word (statement_word p.nodes g), arguments_stand p.names w.names (statement_form p.nodes g).arguments h)

  same_form : (g h : Statement) → Named g → Named h → form_text p.names (statement_form p.nodes g) ≡ form_text p.names (statement_form p.nodes h) → statement_form p.nodes g ≡ statement_form p.nodes h
  same_form g h k l e =
      let f = statement_form p.nodes g in
      let f' = statement_form p.nodes h in
      let same : lexemes g ≡ lexemes h =
      one_meaning (line_text (lexemes g)) (lexemes g) (lexemes h) (line_spelt (lexemes g) (stands g k)).has
      (subst (λ text. HasLexemes text (lexemes h)) (sym e) (line_spelt (lexemes h) (stands h l)).has) in
      let words : f.word ≡ f'.word = cc in
      let tails : spelling g ≡ spelling h = cc in
      let arguments : f.arguments ≡ f'.arguments =
      (arguments_read p.names w.names w.differ f.arguments f'.arguments [] [] (same_statement_shape p.nodes p.nodes g h words)
      (All-from_recursion (IsArgument (whole_scope p.names)) f.arguments k) (All-from_recursion (IsArgument (whole_scope p.names)) f'.arguments l) (ap (λ t. t ++ []) tails)).same in
      λ i. record { word = words i; arguments = arguments i }

pub goal_texts_tell_goals : GoalTextsTellGoals
goal_texts_tell_goals p g h w cg ch e =
    let s = p.statement in
    let all : AllByRecursion (IsKnown s) (statement_goals p.nodes s) =
    each_append (IsKnown s) (pair_goals p.nodes s) (s ∷ []) (known s (pair_goals p.nodes s) (pairs_paired p.nodes s)) (inl refl, tt) in
    let named : AllByRecursion (Named p w) (statement_goals p.nodes s) = goals_named p w in
    let forms = same_form p w g h (at_place (Named p w) (statement_goals p.nodes s) g named cg) (at_place (Named p w) (statement_goals p.nodes s) h named ch) e in
    by s g h (at_place (IsKnown s) (statement_goals p.nodes s) g all cg) (at_place (IsKnown s) (statement_goals p.nodes s) h all ch) forms
  where
    by : (s g h : Statement) → IsKnown s g → IsKnown s h → statement_form p.nodes g ≡ statement_form p.nodes h → g ≡ h
    by s g h (inl a) (inl b) f = a ∙ sym b
    by s g h (inl a) (inr b) f = same_pair p.nodes p.nodes g h b f
    by s g h (inr a) k f = sym (same_pair p.nodes p.nodes h g a (sym f))
