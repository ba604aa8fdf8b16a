use Rattle.std.proofs.Common.{◌≡◌, ◌++◌, ◌∷◌, sym, ap, ◌∙◌, arith}
use Rattle.std.specs.Fmt.{signed_decimal}
use Rattle.std.specs.Prelude.{List, codes, ℕ, ℤ}
use Rattle.std.proofs.lemmas.Result.{on_ok_weaker}
use Rattle.geo_lexer.specs.Lexemes.{close_brace, number_lexeme, open_brace, word_lexeme}
use Rattle.geo_program.specs.Expressions.{braced, expression_lexemes}
use Rattle.geo_program.specs.Names.{name_text}
use Rattle.geo_program.specs.declared.names.Name.{Name}
use Rattle.geo_program.specs.Inner.Printing.{spaced_text}
use Rattle.geo_program.specs.declared.names.NameKind.TheVariants.{Param}
use Rattle.geo_program.proofs.Spacing.{◌⟫◌, appends, appends_lexeme}
use Rattle.geo_program.proofs.TermLemmas.{addition_parts, division_parts, integer_kept, multiplication_parts, negation_part, subtraction_parts, tree_printable, unfolds}
use Rattle.geo_program.proofs.printer.Printer.+expressions.Goals as goal
use Rattle.geo_terms.specs.declared.nodes.Node.TheVariants as node
use Rattle.geo_terms.specs.Stores.{tree_of}
use Rattle.geo_terms.specs.Trees.{Tree, integer_leaf, parameter_leaf, area_leaf, pythagoras_leaf, ratio_leaf, negation, addition, subtraction, multiplication, division}

-- a tree is spelt like one that it equals
spelt : (a b : List ℕ) (names : List Name) (tree node : Tree) → tree ≡ node → b ≡ a ++ spaced_text (expression_lexemes names node) → b ≡ a ++ spaced_text (expression_lexemes names tree)
spelt a b names tree node is h = h ∙ ap (λ t. a ++ spaced_text (expression_lexemes names t)) (sym is)

pub push_braced-returns : goal.push_braced-returns
push_braced-returns t c =
    let first = appends_lexeme _ _ open_brace c.in_ok-push_token.ensures in
    let second = appends _ _ (expression_lexemes c.args.self.now.names (tree_of c.args.self.now.terms.now c.args.e)) c.in_ok-push_expression.ensures in
    on_ok_weaker c.push_token-2.result (λ last. (first ⟫ second ⟫ appends_lexeme _ _ close_brace last).is) c.push_token-2.ensures

pub push_expression-param-requires : goal.push_expression-param-requires
push_expression-param-requires t c =
    (tree_printable _ _ _ c.requires (node.Param c.in-Param.t) c.in-Param.ensures).expression

pub push_expression-push_quantity-requires : goal.push_expression-push_quantity-requires
push_expression-push_quantity-requires t c =
    let points = (tree_printable _ _ _ c.requires (node.S c.in-S.a c.in-S.b c.in-S.c) c.in-S.ensures).expression in
    (points.0, (points.1, (points.2, tt)))

pub push_expression-push_quantity-requires-in-P : goal.push_expression-push_quantity-requires-in-P
push_expression-push_quantity-requires-in-P t c =
    let points = (tree_printable _ _ _ c.requires (node.P c.in-P.a c.in-P.b c.in-P.c) c.in-P.ensures).expression in
    (points.0, (points.1, (points.2, tt)))

pub push_expression-push_quantity-requires-in-R : goal.push_expression-push_quantity-requires-in-R
push_expression-push_quantity-requires-in-R t c =
    let points = (tree_printable _ _ _ c.requires (node.R c.in-R.a c.in-R.b c.in-R.c c.in-R.d) c.in-R.ensures).expression in
    (points.1, (points.2, (points.3, (points.4, tt))))

pub push_expression-push_braced-requires : goal.push_expression-push_braced-requires
push_expression-push_braced-requires t c =
    let parts = negation_part _ _ _ c.requires c.in-Neg.e c.in-Neg.ensures in
    (omega (arith, parts.falls), parts.first)

pub push_expression-push_operation-requires : goal.push_expression-push_operation-requires
push_expression-push_operation-requires t c =
    let parts = addition_parts _ _ _ c.requires c.in-Add.e c.in-Add.f c.in-Add.ensures in
    (omega (arith, parts.falls), (parts.first, parts.second))

pub push_expression-push_operation-requires-in-Sub :
    goal.push_expression-push_operation-requires-in-Sub
push_expression-push_operation-requires-in-Sub t c =
    let parts = subtraction_parts _ _ _ c.requires c.in-Sub.e c.in-Sub.f c.in-Sub.ensures in
    (omega (arith, parts.falls), (parts.first, parts.second))

pub push_expression-push_operation-requires-in-Mul :
    goal.push_expression-push_operation-requires-in-Mul
push_expression-push_operation-requires-in-Mul t c =
    let parts = multiplication_parts _ _ _ c.requires c.in-Mul.e c.in-Mul.f c.in-Mul.ensures in
    (omega (arith, parts.falls), (parts.first, parts.second))

pub push_expression-push_operation-requires-in-Div :
    goal.push_expression-push_operation-requires-in-Div
push_expression-push_operation-requires-in-Div t c =
    let parts = division_parts _ _ _ c.requires c.in-Div.e c.in-Div.f c.in-Div.ensures in
    (omega (arith, parts.falls), (parts.first, parts.second))

-- what is appended is the spelling of the term's tree, which is that of its node
pub push_expression-returns-in-Int : goal.push_expression-returns-in-Int
push_expression-returns-in-Int t c =
    let n = c.in-Int.n in
    let is = unfolds _ _ _ c.requires (node.Int n) c.in-Int.ensures in
    let kept = integer_kept c.args.self.now.terms.now c.args.e.0 n c.requires.store c.in-Int.ensures in
    on_ok_weaker c.push_number.result
    (λ one. spelt _ _ c.args.self.now.names _ (integer_leaf n) is
    (appends_lexeme _ _ (number_lexeme n) (one ∙ ap (λ (z : ℤ). c.args.out.now.items ++ 32 ∷ signed_decimal z) kept)).is)
    c.push_number.ensures

pub push_expression-returns-in-Param : goal.push_expression-returns-in-Param
push_expression-returns-in-Param t c =
    let names = c.args.self.now.names in
    let is = unfolds _ _ _ c.requires (node.Param c.in-Param.t) c.in-Param.ensures in
    on_ok_weaker c.push_token.result
    (λ one. spelt _ _ names _ (parameter_leaf c.in-Param.t) is
    (appends_lexeme _ _ (word_lexeme (name_text Param names c.in-Param.t.0)) (one ∙ ap (λ text. c.args.out.now.items ++ 32 ∷ text) c.param.ensures)).is)
    c.push_token.ensures

pub push_expression-returns-in_ok-push_token-in-Neg :
    goal.push_expression-returns-in_ok-push_token-in-Neg
push_expression-returns-in_ok-push_token-in-Neg t c =
    let names = c.args.self.now.names in
    let tree = tree_of c.args.self.now.terms.now c.in-Neg.e in
    let is = unfolds _ _ _ c.requires (node.Neg c.in-Neg.e) c.in-Neg.ensures in
    let first = appends_lexeme _ _ (word_lexeme (codes "neg")) c.in_ok-push_token-in-Neg.ensures in
    on_ok_weaker c.push_braced.result
    (λ last. spelt _ _ names _ (negation tree) is (first ⟫ appends _ _ (braced (expression_lexemes names tree)) last).is)
    c.push_braced.ensures

pub push_expression-returns-in-S : goal.push_expression-returns-in-S
push_expression-returns-in-S t c =
    let is = unfolds _ _ _ c.requires (node.S c.in-S.a c.in-S.b c.in-S.c) c.in-S.ensures in
    on_ok_weaker c.push_quantity.result
    (λ all. spelt _ _ c.args.self.now.names _ (area_leaf c.in-S.a c.in-S.b c.in-S.c) is all) c.push_quantity.ensures

pub push_expression-returns-in-P : goal.push_expression-returns-in-P
push_expression-returns-in-P t c =
    let is = unfolds _ _ _ c.requires (node.P c.in-P.a c.in-P.b c.in-P.c) c.in-P.ensures in
    on_ok_weaker c.push_quantity-in-P.result
    (λ all. spelt _ _ c.args.self.now.names _ (pythagoras_leaf c.in-P.a c.in-P.b c.in-P.c) is all) c.push_quantity-in-P.ensures

pub push_expression-returns-in-R : goal.push_expression-returns-in-R
push_expression-returns-in-R t c =
    let is = unfolds _ _ _ c.requires (node.R c.in-R.a c.in-R.b c.in-R.c c.in-R.d) c.in-R.ensures in
    on_ok_weaker c.push_quantity-in-R.result
    (λ all. spelt _ _ c.args.self.now.names _ (ratio_leaf c.in-R.a c.in-R.b c.in-R.c c.in-R.d) is all) c.push_quantity-in-R.ensures

pub push_expression-returns-in-Add : goal.push_expression-returns-in-Add
push_expression-returns-in-Add t c =
    let nodes = c.args.self.now.terms.now in
    let is = unfolds _ _ _ c.requires (node.Add c.in-Add.e c.in-Add.f) c.in-Add.ensures in
    on_ok_weaker c.push_operation.result
    (λ all. spelt _ _ c.args.self.now.names _ (addition (tree_of nodes c.in-Add.e) (tree_of nodes c.in-Add.f)) is all)
    c.push_operation.ensures

pub push_expression-returns-in-Sub : goal.push_expression-returns-in-Sub
push_expression-returns-in-Sub t c =
    let nodes = c.args.self.now.terms.now in
    let is = unfolds _ _ _ c.requires (node.Sub c.in-Sub.e c.in-Sub.f) c.in-Sub.ensures in
    on_ok_weaker c.push_operation-in-Sub.result
    (λ all. spelt _ _ c.args.self.now.names _ (subtraction (tree_of nodes c.in-Sub.e) (tree_of nodes c.in-Sub.f)) is all)
    c.push_operation-in-Sub.ensures

pub push_expression-returns-in-Mul : goal.push_expression-returns-in-Mul
push_expression-returns-in-Mul t c =
    let nodes = c.args.self.now.terms.now in
    let is = unfolds _ _ _ c.requires (node.Mul c.in-Mul.e c.in-Mul.f) c.in-Mul.ensures in
    on_ok_weaker c.push_operation-in-Mul.result
    (λ all. spelt _ _ c.args.self.now.names _ (multiplication (tree_of nodes c.in-Mul.e) (tree_of nodes c.in-Mul.f)) is all)
    c.push_operation-in-Mul.ensures

pub push_expression-returns-in-Div : goal.push_expression-returns-in-Div
push_expression-returns-in-Div t c =
    let nodes = c.args.self.now.terms.now in
    let is = unfolds _ _ _ c.requires (node.Div c.in-Div.e c.in-Div.f) c.in-Div.ensures in
    on_ok_weaker c.push_operation-in-Div.result
    (λ all. spelt _ _ c.args.self.now.names _ (division (tree_of nodes c.in-Div.e) (tree_of nodes c.in-Div.f)) is all)
    c.push_operation-in-Div.ensures

pub push_operation-returns : goal.push_operation-returns
push_operation-returns t c =
    let names = c.args.self.now.names in
    let nodes = c.args.self.now.terms.now in
    let first = appends_lexeme _ _ (word_lexeme c.args.word.now) c.in_ok-push_token.ensures in
    let second = appends _ _ (braced (expression_lexemes names (tree_of nodes c.args.e))) c.in_ok-push_braced.ensures in
    on_ok_weaker c.push_braced-2.result (λ last. (first ⟫ second ⟫ appends _ _ (braced (expression_lexemes names (tree_of nodes c.args.f))) last).is) c.push_braced-2.ensures
