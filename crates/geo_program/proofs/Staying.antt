-- What stays when names and nodes are added.
use Rattle.std.proofs.Common.{◌≡◌, ℕ, ◌<◌, ◌≤◌, Bool, true, false, List, [], ◌∷◌, ◌++◌, length, map, refl, sym, ap, ap₂, subst, ◌∙◌, arith}
use Rattle.std.specs.Prelude.{All, codes}
use Rattle.std.specs.List.{flat_map}
use Rattle.std.proofs.lemmas.List.Elements.{All-head, All-tail}
use Rattle.geo_lexer.specs.Lexemes.{Lexeme, word_lexeme}
use Rattle.geo_points.specs.declared.ids.PointId.{PointId}
use Rattle.geo_points.specs.declared.ids.TermId.{TermId}
use Rattle.geo_program.specs.declared.commands.Command.{Command}
use Rattle.geo_program.specs.declared.commands.Command.TheVariants.{Pratio, Tratio, Lratio, Weights}
use Rattle.geo_program.specs.declared.names.Name.{Name}
use Rattle.geo_program.specs.declared.names.NameKind.TheVariants.{Point, Param, Line}
use Rattle.geo_program.specs.declared.statements.Statement.{Statement}
use Rattle.geo_program.specs.declared.statements.Statement.TheVariants as statement
use Rattle.geo_program.specs.CanonicalText.{argument_lexemes, command_lexemes, condition_lexemes}
use Rattle.geo_program.specs.Expressions.{IsExpression, braced, expression_lexemes, point_lexeme}
use Rattle.geo_program.specs.Forms.{Argument, point_argument, line_argument, number_argument, side_argument, CommandForm, command_form, form, statement_form, IsStored, AreSidesStored}
use Rattle.geo_program.specs.Names.{names_of}
use Rattle.geo_program.specs.WellFormed.{AreCommands, IsArgument, IsCommand, Scope, empty_scope, kinds_made, later_names, own_names, scope_of}
use Rattle.geo_program.proofs.NameLemmas.{name_text-append}
use Rattle.geo_program.proofs.ScopeLemmas.{points_declared, params_declared, lines_declared}
use Rattle.geo_terms.specs.Stores.{Store, tree_of}
use Rattle.geo_terms.specs.Trees.{Tree, integer_leaf, parameter_leaf, area_leaf, pythagoras_leaf, ratio_leaf, negation, addition, subtraction, multiplication, division}

-- MORE NAMES

-- what is an expression over a scope is one over its names
pub over_names : (names : List Name) (ratios : Bool) (e : Tree)
    → IsExpression (scope_of empty_scope names).points (scope_of empty_scope names).params ratios e
    → IsExpression (length (names_of Point names)) (length (names_of Param names)) ratios e
over_names names ratios e h = rw (points_declared names, params_declared names) at h

module _ (names more : List Name) where
  point_kept : (a : PointId) → a.0 < length (names_of Point names) → point_lexeme (names ++ more) a ≡ point_lexeme names a
  point_kept a h = ap word_lexeme (name_text-append Point names more a.0 h)

  parts_kept : (word : List ℕ) (x y u v : List Lexeme) → x ≡ u → y ≡ v → word_lexeme word ∷ braced x ++ braced y ≡ word_lexeme word ∷ braced u ++ braced v
  parts_kept word x y u v h k = ap₂ (λ p q. word_lexeme word ∷ braced p ++ braced q) h k

  -- an expression over the names is spelt the same with more names
  pub expression_lexemes-append : (ratios : Bool) (e : Tree)
      → IsExpression (length (names_of Point names)) (length (names_of Param names)) ratios e
      → expression_lexemes (names ++ more) e ≡ expression_lexemes names e
  expression_lexemes-append ratios (integer_leaf n) h = refl
  expression_lexemes-append ratios (parameter_leaf t) h = ap (λ text. word_lexeme text ∷ []) (name_text-append Param names more t.0 h)
  expression_lexemes-append ratios (area_leaf a b c) h =
      let pa = point_kept a h.0 in let pb = point_kept b h.1 in let pc = point_kept c h.2 in cc
  expression_lexemes-append ratios (pythagoras_leaf a b c) h =
      let pa = point_kept a h.0 in let pb = point_kept b h.1 in let pc = point_kept c h.2 in cc
  expression_lexemes-append ratios (ratio_leaf a b c d) h =
      let pa = point_kept a h.1 in let pb = point_kept b h.2 in let pc = point_kept c h.3 in let pd = point_kept d h.4 in cc
  expression_lexemes-append ratios (negation e) h = ap (λ x. word_lexeme (codes "neg") ∷ braced x) (expression_lexemes-append ratios e h)
  expression_lexemes-append ratios (addition e f) h =
      parts_kept _ _ _ _ _ (expression_lexemes-append ratios e h.0) (expression_lexemes-append ratios f h.1)
  expression_lexemes-append ratios (subtraction e f) h =
      parts_kept _ _ _ _ _ (expression_lexemes-append ratios e h.0) (expression_lexemes-append ratios f h.1)
  expression_lexemes-append ratios (multiplication e f) h =
      parts_kept _ _ _ _ _ (expression_lexemes-append ratios e h.0) (expression_lexemes-append ratios f h.1)
  expression_lexemes-append ratios (division e f) h =
      parts_kept _ _ _ _ _ (expression_lexemes-append ratios e h.0) (expression_lexemes-append false f h.1)

  -- an argument over what the names declare
  pub argument_lexemes-append : (x : Argument) → IsArgument (scope_of empty_scope names) x → argument_lexemes (names ++ more) x ≡ argument_lexemes names x
  argument_lexemes-append (point_argument a) h = ap (λ l. l ∷ []) (point_kept a (omega (arith, points_declared names)))
  argument_lexemes-append (line_argument a) h =
      ap (λ text. word_lexeme text ∷ []) (name_text-append Line names more a.0 (omega (arith, lines_declared names)))
  argument_lexemes-append (number_argument e) h = expression_lexemes-append false e (over_names names false e h.0)
  argument_lexemes-append (side_argument e) h = ap braced (expression_lexemes-append true e (over_names names true e h.0))

  pub arguments_lexemes-append : (arguments : List Argument) → All (IsArgument (scope_of empty_scope names)) arguments
      → flat_map (argument_lexemes (names ++ more)) arguments ≡ flat_map (argument_lexemes names) arguments
  arguments_lexemes-append [] h = refl
  arguments_lexemes-append (x ∷ arguments) h =
      ap₂ (λ l m. l ++ m)
      (argument_lexemes-append x (All-head (IsArgument (scope_of empty_scope names)) x arguments h))
      (arguments_lexemes-append arguments (All-tail (IsArgument (scope_of empty_scope names)) x arguments h))

-- a command whose arguments are over these names is spelt the same with more names
pub command_lexemes-append : (names more : List Name) (nodes : Store) (own : List Name) (command : Command)
    → IsCommand nodes (scope_of empty_scope names) own command
    → command_lexemes (names ++ more) nodes own command ≡ command_lexemes names nodes own command
command_lexemes-append names more nodes own command h =
    ap (λ l. word_lexeme (command_form nodes command).word ∷ condition_lexemes (command_form nodes command).condition ++ (map (λ (name : Name). word_lexeme name.text) own ++ l))
    (arguments_lexemes-append names more (command_form nodes command).arguments h.arguments)

-- MORE NODES

-- all trees of a store stand in another one at the same indices
pub record KeepsTrees (nodes wider : Store) : Type 0 where
  pub longer : length nodes ≤ length wider
  pub trees : (id : TermId) → id.0 < length nodes → tree_of wider id ≡ tree_of nodes id

module _ (nodes wider : Store) (kept : KeepsTrees nodes wider) where
  pub command_form-kept : (command : Command) → IsStored nodes command → command_form wider command ≡ command_form nodes command
  command_form-kept (Pratio w u v r) h = ap (λ t. form (codes "pratio") Point 1 (point_argument w ∷ point_argument u ∷ point_argument v ∷ number_argument t ∷ [])) (kept.trees r h)
  command_form-kept (Tratio u v r) h = ap (λ t. form (codes "tratio") Point 1 (point_argument u ∷ point_argument v ∷ number_argument t ∷ [])) (kept.trees r h)
  command_form-kept (Lratio a b r) h = ap (λ t. form (codes "lratio") Point 1 (point_argument a ∷ point_argument b ∷ number_argument t ∷ [])) (kept.trees r h)
  command_form-kept (Weights a b c r s) h =
      ap₂ (λ t u. form (codes "weights") Point 2 (point_argument a ∷ point_argument b ∷ point_argument c ∷ number_argument t ∷ number_argument u ∷ [])) (kept.trees r h.0) (kept.trees s h.1)
  command_form-kept _ h = refl

  pub IsStored-kept : (command : Command) → IsStored nodes command → IsStored wider command
  IsStored-kept (Pratio w u v r) h = omega (arith, kept.longer)
  IsStored-kept (Tratio u v r) h = omega (arith, kept.longer)
  IsStored-kept (Lratio a b r) h = omega (arith, kept.longer)
  IsStored-kept (Weights a b c r s) h = (omega (arith, kept.longer, h.0), omega (arith, kept.longer, h.1))
  IsStored-kept _ h = tt

  pub statement_form-kept : (s : Statement) → AreSidesStored nodes s → statement_form wider s ≡ statement_form nodes s
  statement_form-kept (statement.Equal e f) h =
      ap₂ (λ t u. record { word = codes "equal"; arguments = side_argument t ∷ side_argument u ∷ [] }) (kept.trees e h.0) (kept.trees f h.1)
  statement_form-kept _ h = refl

  pub AreSidesStored-kept : (s : Statement) → AreSidesStored nodes s → AreSidesStored wider s
  AreSidesStored-kept (statement.Equal e f) h = (omega (arith, kept.longer, h.0), omega (arith, kept.longer, h.1))
  AreSidesStored-kept _ h = tt

  pub IsCommand-kept : (s : Scope) (own : List Name) (command : Command) → IsCommand nodes s own command → IsCommand wider s own command
  IsCommand-kept s own command h =
      let same = command_form-kept command h.stored in record {
        named = h.named ∙ sym (ap kinds_made same);
        arguments = subst (λ (f : CommandForm). All (IsArgument s) f.arguments) (sym same) h.arguments;
        stored = IsStored-kept command h.stored;
      }

  pub AreCommands-kept : (s : Scope) (names : List Name) (commands : List Command) → AreCommands nodes s names commands → AreCommands wider s names commands
  AreCommands-kept s names [] h = h
  AreCommands-kept s names (command ∷ commands) h =
      let f = command_form nodes command in
      let rest : AreCommands wider (scope_of s (own_names f names)) (later_names f names) commands =
      AreCommands-kept (scope_of s (own_names f names)) (later_names f names) commands h.1 in
      subst (λ (g : CommandForm). IsCommand wider s (own_names g names) command × AreCommands wider (scope_of s (own_names g names)) (later_names g names) commands)
      (sym (command_form-kept command h.0.stored)) (IsCommand-kept s (own_names f names) command h.0, rest)

  pub command_lexemes-kept : (names own : List Name) (command : Command) → IsStored nodes command → command_lexemes names wider own command ≡ command_lexemes names nodes own command
  command_lexemes-kept names own command h =
      ap (λ f. word_lexeme f.word ∷ condition_lexemes f.condition ++ (map (λ (name : Name). word_lexeme name.text) own ++ flat_map (argument_lexemes names) f.arguments)) (command_form-kept command h)
