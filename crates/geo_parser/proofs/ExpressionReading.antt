-- Reading an expression.
use Rattle.std.proofs.Common.{◌≡◌, ℕ, ◌<◌, ◌≤◌, Bool, true, false, not, ◌&&◌, IsTrue, List, [], ◌∷◌, ◌++◌, Some, None, codes, refl, sym, ap, ◌∙◌, subst, arith}
use Rattle.std.specs.Prelude.{All, Option, if◌then◌else◌}
use Rattle.std.specs.List.{flat_map}
use Rattle.std.proofs.lemmas.List.Elements.{All-head, All-tail}
use Rattle.geo_points.specs.declared.ids.PointId.{PointId}
use Rattle.geo_lexer.specs.declared.token_types.Fault.{Fault}
use Rattle.geo_lexer.specs.Lexemes.{Lexeme, word_lexeme}
use Rattle.geo_program.specs.CanonicalText.{argument_lexemes}
use Rattle.geo_program.specs.Expressions.{expression_lexemes}
use Rattle.geo_program.specs.Forms.{Argument, point_argument}
use Rattle.geo_program.specs.WellFormed.{IsArgument}
use Rattle.geo_program.specs.declared.names.NameKind.TheVariants.{Param}
use Rattle.geo_program.proofs.ScopeLemmas.{params_declared}
use Rattle.geo_terms.specs.declared.nodes.Node.{Node}
use Rattle.geo_terms.specs.declared.nodes.Node.TheVariants.{S, P, R}
use Rattle.geo_terms.specs.declared.nodes.Node.TheVariants as node
use Rattle.geo_parser.specs.declared.expression_words.ExpressionWord.{ExpressionWord}
use Rattle.geo_parser.specs.declared.expression_words.ExpressionWord.TheVariants.{SignedArea, PythagorasDifference, Ratio, Neg, Sum, Sub, Mult, Div}
use Rattle.geo_parser.specs.declared.reader.Reader.{Reader}
use Rattle.geo_parser.specs.Inner.Coming.{next_lexeme}
use Rattle.geo_parser.specs.Forms.{Slot, due_behind, expression_slot, expressions, name_slot}
use Rattle.geo_parser.specs.Inner.Reads.{Reads, ReadsArguments, ReadsFormed, ReadsName, ReadsNode, Refuses, reading, scope, tree_of_node}
use Rattle.geo_parser.specs.Slots.{Outcome, Reading, begin_expression, refused, taken, use_name}
use Rattle.geo_parser.specs.Inner.StatementWords.{expression_due, expression_text}
use Rattle.geo_parser.specs.Texts.{is_text}
use Rattle.geo_parser.proofs.Finding.{same_text}
use Rattle.geo_parser.proofs.Reading.{Reads-behind, Reads-other, Refuses-behind, Refuses-other, advanced, length-tail}

-- QUANTITIES

-- each of the points is declared
all_points : (s : Reader) (a : PointId) (more : List Argument) → All (IsArgument (scope s)) (point_argument a ∷ more) → (a.0 < (scope s).points) × All (IsArgument (scope s)) more
all_points s a more h = (All-head (IsArgument (scope s)) (point_argument a) more h, All-tail (IsArgument (scope s)) (point_argument a) more h)

module _ (level : ℕ) (ratios : Bool) (old new : Reader) (shallow : level ≤ 128) (a b c : PointId) where
  pub ReadsFormed-area : ReadsArguments (point_argument a ∷ point_argument b ∷ point_argument c ∷ []) old new → ReadsFormed SignedArea level ratios old new (S a b c)
  ReadsFormed-area h =
      let x = all_points old a (point_argument b ∷ point_argument c ∷ []) h.valid in
      let y = all_points old b (point_argument c ∷ []) x.1 in
      let z = all_points old c [] y.1 in record {
        lexemes = flat_map (argument_lexemes old.names) (point_argument a ∷ point_argument b ∷ point_argument c ∷ []);
        reads = h.reads;
        spelt = refl;
        storable = record { children = tt; integer = tt };
        tree = record { valid = (x.0, y.0, z.0); nested = omega arith };
      }

  pub ReadsFormed-difference : ReadsArguments (point_argument a ∷ point_argument b ∷ point_argument c ∷ []) old new → ReadsFormed PythagorasDifference level ratios old new (P a b c)
  ReadsFormed-difference h =
      let x = all_points old a (point_argument b ∷ point_argument c ∷ []) h.valid in
      let y = all_points old b (point_argument c ∷ []) x.1 in
      let z = all_points old c [] y.1 in record {
        lexemes = flat_map (argument_lexemes old.names) (point_argument a ∷ point_argument b ∷ point_argument c ∷ []);
        reads = h.reads;
        spelt = refl;
        storable = record { children = tt; integer = tt };
        tree = record { valid = (x.0, y.0, z.0); nested = omega arith };
      }

  pub ReadsFormed-ratio : (d : PointId) → IsTrue ratios
      → ReadsArguments (point_argument a ∷ point_argument b ∷ point_argument c ∷ point_argument d ∷ []) old new
      → ReadsFormed Ratio level ratios old new (R a b c d)
  ReadsFormed-ratio d allowed h =
      let x = all_points old a (point_argument b ∷ point_argument c ∷ point_argument d ∷ []) h.valid in
      let y = all_points old b (point_argument c ∷ point_argument d ∷ []) x.1 in
      let z = all_points old c (point_argument d ∷ []) y.1 in
      let w = all_points old d [] z.1 in record {
        lexemes = flat_map (argument_lexemes old.names) (point_argument a ∷ point_argument b ∷ point_argument c ∷ point_argument d ∷ []);
        reads = h.reads;
        spelt = refl;
        storable = record { children = tt; integer = tt };
        tree = record { valid = (allowed, x.0, y.0, z.0, w.0); nested = omega arith };
      }

-- the word is known by an equation
pub ReadsFormed-at : (form form' : ExpressionWord) (level : ℕ) (ratios : Bool) (old new : Reader) (node : Node) → form ≡ form'
    → ReadsFormed form' level ratios old new node → ReadsFormed form level ratios old new node
ReadsFormed-at form form' level ratios old new node e h = let P : ExpressionWord → Type 0 = λ w. ReadsFormed w level ratios old new node in subst P (sym e) h

-- WORDS

-- what comes of a word where an expression is due, by what is known of it
abbrev by_due : Option (List Slot) → Reading → List ℕ → List Slot → Outcome
by_due due r word rest = elim due [ Some slots ↦ taken r (slots ++ rest) | None ↦ use_name r Param word rest ]

abbrev by_ratio : Bool → Option (List Slot) → Reading → List ℕ → List Slot → Outcome
by_ratio refuse due r word rest = if refuse then refused 8 else by_due due r word rest

-- a word that begins no expression is no `sratio`
no_ratio : (level : ℕ) (ratios : Bool) (word : List ℕ) (b : Bool) → is_text word (codes "sratio") ≡ b → due_behind word (expressions level ratios) ≡ None → b && not ratios ≡ false
no_ratio level ratios word true h none =
    let same : word ≡ codes "sratio" = same_text word (codes "sratio") h in
    let P : List ℕ → Type 0 = λ w. due_behind w (expressions level ratios) ≡ None in
    let no : due_behind (codes "sratio") (expressions level ratios) ≡ None = subst P same none in
    cc
no_ratio level ratios word false h none = refl

-- such a word is to be a parameter's name
pub begin_expression-name : (r : Reading) (level : ℕ) (ratios : Bool) (word : List ℕ) (rest : List Slot)
    → due_behind word (expressions level ratios) ≡ None → begin_expression r level ratios word rest ≡ use_name r Param word rest
begin_expression-name r level ratios word rest none =
    ap (λ b. by_ratio b (due_behind word (expressions level ratios)) r word rest) (no_ratio level ratios word (is_text word (codes "sratio")) refl none)
    ∙ ap (λ o. by_due o r word rest) none

-- `sratio` may stand where ratios may, and the other words are no `sratio`
allowed_word : (form : ExpressionWord) (ratios : Bool) → (form ≡ Ratio → IsTrue ratios) → is_text (expression_text form) (codes "sratio") && not ratios ≡ false
allowed_word SignedArea ratios h = refl
allowed_word PythagorasDifference ratios h = refl
allowed_word Ratio ratios h = ap not (h refl)
allowed_word Neg ratios h = refl
allowed_word Sum ratios h = refl
allowed_word Sub ratios h = refl
allowed_word Mult ratios h = refl
allowed_word Div ratios h = refl

-- behind a word that begins an expression the rest of it is due
pub begin_expression-form : (r : Reading) (level : ℕ) (ratios : Bool) (form : ExpressionWord) (word : List ℕ) (rest : List Slot)
    → (form ≡ Ratio → IsTrue ratios) → expression_text form ≡ word
    → Some (expression_due level ratios form) ≡ due_behind word (expressions level ratios)
    → begin_expression r level ratios word rest ≡ taken r (expression_due level ratios form ++ rest)
begin_expression-form r level ratios form word rest allowed text due =
    ap (λ b. by_ratio b (due_behind word (expressions level ratios)) r word rest) (ap (λ w. is_text w (codes "sratio") && not ratios) (sym text) ∙ allowed_word form ratios allowed)
    ∙ ap (λ o. by_due o r word rest) (sym due)

module _ (s : Reader) (level : ℕ) (ratios : Bool) (word : List ℕ) (is : next_lexeme s.cursor.tokens ≡ Some (word_lexeme word)) where
  module _ (none : due_behind word (expressions level ratios) ≡ None) where
    -- a word that begins no expression is read as a parameter's name
    pub Reads-parameter : (new : Reader) (xs : List Lexeme) → Reads (name_slot Param ∷ []) s new xs → Reads (expression_slot level ratios ∷ []) s new xs
    Reads-parameter new xs h =
        Reads-other (expression_slot level ratios ∷ []) (name_slot Param ∷ []) s (word_lexeme word) is
        (λ begun rest. begin_expression-name (reading s.names begun s.points) level ratios word rest none) new xs h

    pub Refuses-parameter : (f : Fault) → Refuses (name_slot Param ∷ []) s f → Refuses (expression_slot level ratios ∷ []) s f
    Refuses-parameter f h =
        Refuses-other (expression_slot level ratios ∷ []) (name_slot Param ∷ []) s (word_lexeme word) is
        (λ begun rest. begin_expression-name (reading s.names begun s.points) level ratios word rest none) f h

    pub ReadsNode-parameter : (new : Reader) (k : ℕ) → level ≤ 128 → ReadsName Param s new k → ReadsNode level ratios s new (node.Param (record { 0 = k }))
    ReadsNode-parameter new k shallow h = record {
      reads = Reads-parameter new _ h.reads;
      storable = record { children = tt; integer = tt };
      tree = record { valid = omega (arith, params_declared s.names, h.within); nested = omega arith };
      room = h.room;
    }

  module _ (form : ExpressionWord) (allowed : form ≡ Ratio → IsTrue ratios) (text : expression_text form ≡ word)
      (due : Some (expression_due level ratios form) ≡ due_behind word (expressions level ratios)) where
    -- a word that begins an expression is read, and the rest of it is due
    pub Refuses-form : (f : Fault) → Refuses (expression_due level ratios form) (advanced s) f → Refuses (expression_slot level ratios ∷ []) s f
    Refuses-form f h =
        Refuses-behind (expression_slot level ratios ∷ []) (expression_due level ratios form) s (word_lexeme word) is
        (λ begun rest. begin_expression-form (reading s.names begun s.points) level ratios form word rest allowed text due) f h

    pub ReadsNode-form : (new : Reader) (node : Node) → ReadsFormed form level ratios (advanced s) new node → ReadsNode level ratios s new node
    ReadsNode-form new node h =
        let read = Reads-behind (expression_slot level ratios ∷ []) (expression_due level ratios form) s (word_lexeme word) is
        (λ begun rest. begin_expression-form (reading s.names begun s.points) level ratios form word rest allowed text due) new
        h.lexemes h.reads in
        let same : expression_lexemes s.names (tree_of_node new node) ≡ word_lexeme word ∷ h.lexemes = h.spelt ∙ ap (λ w. word_lexeme w ∷ h.lexemes) text in
        let P : List Lexeme → Type 0 = λ ls. Reads (expression_slot level ratios ∷ []) s new ls in
        record {
          reads = subst P (sym same) read;
          storable = h.storable;
          tree = record { valid = h.tree.valid; nested = h.tree.nested };
          room = omega (arith, h.reads.room, length-tail s.cursor.tokens (word_lexeme word) is);
        }
