-- An expression is read where nothing is refused.
use Rattle.std.proofs.Common.{◌≡◌, true≢false, ℕ, zero, suc, ◌+◌, ◌<◌, ◌≤◌, Bool, true, false, not, ◌&&◌, IsTrue, List, [], ◌∷◌}
use Rattle.std.proofs.Common.{◌++◌, length, map, ℤ, Option, Some, None, codes, refl, sym, ap, ◌∙◌, subst, arith}
use Rattle.std.specs.Prelude.{if◌then◌else◌, option_map}
use Rattle.std.proofs.lemmas.List.{length_push}
use Rattle.geo_points.specs.declared.ids.TermId.{TermId}
use Rattle.geo_lexer.specs.Lexemes.{Lexeme, close_brace, number_lexeme, open_brace, word_lexeme}
use Rattle.geo_program.specs.Expressions.{IsExpression, braced, expression_lexemes}
use Rattle.geo_program.specs.WellFormed.{empty_scope, scope_of}
use Rattle.geo_program.specs.declared.names.Name.{Name}
use Rattle.geo_program.specs.declared.names.NameKind.TheVariants.{Param}
use Rattle.geo_terms.specs.Stores.{Store, tree_of}
use Rattle.geo_terms.specs.Trees.{Tree}
use Rattle.geo_terms.specs.declared.nodes.Node.{Node}
use Rattle.geo_terms.specs.declared.nodes.Node.TheVariants as node
use Rattle.geo_terms.proofs.Trees.{tree_of-append, tree_of-push}
use Rattle.geo_parser.specs.declared.expression_words.ExpressionWord.{ExpressionWord}
use Rattle.geo_parser.specs.declared.expression_words.ExpressionWord.TheVariants.{SignedArea, PythagorasDifference, Ratio, Neg, Sum, Sub, Mult, Div}
use Rattle.geo_parser.specs.declared.expression_words.TheConstants.{EXPRESSIONS}
use Rattle.geo_parser.specs.declared.reader.Reader.{Reader}
use Rattle.geo_parser.specs.Forms.{Slot, close_slot, due_behind, expression_slot, expressions, open_slot, part}
use Rattle.geo_parser.specs.Inner.Coming.{next_lexeme}
use Rattle.geo_parser.specs.Inner.Reads.{Extends, IsTree, Reads, ReadsExpression, ReadsFormed, ReadsNode, ReadsPart, ReadsParts, reading}
use Rattle.geo_parser.specs.Inner.StatementWords.{expression_due, expression_text}
use Rattle.geo_parser.specs.Slots.{begin_expression, refused, taken, use_name}
use Rattle.geo_parser.specs.Texts.{found, is_text}
use Rattle.geo_parser.proofs.CommandsReading.{at_some}
use Rattle.geo_parser.proofs.ExpressionReading.{ReadsFormed-area, ReadsFormed-difference, ReadsFormed-ratio, ReadsNode-form}
use Rattle.geo_parser.proofs.ExpressionReading.{ReadsNode-parameter, begin_expression-form, begin_expression-name}
use Rattle.geo_parser.proofs.Finding.{due_behind-dues, is_text_self, text_found}
use Rattle.geo_parser.proofs.Reading.{Extends-then, Reads-then, Reads-token, advanced, length-tail}
use Rattle.geo_parser.proofs.Unrefused.{ReadsName-word, Unrefused, Unrefused-behind, Unrefused-then, close_read, four_points_read}
use Rattle.geo_parser.proofs.Unrefused.{never_refused, next_may_stand, next_there, numbered_word, open_read, three_points_read}

-- PARTS

-- a tree on the same names
IsTree-same : (level : ℕ) (ratios : Bool) (a b : Reader) (tree : Tree) → b.names ≡ a.names → IsTree level ratios b tree → IsTree level ratios a tree
IsTree-same level ratios a b tree same h = record {
  valid = subst (λ (ns : List Name). IsExpression (scope_of empty_scope ns).points (scope_of empty_scope ns).params ratios tree) same h.valid;
  nested = h.nested;
}

-- two parts one after another
ReadsParts-both : (level : ℕ) (first second : Bool) (a b c : Reader) (e f : TermId) → ReadsPart level first a b e → ReadsPart level second b c f
    → ReadsParts level first second a c e f
ReadsParts-both level first second a b c e f h k =
    let kept : tree_of c.terms e ≡ tree_of b.terms e = k.reads.terms.others e h.stored in
    let one = open_slot level ∷ expression_slot level first ∷ close_slot ∷ [] in
    let other = open_slot level ∷ expression_slot level second ∷ close_slot ∷ [] in
    let P : Tree → List Name → Type 0 =
    λ tree ns. Reads (one ++ other) a c (braced (expression_lexemes a.names tree) ++ braced (expression_lexemes ns (tree_of c.terms f))) in
    let both = Reads-then one other a b _ h.reads c _ k.reads in record {
      reads = subst (λ tree. P tree a.names) (sym kept) (subst (P (tree_of b.terms e)) h.reads.names both);
      stored = omega (arith, h.stored, k.reads.terms.longer);
      tree = subst (IsTree level first a) (sym kept) h.tree;
      stored' = k.stored;
      tree' = IsTree-same level second a b (tree_of c.terms f) h.reads.names k.tree;
    }

-- `{`, an expression and `}`
ReadsPart-made : (level : ℕ) (ratios : Bool) (a b c d : Reader) (e : TermId) → Reads (open_slot level ∷ []) a b (open_brace ∷ [])
    → ReadsExpression level ratios b c e → Reads (close_slot ∷ []) c d (close_brace ∷ []) → ReadsPart level ratios a d e
ReadsPart-made level ratios a b c d e o h k =
    let kept : tree_of d.terms e ≡ tree_of c.terms e = k.terms.others e h.stored in
    let all = Reads-then (open_slot level ∷ []) (expression_slot level ratios ∷ close_slot ∷ []) a b _ o d _
    (Reads-then (expression_slot level ratios ∷ []) (close_slot ∷ []) b c _ h.reads d _ k) in
    let P : Tree → List Name → Type 0 =
    λ tree ns. Reads (open_slot level ∷ expression_slot level ratios ∷ close_slot ∷ []) a d (braced (expression_lexemes ns tree)) in record {
      reads = subst (λ tree. P tree a.names) (sym kept) (subst (P (tree_of c.terms e)) o.names all);
      stored = omega (arith, h.stored, k.terms.longer);
      tree = subst (IsTree level ratios a) (sym kept) (IsTree-same level ratios a b (tree_of c.terms e) o.names h.tree);
    }

-- what reads `{ e }` where the brace is of this level
abbrev PartRead : ℕ → Type 0
PartRead level =
    (ratios : Bool) (s : Reader) (begun : List Name) (rest : List Slot) → Unrefused s begun (open_slot level ∷ expression_slot level ratios ∷ close_slot ∷ rest)
    → (t : Reader) × (e : TermId) × ReadsPart level ratios s t e

-- FORMS

-- the words that begin expressions
abbrev word_table : List (List ℕ × ExpressionWord)
word_table = map (λ e. (e.0.now, e.1)) EXPRESSIONS

module _ (level : ℕ) (shallow : level ≤ 128) (part_read : PartRead (level + 1)) where
  -- two parts
  both_read : (first second : Bool) (s : Reader) (begun : List Name) (rest : List Slot) → Unrefused s begun (part level first ++ (part level second ++ rest))
      → (t : Reader) × (e : TermId) × (f : TermId) × ReadsParts (level + 1) first second s t e f
  both_read first second s begun rest u =
      let p = part_read first s begun (part level second ++ rest) u in
      let q = part_read second p.0 begun rest (Unrefused-then (part level first) s p.0 _ begun (part level second ++ rest) p.2.reads u) in
      (q.0, p.1, q.1, ReadsParts-both (level + 1) first second s p.0 q.0 p.1 q.1 p.2 q.2)

  module _ (ratios : Bool) (s : Reader) (begun : List Name) (rest : List Slot) where
    -- what stands behind the word of an expression
    formed_read : (form : ExpressionWord) → (form ≡ Ratio → IsTrue ratios) → Unrefused s begun (expression_due level ratios form ++ rest)
        → (t : Reader) × (n : Node) × ReadsFormed form level ratios s t n
    formed_read SignedArea allowed u =
        let p = three_points_read s begun rest u in (p.0, node.S p.1 p.2 p.3, ReadsFormed-area level ratios s p.0 shallow p.1 p.2 p.3 p.4)
    formed_read PythagorasDifference allowed u =
        let p = three_points_read s begun rest u in (p.0, node.P p.1 p.2 p.3, ReadsFormed-difference level ratios s p.0 shallow p.1 p.2 p.3 p.4)
    formed_read Ratio allowed u =
        let p = four_points_read s begun rest u in (p.0, node.R p.1 p.2 p.3 p.4, ReadsFormed-ratio level ratios s p.0 shallow p.1 p.2 p.3 p.4 (allowed refl) p.5)
    formed_read Neg allowed u =
        let p = part_read ratios s begun rest u in (
          p.0,
          node.Neg p.1,
          record {
            lexemes = braced (expression_lexemes s.names (tree_of p.0.terms p.1));
            reads = p.2.reads;
            spelt = refl;
            storable = record { children = p.2.stored; integer = tt };
            tree = record { valid = p.2.tree.valid; nested = omega (arith, p.2.tree.nested) };
          },
        )
    formed_read Sum allowed u =
        let p = both_read ratios ratios s begun rest u in (
          p.0,
          node.Add p.1 p.2,
          record {
            lexemes = braced (expression_lexemes s.names (tree_of p.0.terms p.1)) ++ braced (expression_lexemes s.names (tree_of p.0.terms p.2));
            reads = p.3.reads;
            spelt = refl;
            storable = record { children = (p.3.stored, p.3.stored'); integer = tt };
            tree = record { valid = (p.3.tree.valid, p.3.tree'.valid); nested = omega (arith, p.3.tree.nested, p.3.tree'.nested) };
          },
        )
    formed_read Sub allowed u =
        let p = both_read ratios ratios s begun rest u in (
          p.0,
          node.Sub p.1 p.2,
          record {
            lexemes = braced (expression_lexemes s.names (tree_of p.0.terms p.1)) ++ braced (expression_lexemes s.names (tree_of p.0.terms p.2));
            reads = p.3.reads;
            spelt = refl;
            storable = record { children = (p.3.stored, p.3.stored'); integer = tt };
            tree = record { valid = (p.3.tree.valid, p.3.tree'.valid); nested = omega (arith, p.3.tree.nested, p.3.tree'.nested) };
          },
        )
    formed_read Mult allowed u =
        let p = both_read ratios ratios s begun rest u in (
          p.0,
          node.Mul p.1 p.2,
          record {
            lexemes = braced (expression_lexemes s.names (tree_of p.0.terms p.1)) ++ braced (expression_lexemes s.names (tree_of p.0.terms p.2));
            reads = p.3.reads;
            spelt = refl;
            storable = record { children = (p.3.stored, p.3.stored'); integer = tt };
            tree = record { valid = (p.3.tree.valid, p.3.tree'.valid); nested = omega (arith, p.3.tree.nested, p.3.tree'.nested) };
          },
        )
    formed_read Div allowed u =
        let p = both_read ratios false s begun rest u in (
          p.0,
          node.Div p.1 p.2,
          record {
            lexemes = braced (expression_lexemes s.names (tree_of p.0.terms p.1)) ++ braced (expression_lexemes s.names (tree_of p.0.terms p.2));
            reads = p.3.reads;
            spelt = refl;
            storable = record { children = (p.3.stored, p.3.stored'); integer = tt };
            tree = record { valid = (p.3.tree.valid, p.3.tree'.valid); nested = omega (arith, p.3.tree.nested, p.3.tree'.nested) };
          },
        )

-- where `sratio` is not refused, ratios may stand
ratio_allowed : (form : ExpressionWord) (ratios : Bool) (word : List ℕ) → expression_text form ≡ word → is_text word (codes "sratio") && not ratios ≡ false
    → form ≡ Ratio → IsTrue ratios
ratio_allowed form true word text h same = refl
ratio_allowed form false word text h same =
    let is : word ≡ codes "sratio" = sym text ∙ ap expression_text same in
    absurd (true≢false (ap (λ b. b && true) (sym (ap (λ w. is_text w (codes "sratio")) is ∙ is_text_self (codes "sratio"))) ∙ h))

-- NODES

module _ (level : ℕ) (shallow : level ≤ 128) (part_read : PartRead (level + 1)) (ratios : Bool) (s : Reader) (begun : List Name) (rest : List Slot)
    (u : Unrefused s begun (expression_slot level ratios ∷ rest)) where
  -- a number
  number_node : (z : ℤ) → next_lexeme s.cursor.tokens ≡ Some (number_lexeme z) → ReadsNode level ratios s (advanced s) (node.Int z)
  number_node z is =
      let small = next_may_stand s begun (expression_slot level ratios ∷ rest) u (number_lexeme z) is in record {
        reads = Reads-token (expression_slot level ratios ∷ []) s (number_lexeme z) is (λ begun' more. refl);
        storable = record { children = tt; integer = small };
        tree = record { valid = small; nested = omega arith };
        room = omega (arith, length-tail s.cursor.tokens (number_lexeme z) is);
      }

  module _ (word : List ℕ) (is : next_lexeme s.cursor.tokens ≡ Some (word_lexeme word)) where
    never : (n : ℕ) → begin_expression (reading s.names begun s.points) level ratios word rest ≡ refused n → ⊥
    never = never_refused s begun (expression_slot level ratios ∷ rest) u (word_lexeme word) is

    -- the name of a parameter
    name_node : due_behind word (expressions level ratios) ≡ None → (t : Reader) × (n : Node) × ReadsNode level ratios s t n
    name_node none =
        let named = numbered_word s.names begun s.points Param word rest
        (λ n e. never n (begin_expression-name (reading s.names begun s.points) level ratios word rest none ∙ e)) in
        let read = ReadsName-word s Param word is named.0 named.1 in
        (advanced s, node.Param (record { 0 = named.0 }), ReadsNode-parameter s level ratios word is none (advanced s) named.0 shallow read)

    -- an expression that begins with this word
    form_node : (form : ExpressionWord) → expression_text form ≡ word → Some (expression_due level ratios form) ≡ due_behind word (expressions level ratios)
        → (t : Reader) × (n : Node) × ReadsNode level ratios s t n
    form_node form text due = by (is_text word (codes "sratio") && not ratios) refl
      where
        by : (b : Bool) → is_text word (codes "sratio") && not ratios ≡ b → (t : Reader) × (n : Node) × ReadsNode level ratios s t n
        by true h =
            absurd (never 8 (ap (λ b. if b then refused 8
            else elim (due_behind word (expressions level ratios)) [
              | Some slots ↦ taken (reading s.names begun s.points) (slots ++ rest)
              | None ↦ use_name (reading s.names begun s.points) Param word rest
            ]) h))
        by false h =
            let allowed = ratio_allowed form ratios word text h in
            let behind = Unrefused-behind s begun (expression_slot level ratios ∷ rest) u (word_lexeme word) is begun (expression_due level ratios form ++ rest)
            (begin_expression-form (reading s.names begun s.points) level ratios form word rest allowed text due) in
            let k = formed_read level shallow part_read ratios (advanced s) begun rest form allowed behind in
            (k.0, k.1, ReadsNode-form s level ratios word is form allowed text due k.0 k.1 k.2)

    word_node : (t : Reader) × (n : Node) × ReadsNode level ratios s t n
    word_node = by (found word_table word) refl
      where
        due : option_map (expression_due level ratios) (found word_table word) ≡ due_behind word (expressions level ratios)
        due = due_behind-dues (expression_due level ratios) word_table word

        by : (o : Option ExpressionWord) → found word_table word ≡ o → (t : Reader) × (n : Node) × ReadsNode level ratios s t n
        by None e = name_node (sym due ∙ ap (option_map (expression_due level ratios)) e)
        by (Some form) e =
            form_node form (at_some (found word_table word) form (λ w. expression_text w ≡ word) e (text_found expression_text word_table word refl))
            (sym (ap (option_map (expression_due level ratios)) e) ∙ due)

  node_read : (t : Reader) × (n : Node) × ReadsNode level ratios s t n
  node_read = let there = next_there s begun (expression_slot level ratios ∷ rest) u 4 refl in by there.0 there.1
    where
      by : (l : Lexeme) → next_lexeme s.cursor.tokens ≡ Some l → (t : Reader) × (n : Node) × ReadsNode level ratios s t n
      by (word_lexeme word) is = word_node word is
      by (number_lexeme z) is = (advanced s, node.Int z, number_node z is)
      by open_brace is = absurd (never_refused s begun (expression_slot level ratios ∷ rest) u open_brace is 4 refl)
      by close_brace is = absurd (never_refused s begun (expression_slot level ratios ∷ rest) u close_brace is 4 refl)

-- EXPRESSIONS

-- a store with one node more
Extends-push : (nodes : Store) (n : Node) → Extends nodes (nodes ++ n ∷ [])
Extends-push nodes n = record {
  longer = omega (arith, length_push nodes n);
  others = λ id within. tree_of-append nodes (n ∷ []) id within;
}

-- the node is put behind the others
ReadsExpression-node : (level : ℕ) (ratios : Bool) (s t : Reader) (n : Node) → ReadsNode level ratios s t n
    → ReadsExpression level ratios s (record t { terms = t.terms ++ n ∷ [] }) (record { 0 = length t.terms })
ReadsExpression-node level ratios s t n h =
    let id : TermId = record { 0 = length t.terms } in
    let new : Reader = record t { terms = t.terms ++ n ∷ [] } in
    let unfolds = tree_of-push t.terms n id refl in
    let P : Tree → Type 0 = λ e. Reads (expression_slot level ratios ∷ []) s new (expression_lexemes s.names e) in
    let more = length_push t.terms n in record {
      reads = subst P (sym unfolds) (record {
        passes = record { spelt = h.reads.passes.spelt; stop = h.reads.passes.stop };
        names = h.reads.names;
        points = h.reads.points;
        terms = Extends-then s.terms t.terms (t.terms ++ n ∷ []) h.reads.terms (Extends-push t.terms n);
        room = omega (arith, h.room, more);
        follows = h.reads.follows;
      });
      stored = omega (arith, more);
      tree = subst (IsTree level ratios s) (sym unfolds) h.tree;
    }

expression_within : (level : ℕ) → level ≤ 128 → PartRead (level + 1) → (ratios : Bool) (s : Reader) (begun : List Name) (rest : List Slot)
    → Unrefused s begun (expression_slot level ratios ∷ rest)
    → (t : Reader) × (e : TermId) × ReadsExpression level ratios s t e
expression_within level shallow part_read ratios s begun rest u =
    let n = node_read level shallow part_read ratios s begun rest u in
    (record n.0 { terms = n.0.terms ++ n.1 ∷ [] }, record { 0 = length n.0.terms }, ReadsExpression-node level ratios s n.0 n.1 n.2)

part_within : (level : ℕ) → PartRead (level + 1) → PartRead level
part_within level deeper ratios s begun rest u =
    let o = open_read level s begun (expression_slot level ratios ∷ close_slot ∷ rest) u in
    let v = Unrefused-then (open_slot level ∷ []) s o.0 _ begun (expression_slot level ratios ∷ close_slot ∷ rest) o.2 u in
    let e = expression_within level o.1 deeper ratios o.0 begun (close_slot ∷ rest) v in
    let w = Unrefused-then (expression_slot level ratios ∷ []) o.0 e.0 _ begun (close_slot ∷ rest) e.2.reads v in
    let c = close_read e.0 begun rest w in
    (c.0, e.1, ReadsPart-made level ratios s o.0 e.0 c.0 e.1 o.2 e.2 c.1)

-- no brace is of a level past 128
part_too_deep : (level : ℕ) → 128 < level → PartRead level
part_too_deep level deep ratios s begun rest u =
    let o = open_read level s begun (expression_slot level ratios ∷ close_slot ∷ rest) u in absurd (omega (arith, o.1))

pub part_read : (n level : ℕ) → 128 ≤ level + n → PartRead level
part_read zero level few = part_within level (part_too_deep (level + 1) (omega arith))
part_read (suc n) level few = part_within level (part_read n (level + 1) (omega arith))

-- the number of a step
pub number_read : (s : Reader) (begun : List Name) (rest : List Slot) → Unrefused s begun (expression_slot 0 false ∷ rest)
    → (t : Reader) × (e : TermId) × ReadsExpression 0 false s t e
number_read s begun rest u = expression_within 0 (omega arith) (part_read 128 1 (omega arith)) false s begun rest u
