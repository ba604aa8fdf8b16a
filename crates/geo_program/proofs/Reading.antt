-- Expressions and arguments are read in one way: what follows them does not matter.
use Rattle.std.proofs.Common.{◌≡◌, ℕ, suc, ◌<◌, Bool, true, false, List, [], ◌∷◌, ◌++◌, length, eqb, ◌&&◌, if◌then◌else◌, refl, sym, ap, ap₂, ◌∙◌, arith, append_assoc, eq-eqb}
use Rattle.std.specs.Prelude.{All, Contains, codes}
use Rattle.std.proofs.lemmas.Bool.{eqb-true, false≢true}
use Rattle.std.proofs.lemmas.List.Elements.{All-get_or, Contains-append_left, Contains-append_right}
use Rattle.geo_lexer.specs.Lexemes.{Lexeme, word_lexeme, number_lexeme, open_brace, close_brace}
use Rattle.geo_points.specs.declared.ids.ParamId.{ParamId}
use Rattle.geo_points.specs.declared.ids.PointId.{PointId}
use Rattle.geo_program.specs.declared.commands.LineId.{LineId}
use Rattle.geo_program.specs.declared.names.Name.{Name}
use Rattle.geo_program.specs.declared.names.NameKind.TheVariants.{Point, Param}
use Rattle.geo_program.specs.Expressions.{IsExpression, braced, expression_lexemes, point_lexeme, quantity_lexemes}
use Rattle.geo_program.specs.Names.{name_text, names_of}
use Rattle.geo_program.specs.WellFormed.{AllDiffer}
use Rattle.geo_program.specs.Words.{IsNameText, command_words, expression_words, reserved_words, statement_words}
use Rattle.geo_program.proofs.OnceNamed.{same_number}
use Rattle.geo_program.proofs.Standing.{All-names_of}
use Rattle.geo_program.proofs.WordPlaces.{both, place_of, same_text}
use Rattle.geo_terms.specs.Trees.{Tree, integer_leaf, parameter_leaf, area_leaf, pythagoras_leaf, ratio_leaf, negation, addition, subtraction, multiplication, division}

-- WORDS IN A TABLE

same_text-true : (x y : List ℕ) → same_text x y ≡ true → x ≡ y
same_text-true [] [] h = refl
same_text-true (x ∷ xs) (y ∷ ys) h =
    let parts = both (eqb x y) (same_text xs ys) h in
    ap₂ (λ b bs. b ∷ bs) (eqb-true x y parts.0) (same_text-true xs ys parts.1)
same_text-true _ _ h = absurd (cc)

-- a word that the table does not have
pub place_of-absent : (word : List ℕ) (words : List (List ℕ)) → (Contains words word → ⊥) → place_of word words ≡ length words
place_of-absent word [] absent = refl
place_of-absent word (w ∷ words) absent =
    by_test (same_text word w) refl (place_of-absent word words (λ found. absent (Contains-append_right (w ∷ []) words word found)))
  where
    by_test : (b : Bool) → same_text word w ≡ b → place_of word words ≡ length words → place_of word (w ∷ words) ≡ length (w ∷ words)
    by_test true e rest = absurd (absent (0, omega arith, sym (same_text-true word w e)))
    by_test false e rest = rw e (ap suc rest)

-- THE FIRST LEXEME OF AN EXPRESSION

-- the place of the lexeme's word among those that begin an expression; 9 is for numbers, and 10 for the rest
abbrev pub head_of : Lexeme → ℕ
head_of (word_lexeme text) = place_of text expression_words
head_of (number_lexeme n) = 9
head_of _ = 10

abbrev pub first_head : List Lexeme → ℕ
first_head [] = 10
first_head (lexeme ∷ lexemes) = head_of lexeme

-- the form of an expression, by the place of its word; 8 is a parameter
abbrev pub form_of : Tree → ℕ
form_of (area_leaf a b c) = 0
form_of (pythagoras_leaf a b c) = 1
form_of (ratio_leaf a b c d) = 2
form_of (negation e) = 3
form_of (addition e f) = 4
form_of (subtraction e f) = 5
form_of (multiplication e f) = 6
form_of (division e f) = 7
form_of (parameter_leaf t) = 8
form_of (integer_leaf n) = 9

-- what was read is the same, and so is what follows
pub record ReadsAlike {A : Type 0} (x y : A) (xs ys : List Lexeme) : Type 0 where
  pub same : x ≡ y
  pub rest : xs ≡ ys

point_same : (a b : PointId) → a.0 ≡ b.0 → a ≡ b
point_same a b h = ap (λ k. record { 0 = k }) h

param_same : (a b : ParamId) → a.0 ≡ b.0 → a ≡ b
param_same a b h = ap (λ k. record { 0 = k }) h

pub line_same : (a b : LineId) → a.0 ≡ b.0 → a ≡ b
line_same a b h = ap (λ k. record { 0 = k }) h

-- a word that begins an expression is reserved
reserved_expression_word : (word : List ℕ) → Contains expression_words word → Contains reserved_words word
reserved_expression_word word found =
    Contains-append_left (command_words ++ statement_words ++ expression_words) (codes "prove" ∷ []) word
    (Contains-append_right (command_words ++ statement_words) expression_words word found)

-- a part between braces is read in one way, where the part is
pub braced_read : {A : Type 0} (spell : A → List Lexeme) (x y : A) (r s : List Lexeme)
    → (spell x ++ (close_brace ∷ r) ≡ spell y ++ (close_brace ∷ s) → ReadsAlike x y (close_brace ∷ r) (close_brace ∷ s))
    → braced (spell x) ++ r ≡ braced (spell y) ++ s → ReadsAlike x y r s
braced_read spell x y r s read h =
    let whole : open_brace ∷ (spell x ++ (close_brace ∷ r)) ≡ open_brace ∷ (spell y ++ (close_brace ∷ s)) =
    ap (λ l. open_brace ∷ l) (sym (append_assoc (spell x) (close_brace ∷ []) r)) ∙ h ∙ ap (λ l. open_brace ∷ l) (append_assoc (spell y) (close_brace ∷ []) s) in
    let inner : spell x ++ (close_brace ∷ r) ≡ spell y ++ (close_brace ∷ s) = cc in
    let one = read inner in
    let after : close_brace ∷ r ≡ close_brace ∷ s = one.rest in
    let rest : r ≡ s = cc in
    record { same = one.same; rest = rest }

-- a word, a part between braces and another
two_read : (spell : Tree → List Lexeme) (word : List ℕ) (make : Tree → Tree → Tree) (e g f k : Tree) (r s : List Lexeme)
    → ((t u : List Lexeme) → spell e ++ t ≡ spell f ++ u → ReadsAlike e f t u)
    → ((t u : List Lexeme) → spell g ++ t ≡ spell k ++ u → ReadsAlike g k t u)
    → (word_lexeme word ∷ braced (spell e) ++ braced (spell g)) ++ r ≡ (word_lexeme word ∷ braced (spell f) ++ braced (spell k)) ++ s
    → ReadsAlike (make e g) (make f k) r s
two_read spell word make e g f k r s read_first read_second h =
    let tail : (braced (spell e) ++ braced (spell g)) ++ r ≡ (braced (spell f) ++ braced (spell k)) ++ s = cc in
    let regrouped : braced (spell e) ++ (braced (spell g) ++ r) ≡ braced (spell f) ++ (braced (spell k) ++ s) =
    sym (append_assoc (braced (spell e)) (braced (spell g)) r) ∙ tail ∙ append_assoc (braced (spell f)) (braced (spell k)) s in
    let one = braced_read spell e f (braced (spell g) ++ r) (braced (spell k) ++ s) (read_first (close_brace ∷ (braced (spell g) ++ r)) (close_brace ∷ (braced (spell k) ++ s))) regrouped in
    let two = braced_read spell g k r s (read_second (close_brace ∷ r) (close_brace ∷ s)) one.rest in
    record { same = ap₂ make one.same two.same; rest = two.rest }

module _ (names : List Name) (valid : All (λ n. IsNameText n.text) names) (differ : AllDiffer names) where
  -- a point's name tells the point
  pub point_read : (a b : PointId) → a.0 < length (names_of Point names) → b.0 < length (names_of Point names) → point_lexeme names a ≡ point_lexeme names b → a ≡ b
  point_read a b ha hb same =
      let texts : name_text Point names a.0 ≡ name_text Point names b.0 = cc in
      point_same a b (same_number Point names a.0 b.0 differ ha hb texts)

  -- a word and three points
  three_read : (word : List ℕ) (make : PointId → PointId → PointId → Tree) (a b c x y z : PointId) (r s : List Lexeme)
      → (a.0 < length (names_of Point names)) × (b.0 < length (names_of Point names)) × (c.0 < length (names_of Point names))
      → (x.0 < length (names_of Point names)) × (y.0 < length (names_of Point names)) × (z.0 < length (names_of Point names))
      → quantity_lexemes names word (a ∷ b ∷ c ∷ []) ++ r ≡ quantity_lexemes names word (x ∷ y ∷ z ∷ []) ++ s → ReadsAlike (make a b c) (make x y z) r s
  three_read word make a b c x y z r s ha hx h =
      let one : point_lexeme names a ≡ point_lexeme names x = cc in
      let two : point_lexeme names b ≡ point_lexeme names y = cc in
      let three : point_lexeme names c ≡ point_lexeme names z = cc in
      let rest : r ≡ s = cc in
      let pa = point_read a x ha.0 hx.0 one in
      let pb = point_read b y ha.1 hx.1 two in
      let pc = point_read c z ha.2 hx.2 three in
      record { same = ap₂ (λ p q. make p q c) pa pb ∙ ap (make x y) pc; rest = rest }

  -- the first lexeme tells the form
  expression_head : (ratios : Bool) (e : Tree) (rest : List Lexeme)
      → IsExpression (length (names_of Point names)) (length (names_of Param names)) ratios e
      → first_head (expression_lexemes names e ++ rest) ≡ form_of e
  expression_head ratios (integer_leaf n) rest h = refl
  expression_head ratios (parameter_leaf t) rest h = place_of-absent (name_text Param names t.0) expression_words (λ found. free found)
    where
      free : Contains expression_words (name_text Param names t.0) → ⊥
      free found = (All-get_or IsNameText (names_of Param names) t.0 [] h (All-names_of IsNameText Param names valid)).free (reserved_expression_word (name_text Param names t.0) found)
  expression_head ratios (area_leaf a b c) rest h = refl
  expression_head ratios (pythagoras_leaf a b c) rest h = refl
  expression_head ratios (ratio_leaf a b c d) rest h = refl
  expression_head ratios (negation e) rest h = refl
  expression_head ratios (addition e f) rest h = refl
  expression_head ratios (subtraction e f) rest h = refl
  expression_head ratios (multiplication e f) rest h = refl
  expression_head ratios (division e f) rest h = refl

  same_form : (ratios : Bool) (e f : Tree) (r s : List Lexeme)
      → IsExpression (length (names_of Point names)) (length (names_of Param names)) ratios e
      → IsExpression (length (names_of Point names)) (length (names_of Param names)) ratios f
      → expression_lexemes names e ++ r ≡ expression_lexemes names f ++ s → eqb (form_of e) (form_of f) ≡ true
  same_form ratios e f r s he hf h =
      eq-eqb (form_of e) (form_of f) (sym (expression_head ratios e r he) ∙ ap first_head h ∙ expression_head ratios f s hf)

  -- an expression is read in one way
  pub expression_read : (ratios : Bool) (e f : Tree) (r s : List Lexeme)
      → IsExpression (length (names_of Point names)) (length (names_of Param names)) ratios e
      → IsExpression (length (names_of Point names)) (length (names_of Param names)) ratios f
      → expression_lexemes names e ++ r ≡ expression_lexemes names f ++ s → ReadsAlike e f r s
  expression_read ratios (integer_leaf m) (integer_leaf n) r s he hf h =
      let same : m ≡ n = cc in
      let rest : r ≡ s = cc in
      record { same = ap integer_leaf same; rest = rest }
  expression_read ratios (parameter_leaf t) (parameter_leaf u) r s he hf h =
      let texts : name_text Param names t.0 ≡ name_text Param names u.0 = cc in
      let rest : r ≡ s = cc in
      record { same = ap parameter_leaf (param_same t u (same_number Param names t.0 u.0 differ he hf texts)); rest = rest }
  expression_read ratios (area_leaf a b c) (area_leaf x y z) r s he hf h = three_read (codes "signed_area3") area_leaf a b c x y z r s he hf h
  expression_read ratios (pythagoras_leaf a b c) (pythagoras_leaf x y z) r s he hf h = three_read (codes "pythagoras_difference3") pythagoras_leaf a b c x y z r s he hf h
  expression_read ratios (ratio_leaf a b c d) (ratio_leaf x y z w) r s he hf h =
      let tail : point_lexeme names d ∷ r ≡ point_lexeme names w ∷ s = cc in
      let first : quantity_lexemes names (codes "sratio") (a ∷ b ∷ c ∷ []) ++ (point_lexeme names d ∷ r) ≡ quantity_lexemes names (codes "sratio") (x ∷ y ∷ z ∷ []) ++ (point_lexeme names w ∷ s) = h in
      let three = three_read (codes "sratio") (λ p q t. ratio_leaf p q t d) a b c x y z (point_lexeme names d ∷ r) (point_lexeme names w ∷ s) (he.1, he.2, he.3) (hf.1, hf.2, hf.3) first in
      let last : point_lexeme names d ≡ point_lexeme names w = cc in
      let rest : r ≡ s = cc in
      record { same = three.same ∙ ap (λ p. ratio_leaf x y z p) (point_read d w he.4 hf.4 last); rest = rest }
  expression_read ratios (negation e) (negation f) r s he hf h =
      let tail : braced (expression_lexemes names e) ++ r ≡ braced (expression_lexemes names f) ++ s = cc in
      let one = braced_read (expression_lexemes names) e f r s (expression_read ratios e f (close_brace ∷ r) (close_brace ∷ s) he hf) tail in
      record { same = ap negation one.same; rest = one.rest }
  expression_read ratios (addition e g) (addition f k) r s he hf h =
      two_read (expression_lexemes names) (codes "sum") addition e g f k r s
      (λ t u. expression_read ratios e f t u he.0 hf.0) (λ t u. expression_read ratios g k t u he.1 hf.1) h
  expression_read ratios (subtraction e g) (subtraction f k) r s he hf h =
      two_read (expression_lexemes names) (codes "sub") subtraction e g f k r s
      (λ t u. expression_read ratios e f t u he.0 hf.0) (λ t u. expression_read ratios g k t u he.1 hf.1) h
  expression_read ratios (multiplication e g) (multiplication f k) r s he hf h =
      two_read (expression_lexemes names) (codes "mult") multiplication e g f k r s
      (λ t u. expression_read ratios e f t u he.0 hf.0) (λ t u. expression_read ratios g k t u he.1 hf.1) h
  expression_read ratios (division e g) (division f k) r s he hf h =
      two_read (expression_lexemes names) (codes "div") division e g f k r s
      (λ t u. expression_read ratios e f t u he.0 hf.0) (λ t u. expression_read false g k t u he.1 hf.1) h
  expression_read ratios e f r s he hf h = absurd (false≢true (same_form ratios e f r s he hf h))
