-- The lines of a program, and the texts of its conditions and goals, have no line feed.
use Rattle.std.proofs.Common.{◌≡◌, ℕ, true, false, List, [], ◌∷◌, ◌++◌, map, unsigned_abs, refl, sym, ◌∙◌, ap, subst, arith}
use Rattle.std.specs.Prelude.{codes}
use Rattle.std.specs.Fmt.{signed_decimal}
use Rattle.std.specs.List.{AllByRecursion, flat_map}
use Rattle.std.proofs.lemmas.List.Elements.{recursion_from_All}
use Rattle.geo_lexer.specs.Bytes.{is_word_byte}
use Rattle.geo_lexer.specs.Lexemes.{Lexeme, MayStand, close_brace, number_lexeme, open_brace, word_lexeme}
use Rattle.geo_lexer.proofs.Meanings.{lexemes_may_stand}
use Rattle.geo_program.specs.CanonicalText.{argument_lexemes, lexeme_text, line_lexemes, line_text, no_sketches}
use Rattle.geo_program.specs.declared.statements.Statement.{Statement}
use Rattle.geo_program.specs.Expressions.{braced, expression_lexemes}
use Rattle.geo_program.specs.Forms.{line_argument, point_argument, statement_form}
use Rattle.geo_program.specs.WellFormed.{IsWellFormed, Scope, Source, empty_scope, scope_of}
use Rattle.geo_program.proofs.LinesSpelt.{canonical_text_spelt}
use Rattle.geo_program.proofs.Standing.{IsWord-tested, MayAllStand, MayAllStand-append, arguments_stand, expression_stands, statement_word}
use Rattle.geo_lowering.specs.Conditions.{Condition, crossing, different, nonzero, not_collinear, not_parallel}
use Rattle.geo_lowering.specs.Counting.{points_from}
use Rattle.geo_lowering.proofs.ConditionValues.{each_back, each_front}
use Rattle.geo_lowering.proofs.Exists.{lines_past, params_past}
use Rattle.geo_lowering.proofs.Laying.{named_program}
use Rattle.geo_conditions.specs.Lists.{all_found, condition_form}
use Rattle.geo_conditions.proofs.Agreement.{IsConditionOver}
use Rattle.geo_conditions.proofs.ConditionScopes.{program_over, scope_past}
use Rattle.geo_conditions.proofs.ItemScopes.{goals_printable}
use Rattle.geo_conditions.proofs.Listings.{listed_hold}
use Rattle.geo_conditions.specs.Inner.ItemForms.{IsPrintableGoal}
use Rattle.proof_log.specs.Inner.Reading.{Passes, is_number_byte}
use Rattle.proof_log.specs.Writable.{HasNoLineFeed}
use Rattle.proof_log.proofs.Runs.{integer_passes, wide}
use Rattle.geo_logs.specs.Logs.{Item, Subject}
use Rattle.log_checker.specs.Subjects.{IsSubjectOf, SourceLinesHaveNoLineFeed, source_lines}
use Rattle.log_checker.proofs.Places.{At, each_at, of_map}
use Rattle.log_checker.proofs.Ready.{log_condition}
use Rattle.log_checker.proofs.Verdicts.{log_goal, parts_of}

-- LEXEMES
joined : (xs ys : List ℕ) → HasNoLineFeed xs → HasNoLineFeed ys → HasNoLineFeed (xs ++ ys)
joined [] ys h k = k
joined (x ∷ xs) ys h k = (h.0, joined xs ys h.1 k)

-- bytes of words
word_bytes : (bs : List ℕ) → AllByRecursion (λ b. is_word_byte b ≡ true) bs → HasNoLineFeed bs
word_bytes [] h = tt
word_bytes (b ∷ bs) h = ((λ e. let t : is_word_byte 10 ≡ true = ap is_word_byte (sym e) ∙ h.0 in let f : false ≡ true = t in cc), word_bytes bs h.1)

-- digits and `-`
number_bytes : (bs : List ℕ) → Passes is_number_byte bs → HasNoLineFeed bs
number_bytes [] h = tt
number_bytes (b ∷ bs) h = ((λ e. let t : is_number_byte 10 ≡ true = ap is_number_byte (sym e) ∙ h.0 in let f : false ≡ true = t in cc), number_bytes bs h.1)

lexeme_one_line : (lexeme : Lexeme) → MayStand lexeme → HasNoLineFeed (lexeme_text lexeme)
lexeme_one_line (word_lexeme text) h = word_bytes text (recursion_from_All (λ (b : ℕ). is_word_byte b ≡ true) text h.all)
lexeme_one_line (number_lexeme n) h = number_bytes (signed_decimal n) (integer_passes n (wide (unsigned_abs n) h))
lexeme_one_line open_brace h = ((λ e. let f : ◌≡◌ {A = ℕ} 123 10 = e in omega (arith, f)), tt)
lexeme_one_line close_brace h = ((λ e. let f : ◌≡◌ {A = ℕ} 125 10 = e in omega (arith, f)), tt)

-- lexemes on a line
pub line_one_line : (lexemes : List Lexeme) → MayAllStand lexemes → HasNoLineFeed (line_text lexemes)
line_one_line [] h = tt
line_one_line (x ∷ []) h = lexeme_one_line x h.0
line_one_line (x ∷ y ∷ xs) h =
    joined (lexeme_text x) (32 ∷ line_text (y ∷ xs)) (lexeme_one_line x h.0) ((λ e. let f : ◌≡◌ {A = ℕ} 32 10 = e in omega (arith, f)), line_one_line (y ∷ xs) h.1)

-- PROGRAMS
all_one_line : (lines : List (List Lexeme)) → MayAllStand (flat_map (λ line. line) lines) → AllByRecursion HasNoLineFeed (map line_text lines)
all_one_line [] h = tt
all_one_line (l ∷ ls) h = (line_one_line l (each_front MayStand l (flat_map (λ line. line) ls) h), all_one_line ls (each_back MayStand l (flat_map (λ line. line) ls) h))

pub program_one_line : SourceLinesHaveNoLineFeed
program_one_line p w =
    let lines = line_lexemes (no_sketches p.commands) p in
    let spelt = canonical_text_spelt p w in
    all_one_line lines (recursion_from_All MayStand (flat_map (λ line. line) lines) (lexemes_may_stand _ (flat_map (λ line. line) lines) spelt.has))

-- ITEMS
module _ (p : Source) (w : IsWellFormed p) where
  abbrev S : Scope
  S = scope_of empty_scope p.names

  abbrev lexemes : Condition → List Lexeme
  lexemes c = word_lexeme (condition_form c).word ∷ flat_map (argument_lexemes p.names) (condition_form c).arguments

  condition_stands : (c : Condition) → IsConditionOver S.points S.params S.lines c → MayAllStand (lexemes c)
  condition_stands (different a b) o = (IsWord-tested (codes "different") refl, arguments_stand p.names w.names (point_argument a ∷ point_argument b ∷ []) (o.0, (o.1, tt)))
  condition_stands (not_collinear a b c) o =
      (IsWord-tested (codes "not_collinear") refl, arguments_stand p.names w.names (point_argument a ∷ point_argument b ∷ point_argument c ∷ []) (o.0, (o.1, (o.2, tt))))
  condition_stands (not_parallel a b c d) o =
      (IsWord-tested (codes "not_parallel") refl, arguments_stand p.names w.names (point_argument a ∷ point_argument b ∷ point_argument c ∷ point_argument d ∷ []) (o.0, (o.1, (o.2, (o.3, tt)))))
  condition_stands (crossing a b) o = (IsWord-tested (codes "crossing") refl, arguments_stand p.names w.names (line_argument a ∷ line_argument b ∷ []) (o.0, (o.1, tt)))
  condition_stands (nonzero e) o =
      let inner = expression_lexemes p.names e in
      let braces : MayAllStand (braced inner) = (tt, MayAllStand-append inner (close_brace ∷ []) (expression_stands p.names w.names false e o) (tt, tt)) in
      (IsWord-tested (codes "nonzero") refl, MayAllStand-append (braced inner) [] braces tt)

  module _ (subject : Subject) (s : IsSubjectOf p subject) where
    pub condition_texts : (i : ℕ) (item : Item) → At subject.conditions i item → HasNoLineFeed item.text
    condition_texts i item at =
        let parts = parts_of p subject s in
        let X = points_from 0 p.commands in let Y = params_past 0 p.commands in let J = lines_past 0 p.commands in
        let f = of_map (log_condition parts.version p) parts.found i item (subst (λ items. At items i item) parts.conditions at) in
        let over = listed_hold (λ g. g.condition) (IsConditionOver X Y J) (all_found p) [] parts.found parts.listed tt (program_over p w (named_program p w)) in
        let here : IsConditionOver X Y J f.0.condition = each_at (λ g. IsConditionOver X Y J g.condition) parts.found i f.0 over f.1 in
        let named : IsConditionOver S.points S.params S.lines f.0.condition =
        subst (λ (t : Scope). IsConditionOver t.points t.params t.lines f.0.condition) (sym (scope_past p.nodes p.names p.commands 0 0 0 w.commands)) here in
        subst (λ (t : Item). HasNoLineFeed t.text) (sym f.2) (line_one_line (lexemes f.0.condition) (condition_stands f.0.condition named))

    pub goal_texts : (i : ℕ) (item : Item) → At subject.goals i item → HasNoLineFeed item.text
    goal_texts i item at =
        let parts = parts_of p subject s in
        let g = of_map (log_goal parts.version p) parts.goals i item (subst (λ items. At items i item) parts.same_goals at) in
        let printable = each_at (λ (h : Statement). IsPrintableGoal p.names p.nodes h) parts.goals i g.0 (goals_printable p w parts.goals parts.listed_goals) g.1 in
        let form = statement_form p.nodes g.0 in
        subst (λ (t : Item). HasNoLineFeed t.text) (sym g.2)
        (line_one_line (word_lexeme form.word ∷ flat_map (argument_lexemes p.names) form.arguments)
        (IsWord-tested form.word (statement_word p.nodes g.0), arguments_stand p.names w.names form.arguments printable.arguments))

    -- the lines of the program
    pub program_texts : (i : ℕ) (text : List ℕ) → At subject.program i text → HasNoLineFeed text
    program_texts i text at = each_at HasNoLineFeed (source_lines p) i text (program_one_line p w) (subst (λ ts. At ts i text) s.same_program at)
