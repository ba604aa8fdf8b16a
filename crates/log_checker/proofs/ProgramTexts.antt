-- Texts of programs: with their lines, and of none.
use Rattle.std.proofs.Common.{◌≡◌, ◌≢◌, true≢false, ℕ, ◌+◌, ◌≤◌, ◌⊎◌, Bool, true, false, List, [], ◌∷◌, ◌++◌}
use Rattle.std.proofs.Common.{map, length, append_assoc, refl, sym, ◌∙◌, ap, subst, inl, inr, arith}
use Rattle.std.specs.List.{AllByRecursion}
use Rattle.std.specs.Str.{bytes_eq}
use Rattle.std.proofs.lemmas.List.{length-append}
use Rattle.std.proofs.lemmas.List.Folds.{flat_map-map}
use Rattle.std.proofs.lemmas.Slice.Eq.{bytes_eq-Decides}
use Rattle.geo_lexer.specs.declared.token_types.Fault.{Fault}
use Rattle.geo_parser.specs.Refusals.{IsRefused}
use Rattle.geo_parser.proofs.SpeltTexts.{spelt_not_refused}
use Rattle.geo_parser.proofs.UnrefusedPrograms.{texts_spell_or_are_refused}
use Rattle.geo_program.specs.CanonicalText.{canonical_text, line_lexemes, line_text as lexemes_text, no_sketches}
use Rattle.geo_program.specs.Spelling.{SpellsSource}
use Rattle.geo_program.specs.WellFormed.{IsWellFormed, Source}
use Rattle.geo_program.proofs.LinesSpelt.{well_formed_is_spelt}
use Rattle.geo_program.proofs.OneProgram.{spells_one}
use Rattle.geo_program.proofs.OneText.{same_text}
use Rattle.proof_log.specs.declared.log.Line.TheVariants.{Program as ProgramLine}
use Rattle.proof_log.specs.Lines.{line_text, log_text}
use Rattle.proof_log.specs.Writable.{AllWritable, HasNoLineFeed}
use Rattle.log_checker.specs.Checkers.{with_feeds}
use Rattle.log_checker.specs.Subjects.{source_lines}
use Rattle.log_checker.proofs.LineFeeds.{program_one_line}

-- bytes with a fault are the text of no program
pub not_spelt : (bytes : List ℕ) (fault : Fault) → IsRefused bytes fault → (p : Source) → IsWellFormed p → canonical_text p ≢ bytes
not_spelt bytes fault h p w e = spelt_not_refused bytes p fault (subst (λ t. SpellsSource t p) e (well_formed_is_spelt p w)) h

-- bytes that spell a program with another text are the text of none
pub differs : (bytes : List ℕ) (q : Source) → SpellsSource bytes q → canonical_text q ≢ bytes → (p : Source) → IsWellFormed p → canonical_text p ≢ bytes
differs bytes q spelt other p w e =
    let same = spells_one bytes p q (subst (λ t. SpellsSource t p) e (well_formed_is_spelt p w)) spelt in other (sym (same_text p q same) ∙ e)

-- LINES
pub text_of_lines : (p : Source) → with_feeds (source_lines p) ≡ canonical_text p
text_of_lines p = flat_map-map (λ (line : List ℕ). line ++ 10 ∷ []) lexemes_text (line_lexemes (no_sketches p.commands) p)

first_piece : (xs ys r s : List ℕ) → HasNoLineFeed xs → HasNoLineFeed ys → xs ++ (10 ∷ r) ≡ ys ++ (10 ∷ s) → (xs ≡ ys) × (r ≡ s)
first_piece [] [] r s h k e = let tail : r ≡ s = cc in (refl, tail)
first_piece [] (y ∷ ys) r s h k e = let same : y ≡ 10 = cc in absurd (k.0 same)
first_piece (x ∷ xs) [] r s h k e = let same : x ≡ 10 = cc in absurd (h.0 same)
first_piece (x ∷ xs) (y ∷ ys) r s h k e =
    let head : x ≡ y = cc in
    let tail : xs ++ (10 ∷ r) ≡ ys ++ (10 ∷ s) = cc in
    let rest = first_piece xs ys r s h.1 k.1 tail in
    (λ i. head i ∷ rest.0 i, rest.1)

not_empty : (xs r : List ℕ) → [] ≡ (xs ++ 10 ∷ []) ++ r → ⊥
not_empty [] r e = cc
not_empty (x ∷ xs) r e = cc

-- pieces without line feeds are told by their text
pub pieces_told : (xs ys : List (List ℕ)) → AllByRecursion HasNoLineFeed xs → AllByRecursion HasNoLineFeed ys → with_feeds xs ≡ with_feeds ys → xs ≡ ys
pieces_told [] [] h k e = refl
pieces_told [] (y ∷ ys) h k e = absurd (not_empty y (with_feeds ys) e)
pieces_told (x ∷ xs) [] h k e = absurd (not_empty x (with_feeds xs) (sym e))
pieces_told (x ∷ xs) (y ∷ ys) h k e =
    let both = sym (append_assoc x (10 ∷ []) (with_feeds xs)) ∙ e ∙ append_assoc y (10 ∷ []) (with_feeds ys) in
    let parts = first_piece x y (with_feeds xs) (with_feeds ys) h.0 k.0 both in
    let rest = pieces_told xs ys h.1 k.1 parts.1 in
    λ i. parts.0 i ∷ rest i

-- the lines of the program whose text these pieces have
pub lines_of_text : (p : Source) (texts : List (List ℕ)) → IsWellFormed p → AllByRecursion HasNoLineFeed texts → canonical_text p ≡ with_feeds texts → source_lines p ≡ texts
lines_of_text p texts w h e = pieces_told (source_lines p) texts (program_one_line p w) h (text_of_lines p ∙ e)

-- and where it is the text of none, they are the lines of none
pub lines_of_none : (texts : List (List ℕ)) → ((p : Source) → IsWellFormed p → canonical_text p ≢ with_feeds texts) → (p : Source) → IsWellFormed p → source_lines p ≢ texts
lines_of_none texts none p w e = none p w (sym (text_of_lines p) ∙ ap with_feeds e)

-- the texts are the lines of a well-formed program, or of none
abbrev pub IsOfProgramOrNone : List (List ℕ) → Type 0
IsOfProgramOrNone texts =
    ((p : Source) × IsWellFormed p × (source_lines p ≡ texts)) ⊎ ((p : Source) → IsWellFormed p → source_lines p ≢ texts)

-- so it is of all texts without line feeds
pub of_program_or_none : (texts : List (List ℕ)) → AllByRecursion HasNoLineFeed texts → IsOfProgramOrNone texts
of_program_or_none texts one_line = by (texts_spell_or_are_refused (with_feeds texts))
  where
    of : (p : Source) → SpellsSource (with_feeds texts) p → (b : Bool) → bytes_eq (canonical_text p) (with_feeds texts) ≡ b → IsOfProgramOrNone texts
    of p spelt true same = inl (p, spelt.well_formed, lines_of_text p texts spelt.well_formed one_line ((bytes_eq-Decides (canonical_text p) (with_feeds texts)).0 same))
    of p spelt false other =
        inr (lines_of_none texts (differs (with_feeds texts) p spelt (λ e. true≢false (sym ((bytes_eq-Decides (canonical_text p) (with_feeds texts)).1 e) ∙ other))))

    by : ((p : Source) × SpellsSource (with_feeds texts) p) ⊎ ((fault : Fault) × IsRefused (with_feeds texts) fault) → IsOfProgramOrNone texts
    by (inl (p, spelt)) = of p spelt (bytes_eq (canonical_text p) (with_feeds texts)) refl
    by (inr (fault, refused)) = inr (lines_of_none texts (not_spelt (with_feeds texts) fault refused))

-- THE LINES OF THE LOG
pub texts_one_line : (texts : List (List ℕ)) → AllWritable (map ProgramLine texts) → AllByRecursion HasNoLineFeed texts
texts_one_line [] h = tt
texts_one_line (t ∷ texts) h = (h.0, texts_one_line texts h.1)

-- the text of the lines is longer than that of the program
pub texts_shorter : (texts : List (List ℕ)) → length (with_feeds texts) ≤ length (log_text (map ProgramLine texts))
texts_shorter [] = omega arith
texts_shorter (t ∷ texts) =
    let a = length-append (t ++ 10 ∷ []) (with_feeds texts) in
    let b = length-append (line_text (ProgramLine t) ++ 10 ∷ []) (log_text (map ProgramLine texts)) in
    let c = length-append t (10 ∷ []) in
    let d = length-append (line_text (ProgramLine t)) (10 ∷ []) in
    let f : length (line_text (ProgramLine t)) ≡ 2 + length t = omega arith in
    omega (arith, a, b, c, d, f, texts_shorter texts)

pub with_feeds-append : (xs ys : List (List ℕ)) → with_feeds (xs ++ ys) ≡ with_feeds xs ++ with_feeds ys
with_feeds-append [] ys = refl
with_feeds-append (x ∷ xs) ys = ap (λ bs. (x ++ 10 ∷ []) ++ bs) (with_feeds-append xs ys) ∙ sym (append_assoc (x ++ 10 ∷ []) (with_feeds xs) (with_feeds ys))
