-- The last two lines of an accepted text, where they are a sample and a verdict.
use Rattle.std.proofs.Common.{◌≡◌, ℕ, List, [], ◌∷◌, ◌++◌, sym, ◌∙◌, ap, subst}
use Rattle.std.specs.Prelude.{codes}
use Rattle.std.specs.List.{flat_map}
use Rattle.std.proofs.lemmas.Grind.{flat_map-append}
use Rattle.std.proofs.lemmas.List.{append_assoc, append-nil}
use Rattle.geo_program.specs.WellFormed.{Source}
use Rattle.geo_conditions.specs.Truth.{ProgramValues}
use Rattle.proof_log.specs.declared.log.Line.{Line}
use Rattle.proof_log.specs.declared.log.Line.TheVariants.{Header, Sample, Verdict as VerdictLine}
use Rattle.proof_log.specs.declared.log.Verdict.{Verdict}
use Rattle.proof_log.specs.Lines.{line_text, log_text, value_text, verdict_text}
use Rattle.log_checker.specs.Accepted.{Accepts, PrintsValues}
use Rattle.log_checker.specs.Laws.{EndsWithValues}

-- the text of lines ends with a line feed, unless there are none
whole_line : (x : Line) (xs : List Line) → (front : List ℕ) × (log_text (x ∷ xs) ≡ front ++ 10 ∷ [])
whole_line x [] = (line_text x, append_assoc (line_text x) (10 ∷ []) [])
whole_line x (y ∷ ys) =
    let rest = whole_line y ys in (
      (line_text x ++ 10 ∷ []) ++ rest.0,
      ap (λ zs. (line_text x ++ 10 ∷ []) ++ zs) rest.1 ∙ sym (append_assoc (line_text x ++ 10 ∷ []) rest.0 (10 ∷ [])),
    )

-- the lines begin with a header
abbrev HasHeader : List Line → Type 0
HasHeader (Header version ∷ lines) = Unit {0}
HasHeader _ = ⊥

-- the joints of two lines, each in two parts, behind a text that ends with a line feed
joined_pair : (first third fourth : List ℕ)
    → (first ++ 10 ∷ []) ++ (((third ++ fourth) ++ 10 ∷ []) ++ []) ≡ ((first ++ 10 ∷ third) ++ fourth) ++ 10 ∷ []
joined_pair [] third fourth = ap (λ zs. 10 ∷ zs) (append-nil ((third ++ fourth) ++ 10 ∷ []))
joined_pair (c ∷ cs) third fourth = ap (λ zs. c ∷ zs) (joined_pair cs third fourth)

joined : (front first second third fourth : List ℕ)
    → (front ++ 10 ∷ []) ++ (((first ++ second) ++ 10 ∷ []) ++ (((third ++ fourth) ++ 10 ∷ []) ++ []))
    ≡ ((((front ++ 10 ∷ first) ++ second) ++ 10 ∷ third) ++ fourth) ++ 10 ∷ []
joined [] first second third fourth = ap (λ zs. 10 ∷ zs) (joined_pair (first ++ second) third fourth)
joined (c ∷ cs) first second third fourth = ap (λ zs. c ∷ zs) (joined cs first second third fourth)

values_printed : (bytes : List ℕ) (lines : List Line) (verdict : Verdict) (v : ProgramValues) → bytes ≡ log_text lines → HasHeader lines
    → EndsWithValues lines verdict v → PrintsValues bytes verdict v
values_printed bytes lines verdict v is headed ends = from ends.before ends.split where
  from : (before : List Line) → lines ≡ before ++ Sample ends.sample ∷ VerdictLine verdict ∷ [] → PrintsValues bytes verdict v
  from [] e = absurd (subst HasHeader e headed)
  from (x ∷ xs) e =
      let front = whole_line x xs in
      let two = log_text (Sample ends.sample ∷ VerdictLine verdict ∷ []) in
      record {
        before = front.0;
        sample = ends.sample;
        split =
            is ∙ ap log_text e
            ∙ flat_map-append (λ line. line_text line ++ 10 ∷ []) (x ∷ xs) (Sample ends.sample ∷ VerdictLine verdict ∷ [])
            ∙ ap (λ zs. zs ++ two) front.1
            ∙ joined front.0 (codes "sample") (flat_map value_text ends.sample) (codes "verdict ") (verdict_text verdict);
        printed = ends.printed;
      }

-- what an accepted text prints
pub accepted_values : (bytes : List ℕ) (steps : ℕ) (p : Source) (verdict : Verdict) (v : ProgramValues) (a : Accepts bytes steps p verdict)
    → EndsWithValues a.lines verdict v → PrintsValues bytes verdict v
accepted_values bytes steps p verdict v a ends =
    values_printed bytes a.lines verdict v a.written (subst HasHeader (sym a.accepted.accepted.split) tt) ends
