-- What readers of lines have found, and what they refuse.
use Rattle.std.proofs.Common.{◌≡◌, ℕ, List, [], ◌++◌, refl, sym, ap, ◌∙◌, subst, append_assoc}
use Rattle.std.specs.Prelude.{ℤ, codes, Option}
use Rattle.std.specs.Fmt.{decimal}
use Rattle.std.proofs.lemmas.List.{append-nil}
use Rattle.geo_points.specs.declared.ids.PointId.{PointId}
use Rattle.geo_poly.specs.declared.limits.Which.{Which}
use Rattle.geo_poly.specs.declared.variables.Var.{Var}
use Rattle.geo_poly.specs.Monomials.{Powers}
use Rattle.geo_poly.specs.Polynomials.{Summands}
use Rattle.proof_log.specs.declared.log.Line.{Line}
use Rattle.proof_log.specs.declared.log.Line.TheVariants.{Header, Program, Condition, Goal, Start, Ratio, Point, Coords, Cut, End, Sample, Verdict as VerdictLine, StopTooLarge, StopSpent}
use Rattle.proof_log.specs.declared.log.Verdict.TheVariants.{Proved, False, Impossible}
use Rattle.proof_log.specs.declared.leads.Lead.TheVariants.{Header as HeaderLead, Program as ProgramLead, Condition as ConditionLead}
use Rattle.proof_log.specs.declared.leads.Lead.TheVariants.{Goal as GoalLead, Start as StartLead, Ratio as RatioLead, Point as PointLead}
use Rattle.proof_log.specs.declared.leads.Lead.TheVariants.{Coords as CoordsLead, Cut as CutLead, End as EndLead, Sample as SampleLead}
use Rattle.proof_log.specs.declared.leads.Lead.TheVariants.{Proved as ProvedLead, False as FalseLead, Impossible as ImpossibleLead}
use Rattle.proof_log.specs.declared.leads.Lead.TheVariants.{TooLarge as TooLargeLead, Spent as SpentLead}
use Rattle.proof_log.specs.Lines.{factor_text, place_text, variable_name}
use Rattle.geo_poly.specs.PolynomialVariables.{IsRatio}
use Rattle.proof_log.specs.Inner.Reading.{Begins, Form, NoneBegins, factors, naturals, polynomials, value_lists, variables}
use Rattle.proof_log.specs.Inner.Leads.{IsBody, heads, last_numbers, lemmas, results, stops, texts, versions}
use Rattle.proof_log.proofs.Unique.{small_unique, variables_unique}
use Rattle.proof_log.proofs.UniqueTerms.{factors_unique}
use Rattle.proof_log.proofs.Bodies.{header_body, program_body, condition_body, goal_body, start_body, ratio_body, point_body, coords_body}
use Rattle.proof_log.proofs.Bodies.{cut_body, end_body, sample_body, proved_body, false_body, impossible_body, too_large_body, spent_body}
use Rattle.proof_log.proofs.Bodies.{lemmas_unique}

-- all of the bytes are the text
unwhole : {T : Type 0} (form : Form T) (bytes : List ℕ) (x : T) → Begins form bytes x [] → bytes ≡ form.text x
unwhole form bytes x h = h.spelt ∙ append-nil (form.text x)

pub header_read : (bytes : List ℕ) (x : ℕ) → Begins versions bytes x [] → IsBody HeaderLead bytes (Header x)
header_read bytes x h = record { writable = h.fits; lead_is = refl; spelt = unwhole versions bytes x h }

pub header_refused : (bytes : List ℕ) → NoneBegins versions bytes → (l : Line) → IsBody HeaderLead bytes l → ⊥
header_refused bytes none l h = let a = header_body bytes l h in none a.0 [] a.2

pub end_read : (bytes : List ℕ) → bytes ≡ [] → IsBody EndLead bytes End
end_read bytes e = record { writable = tt; lead_is = refl; spelt = e }

pub end_refused : (bytes : List ℕ) → (bytes ≡ [] → ⊥) → (l : Line) → IsBody EndLead bytes l → ⊥
end_refused bytes none l h = none (end_body bytes l h).1

pub proved_read : (bytes : List ℕ) → bytes ≡ [] → IsBody ProvedLead bytes (VerdictLine Proved)
proved_read bytes e = record { writable = tt; lead_is = refl; spelt = e }

pub proved_refused : (bytes : List ℕ) → (bytes ≡ [] → ⊥) → (l : Line) → IsBody ProvedLead bytes l → ⊥
proved_refused bytes none l h = none (proved_body bytes l h).1

pub program_read : (bytes : List ℕ) (x : List ℕ) → Begins texts bytes x [] → IsBody ProgramLead bytes (Program x)
program_read bytes x h = record { writable = h.fits; lead_is = refl; spelt = unwhole texts bytes x h }

pub program_refused : (bytes : List ℕ) → NoneBegins texts bytes → (l : Line) → IsBody ProgramLead bytes l → ⊥
program_refused bytes none l h = let a = program_body bytes l h in none a.0 [] a.2

pub condition_read : (bytes : List ℕ) (x : ℕ × List ℕ) → Begins heads bytes x [] → IsBody ConditionLead bytes (Condition x.0 x.1)
condition_read bytes x h = record { writable = h.fits; lead_is = refl; spelt = unwhole heads bytes x h }

pub condition_refused : (bytes : List ℕ) → NoneBegins heads bytes → (l : Line) → IsBody ConditionLead bytes l → ⊥
condition_refused bytes none l h = let a = condition_body bytes l h in none a.0 [] a.2

pub goal_read : (bytes : List ℕ) (x : ℕ × List ℕ) → Begins heads bytes x [] → IsBody GoalLead bytes (Goal x.0 x.1)
goal_read bytes x h = record { writable = h.fits; lead_is = refl; spelt = unwhole heads bytes x h }

pub goal_refused : (bytes : List ℕ) → NoneBegins heads bytes → (l : Line) → IsBody GoalLead bytes l → ⊥
goal_refused bytes none l h = let a = goal_body bytes l h in none a.0 [] a.2

pub start_read : (bytes : List ℕ) (x : Summands) → Begins polynomials bytes x [] → IsBody StartLead bytes (Start x)
start_read bytes x h = record { writable = h.fits; lead_is = refl; spelt = unwhole polynomials bytes x h }

pub start_refused : (bytes : List ℕ) → NoneBegins polynomials bytes → (l : Line) → IsBody StartLead bytes l → ⊥
start_refused bytes none l h = let a = start_body bytes l h in none a.0 [] a.2

pub coords_read : (bytes : List ℕ) (x : Summands) → Begins polynomials bytes x [] → IsBody CoordsLead bytes (Coords x)
coords_read bytes x h = record { writable = h.fits; lead_is = refl; spelt = unwhole polynomials bytes x h }

pub coords_refused : (bytes : List ℕ) → NoneBegins polynomials bytes → (l : Line) → IsBody CoordsLead bytes l → ⊥
coords_refused bytes none l h = let a = coords_body bytes l h in none a.0 [] a.2

pub sample_read : (bytes : List ℕ) (x : List (Var × ℤ)) → Begins value_lists bytes x [] → IsBody SampleLead bytes (Sample x)
sample_read bytes x h = record { writable = h.fits; lead_is = refl; spelt = unwhole value_lists bytes x h }

pub sample_refused : (bytes : List ℕ) → NoneBegins value_lists bytes → (l : Line) → IsBody SampleLead bytes l → ⊥
sample_refused bytes none l h = let a = sample_body bytes l h in none a.0 [] a.2

pub false_read : (bytes : List ℕ) (x : ℕ) → Begins (last_numbers 32) bytes x [] → IsBody FalseLead bytes (VerdictLine (False x))
false_read bytes x h = record { writable = h.fits; lead_is = refl; spelt = unwhole (last_numbers 32) bytes x h }

pub false_refused : (bytes : List ℕ) → NoneBegins (last_numbers 32) bytes → (l : Line) → IsBody FalseLead bytes l → ⊥
false_refused bytes none l h = let a = false_body bytes l h in none a.0 [] a.2

pub impossible_read : (bytes : List ℕ) (x : ℕ) → Begins (last_numbers 32) bytes x [] → IsBody ImpossibleLead bytes (VerdictLine (Impossible x))
impossible_read bytes x h = record { writable = h.fits; lead_is = refl; spelt = unwhole (last_numbers 32) bytes x h }

pub impossible_refused : (bytes : List ℕ) → NoneBegins (last_numbers 32) bytes → (l : Line) → IsBody ImpossibleLead bytes l → ⊥
impossible_refused bytes none l h = let a = impossible_body bytes l h in none a.0 [] a.2

pub too_large_read : (bytes : List ℕ) (x : ℕ × Which) → Begins stops bytes x [] → IsBody TooLargeLead bytes (StopTooLarge x.0 x.1)
too_large_read bytes x h = record { writable = h.fits; lead_is = refl; spelt = unwhole stops bytes x h }

pub too_large_refused : (bytes : List ℕ) → NoneBegins stops bytes → (l : Line) → IsBody TooLargeLead bytes l → ⊥
too_large_refused bytes none l h = let a = too_large_body bytes l h in none a.0 [] a.2

pub spent_read : (bytes : List ℕ) (x : ℕ) → Begins (last_numbers 64) bytes x [] → IsBody SpentLead bytes (StopSpent x)
spent_read bytes x h = record { writable = h.fits; lead_is = refl; spelt = unwhole (last_numbers 64) bytes x h }

pub spent_refused : (bytes : List ℕ) → NoneBegins (last_numbers 64) bytes → (l : Line) → IsBody SpentLead bytes l → ⊥
spent_refused bytes none l h = let a = spent_body bytes l h in none a.0 [] a.2

-- A LINE OF A RATIO

pub ratio_no_variable : (s0 : List ℕ) → NoneBegins variables s0 → (l : Line) → IsBody RatioLead s0 l → ⊥
ratio_no_variable s0 none l h = let a = ratio_body s0 l h in none a.var (codes " by " ++ a.rest) a.variable

by_off : (a b : List ℕ) → codes " by " ++ a ≡ codes " by " ++ b → a ≡ b
by_off a b e = cc

module _ (s0 s1 : List ℕ) (v : Var) (read : Begins variables s0 v s1) where
  pub ratio_no_ratio : (IsRatio v → ⊥) → (l : Line) → IsBody RatioLead s0 l → ⊥
  ratio_no_ratio other l h =
      let a = ratio_body s0 l h in
      other (subst IsRatio (sym (variables_unique s0 v a.var s1 (codes " by " ++ a.rest) read a.variable).0) a.ratio)

  pub ratio_no_by : ((rest : List ℕ) → s1 ≡ codes " by " ++ rest → ⊥) → (l : Line) → IsBody RatioLead s0 l → ⊥
  ratio_no_by none l h = let a = ratio_body s0 l h in none a.rest (variables_unique s0 v a.var s1 (codes " by " ++ a.rest) read a.variable).1

  module _ (s2 : List ℕ) (by : s1 ≡ codes " by " ++ s2) where
    due_lemma : (l : Line) (h : IsBody RatioLead s0 l) → s2 ≡ (ratio_body s0 l h).rest
    due_lemma l h =
        let a = ratio_body s0 l h in by_off s2 a.rest (sym by ∙ (variables_unique s0 v a.var s1 (codes " by " ++ a.rest) read a.variable).1)

    pub ratio_no_lemma : NoneBegins lemmas s2 → (l : Line) → IsBody RatioLead s0 l → ⊥
    ratio_no_lemma none l h =
        let a = ratio_body s0 l h in
        let P : List ℕ → Type 0 = λ r. Begins lemmas r a.lemma a.behind in
        none a.lemma a.behind (subst P (sym (due_lemma l h)) a.read_lemma)

    module _ (lemma : ℕ × Option PointId) (s3 : List ℕ) (found : Begins lemmas s2 lemma s3) where
      pub ratio_no_result : NoneBegins results s3 → (l : Line) → IsBody RatioLead s0 l → ⊥
      ratio_no_result none l h =
          let a = ratio_body s0 l h in
          let P : List ℕ → Type 0 = λ r. Begins lemmas r a.lemma a.behind in
          let same = (lemmas_unique s2 lemma a.lemma s3 a.behind found (subst P (sym (due_lemma l h)) a.read_lemma)).1 in
          let Q : List ℕ → Type 0 = λ r. Begins results r a.poly [] in
          none a.poly [] (subst Q (sym same) a.result)

      pub ratio_read : (q : Summands) → IsRatio v → Begins results s3 q [] → IsBody RatioLead s0 (Ratio v lemma.0 lemma.1 q)
      ratio_read q ratio result = record {
        writable = (ratio, read.fits, found.fits, result.fits);
        lead_is = refl;
        spelt = read.spelt ∙ ap (λ l. variable_name v ++ l) (by ∙ ap (λ l. codes " by " ++ l) (found.spelt ∙ append_assoc (decimal lemma.0) (place_text lemma.1) s3
            ∙ ap (λ l. decimal lemma.0 ++ (place_text lemma.1 ++ l)) (unwhole results s3 q result)));
      }

-- A LINE OF A POINT

pub point_no_number : (s0 : List ℕ) → NoneBegins (naturals 32) s0 → (l : Line) → IsBody PointLead s0 l → ⊥
point_no_number s0 none l h = let a = point_body s0 l h in none a.at.0 a.rest a.number

module _ (s0 s1 : List ℕ) (n : ℕ) (read : Begins (naturals 32) s0 n s1) where
  pub point_no_result : NoneBegins results s1 → (l : Line) → IsBody PointLead s0 l → ⊥
  point_no_result none l h =
      let a = point_body s0 l h in
      let Q : List ℕ → Type 0 = λ r. Begins results r a.poly [] in
      none a.poly [] (subst Q (sym (small_unique s0 n a.at.0 s1 a.rest read a.number).1) a.result)

  pub point_read : (q : Summands) → Begins results s1 q [] → IsBody PointLead s0 (Point (record { 0 = n }) q)
  point_read q result = record {
    writable = (read.fits, result.fits);
    lead_is = refl;
    spelt = read.spelt ∙ ap (λ l. decimal n ++ l) (unwhole results s1 q result);
  }

-- A LINE OF A CUT

pub cut_no_factor : (s0 : List ℕ) → NoneBegins factors s0 → (l : Line) → IsBody CutLead s0 l → ⊥
cut_no_factor s0 none l h = let a = cut_body s0 l h in none a.by a.rest a.factor

module _ (s0 s1 : List ℕ) (f : Powers × ℤ) (read : Begins factors s0 f s1) where
  pub cut_no_result : NoneBegins results s1 → (l : Line) → IsBody CutLead s0 l → ⊥
  cut_no_result none l h =
      let a = cut_body s0 l h in
      let Q : List ℕ → Type 0 = λ r. Begins results r a.poly [] in
      none a.poly [] (subst Q (sym (factors_unique s0 f a.by s1 a.rest read a.factor).1) a.result)

  pub cut_read : (q : Summands) → Begins results s1 q [] → IsBody CutLead s0 (Cut f q)
  cut_read q result = record {
    writable = (read.fits, result.fits);
    lead_is = refl;
    spelt = read.spelt ∙ ap (λ l. factor_text f ++ l) (unwhole results s1 q result);
  }
