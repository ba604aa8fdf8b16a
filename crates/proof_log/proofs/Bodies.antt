-- What follows the lead of a line, lead by lead.
use Rattle.std.proofs.Common.{◌≡◌, ◌≢◌, ℕ, ◌<◌, ◌≤◌, ◌^◌, Bool, true, false, List, [], ◌∷◌, ◌++◌, refl, sym, ap, ◌∙◌, append_assoc, arith, lit≤, lit<, get_or, subst}
use Rattle.std.specs.Prelude.{ℤ, codes, Option, Some, None}
use Rattle.std.specs.Fmt.{decimal}
use Rattle.std.specs.List.{list_any}
use Rattle.std.specs.Prelude.{◌==◌}
use Rattle.std.proofs.Common.{◌||◌, eqb}
use Rattle.std.proofs.lemmas.Bool.Decides.{nat_tests}
use Rattle.std.proofs.lemmas.List.{append-nil}
use Rattle.geo_points.specs.declared.ids.PointId.{PointId}
use Rattle.geo_poly.specs.declared.limits.Which.{Which}
use Rattle.geo_poly.specs.declared.limits.Which.TheVariants.{Norm, Degree}
use Rattle.geo_poly.specs.declared.variables.Var.{Var}
use Rattle.geo_poly.specs.Monomials.{Powers}
use Rattle.geo_poly.specs.Polynomials.{Summands}
use Rattle.proof_log.specs.declared.log.Line.{Line}
use Rattle.proof_log.specs.declared.log.Line.TheVariants.{Header, Program, Condition, Goal, Start, Ratio, Point, Coords, Cut, End, Sample, Verdict as VerdictLine, StopTooLarge, StopSpent}
use Rattle.proof_log.specs.declared.log.Verdict.{Verdict}
use Rattle.proof_log.specs.declared.log.Verdict.TheVariants.{Proved, False, Impossible}
use Rattle.proof_log.specs.declared.leads.Lead.{Lead}
use Rattle.proof_log.specs.declared.leads.Lead.TheVariants.{Header as HeaderLead, Program as ProgramLead, Condition as ConditionLead}
use Rattle.proof_log.specs.declared.leads.Lead.TheVariants.{Goal as GoalLead, Start as StartLead, Ratio as RatioLead, Point as PointLead}
use Rattle.proof_log.specs.declared.leads.Lead.TheVariants.{Coords as CoordsLead, Cut as CutLead, End as EndLead, Sample as SampleLead}
use Rattle.proof_log.specs.declared.leads.Lead.TheVariants.{Proved as ProvedLead, False as FalseLead, Impossible as ImpossibleLead}
use Rattle.proof_log.specs.declared.leads.Lead.TheVariants.{TooLarge as TooLargeLead, Spent as SpentLead}
use Rattle.proof_log.specs.Lines.{line_text, place_text, polynomial_text, which_text}
use Rattle.geo_poly.specs.PolynomialVariables.{IsRatio}
use Rattle.proof_log.specs.Writable.{CanWriteLemma, HasNoLineFeed, IsVersion}
use Rattle.proof_log.specs.Inner.Reading.{Begins, Form, NoneBegins, StopsAt, factors, is_number_byte, naturals, polynomials, value_lists, variables}
use Rattle.proof_log.specs.Inner.Leads.{IsBody, body_text, heads, last_numbers, lead_of, lead_text, lemmas, results, stops, texts, versions}
use Rattle.proof_log.proofs.Runs.{Unique, naturals_unique}
use Rattle.proof_log.proofs.Unique.{nothing_stops, small_unique}
use Rattle.proof_log.proofs.UniqueTerms.{polynomials_unique}

-- all of the bytes
pub whole : {T : Type 0} (form : Form T) (bytes : List ℕ) (x : T) → bytes ≡ form.text x → form.fits x → Begins form bytes x []
whole form bytes x e fits = record { spelt = e ∙ sym (append-nil (form.text x)); fits = fits; stops = tt }

-- a line is its lead and what follows
pub line_parts : (l : Line) → line_text l ≡ lead_text (lead_of l) ++ body_text l
line_parts (Header version) = refl
line_parts (Program text) = refl
line_parts (Condition k text) = simp append_assoc
line_parts (Goal k text) = simp append_assoc
line_parts (Start q) = refl
line_parts (Ratio v lemma at q) = simp append_assoc
line_parts (Point at q) = simp append_assoc
line_parts (Coords q) = refl
line_parts (Cut by q) = simp append_assoc
line_parts End = refl
line_parts (Sample values) = refl
line_parts (VerdictLine Proved) = refl
line_parts (VerdictLine (False g)) = refl
line_parts (VerdictLine (Impossible k)) = refl
line_parts (StopTooLarge line which) = simp append_assoc
line_parts (StopSpent line) = refl

-- FORMS BEHIND LEADS

-- a number, a space and a text
pub record AreHeadParts (bytes : List ℕ) (k : ℕ) (text : List ℕ) : Type 0 where
  pub number : Begins (naturals 32) bytes k (32 ∷ text)
  pub positive : 1 ≤ k
  pub one_line : HasNoLineFeed text

pub head_parts : (bytes : List ℕ) (h : ℕ × List ℕ) (r : List ℕ) → Begins heads bytes h r → AreHeadParts bytes h.0 h.1
head_parts bytes h r b =
    let e : r ≡ [] = nothing_stops r b.stops in record {
      number = record { spelt = b.spelt ∙ ap (λ l. (decimal h.0 ++ (32 ∷ h.1)) ++ l) e ∙ append-nil (decimal h.0 ++ (32 ∷ h.1)); fits = b.fits.small; stops = refl };
      positive = b.fits.positive;
      one_line = b.fits.one_line;
    }

pub text_is : (bytes text r : List ℕ) → Begins texts bytes text r → (bytes ≡ text) × (r ≡ [])
text_is bytes text r b =
    let e : r ≡ [] = nothing_stops r b.stops in (b.spelt ∙ ap (λ l. text ++ l) e ∙ append-nil text, e)

module _ (s0 : List ℕ) where
  pub head_unread : NoneBegins (naturals 32) s0 → NoneBegins heads s0
  head_unread none h r b = none h.0 (32 ∷ h.1) (head_parts s0 h r b).number

  module _ (k : ℕ) (s1 : List ℕ) (number : Begins (naturals 32) s0 k s1) where
    pub head_zero : (1 ≤ k → ⊥) → NoneBegins heads s0
    head_zero nothing h r b =
        let p = head_parts s0 h r b in
        let same : k ≡ h.0 = (small_unique s0 k h.0 s1 (32 ∷ h.1) number p.number).0 in
        let some : 1 ≤ h.0 = p.positive in
        nothing (omega arith)

    pub head_no_space : ((rest : List ℕ) → s1 ≡ 32 ∷ rest → ⊥) → NoneBegins heads s0
    head_no_space none h r b = let p = head_parts s0 h r b in none h.1 (small_unique s0 k h.0 s1 (32 ∷ h.1) number p.number).1

    module _ (s2 : List ℕ) (space : s1 ≡ 32 ∷ s2) where
      pub head_no_text : NoneBegins texts s2 → NoneBegins heads s0
      head_no_text none h r b =
          let p = head_parts s0 h r b in
          let both : 32 ∷ s2 ≡ 32 ∷ h.1 = sym space ∙ (small_unique s0 k h.0 s1 (32 ∷ h.1) number p.number).1 in
          let same : s2 ≡ h.1 = cc in
          none h.1 [] (whole texts s2 h.1 same p.one_line)

      pub head_read : (text : List ℕ) → 1 ≤ k → Begins texts s2 text [] → Begins heads s0 (k, text) []
      head_read text some t =
          let is : s2 ≡ text = (text_is s2 text [] t).0 in
          whole heads s0 (k, text) (number.spelt ∙ ap (λ l. decimal k ++ l) (space ∙ ap (λ l. 32 ∷ l) is)) (record { positive = some; small = number.fits; one_line = t.fits })

pub heads_unique : (bytes : List ℕ) (g h : ℕ × List ℕ) → Begins heads bytes g [] → Begins heads bytes h [] → g ≡ h
heads_unique bytes g h a b =
    let p = head_parts bytes g [] a in let q = head_parts bytes h [] b in
    let same = small_unique bytes g.0 h.0 (32 ∷ g.1) (32 ∷ h.1) p.number q.number in
    let both : 32 ∷ g.1 ≡ 32 ∷ h.1 = same.1 in
    let text : g.1 ≡ h.1 = cc in
    λ i. (same.0 i, text i)

-- ` : ` and a polynomial
pub result_no_colon : (s0 : List ℕ) → ((rest : List ℕ) → s0 ≡ codes " : " ++ rest → ⊥) → NoneBegins results s0
result_no_colon s0 none q r b = none (polynomial_text q ++ r) b.spelt

colon_off : (a b : List ℕ) → codes " : " ++ a ≡ codes " : " ++ b → a ≡ b
colon_off a b e = cc

module _ (s0 s1 : List ℕ) (colon : s0 ≡ codes " : " ++ s1) where
  pub result_unread : NoneBegins polynomials s1 → NoneBegins results s0
  result_unread none q r b =
      none q r (record { spelt = colon_off s1 (polynomial_text q ++ r) (sym colon ∙ b.spelt); fits = b.fits; stops = b.stops })

  pub result_read : (q : Summands) → Begins polynomials s1 q [] → Begins results s0 q []
  result_read q b = record { spelt = colon ∙ ap (λ l. codes " : " ++ l) b.spelt; fits = b.fits; stops = b.stops }

pub results_unique : (bytes : List ℕ) (p q : Summands) → Begins results bytes p [] → Begins results bytes q [] → p ≡ q
results_unique bytes p q a b =
    let at : Begins polynomials (polynomial_text p ++ []) p [] = record { spelt = refl; fits = a.fits; stops = tt } in
    let tail : polynomial_text p ++ [] ≡ polynomial_text q ++ [] = colon_off (polynomial_text p ++ []) (polynomial_text q ++ []) (sym a.spelt ∙ b.spelt) in
    (polynomials_unique (polynomial_text p ++ []) p q [] [] at (record { spelt = tail; fits = b.fits; stops = tt })).0

-- a lemma and its place
place_stops : (at : Option PointId) (r : List ℕ) → StopsAt is_number_byte r → StopsAt is_number_byte (place_text at ++ r)
place_stops None r h = h
place_stops (Some y) r h = refl

pub lemma_number : (bytes : List ℕ) (l : ℕ × Option PointId) (r : List ℕ) → Begins lemmas bytes l r → Begins (naturals 32) bytes l.0 (place_text l.1 ++ r)
lemma_number bytes l r b = record { spelt = b.spelt ∙ append_assoc (decimal l.0) (place_text l.1) r; fits = b.fits.small; stops = place_stops l.1 r b.stops }

at_off : (a b : List ℕ) → codes " at " ++ a ≡ codes " at " ++ b → a ≡ b
at_off a b e = cc

-- lemma 0 has no place, and another lemma has one
no_place : (at : Option PointId) → CanWriteLemma 0 at → at ≡ None
no_place None h = refl
no_place (Some y) h = let e : true ≡ false = h.no_point.1 refl in absurd (cc)

record IsPlace (at : Option PointId) : Type 0 where
  point : PointId
  is : at ≡ Some point
  small : point.0 < 2 ^ 32

some_place : (n : ℕ) (at : Option PointId) → CanWriteLemma n at → (n ≡ 0 → ⊥) → IsPlace at
some_place n None h other = absurd (other (h.no_point.0 refl))
some_place n (Some y) h other = record { point = y; is = refl; small = h.point }

module _ (s0 : List ℕ) where
  pub lemma_unread : NoneBegins (naturals 32) s0 → NoneBegins lemmas s0
  lemma_unread none l r b = none l.0 (place_text l.1 ++ r) (lemma_number s0 l r b)

  module _ (n : ℕ) (s1 : List ℕ) (number : Begins (naturals 32) s0 n s1) where
    pub lemma_zero : n ≡ 0 → Begins lemmas s0 (0, None) s1
    lemma_zero e = record {
      spelt = number.spelt ∙ ap (λ m. decimal m ++ s1) e ∙ ap (λ l. l ++ s1) (sym (append-nil (decimal 0)));
      fits = record { small = lit< tt; point = tt; no_point = ((λ h. refl), (λ h. refl)) };
      stops = number.stops;
    }

    module _ (other : n ≡ 0 → ⊥) where
      -- ` at ` and the point are due
      due_place : (l : ℕ × Option PointId) (r : List ℕ) → Begins lemmas s0 l r → (y : PointId) × (s1 ≡ codes " at " ++ (decimal y.0 ++ r)) × Begins (naturals 32) (decimal y.0 ++ r) y.0 r
      due_place l r b =
          let same = small_unique s0 n l.0 s1 (place_text l.1 ++ r) number (lemma_number s0 l r b) in
          let p = some_place l.0 l.1 b.fits (λ z. other (same.0 ∙ z)) in
          (p.point, same.1 ∙ ap (λ at. place_text at ++ r) p.is, record { spelt = refl; fits = p.small; stops = b.stops })

      pub lemma_no_at : ((rest : List ℕ) → s1 ≡ codes " at " ++ rest → ⊥) → NoneBegins lemmas s0
      lemma_no_at none l r b = let d = due_place l r b in none (decimal d.0.0 ++ r) d.1

      module _ (s2 : List ℕ) (at : s1 ≡ codes " at " ++ s2) where
        pub lemma_no_point : NoneBegins (naturals 32) s2 → NoneBegins lemmas s0
        lemma_no_point none l r b =
            let d = due_place l r b in
            let same : s2 ≡ decimal d.0.0 ++ r = at_off s2 (decimal d.0.0 ++ r) (sym at ∙ d.1) in
            none d.0.0 r (record { spelt = same; fits = d.2.fits; stops = b.stops })

        pub lemma_read : (y : ℕ) (s3 : List ℕ) → Begins (naturals 32) s2 y s3 → Begins lemmas s0 (n, Some (record { 0 = y })) s3
        lemma_read y s3 b = record {
          spelt = number.spelt ∙ ap (λ l. decimal n ++ l) (at ∙ ap (λ l. codes " at " ++ l) b.spelt) ∙ sym (append_assoc (decimal n) (codes " at " ++ decimal y) s3);
          fits = record { small = number.fits; point = b.fits; no_point = ((λ h. let e : true ≡ false = h in absurd (cc)), (λ h. absurd (other h))) };
          stops = b.stops;
        }

-- a lemma is read in one way
pub lemmas_unique : Unique lemmas
lemmas_unique bytes (m, None) (n, None) r s h k =
    let one = small_unique bytes m n r s (lemma_number bytes (m, None) r h) (lemma_number bytes (n, None) s k) in
    (λ i. (one.0 i, None), one.1)
lemmas_unique bytes (m, None) (n, Some y) r s h k =
    let one = small_unique bytes m n r (codes " at " ++ (decimal y.0 ++ s)) (lemma_number bytes (m, None) r h) (lemma_number bytes (n, Some y) s k) in
    let nothing : m ≡ 0 = h.fits.no_point.0 refl in
    let none : true ≡ false = k.fits.no_point.1 (sym one.0 ∙ nothing) in absurd (cc)
lemmas_unique bytes (m, Some x) (n, None) r s h k =
    let one = small_unique bytes m n (codes " at " ++ (decimal x.0 ++ r)) s (lemma_number bytes (m, Some x) r h) (lemma_number bytes (n, None) s k) in
    let nothing : n ≡ 0 = k.fits.no_point.0 refl in
    let none : true ≡ false = h.fits.no_point.1 (one.0 ∙ nothing) in absurd (cc)
lemmas_unique bytes (m, Some x) (n, Some y) r s h k =
    let one = small_unique bytes m n (codes " at " ++ (decimal x.0 ++ r)) (codes " at " ++ (decimal y.0 ++ s)) (lemma_number bytes (m, Some x) r h) (lemma_number bytes (n, Some y) s k) in
    let tail = at_off (decimal x.0 ++ r) (decimal y.0 ++ s) one.1 in
    let two = small_unique (decimal x.0 ++ r) x.0 y.0 r s (record { spelt = refl; fits = h.fits.point; stops = h.stops }) (record { spelt = tail; fits = k.fits.point; stops = k.stops }) in
    (λ i. (one.0 i, Some (record { 0 = two.0 i })), two.1)

-- a number at the end of a line
pub last_number : (bits : ℕ) (bytes : List ℕ) (n : ℕ) (r : List ℕ) → Begins (last_numbers bits) bytes n r → Begins (naturals bits) bytes n [] × (r ≡ [])
last_number bits bytes n r h =
    let e : r ≡ [] = nothing_stops r h.stops in
    (record { spelt = h.spelt ∙ ap (λ l. decimal n ++ l) e; fits = h.fits; stops = tt }, e)

pub last_unique : (bits : ℕ) → 2 ^ bits ≤ 2 ^ 64 → (bytes : List ℕ) (m n : ℕ) → Begins (last_numbers bits) bytes m [] → Begins (last_numbers bits) bytes n [] → m ≡ n
last_unique bits small bytes m n h k = (naturals_unique bits small bytes m n [] [] (last_number bits bytes m [] h).0 (last_number bits bytes n [] k).0).0

-- a version is a number of 32 bits
version_number : (bytes : List ℕ) (version : ℕ) (r : List ℕ) → Begins versions bytes version r → Begins (last_numbers 32) bytes version r
version_number bytes version r h =
    let few : 2 < 2 ^ 32 = lit< tt in
    record { spelt = h.spelt; fits = omega (few, h.fits.1, arith); stops = h.stops }

pub versions_unique : (bytes : List ℕ) (m n : ℕ) → Begins versions bytes m [] → Begins versions bytes n [] → m ≡ n
versions_unique bytes m n h k = last_unique 32 (lit≤ tt) bytes m n (version_number bytes m [] h) (version_number bytes n [] k)

pub version_unread : (bytes : List ℕ) → NoneBegins (last_numbers 32) bytes → NoneBegins versions bytes
version_unread bytes none version r h = none version r (version_number bytes version r h)

-- another number is no version
pub version_other : (bytes : List ℕ) (n : ℕ) → Begins (last_numbers 32) bytes n [] → (IsVersion n → ⊥) → NoneBegins versions bytes
version_other bytes n read other version r h =
    let e : r ≡ [] = nothing_stops r h.stops in
    let at : Begins versions bytes version [] = subst (λ rest. Begins versions bytes version rest) e h in
    let same : n ≡ version = last_unique 32 (lit≤ tt) bytes n version read (version_number bytes version [] at) in
    other (subst IsVersion (sym same) at.fits)

pub last_read : (bits : ℕ) (bytes : List ℕ) (n : ℕ) (rest : List ℕ) → Begins (naturals bits) bytes n rest → rest ≡ [] → Begins (last_numbers bits) bytes n []
last_read bits bytes n rest h e = record { spelt = h.spelt ∙ ap (λ l. decimal n ++ l) e; fits = h.fits; stops = tt }

pub last_unread : (bits : ℕ) (bytes : List ℕ) → NoneBegins (naturals bits) bytes → NoneBegins (last_numbers bits) bytes
last_unread bits bytes none n r h = none n [] (last_number bits bytes n r h).0

pub last_not_ended : (bits : ℕ) → 2 ^ bits ≤ 2 ^ 64 → (bytes : List ℕ) (m : ℕ) (rest : List ℕ) → Begins (naturals bits) bytes m rest → (rest ≡ [] → ⊥) → NoneBegins (last_numbers bits) bytes
last_not_ended bits small bytes m rest h other n r k = other (naturals_unique bits small bytes m n rest [] h (last_number bits bytes n r k).0).1

-- a line's number and the bound that is passed
pub stop_number : (bytes : List ℕ) (s : ℕ × Which) (r : List ℕ) → Begins stops bytes s r → Begins (naturals 64) bytes s.0 (32 ∷ which_text s.1)
stop_number bytes s r h =
    let e : r ≡ [] = nothing_stops r h.stops in
    record { spelt = h.spelt ∙ ap (λ l. (decimal s.0 ++ (32 ∷ which_text s.1)) ++ l) e ∙ append-nil (decimal s.0 ++ (32 ∷ which_text s.1)); fits = h.fits; stops = refl }

norm_is_no_degree : codes " norm" ≡ codes " degree" → ⊥
norm_is_no_degree e = let same : ◌≡◌ {A = ℕ} 110 100 = ap (λ l. get_or l 1 0) e in omega (arith, same)

which_same : (a b : Which) → 32 ∷ which_text a ≡ 32 ∷ which_text b → a ≡ b
which_same Norm Norm e = refl
which_same Norm Degree e = absurd (norm_is_no_degree e)
which_same Degree Norm e = absurd (norm_is_no_degree (sym e))
which_same Degree Degree e = refl

wide_unique : Unique (naturals 64)
wide_unique = naturals_unique 64 (lit≤ tt)

pub stops_unique : (bytes : List ℕ) (s t : ℕ × Which) → Begins stops bytes s [] → Begins stops bytes t [] → s ≡ t
stops_unique bytes s t h k =
    let one = wide_unique bytes s.0 t.0 (32 ∷ which_text s.1) (32 ∷ which_text t.1) (stop_number bytes s [] h) (stop_number bytes t [] k) in
    let two = which_same s.1 t.1 one.1 in
    λ i. (one.0 i, two i)

pub stop_unread : (bytes : List ℕ) → NoneBegins (naturals 64) bytes → NoneBegins stops bytes
stop_unread bytes none s r h = none s.0 (32 ∷ which_text s.1) (stop_number bytes s r h)

pub stop_read : (bytes rest : List ℕ) (n : ℕ) (w : Which) → Begins (naturals 64) bytes n rest → rest ≡ 32 ∷ which_text w → Begins stops bytes (n, w) []
stop_read bytes rest n w h e = whole stops bytes (n, w) (h.spelt ∙ ap (λ l. decimal n ++ l) e) h.fits

pub stop_other : (bytes rest : List ℕ) (n : ℕ) → Begins (naturals 64) bytes n rest → ((w : Which) → rest ≡ 32 ∷ which_text w → ⊥) → NoneBegins stops bytes
stop_other bytes rest n h none s r k = none s.1 (wide_unique bytes n s.0 rest (32 ∷ which_text s.1) h (stop_number bytes s r k)).1

-- THE LINE OF A LEAD

-- a line of a ratio: the ratio, the lemma and the polynomial
pub record IsRatioLine (bytes : List ℕ) (l : Line) : Type 0 where
  pub var : Var
  pub lemma : ℕ × Option PointId
  pub poly : Summands
  pub is : l ≡ Ratio var lemma.0 lemma.1 poly
  pub ratio : IsRatio var
  pub rest : List ℕ
  pub behind : List ℕ
  pub variable : Begins variables bytes var (codes " by " ++ rest)
  pub read_lemma : Begins lemmas rest lemma behind
  pub result : Begins results behind poly []

-- a line of a point: the point and the polynomial
pub record IsPointLine (bytes : List ℕ) (l : Line) : Type 0 where
  pub at : PointId
  pub poly : Summands
  pub is : l ≡ Point at poly
  pub rest : List ℕ
  pub number : Begins (naturals 32) bytes at.0 rest
  pub result : Begins results rest poly []

-- a line of a cut: the factor and the polynomial
pub record IsCutLine (bytes : List ℕ) (l : Line) : Type 0 where
  pub by : Powers × ℤ
  pub poly : Summands
  pub is : l ≡ Cut by poly
  pub rest : List ℕ
  pub factor : Begins factors bytes by rest
  pub result : Begins results rest poly []

ratio_line : (bytes : List ℕ) (v : Var) (lemma : ℕ) (at : Option PointId) (q : Summands) → IsBody RatioLead bytes (Ratio v lemma at q) → IsRatioLine bytes (Ratio v lemma at q)
ratio_line bytes v lemma at q h =
    let behind = codes " : " ++ polynomial_text q in record {
      var = v;
      lemma = (lemma, at);
      poly = q;
      is = refl;
      ratio = h.writable.0;
      rest = decimal lemma ++ (place_text at ++ behind);
      behind = behind;
      variable = record { spelt = h.spelt; fits = h.writable.1; stops = refl };
      read_lemma = record { spelt = sym (append_assoc (decimal lemma) (place_text at) behind); fits = h.writable.2; stops = refl };
      result = whole results behind q refl h.writable.3;
    }

-- the leads of verdicts
abbrev is_verdict : Lead → Bool
is_verdict ProvedLead = true
is_verdict FalseLead = true
is_verdict ImpossibleLead = true
is_verdict _ = false

no_verdict : (v : Verdict) (lead : Lead) → is_verdict lead ≡ false → lead_of (VerdictLine v) ≡ lead → ⊥
no_verdict Proved lead other e = let f : true ≡ false = ap is_verdict e ∙ other in cc
no_verdict (False g) lead other e = let f : true ≡ false = ap is_verdict e ∙ other in cc
no_verdict (Impossible k) lead other e = let f : true ≡ false = ap is_verdict e ∙ other in cc

pub header_body : (bytes : List ℕ) (l : Line) → IsBody HeaderLead bytes l → (version : ℕ) × (l ≡ Header version) × Begins versions bytes version []
header_body bytes (Header version) h = (version, refl, whole versions bytes version h.spelt h.writable)
header_body bytes (VerdictLine v) h = absurd (no_verdict v HeaderLead refl h.lead_is)
header_body bytes _ h = let e = h.lead_is in absurd (cc)

pub program_body : (bytes : List ℕ) (l : Line) → IsBody ProgramLead bytes l → (text : List ℕ) × (l ≡ Program text) × Begins texts bytes text []
program_body bytes (Program text) h = (text, refl, whole texts bytes text h.spelt h.writable)
program_body bytes (VerdictLine v) h = absurd (no_verdict v ProgramLead refl h.lead_is)
program_body bytes _ h = let e = h.lead_is in absurd (cc)

pub condition_body : (bytes : List ℕ) (l : Line) → IsBody ConditionLead bytes l → (head : ℕ × List ℕ) × (l ≡ Condition head.0 head.1) × Begins heads bytes head []
condition_body bytes (Condition k text) h = ((k, text), refl, whole heads bytes (k, text) h.spelt h.writable)
condition_body bytes (VerdictLine v) h = absurd (no_verdict v ConditionLead refl h.lead_is)
condition_body bytes _ h = let e = h.lead_is in absurd (cc)

pub goal_body : (bytes : List ℕ) (l : Line) → IsBody GoalLead bytes l → (head : ℕ × List ℕ) × (l ≡ Goal head.0 head.1) × Begins heads bytes head []
goal_body bytes (Goal k text) h = ((k, text), refl, whole heads bytes (k, text) h.spelt h.writable)
goal_body bytes (VerdictLine v) h = absurd (no_verdict v GoalLead refl h.lead_is)
goal_body bytes _ h = let e = h.lead_is in absurd (cc)

pub start_body : (bytes : List ℕ) (l : Line) → IsBody StartLead bytes l → (q : Summands) × (l ≡ Start q) × Begins polynomials bytes q []
start_body bytes (Start q) h = (q, refl, whole polynomials bytes q h.spelt h.writable)
start_body bytes (VerdictLine v) h = absurd (no_verdict v StartLead refl h.lead_is)
start_body bytes _ h = let e = h.lead_is in absurd (cc)

pub ratio_body : (bytes : List ℕ) (l : Line) → IsBody RatioLead bytes l → IsRatioLine bytes l
ratio_body bytes (Ratio v lemma at q) h = ratio_line bytes v lemma at q h
ratio_body bytes (VerdictLine v) h = absurd (no_verdict v RatioLead refl h.lead_is)
ratio_body bytes _ h = let e = h.lead_is in absurd (cc)

pub point_body : (bytes : List ℕ) (l : Line) → IsBody PointLead bytes l → IsPointLine bytes l
point_body bytes (Point at q) h = record {
  at = at;
  poly = q;
  is = refl;
  rest = codes " : " ++ polynomial_text q;
  number = record { spelt = h.spelt; fits = h.writable.0; stops = refl };
  result = whole results (codes " : " ++ polynomial_text q) q refl h.writable.1;
}
point_body bytes (VerdictLine v) h = absurd (no_verdict v PointLead refl h.lead_is)
point_body bytes _ h = let e = h.lead_is in absurd (cc)

pub coords_body : (bytes : List ℕ) (l : Line) → IsBody CoordsLead bytes l → (q : Summands) × (l ≡ Coords q) × Begins polynomials bytes q []
coords_body bytes (Coords q) h = (q, refl, whole polynomials bytes q h.spelt h.writable)
coords_body bytes (VerdictLine v) h = absurd (no_verdict v CoordsLead refl h.lead_is)
coords_body bytes _ h = let e = h.lead_is in absurd (cc)

pub cut_body : (bytes : List ℕ) (l : Line) → IsBody CutLead bytes l → IsCutLine bytes l
cut_body bytes (Cut by q) h = record {
  by = by;
  poly = q;
  is = refl;
  rest = codes " : " ++ polynomial_text q;
  factor = record { spelt = h.spelt; fits = h.writable.0; stops = refl };
  result = whole results (codes " : " ++ polynomial_text q) q refl h.writable.1;
}
cut_body bytes (VerdictLine v) h = absurd (no_verdict v CutLead refl h.lead_is)
cut_body bytes _ h = let e = h.lead_is in absurd (cc)

pub end_body : (bytes : List ℕ) (l : Line) → IsBody EndLead bytes l → (l ≡ End) × (bytes ≡ [])
end_body bytes End h = (refl, h.spelt)
end_body bytes (VerdictLine v) h = absurd (no_verdict v EndLead refl h.lead_is)
end_body bytes _ h = let e = h.lead_is in absurd (cc)

pub sample_body : (bytes : List ℕ) (l : Line) → IsBody SampleLead bytes l → (values : List (Var × ℤ)) × (l ≡ Sample values) × Begins value_lists bytes values []
sample_body bytes (Sample values) h = (values, refl, whole value_lists bytes values h.spelt h.writable)
sample_body bytes (VerdictLine v) h = absurd (no_verdict v SampleLead refl h.lead_is)
sample_body bytes _ h = let e = h.lead_is in absurd (cc)

pub proved_body : (bytes : List ℕ) (l : Line) → IsBody ProvedLead bytes l → (l ≡ VerdictLine Proved) × (bytes ≡ [])
proved_body bytes (VerdictLine Proved) h = (refl, h.spelt)
proved_body bytes (VerdictLine (False g)) h = let e = h.lead_is in absurd (cc)
proved_body bytes (VerdictLine (Impossible k)) h = let e = h.lead_is in absurd (cc)
proved_body bytes _ h = let e = h.lead_is in absurd (cc)

pub false_body : (bytes : List ℕ) (l : Line) → IsBody FalseLead bytes l → (g : ℕ) × (l ≡ VerdictLine (False g)) × Begins (last_numbers 32) bytes g []
false_body bytes (VerdictLine (False g)) h = (g, refl, whole (last_numbers 32) bytes g h.spelt h.writable)
false_body bytes (VerdictLine Proved) h = let e = h.lead_is in absurd (cc)
false_body bytes (VerdictLine (Impossible k)) h = let e = h.lead_is in absurd (cc)
false_body bytes _ h = let e = h.lead_is in absurd (cc)

pub impossible_body : (bytes : List ℕ) (l : Line) → IsBody ImpossibleLead bytes l → (k : ℕ) × (l ≡ VerdictLine (Impossible k)) × Begins (last_numbers 32) bytes k []
impossible_body bytes (VerdictLine (Impossible k)) h = (k, refl, whole (last_numbers 32) bytes k h.spelt h.writable)
impossible_body bytes (VerdictLine Proved) h = let e = h.lead_is in absurd (cc)
impossible_body bytes (VerdictLine (False g)) h = let e = h.lead_is in absurd (cc)
impossible_body bytes _ h = let e = h.lead_is in absurd (cc)

pub too_large_body : (bytes : List ℕ) (l : Line) → IsBody TooLargeLead bytes l → (s : ℕ × Which) × (l ≡ StopTooLarge s.0 s.1) × Begins stops bytes s []
too_large_body bytes (StopTooLarge line which) h = ((line, which), refl, whole stops bytes (line, which) h.spelt h.writable)
too_large_body bytes (VerdictLine v) h = absurd (no_verdict v TooLargeLead refl h.lead_is)
too_large_body bytes _ h = let e = h.lead_is in absurd (cc)

pub spent_body : (bytes : List ℕ) (l : Line) → IsBody SpentLead bytes l → (n : ℕ) × (l ≡ StopSpent n) × Begins (last_numbers 64) bytes n []
spent_body bytes (StopSpent line) h = (line, refl, whole (last_numbers 64) bytes line h.spelt h.writable)
spent_body bytes (VerdictLine v) h = absurd (no_verdict v SpentLead refl h.lead_is)
spent_body bytes _ h = let e = h.lead_is in absurd (cc)

-- LINE FEEDS, AND THE END OF A STOP LINE

-- a text has a line feed where the test says so
pub feeds : (xs : List ℕ) (r : Bool) → r ≡ list_any (λ b. b == 10) xs → (r ≡ false → HasNoLineFeed xs) × (r ≡ true → HasNoLineFeed xs → ⊥)
feeds xs r e = ((λ fails. none xs (sym e ∙ fails)), (λ passes. some xs (sym e ∙ passes)))
  where
    none : (xs : List ℕ) → list_any (λ b. b == 10) xs ≡ false → HasNoLineFeed xs
    none [] h = tt
    none (b ∷ bs) h =
        elim (eqb b 10) as (λ p. eqb b 10 ≡ p → (p || list_any (λ c. c == 10) bs) ≡ false → (b ≢ 10) × HasNoLineFeed bs) [
          | true ↦ λ t h. let f : true ≡ false = h in absurd (cc)
          | false ↦ λ t h. (let other : b ≢ 10 = grind (arith, nat_tests) in other, none bs h)
        ] refl h

    some : (xs : List ℕ) → list_any (λ b. b == 10) xs ≡ true → HasNoLineFeed xs → ⊥
    some [] h k = let f : false ≡ true = h in cc
    some (b ∷ bs) h k =
        elim (eqb b 10) as (λ p. eqb b 10 ≡ p → (p || list_any (λ c. c == 10) bs) ≡ true → ⊥) [
          | true ↦ λ t h. k.0 (let same : b ≡ 10 = grind (arith, nat_tests) in same)
          | false ↦ λ t h. some bs h k.1
        ] refl h

pub no_which : (rest : List ℕ) → (rest ≡ codes " norm" → ⊥) → (rest ≡ codes " degree" → ⊥) → (w : Which) → rest ≡ 32 ∷ which_text w → ⊥
no_which rest norm degree Norm e = norm e
no_which rest norm degree Degree e = degree e
