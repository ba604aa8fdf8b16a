-- Each piece of bytes is the text of a line, or of none; so bytes are read line by line.
use Rattle.std.proofs.Common.{◌≡◌, ◌≢◌, ℕ, zero, suc, ◌<◌, ◌≤◌, ◌^◌, ◌⊎◌, inl, inr, ℤ, pos, Option, Some, None, List, [], ◌∷◌, ◌++◌, length, refl, sym, ◌∙◌, ap, subst, arith, lit≤}
use Rattle.std.specs.Prelude.{codes}
use Rattle.std.specs.List.{AllByRecursion}
use Rattle.std.proofs.lemmas.List.{length-append}
use Rattle.geo_points.specs.declared.ids.PointId.{PointId}
use Rattle.geo_poly.specs.declared.limits.Which.TheVariants.{Norm, Degree}
use Rattle.geo_poly.specs.declared.variables.Var.{Var}
use Rattle.geo_poly.specs.declared.variables.Var.TheVariants.{R, S, P, X as Abscissa, Y as Ordinate, T as Number}
use Rattle.geo_poly.specs.Monomials.{Powers}
use Rattle.geo_poly.specs.PolynomialVariables.{IsRatio}
use Rattle.proof_log.specs.declared.log.Line.{Line}
use Rattle.proof_log.specs.declared.log.Line.TheVariants.{Header, Program, Condition, Goal, Start, Ratio, Point, Coords, Cut, End, Sample, Verdict as VerdictLine, StopTooLarge, StopSpent}
use Rattle.proof_log.specs.declared.log.Verdict.TheVariants.{Proved, False, Impossible}
use Rattle.proof_log.specs.Inner.Leads.{IsBody, body_text, heads, last_numbers, lead_of, lead_text, leads, lemmas, results, stops, texts, versions}
use Rattle.proof_log.specs.Inner.Reading.{Begins, NoneBegins, factors, naturals, polynomials, value_lists, variables}
use Rattle.proof_log.specs.Lines.{line_text}
use Rattle.proof_log.specs.Writable.{HasNoLineFeed, IsVersion, IsWritable}
use Rattle.proof_log.proofs.Bodies.{head_no_space, head_no_text, head_read, head_unread, head_zero, last_not_ended, last_read, last_unread}
use Rattle.proof_log.proofs.Bodies.{lemma_no_at, lemma_no_point, lemma_read, lemma_unread, lemma_zero, line_parts, no_which}
use Rattle.proof_log.proofs.Bodies.{result_no_colon, result_read, result_unread, stop_other, stop_read, stop_unread, text_is, version_other}
use Rattle.proof_log.proofs.Bodies.{version_unread, whole}
use Rattle.proof_log.proofs.BodyReading.{condition_read, condition_refused, coords_read, coords_refused, cut_no_factor, cut_no_result}
use Rattle.proof_log.proofs.BodyReading.{cut_read, end_read, end_refused, false_read, false_refused, goal_read, goal_refused, header_read}
use Rattle.proof_log.proofs.BodyReading.{header_refused, impossible_read, impossible_refused, point_no_number, point_no_result, point_read}
use Rattle.proof_log.proofs.BodyReading.{program_read, program_refused, proved_read, proved_refused, ratio_no_by, ratio_no_lemma}
use Rattle.proof_log.proofs.BodyReading.{ratio_no_ratio, ratio_no_result, ratio_no_variable, ratio_read, sample_read, sample_refused}
use Rattle.proof_log.proofs.BodyReading.{spent_read, spent_refused, start_read, start_refused, too_large_read, too_large_refused}
use Rattle.proof_log.proofs.LineLeads.{anything_follows, due_body, line_from_body}
use Rattle.log_checker.specs.Judged.{AreRead, BytesAreRead}
use Rattle.log_checker.proofs.Deciding.{Decided, both_decided, none_decided, numbers_decided, texts_decided}
use Rattle.log_checker.proofs.ReadParts.{IsByteOrNone, IsFoundOrNone, at_most_decided, byte_decided, natural_decided, none_of, small_decided, text_decided, variable_decided}
use Rattle.log_checker.proofs.ReadTerms.{IsWholeOrNone, factor_decided, polynomial_decided, values_decided}

-- TEXTS
feed_decided : (s : List ℕ) → Decided (HasNoLineFeed s)
feed_decided [] = inl tt
feed_decided (b ∷ bs) = both_decided (none_of (numbers_decided b 10)) (feed_decided bs)

text_whole : (bytes : List ℕ) → IsWholeOrNone texts bytes
text_whole bytes = go (feed_decided bytes)
  where
    go : Decided (HasNoLineFeed bytes) → IsWholeOrNone texts bytes
    go (inl h) = inl (bytes, whole texts bytes bytes refl h)
    go (inr n) = inr (λ text r b. n (subst HasNoLineFeed (sym (text_is bytes text r b).0) b.fits))

head_whole : (bytes : List ℕ) → IsWholeOrNone heads bytes
head_whole bytes = go (small_decided bytes)
  where
    text : (k : ℕ) (s1 : List ℕ) (number : Begins (naturals 32) bytes k s1) → 1 ≤ k → (s2 : List ℕ) → s1 ≡ 32 ∷ s2 → IsWholeOrNone texts s2 → IsWholeOrNone heads bytes
    text k s1 number some s2 space (inl h) = inl ((k, h.0), head_read bytes k s1 number s2 space h.0 some h.1)
    text k s1 number some s2 space (inr n) = inr (head_no_text bytes k s1 number s2 space n)

    spaced : (k : ℕ) (s1 : List ℕ) → Begins (naturals 32) bytes k s1 → Decided (1 ≤ k) → IsByteOrNone 32 s1 → IsWholeOrNone heads bytes
    spaced k s1 number (inr none) d = inr (head_zero bytes k s1 number none)
    spaced k s1 number (inl some) (inr n) = inr (head_no_space bytes k s1 number n)
    spaced k s1 number (inl some) (inl h) = text k s1 number some h.0 h.1 (text_whole h.0)

    go : IsFoundOrNone (naturals 32) bytes → IsWholeOrNone heads bytes
    go (inl h) = spaced h.0 h.1 h.2 (at_most_decided 1 h.0) (byte_decided 32 h.1)
    go (inr n) = inr (head_unread bytes n)

-- NUMBERS AT THE END
last_whole : (bits : ℕ) → 2 ^ bits ≤ 2 ^ 64 → (bytes : List ℕ) → IsWholeOrNone (last_numbers bits) bytes
last_whole bits room bytes = go (natural_decided bits room bytes)
  where
    ended : (n : ℕ) (rest : List ℕ) → Begins (naturals bits) bytes n rest → Decided (rest ≡ []) → IsWholeOrNone (last_numbers bits) bytes
    ended n rest h (inl e) = inl (n, last_read bits bytes n rest h e)
    ended n rest h (inr some) = inr (last_not_ended bits room bytes n rest h some)

    go : IsFoundOrNone (naturals bits) bytes → IsWholeOrNone (last_numbers bits) bytes
    go (inl h) = ended h.0 h.1 h.2 (none_decided h.1)
    go (inr n) = inr (last_unread bits bytes n)

version_whole : (bytes : List ℕ) → IsWholeOrNone versions bytes
version_whole bytes = go (last_whole 32 (lit≤ tt) bytes)
  where
    ended : (n : ℕ) → Begins (last_numbers 32) bytes n [] → Decided (IsVersion n) → IsWholeOrNone versions bytes
    ended n h (inl v) = inl (n, record { spelt = h.spelt; fits = v; stops = tt })
    ended n h (inr v) = inr (version_other bytes n h v)

    go : IsWholeOrNone (last_numbers 32) bytes → IsWholeOrNone versions bytes
    go (inl h) = ended h.0 h.1 (both_decided (at_most_decided 1 h.0) (at_most_decided h.0 2))
    go (inr n) = inr (version_unread bytes n)

stop_whole : (bytes : List ℕ) → IsWholeOrNone stops bytes
stop_whole bytes = go (natural_decided 64 (lit≤ tt) bytes)
  where
    ended : (n : ℕ) (rest : List ℕ) → Begins (naturals 64) bytes n rest → Decided (rest ≡ codes " norm") → Decided (rest ≡ codes " degree") → IsWholeOrNone stops bytes
    ended n rest h (inl e) d = inl ((n, Norm), stop_read bytes rest n Norm h e)
    ended n rest h (inr norm) (inl e) = inl ((n, Degree), stop_read bytes rest n Degree h e)
    ended n rest h (inr norm) (inr degree) = inr (stop_other bytes rest n h (no_which rest norm degree))

    go : IsFoundOrNone (naturals 64) bytes → IsWholeOrNone stops bytes
    go (inl h) = ended h.0 h.1 h.2 (texts_decided h.1 (codes " norm")) (texts_decided h.1 (codes " degree"))
    go (inr n) = inr (stop_unread bytes n)

-- RESULTS AND LEMMAS
result_whole : (bytes : List ℕ) → IsWholeOrNone results bytes
result_whole bytes = go (text_decided (codes " : ") bytes)
  where
    read : (s1 : List ℕ) → bytes ≡ codes " : " ++ s1 → IsWholeOrNone polynomials s1 → IsWholeOrNone results bytes
    read s1 colon (inl h) = inl (h.0, result_read bytes s1 colon h.0 h.1)
    read s1 colon (inr n) = inr (result_unread bytes s1 colon n)

    go : ((rest : List ℕ) × (bytes ≡ codes " : " ++ rest)) ⊎ ((rest : List ℕ) → bytes ≡ codes " : " ++ rest → ⊥) → IsWholeOrNone results bytes
    go (inl h) = read h.0 h.1 (polynomial_decided h.0)
    go (inr n) = inr (result_no_colon bytes n)

lemma_decided : (bytes : List ℕ) → IsFoundOrNone lemmas bytes
lemma_decided bytes = go (small_decided bytes)
  where
    point : (n : ℕ) (s1 : List ℕ) (number : Begins (naturals 32) bytes n s1) (other : n ≡ 0 → ⊥) (s2 : List ℕ) → s1 ≡ codes " at " ++ s2 → IsFoundOrNone (naturals 32) s2
        → IsFoundOrNone lemmas bytes
    point n s1 number other s2 at (inl h) = inl ((n, Some (record { 0 = h.0 })), h.1, lemma_read bytes n s1 number other s2 at h.0 h.1 h.2)
    point n s1 number other s2 at (inr none) = inr (lemma_no_point bytes n s1 number other s2 at none)

    placed : (n : ℕ) (s1 : List ℕ) → Begins (naturals 32) bytes n s1 → Decided (n ≡ 0)
        → ((rest : List ℕ) × (s1 ≡ codes " at " ++ rest)) ⊎ ((rest : List ℕ) → s1 ≡ codes " at " ++ rest → ⊥) → IsFoundOrNone lemmas bytes
    placed n s1 number (inl e) d = inl ((0, None), s1, lemma_zero bytes n s1 number e)
    placed n s1 number (inr other) (inl h) = point n s1 number other h.0 h.1 (small_decided h.0)
    placed n s1 number (inr other) (inr none) = inr (lemma_no_at bytes n s1 number other none)

    go : IsFoundOrNone (naturals 32) bytes → IsFoundOrNone lemmas bytes
    go (inl h) = placed h.0 h.1 h.2 (numbers_decided h.0 0) (text_decided (codes " at ") h.1)
    go (inr n) = inr (lemma_unread bytes n)

-- BODIES
-- the bytes are what follows in some line the words that this line begins with, or in none
abbrev IsBodyOrNone : Line → List ℕ → Type 0
IsBodyOrNone like bytes = ((l : Line) × IsBody (lead_of like) bytes l) ⊎ ((l : Line) → IsBody (lead_of like) bytes l → ⊥)

-- a line of each kind, whatever it says
abbrev some_ratio : Line
some_ratio = Ratio (Abscissa (record { 0 = 0 })) 0 None []

abbrev some_point : Line
some_point = Point (record { 0 = 0 }) []

abbrev some_cut : Line
some_cut = Cut ([], pos 0) []

ratio_body : (bytes : List ℕ) → IsBodyOrNone some_ratio bytes
ratio_body bytes = go (variable_decided bytes)
  where
    result : (v : Var) (s1 : List ℕ) (read : Begins variables bytes v s1) → IsRatio v → (s2 : List ℕ) (by : s1 ≡ codes " by " ++ s2) (lemma : ℕ × Option PointId) (s3 : List ℕ)
        (found : Begins lemmas s2 lemma s3) → IsWholeOrNone results s3 → IsBodyOrNone some_ratio bytes
    result v s1 read ratio s2 by lemma s3 found (inl h) = inl (Ratio v lemma.0 lemma.1 h.0, ratio_read bytes s1 v read s2 by lemma s3 found h.0 ratio h.1)
    result v s1 read ratio s2 by lemma s3 found (inr n) = inr (ratio_no_result bytes s1 v read s2 by lemma s3 found n)

    lemmed : (v : Var) (s1 : List ℕ) (read : Begins variables bytes v s1) → IsRatio v → (s2 : List ℕ) (by : s1 ≡ codes " by " ++ s2) → IsFoundOrNone lemmas s2 → IsBodyOrNone some_ratio bytes
    lemmed v s1 read ratio s2 by (inl h) = result v s1 read ratio s2 by h.0 h.1 h.2 (result_whole h.1)
    lemmed v s1 read ratio s2 by (inr n) = inr (ratio_no_lemma bytes s1 v read s2 by n)

    worded : (v : Var) (s1 : List ℕ) → Begins variables bytes v s1 → Decided (IsRatio v)
        → ((rest : List ℕ) × (s1 ≡ codes " by " ++ rest)) ⊎ ((rest : List ℕ) → s1 ≡ codes " by " ++ rest → ⊥) → IsBodyOrNone some_ratio bytes
    worded v s1 read (inr none) d = inr (ratio_no_ratio bytes s1 v read none)
    worded v s1 read (inl ratio) (inr none) = inr (ratio_no_by bytes s1 v read none)
    worded v s1 read (inl ratio) (inl h) = lemmed v s1 read ratio h.0 h.1 (lemma_decided h.0)

    ratio_decided : (v : Var) → Decided (IsRatio v)
    ratio_decided (R a b c d) = inl tt
    ratio_decided (S a b c) = inr (λ h. h)
    ratio_decided (P a b c) = inr (λ h. h)
    ratio_decided (Abscissa a) = inr (λ h. h)
    ratio_decided (Ordinate a) = inr (λ h. h)
    ratio_decided (Number t) = inr (λ h. h)

    go : IsFoundOrNone variables bytes → IsBodyOrNone some_ratio bytes
    go (inl h) = worded h.0 h.1 h.2 (ratio_decided h.0) (text_decided (codes " by ") h.1)
    go (inr n) = inr (ratio_no_variable bytes n)

point_body : (bytes : List ℕ) → IsBodyOrNone some_point bytes
point_body bytes = go (small_decided bytes)
  where
    result : (n : ℕ) (s1 : List ℕ) → Begins (naturals 32) bytes n s1 → IsWholeOrNone results s1 → IsBodyOrNone some_point bytes
    result n s1 read (inl h) = inl (Point (record { 0 = n }) h.0, point_read bytes s1 n read h.0 h.1)
    result n s1 read (inr none) = inr (point_no_result bytes s1 n read none)

    go : IsFoundOrNone (naturals 32) bytes → IsBodyOrNone some_point bytes
    go (inl h) = result h.0 h.1 h.2 (result_whole h.1)
    go (inr n) = inr (point_no_number bytes n)

cut_body : (bytes : List ℕ) → IsBodyOrNone some_cut bytes
cut_body bytes = go (factor_decided bytes)
  where
    result : (f : Powers × ℤ) (s1 : List ℕ) → Begins factors bytes f s1 → IsWholeOrNone results s1 → IsBodyOrNone some_cut bytes
    result f s1 read (inl h) = inl (Cut f h.0, cut_read bytes s1 f read h.0 h.1)
    result f s1 read (inr none) = inr (cut_no_result bytes s1 f read none)

    go : IsFoundOrNone factors bytes → IsBodyOrNone some_cut bytes
    go (inl h) = result h.0 h.1 h.2 (result_whole h.1)
    go (inr n) = inr (cut_no_factor bytes n)

-- a body of one thing, up to the end of the line
body_of : {T : Type 0} (like : Line) (bytes : List ℕ) (A : T → Type 0) (line : T → Line) → ((x : T) → A x → IsBody (lead_of like) bytes (line x)) → (Refused : Type 0)
    → (Refused → (l : Line) → IsBody (lead_of like) bytes l → ⊥) → ((x : T) × A x) ⊎ Refused → IsBodyOrNone like bytes
body_of like bytes A line read Refused refuse (inl h) = inl (line h.0, read h.0 h.1)
body_of like bytes A line read Refused refuse (inr n) = inr (refuse n)

empty_body : (like : Line) (bytes : List ℕ) (line : Line) → (bytes ≡ [] → IsBody (lead_of like) bytes line)
    → ((bytes ≡ [] → ⊥) → (l : Line) → IsBody (lead_of like) bytes l → ⊥) → IsBodyOrNone like bytes
empty_body like bytes line read refuse = go (none_decided bytes)
  where
    go : Decided (bytes ≡ []) → IsBodyOrNone like bytes
    go (inl e) = inl (line, read e)
    go (inr n) = inr (refuse n)

body_decided : (like : Line) (bytes : List ℕ) → IsBodyOrNone like bytes
body_decided (Header n) bytes =
    body_of (Header n) bytes (λ x. Begins versions bytes x []) (λ x. Header x) (header_read bytes) (NoneBegins versions bytes) (header_refused bytes) (version_whole bytes)
body_decided (Program t) bytes =
    body_of (Program t) bytes (λ x. Begins texts bytes x []) (λ x. Program x) (program_read bytes) (NoneBegins texts bytes) (program_refused bytes) (text_whole bytes)
body_decided (Condition k t) bytes =
    body_of (Condition k t) bytes (λ x. Begins heads bytes x []) (λ x. Condition x.0 x.1) (condition_read bytes) (NoneBegins heads bytes) (condition_refused bytes) (head_whole bytes)
body_decided (Goal k t) bytes =
    body_of (Goal k t) bytes (λ x. Begins heads bytes x []) (λ x. Goal x.0 x.1) (goal_read bytes) (NoneBegins heads bytes) (goal_refused bytes) (head_whole bytes)
body_decided (Start q) bytes =
    body_of (Start q) bytes (λ x. Begins polynomials bytes x []) (λ x. Start x) (start_read bytes) (NoneBegins polynomials bytes) (start_refused bytes) (polynomial_decided bytes)
body_decided (Ratio v lemma at q) bytes = ratio_body bytes
body_decided (Point at q) bytes = point_body bytes
body_decided (Coords q) bytes =
    body_of (Coords q) bytes (λ x. Begins polynomials bytes x []) (λ x. Coords x) (coords_read bytes) (NoneBegins polynomials bytes) (coords_refused bytes) (polynomial_decided bytes)
body_decided (Cut f q) bytes = cut_body bytes
body_decided End bytes = empty_body End bytes End (end_read bytes) (end_refused bytes)
body_decided (Sample values) bytes =
    body_of (Sample values) bytes (λ x. Begins value_lists bytes x []) (λ x. Sample x) (sample_read bytes) (NoneBegins value_lists bytes) (sample_refused bytes) (values_decided bytes)
body_decided (VerdictLine Proved) bytes = empty_body (VerdictLine Proved) bytes (VerdictLine Proved) (proved_read bytes) (proved_refused bytes)
body_decided (VerdictLine (False g)) bytes =
    body_of (VerdictLine (False g)) bytes (λ x. Begins (last_numbers 32) bytes x []) (λ x. VerdictLine (False x)) (false_read bytes) (NoneBegins (last_numbers 32) bytes) (false_refused bytes)
    (last_whole 32 (lit≤ tt) bytes)
body_decided (VerdictLine (Impossible k)) bytes =
    body_of (VerdictLine (Impossible k)) bytes (λ x. Begins (last_numbers 32) bytes x []) (λ x. VerdictLine (Impossible x)) (impossible_read bytes) (NoneBegins (last_numbers 32) bytes)
    (impossible_refused bytes) (last_whole 32 (lit≤ tt) bytes)
body_decided (StopTooLarge n which) bytes =
    body_of (StopTooLarge n which) bytes (λ x. Begins stops bytes x []) (λ x. StopTooLarge x.0 x.1) (too_large_read bytes) (NoneBegins stops bytes) (too_large_refused bytes) (stop_whole bytes)
body_decided (StopSpent n) bytes =
    body_of (StopSpent n) bytes (λ x. Begins (last_numbers 64) bytes x []) (λ x. StopSpent x) (spent_read bytes) (NoneBegins (last_numbers 64) bytes) (spent_refused bytes)
    (last_whole 64 (lit≤ tt) bytes)

-- LEADS
-- the bytes do not begin as this line does
abbrev IsLeadAbsent : List ℕ → Line → Type 0
IsLeadAbsent bytes like = (rest : List ℕ) → bytes ≡ lead_text (lead_of like) ++ rest → ⊥

abbrev IsLeadAmong : List ℕ → List Line → Type 0
IsLeadAmong bytes items = ((like : Line) × (rest : List ℕ) × (bytes ≡ lead_text (lead_of like) ++ rest)) ⊎ AllByRecursion (IsLeadAbsent bytes) items

lead_among : (bytes : List ℕ) (items : List Line) → IsLeadAmong bytes items
lead_among bytes [] = inr tt
lead_among bytes (like ∷ items) = go (text_decided (lead_text (lead_of like)) bytes) (lead_among bytes items)
  where
    go : ((rest : List ℕ) × (bytes ≡ lead_text (lead_of like) ++ rest)) ⊎ IsLeadAbsent bytes like → IsLeadAmong bytes items → IsLeadAmong bytes (like ∷ items)
    go (inl h) d = inl (like, h.0, h.1)
    go (inr n) (inl h) = inl h
    go (inr n) (inr none) = inr (n, none)

-- one line of each kind
abbrev kinds : List Line
kinds =
    Header 0 ∷ Program [] ∷ Condition 0 [] ∷ Goal 0 [] ∷ Start [] ∷ some_ratio ∷ some_point ∷ Coords [] ∷ some_cut ∷ End ∷ Sample [] ∷ VerdictLine Proved ∷ VerdictLine (False 0)
    ∷ VerdictLine (Impossible 0) ∷ StopTooLarge 0 Norm ∷ StopSpent 0 ∷ []

absent : (bytes : List ℕ) (l : Line) → AllByRecursion (IsLeadAbsent bytes) kinds → IsLeadAbsent bytes l
absent bytes (Header n) h = h.0
absent bytes (Program t) h = h.1.0
absent bytes (Condition k t) h = h.1.1.0
absent bytes (Goal k t) h = h.1.1.1.0
absent bytes (Start q) h = h.1.1.1.1.0
absent bytes (Ratio v lemma at q) h = h.1.1.1.1.1.0
absent bytes (Point at q) h = h.1.1.1.1.1.1.0
absent bytes (Coords q) h = h.1.1.1.1.1.1.1.0
absent bytes (Cut f q) h = h.1.1.1.1.1.1.1.1.0
absent bytes End h = h.1.1.1.1.1.1.1.1.1.0
absent bytes (Sample values) h = h.1.1.1.1.1.1.1.1.1.1.0
absent bytes (VerdictLine Proved) h = h.1.1.1.1.1.1.1.1.1.1.1.0
absent bytes (VerdictLine (False g)) h = h.1.1.1.1.1.1.1.1.1.1.1.1.0
absent bytes (VerdictLine (Impossible k)) h = h.1.1.1.1.1.1.1.1.1.1.1.1.1.0
absent bytes (StopTooLarge n which) h = h.1.1.1.1.1.1.1.1.1.1.1.1.1.1.0
absent bytes (StopSpent n) h = h.1.1.1.1.1.1.1.1.1.1.1.1.1.1.1.0

-- LINES
-- the piece is the text of a line, or of none
abbrev pub IsLineOrNone : List ℕ → Type 0
IsLineOrNone piece = ((l : Line) × IsWritable l × (line_text l ≡ piece)) ⊎ ((l : Line) → IsWritable l → line_text l ≢ piece)

pub line_decided : (piece : List ℕ) → IsLineOrNone piece
line_decided piece = go (lead_among piece kinds)
  where
    body : (like : Line) (rest : List ℕ) → Begins leads piece (lead_of like) rest → IsBodyOrNone like rest → IsLineOrNone piece
    body like rest h (inl k) = inl (k.0, k.1.writable, sym (line_from_body piece rest (lead_of like) k.0 h k.1))
    body like rest h (inr none) = inr (λ l w e. none l (due_body piece rest (lead_of like) l h w (sym e)))

    go : IsLeadAmong piece kinds → IsLineOrNone piece
    go (inl h) = body h.0 h.1 (record { spelt = h.2; fits = tt; stops = anything_follows h.1 }) (body_decided h.0 h.1)
    go (inr none) = inr (λ l w e. absent piece l none (body_text l) (sym e ∙ line_parts l))

-- BYTES
-- the bytes begin with a piece and its line feed, or they have no line feed
abbrev IsPieceOrRest : List ℕ → Type 0
IsPieceOrRest bytes = ((piece : List ℕ) × (rest : List ℕ) × (bytes ≡ piece ++ 10 ∷ rest) × HasNoLineFeed piece) ⊎ HasNoLineFeed bytes

piece_decided : (bytes : List ℕ) → IsPieceOrRest bytes
piece_decided [] = inr tt
piece_decided (b ∷ bs) = go (numbers_decided b 10) (piece_decided bs)
  where
    go : Decided (b ≡ 10) → IsPieceOrRest bs → IsPieceOrRest (b ∷ bs)
    go (inl e) d = inl ([], bs, ap (λ z. z ∷ bs) e, tt)
    go (inr n) (inl h) = inl (b ∷ h.0, h.1, ap (λ zs. b ∷ zs) h.2, (n, h.3))
    go (inr n) (inr none) = inr (n, none)

-- a reading of the bytes
abbrev HasReading : List ℕ → Type 0
HasReading bytes = (reads : List (Option Line)) × AreRead bytes reads

read_from : (fuel : ℕ) (bytes : List ℕ) → length bytes < fuel → HasReading bytes
read_from zero bytes few = absurd (omega (arith, few))
read_from (suc fuel) [] few = ([], refl)
read_from (suc fuel) (b ∷ bs) few = go (piece_decided (b ∷ bs)) (λ rest k. read_from fuel rest k)
  where
    some : b ∷ bs ≢ []
    some e = let q : ◌≡◌ {A = List ℕ} (b ∷ bs) [] = e in cc

    behind : (piece rest : List ℕ) → b ∷ bs ≡ piece ++ 10 ∷ rest → HasNoLineFeed piece → IsLineOrNone piece → HasReading rest → HasReading (b ∷ bs)
    behind piece rest split one (inl l) h = (Some l.0 ∷ h.0, inl (record { piece = piece; rest = rest; split = split; one_line = one; is_read = (l.1, l.2) }, h.1))
    behind piece rest split one (inr none) h = (None ∷ h.0, inl (record { piece = piece; rest = rest; split = split; one_line = one; is_read = none }, h.1))

    go : IsPieceOrRest (b ∷ bs) → ((rest : List ℕ) → length rest < fuel → HasReading rest) → HasReading (b ∷ bs)
    go (inl h) again =
        let whole_length : length (b ∷ bs) ≡ length (h.0 ++ 10 ∷ h.1) = ap length h.2 in
        let parts = length-append h.0 (10 ∷ h.1) in
        behind h.0 h.1 h.2 h.3 (line_decided h.0) (again h.1 (omega (arith, few, whole_length, parts)))
    go (inr none) again = (None ∷ [], inr (some, none, refl, refl))

pub bytes_are_read : BytesAreRead
bytes_are_read bytes = read_from (suc (length bytes)) bytes (omega arith)
