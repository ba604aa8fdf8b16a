-- The text of a line has no line feed, so a log is told by its text.
use Rattle.std.proofs.Common.{◌≡◌, ◌≢◌, ℕ, ◌<◌, ◌≤◌, ◌^◌, Bool, true, false, cond, eqb, List, [], ◌∷◌, ◌++◌, refl, sym, ap, ◌∙◌, subst, append_assoc, arith, lit<, lit≤}
use Rattle.std.specs.Prelude.{ℤ, pos, negsuc, unsigned_abs, codes, Option, Some, None}
use Rattle.std.specs.Fmt.{decimal, signed_decimal}
use Rattle.std.specs.List.{flat_map}
use Rattle.std.proofs.lemmas.Bool.Decides.{nat_tests}
use Rattle.geo_points.specs.declared.ids.PointId.{PointId}
use Rattle.geo_poly.specs.declared.limits.Which.{Which}
use Rattle.geo_poly.specs.declared.limits.Which.TheVariants.{Norm, Degree}
use Rattle.geo_poly.specs.declared.variables.Var.{Var}
use Rattle.geo_poly.specs.declared.variables.Var.TheVariants.{R, S, P, X, Y, T}
use Rattle.geo_poly.specs.Monomials.{Powers}
use Rattle.geo_poly.specs.Polynomials.{Summands}
use Rattle.proof_log.specs.declared.log.Line.{Line}
use Rattle.proof_log.specs.declared.log.Line.TheVariants.{Header, Program, Condition, Goal, Start, Ratio, Point, Coords, Cut, End, Sample, Verdict as VerdictLine, StopTooLarge, StopSpent}
use Rattle.proof_log.specs.declared.log.Verdict.TheVariants.{Proved, False, Impossible}
use Rattle.proof_log.specs.Lines.{factor_text, line_text, log_text, numbers_text, place_text, polynomial_text, power_text, sign_text, term_text, value_text, variable_name, which_text}
use Rattle.proof_log.specs.Writable.{AllWritable, AreSmall, CanWriteFactor, CanWriteLemma, CanWriteMonomial, CanWritePolynomial, CanWriteValues, HasNoLineFeed, IsVariable, IsWritable, numbers}
use Rattle.proof_log.specs.Inner.Reading.{Passes, exponent_text, is_number_byte, next_term}
use Rattle.proof_log.proofs.Runs.{decimal_passes, integer_passes, wide}
use Rattle.proof_log.proofs.Unique.{letter, name_parts}
use Rattle.proof_log.proofs.UniqueTerms.{factor_monomial, joined_terms, monomial_item, monomial_tail, polynomial_item, polynomial_tail}
use Rattle.proof_log.proofs.LineLeads.{lines_told}

-- no byte is a line feed, as a test
has_none : List ℕ → Bool
has_none [] = true
has_none (b ∷ bs) = cond (eqb b 10) false (has_none bs)

-- a text that is known
known : (text : List ℕ) → has_none text ≡ true → HasNoLineFeed text
unfolding has_none
known [] e = tt
known (b ∷ bs) e =
    elim (eqb b 10) as (λ p. eqb b 10 ≡ p → cond p false (has_none bs) ≡ true → (b ≢ 10) × HasNoLineFeed bs) [
      | true ↦ λ t f. let g : false ≡ true = f in absurd (cc)
      | false ↦ λ t f. (let other : b ≢ 10 = grind (arith, nat_tests) in other, known bs f)
    ] refl e

-- two texts
joined : (xs ys : List ℕ) → HasNoLineFeed xs → HasNoLineFeed ys → HasNoLineFeed (xs ++ ys)
joined [] ys h k = k
joined (x ∷ xs) ys h k = (h.0, joined xs ys h.1 k)

-- digits and `-`
number_bytes : (xs : List ℕ) → Passes is_number_byte xs → HasNoLineFeed xs
number_bytes [] h = tt
number_bytes (b ∷ bs) h = ((λ e. let t : is_number_byte 10 ≡ true = ap is_number_byte (sym e) ∙ h.0 in let f : false ≡ true = t in cc), number_bytes bs h.1)

natural : (n : ℕ) → n < 2 ^ 127 → HasNoLineFeed (decimal n)
natural n h = number_bytes (decimal n) (decimal_passes n (wide n h))

small : (n : ℕ) → n < 2 ^ 32 → HasNoLineFeed (decimal n)
small n h = let room : 2 ^ 32 ≤ 2 ^ 127 = lit≤ tt in natural n (omega arith)

long : (n : ℕ) → n < 2 ^ 64 → HasNoLineFeed (decimal n)
long n h = let room : 2 ^ 64 ≤ 2 ^ 127 = lit≤ tt in natural n (omega arith)

integer : (z : ℤ) → unsigned_abs z < 2 ^ 127 → HasNoLineFeed (signed_decimal z)
integer z h = number_bytes (signed_decimal z) (integer_passes z (wide (unsigned_abs z) h))

dotted : (ns : List ℕ) → AreSmall ns → HasNoLineFeed (numbers_text ns)
dotted [] h = tt
dotted (n ∷ []) h = small n h.0
dotted (n ∷ m ∷ ns) h = joined (decimal n) (46 ∷ numbers_text (m ∷ ns)) (small n h.0) ((λ e. let f : ◌≡◌ {A = ℕ} 46 10 = e in omega (arith, f)), dotted (m ∷ ns) h.1)

letters : (v : Var) → has_none (letter v ∷ []) ≡ true
unfolding has_none
letters (R a b c d) = refl
letters (S a b c) = refl
letters (P a b c) = refl
letters (X a) = refl
letters (Y a) = refl
letters (T t) = refl

name : (v : Var) → IsVariable v → HasNoLineFeed (variable_name v)
name v h = subst HasNoLineFeed (sym (name_parts v)) (joined (letter v ∷ []) (numbers_text (numbers v)) (known (letter v ∷ []) (letters v)) (dotted (numbers v) h.small))

caret : HasNoLineFeed (codes "^")
unfolding has_none
caret = known (codes "^") refl

star : HasNoLineFeed (codes "*")
unfolding has_none
star = known (codes "*") refl

space : HasNoLineFeed (codes " ")
unfolding has_none
space = known (codes " ") refl

exponent : (e : ℕ) → e ≤ 65535 → HasNoLineFeed (exponent_text e)
exponent e h =
    elim (eqb e 1) as (λ b. HasNoLineFeed (cond b [] (94 ∷ decimal e))) [
      | true ↦ tt
      | false ↦ joined (codes "^") (decimal e) caret (let room : 65535 < 2 ^ 32 = lit< tt in small e (omega arith))
    ]

powers : (m : Powers) → CanWriteMonomial m → HasNoLineFeed (flat_map power_text m)
powers [] h = tt
powers (p ∷ m) h =
    let item = monomial_item [] p m h in
    joined (power_text p) (flat_map power_text m)
    (joined (codes "*" ++ variable_name p.0) (exponent_text p.1) (joined (codes "*") (variable_name p.0) star (name p.0 item.0)) (exponent p.1 item.2))
    (powers m (monomial_tail p m h))

sign : (z : ℤ) → HasNoLineFeed (sign_text z)
unfolding has_none
sign (pos n) = known (codes "+") refl
sign (negsuc n) = known (codes "-") refl

term : (t : Powers × ℤ) → CanWriteFactor t → HasNoLineFeed (term_text t)
term t h =
    joined (sign_text t.1 ++ decimal (unsigned_abs t.1)) (flat_map power_text t.0)
    (joined (sign_text t.1) (decimal (unsigned_abs t.1)) (sign t.1) (natural (unsigned_abs t.1) h.factor.fits))
    (powers t.0 (factor_monomial t h))

factor : (t : Powers × ℤ) → CanWriteFactor t → HasNoLineFeed (factor_text t)
factor t h = joined (signed_decimal t.1) (flat_map power_text t.0) (integer t.1 h.factor.fits) (powers t.0 (factor_monomial t h))

terms : (ts : Summands) → CanWritePolynomial ts → HasNoLineFeed (flat_map next_term.text ts)
terms [] h = tt
terms (t ∷ ts) h =
    joined (codes " " ++ term_text t) (flat_map next_term.text ts)
    (joined (codes " ") (term_text t) space (term t (polynomial_item [] t ts h))) (terms ts (polynomial_tail t ts h))

polynomial : (q : Summands) → CanWritePolynomial q → HasNoLineFeed (polynomial_text q)
unfolding has_none
polynomial [] h = known (codes "0") refl
polynomial (t ∷ ts) h =
    subst HasNoLineFeed (sym (joined_terms t ts))
    (joined (term_text t) (flat_map next_term.text ts) (term t (polynomial_item [] t ts h)) (terms ts (polynomial_tail t ts h)))

equals : HasNoLineFeed (codes "=")
unfolding has_none
equals = known (codes "=") refl

values : (vs : List (Var × ℤ)) → CanWriteValues vs → HasNoLineFeed (flat_map value_text vs)
values [] h = tt
values (v ∷ vs) h =
    joined (value_text v) (flat_map value_text vs)
    (joined (codes " " ++ variable_name v.0 ++ codes "=") (signed_decimal v.1)
    (joined (codes " " ++ variable_name v.0) (codes "=") (joined (codes " ") (variable_name v.0) space (name v.0 h.0.variable)) equals)
    (integer v.1 h.0.fits))
    (values vs h.1)

place : (at : Option PointId) (lemma : ℕ) → CanWriteLemma lemma at → HasNoLineFeed (place_text at)
unfolding has_none
place None lemma h = tt
place (Some y) lemma h = joined (codes " at ") (decimal y.0) (known (codes " at ") refl) (small y.0 h.point)

which : (w : Which) → HasNoLineFeed (which_text w)
unfolding has_none
which Norm = known (codes "norm") refl
which Degree = known (codes "degree") refl

colon : HasNoLineFeed (codes " : ")
unfolding has_none
colon = known (codes " : ") refl

pub no_line_feed : (l : Line) → IsWritable l → HasNoLineFeed (line_text l)
unfolding has_none
no_line_feed (Header version) h =
    let few : 2 < 2 ^ 32 = lit< tt in
    joined (codes "geolog ") (decimal version) (known (codes "geolog ") refl) (small version (omega (few, h.1, arith)))
no_line_feed (Program text) h = joined (codes "| ") text (known (codes "| ") refl) h
no_line_feed (Condition k text) h =
    joined (codes "condition " ++ decimal k ++ codes " ") text
    (joined (codes "condition " ++ decimal k) (codes " ") (joined (codes "condition ") (decimal k) (known (codes "condition ") refl) (small k h.small)) space) h.one_line
no_line_feed (Goal k text) h =
    joined (codes "goal " ++ decimal k ++ codes " ") text
    (joined (codes "goal " ++ decimal k) (codes " ") (joined (codes "goal ") (decimal k) (known (codes "goal ") refl) (small k h.small)) space) h.one_line
no_line_feed (Start q) h = joined (codes "start : ") (polynomial_text q) (known (codes "start : ") refl) (polynomial q h)
no_line_feed (Ratio v lemma at q) h =
    joined (codes "ratio " ++ variable_name v ++ codes " by " ++ decimal lemma ++ place_text at ++ codes " : ") (polynomial_text q)
    (joined (codes "ratio " ++ variable_name v ++ codes " by " ++ decimal lemma ++ place_text at) (codes " : ")
    (joined (codes "ratio " ++ variable_name v ++ codes " by " ++ decimal lemma) (place_text at)
    (joined (codes "ratio " ++ variable_name v ++ codes " by ") (decimal lemma)
    (joined (codes "ratio " ++ variable_name v) (codes " by ") (joined (codes "ratio ") (variable_name v) (known (codes "ratio ") refl) (name v h.1)) (known (codes " by ") refl))
    (small lemma h.2.small))
    (place at lemma h.2))
    colon)
    (polynomial q h.3)
no_line_feed (Point at q) h =
    joined (codes "point " ++ decimal at.0 ++ codes " : ") (polynomial_text q)
    (joined (codes "point " ++ decimal at.0) (codes " : ") (joined (codes "point ") (decimal at.0) (known (codes "point ") refl) (small at.0 h.0)) colon) (polynomial q h.1)
no_line_feed (Coords q) h = joined (codes "coords : ") (polynomial_text q) (known (codes "coords : ") refl) (polynomial q h)
no_line_feed (Cut by q) h =
    joined (codes "cut " ++ factor_text by ++ codes " : ") (polynomial_text q)
    (joined (codes "cut " ++ factor_text by) (codes " : ") (joined (codes "cut ") (factor_text by) (known (codes "cut ") refl) (factor by h.0)) colon) (polynomial q h.1)
no_line_feed End h = known (codes "end") refl
no_line_feed (Sample vs) h = joined (codes "sample") (flat_map value_text vs) (known (codes "sample") refl) (values vs h)
no_line_feed (VerdictLine Proved) h = known (codes "verdict proved") refl
no_line_feed (VerdictLine (False g)) h = joined (codes "verdict false ") (decimal g) (known (codes "verdict false ") refl) (small g h)
no_line_feed (VerdictLine (Impossible k)) h = joined (codes "verdict impossible ") (decimal k) (known (codes "verdict impossible ") refl) (small k h)
no_line_feed (StopTooLarge line w) h =
    joined (codes "stop too_large " ++ decimal line ++ codes " ") (which_text w)
    (joined (codes "stop too_large " ++ decimal line) (codes " ") (joined (codes "stop too_large ") (decimal line) (known (codes "stop too_large ") refl) (long line h)) space) (which w)
no_line_feed (StopSpent line) h = joined (codes "stop spent ") (decimal line) (known (codes "stop spent ") refl) (long line h)

-- LOGS

-- the first line ends at the first line feed
first_line : (xs ys r s : List ℕ) → HasNoLineFeed xs → HasNoLineFeed ys → xs ++ (10 ∷ r) ≡ ys ++ (10 ∷ s) → (xs ≡ ys) × (r ≡ s)
first_line [] [] r s h k e = let tail : r ≡ s = cc in (refl, tail)
first_line [] (y ∷ ys) r s h k e = let same : y ≡ 10 = cc in absurd (k.0 same)
first_line (x ∷ xs) [] r s h k e = let same : x ≡ 10 = cc in absurd (h.0 same)
first_line (x ∷ xs) (y ∷ ys) r s h k e =
    let head : x ≡ y = cc in
    let tail : xs ++ (10 ∷ r) ≡ ys ++ (10 ∷ s) = cc in
    let rest = first_line xs ys r s h.1 k.1 tail in
    (λ i. head i ∷ rest.0 i, rest.1)

-- a line feed stands in the text of a log with a line
not_empty : (xs r : List ℕ) → [] ≡ xs ++ (10 ∷ r) → ⊥
not_empty [] r e = cc
not_empty (x ∷ xs) r e = cc

pub logs_told : (ls ms : List Line) → AllWritable ls → AllWritable ms → log_text ls ≡ log_text ms → ls ≡ ms
logs_told [] [] h k e = refl
logs_told [] (m ∷ ms) h k e = absurd (not_empty (line_text m) (log_text ms) (e ∙ append_assoc (line_text m) (10 ∷ []) (log_text ms)))
logs_told (l ∷ ls) [] h k e = absurd (not_empty (line_text l) (log_text ls) (sym e ∙ append_assoc (line_text l) (10 ∷ []) (log_text ls)))
logs_told (l ∷ ls) (m ∷ ms) h k e =
    let one = first_line (line_text l) (line_text m) (log_text ls) (log_text ms) (no_line_feed l h.0) (no_line_feed m k.0)
    (sym (append_assoc (line_text l) (10 ∷ []) (log_text ls)) ∙ e ∙ append_assoc (line_text m) (10 ∷ []) (log_text ms)) in
    let first = lines_told l m h.0 k.0 one.0 in
    let rest = logs_told ls ms h.1 k.1 one.1 in
    λ i. first i ∷ rest i
