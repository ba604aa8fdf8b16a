-- The text of a line before the first `:`, and with the zero polynomial behind it.
use Rattle.std.proofs.Common.{◌≡◌, ◌≢◌, ℕ, ◌<◌, ◌≤◌, ◌^◌, Bool, true, false, cond, eqb, List, [], ◌∷◌, ◌++◌, length, refl, sym, ap, subst, ◌∙◌, append_assoc, arith, lit<, lit≤}
use Rattle.std.specs.Prelude.{ℤ, unsigned_abs, codes, not, Option, Some, None}
use Rattle.std.specs.Fmt.{decimal, signed_decimal}
use Rattle.std.specs.List.{flat_map}
use Rattle.std.proofs.lemmas.Bool.Decides.{nat_tests}
use Rattle.geo_points.specs.declared.ids.PointId.{PointId}
use Rattle.geo_poly.specs.declared.variables.Var.{Var}
use Rattle.geo_poly.specs.declared.variables.Var.TheVariants.{R, S, P, X, Y, T}
use Rattle.geo_poly.specs.Monomials.{Powers}
use Rattle.geo_poly.specs.Polynomials.{Summands}
use Rattle.proof_log.specs.declared.log.Line.{Line}
use Rattle.proof_log.specs.declared.log.Line.TheVariants.{Header, Program, Condition, Goal, Start, Ratio, Point, Coords, Cut}
use Rattle.proof_log.specs.declared.log.Line.TheVariants.{End, Sample, Verdict as VerdictLine, StopTooLarge, StopSpent}
use Rattle.proof_log.specs.Inner.Reading.{Passes, StopsAt, exponent_text, is_number_byte}
use Rattle.proof_log.specs.Lines.{factor_text, line_text, numbers_text, place_text, polynomial_text, power_text, variable_name}
use Rattle.proof_log.specs.Writable.{AreSmall, CanWriteFactor, CanWriteLemma, CanWriteMonomial, CanWritePolynomial, IsVariable, IsWritable, numbers}
use Rattle.proof_log.proofs.Runs.{decimal_passes, integer_passes, same_run, wide}
use Rattle.proof_log.proofs.Unique.{letter, name_parts}
use Rattle.proof_log.proofs.UniqueTerms.{factor_monomial, monomial_item, monomial_tail}
use Rattle.proof_printer.specs.Inner.Colons.{is_before_colon}
use Rattle.proof_printer.specs.Inner.Heads.{IsStep, has_polynomial}
use Rattle.proof_printer.proofs.PrintedLines.{nothing_written}

-- NO `:`
joined : (xs ys : List ℕ) → Passes is_before_colon xs → Passes is_before_colon ys → Passes is_before_colon (xs ++ ys)
joined [] ys h k = k
joined (x ∷ xs) ys h k = (h.0, joined xs ys h.1 k)

number_byte : (b : ℕ) → is_number_byte b ≡ true → is_before_colon b ≡ true
number_byte b h =
    elim (eqb b 58) as (λ t. eqb b 58 ≡ t → not t ≡ true) [
      | true ↦ λ e. let same : b ≡ 58 = grind (arith, nat_tests) in let f : false ≡ true = subst (λ (x : ℕ). is_number_byte x ≡ true) same h in absurd (cc)
      | false ↦ λ e. refl
    ] refl

number_bytes : (xs : List ℕ) → Passes is_number_byte xs → Passes is_before_colon xs
number_bytes [] h = tt
number_bytes (b ∷ bs) h = (number_byte b h.0, number_bytes bs h.1)

small : (n : ℕ) → n < 2 ^ 32 → Passes is_before_colon (decimal n)
small n h = let room : 2 ^ 32 ≤ 2 ^ 127 = lit≤ tt in number_bytes (decimal n) (decimal_passes n (wide n (omega arith)))

integer : (z : ℤ) → unsigned_abs z < 2 ^ 127 → Passes is_before_colon (signed_decimal z)
integer z h = number_bytes (signed_decimal z) (integer_passes z (wide (unsigned_abs z) h))

dotted : (ns : List ℕ) → AreSmall ns → Passes is_before_colon (numbers_text ns)
dotted [] h = tt
dotted (n ∷ []) h = small n h.0
dotted (n ∷ m ∷ ns) h = joined (decimal n) (46 ∷ numbers_text (m ∷ ns)) (small n h.0) (refl, dotted (m ∷ ns) h.1)

letters : (v : Var) → is_before_colon (letter v) ≡ true
letters (R a b c d) = refl
letters (S a b c) = refl
letters (P a b c) = refl
letters (X a) = refl
letters (Y a) = refl
letters (T t) = refl

name : (v : Var) → IsVariable v → Passes is_before_colon (variable_name v)
name v h = subst (Passes is_before_colon) (sym (name_parts v)) (letters v, dotted (numbers v) h.small)

exponent : (e : ℕ) → e ≤ 65535 → Passes is_before_colon (exponent_text e)
exponent e h =
    elim (eqb e 1) as (λ b. Passes is_before_colon (cond b [] (94 ∷ decimal e))) [
      | true ↦ tt
      | false ↦ (refl, let room : 65535 < 2 ^ 32 = lit< tt in small e (omega arith))
    ]

powers : (m : Powers) → CanWriteMonomial m → Passes is_before_colon (flat_map power_text m)
powers [] h = tt
powers (p ∷ m) h =
    let item = monomial_item [] p m h in
    joined (power_text p) (flat_map power_text m)
    (joined (codes "*" ++ variable_name p.0) (exponent_text p.1) (refl, name p.0 item.0) (exponent p.1 item.2))
    (powers m (monomial_tail p m h))

factor : (t : Powers × ℤ) → CanWriteFactor t → Passes is_before_colon (factor_text t)
factor t h = joined (signed_decimal t.1) (flat_map power_text t.0) (integer t.1 h.factor.fits) (powers t.0 (factor_monomial t h))

space : Passes is_before_colon (codes " ")
space = (refl, tt)

by_word : Passes is_before_colon (codes " by ")
by_word = (refl, (refl, (refl, (refl, tt))))

place : (at : Option PointId) (lemma : ℕ) → CanWriteLemma lemma at → Passes is_before_colon (place_text at)
place None lemma h = tt
place (Some y) lemma h = joined (codes " at ") (decimal y.0) (refl, (refl, (refl, (refl, tt)))) (small y.0 h.point)

-- LINES WITH A POLYNOMIAL
pub record HasStep (l : Line) : Type 0 where
  pub front : List ℕ
  pub text : List ℕ
  pub head : Line
  pub passes : Passes is_before_colon front
  pub split : line_text l ≡ front ++ codes ": " ++ text
  pub writable : IsWritable head
  pub zero : front ++ codes ": 0" ≡ line_text head
  pub step : IsStep head text l

-- behind a text and a space
colon_behind : (xs q : List ℕ) → xs ++ codes " : " ++ q ≡ (xs ++ codes " ") ++ codes ": " ++ q
colon_behind xs q = ap (λ (l : List ℕ). l ++ q) (sym (append_assoc xs (codes " ") (codes ": ")))

zero_behind : (xs : List ℕ) → (xs ++ codes " ") ++ codes ": 0" ≡ xs ++ codes " : " ++ codes "0"
zero_behind xs = append_assoc xs (codes " ") (codes ": 0") ∙ sym (append_assoc xs (codes " : ") (codes "0"))

pub has_step : (l : Line) → IsWritable l → has_polynomial l ≡ true → HasStep l
has_step (Header version) w h = absurd (cc)
has_step (Program text) w h = absurd (cc)
has_step (Condition k text) w h = absurd (cc)
has_step (Goal k text) w h = absurd (cc)
has_step End w h = absurd (cc)
has_step (Sample values) w h = absurd (cc)
has_step (VerdictLine verdict) w h = absurd (cc)
has_step (StopTooLarge line which) w h = absurd (cc)
has_step (StopSpent line) w h = absurd (cc)
has_step (Start q) w h = record {
  front = codes "start ";
  text = polynomial_text q;
  head = Start [];
  passes = (refl, (refl, (refl, (refl, (refl, (refl, tt))))));
  split = refl;
  writable = nothing_written;
  zero = refl;
  step = (q, refl, record { writable = w; spelt = refl });
}
has_step (Ratio v lemma at q) w h =
    let xs = codes "ratio " ++ variable_name v ++ codes " by " ++ decimal lemma ++ place_text at in
    record {
      front = xs ++ codes " ";
      text = polynomial_text q;
      head = Ratio v lemma at [];
      passes = joined xs (codes " ")
          (joined (codes "ratio " ++ variable_name v ++ codes " by " ++ decimal lemma) (place_text at)
          (joined (codes "ratio " ++ variable_name v ++ codes " by ") (decimal lemma)
          (joined (codes "ratio " ++ variable_name v) (codes " by ")
          (joined (codes "ratio ") (variable_name v) (refl, (refl, (refl, (refl, (refl, (refl, tt)))))) (name v w.1)) by_word)
          (small lemma w.2.small))
          (place at lemma w.2))
          space;
      split = colon_behind xs (polynomial_text q);
      writable = (w.0, w.1, w.2, nothing_written);
      zero = zero_behind xs;
      step = (q, refl, record { writable = w.3; spelt = refl });
    }
has_step (Point at q) w h =
    let xs = codes "point " ++ decimal at.0 in
    record {
      front = xs ++ codes " ";
      text = polynomial_text q;
      head = Point at [];
      passes = joined xs (codes " ") (joined (codes "point ") (decimal at.0) (refl, (refl, (refl, (refl, (refl, (refl, tt)))))) (small at.0 w.0)) space;
      split = colon_behind xs (polynomial_text q);
      writable = (w.0, nothing_written);
      zero = zero_behind xs;
      step = (q, refl, record { writable = w.1; spelt = refl });
    }
has_step (Coords q) w h = record {
  front = codes "coords ";
  text = polynomial_text q;
  head = Coords [];
  passes = (refl, (refl, (refl, (refl, (refl, (refl, (refl, tt)))))));
  split = refl;
  writable = nothing_written;
  zero = refl;
  step = (q, refl, record { writable = w; spelt = refl });
}
has_step (Cut by q) w h =
    let xs = codes "cut " ++ factor_text by in
    record {
      front = xs ++ codes " ";
      text = polynomial_text q;
      head = Cut by [];
      passes = joined xs (codes " ") (joined (codes "cut ") (factor_text by) (refl, (refl, (refl, (refl, tt)))) (factor by w.0)) space;
      split = colon_behind xs (polynomial_text q);
      writable = (w.0, nothing_written);
      zero = zero_behind xs;
      step = (q, refl, record { writable = w.1; spelt = refl });
    }

-- THE FIRST `:`
pub at_colon : (piece front behind one rest : List ℕ) → piece ≡ front ++ codes ": " ++ behind → Passes is_before_colon front → piece ≡ one ++ rest
    → Passes is_before_colon one → StopsAt is_before_colon rest → (one ≡ front) × (rest ≡ 58 ∷ 32 ∷ behind)
at_colon piece front behind one rest split passes other also stops =
    same_run is_before_colon one front rest (58 ∷ 32 ∷ behind) also passes stops refl (sym other ∙ split ∙ append_assoc front (codes ": ") behind)
