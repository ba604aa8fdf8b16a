-- Unique reading of terms, factors, polynomials and values.
use Rattle.std.proofs.lemmas.List.{append-nil}
use Rattle.std.proofs.Common.{◌≡◌, ◌≢◌, ℕ, suc, ◌<◌, ◌≤◌, ◌^◌, Bool, false, eqb, List, [], ◌∷◌, ◌++◌, refl, sym, ap, ◌∙◌, subst, append_assoc, arith}
use Rattle.std.specs.Prelude.{ℤ, pos, negsuc, unsigned_abs, codes}
use Rattle.std.specs.Fmt.{decimal, signed_decimal}
use Rattle.std.specs.List.{flat_map}
use Rattle.std.proofs.lemmas.Bool.Decides.{nat_tests}
use Rattle.std.proofs.lemmas.List.Sums.{sum_by-cons}
use Rattle.geo_poly.specs.declared.variables.Var.{Var}
use Rattle.geo_poly.specs.Monomials.{Powers, degree_of}
use Rattle.geo_poly.specs.Polynomials.{Summands, norm_of}
use Rattle.proof_log.specs.Lines.{polynomial_text, power_text, sign_text, term_text, variable_name}
use Rattle.proof_log.specs.Writable.{CanWriteFactor, CanWriteMonomial, CanWritePolynomial, CanWriteValue, CanWriteValues, IsVariable}
use Rattle.proof_log.specs.Inner.Reading.{Begins, Form, StopsAt, coefficients, exponent_text, factors, integers, is_byte, is_number_byte}
use Rattle.proof_log.specs.Inner.Reading.{is_power_byte, next_term, polynomials, powers_after, single_powers, single_values, terms}
use Rattle.proof_log.specs.Inner.Reading.{terms_after, value_lists, variables}
use Rattle.proof_log.proofs.Runs.{Unique, integers_unique}
use Rattle.proof_log.proofs.Unique.{nothing_stops, single_powers_unique, stops_exponent, stops_number, variables_unique}
use Rattle.proof_log.proofs.UniqueLists.{AreListed, list_unique, items_stop}

-- POWERS OF A MONOMIAL

pub monomial_tail : (p : Var × ℕ) (m : Powers) → CanWriteMonomial (p ∷ m) → CanWriteMonomial m
monomial_tail p m h = record {
  monomial = record {
    in_order = h.monomial.in_order.2;
    degree_fits = let sum = sum_by-cons (λ (q : Var × ℕ). q.1) p m in
        let fits : degree_of (p ∷ m) ≤ 65535 = h.monomial.degree_fits in omega arith;
  };
  variables = h.variables.1;
}

pub monomial_item : (done : Powers) (p : Var × ℕ) (m : Powers) → CanWriteMonomial (done ++ p ∷ m) → IsVariable p.0 × (1 ≤ p.1) × (p.1 ≤ 65535)
monomial_item [] p m h =
    let positive : eqb p.1 0 ≡ false = h.monomial.in_order.0 in
    let sum = sum_by-cons (λ (q : Var × ℕ). q.1) p m in
    let fits : degree_of (p ∷ m) ≤ 65535 = h.monomial.degree_fits in
    (h.variables.0, grind (arith, nat_tests), omega arith)
monomial_item (q ∷ done) p m h = monomial_item done p m (monomial_tail q (done ++ p ∷ m) h)

-- powers are listed
abbrev pub powers_listed : AreListed single_powers is_power_byte CanWriteMonomial
powers_listed = record {
  unique = single_powers_unique;
  lead = 42;
  body = λ p. variable_name p.0 ++ exponent_text p.1;
  begins = λ p. refl;
  lead_more = refl;
  lead_stops = refl;
  weaker = stops_exponent;
  item = monomial_item;
}

pub powers_unique : (done : Powers) → Unique (powers_after done)
powers_unique done bytes m n r s h k = list_unique single_powers is_power_byte CanWriteMonomial powers_listed done m n bytes r s h k

pub powers_stop : (m : Powers) (r : List ℕ) → StopsAt is_power_byte r → StopsAt is_number_byte (flat_map power_text m ++ r)
powers_stop m r h = stops_number (flat_map power_text m ++ r) (items_stop single_powers is_power_byte CanWriteMonomial powers_listed m r h)

-- COEFFICIENTS

positive_integer : (bytes : List ℕ) (n : ℕ) (r : List ℕ) → Begins coefficients bytes (pos n) r → (rest : List ℕ) × (bytes ≡ 43 ∷ rest) × Begins integers rest (pos n) r
positive_integer bytes n r h = (decimal n ++ r, h.spelt, record { spelt = refl; fits = h.fits.1; stops = h.stops })

negative_integer : (bytes : List ℕ) (n : ℕ) (r : List ℕ) → Begins coefficients bytes (negsuc n) r → (rest : List ℕ) × (bytes ≡ 45 ∷ rest) × Begins integers bytes (negsuc n) r
negative_integer bytes n r h = (decimal (suc n) ++ r, h.spelt, record { spelt = h.spelt; fits = h.fits.1; stops = h.stops })

plus_is_no_minus : (a b : List ℕ) → 43 ∷ a ≡ 45 ∷ b → ⊥
plus_is_no_minus a b e = let same : ◌≡◌ {A = ℕ} 43 45 = cc in omega (arith, same)

pub coefficients_unique : Unique coefficients
coefficients_unique bytes (pos m) (pos n) r s h k =
    let a = positive_integer bytes m r h in let b = positive_integer bytes n s k in
    let both : 43 ∷ a.0 ≡ 43 ∷ b.0 = sym a.1 ∙ b.1 in
    let tail : a.0 ≡ b.0 = cc in
    let P : List ℕ → Type 0 = λ l. Begins integers l (pos n) s in
    integers_unique a.0 (pos m) (pos n) r s a.2 (subst P (sym tail) b.2)
coefficients_unique bytes (pos m) (negsuc n) r s h k =
    let a = positive_integer bytes m r h in let b = negative_integer bytes n s k in
    absurd (plus_is_no_minus a.0 b.0 (sym a.1 ∙ b.1))
coefficients_unique bytes (negsuc m) (pos n) r s h k =
    let a = negative_integer bytes m r h in let b = positive_integer bytes n s k in
    absurd (plus_is_no_minus b.0 a.0 (sym b.1 ∙ a.1))
coefficients_unique bytes (negsuc m) (negsuc n) r s h k =
    integers_unique bytes (negsuc m) (negsuc n) r s (negative_integer bytes m r h).2 (negative_integer bytes n s k).2

-- TERMS AND FACTORS

pub factor_monomial : (t : Powers × ℤ) → CanWriteFactor t → CanWriteMonomial t.0
factor_monomial t h = record { monomial = h.factor.monomial; variables = h.variables }

factor_nonzero : (t : Powers × ℤ) → CanWriteFactor t → 1 ≤ unsigned_abs t.1
factor_nonzero t h = let nonzero : unsigned_abs t.1 ≢ 0 = h.factor.nonzero in omega arith

-- a term is a coefficient, and powers behind it
pub term_parts : (bytes : List ℕ) (t : Powers × ℤ) (r : List ℕ) → Begins terms bytes t r
    → Begins coefficients bytes t.1 (flat_map power_text t.0 ++ r) × Begins (powers_after []) (flat_map power_text t.0 ++ r) t.0 r
term_parts bytes t r h =
    let powers = flat_map power_text t.0 in (
      record {
        spelt = h.spelt ∙ append_assoc (sign_text t.1 ++ decimal (unsigned_abs t.1)) powers r;
        fits = (factor_nonzero t h.fits, h.fits.factor.fits);
        stops = powers_stop t.0 r h.stops;
      },
      record { spelt = refl; fits = factor_monomial t h.fits; stops = h.stops },
    )

-- a factor is a number, and powers behind it
pub factor_parts : (bytes : List ℕ) (t : Powers × ℤ) (r : List ℕ) → Begins factors bytes t r
    → Begins integers bytes t.1 (flat_map power_text t.0 ++ r) × Begins (powers_after []) (flat_map power_text t.0 ++ r) t.0 r
factor_parts bytes t r h = (
  record {
    spelt = h.spelt ∙ append_assoc (signed_decimal t.1) (flat_map power_text t.0) r;
    fits = h.fits.factor.fits;
    stops = powers_stop t.0 r h.stops;
  },
  record { spelt = refl; fits = factor_monomial t h.fits; stops = h.stops },
)

-- the same number and the same powers
same_parts : (bytes : List ℕ) (N : Form ℤ) (t u : Powers × ℤ) (r s : List ℕ) → Unique N → Begins N bytes t.1 (flat_map power_text t.0 ++ r)
    × Begins (powers_after []) (flat_map power_text t.0 ++ r) t.0 r
    → Begins N bytes u.1 (flat_map power_text u.0 ++ s) × Begins (powers_after []) (flat_map power_text u.0 ++ s) u.0 s → (t ≡ u) × (r ≡ s)
same_parts bytes N t u r s unique a b =
    let one = unique bytes t.1 u.1 (flat_map power_text t.0 ++ r) (flat_map power_text u.0 ++ s) a.0 b.0 in
    let P : List ℕ → Type 0 = λ l. Begins (powers_after []) l u.0 s in
    let two = powers_unique [] (flat_map power_text t.0 ++ r) t.0 u.0 r s a.1 (subst P (sym one.1) b.1) in
    (λ i. (two.0 i, one.0 i), two.1)

pub terms_unique : Unique terms
terms_unique bytes t u r s h k = same_parts bytes coefficients t u r s coefficients_unique (term_parts bytes t r h) (term_parts bytes u s k)

pub factors_unique : Unique factors
factors_unique bytes t u r s h k = same_parts bytes integers t u r s integers_unique (factor_parts bytes t r h) (factor_parts bytes u s k)

-- POLYNOMIALS

pub polynomial_tail : (t : Powers × ℤ) (ts : Summands) → CanWritePolynomial (t ∷ ts) → CanWritePolynomial ts
polynomial_tail t ts h = record {
  polynomial = record {
    in_order = h.polynomial.in_order.2;
    monomials = h.polynomial.monomials.1;
    norm_fits = let sum = sum_by-cons (λ (u : Powers × ℤ). unsigned_abs u.1) t ts in let fits : norm_of (t ∷ ts) < 2 ^ 127 = h.polynomial.norm_fits in omega arith;
  };
  variables = h.variables.1;
}

pub polynomial_item : (done : Summands) (t : Powers × ℤ) (ts : Summands) → CanWritePolynomial (done ++ t ∷ ts) → CanWriteFactor t
polynomial_item [] t ts h =
    let nonzero : eqb (unsigned_abs t.1) 0 ≡ false = h.polynomial.in_order.0 in
    let sum = sum_by-cons (λ (u : Powers × ℤ). unsigned_abs u.1) t ts in
    let fits : norm_of (t ∷ ts) < 2 ^ 127 = h.polynomial.norm_fits in
    record {
      factor = record { monomial = h.polynomial.monomials.0; nonzero = grind (arith, nat_tests); fits = omega arith };
      variables = h.variables.0;
    }
polynomial_item (u ∷ done) t ts h = polynomial_item done t ts (polynomial_tail u (done ++ t ∷ ts) h)

pub nothing_follows : (more : ℕ → Bool) (r : List ℕ) → StopsAt is_byte r → StopsAt more r
nothing_follows more r h = subst (StopsAt more) (sym (nothing_stops r h)) tt

next_parts : (bytes : List ℕ) (t : Powers × ℤ) (r : List ℕ) → Begins next_term bytes t r → Begins terms (term_text t ++ r) t r
next_parts bytes t r h = record { spelt = refl; fits = h.fits; stops = h.stops }

pub next_term_unique : Unique next_term
next_term_unique bytes t u r s h k =
    let both : 32 ∷ (term_text t ++ r) ≡ 32 ∷ (term_text u ++ s) = sym h.spelt ∙ k.spelt in
    let tail : term_text t ++ r ≡ term_text u ++ s = cc in
    let P : List ℕ → Type 0 = λ l. Begins terms l u s in
    terms_unique (term_text t ++ r) t u r s (next_parts bytes t r h) (subst P (sym tail) (next_parts bytes u s k))

abbrev pub terms_listed : AreListed next_term is_byte CanWritePolynomial
terms_listed = record {
  unique = next_term_unique;
  lead = 32;
  body = term_text;
  begins = λ t. refl;
  lead_more = refl;
  lead_stops = refl;
  weaker = nothing_follows is_power_byte;
  item = polynomial_item;
}

pub terms_after_unique : (done : Summands) → Unique (terms_after done)
terms_after_unique done bytes p q r s h k = list_unique next_term is_byte CanWritePolynomial terms_listed done p q bytes r s h k

-- the terms with spaces between them
pub joined_terms : (t : Powers × ℤ) (ts : Summands) → polynomial_text (t ∷ ts) ≡ term_text t ++ flat_map next_term.text ts
joined_terms t [] = sym (append-nil (term_text t))
joined_terms t (u ∷ ts) = ap (λ l. term_text t ++ (32 ∷ l)) (joined_terms u ts)

-- a polynomial that is not zero is a term, and others behind it
pub polynomial_parts : (bytes : List ℕ) (t : Powers × ℤ) (ts : Summands) (r : List ℕ) → Begins polynomials bytes (t ∷ ts) r
    → Begins terms bytes t (flat_map next_term.text ts ++ r) × Begins (terms_after (t ∷ [])) (flat_map next_term.text ts ++ r) ts r
polynomial_parts bytes t ts r h = (
  record {
    spelt = h.spelt ∙ ap (λ l. l ++ r) (joined_terms t ts) ∙ append_assoc (term_text t) (flat_map next_term.text ts) r;
    fits = polynomial_item [] t ts h.fits;
    stops = items_stop next_term is_byte CanWritePolynomial terms_listed ts r h.stops;
  },
  record { spelt = refl; fits = h.fits; stops = h.stops },
)

-- a term does not begin with `0`
pub term_is_no_zero : (t : Powers × ℤ) (r s : List ℕ) → term_text t ++ r ≡ 48 ∷ s → ⊥
term_is_no_zero t r s e = first t.1 (decimal (unsigned_abs t.1)) (flat_map power_text t.0) r s e
  where
    first : (z : ℤ) (d p r s : List ℕ) → (sign_text z ++ d ++ p) ++ r ≡ 48 ∷ s → ⊥
    first (pos n) d p r s e = let same : ◌≡◌ {A = ℕ} 43 48 = cc in omega (arith, same)
    first (negsuc n) d p r s e = let same : ◌≡◌ {A = ℕ} 45 48 = cc in omega (arith, same)

pub polynomials_unique : Unique polynomials
polynomials_unique bytes [] [] r s h k = let both : 48 ∷ r ≡ 48 ∷ s = sym h.spelt ∙ k.spelt in let tail : r ≡ s = cc in (refl, tail)
polynomials_unique bytes [] (u ∷ us) r s h k =
    absurd (term_is_no_zero u (flat_map next_term.text us ++ s) r (sym (polynomial_parts bytes u us s k).0.spelt ∙ h.spelt))
polynomials_unique bytes (t ∷ ts) [] r s h k =
    absurd (term_is_no_zero t (flat_map next_term.text ts ++ r) s (sym (polynomial_parts bytes t ts r h).0.spelt ∙ k.spelt))
polynomials_unique bytes (t ∷ ts) (u ∷ us) r s h k =
    let a = polynomial_parts bytes t ts r h in let b = polynomial_parts bytes u us s k in
    let one = terms_unique bytes t u (flat_map next_term.text ts ++ r) (flat_map next_term.text us ++ s) a.0 b.0 in
    let P : List ℕ → Type 0 = λ l. Begins (terms_after (u ∷ [])) l us s in
    let Q : (Powers × ℤ) → Type 0 = λ v. Begins (terms_after (v ∷ [])) (flat_map next_term.text ts ++ r) us s in
    let two = terms_after_unique (t ∷ []) (flat_map next_term.text ts ++ r) ts us r s a.1 (subst Q (sym one.0) (subst P (sym one.1) b.1)) in
    (λ i. one.0 i ∷ two.0 i, two.1)

-- VALUES

-- a value is a variable, and a number behind `=`
pub value_parts : (bytes : List ℕ) (v : Var × ℤ) (r : List ℕ) → Begins single_values bytes v r → (rest : List ℕ) × (bytes ≡ 32 ∷ rest)
    × Begins variables rest v.0 (61 ∷ (signed_decimal v.1 ++ r)) × Begins integers (signed_decimal v.1 ++ r) v.1 r
value_parts bytes v r h = (
  variable_name v.0 ++ (61 ∷ (signed_decimal v.1 ++ r)),
  h.spelt ∙ ap (λ l. 32 ∷ l) (append_assoc (variable_name v.0 ++ codes "=") (signed_decimal v.1) r ∙ append_assoc (variable_name v.0) (codes "=") (signed_decimal v.1 ++ r)),
  record { spelt = refl; fits = h.fits.variable; stops = refl },
  record { spelt = refl; fits = h.fits.fits; stops = h.stops },
)

pub single_values_unique : Unique single_values
single_values_unique bytes v w r s h k =
    let a = value_parts bytes v r h in let b = value_parts bytes w s k in
    let both : 32 ∷ a.0 ≡ 32 ∷ b.0 = sym a.1 ∙ b.1 in
    let tail : a.0 ≡ b.0 = cc in
    let P : List ℕ → Type 0 = λ l. Begins variables l w.0 (61 ∷ (signed_decimal w.1 ++ s)) in
    let one = variables_unique a.0 v.0 w.0 (61 ∷ (signed_decimal v.1 ++ r)) (61 ∷ (signed_decimal w.1 ++ s)) a.2 (subst P (sym tail) b.2) in
    let both_rest : 61 ∷ (signed_decimal v.1 ++ r) ≡ 61 ∷ (signed_decimal w.1 ++ s) = one.1 in
    let rest : signed_decimal v.1 ++ r ≡ signed_decimal w.1 ++ s = cc in
    let Q : List ℕ → Type 0 = λ l. Begins integers l w.1 s in
    let two = integers_unique (signed_decimal v.1 ++ r) v.1 w.1 r s a.3 (subst Q (sym rest) b.3) in
    (λ i. (one.0 i, two.0 i), two.1)

pub value_item : (done : List (Var × ℤ)) (v : Var × ℤ) (vs : List (Var × ℤ)) → CanWriteValues (done ++ v ∷ vs) → CanWriteValue v
value_item [] v vs h = h.0
value_item (w ∷ done) v vs h = value_item done v vs h.1

abbrev pub values_listed : AreListed single_values is_byte CanWriteValues
values_listed = record {
  unique = single_values_unique;
  lead = 32;
  body = λ v. variable_name v.0 ++ codes "=" ++ signed_decimal v.1;
  begins = λ v. refl;
  lead_more = refl;
  lead_stops = refl;
  weaker = nothing_follows is_number_byte;
  item = value_item;
}

pub value_lists_unique : Unique value_lists
value_lists_unique bytes v w r s h k = list_unique single_values is_byte CanWriteValues values_listed [] v w bytes r s h k
