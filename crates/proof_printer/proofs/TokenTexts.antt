-- The text of a polynomial as tokens: single bytes, and names of variables.
use Rattle.std.proofs.Common.{◌≡◌, ℕ, zero, suc, ◌<◌, ◌≤◌, ◌^◌, Bool, true, false, cond, eqb, List, [], ◌∷◌, ◌++◌, map, refl, sym, ap, ap₂, subst, ◌∙◌, append_assoc, arith, lit<, lit≤}
use Rattle.std.specs.Prelude.{ℤ, pos, negsuc, codes, unsigned_abs}
use Rattle.std.specs.Fmt.{decimal}
use Rattle.std.specs.List.{flat_map, join_with_byte}
use Rattle.std.proofs.lemmas.Bool.Decides.{nat_tests}
use Rattle.std.proofs.lemmas.List.{append-nil, map-append}
use Rattle.geo_poly.specs.declared.variables.Var.{Var}
use Rattle.geo_poly.specs.Monomials.{Powers}
use Rattle.geo_poly.specs.Polynomials.{Summands}
use Rattle.proof_log.specs.Inner.Reading.{Passes, StopsAt, is_exponent_byte, is_number_byte, is_plain_byte}
use Rattle.proof_log.specs.Lines.{sign_text, variable_name}
use Rattle.proof_log.specs.Lines as logs
use Rattle.proof_log.specs.Writable.{CanWriteFactor, CanWriteMonomial, CanWritePolynomial, IsVariable}
use Rattle.proof_log.proofs.Runs.{decimal_passes, wide}
use Rattle.proof_log.proofs.Unique.{exponent_stops}
use Rattle.proof_log.proofs.UniqueTerms.{factor_monomial, monomial_item, monomial_tail, polynomial_item, polynomial_tail}
use Rattle.proof_printer.specs.Inner.Reading.{AreTokens, Tokens, byte_token, name_token, spelled, variables_in}
use Rattle.proof_printer.specs.Naming.{Naming, variable_text}
use Rattle.proof_printer.specs.Polynomials.{exponent_text, polynomial_text}

-- TEXTS with any names
module _ (name : Var → List ℕ) where
  abbrev power_by : Var × ℕ → List ℕ
  power_by p = codes "*" ++ name p.0 ++ exponent_text p.1

  abbrev term_by : Powers × ℤ → List ℕ
  term_by t = sign_text t.1 ++ decimal (unsigned_abs t.1) ++ flat_map power_by t.0

  abbrev polynomial_by : Summands → List ℕ
  polynomial_by [] = codes "0"
  polynomial_by (t ∷ ts) = join_with_byte 32 (map term_by (t ∷ ts))

in_log : (q : Summands) → logs.polynomial_text q ≡ polynomial_by variable_name q
in_log [] = refl
in_log (t ∷ ts) = refl

in_proof : (n : Naming) (q : Summands) → polynomial_text n q ≡ polynomial_by (variable_text n) q
in_proof n [] = refl
in_proof n (t ∷ ts) = refl

-- THE TOKENS
-- bytes, and then these
abbrev bytes_then : List ℕ → Tokens → Tokens
bytes_then [] ts = ts
bytes_then (b ∷ bs) ts = byte_token b ∷ bytes_then bs ts

abbrev powers_then : Powers → Tokens → Tokens
powers_then [] ts = ts
powers_then (p ∷ m) ts = byte_token 42 ∷ name_token p.0 ∷ bytes_then (exponent_text p.1) (powers_then m ts)

abbrev term_then : Powers × ℤ → Tokens → Tokens
term_then t ts = bytes_then (sign_text t.1) (bytes_then (decimal (unsigned_abs t.1)) (powers_then t.0 ts))

abbrev more_terms : Summands → Tokens
more_terms [] = []
more_terms (t ∷ ts) = byte_token 32 ∷ term_then t (more_terms ts)

abbrev pub tokens_of : Summands → Tokens
tokens_of [] = byte_token 48 ∷ []
tokens_of (t ∷ ts) = term_then t (more_terms ts)

-- THEIR TEXT
module _ (name : Var → List ℕ) where
  bytes_spelled : (bs : List ℕ) (ts : Tokens) → spelled name (bytes_then bs ts) ≡ bs ++ spelled name ts
  bytes_spelled [] ts = refl
  bytes_spelled (b ∷ bs) ts = ap (λ (l : List ℕ). b ∷ l) (bytes_spelled bs ts)

  powers_spelled : (m : Powers) (ts : Tokens) → spelled name (powers_then m ts) ≡ flat_map (power_by name) m ++ spelled name ts
  powers_spelled [] ts = refl
  powers_spelled (p ∷ m) ts =
      ap (λ (l : List ℕ). 42 ∷ (name p.0 ++ l)) (bytes_spelled (exponent_text p.1) (powers_then m ts) ∙ ap (λ (l : List ℕ). exponent_text p.1 ++ l) (powers_spelled m ts))
      ∙ ap (λ (l : List ℕ). 42 ∷ l)
      (sym (append_assoc (name p.0) (exponent_text p.1) (flat_map (power_by name) m ++ spelled name ts))
      ∙ sym (append_assoc (name p.0 ++ exponent_text p.1) (flat_map (power_by name) m) (spelled name ts)))

  term_spelled : (t : Powers × ℤ) (ts : Tokens) → spelled name (term_then t ts) ≡ term_by name t ++ spelled name ts
  term_spelled t ts =
      bytes_spelled (sign_text t.1) (bytes_then (decimal (unsigned_abs t.1)) (powers_then t.0 ts))
      ∙ ap (λ (l : List ℕ). sign_text t.1 ++ l) (bytes_spelled (decimal (unsigned_abs t.1)) (powers_then t.0 ts) ∙ ap (λ (l : List ℕ). decimal (unsigned_abs t.1) ++ l) (powers_spelled t.0 ts))
      ∙ sym (append_assoc (sign_text t.1) (decimal (unsigned_abs t.1)) (flat_map (power_by name) t.0 ++ spelled name ts))
      ∙ sym (append_assoc (sign_text t.1 ++ decimal (unsigned_abs t.1)) (flat_map (power_by name) t.0) (spelled name ts))

  more_spelled : (t : Powers × ℤ) (ts : Summands) → term_by name t ++ spelled name (more_terms ts) ≡ join_with_byte 32 (map (term_by name) (t ∷ ts))
  more_spelled t [] = append-nil (term_by name t)
  more_spelled t (u ∷ us) = ap (λ (l : List ℕ). term_by name t ++ 32 ∷ l) (term_spelled u (more_terms us) ∙ more_spelled u us)

  polynomial_spelled : (q : Summands) → spelled name (tokens_of q) ≡ polynomial_by name q
  polynomial_spelled [] = refl
  polynomial_spelled (t ∷ ts) = term_spelled t (more_terms ts) ∙ more_spelled t ts

pub log_spelled : (q : Summands) → spelled variable_name (tokens_of q) ≡ logs.polynomial_text q
log_spelled q = polynomial_spelled variable_name q ∙ sym (in_log q)

pub proof_spelled : (n : Naming) (q : Summands) → spelled (variable_text n) (tokens_of q) ≡ polynomial_text n q
proof_spelled n q = polynomial_spelled (variable_text n) q ∙ sym (in_proof n q)

-- THEIR VARIABLES
bytes_variables : (bs : List ℕ) (ts : Tokens) → variables_in (bytes_then bs ts) ≡ variables_in ts
bytes_variables [] ts = refl
bytes_variables (b ∷ bs) ts = bytes_variables bs ts

powers_variables : (m : Powers) (ts : Tokens) → variables_in (powers_then m ts) ≡ map (λ p. p.0) m ++ variables_in ts
powers_variables [] ts = refl
powers_variables (p ∷ m) ts = ap (λ (vs : List Var). p.0 ∷ vs) (bytes_variables (exponent_text p.1) (powers_then m ts) ∙ powers_variables m ts)

term_variables : (t : Powers × ℤ) (ts : Tokens) → variables_in (term_then t ts) ≡ map (λ p. p.0) t.0 ++ variables_in ts
term_variables t ts =
    bytes_variables (sign_text t.1) (bytes_then (decimal (unsigned_abs t.1)) (powers_then t.0 ts))
    ∙ bytes_variables (decimal (unsigned_abs t.1)) (powers_then t.0 ts) ∙ powers_variables t.0 ts

more_variables : (ts : Summands) → variables_in (more_terms ts) ≡ flat_map (λ t. map (λ p. p.0) t.0) ts
more_variables [] = refl
more_variables (t ∷ ts) = term_variables t (more_terms ts) ∙ ap (λ (vs : List Var). map (λ p. p.0) t.0 ++ vs) (more_variables ts)

pub all_variables : (q : Summands) → variables_in (tokens_of q) ≡ flat_map (λ t. map (λ p. p.0) t.0) q
all_variables [] = refl
all_variables (t ∷ ts) = term_variables t (more_terms ts) ∙ ap (λ (vs : List Var). map (λ p. p.0) t.0 ++ vs) (more_variables ts)

-- READING
number_plain : (b : ℕ) → is_number_byte b ≡ true → is_plain_byte b ≡ true
number_plain b h = grind (arith, nat_tests)

numbers_plain : (bs : List ℕ) → Passes is_number_byte bs → Passes is_plain_byte bs
numbers_plain [] h = tt
numbers_plain (b ∷ bs) h = (number_plain b h.0, numbers_plain bs h.1)

bytes_read : (bs : List ℕ) (ts : Tokens) → Passes is_plain_byte bs → AreTokens ts → AreTokens (bytes_then bs ts)
bytes_read [] ts h k = k
bytes_read (b ∷ bs) ts h k = (h.0, bytes_read bs ts h.1 k)

sign_plain : (z : ℤ) → Passes is_plain_byte (sign_text z)
sign_plain (pos n) = (refl, tt)
sign_plain (negsuc n) = (refl, tt)

decimal_plain : (n : ℕ) → n < 2 ^ 127 → Passes is_plain_byte (decimal n)
decimal_plain n h = numbers_plain (decimal n) (decimal_passes n (wide n h))

exponent_plain : (e : ℕ) → e ≤ 65535 → Passes is_plain_byte (exponent_text e)
exponent_plain e h =
    elim (eqb e 1) as (λ b. Passes is_plain_byte (cond b [] (94 ∷ decimal e))) [
      | true ↦ tt
      | false ↦ (refl, decimal_plain e (let room : 65535 < 2 ^ 127 = lit< tt in omega arith))
    ]

-- what may stand behind powers
Stop : Tokens → Type 0
Stop ts = StopsAt is_exponent_byte (spelled variable_name ts)

powers_stop : (m : Powers) (ts : Tokens) → Stop ts → Stop (powers_then m ts)
unfolding Stop
powers_stop [] ts h = h
powers_stop (p ∷ m) ts h = refl

powers_read : (m : Powers) (ts : Tokens) → CanWriteMonomial m → Stop ts → AreTokens ts → AreTokens (powers_then m ts)
unfolding Stop
powers_read [] ts h stop k = k
powers_read (p ∷ m) ts h stop k =
    let item = monomial_item [] p m h in
    let rest = powers_read m ts (monomial_tail p m h) stop k in
    let stops = exponent_stops p.1 (spelled variable_name (powers_then m ts)) (powers_stop m ts stop) in (
      refl,
      (
        item.0,
        subst (StopsAt is_number_byte) (sym (bytes_spelled variable_name (exponent_text p.1) (powers_then m ts))) stops,
        bytes_read (exponent_text p.1) (powers_then m ts) (exponent_plain p.1 item.2) rest,
      ),
    )

term_read : (t : Powers × ℤ) (ts : Tokens) → CanWriteFactor t → Stop ts → AreTokens ts → AreTokens (term_then t ts)
term_read t ts h stop k =
    bytes_read (sign_text t.1) (bytes_then (decimal (unsigned_abs t.1)) (powers_then t.0 ts)) (sign_plain t.1)
    (bytes_read (decimal (unsigned_abs t.1)) (powers_then t.0 ts) (decimal_plain (unsigned_abs t.1) h.factor.fits)
    (powers_read t.0 ts (factor_monomial t h) stop k))

more_stop : (ts : Summands) → Stop (more_terms ts)
unfolding Stop
more_stop [] = tt
more_stop (t ∷ ts) = refl

more_read : (ts : Summands) → CanWritePolynomial ts → AreTokens (more_terms ts)
more_read [] h = tt
more_read (t ∷ ts) h = (refl, term_read t (more_terms ts) (polynomial_item [] t ts h) (more_stop ts) (more_read ts (polynomial_tail t ts h)))

pub tokens_read : (q : Summands) → CanWritePolynomial q → AreTokens (tokens_of q)
tokens_read [] h = (refl, tt)
tokens_read (t ∷ ts) h = term_read t (more_terms ts) (polynomial_item [] t ts h) (more_stop ts) (more_read ts (polynomial_tail t ts h))
