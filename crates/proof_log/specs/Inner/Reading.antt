-- What stands at the beginning of bytes.
use Rattle.std.specs.Prelude.{◌≡◌, ◌^◌, ◌<◌, ◌≤◌, ◌==◌, ℕ, Bool, true, false, ℤ, unsigned_abs, List, [], ◌∷◌, ◌++◌, length, cond, codes, ltb}
use Rattle.std.specs.Char.{is_ascii_digit}
use Rattle.std.specs.Fmt.{decimal, signed_decimal}
use Rattle.std.specs.List.{flat_map}
use Rattle.geo_poly.specs.declared.variables.Var.{Var}
use Rattle.geo_poly.specs.Monomials.{Powers}
use Rattle.geo_poly.specs.Polynomials.{Summands}
use Rattle.proof_log.specs.Lines.{factor_text, numbers_text, polynomial_text, power_text, sign_text, term_text, value_text, variable_name}
use Rattle.proof_log.specs.Writable.{AreSmall, CanWriteFactor, CanWriteMonomial, CanWritePolynomial, CanWriteValue, CanWriteValues, IsVariable, numbers}

-- the bytes do not begin with one of these
abbrev pub StopsAt : (ℕ → Bool) → List ℕ → Type 0
StopsAt more [] = Unit {0}
StopsAt more (b ∷ bs) = more b ≡ false

-- each of the bytes is one of these
abbrev pub Passes : (ℕ → Bool) → List ℕ → Type 0
Passes test [] = Unit {0}
Passes test (b ∷ bs) = (test b ≡ true) × Passes test bs

-- the bytes begin with one of these
abbrev pub BeginsWith : (ℕ → Bool) → List ℕ → Type 0
BeginsWith more [] = ⊥
BeginsWith more (b ∷ bs) = more b ≡ true

-- things of one kind: their texts, which of them may be written, and which bytes may not stand behind
pub record Form (T : Type 0) : Type 1 where
  pub text : T → List ℕ
  pub fits : T → Type 0
  pub more : ℕ → Bool

-- the bytes begin with the text of x, and the rest follows
pub record Begins {T : Type 0} (form : Form T) (bytes : List ℕ) (x : T) (rest : List ℕ) : Type 0 where
  pub spelt : bytes ≡ form.text x ++ rest
  pub fits : form.fits x
  pub stops : StopsAt form.more rest

-- they begin with no text of this kind
abbrev pub NoneBegins : {T : Type 0} → Form T → List ℕ → Type 0
NoneBegins {T} form bytes = (x : T) (rest : List ℕ) → Begins form bytes x rest → ⊥

-- THE BYTES THAT MAY NOT FOLLOW

-- a digit or `-`
abbrev pub is_number_byte : ℕ → Bool
is_number_byte b = cond (b == 45) true (is_ascii_digit b)

-- besides, `^`
abbrev pub is_exponent_byte : ℕ → Bool
is_exponent_byte b = cond (b == 94) true (is_number_byte b)

-- besides, `*`
abbrev pub is_power_byte : ℕ → Bool
is_power_byte b = cond (b == 42) true (is_exponent_byte b)

-- a byte of the text of a polynomial with which no name begins: below `A`, or `^`
abbrev pub is_plain_byte : ℕ → Bool
is_plain_byte b = cond (b == 94) true (ltb b 65)

-- any byte
abbrev pub is_byte : ℕ → Bool
is_byte b = true

-- THE KINDS

-- whole numbers below `2^127` in absolute value
abbrev pub integers : Form ℤ
integers = record { text = signed_decimal; fits = λ z. unsigned_abs z < 2 ^ 127; more = is_number_byte }

-- numbers that fit so many bits
abbrev pub naturals : ℕ → Form ℕ
naturals bits = record { text = decimal; fits = λ n. n < 2 ^ bits; more = is_number_byte }

-- so many numbers of 32 bits, with dots between them
abbrev pub number_lists : ℕ → Form (List ℕ)
number_lists count = record { text = numbers_text; fits = λ ns. (length ns ≡ count) × AreSmall ns; more = is_number_byte }

-- names, also of variables that are not sorted
abbrev pub names : Form Var
names = record { text = variable_name; fits = λ v. AreSmall (numbers v); more = is_number_byte }

-- names of variables of lines
abbrev pub variables : Form Var
variables = record { text = variable_name; fits = IsVariable; more = is_number_byte }

-- an exponent, with `^` before it; nothing where it is 1
abbrev pub exponent_text : ℕ → List ℕ
exponent_text e = cond (e == 1) [] (codes "^" ++ decimal e)

-- exponents
abbrev pub exponents : Form ℕ
exponents = record { text = exponent_text; fits = λ e. (1 ≤ e) × (e ≤ 65535); more = is_exponent_byte }

-- powers of variables
abbrev pub single_powers : Form (Var × ℕ)
single_powers = record { text = power_text; fits = λ p. IsVariable p.0 × (1 ≤ p.1) × (p.1 ≤ 65535); more = is_exponent_byte }

-- what may stand behind these powers in a monomial
abbrev pub powers_after : Powers → Form Powers
powers_after done = record { text = flat_map power_text; fits = λ m. CanWriteMonomial (done ++ m); more = is_power_byte }

-- coefficients with a sign, also `+`
abbrev pub coefficients : Form ℤ
coefficients = record {
  text = λ z. sign_text z ++ decimal (unsigned_abs z);
  fits = λ z. (1 ≤ unsigned_abs z) × (unsigned_abs z < 2 ^ 127);
  more = is_number_byte;
}

-- terms of polynomials
abbrev pub terms : Form (Powers × ℤ)
terms = record { text = term_text; fits = CanWriteFactor; more = is_power_byte }

-- factors
abbrev pub factors : Form (Powers × ℤ)
factors = record { text = factor_text; fits = CanWriteFactor; more = is_power_byte }

-- a term with a space before it
abbrev pub next_term : Form (Powers × ℤ)
next_term = record { text = λ t. codes " " ++ term_text t; fits = CanWriteFactor; more = is_power_byte }

-- what may stand behind these terms, up to the end of the line
abbrev pub terms_after : Summands → Form Summands
terms_after done = record { text = flat_map (λ t. codes " " ++ term_text t); fits = λ ts. CanWritePolynomial (done ++ ts); more = is_byte }

-- polynomials, up to the end of the line
abbrev pub polynomials : Form Summands
polynomials = record { text = polynomial_text; fits = CanWritePolynomial; more = is_byte }

-- values
abbrev pub single_values : Form (Var × ℤ)
single_values = record { text = value_text; fits = CanWriteValue; more = is_number_byte }

-- lists of values, up to the end of the line
abbrev pub value_lists : Form (List (Var × ℤ))
value_lists = record { text = flat_map value_text; fits = CanWriteValues; more = is_byte }
