-- Unique reading of names and powers.
use Rattle.std.proofs.Common.{◌≡◌, ℕ, ◌<◌, ◌≤◌, ◌^◌, Bool, true, false, cond, eqb, List, [], ◌∷◌, ◌++◌, length, get_or, refl, sym, ap, ◌∙◌, subst, append_assoc, arith, lit≤, lit<}
use Rattle.std.specs.Fmt.{decimal}
use Rattle.std.proofs.lemmas.Bool.Decides.{nat_tests}
use Rattle.geo_points.specs.declared.ids.PointId.{PointId}
use Rattle.geo_poly.specs.declared.variables.Var.{Var}
use Rattle.geo_poly.specs.declared.variables.Var.TheVariants.{R, S, P, X, Y, T}
use Rattle.proof_log.specs.Lines.{numbers_text, variable_name}
use Rattle.proof_log.specs.Writable.{AreSmall, numbers}
use Rattle.proof_log.specs.Inner.Reading.{Begins, StopsAt, exponent_text, exponents, is_byte, is_exponent_byte, is_number_byte, is_power_byte, names, naturals, number_lists, single_powers, variables}
use Rattle.proof_log.proofs.Runs.{Unique, naturals_unique}

-- what stops more stops less
pub stops_number : (r : List ℕ) → StopsAt is_exponent_byte r → StopsAt is_number_byte r
stops_number [] h = tt
stops_number (b ∷ bs) h = weaker (eqb b 94) (is_number_byte b) h
  where
    weaker : (p q : Bool) → cond p true q ≡ false → q ≡ false
    weaker true q e = let f : true ≡ false = e in cc
    weaker false q e = e

pub stops_exponent : (r : List ℕ) → StopsAt is_power_byte r → StopsAt is_exponent_byte r
stops_exponent [] h = tt
stops_exponent (b ∷ bs) h = weaker (eqb b 42) (is_exponent_byte b) h
  where
    weaker : (p q : Bool) → cond p true q ≡ false → q ≡ false
    weaker true q e = let f : true ≡ false = e in cc
    weaker false q e = e

pub nothing_stops : (r : List ℕ) → StopsAt is_byte r → r ≡ []
nothing_stops [] h = refl
nothing_stops (b ∷ bs) h = let f : true ≡ false = h in absurd (cc)

-- a byte that does not stop
pub not_stopped : (more : ℕ → Bool) (b : ℕ) (bs r : List ℕ) → more b ≡ true → StopsAt more r → r ≡ b ∷ bs → ⊥
not_stopped more b bs r t h e = let at : more b ≡ false = subst (StopsAt more) e h in let f : true ≡ false = sym t ∙ at in cc

-- LISTS OF NUMBERS

begins_natural : (n : ℕ) (r : List ℕ) → n < 2 ^ 32 → StopsAt is_number_byte r → (bytes : List ℕ) → bytes ≡ decimal n ++ r → Begins (naturals 32) bytes n r
begins_natural n r small stops bytes e = record { spelt = e; fits = small; stops = stops }

pub small_unique : Unique (naturals 32)
small_unique = naturals_unique 32 (lit≤ tt)

numbers_unique : (xs ys r s : List ℕ) → length xs ≡ length ys → AreSmall xs → AreSmall ys → StopsAt is_number_byte r
    → StopsAt is_number_byte s → numbers_text xs ++ r ≡ numbers_text ys ++ s → (xs ≡ ys) × (r ≡ s)
numbers_unique [] [] r s n p q h k e = (refl, e)
numbers_unique [] (y ∷ ys) r s n p q h k e = absurd (omega arith)
numbers_unique (x ∷ xs) [] r s n p q h k e = absurd (omega arith)
numbers_unique (x ∷ []) (y ∷ []) r s n p q h k e =
    let one = small_unique (decimal x ++ r) x y r s (begins_natural x r p.0 h _ refl) (begins_natural y s q.0 k _ e) in
    (ap (λ z. z ∷ []) one.0, one.1)
numbers_unique (x ∷ []) (y ∷ y' ∷ ys) r s n p q h k e = absurd (omega arith)
numbers_unique (x ∷ x' ∷ xs) (y ∷ []) r s n p q h k e = absurd (omega arith)
numbers_unique (x ∷ x' ∷ xs) (y ∷ y' ∷ ys) r s n p q h k e =
    let A = 46 ∷ (numbers_text (x' ∷ xs) ++ r) in
    let B = 46 ∷ (numbers_text (y' ∷ ys) ++ s) in
    let left : decimal x ++ A ≡ decimal y ++ B =
    sym (append_assoc (decimal x) (46 ∷ numbers_text (x' ∷ xs)) r) ∙ e ∙ append_assoc (decimal y) (46 ∷ numbers_text (y' ∷ ys)) s in
    let one = small_unique (decimal x ++ A) x y A B (begins_natural x A p.0 refl _ refl) (begins_natural y B q.0 refl _ left) in
    let tail : numbers_text (x' ∷ xs) ++ r ≡ numbers_text (y' ∷ ys) ++ s = let at : A ≡ B = one.1 in cc in
    let rest = numbers_unique (x' ∷ xs) (y' ∷ ys) r s (omega arith) p.1 q.1 h k tail in
    let same : x ≡ y = one.0 in
    let others : (x' ∷ xs) ≡ (y' ∷ ys) = rest.0 in
    let whole : (x ∷ x' ∷ xs) ≡ (y ∷ y' ∷ ys) = cc in
    (whole, rest.1)

pub number_lists_unique : (count : ℕ) → Unique (number_lists count)
number_lists_unique count bytes xs ys r s h k =
    numbers_unique xs ys r s (h.fits.0 ∙ sym k.fits.0) h.fits.1 k.fits.1 h.stops k.stops (sym h.spelt ∙ k.spelt)

-- NAMES

-- the letter of a name
abbrev pub letter : Var → ℕ
letter (R a b c d) = 82
letter (S a b c) = 83
letter (P a b c) = 80
letter (X a) = 120
letter (Y a) = 121
letter (T t) = 116

-- how many numbers stand behind a letter
abbrev pub arity : ℕ → ℕ
arity b = cond (eqb b 82) 4 (cond (eqb b 83) 3 (cond (eqb b 80) 3 1))

pub name_parts : (v : Var) → variable_name v ≡ letter v ∷ numbers_text (numbers v)
name_parts (R a b c d) = refl
name_parts (S a b c) = refl
name_parts (P a b c) = refl
name_parts (X a) = refl
name_parts (Y a) = refl
name_parts (T t) = refl

pub name_arity : (v : Var) → length (numbers v) ≡ arity (letter v)
name_arity (R a b c d) = refl
name_arity (S a b c) = refl
name_arity (P a b c) = refl
name_arity (X a) = refl
name_arity (Y a) = refl
name_arity (T t) = refl

point : List ℕ → ℕ → PointId
point l i = record { 0 = get_or l i 0 }

-- the variable of a letter and numbers
variable_from : ℕ → List ℕ → Var
variable_from b l =
    cond (eqb b 82) (R (point l 0) (point l 1) (point l 2) (point l 3))
    (cond (eqb b 83) (S (point l 0) (point l 1) (point l 2))
    (cond (eqb b 80) (P (point l 0) (point l 1) (point l 2))
    (cond (eqb b 120) (X (point l 0)) (cond (eqb b 121) (Y (point l 0)) (T (record { 0 = get_or l 0 0 }))))))

variable_from-parts : (v : Var) → variable_from (letter v) (numbers v) ≡ v
unfolding variable_from point
variable_from-parts (R a b c d) = refl
variable_from-parts (S a b c) = refl
variable_from-parts (P a b c) = refl
variable_from-parts (X a) = refl
variable_from-parts (Y a) = refl
variable_from-parts (T t) = refl

pub same_variable : (v w : Var) → letter v ≡ letter w → numbers v ≡ numbers w → v ≡ w
same_variable v w e f =
    sym (variable_from-parts v) ∙ ap (λ b. variable_from b (numbers v)) e ∙ ap (variable_from (letter w)) f ∙ variable_from-parts w

-- behind the letter of a name stand its numbers
pub name_numbers : (bytes : List ℕ) (v : Var) (r : List ℕ) (b : ℕ) (bs : List ℕ) → Begins names bytes v r → bytes ≡ b ∷ bs → (letter v ≡ b) × Begins (number_lists (arity b)) bs (numbers v) r
name_numbers bytes v r b bs h e =
    let whole : b ∷ bs ≡ letter v ∷ (numbers_text (numbers v) ++ r) = sym e ∙ h.spelt ∙ ap (λ l. l ++ r) (name_parts v) in
    let first : letter v ≡ b = cc in
    let rest : bs ≡ numbers_text (numbers v) ++ r = cc in
    (first, record { spelt = rest; fits = (name_arity v ∙ ap arity first, h.fits); stops = h.stops })

-- and the other way round
pub names_from : (bytes : List ℕ) (v : Var) (r : List ℕ) (bs : List ℕ) (count : ℕ) → bytes ≡ letter v ∷ bs → Begins (number_lists count) bs (numbers v) r → Begins names bytes v r
names_from bytes v r bs count e h = record {
  spelt = e ∙ ap (λ l. letter v ∷ l) h.spelt ∙ ap (λ l. l ++ r) (sym (name_parts v));
  fits = h.fits.1;
  stops = h.stops;
}

pub names_unique : Unique names
names_unique bytes v w r s h k =
    let rest = numbers_text (numbers v) ++ r in
    let e : bytes ≡ letter v ∷ rest = h.spelt ∙ ap (λ l. l ++ r) (name_parts v) in
    let one = name_numbers bytes v r (letter v) rest h e in
    let other = name_numbers bytes w s (letter v) rest k e in
    let same = number_lists_unique (arity (letter v)) rest (numbers v) (numbers w) r s one.1 other.1 in
    (same_variable v w (sym other.0) same.0, same.1)

-- a variable of a line has a name
pub variable_name_begins : (bytes : List ℕ) (v : Var) (r : List ℕ) → Begins variables bytes v r → Begins names bytes v r
variable_name_begins bytes v r h = record { spelt = h.spelt; fits = h.fits.small; stops = h.stops }

pub variables_unique : Unique variables
variables_unique bytes v w r s h k = names_unique bytes v w r s (variable_name_begins bytes v r h) (variable_name_begins bytes w s k)

-- EXPONENTS

-- an exponent of 1 has no text
pub exponent_one : (e : ℕ) → eqb e 1 ≡ true → e ≡ 1
exponent_one e t = grind (arith, nat_tests)

pub exponent_text-one : (e : ℕ) → eqb e 1 ≡ true → exponent_text e ≡ []
exponent_text-one e t = ap (λ b. cond b [] (94 ∷ decimal e)) t

pub exponent_text-more : (e : ℕ) → eqb e 1 ≡ false → exponent_text e ≡ 94 ∷ decimal e
exponent_text-more e t = ap (λ b. cond b [] (94 ∷ decimal e)) t

-- an exponent's text is nothing, or begins with `^`
pub record IsWrittenExponent (bytes : List ℕ) (e : ℕ) (r : List ℕ) : Type 0 where
  pub rest : List ℕ
  pub spelt : bytes ≡ 94 ∷ rest
  pub number : Begins (naturals 32) rest e r

pub written_exponent : (bytes : List ℕ) (e : ℕ) (r : List ℕ) → eqb e 1 ≡ false → Begins exponents bytes e r → IsWrittenExponent bytes e r
written_exponent bytes e r t h = record {
  rest = decimal e ++ r;
  spelt = h.spelt ∙ ap (λ l. l ++ r) (exponent_text-more e t);
  number = record { spelt = refl; fits = let small : e ≤ 65535 = h.fits.1 in let room : 65535 < 2 ^ 32 = lit< tt in omega arith; stops = stops_number r h.stops };
}

pub unwritten_exponent : (bytes : List ℕ) (e : ℕ) (r : List ℕ) → eqb e 1 ≡ true → Begins exponents bytes e r → (e ≡ 1) × (bytes ≡ r)
unwritten_exponent bytes e r t h = (exponent_one e t, h.spelt ∙ ap (λ l. l ++ r) (exponent_text-one e t))

exponents_cases : (p q : Bool) (bytes : List ℕ) (e f : ℕ) (r s : List ℕ) → eqb e 1 ≡ p → eqb f 1 ≡ q → Begins exponents bytes e r → Begins exponents bytes f s → (e ≡ f) × (r ≡ s)
exponents_cases true true bytes e f r s t u h k =
    let a = unwritten_exponent bytes e r t h in let b = unwritten_exponent bytes f s u k in (a.0 ∙ sym b.0, sym a.1 ∙ b.1)
exponents_cases true false bytes e f r s t u h k =
    let a = unwritten_exponent bytes e r t h in let b = written_exponent bytes f s u k in
    absurd (not_stopped is_exponent_byte 94 b.rest r refl h.stops (sym a.1 ∙ b.spelt))
exponents_cases false true bytes e f r s t u h k =
    let a = unwritten_exponent bytes f s u k in let b = written_exponent bytes e r t h in
    absurd (not_stopped is_exponent_byte 94 b.rest s refl k.stops (sym a.1 ∙ b.spelt))
exponents_cases false false bytes e f r s t u h k =
    let a = written_exponent bytes e r t h in let b = written_exponent bytes f s u k in
    let both : 94 ∷ a.rest ≡ 94 ∷ b.rest = sym a.spelt ∙ b.spelt in
    let tail : a.rest ≡ b.rest = cc in
    let P : List ℕ → Type 0 = λ l. Begins (naturals 32) l f s in
    small_unique a.rest e f r s a.number (subst P (sym tail) b.number)

pub exponents_unique : Unique exponents
exponents_unique bytes e f r s h k = exponents_cases (eqb e 1) (eqb f 1) bytes e f r s refl refl h k

-- POWERS

-- the text of an exponent does not go on with a number
pub exponent_stops : (e : ℕ) (r : List ℕ) → StopsAt is_exponent_byte r → StopsAt is_number_byte (exponent_text e ++ r)
exponent_stops e r h =
    elim (eqb e 1) as (λ b. StopsAt is_number_byte (cond b [] (94 ∷ decimal e) ++ r)) [ true ↦ stops_number r h | false ↦ refl ]

-- a power is a variable, and its exponent behind it
pub power_parts : (bytes : List ℕ) (p : Var × ℕ) (r : List ℕ) → Begins single_powers bytes p r → (rest : List ℕ) × (bytes ≡ 42 ∷ rest)
    × Begins variables rest p.0 (exponent_text p.1 ++ r) × Begins exponents (exponent_text p.1 ++ r) p.1 r
power_parts bytes p r h = (
  variable_name p.0 ++ (exponent_text p.1 ++ r),
  h.spelt ∙ ap (λ l. 42 ∷ l) (append_assoc (variable_name p.0) (exponent_text p.1) r),
  record { spelt = refl; fits = h.fits.0; stops = exponent_stops p.1 r h.stops },
  record { spelt = refl; fits = (h.fits.1, h.fits.2); stops = h.stops },
)

pub power_from : (bytes rest middle : List ℕ) (v : Var) (e : ℕ) (r : List ℕ) → bytes ≡ 42 ∷ rest → Begins variables rest v middle → Begins exponents middle e r → Begins single_powers bytes (v, e) r
power_from bytes rest middle v e r star h k = record {
  spelt = star ∙ ap (λ l. 42 ∷ l) (h.spelt ∙ ap (λ l. variable_name v ++ l) k.spelt ∙ sym (append_assoc (variable_name v) (exponent_text e) r));
  fits = (h.fits, k.fits.0, k.fits.1);
  stops = k.stops;
}

pub single_powers_unique : Unique single_powers
single_powers_unique bytes p q r s h k =
    let a = power_parts bytes p r h in let b = power_parts bytes q s k in
    let both : 42 ∷ a.0 ≡ 42 ∷ b.0 = sym a.1 ∙ b.1 in
    let tail : a.0 ≡ b.0 = cc in
    let V : List ℕ → Type 0 = λ l. Begins variables l q.0 (exponent_text q.1 ++ s) in
    let one = variables_unique a.0 p.0 q.0 (exponent_text p.1 ++ r) (exponent_text q.1 ++ s) a.2 (subst V (sym tail) b.2) in
    let E : List ℕ → Type 0 = λ l. Begins exponents l q.1 s in
    let two = exponents_unique (exponent_text p.1 ++ r) p.1 q.1 r s a.3 (subst E (sym one.1) b.3) in
    (λ i. (one.0 i, two.0 i), two.1)
