-- Terms, polynomials and values stand at the beginning of bytes, or none does.
use Rattle.std.proofs.Common.{◌≡◌, ℕ, zero, suc, ◌+◌, ◌<◌, ◌≤◌, ◌^◌, ◌⊎◌, inl, inr, Bool, true, false, ℤ, pos, Option, Some, None, List, [], ◌∷◌, ◌++◌, length, unsigned_abs, refl, ap, arith, lit<}
use Rattle.std.specs.Prelude.{IfSome}
use Rattle.std.proofs.lemmas.Int.{ints}
use Rattle.std.specs.declared.cmp.Ordering.{Ordering}
use Rattle.std.specs.declared.cmp.Ordering.TheVariants.{Less, Equal, Greater}
use Rattle.geo_poly.specs.declared.variables.Var.{Var}
use Rattle.geo_poly.specs.Monomials.{Powers}
use Rattle.geo_poly.specs.Polynomials.{Summands, norm_of, term_cmp}
use Rattle.geo_poly.specs.Variables.{var_cmp}
use Rattle.proof_log.specs.Inner.Growing.{last_of}
use Rattle.proof_log.specs.Inner.Reading.{Begins, Form, NoneBegins, StopsAt, BeginsWith, coefficients, factors, integers, is_power_byte}
use Rattle.proof_log.specs.Inner.Reading.{polynomials, powers_after, single_powers, single_values, terms, value_lists}
use Rattle.proof_log.specs.Writable.{CanWritePolynomial}
use Rattle.proof_log.proofs.Growth.{ArePowersRead, AreTermsRead, AreValuesRead, factor_no_number, factor_no_powers, factor_read}
use Rattle.proof_log.proofs.Growth.{factor_zero, first_term_refused, power_misplaced, power_pushed, power_too_high, powers_begin}
use Rattle.proof_log.proofs.Growth.{powers_end, powers_go_on, powers_refused, powers_step, shorter, term_misplaced, term_no_number}
use Rattle.proof_log.proofs.Growth.{term_no_powers, term_pushed, term_read, term_shorter, term_too_large, terms_begin, terms_end}
use Rattle.proof_log.proofs.Growth.{terms_no_space, terms_refused, terms_step, value_shorter, values_begin, values_end, values_refused}
use Rattle.proof_log.proofs.Growth.{values_step}
use Rattle.log_checker.proofs.Deciding.{Decided, none_decided, numbers_decided, texts_decided}
use Rattle.log_checker.proofs.ReadParts.{IsByteOrNone, IsFoundOrNone, at_most_decided, byte_decided, coefficient_decided, integer_decided, less_decided, power_decided, value_decided}

-- something of this form is all that the bytes are, or nothing stands at their beginning
abbrev pub IsWholeOrNone : {T : Type 0} → Form T → List ℕ → Type 0
IsWholeOrNone {T} form bytes = ((x : T) × Begins form bytes x []) ⊎ NoneBegins form bytes

order_decided : (o : Ordering) → Decided (o ≡ Less)
order_decided Less = inl refl
order_decided Equal = inr (λ e. cc)
order_decided Greater = inr (λ e. cc)

if_some_decided : {X : Type 0} (P : X → Type 0) → ((x : X) → Decided (P x)) → (o : Option X) → Decided (IfSome o P)
if_some_decided P each None = inl tt
if_some_decided P each (Some x) = each x

-- POWERS
-- the bytes go on with a byte of powers, or they stop
power_byte_decided : (s : List ℕ) → BeginsWith is_power_byte s ⊎ StopsAt is_power_byte s
power_byte_decided [] = inr tt
power_byte_decided (b ∷ bs) = go (is_power_byte b) refl
  where
    go : (t : Bool) → is_power_byte b ≡ t → (is_power_byte b ≡ true) ⊎ (is_power_byte b ≡ false)
    go true e = inl e
    go false e = inr e

powers_from : (fuel : ℕ) (s0 now : List ℕ) (f : Powers × ℤ) (number : ℤ) (degree : ℕ) → ArePowersRead s0 now f number degree → length now < fuel → IsFoundOrNone (powers_after []) s0
powers_from zero s0 now f number degree h few = absurd (omega (arith, few))
powers_from (suc fuel) s0 now f number degree h few = go (byte_decided 42 now) (λ next g sum k l. powers_from fuel s0 next g number sum k l)
  where
    pushed : (rest : List ℕ) → now ≡ 42 ∷ rest → (p : Var × ℕ) (next : List ℕ) → Begins single_powers now p next → Decided (degree + p.1 ≤ 65535)
        → Decided (IfSome (last_of f.0) (λ q. var_cmp q.0 p.0 ≡ Less))
        → ((next : List ℕ) (g : Powers × ℤ) (sum : ℕ) → ArePowersRead s0 next g number sum → length next < fuel → IsFoundOrNone (powers_after []) s0)
        → IsFoundOrNone (powers_after []) s0
    pushed rest star p next read (inl fits) (inl last) again =
        let g : Powers × ℤ = (f.0 ++ p ∷ [], f.1) in
        let less = shorter p now next read in
        again next g (degree + p.1)
        (powers_step s0 now f number degree h next g (degree + p.1) (power_pushed now next f g p degree read h.written h.degree_is (omega (arith, fits)) last refl))
        (omega (arith, less, few))
    pushed rest star p next read (inl fits) (inr last) again = inr (powers_refused s0 now f number degree h rest star (power_misplaced f.0 p now next read last))
    pushed rest star p next read (inr high) d again =
        inr (powers_refused s0 now f number degree h rest star (power_too_high f.0 p now next read (λ k. let e = h.degree_is in high (omega (arith, e, k)))))

    powered : (rest : List ℕ) → now ≡ 42 ∷ rest → IsFoundOrNone single_powers now
        → ((next : List ℕ) (g : Powers × ℤ) (sum : ℕ) → ArePowersRead s0 next g number sum → length next < fuel → IsFoundOrNone (powers_after []) s0)
        → IsFoundOrNone (powers_after []) s0
    powered rest star (inl k) again =
        pushed rest star k.0 k.1 k.2 (at_most_decided (degree + k.0.1) 65535)
        (if_some_decided (λ (q : Var × ℕ). var_cmp q.0 k.0.0 ≡ Less) (λ q. order_decided (var_cmp q.0 k.0.0)) (last_of f.0)) again
    powered rest star (inr n) again = inr (powers_refused s0 now f number degree h rest star (λ p r b more fits. n p r b))

    ended : ((rest : List ℕ) → now ≡ 42 ∷ rest → ⊥) → BeginsWith is_power_byte now ⊎ StopsAt is_power_byte now → IsFoundOrNone (powers_after []) s0
    ended none (inl more) = inr (powers_go_on s0 now f number degree h more none)
    ended none (inr stops) = inl (f.0, now, powers_end s0 now f number degree h stops)

    go : IsByteOrNone 42 now → ((next : List ℕ) (g : Powers × ℤ) (sum : ℕ) → ArePowersRead s0 next g number sum → length next < fuel → IsFoundOrNone (powers_after []) s0)
        → IsFoundOrNone (powers_after []) s0
    go (inl k) again = powered k.0 k.1 (power_decided now) again
    go (inr n) again = ended n (power_byte_decided now)

powers_decided : (bytes : List ℕ) → IsFoundOrNone (powers_after []) bytes
powers_decided bytes = powers_from (suc (length bytes)) bytes bytes ([], pos 0) (pos 0) 0 (powers_begin bytes (pos 0)) (omega arith)

-- TERMS AND FACTORS
term_decided : (bytes : List ℕ) → IsFoundOrNone terms bytes
term_decided bytes = go (coefficient_decided bytes)
  where
    powered : (z : ℤ) (s1 : List ℕ) → Begins coefficients bytes z s1 → IsFoundOrNone (powers_after []) s1 → IsFoundOrNone terms bytes
    powered z s1 read (inl h) = inl ((h.0, z), h.1, term_read bytes s1 h.1 z (h.0, z) read h.2 refl)
    powered z s1 read (inr n) = inr (term_no_powers bytes s1 z read n)

    go : IsFoundOrNone coefficients bytes → IsFoundOrNone terms bytes
    go (inl h) = powered h.0 h.1 h.2 (powers_decided h.1)
    go (inr n) = inr (term_no_number bytes n)

pub factor_decided : (bytes : List ℕ) → IsFoundOrNone factors bytes
factor_decided bytes = go (integer_decided bytes)
  where
    zero_size : (z : ℤ) → unsigned_abs z ≡ 0 → z ≡ pos 0
    zero_size z e = omega (arith, ints, e)

    powered : (z : ℤ) (s1 : List ℕ) → Begins integers bytes z s1 → Decided (unsigned_abs z ≡ 0) → IsFoundOrNone (powers_after []) s1 → IsFoundOrNone factors bytes
    powered z s1 read (inl e) d = inr (factor_zero bytes s1 z read (zero_size z e))
    powered z s1 read (inr some) (inl h) = inl ((h.0, z), h.1, factor_read bytes s1 h.1 z (h.0, z) some read h.2 refl)
    powered z s1 read (inr some) (inr n) = inr (factor_no_powers bytes s1 z read n)

    go : IsFoundOrNone integers bytes → IsFoundOrNone factors bytes
    go (inl h) = powered h.0 h.1 h.2 (numbers_decided (unsigned_abs h.0) 0) (powers_decided h.1)
    go (inr n) = inr (factor_no_number bytes n)

-- POLYNOMIALS
none_written : CanWritePolynomial []
none_written = record { polynomial = record { in_order = tt; monomials = tt; norm_fits = lit< tt }; variables = tt }

terms_from : (fuel : ℕ) (s0 now : List ℕ) (list : Summands) (norm : ℕ) → AreTermsRead s0 now list norm → length now < fuel → IsWholeOrNone polynomials s0
terms_from zero s0 now list norm h few = absurd (omega (arith, few))
terms_from (suc fuel) s0 now list norm h few = go (none_decided now) (byte_decided 32 now) (λ next more sum k l. terms_from fuel s0 next more sum k l)
  where
    pushed : (s1 : List ℕ) (space : now ≡ 32 ∷ s1) (t : Powers × ℤ) (s2 : List ℕ) → Begins terms s1 t s2 → Decided (norm_of list + unsigned_abs t.1 < 2 ^ 127)
        → Decided (IfSome (last_of list) (λ u. term_cmp u.0 t.0 ≡ Less))
        → ((next : List ℕ) (more : Summands) (sum : ℕ) → AreTermsRead s0 next more sum → length next < fuel → IsWholeOrNone polynomials s0) → IsWholeOrNone polynomials s0
    pushed s1 space t s2 read (inl room) (inl last) again =
        let less = term_shorter t s1 s2 read in
        let one : length now ≡ length (32 ∷ s1) = ap length space in
        again s2 (list ++ t ∷ []) (norm_of list + unsigned_abs t.1)
        (terms_step s0 now list norm h s1 space s2 (list ++ t ∷ []) (norm_of list + unsigned_abs t.1)
        (term_pushed s1 s2 list (list ++ t ∷ []) t (norm_of list + unsigned_abs t.1) read h.written room last refl refl)) (omega (arith, less, one, few))
    pushed s1 space t s2 read (inl room) (inr last) again = inr (terms_refused s0 now list norm h s1 space (term_misplaced list t s1 s2 read last))
    pushed s1 space t s2 read (inr large) d again = inr (terms_refused s0 now list norm h s1 space (term_too_large list t s1 s2 read large))

    termed : (s1 : List ℕ) → now ≡ 32 ∷ s1 → IsFoundOrNone terms s1
        → ((next : List ℕ) (more : Summands) (sum : ℕ) → AreTermsRead s0 next more sum → length next < fuel → IsWholeOrNone polynomials s0) → IsWholeOrNone polynomials s0
    termed s1 space (inl k) again =
        pushed s1 space k.0 k.1 k.2 (less_decided (norm_of list + unsigned_abs k.0.1) (2 ^ 127))
        (if_some_decided (λ (u : Powers × ℤ). term_cmp u.0 k.0.0 ≡ Less) (λ u. order_decided (term_cmp u.0 k.0.0)) (last_of list)) again
    termed s1 space (inr n) again = inr (terms_refused s0 now list norm h s1 space (λ t r b more fits. n t r b))

    go : Decided (now ≡ []) → IsByteOrNone 32 now
        → ((next : List ℕ) (more : Summands) (sum : ℕ) → AreTermsRead s0 next more sum → length next < fuel → IsWholeOrNone polynomials s0) → IsWholeOrNone polynomials s0
    go (inl e) d again = inl (list, terms_end s0 now list norm h e)
    go (inr some) (inl k) again = termed k.0 k.1 (term_decided k.0) again
    go (inr some) (inr none) again = inr (terms_no_space s0 now list norm h some none)

pub polynomial_decided : (bytes : List ℕ) → IsWholeOrNone polynomials bytes
polynomial_decided bytes = go (texts_decided bytes (48 ∷ [])) (term_decided bytes)
  where
    go : Decided (bytes ≡ 48 ∷ []) → IsFoundOrNone terms bytes → IsWholeOrNone polynomials bytes
    go (inl e) d = inl ([], record { spelt = e; fits = none_written; stops = tt })
    go (inr other) (inr n) = inr (first_term_refused bytes other (λ t r b more fits. n t r b))
    go (inr other) (inl h) =
        let size = norm_of [] + unsigned_abs h.0.1 in
        let fit : size < 2 ^ 127 = let f = h.2.fits.factor.fits in let z : norm_of [] ≡ 0 = refl in omega (arith, f, z) in
        terms_from (suc (length h.1)) bytes h.1 (h.0 ∷ []) size (terms_begin bytes h.1 (h.0 ∷ []) size (term_pushed bytes h.1 [] (h.0 ∷ []) h.0 size h.2 none_written fit tt refl refl)) (omega arith)

-- VALUES
values_from : (fuel : ℕ) (s0 now : List ℕ) (items : List (Var × ℤ)) → AreValuesRead s0 now items → length now < fuel → IsWholeOrNone value_lists s0
values_from zero s0 now items h few = absurd (omega (arith, few))
values_from (suc fuel) s0 now items h few = go (none_decided now) (value_decided now) (λ next more k l. values_from fuel s0 next more k l)
  where
    go : Decided (now ≡ []) → IsFoundOrNone single_values now
        → ((next : List ℕ) (more : List (Var × ℤ)) → AreValuesRead s0 next more → length next < fuel → IsWholeOrNone value_lists s0) → IsWholeOrNone value_lists s0
    go (inl e) d again = inl (items, values_end s0 now items h e)
    go (inr some) (inl k) again =
        let less = value_shorter k.0 now k.1 k.2 in again k.1 (items ++ k.0 ∷ []) (values_step s0 now items h k.0 k.1 k.2) (omega (arith, less, few))
    go (inr some) (inr n) again = inr (values_refused s0 now items h some n)

pub values_decided : (bytes : List ℕ) → IsWholeOrNone value_lists bytes
values_decided bytes = values_from (suc (length bytes)) bytes bytes [] (values_begin bytes) (omega arith)
