-- Numbers, names and powers stand at the beginning of bytes, or none does.
use Rattle.std.proofs.Common.{◌≡◌, ◌≢◌, ℕ, zero, suc, ◌<◌, ◌≤◌, ◌^◌, ◌⊎◌, inl, inr, ℤ, pos, negsuc, List, [], ◌∷◌, ◌++◌, length, take, drop}
use Rattle.std.proofs.Common.{unsigned_abs, refl, sym, ◌∙◌, ap, subst, append_assoc, arith, lit≤}
use Rattle.std.specs.Fmt.{signed_decimal}
use Rattle.std.specs.List.{prefix_len}
use Rattle.std.proofs.lemmas.Int.{ints}
use Rattle.std.proofs.lemmas.List.{take-append-drop}
use Rattle.geo_base.proofs.DecimalLemmas.{signed_decimal_writes}
use Rattle.geo_base.specs.Decimals.{decimal_value}
use Rattle.geo_points.specs.declared.ids.PointId.{PointId}
use Rattle.geo_poly.specs.declared.variables.Var.{Var}
use Rattle.geo_poly.specs.declared.variables.Var.TheVariants.{R, S, P, X as Abscissa, Y as Ordinate, T as Number}
use Rattle.geo_poly.specs.SortedVariables.{IsSorted}
use Rattle.proof_log.specs.Inner.Reading.{Begins, Form, NoneBegins, Passes, StopsAt, coefficients, exponents, integers, is_exponent_byte}
use Rattle.proof_log.specs.Inner.Reading.{is_number_byte, names, naturals, number_lists, single_powers, single_values, variables}
use Rattle.proof_log.specs.Lines.{variable_name}
use Rattle.proof_log.specs.Writable.{numbers}
use Rattle.proof_log.proofs.Found.{coefficient_minus, coefficient_not_minus, coefficient_not_plus, coefficient_plus, coefficient_unminus}
use Rattle.proof_log.proofs.Found.{coefficient_unplus, dotted_no_dot, dotted_no_more, dotted_read, dotted_unread, exponent_none}
use Rattle.proof_log.proofs.Found.{exponent_read, exponent_unfit, exponent_unread, integer_misspelt, integer_read, name_no_letter}
use Rattle.proof_log.proofs.Found.{name_nothing, name_unread, natural_read, natural_unfit, natural_unread, one_read, one_unread}
use Rattle.proof_log.proofs.Found.{power_no_exponent, power_no_star, power_no_variable, value_no_number, value_no_sign, value_no_space}
use Rattle.proof_log.proofs.Found.{value_no_variable, variable_read, variable_unread, variable_unsorted}
use Rattle.proof_log.proofs.Runs.{integer_passes, prefix_passes, same_run, wide}
use Rattle.proof_log.proofs.Unique.{arity, letter, names_from, not_stopped, power_from}
use Rattle.log_checker.proofs.Deciding.{Decided, both_decided, decided_by, numbers_decided, tail_same, texts_decided}
use Rattle.log_checker.proofs.GoingOn.{at_most}

-- something of this form stands at the beginning of the bytes, or nothing does
abbrev pub IsFoundOrNone : {T : Type 0} → Form T → List ℕ → Type 0
IsFoundOrNone {T} form bytes = ((x : T) × (rest : List ℕ) × Begins form bytes x rest) ⊎ NoneBegins form bytes

-- BYTES
abbrev pub IsByteOrNone : ℕ → List ℕ → Type 0
IsByteOrNone b s = ((rest : List ℕ) × (s ≡ b ∷ rest)) ⊎ ((rest : List ℕ) → s ≡ b ∷ rest → ⊥)

first_byte : (a b : ℕ) (s rest : List ℕ) → a ∷ s ≡ b ∷ rest → a ≡ b
first_byte a b s rest e = cc

pub byte_decided : (b : ℕ) (s : List ℕ) → IsByteOrNone b s
byte_decided b [] = inr (λ rest e. let q : ◌≡◌ {A = List ℕ} [] (b ∷ rest) = e in cc)
byte_decided b (a ∷ s) = go (numbers_decided a b)
  where
    go : Decided (a ≡ b) → IsByteOrNone b (a ∷ s)
    go (inl e) = inl (s, ap (λ z. z ∷ s) e)
    go (inr n) = inr (λ rest e. n (first_byte a b s rest e))

-- the bytes begin with the text, or they do not
pub text_decided : (text s : List ℕ) → ((rest : List ℕ) × (s ≡ text ++ rest)) ⊎ ((rest : List ℕ) → s ≡ text ++ rest → ⊥)
text_decided [] s = inl (s, refl)
text_decided (b ∷ text) s = go (byte_decided b s) (λ next. text_decided text next)
  where
    more : (next : List ℕ) → s ≡ b ∷ next → ((rest : List ℕ) × (next ≡ text ++ rest)) ⊎ ((rest : List ℕ) → next ≡ text ++ rest → ⊥)
        → ((rest : List ℕ) × (s ≡ b ∷ text ++ rest)) ⊎ ((rest : List ℕ) → s ≡ b ∷ text ++ rest → ⊥)
    more next e (inl h) = inl (h.0, e ∙ ap (λ r. b ∷ r) h.1)
    more next e (inr n) = inr (λ rest f. n rest (tail_same b b next (text ++ rest) (sym e ∙ f)))

    go : IsByteOrNone b s → ((next : List ℕ) → ((rest : List ℕ) × (next ≡ text ++ rest)) ⊎ ((rest : List ℕ) → next ≡ text ++ rest → ⊥))
        → ((rest : List ℕ) × (s ≡ b ∷ text ++ rest)) ⊎ ((rest : List ℕ) → s ≡ b ∷ text ++ rest → ⊥)
    go (inl h) again = more h.0 h.1 (again h.0)
    go (inr n) again = inr (λ rest e. n (text ++ rest) e)

pub less_decided : (a b : ℕ) → Decided (a < b)
less_decided a b = go (at_most b a)
  where
    go : (b ≤ a) ⊎ (a < b) → Decided (a < b)
    go (inl h) = inr (λ k. omega (arith, h, k))
    go (inr h) = inl h

pub at_most_decided : (a b : ℕ) → Decided (a ≤ b)
at_most_decided a b = go (at_most a b)
  where
    go : (a ≤ b) ⊎ (b < a) → Decided (a ≤ b)
    go (inl h) = inl h
    go (inr h) = inr (λ k. omega (arith, h, k))

pub none_of : {A : Type 0} → Decided A → Decided (A → ⊥)
none_of (inl a) = inr (λ n. n a)
none_of (inr n) = inl n

-- WHOLE NUMBERS
module _ (bytes run rest : List ℕ) (split : bytes ≡ run ++ rest) (all : Passes is_number_byte run) (stops : StopsAt is_number_byte rest) where
  -- the number that is due is that of the run
  due_value : (z : ℤ) (r : List ℕ) → Begins integers bytes z r → decimal_value run ≡ z
  due_value z r h =
      let is = (same_run is_number_byte (signed_decimal z) run r rest (integer_passes z (wide _ h.fits)) all h.stops stops (sym h.spelt ∙ split)).0 in
      ap decimal_value (sym is) ∙ (signed_decimal_writes z (wide _ h.fits)).value

  run_decided : Decided (signed_decimal (decimal_value run) ≡ run) → Decided (unsigned_abs (decimal_value run) < 2 ^ 127) → IsFoundOrNone integers bytes
  run_decided (inl e) (inl f) = inl (decimal_value run, rest, integer_read bytes run rest split all stops (decimal_value run) e f)
  run_decided (inl e) (inr n) = inr (λ z r h. n (subst (λ (y : ℤ). unsigned_abs y < 2 ^ 127) (sym (due_value z r h)) h.fits))
  run_decided (inr n) d = inr (integer_misspelt bytes run rest split all stops (decimal_value run) refl n)

pub integer_decided : (bytes : List ℕ) → IsFoundOrNone integers bytes
integer_decided bytes =
    let n = prefix_len is_number_byte bytes in
    let run = take n bytes in
    let p = prefix_passes is_number_byte bytes in
    run_decided bytes run (drop n bytes) (sym (take-append-drop n bytes)) p.0 p.1 (texts_decided (signed_decimal (decimal_value run)) run)
    (less_decided (unsigned_abs (decimal_value run)) (2 ^ 127))

pub natural_decided : (bits : ℕ) → 2 ^ bits ≤ 2 ^ 64 → (bytes : List ℕ) → IsFoundOrNone (naturals bits) bytes
natural_decided bits room bytes = go (integer_decided bytes)
  where
    of_number : (z : ℤ) (rest : List ℕ) → Begins integers bytes z rest → IsFoundOrNone (naturals bits) bytes
    of_number (negsuc n) rest h = inr (natural_unfit bits bytes rest (negsuc n) room h (λ m e f. let q : negsuc n ≡ pos m = e in omega (arith, ints, q)))
    of_number (pos n) rest h = fits (less_decided n (2 ^ bits))
      where
        fits : Decided (n < 2 ^ bits) → IsFoundOrNone (naturals bits) bytes
        fits (inl f) = inl (n, rest, natural_read bits bytes rest (pos n) n refl f h)
        fits (inr large) =
            inr (natural_unfit bits bytes rest (pos n) room h (λ m e f. let q : pos n ≡ pos m = e in let same : n ≡ m = omega (arith, ints, q) in large (subst (λ k. k < 2 ^ bits) (sym same) f)))

    go : IsFoundOrNone integers bytes → IsFoundOrNone (naturals bits) bytes
    go (inl h) = of_number h.0 h.1 h.2
    go (inr n) = inr (natural_unread bits bytes room n)

pub small_decided : (bytes : List ℕ) → IsFoundOrNone (naturals 32) bytes
small_decided bytes = natural_decided 32 (lit≤ tt) bytes

-- NUMBERS WITH DOTS BETWEEN THEM
list_decided : (k : ℕ) (bytes : List ℕ) → IsFoundOrNone (number_lists (suc k)) bytes
list_decided zero bytes = go (small_decided bytes)
  where
    go : IsFoundOrNone (naturals 32) bytes → IsFoundOrNone (number_lists 1) bytes
    go (inl h) = inl (h.0 ∷ [], h.1, one_read bytes h.1 h.0 h.2)
    go (inr n) = inr (one_unread bytes n)
list_decided (suc k) bytes = go (small_decided bytes) (λ s. list_decided k s)
  where
    others : (a : ℕ) (s1 : List ℕ) (first : Begins (naturals 32) bytes a s1) (s2 : List ℕ) → s1 ≡ 46 ∷ s2 → IsFoundOrNone (number_lists (suc k)) s2
        → IsFoundOrNone (number_lists (suc (suc k))) bytes
    others a s1 first s2 dot (inl h) = inl (a ∷ h.0, h.1, dotted_read k bytes a s1 first s2 dot h.0 h.1 h.2)
    others a s1 first s2 dot (inr n) = inr (dotted_no_more k bytes a s1 first s2 dot n)

    dotted : (a : ℕ) (s1 : List ℕ) → Begins (naturals 32) bytes a s1 → IsByteOrNone 46 s1 → ((s : List ℕ) → IsFoundOrNone (number_lists (suc k)) s)
        → IsFoundOrNone (number_lists (suc (suc k))) bytes
    dotted a s1 first (inl h) again = others a s1 first h.0 h.1 (again h.0)
    dotted a s1 first (inr n) again = inr (dotted_no_dot k bytes a s1 first n)

    go : IsFoundOrNone (naturals 32) bytes → ((s : List ℕ) → IsFoundOrNone (number_lists (suc k)) s) → IsFoundOrNone (number_lists (suc (suc k))) bytes
    go (inl h) again = dotted h.0 h.1 h.2 (byte_decided 46 h.1) again
    go (inr n) again = inr (dotted_unread k bytes n)

-- NAMES
abbrev pt : ℕ → PointId
pt k = record { 0 = k }

-- a variable with this letter, and with these numbers, where they are as many as it has
pub record HasNumbers (b : ℕ) (ns : List ℕ) : Type 0 where
  pub variable : Var
  pub letter_is : letter variable ≡ b
  pub numbers_are : numbers variable ≡ ns

with_numbers : (v : Var) (ns : List ℕ) → length ns ≡ arity (letter v) → HasNumbers (letter v) ns
with_numbers (R a b c d) (i ∷ j ∷ k ∷ l ∷ []) e = record { variable = R (pt i) (pt j) (pt k) (pt l); letter_is = refl; numbers_are = refl }
with_numbers (S a b c) (i ∷ j ∷ k ∷ []) e = record { variable = S (pt i) (pt j) (pt k); letter_is = refl; numbers_are = refl }
with_numbers (P a b c) (i ∷ j ∷ k ∷ []) e = record { variable = P (pt i) (pt j) (pt k); letter_is = refl; numbers_are = refl }
with_numbers (Abscissa a) (i ∷ []) e = record { variable = Abscissa (pt i); letter_is = refl; numbers_are = refl }
with_numbers (Ordinate a) (i ∷ []) e = record { variable = Ordinate (pt i); letter_is = refl; numbers_are = refl }
with_numbers (Number t) (i ∷ []) e = record { variable = Number (record { 0 = i }); letter_is = refl; numbers_are = refl }
with_numbers v ns e = absurd (omega (arith, e))

letter_decided : (b : ℕ) → ((v : Var) × (letter v ≡ b)) ⊎ ((v : Var) → letter v ≡ b → ⊥)
letter_decided b = go (numbers_decided 82 b) (numbers_decided 83 b) (numbers_decided 80 b) (numbers_decided 120 b) (numbers_decided 121 b) (numbers_decided 116 b)
  where
    none : (82 ≡ b → ⊥) → (83 ≡ b → ⊥) → (80 ≡ b → ⊥) → (120 ≡ b → ⊥) → (121 ≡ b → ⊥) → (116 ≡ b → ⊥) → (v : Var) → letter v ≡ b → ⊥
    none r s p x y t (R i j k l) e = r e
    none r s p x y t (S i j k) e = s e
    none r s p x y t (P i j k) e = p e
    none r s p x y t (Abscissa i) e = x e
    none r s p x y t (Ordinate i) e = y e
    none r s p x y t (Number i) e = t e

    go : Decided (82 ≡ b) → Decided (83 ≡ b) → Decided (80 ≡ b) → Decided (120 ≡ b) → Decided (121 ≡ b) → Decided (116 ≡ b)
        → ((v : Var) × (letter v ≡ b)) ⊎ ((v : Var) → letter v ≡ b → ⊥)
    go (inl e) s p x y t = inl (R (pt 0) (pt 0) (pt 0) (pt 0), e)
    go (inr r) (inl e) p x y t = inl (S (pt 0) (pt 0) (pt 0), e)
    go (inr r) (inr s) (inl e) x y t = inl (P (pt 0) (pt 0) (pt 0), e)
    go (inr r) (inr s) (inr p) (inl e) y t = inl (Abscissa (pt 0), e)
    go (inr r) (inr s) (inr p) (inr x) (inl e) t = inl (Ordinate (pt 0), e)
    go (inr r) (inr s) (inr p) (inr x) (inr y) (inl e) = inl (Number (record { 0 = 0 }), e)
    go (inr r) (inr s) (inr p) (inr x) (inr y) (inr t) = inr (none r s p x y t)

-- a letter has one number at least
some_arity : (v : Var) → (k : ℕ) × (arity (letter v) ≡ suc k)
some_arity (R a b c d) = (3, refl)
some_arity (S a b c) = (2, refl)
some_arity (P a b c) = (2, refl)
some_arity (Abscissa a) = (0, refl)
some_arity (Ordinate a) = (0, refl)
some_arity (Number t) = (0, refl)

name_decided : (bytes : List ℕ) → IsFoundOrNone names bytes
name_decided [] = inr (name_nothing [] refl)
name_decided (b ∷ bs) = go (letter_decided b)
  where
    lists : (v : Var) → IsFoundOrNone (number_lists (arity (letter v))) bs
    lists v = let k = some_arity v in subst (λ n. IsFoundOrNone (number_lists n) bs) (sym k.1) (list_decided k.0 bs)

    read : (v : Var) → letter v ≡ b → IsFoundOrNone (number_lists (arity (letter v))) bs → IsFoundOrNone names (b ∷ bs)
    read v e (inl h) =
        let w = with_numbers v h.0 h.2.fits.0 in
        let there : b ∷ bs ≡ letter w.variable ∷ bs = ap (λ z. z ∷ bs) (sym e ∙ sym w.letter_is) in
        inl (w.variable, h.1, names_from (b ∷ bs) w.variable h.1 bs (arity (letter v)) there (subst (λ ns. Begins (number_lists (arity (letter v))) bs ns h.1) (sym w.numbers_are) h.2))
    read v e (inr n) = inr (name_unread (b ∷ bs) bs b refl (subst (λ c. NoneBegins (number_lists (arity c)) bs) e n))

    go : ((v : Var) × (letter v ≡ b)) ⊎ ((v : Var) → letter v ≡ b → ⊥) → IsFoundOrNone names (b ∷ bs)
    go (inl h) = read h.0 h.1 (lists h.0)
    go (inr n) = inr (name_no_letter (b ∷ bs) bs b refl n)

sorted_decided : (v : Var) → Decided (IsSorted v)
sorted_decided (R a b c d) =
    decided_by
    (λ (h : (a.0 < b.0) × ((c.0 < d.0) × ((a.0 ≡ c.0) × (b.0 ≡ d.0) → ⊥))). (h.0, h.1.0, h.1.1)) (λ (h : IsSorted (R a b c d)). (h.0, (h.1, h.2)))
    (both_decided (less_decided a.0 b.0) (both_decided (less_decided c.0 d.0) (none_of (both_decided (numbers_decided a.0 c.0) (numbers_decided b.0 d.0)))))
sorted_decided (S a b c) = both_decided (less_decided a.0 b.0) (less_decided b.0 c.0)
sorted_decided (P a b c) =
    decided_by
    (λ (h : (a.0 ≤ c.0) × ((b.0 ≢ a.0) × ((b.0 ≢ c.0) × (a.0 ≡ c.0 → a.0 < b.0)))). (h.0, h.1.0, h.1.1.0, h.1.1.1)) (λ (h : IsSorted (P a b c)). (h.0, (h.1, (h.2, h.3))))
    (both_decided (at_most_decided a.0 c.0)
    (both_decided (none_of (numbers_decided b.0 a.0))
    (both_decided (none_of (numbers_decided b.0 c.0)) (implied (numbers_decided a.0 c.0) (less_decided a.0 b.0)))))
  where
    implied : Decided (a.0 ≡ c.0) → Decided (a.0 < b.0) → Decided (a.0 ≡ c.0 → a.0 < b.0)
    implied (inl e) (inl h) = inl (λ q. h)
    implied (inl e) (inr n) = inr (λ f. n (f e))
    implied (inr n) d = inl (λ q. absurd (n q))
sorted_decided (Abscissa a) = inl tt
sorted_decided (Ordinate a) = inl tt
sorted_decided (Number t) = inl tt

pub variable_decided : (bytes : List ℕ) → IsFoundOrNone variables bytes
variable_decided bytes = go (name_decided bytes)
  where
    sorted : (v : Var) (rest : List ℕ) → Begins names bytes v rest → Decided (IsSorted v) → IsFoundOrNone variables bytes
    sorted v rest h (inl s) = inl (v, rest, variable_read bytes rest v s h)
    sorted v rest h (inr n) = inr (variable_unsorted bytes rest v h n)

    go : IsFoundOrNone names bytes → IsFoundOrNone variables bytes
    go (inl h) = sorted h.0 h.1 h.2 (sorted_decided h.0)
    go (inr n) = inr (variable_unread bytes n)

-- POWERS
exponent_decided : (bytes : List ℕ) → StopsAt is_number_byte bytes → IsFoundOrNone exponents bytes
exponent_decided bytes stops = go (byte_decided 94 bytes)
  where
    fit : (s1 : List ℕ) (caret : bytes ≡ 94 ∷ s1) (n : ℕ) (s2 : List ℕ) (number : Begins (naturals 32) s1 n s2) → Decided (2 ≤ n) → Decided (n ≤ 65535) → IsByteOrNone 94 s2
        → IsFoundOrNone exponents bytes
    fit s1 caret n s2 number (inl low) (inl high) (inr none) = inl (n, s2, exponent_read bytes s1 caret n s2 number low high none)
    fit s1 caret n s2 number (inl low) (inl high) (inl h) = inr (exponent_unfit bytes s1 caret n s2 number (λ l k s. not_stopped is_exponent_byte 94 h.0 s2 refl s h.1))
    fit s1 caret n s2 number (inl low) (inr high) d = inr (exponent_unfit bytes s1 caret n s2 number (λ l k s. high k))
    fit s1 caret n s2 number (inr low) e d = inr (exponent_unfit bytes s1 caret n s2 number (λ l k s. low l))

    number : (s1 : List ℕ) → bytes ≡ 94 ∷ s1 → IsFoundOrNone (naturals 32) s1 → IsFoundOrNone exponents bytes
    number s1 caret (inl h) = fit s1 caret h.0 h.1 h.2 (at_most_decided 2 h.0) (at_most_decided h.0 65535) (byte_decided 94 h.1)
    number s1 caret (inr n) = inr (exponent_unread bytes s1 caret n)

    go : IsByteOrNone 94 bytes → IsFoundOrNone exponents bytes
    go (inl h) = number h.0 h.1 (small_decided h.0)
    go (inr n) = inl (1, bytes, exponent_none bytes bytes stops n refl)

pub power_decided : (bytes : List ℕ) → IsFoundOrNone single_powers bytes
power_decided bytes = go (byte_decided 42 bytes)
  where
    raised : (s1 : List ℕ) → bytes ≡ 42 ∷ s1 → (v : Var) (s2 : List ℕ) → Begins variables s1 v s2 → IsFoundOrNone exponents s2 → IsFoundOrNone single_powers bytes
    raised s1 star v s2 h (inl k) = inl ((v, k.0), k.1, power_from bytes s1 s2 v k.0 k.1 star h k.2)
    raised s1 star v s2 h (inr n) = inr (power_no_exponent bytes s1 star v s2 h n)

    named : (s1 : List ℕ) → bytes ≡ 42 ∷ s1 → IsFoundOrNone variables s1 → IsFoundOrNone single_powers bytes
    named s1 star (inl h) = raised s1 star h.0 h.1 h.2 (exponent_decided h.1 h.2.stops)
    named s1 star (inr n) = inr (power_no_variable bytes s1 star n)

    go : IsByteOrNone 42 bytes → IsFoundOrNone single_powers bytes
    go (inl h) = named h.0 h.1 (variable_decided h.0)
    go (inr n) = inr (power_no_star bytes n)

-- COEFFICIENTS
pub coefficient_decided : (bytes : List ℕ) → IsFoundOrNone coefficients bytes
coefficient_decided bytes = go (byte_decided 43 bytes)
  where
    positive : (s1 : List ℕ) → bytes ≡ 43 ∷ s1 → (z : ℤ) (s2 : List ℕ) → Begins integers s1 z s2 → IsFoundOrNone coefficients bytes
    positive s1 plus (pos zero) s2 h = inr (coefficient_not_plus bytes s1 s2 (pos 0) plus h (λ n e some. omega (arith, ints, e, some)))
    positive s1 plus (pos (suc n)) s2 h = inl (pos (suc n), s2, coefficient_plus bytes s1 (pos (suc n)) s2 plus h (suc n) refl (omega arith))
    positive s1 plus (negsuc n) s2 h = inr (coefficient_not_plus bytes s1 s2 (negsuc n) plus h (λ m e some. omega (arith, ints, e)))

    negative : ((rest : List ℕ) → bytes ≡ 43 ∷ rest → ⊥) → (z : ℤ) (s2 : List ℕ) → Begins integers bytes z s2 → IsFoundOrNone coefficients bytes
    negative none (pos n) s2 h = inr (coefficient_not_minus bytes bytes s2 (pos n) none refl h (λ m e. omega (arith, ints, e)))
    negative none (negsuc n) s2 h = inl (negsuc n, s2, coefficient_minus bytes s2 (negsuc n) h n refl)

    plussed : (s1 : List ℕ) → bytes ≡ 43 ∷ s1 → IsFoundOrNone integers s1 → IsFoundOrNone coefficients bytes
    plussed s1 plus (inl h) = positive s1 plus h.0 h.1 h.2
    plussed s1 plus (inr n) = inr (coefficient_unplus bytes s1 plus (λ z r h m e some. n z r h))

    unplussed : ((rest : List ℕ) → bytes ≡ 43 ∷ rest → ⊥) → IsFoundOrNone integers bytes → IsFoundOrNone coefficients bytes
    unplussed none (inl h) = negative none h.0 h.1 h.2
    unplussed none (inr n) = inr (coefficient_unminus bytes none (λ z r h m e. n z r h))

    go : IsByteOrNone 43 bytes → IsFoundOrNone coefficients bytes
    go (inl h) = plussed h.0 h.1 (integer_decided h.0)
    go (inr n) = unplussed n (integer_decided bytes)

-- VALUES
value_read : (s0 s1 s2 s3 s4 : List ℕ) (v : Var) (z : ℤ) → s0 ≡ 32 ∷ s1 → Begins variables s1 v s2 → s2 ≡ 61 ∷ s3 → Begins integers s3 z s4 → Begins single_values s0 (v, z) s4
value_read s0 s1 s2 s3 s4 v z space name sign number = record {
  spelt =
      space ∙ ap (λ l. 32 ∷ l) (name.spelt ∙ ap (λ l. variable_name v ++ l) (sign ∙ ap (λ l. 61 ∷ l) number.spelt))
      ∙ sym (append_assoc (32 ∷ variable_name v) (61 ∷ []) (signed_decimal z ++ s4)) ∙ sym (append_assoc ((32 ∷ variable_name v) ++ 61 ∷ []) (signed_decimal z) s4);
  fits = record { variable = name.fits; fits = number.fits };
  stops = number.stops;
}

pub value_decided : (bytes : List ℕ) → IsFoundOrNone single_values bytes
value_decided bytes = go (byte_decided 32 bytes)
  where
    number : (s1 : List ℕ) (space : bytes ≡ 32 ∷ s1) (v : Var) (s2 : List ℕ) (name : Begins variables s1 v s2) (s3 : List ℕ) → s2 ≡ 61 ∷ s3 → IsFoundOrNone integers s3
        → IsFoundOrNone single_values bytes
    number s1 space v s2 name s3 sign (inl h) = inl ((v, h.0), h.1, value_read bytes s1 s2 s3 h.1 v h.0 space name sign h.2)
    number s1 space v s2 name s3 sign (inr n) = inr (value_no_number bytes s1 space v s2 name s3 sign n)

    equal : (s1 : List ℕ) (space : bytes ≡ 32 ∷ s1) (v : Var) (s2 : List ℕ) (name : Begins variables s1 v s2) → IsByteOrNone 61 s2 → IsFoundOrNone single_values bytes
    equal s1 space v s2 name (inl h) = number s1 space v s2 name h.0 h.1 (integer_decided h.0)
    equal s1 space v s2 name (inr n) = inr (value_no_sign bytes s1 space v s2 name n)

    named : (s1 : List ℕ) (space : bytes ≡ 32 ∷ s1) → IsFoundOrNone variables s1 → IsFoundOrNone single_values bytes
    named s1 space (inl h) = equal s1 space h.0 h.1 h.2 (byte_decided 61 h.1)
    named s1 space (inr n) = inr (value_no_variable bytes s1 space n)

    go : IsByteOrNone 32 bytes → IsFoundOrNone single_values bytes
    go (inl h) = named h.0 h.1 (variable_decided h.0)
    go (inr n) = inr (value_no_space bytes n)
