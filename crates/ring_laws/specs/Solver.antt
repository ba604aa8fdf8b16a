-- Expressions over a ring, and a normal form of theirs that computes: two expressions are equal in every ring where the normal form of
-- their difference is 0.
use Rattle.std.specs.Prelude.{ℕ, zero, suc, ◌+◌, ◌*◌, Bool, true, false, ◌&&◌, eqb, ltb, List, [], ◌∷◌}
use Rattle.ring_laws.specs.Ring.{Ring}

infixl 6 ◌⊞◌
infixl 6 ◌⊟◌
infixl 7 ◌⊠◌
-- variables by number, natural numbers, and their sums ⊞, differences ⊟, products ⊠ and opposites
pub data Expression : Type 0 where
  variable : ℕ → Expression
  numeral : ℕ → Expression
  ◌⊞◌ : Expression → Expression → Expression
  ◌⊟◌ : Expression → Expression → Expression
  ◌⊠◌ : Expression → Expression → Expression
  opposite : Expression → Expression

-- ---- what they mean in a ring
-- the entry at a place of a list, or zero past its end
abbrev pub entry_at : (R : Ring) → List R.carrier → ℕ → R.carrier
entry_at R [] k = R.zero
entry_at R (x ∷ xs) zero = x
entry_at R (x ∷ xs) (suc k) = entry_at R xs k

-- the sum of k ones
abbrev pub natural : (R : Ring) → ℕ → R.carrier
natural R zero = R.zero
natural R (suc k) = R.add (natural R k) R.one

-- the value of an expression, where v gives those of its variables
abbrev pub value : (R : Ring) → (ℕ → R.carrier) → Expression → R.carrier
value R v (variable x) = v x
value R v (numeral k) = natural R k
value R v (e ⊞ f) = R.add (value R v e) (value R v f)
value R v (e ⊟ f) = R.add (value R v e) (R.neg (value R v f))
value R v (e ⊠ f) = R.mul (value R v e) (value R v f)
value R v (opposite e) = R.neg (value R v e)

-- ---- the normal form
-- a polynomial in Horner's form: `constant p n` is p - n, and `nested x P Q` is x P + Q for the variable x
pub data Horner : Type 0 where
  constant : ℕ → ℕ → Horner
  nested : ℕ → Horner → Horner → Horner

-- the value of such a polynomial
abbrev pub horner_value : (R : Ring) → (ℕ → R.carrier) → Horner → R.carrier
horner_value R v (constant p n) = R.add (natural R p) (R.neg (natural R n))
horner_value R v (nested x P Q) = R.add (R.mul (v x) (horner_value R v P)) (horner_value R v Q)

-- p - n plus a polynomial
abbrev pub add_constant : ℕ → ℕ → Horner → Horner
add_constant p n (constant a b) = constant (p + a) (n + b)
add_constant p n (nested x P Q) = nested x P (add_constant p n Q)

-- the sum of x P + Q and y S + U, by whether x is y and whether x is below y; `add_P` and `add_Q` add P and Q, and `rest` is x P + Q plus U
abbrev pub join_nested : Bool → Bool → ℕ → Horner → (Horner → Horner) → (Horner → Horner) → ℕ → Horner → Horner
    → (Unit {0} → Horner) → Horner
join_nested true _ x P add_P add_Q y S U rest = nested x (add_P S) (add_Q U)
join_nested false true x P add_P add_Q y S U rest = nested x P (add_Q (nested y S U))
join_nested false false x P add_P add_Q y S U rest = nested y S (rest tt)

-- x P + Q plus a polynomial, where `add_P` and `add_Q` add P and Q
abbrev pub add_nested : ℕ → Horner → (Horner → Horner) → (Horner → Horner) → Horner → Horner
add_nested x P add_P add_Q (constant a b) = nested x P (add_Q (constant a b))
add_nested x P add_P add_Q (nested y S U) = join_nested (eqb x y) (ltb x y) x P add_P add_Q y S U (λ u. add_nested x P add_P add_Q U)

-- the sum of two polynomials
abbrev pub add_horner : Horner → Horner → Horner
add_horner (constant p n) q = add_constant p n q
add_horner (nested x P Q) q = add_nested x P (add_horner P) (add_horner Q) q

-- p - n times a polynomial
abbrev pub scale : ℕ → ℕ → Horner → Horner
scale p n (constant a b) = constant (p * a + n * b) (p * b + n * a)
scale p n (nested x P Q) = nested x (scale p n P) (scale p n Q)

-- x times y P + Q, by whether y is below x; `raised_P` and `raised_Q` are x P and x Q
abbrev pub times_variable_at : Bool → ℕ → ℕ → Horner → Horner → (Unit {0} → Horner) → (Unit {0} → Horner) → Horner
times_variable_at true x y P Q raised_P raised_Q = nested y (raised_P tt) (raised_Q tt)
times_variable_at false x y P Q raised_P raised_Q = nested x (nested y P Q) (constant 0 0)

-- the variable x times a polynomial
abbrev pub times_variable : ℕ → Horner → Horner
times_variable x (constant a b) = nested x (constant a b) (constant 0 0)
times_variable x (nested y P Q) = times_variable_at (ltb y x) x y P Q (λ u. times_variable x P) (λ u. times_variable x Q)

-- the product of two polynomials
abbrev pub times_horner : Horner → Horner → Horner
times_horner (constant p n) q = scale p n q
times_horner (nested x P Q) q = add_horner (times_variable x (times_horner P q)) (times_horner Q q)

-- an expression multiplied out
abbrev pub normal_form : Expression → Horner
normal_form (variable x) = nested x (constant 1 0) (constant 0 0)
normal_form (numeral k) = constant k 0
normal_form (e ⊞ f) = add_horner (normal_form e) (normal_form f)
normal_form (e ⊟ f) = add_horner (normal_form e) (scale 0 1 (normal_form f))
normal_form (e ⊠ f) = times_horner (normal_form e) (normal_form f)
normal_form (opposite e) = scale 0 1 (normal_form e)

-- each coefficient is 0
abbrev pub is_zero : Horner → Bool
is_zero (constant p n) = eqb p n
is_zero (nested x P Q) = is_zero P && is_zero Q

-- the solver finds e and f equal: their difference multiplies out to 0
abbrev pub agrees : Expression → Expression → Bool
agrees e f = is_zero (normal_form (e ⊟ f))

-- ---- equations that are given
-- `given c a b` is the equation a = b with its cofactor c: c (a - b) is to be taken away
pub data Given : Type 0 where
  given : Expression → Expression → Expression → Given

-- an expression less c (a - b) for each of the equations
abbrev pub combined : List Given → Expression → Expression
combined [] e = e
combined (given c a b ∷ hs) e = combined hs (e ⊟ c ⊠ (a ⊟ b))

-- the solver finds e and f equal by the equations: their difference is the sum of all c (a - b)
abbrev pub follows : List Given → Expression → Expression → Bool
follows hs e f = is_zero (normal_form (combined hs (e ⊟ f)))

-- each of the equations holds in the ring
abbrev pub AllGivenHold : (R : Ring) → (ℕ → R.carrier) → List Given → Type 0
AllGivenHold R v [] = Unit {0}
AllGivenHold R v (given c a b ∷ hs) = R.same (value R v a) (value R v b) × AllGivenHold R v hs

-- ---- expressions whose variables stand for quotients
-- one expression over another
pub record Quotient : Type 0 where
  pub top : Expression
  pub bottom : Expression

-- the quotient that an expression is, where v gives those of its variables: over one denominator, with nothing cancelled
abbrev pub as_quotient : (ℕ → Quotient) → Expression → Quotient
as_quotient v (variable x) = v x
as_quotient v (numeral k) = record { top = numeral k; bottom = numeral 1 }
as_quotient v (e ⊞ f) =
    let a = as_quotient v e in let b = as_quotient v f in
    record { top = a.top ⊠ b.bottom ⊞ b.top ⊠ a.bottom; bottom = a.bottom ⊠ b.bottom }
as_quotient v (e ⊟ f) =
    let a = as_quotient v e in let b = as_quotient v f in
    record { top = a.top ⊠ b.bottom ⊞ opposite b.top ⊠ a.bottom; bottom = a.bottom ⊠ b.bottom }
as_quotient v (e ⊠ f) =
    let a = as_quotient v e in let b = as_quotient v f in
    record { top = a.top ⊠ b.top; bottom = a.bottom ⊠ b.bottom }
as_quotient v (opposite e) =
    let a = as_quotient v e in
    record { top = opposite a.top; bottom = a.bottom }

-- the quotient at a place of a list, or 0 past its end
abbrev pub quotient_at : List Quotient → ℕ → Quotient
quotient_at [] k = record { top = numeral 0; bottom = numeral 1 }
quotient_at (x ∷ xs) zero = x
quotient_at (x ∷ xs) (suc k) = quotient_at xs k

-- ---- two lists of values that are the same place by place
abbrev pub AllEntriesSame : (R : Ring) → List R.carrier → List R.carrier → Type 0
AllEntriesSame R [] [] = Unit {0}
AllEntriesSame R (x ∷ xs) (y ∷ ys) = R.same x y × AllEntriesSame R xs ys
AllEntriesSame R _ _ = ⊥
