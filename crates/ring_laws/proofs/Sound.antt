-- The normal form keeps the value.
use native.Mathlib.Nat as NatL
use Rattle.std.proofs.Common.{◌≡◌, ℕ, zero as zeroₙ, suc, ◌+◌ as ◌+ₙ◌, ◌*◌ as ◌*ₙ◌, Bool, true, false, ◌&&◌, eqb, ltb, T, subst, sym, eqb→eq}
use Rattle.ring_laws.specs.Ring.{Ring}
use Rattle.ring_laws.specs.Solver.{Expression, variable, numeral, ◌⊞◌, ◌⊟◌, ◌⊠◌, opposite, Horner, constant, nested, add_constant}
use Rattle.ring_laws.specs.Solver.{join_nested, add_nested, add_horner, scale, times_variable_at, times_variable, times_horner, normal_form}
use Rattle.ring_laws.specs.Solver.{is_zero, agrees, natural, value, horner_value}
use Rattle.ring_laws.proofs.Laws as Laws

module _ (R : Ring) (v : ℕ → R.carrier) where
  open R use {carrier, same as ◌≈◌, add as ◌+◌, mul as ◌*◌, neg, zero, one}

  infix 4 ◌≈◌
  infixl 6 ◌+◌
  infixl 7 ◌*◌
  infixr 3 ◌∘◌
  ◌∘◌ : {a b c : carrier} → a ≈ b → b ≈ c → a ≈ c
  ◌∘◌ p q = R.same_trans _ _ _ p q

  flip : {a b : carrier} → a ≈ b → b ≈ a
  flip p = R.same_sym _ _ p

  self : {a : carrier} → a ≈ a
  self {a} = R.same_refl a

  plus : {a b c d : carrier} → a ≈ b → c ≈ d → a + c ≈ b + d
  plus p q = R.add-same _ _ _ _ p q

  times : {a b c d : carrier} → a ≈ b → c ≈ d → a * c ≈ b * d
  times p q = R.mul-same _ _ _ _ p q

  -- t k is the sum of k ones, and val q the value of a polynomial
  abbrev t : ℕ → carrier
  t = natural R

  abbrev val : Horner → carrier
  val = horner_value R v

  pub natural-add : (m n : ℕ) → t (m +ₙ n) ≈ t m + t n
  natural-add m zeroₙ = subst (λ k. t k ≈ t m + zero) (sym (NatL.add-zero m)) (flip (R.add-zero (t m)))
  natural-add m (suc n) = subst (λ k. t k ≈ t m + (t n + one)) (sym (NatL.add-suc m n)) (plus (natural-add m n) self ∘ R.add_assoc (t m) (t n) one)

  pub natural-mul : (m n : ℕ) → t (m *ₙ n) ≈ t m * t n
  natural-mul m zeroₙ = subst (λ k. t k ≈ t m * zero) (sym (NatL.mul-zero m)) (flip (Laws.mul-zero R (t m)))
  natural-mul m (suc n) =
      subst (λ k. t k ≈ t m * (t n + one)) (sym (NatL.mul-suc m n))
      (natural-add (m *ₙ n) m ∘ plus (natural-mul m n) (flip (R.mul-one (t m))) ∘ flip (R.mul-add (t m) (t n) one))

  pub constant-add : (p n a b : ℕ) → val (constant (p +ₙ a) (n +ₙ b)) ≈ val (constant p n) + val (constant a b)
  constant-add p n a b =
      plus (natural-add p a) (R.neg-same _ _ (natural-add n b) ∘ Laws.neg-add R (t n) (t b))
      ∘ Laws.add_swap R (t p) (t a) (neg (t n)) (neg (t b))

  pub constant-mul : (p n a b : ℕ) → val (constant (p *ₙ a +ₙ n *ₙ b) (p *ₙ b +ₙ n *ₙ a)) ≈ val (constant p n) * val (constant a b)
  constant-mul p n a b =
      plus (sums p a n b) (R.neg-same _ _ (sums p b n a) ∘ Laws.neg-add R (t p * t b) (t n * t a))
      ∘ plus self (R.add_comm _ _)
      ∘ Laws.add_swap R (t p * t a) (t n * t b) (neg (t n * t a)) (neg (t p * t b))
      ∘ plus (plus self (flip (Laws.neg-mul R (t n) (t a)))) (plus (flip (Laws.neg-mul-neg R (t n) (t b))) (flip (Laws.mul-neg R (t p) (t b))) ∘ R.add_comm _ _)
      ∘ Laws.add_swap R (t p * t a) (neg (t n) * t a) (t p * neg (t b)) (neg (t n) * neg (t b))
      ∘ plus (flip (R.mul-add (t p) (t a) (neg (t b)))) (flip (R.mul-add (neg (t n)) (t a) (neg (t b))))
      ∘ flip (Laws.add-mul R (t p) (neg (t n)) (t a + neg (t b)))
    where
      sums : (p a n b : ℕ) → t (p *ₙ a +ₙ n *ₙ b) ≈ t p * t a + t n * t b
      sums p a n b = natural-add (p *ₙ a) (n *ₙ b) ∘ plus (natural-mul p a) (natural-mul n b)

  add_constant-value : (p n : ℕ) (q : Horner) → val (add_constant p n q) ≈ val (constant p n) + val q
  add_constant-value p n (constant a b) = constant-add p n a b
  add_constant-value p n (nested x P Q) = plus self (add_constant-value p n Q) ∘ Laws.add_left_comm R (v x * val P) (val (constant p n)) (val Q)

  -- the value of a sum of two nested polynomials, in each of the three orders of their variables
  join_nested-value : (e l : Bool) (x : ℕ) (P Q : Horner) (add_P add_Q : Horner → Horner) (y : ℕ) (S U : Horner) (rest : Unit {0} → Horner)
      → (T e → x ≡ y)
      → ((q : Horner) → val (add_P q) ≈ val P + val q)
      → ((q : Horner) → val (add_Q q) ≈ val Q + val q)
      → val (rest tt) ≈ val (nested x P Q) + val U
      → val (join_nested e l x P add_P add_Q y S U rest) ≈ val (nested x P Q) + val (nested y S U)
  join_nested-value true l x P Q add_P add_Q y S U rest same is_P is_Q is_rest =
      plus (times self (is_P S)) (is_Q U)
      ∘ plus (R.mul-add (v x) (val P) (val S)) self
      ∘ Laws.add_swap R (v x * val P) (v x * val S) (val Q) (val U)
      ∘ subst (λ k. (v x * val P + val Q) + (v x * val S + val U) ≈ (v x * val P + val Q) + (v k * val S + val U)) (same tt) self
  join_nested-value false true x P Q add_P add_Q y S U rest same is_P is_Q is_rest =
      plus self (is_Q (nested y S U)) ∘ flip (R.add_assoc _ _ _)
  join_nested-value false false x P Q add_P add_Q y S U rest same is_P is_Q is_rest =
      plus self is_rest ∘ Laws.add_left_comm R (v y * val S) (val (nested x P Q)) (val U)

  add_nested-value : (x : ℕ) (P Q : Horner) (add_P add_Q : Horner → Horner)
      → ((q : Horner) → val (add_P q) ≈ val P + val q)
      → ((q : Horner) → val (add_Q q) ≈ val Q + val q)
      → (q : Horner) → val (add_nested x P add_P add_Q q) ≈ val (nested x P Q) + val q
  add_nested-value x P Q add_P add_Q is_P is_Q (constant a b) = plus self (is_Q (constant a b)) ∘ flip (R.add_assoc _ _ _)
  add_nested-value x P Q add_P add_Q is_P is_Q (nested y S U) =
      join_nested-value (eqb x y) (ltb x y) x P Q add_P add_Q y S U (λ u. add_nested x P add_P add_Q U) (eqb→eq x y) is_P is_Q
      (add_nested-value x P Q add_P add_Q is_P is_Q U)

  add_horner-value : (p q : Horner) → val (add_horner p q) ≈ val p + val q
  add_horner-value (constant p n) q = add_constant-value p n q
  add_horner-value (nested x P Q) q = add_nested-value x P Q (add_horner P) (add_horner Q) (add_horner-value P) (add_horner-value Q) q

  scale-value : (p n : ℕ) (q : Horner) → val (scale p n q) ≈ val (constant p n) * val q
  scale-value p n (constant a b) = constant-mul p n a b
  scale-value p n (nested x P Q) =
      plus (times self (scale-value p n P) ∘ Laws.mul_left_comm R (v x) (val (constant p n)) (val P)) (scale-value p n Q)
      ∘ flip (R.mul-add (val (constant p n)) (v x * val P) (val Q))

  zero-constant : val (constant 0 0) ≈ zero
  zero-constant = R.add-neg zero

  fresh-value : (x : ℕ) (q : Horner) → val (nested x q (constant 0 0)) ≈ v x * val q
  fresh-value x q = plus self zero-constant ∘ R.add-zero _

  times_variable_at-value : (l : Bool) (x y : ℕ) (P Q : Horner) (raised_P raised_Q : Unit {0} → Horner)
      → val (raised_P tt) ≈ v x * val P
      → val (raised_Q tt) ≈ v x * val Q
      → val (times_variable_at l x y P Q raised_P raised_Q) ≈ v x * val (nested y P Q)
  times_variable_at-value true x y P Q raised_P raised_Q is_P is_Q =
      plus (times self is_P ∘ Laws.mul_left_comm R (v y) (v x) (val P)) is_Q ∘ flip (R.mul-add (v x) (v y * val P) (val Q))
  times_variable_at-value false x y P Q raised_P raised_Q is_P is_Q = fresh-value x (nested y P Q)

  times_variable-value : (x : ℕ) (q : Horner) → val (times_variable x q) ≈ v x * val q
  times_variable-value x (constant a b) = fresh-value x (constant a b)
  times_variable-value x (nested y P Q) = times_variable_at-value (ltb y x) x y P Q (λ u. times_variable x P) (λ u. times_variable x Q) (times_variable-value x P) (times_variable-value x Q)

  times_horner-value : (p q : Horner) → val (times_horner p q) ≈ val p * val q
  times_horner-value (constant p n) q = scale-value p n q
  times_horner-value (nested x P Q) q =
      add_horner-value (times_variable x (times_horner P q)) (times_horner Q q)
      ∘ plus (times_variable-value x (times_horner P q) ∘ times self (times_horner-value P q) ∘ flip (R.mul_assoc (v x) (val P) (val q))) (times_horner-value Q q)
      ∘ flip (Laws.add-mul R (v x * val P) (val Q) (val q))

  one-constant : val (constant 1 0) ≈ one
  one-constant = plus (Laws.zero-add R one) (Laws.neg-zero R) ∘ R.add-zero one

  minus-value : (q : Horner) → val (scale 0 1 q) ≈ neg (val q)
  minus-value q =
      scale-value 0 1 q ∘ times (Laws.zero-add R (neg (zero + one)) ∘ R.neg-same _ _ (Laws.zero-add R one)) self
      ∘ Laws.neg-mul R one (val q) ∘ R.neg-same _ _ (R.mul_comm one (val q) ∘ R.mul-one (val q))

  -- an expression and its normal form have the same value
  pub normal_form-value : (e : Expression) → val (normal_form e) ≈ value R v e
  normal_form-value (variable x) = fresh-value x (constant 1 0) ∘ times self one-constant ∘ R.mul-one (v x)
  normal_form-value (numeral k) = plus self (Laws.neg-zero R) ∘ R.add-zero (t k)
  normal_form-value (e ⊞ f) = add_horner-value (normal_form e) (normal_form f) ∘ plus (normal_form-value e) (normal_form-value f)
  normal_form-value (e ⊟ f) = add_horner-value (normal_form e) (scale 0 1 (normal_form f)) ∘ plus (normal_form-value e) (minus-value (normal_form f) ∘ R.neg-same _ _ (normal_form-value f))
  normal_form-value (e ⊠ f) = times_horner-value (normal_form e) (normal_form f) ∘ times (normal_form-value e) (normal_form-value f)
  normal_form-value (opposite e) = minus-value (normal_form e) ∘ R.neg-same _ _ (normal_form-value e)

  and_left : (a b : Bool) → T (a && b) → T a
  and_left true b h = tt
  and_left false b h = absurd h

  and_right : (a b : Bool) → T (a && b) → T b
  and_right true b h = h
  and_right false b h = absurd h

  is_zero-value : (q : Horner) → T (is_zero q) → val q ≈ zero
  is_zero-value (constant p n) h = subst (λ k. t p + neg (t k) ≈ zero) (eqb→eq p n h) (R.add-neg (t p))
  is_zero-value (nested x P Q) h =
      plus (times self (is_zero-value P (and_left (is_zero P) (is_zero Q) h)) ∘ Laws.mul-zero R (v x)) (is_zero-value Q (and_right (is_zero P) (is_zero Q) h))
      ∘ R.add-zero zero

  -- an expression whose normal form is 0 has the value 0
  pub vanishes : (e : Expression) → T (is_zero (normal_form e)) → value R v e ≈ zero
  vanishes e h = flip (normal_form-value e) ∘ is_zero-value (normal_form e) h

  -- expressions that the solver finds equal have the same value
  pub agree : (e f : Expression) → T (agrees e f) → value R v e ≈ value R v f
  agree e f h = Laws.same_of_sub R (value R v e) (value R v f) (vanishes (e ⊟ f) h)
