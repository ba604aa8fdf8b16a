-- What follows from the laws of a ring.
use Rattle.ring_laws.specs.Ring.{Ring}

module _ (R : Ring) where
  open R use {carrier, same as ◌≈◌, add as ◌+◌, mul as ◌*◌, neg, zero, one}

  infix 4 ◌≈◌
  infixl 6 ◌+◌
  infixl 7 ◌*◌
  infixr 3 ◌∘◌
  pub ◌∘◌ : {a b c : carrier} → a ≈ b → b ≈ c → a ≈ c
  ◌∘◌ p q = R.same_trans _ _ _ p q

  pub flip : {a b : carrier} → a ≈ b → b ≈ a
  flip p = R.same_sym _ _ p

  pub self : {a : carrier} → a ≈ a
  self {a} = R.same_refl a

  pub plus : {a b c d : carrier} → a ≈ b → c ≈ d → a + c ≈ b + d
  plus p q = R.add-same _ _ _ _ p q

  pub times : {a b c d : carrier} → a ≈ b → c ≈ d → a * c ≈ b * d
  times p q = R.mul-same _ _ _ _ p q

  pub minus : {a b : carrier} → a ≈ b → neg a ≈ neg b
  minus p = R.neg-same _ _ p

  pub zero-add : (a : carrier) → zero + a ≈ a
  zero-add a = R.add_comm zero a ∘ R.add-zero a

  pub neg-add_self : (a : carrier) → neg a + a ≈ zero
  neg-add_self a = R.add_comm (neg a) a ∘ R.add-neg a

  pub add_swap : (a b c d : carrier) → (a + b) + (c + d) ≈ (a + c) + (b + d)
  add_swap a b c d =
      R.add_assoc a b (c + d) ∘ plus self (flip (R.add_assoc b c d) ∘ plus (R.add_comm b c) self ∘ R.add_assoc c b d)
      ∘ flip (R.add_assoc a c (b + d))

  pub add_left_comm : (a b c : carrier) → a + (b + c) ≈ b + (a + c)
  add_left_comm a b c = flip (R.add_assoc a b c) ∘ plus (R.add_comm a b) self ∘ R.add_assoc b a c

  -- a sum with c tells the other summand
  pub add-cancel : (a b c : carrier) → a + c ≈ b + c → a ≈ b
  add-cancel a b c p = flip (back a) ∘ plus p self ∘ back b
    where
      back : (x : carrier) → (x + c) + neg c ≈ x
      back x = R.add_assoc x c (neg c) ∘ plus self (R.add-neg c) ∘ R.add-zero x

  pub mul-zero : (a : carrier) → a * zero ≈ zero
  mul-zero a = add-cancel (a * zero) zero (a * zero) (flip (R.mul-add a zero zero) ∘ times self (R.add-zero zero) ∘ flip (zero-add (a * zero)))

  pub add-mul : (a b c : carrier) → (a + b) * c ≈ a * c + b * c
  add-mul a b c = R.mul_comm (a + b) c ∘ R.mul-add c a b ∘ plus (R.mul_comm c a) (R.mul_comm c b)

  pub mul_left_comm : (a b c : carrier) → a * (b * c) ≈ b * (a * c)
  mul_left_comm a b c = flip (R.mul_assoc a b c) ∘ times (R.mul_comm a b) self ∘ R.mul_assoc b a c

  -- what adds up with a to nothing is neg a
  pub neg-unique : (a b : carrier) → b + a ≈ zero → b ≈ neg a
  neg-unique a b p = add-cancel b (neg a) a (p ∘ flip (neg-add_self a))

  pub neg-zero : neg zero ≈ zero
  neg-zero = flip (neg-unique zero zero (R.add-zero zero))

  pub neg-neg : (a : carrier) → neg (neg a) ≈ a
  neg-neg a = flip (neg-unique (neg a) a (R.add-neg a))

  pub neg-add : (a b : carrier) → neg (a + b) ≈ neg a + neg b
  neg-add a b = flip (neg-unique (a + b) (neg a + neg b) (add_swap (neg a) (neg b) a b ∘ plus (neg-add_self a) (neg-add_self b) ∘ R.add-zero zero))

  pub mul-neg : (a b : carrier) → a * neg b ≈ neg (a * b)
  mul-neg a b = neg-unique (a * b) (a * neg b) (flip (R.mul-add a (neg b) b) ∘ times self (neg-add_self b) ∘ mul-zero a)

  pub neg-mul : (a b : carrier) → neg a * b ≈ neg (a * b)
  neg-mul a b = R.mul_comm (neg a) b ∘ mul-neg b a ∘ minus (R.mul_comm b a)

  pub neg-mul-neg : (a b : carrier) → neg a * neg b ≈ a * b
  neg-mul-neg a b = neg-mul a (neg b) ∘ minus (mul-neg a b) ∘ neg-neg (a * b)

  -- two values whose difference is nothing are the same
  pub same_of_sub : (a b : carrier) → a + neg b ≈ zero → a ≈ b
  same_of_sub a b p = neg-unique (neg b) a p ∘ neg-neg b

  pub sub_of_same : (a b : carrier) → a ≈ b → a + neg b ≈ zero
  sub_of_same a b p = plus p self ∘ R.add-neg b
