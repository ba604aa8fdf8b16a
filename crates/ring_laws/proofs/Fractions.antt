-- The fractions are a ring.
use native.Mathlib.Nat as NatL
use borrow.Author.Differences.{up, down, same_in, product_is}
use Rattle.std.proofs.Common.{◌≡◌, ℕ, ◌*◌, ◌<◌, ℤ, pos, ◌*ℤ◌, refl, sym, ap, arith, List, [], ◌∷◌}
use Rattle.ring_laws.specs.Ring.{Ring}
use Rattle.ring_laws.specs.Solver.{Expression, variable, numeral, ◌⊞◌, ◌⊠◌, opposite, entry_at, given}
use Rattle.ring_laws.specs.Fraction.{Fraction, Same, whole, plus, negated, times}
use Rattle.ring_laws.proofs.Integers.{integers}
use Rattle.ring_laws.proofs.Sound.{agree}
use Rattle.ring_laws.proofs.Combination.{by_combination}

-- a factor that is not 0 cancels
pub cancel : (x y : ℤ) (d : ℕ) → 0 < d → x *ℤ pos d ≡ y *ℤ pos d → x ≡ y
cancel x y d h e =
    let a : up x * d ≡ up y * d = omega (arith, product_is x (pos d), product_is y (pos d), ap up e) in
    let b : down x * d ≡ down y * d = omega (arith, product_is x (pos d), product_is y (pos d), ap down e) in
    let p : up x ≡ up y = NatL.eq_of_mul-eq-mul_right d h (up x) (up y) a in
    let q : down x ≡ down y = NatL.eq_of_mul-eq-mul_right d h (down x) (down y) b in
    same_in x y (omega arith)

pub same_trans : (a b c : Fraction) → Same a b → Same b c → Same a c
same_trans a b c h k = record {
  crossed =
      cancel (a.numerator *ℤ pos c.denominator) (c.numerator *ℤ pos a.denominator) b.denominator b.positive
      (let an = variable 0 in let ad = variable 1 in let bn = variable 2 in let bd = variable 3 in let cn = variable 4 in let cd = variable 5 in
      by_combination integers (entry_at integers (a.numerator ∷ pos a.denominator ∷ b.numerator ∷ pos b.denominator ∷ c.numerator ∷ pos c.denominator ∷ []))
      (given cd (an ⊠ bd) (bn ⊠ ad) ∷ given ad (bn ⊠ cd) (cn ⊠ bd) ∷ [])
      (an ⊠ cd ⊠ bd) (cn ⊠ ad ⊠ bd) (h.crossed, (k.crossed, tt)) tt);
}

pub plus-same : (a b c d : Fraction) → Same a b → Same c d → Same (plus a c) (plus b d)
unfolding whole plus negated times
plus-same a b c d h k = record {
  crossed =
      let an = variable 0 in let ad = variable 1 in let bn = variable 2 in let bd = variable 3 in let cn = variable 4 in let cd = variable 5 in let dn = variable 6 in let dd = variable 7 in
      by_combination integers (entry_at integers (a.numerator ∷ pos a.denominator ∷ b.numerator ∷ pos b.denominator ∷ c.numerator ∷ pos c.denominator ∷ d.numerator ∷ pos d.denominator ∷ []))
      (given (cd ⊠ dd) (an ⊠ bd) (bn ⊠ ad) ∷ given (ad ⊠ bd) (cn ⊠ dd) (dn ⊠ cd) ∷ [])
      ((an ⊠ cd ⊞ cn ⊠ ad) ⊠ (bd ⊠ dd)) ((bn ⊠ dd ⊞ dn ⊠ bd) ⊠ (ad ⊠ cd)) (h.crossed, (k.crossed, tt)) tt;
}

pub times-same : (a b c d : Fraction) → Same a b → Same c d → Same (times a c) (times b d)
unfolding whole plus negated times
times-same a b c d h k = record {
  crossed =
      let an = variable 0 in let ad = variable 1 in let bn = variable 2 in let bd = variable 3 in let cn = variable 4 in let cd = variable 5 in let dn = variable 6 in let dd = variable 7 in
      by_combination integers (entry_at integers (a.numerator ∷ pos a.denominator ∷ b.numerator ∷ pos b.denominator ∷ c.numerator ∷ pos c.denominator ∷ d.numerator ∷ pos d.denominator ∷ []))
      (given (cn ⊠ dd) (an ⊠ bd) (bn ⊠ ad) ∷ given (bn ⊠ ad) (cn ⊠ dd) (dn ⊠ cd) ∷ [])
      ((an ⊠ cn) ⊠ (bd ⊠ dd)) ((bn ⊠ dn) ⊠ (ad ⊠ cd)) (h.crossed, (k.crossed, tt)) tt;
}

pub negated-same : (a b : Fraction) → Same a b → Same (negated a) (negated b)
unfolding whole plus negated times
negated-same a b h = record {
  crossed =
      let an = variable 0 in let ad = variable 1 in let bn = variable 2 in let bd = variable 3 in
      by_combination integers (entry_at integers (a.numerator ∷ pos a.denominator ∷ b.numerator ∷ pos b.denominator ∷ []))
      (given (opposite (numeral 1)) (an ⊠ bd) (bn ⊠ ad) ∷ []) (opposite an ⊠ bd) (opposite bn ⊠ ad) (h.crossed, tt) tt;
}

-- the numerators and denominators of three fractions; an and ad are those of the first, and so on
abbrev parts : Fraction → Fraction → Fraction → List ℤ
parts a b c = a.numerator ∷ pos a.denominator ∷ b.numerator ∷ pos b.denominator ∷ c.numerator ∷ pos c.denominator ∷ []

module _ (a b c : Fraction) where
  abbrev env : ℕ → ℤ
  env = entry_at integers (parts a b c)

  abbrev an : Expression
  an = variable 0

  abbrev ad : Expression
  ad = variable 1

  abbrev bn : Expression
  bn = variable 2

  abbrev bd : Expression
  bd = variable 3

  abbrev cn : Expression
  cn = variable 4

  abbrev cd : Expression
  cd = variable 5

  pub plus_comm : Same (plus a b) (plus b a)
  unfolding whole plus negated times
  plus_comm = record { crossed = agree integers env ((an ⊠ bd ⊞ bn ⊠ ad) ⊠ (bd ⊠ ad)) ((bn ⊠ ad ⊞ an ⊠ bd) ⊠ (ad ⊠ bd)) tt }

  pub plus_assoc : Same (plus (plus a b) c) (plus a (plus b c))
  unfolding whole plus negated times
  plus_assoc = record {
    crossed =
        agree integers env (((an ⊠ bd ⊞ bn ⊠ ad) ⊠ cd ⊞ cn ⊠ (ad ⊠ bd)) ⊠ (ad ⊠ (bd ⊠ cd)))
        ((an ⊠ (bd ⊠ cd) ⊞ (bn ⊠ cd ⊞ cn ⊠ bd) ⊠ ad) ⊠ (ad ⊠ bd ⊠ cd)) tt;
  }

  pub plus-zero : Same (plus a (whole (pos 0))) a
  unfolding whole plus negated times
  plus-zero = record { crossed = agree integers env ((an ⊠ numeral 1 ⊞ numeral 0 ⊠ ad) ⊠ ad) (an ⊠ (ad ⊠ numeral 1)) tt }

  pub plus-negated : Same (plus a (negated a)) (whole (pos 0))
  unfolding whole plus negated times
  plus-negated = record { crossed = agree integers env ((an ⊠ ad ⊞ opposite an ⊠ ad) ⊠ numeral 1) (numeral 0 ⊠ (ad ⊠ ad)) tt }

  pub times_comm : Same (times a b) (times b a)
  unfolding whole plus negated times
  times_comm = record { crossed = agree integers env ((an ⊠ bn) ⊠ (bd ⊠ ad)) ((bn ⊠ an) ⊠ (ad ⊠ bd)) tt }

  pub times_assoc : Same (times (times a b) c) (times a (times b c))
  unfolding whole plus negated times
  times_assoc = record { crossed = agree integers env ((an ⊠ bn ⊠ cn) ⊠ (ad ⊠ (bd ⊠ cd))) ((an ⊠ (bn ⊠ cn)) ⊠ (ad ⊠ bd ⊠ cd)) tt }

  pub times-one : Same (times a (whole (pos 1))) a
  unfolding whole plus negated times
  times-one = record { crossed = agree integers env ((an ⊠ numeral 1) ⊠ ad) (an ⊠ (ad ⊠ numeral 1)) tt }

  pub times-plus : Same (times a (plus b c)) (plus (times a b) (times a c))
  unfolding whole plus negated times
  times-plus = record {
    crossed =
        agree integers env ((an ⊠ (bn ⊠ cd ⊞ cn ⊠ bd)) ⊠ (ad ⊠ bd ⊠ (ad ⊠ cd)))
        ((an ⊠ bn ⊠ (ad ⊠ cd) ⊞ an ⊠ cn ⊠ (ad ⊠ bd)) ⊠ (ad ⊠ (bd ⊠ cd))) tt;
  }

-- the ring of the fractions, up to being the same number
abbrev pub fractions : Ring
fractions = record {
  carrier = Fraction;
  same = Same;
  zero = whole (pos 0);
  one = whole (pos 1);
  add = plus;
  mul = times;
  neg = negated;
  same_refl = λ a. record { crossed = refl };
  same_sym = λ a b h. record { crossed = sym h.crossed };
  same_trans = same_trans;
  add-same = plus-same;
  mul-same = times-same;
  neg-same = negated-same;
  add_comm = λ a b. plus_comm a b a;
  add_assoc = plus_assoc;
  add-zero = λ a. plus-zero a a a;
  add-neg = λ a. plus-negated a a a;
  mul_comm = λ a b. times_comm a b a;
  mul_assoc = times_assoc;
  mul-one = λ a. times-one a a a;
  mul-add = times-plus;
}
