-- The laws of fractions.
use Rattle.std.specs.Prelude.{pos}
use Rattle.ring_laws.specs.Fraction.{Fraction, Same, whole, plus, negated, times, IsNonzero, quotient}

-- being the same number is an equivalence, and sums, products and opposites respect it
pub record SameIsACongruence : Type 0 where
  pub reflexive : (a : Fraction) → Same a a
  pub symmetric : (a b : Fraction) → Same a b → Same b a
  pub transitive : (a b c : Fraction) → Same a b → Same b c → Same a c
  pub sums : (a b c d : Fraction) → Same a b → Same c d → Same (plus a c) (plus b d)
  pub products : (a b c d : Fraction) → Same a b → Same c d → Same (times a c) (times b d)
  pub opposites : (a b : Fraction) → Same a b → Same (negated a) (negated b)

-- up to `Same`, the fractions meet the laws of a field
pub record FractionsAreAField : Type 0 where
  pub sum_commutes : (a b : Fraction) → Same (plus a b) (plus b a)
  pub sum_associates : (a b c : Fraction) → Same (plus (plus a b) c) (plus a (plus b c))
  pub zero : (a : Fraction) → Same (plus a (whole (pos 0))) a
  pub opposite : (a : Fraction) → Same (plus a (negated a)) (whole (pos 0))
  pub product_commutes : (a b : Fraction) → Same (times a b) (times b a)
  pub product_associates : (a b c : Fraction) → Same (times (times a b) c) (times a (times b c))
  pub one : (a : Fraction) → Same (times a (whole (pos 1))) a
  pub distributes : (a b c : Fraction) → Same (times a (plus b c)) (plus (times a b) (times a c))
  pub quotient_times_divisor : (a b : Fraction) → IsNonzero b → Same (times (quotient a b) b) a
