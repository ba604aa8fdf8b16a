-- Searches through the variables of a polynomial.
use Rattle.std.specs.Prelude.{◌≡◌, ◌≢◌, ◌≤◌, ◌⊎◌, List, [], ◌∷◌, Option, Some, None, IsTrue, Contains}
use Rattle.std.specs.declared.cmp.Ordering.TheVariants.{Less}
use Rattle.geo_chain.specs.declared.first.Sought.{Sought}
use Rattle.geo_chain.specs.declared.first.Sought.TheVariants.{RatioWith, AnyRatio, AnyQuantity}
use Rattle.geo_logs.specs.Defined.{IsConstructed, has_point}
use Rattle.geo_points.specs.declared.ids.PointId.{PointId}
use Rattle.geo_poly.specs.declared.variables.Var.{Var}
use Rattle.geo_poly.specs.Monomials.{Powers}
use Rattle.geo_poly.specs.Polynomials.{Summands}
use Rattle.geo_poly.specs.PolynomialVariables.{IsQuantity, IsRatio}
use Rattle.geo_poly.specs.Variables.{var_cmp}
use Rattle.geo_terms.specs.Constructions.{Construction}

-- WHAT IS FOUND
-- something is found, and is as good as a
abbrev pub Reaches : {A : Type 0} → (A → A → Type 0) → Option A → A → Type 0
Reaches AsGood None a = ⊥
Reaches AsGood (Some b) a = AsGood b a

-- a search goes over good things: what it has after that it had before, or it is good; and it is as good as what was there and as all good things
pub record Improves {A : Type 0} (AsGood : A → A → Type 0) (Good : A → Type 0) (before after : Option A) : Type 0 where
  pub from : (after ≡ before) ⊎ ((a : A) × (after ≡ Some a) × Good a)
  pub keeps : (a : A) → before ≡ Some a → Reaches AsGood after a
  pub reaches : (a : A) → Good a → Reaches AsGood after a

-- WHERE IT IS LOOKED FOR
-- one of the variables has the property
abbrev pub AnyOf : (Var → Type 0) → List Var → Type 0
AnyOf Holds [] = ⊥
AnyOf Holds (v ∷ vs) = Holds v ⊎ AnyOf Holds vs

-- one of the variables of the monomial has it
abbrev pub AnyAmong : (Var → Type 0) → Powers → Type 0
AnyAmong Holds [] = ⊥
AnyAmong Holds (p ∷ m) = Holds p.0 ⊎ AnyAmong Holds m

-- one of the variables of the polynomial has it
abbrev pub AnyIn : (Var → Type 0) → Summands → Type 0
AnyIn Holds [] = ⊥
AnyIn Holds (t ∷ q) = AnyAmong Holds t.0 ⊎ AnyIn Holds q

-- POINTS
-- y is no lower than z
abbrev pub IsAsHigh : PointId → PointId → Type 0
IsAsHigh y z = z.0 ≤ y.0

-- y is a constructed point of the variable, which is a quantity
abbrev pub MakesPoint : Construction → Var → PointId → Type 0
MakesPoint c v y = IsConstructed c y × IsTrue (has_point y v)

-- y is one of a listed variable
abbrev pub MakesOneOf : Construction → List Var → PointId → Type 0
MakesOneOf c vs y = AnyOf (λ v. MakesPoint c v y) vs

-- y is one of a variable of the monomial
abbrev pub MakesOneAmong : Construction → Powers → PointId → Type 0
MakesOneAmong c m y = AnyAmong (λ v. MakesPoint c v y) m

-- y is one of a variable of the polynomial
abbrev pub MakesOneIn : Construction → Summands → PointId → Type 0
MakesOneIn c q y = AnyIn (λ v. MakesPoint c v y) q

-- VARIABLES
-- v stands no later than w
abbrev pub IsNotAfter : Var → Var → Type 0
IsNotAfter v w = var_cmp w v ≢ Less

-- the variable is of the kind
abbrev pub Fits : Sought → Var → Type 0
Fits (RatioWith y) v = IsRatio v × IsTrue (has_point y v)
Fits AnyRatio v = IsRatio v
Fits AnyQuantity v = IsQuantity v

-- w is the variable v, which is of the kind
abbrev pub IsFitting : Sought → Var → Var → Type 0
IsFitting sought v w = (v ≡ w) × Fits sought w

-- w is a variable of the monomial, of the kind
abbrev pub HasFittingAmong : Sought → Powers → Var → Type 0
HasFittingAmong sought m w = AnyAmong (λ v. IsFitting sought v w) m

-- w is a variable of the polynomial, of the kind
abbrev pub HasFittingIn : Sought → Summands → Var → Type 0
HasFittingIn sought q w = AnyIn (λ v. IsFitting sought v w) q

-- v is the first variable of the kind
pub record IsFirstFitting (sought : Sought) (vs : List Var) (v : Var) : Type 0 where
  pub stands : Contains vs v
  pub fits : Fits sought v
  pub first : (w : Var) → Contains vs w → Fits sought w → IsNotAfter v w

-- no variable is of the kind
abbrev pub NoneFits : Sought → List Var → Type 0
NoneFits sought vs = (v : Var) → Contains vs v → Fits sought v → ⊥
