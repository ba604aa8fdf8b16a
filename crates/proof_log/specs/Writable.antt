-- Which lines may be written: each has a text of its own.
use Rattle.std.specs.Prelude.{◌≡◌, ◌≢◌, ◌↔◌, ◌^◌, ◌<◌, ◌≤◌, ℕ, ℤ, unsigned_abs, Option, List, [], ◌∷◌, IfSome, IsNone}
use Rattle.sparse_lists.specs.SparseLists.{AllKeys}
use Rattle.geo_points.specs.declared.ids.PointId.{PointId}
use Rattle.geo_poly.specs.declared.variables.Var.{Var}
use Rattle.geo_poly.specs.declared.variables.Var.TheVariants.{R, S, P, X, Y, T}
use Rattle.geo_poly.specs.Monomials.{Powers, IsMonomial}
use Rattle.geo_poly.specs.Factors.{IsFactor}
use Rattle.geo_poly.specs.Polynomials.{Summands, IsPolynomial}
pub use Rattle.geo_poly.specs.SortedVariables.{IsSorted}
use Rattle.geo_poly.specs.PolynomialVariables.{AllVariables, IsRatio}
use Rattle.proof_log.specs.declared.log.Line.{Line}
use Rattle.proof_log.specs.declared.log.Line.TheVariants.{Header, Program, Condition, Goal, Start, Ratio, Point, Coords, Cut, End, Sample, Verdict as VerdictLine, StopTooLarge, StopSpent}
use Rattle.proof_log.specs.declared.log.Verdict.{Verdict}
use Rattle.proof_log.specs.declared.log.Verdict.TheVariants.{Proved, False, Impossible}

-- VARIABLES

-- the numbers of its points, or of its parameter
abbrev pub numbers : Var → List ℕ
numbers (R a b c d) = a.0 ∷ b.0 ∷ c.0 ∷ d.0 ∷ []
numbers (S a b c) = a.0 ∷ b.0 ∷ c.0 ∷ []
numbers (P a b c) = a.0 ∷ b.0 ∷ c.0 ∷ []
numbers (X a) = a.0 ∷ []
numbers (Y a) = a.0 ∷ []
numbers (T t) = t.0 ∷ []

-- each number fits 32 bits
abbrev pub AreSmall : List ℕ → Type 0
AreSmall [] = Unit {0}
AreSmall (n ∷ ns) = (n < 2 ^ 32) × AreSmall ns

-- a variable of a line: its sorted form is the only one that has a name
pub record IsVariable (v : Var) : Type 0 where
  pub sorted : IsSorted v
  pub small : AreSmall (numbers v)

-- POLYNOMIALS, FACTORS AND VALUES

-- a monomial in variables of lines
pub record CanWriteMonomial (m : Powers) : Type 0 where
  pub monomial : IsMonomial m
  pub variables : AllKeys IsVariable m

-- a factor in variables of lines
pub record CanWriteFactor (f : Powers × ℤ) : Type 0 where
  pub factor : IsFactor f
  pub variables : AllKeys IsVariable f.0

-- a polynomial in variables of lines
pub record CanWritePolynomial (q : Summands) : Type 0 where
  pub polynomial : IsPolynomial q
  pub variables : AllVariables IsVariable q

-- a variable with a whole number below `2^127` in absolute value
pub record CanWriteValue (v : Var × ℤ) : Type 0 where
  pub variable : IsVariable v.0
  pub fits : unsigned_abs v.1 < 2 ^ 127

-- each of the values can be written
abbrev pub CanWriteValues : List (Var × ℤ) → Type 0
CanWriteValues [] = Unit {0}
CanWriteValues (v ∷ vs) = CanWriteValue v × CanWriteValues vs

-- LINES

-- the versions of the format are 1 and 2
abbrev pub IsVersion : ℕ → Type 0
IsVersion version = (1 ≤ version) × (version ≤ 2)

-- no line feed
abbrev pub HasNoLineFeed : List ℕ → Type 0
HasNoLineFeed [] = Unit {0}
HasNoLineFeed (b ∷ bs) = (b ≢ 10) × HasNoLineFeed bs

-- the head of a chain: its number, from 1, and its text
pub record CanWriteHead (k : ℕ) (text : List ℕ) : Type 0 where
  pub positive : 1 ≤ k
  pub small : k < 2 ^ 32
  pub one_line : HasNoLineFeed text

-- a lemma of this number, which looks at a point exactly where it is not lemma 0
pub record CanWriteLemma (lemma : ℕ) (at : Option PointId) : Type 0 where
  pub small : lemma < 2 ^ 32
  pub point : IfSome at (λ y. y.0 < 2 ^ 32)
  pub no_point : IsNone at ↔ (lemma ≡ 0)

-- the number of a verdict's goal or condition fits 32 bits
abbrev pub CanWriteVerdict : Verdict → Type 0
CanWriteVerdict Proved = Unit {0}
CanWriteVerdict (False g) = g < 2 ^ 32
CanWriteVerdict (Impossible k) = k < 2 ^ 32

-- a line that may be written
abbrev pub IsWritable : Line → Type 0
IsWritable (Header version) = IsVersion version
IsWritable (Program text) = HasNoLineFeed text
IsWritable (Condition k text) = CanWriteHead k text
IsWritable (Goal k text) = CanWriteHead k text
IsWritable (Start q) = CanWritePolynomial q
IsWritable (Ratio v lemma at q) = IsRatio v × IsVariable v × CanWriteLemma lemma at × CanWritePolynomial q
IsWritable (Point at q) = (at.0 < 2 ^ 32) × CanWritePolynomial q
IsWritable (Coords q) = CanWritePolynomial q
IsWritable (Cut by q) = CanWriteFactor by × CanWritePolynomial q
IsWritable End = Unit {0}
IsWritable (Sample values) = CanWriteValues values
IsWritable (VerdictLine v) = CanWriteVerdict v
IsWritable (StopTooLarge line which) = line < 2 ^ 64
IsWritable (StopSpent line) = line < 2 ^ 64

-- each of the lines may be written
abbrev pub AllWritable : List Line → Type 0
AllWritable [] = Unit {0}
AllWritable (l ∷ ls) = IsWritable l × AllWritable ls
