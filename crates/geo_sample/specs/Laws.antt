-- The laws that stand on the functions of `laws`.
use Rattle.std.specs.Prelude.{◌≡◌, ℕ, ◌≤◌, ◌⊎◌, ℤ, List, map, sum_by, unsigned_abs, All, Contains}
use Rattle.ring_laws.specs.Fraction.{Fraction, Same, whole, IsNonzero}
use Rattle.ring_laws.proofs.Fractions.{fractions}
use Rattle.geo_poly.specs.declared.variables.Var.{Var}
use Rattle.geo_poly.specs.Polynomials.{Summands}
use Rattle.geo_poly.specs.Specialise.{IsCollected, NoneZero, degree_in}
use Rattle.geo_poly.specs.Values.{value}
use Rattle.geo_sample.specs.declared.errors.SampleError.{SampleError}
use Rattle.geo_sample.specs.declared.errors.SampleError.TheVariants.{NoMemory}
use Rattle.geo_sample.specs.Tries.{Try, AreMade, AreSpent, AreTooLarge, EndIn, search_tries, single_tries}
use Rattle.geo_sample.specs.Samples.{IsLeastSample, IsLeastValue, specialised_by}

-- polynomials none of which is zero have exactly one least sample
pub record LeastSampleExists : Type 0 where
  pub exists : (vs : List Var) (ps : List Summands) → All IsCollected ps → NoneZero ps → (xs : List (Var × ℤ)) × IsLeastSample vs ps xs
  pub unique : (vs : List Var) (ps : List Summands) (xs ys : List (Var × ℤ)) → IsLeastSample vs ps xs → IsLeastSample vs ps ys → xs ≡ ys

-- a least value is at most the sum of the degrees in its variable
abbrev pub LeastValuesAreSmall : Type 0
LeastValuesAreSmall =
    (v : Var) (ps : List Summands) (z : ℤ) → All IsCollected ps → NoneZero ps → IsLeastValue v ps z
    → unsigned_abs z ≤ sum_by (degree_in v) ps

-- a least sample has the variables in order, and at it none of the polynomials is zero
pub record IsSample (vs : List Var) (ps : List Summands) (xs : List (Var × ℤ)) : Type 0 where
  pub variables : map (λ x. x.0) xs ≡ vs
  pub keeps : NoneZero (specialised_by xs ps)

abbrev pub LeastSampleKeepsAll : Type 0
LeastSampleKeepsAll = (vs : List Var) (ps : List Summands) (xs : List (Var × ℤ)) → NoneZero ps → IsLeastSample vs ps xs → IsSample vs ps xs

-- where polynomials have no other variables than those with values and none is zero at these, the value of each is not 0 wherever each
-- variable has its value
abbrev pub ValuesAreNotZero : Type 0
ValuesAreNotZero =
    (xs : List (Var × ℤ)) (ps : List Summands) (x : Var → Fraction) → All IsCollected ps
    → All (λ p. (v : Var) → (Contains (map (λ y. y.0) xs) v → ⊥) → degree_in v p ≡ 0) ps
    → NoneZero (specialised_by xs ps) → All (λ y. Same (x y.0) (whole y.1)) xs
    → All (λ p. IsNonzero (value fractions x p)) ps

-- two ends of tries are the same: all are made, or the first stop is for the charge, or it is for the norm; and what is left then is told
-- by the tries
pub record EndsExclude (left : ℕ) (tries : List Try) (r s : ℕ) : Type 0 where
  pub made_or_spent : AreMade left tries r → AreSpent left tries s → ⊥
  pub made_or_large : AreMade left tries r → AreTooLarge left tries s → ⊥
  pub spent_or_large : AreSpent left tries r → AreTooLarge left tries s → ⊥
  pub one_made : AreMade left tries r → AreMade left tries s → r ≡ s
  pub one_spent : AreSpent left tries r → AreSpent left tries s → r ≡ s
  pub one_large : AreTooLarge left tries r → AreTooLarge left tries s → r ≡ s

-- all tries are made, or they stop for a charge, or they stop for a norm
abbrev pub SomeEnd : ℕ → List Try → Type 0
SomeEnd left tries = (rest : ℕ) × (AreMade left tries rest ⊎ (AreSpent left tries rest ⊎ AreTooLarge left tries rest))

-- each list of tries ends in exactly one of these ways
pub record TriesEndInOneWay : Type 0 where
  pub some : (left : ℕ) (tries : List Try) → SomeEnd left tries
  pub one : (left : ℕ) (tries : List Try) (r s : ℕ) → EndsExclude left tries r s

-- where the tries that find a least sample are made, one try for each of its values costs no more
abbrev pub SingleTriesCostNoMore : Type 0
SingleTriesCostNoMore =
    (vs : List Var) (ps : List Summands) (xs : List (Var × ℤ)) (left rest : ℕ) → IsLeastSample vs ps xs
    → AreMade left (search_tries xs ps) rest
    → (more : ℕ) × (rest ≤ more) × AreMade left (single_tries xs ps) more

-- so with as many charges as the search for a sample had, or more, the test of the sample stops only for want of memory
abbrev pub FoundSamplesPass : Type 0
FoundSamplesPass =
    (vs : List Var) (ps : List Summands) (xs : List (Var × ℤ)) (left rest more : ℕ) → IsLeastSample vs ps xs
    → AreMade left (search_tries xs ps) rest → left ≤ more
    → (e : SampleError) (s : ℕ) → EndIn e more (single_tries xs ps) s → e ≡ NoMemory
