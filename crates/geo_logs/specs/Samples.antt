-- Samples: a whole number for each coordinate of a free point and each parameter, at which no listed polynomial is 0.
use Rattle.std.specs.Prelude.{◌≡◌, ℕ, zero, suc, ◌^◌, ◌<◌, ℤ, pos, List, [], ◌∷◌, ◌++◌, All, map, unsigned_abs, cond}
use Rattle.std.specs.Ordering.{is_eq}
use Rattle.geo_poly.specs.declared.variables.Var.{Var}
use Rattle.geo_poly.specs.declared.variables.Var.TheVariants.{X, Y, T}
use Rattle.geo_poly.specs.Polynomials.{Summands}
use Rattle.geo_poly.specs.Specialise.{NoneZero}
use Rattle.geo_poly.specs.Variables.{var_cmp}
use Rattle.geo_sample.specs.declared.errors.SampleError.{SampleError}
use Rattle.geo_sample.specs.declared.errors.SampleError.TheVariants.{Spent, TooLarge}
use Rattle.geo_sample.specs.Samples.{SearchEndsIn, specialised_by}
use Rattle.geo_sample.specs.Samples as Search
use Rattle.geo_sample.specs.Tries.{AreMade, EndIn, search_tries, single_tries}
use Rattle.geo_terms.specs.declared.steps.Step.{Step}
use Rattle.geo_terms.specs.declared.steps.Step.TheVariants.{Point}
use Rattle.geo_terms.specs.Constructions.{Construction}
use Rattle.geo_logs.specs.Moves.{Stop, spent, too_large}

-- THE VARIABLES
-- the coordinates of each free point, where the steps make the points k, k + 1 and so on
abbrev pub coordinates_from : ℕ → List Step → List Var
coordinates_from k [] = []
coordinates_from k (Point ∷ steps) = X (record { 0 = k }) ∷ Y (record { 0 = k }) ∷ coordinates_from (suc k) steps
coordinates_from k (_ ∷ steps) = coordinates_from (suc k) steps

-- so many parameters, from the number k on
abbrev pub parameters_from : ℕ → ℕ → List Var
parameters_from k zero = []
parameters_from k (suc n) = T (record { 0 = k }) ∷ parameters_from (suc k) n

-- x and y of each free point in order, then all parameters
abbrev pub sample_variables : Construction → List Var
sample_variables c = coordinates_from 0 c.steps ++ parameters_from 0 c.params

-- VALUES
-- the value of a variable, 0 where it is absent
abbrev pub value_in : List (Var × ℤ) → Var → ℤ
value_in [] v = pos 0
value_in (w ∷ ws) v = cond (is_eq (var_cmp w.0 v)) w.1 (value_in ws v)

-- SAMPLES OF ACCEPTED LOGS
-- a value for each variable in order, within the limit; one try for each of them, none past its limits, with so many steps left at first
-- and at last; and no listed polynomial is 0 with all of them
pub record IsAcceptedSample (c : Construction) (listed : List Summands) (left : ℕ) (values : List (Var × ℤ)) (left' : ℕ) : Type 0 where
  pub variables : map (λ v. v.0) values ≡ sample_variables c
  pub fits : All (λ v. unsigned_abs v.1 < 2 ^ 127) values
  pub made : AreMade left (single_tries values listed) left'
  pub nonzero : NoneZero (specialised_by values listed)

-- THE LEAST SAMPLE
-- the least values, variable by variable, and the tries that find them, none past its limits
pub record IsLeastSample (c : Construction) (listed : List Summands) (left : ℕ) (values : List (Var × ℤ)) (left' : ℕ) : Type 0 where
  pub least : Search.IsLeastSample (sample_variables c) listed values
  pub made : AreMade left (search_tries values listed) left'

-- STOPS
-- how tries tell a stop
abbrev pub error_of : Stop → SampleError
error_of spent = Spent
error_of (too_large which) = TooLarge which

-- the search for the least sample is stopped
abbrev pub IsSearchStopped : Construction → List Summands → ℕ → Stop → Type 0
IsSearchStopped c listed left stop = (rest : ℕ) × SearchEndsIn (error_of stop) (sample_variables c) listed left rest

-- the tries of these values are stopped
abbrev pub AreTriesStopped : List Summands → ℕ → List (Var × ℤ) → Stop → Type 0
AreTriesStopped listed left values stop = (rest : ℕ) × EndIn (error_of stop) left (single_tries values listed) rest
