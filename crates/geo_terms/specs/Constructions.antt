-- The steps of a construction, and where a placement meets them.
use Rattle.std.specs.Prelude.{◌≡◌, ℕ, ◌<◌, ◌≤◌, Some, List, length, slice_get}
use Rattle.geo_points.specs.declared.ids.TermId.{TermId}
use Rattle.geo_points.specs.Placements.{Placement}
use Rattle.geo_points.specs.Steps.{IsAlong, IsCrossing, IsFoot, IsTurned, IsWeighted}
use Rattle.geo_terms.specs.declared.steps.Step.{Step}
use Rattle.geo_terms.specs.declared.steps.Step.TheVariants.{Point, Inter, Foot, Pratio, Tratio, Weights}
use Rattle.geo_terms.specs.Stores.{Store, IsStore, tree_of}
use Rattle.geo_terms.specs.Trees.{IsStepNumber}
use Rattle.geo_terms.specs.Values.{HasTreeValue, tree_value}

-- the terms, the steps that make the points, and the number of parameters
pub record Construction : Type 0 where
  pub nodes : Store
  pub steps : List Step
  pub params : ℕ

-- the number of a step stands in the store, without ratios, over points below `points` and parameters below `params`
pub record IsStepTerm (nodes : Store) (points params : ℕ) (r : TermId) : Type 0 where
  pub stored : r.0 < length nodes
  pub number : IsStepNumber points params (tree_of nodes r)

-- the step names points below `points` alone, and its numbers are numbers for a step
abbrev pub IsStep : Store → ℕ → ℕ → Step → Type 0
IsStep nodes points params Point = Unit {0}
IsStep nodes points params (Inter u v p q) = (u.0 < points) × (v.0 < points) × (p.0 < points) × (q.0 < points)
IsStep nodes points params (Foot p u v) = (p.0 < points) × (u.0 < points) × (v.0 < points)
IsStep nodes points params (Pratio w u v r) = (w.0 < points) × (u.0 < points) × (v.0 < points) × IsStepTerm nodes points params r
IsStep nodes points params (Tratio u v r) = (u.0 < points) × (v.0 < points) × IsStepTerm nodes points params r
IsStep nodes points params (Weights o u v r s) =
    (o.0 < points) × (u.0 < points) × (v.0 < points) × IsStepTerm nodes points params r × IsStepTerm nodes points params s

-- each step is one over the points before it
pub record IsConstruction (c : Construction) : Type 0 where
  pub store : IsStore c.nodes
  pub steps : (k : ℕ) (step : Step) → slice_get c.steps k ≡ Some step → IsStep c.nodes k c.params step
  pub few : length c.steps ≤ 512
  pub params_fit : c.params ≤ 4294967295

-- MEETING A STEP

-- the step that makes the point k is met: its numbers have values, and its equation and its condition hold
abbrev pub IsStepMet : Placement → Store → ℕ → Step → Type 0
IsStepMet placed nodes k Point = Unit {0}
IsStepMet placed nodes k (Inter u v p q) =
    IsCrossing (placed.point u.0) (placed.point v.0) (placed.point p.0) (placed.point q.0) (placed.point k)
IsStepMet placed nodes k (Foot p u v) = IsFoot (placed.point p.0) (placed.point u.0) (placed.point v.0) (placed.point k)
IsStepMet placed nodes k (Pratio w u v r) =
    HasTreeValue placed (tree_of nodes r)
    × IsAlong (placed.point w.0) (placed.point u.0) (placed.point v.0) (tree_value placed (tree_of nodes r)) (placed.point k)
IsStepMet placed nodes k (Tratio u v r) =
    HasTreeValue placed (tree_of nodes r)
    × IsTurned (placed.point u.0) (placed.point v.0) (tree_value placed (tree_of nodes r)) (placed.point k)
IsStepMet placed nodes k (Weights o u v r s) =
    HasTreeValue placed (tree_of nodes r)
    × HasTreeValue placed (tree_of nodes s)
    × IsWeighted (placed.point o.0) (placed.point u.0) (placed.point v.0) (tree_value placed (tree_of nodes r))
    (tree_value placed (tree_of nodes s)) (placed.point k)

-- all steps are met
abbrev pub MeetsSteps : Placement → Construction → Type 0
MeetsSteps placed c = (k : ℕ) (step : Step) → slice_get c.steps k ≡ Some step → IsStepMet placed c.nodes k step
