-- The goals that are asked, worked one after another up to the line at which a condition is missing.
use Rattle.std.specs.Prelude.{◌≡◌, ◌≢◌, ◌<◌, ◌⊎◌, ℕ, Option, Some, None, List, [], ◌∷◌}
use Rattle.geo_poly.specs.declared.variables.Var.{Var}
use Rattle.geo_poly.specs.Polynomials.{Summands}
use Rattle.geo_terms.specs.Constructions.{Construction}
use Rattle.geo_terms.specs.Trees.{Tree}
use Rattle.geo_logs.specs.Moves.{Stop, spent, too_large}
use Rattle.geo_library.specs.declared.errors.CiteError.{CiteError}
use Rattle.geo_library.specs.declared.errors.CiteError.TheVariants as cite
use Rattle.geo_library.specs.Inner.Asking.{GoalForm}
use Rattle.geo_library.specs.Inner.Counting.{IsChainHalted, IsChainWorked}
use Rattle.geo_library.specs.Working.{Miss, no_instance, stopped_at}

-- the error tells a miss of which this is so; want of memory tells nothing
abbrev pub TellsMiss : (Miss → Type 0) → CiteError → Type 0
TellsMiss IsSo (cite.NotInstance line) = IsSo (no_instance line)
TellsMiss IsSo (cite.Spent number) = IsSo (stopped_at number spent)
TellsMiss IsSo (cite.TooLarge number which) = IsSo (stopped_at number (too_large which))
TellsMiss IsSo cite.NoMemory = Unit {0}
TellsMiss IsSo _ = ⊥

-- the line comes before the one at which a condition is missing, if there is one
abbrev pub IsBefore : Option ℕ → ℕ → Type 0
IsBefore None line = Unit {0}
IsBefore (Some first) line = line < first

-- a condition is missing, and nothing else
abbrev pub IsMissing : Option ℕ → Miss → Type 0
IsMissing missing miss = (line : ℕ) × (missing ≡ Some line) × (miss ≡ no_instance line)

module _ (c : Construction) (known : List Var) where
  -- the chain of a goal ends in another polynomial than 0, or it stops
  abbrev pub IsGoalMissed : ℕ → ℕ → GoalForm → Miss → Type 0
  IsGoalMissed lines left g miss =
      ((lines' : ℕ) × (left' : ℕ) × (end : Summands) × IsChainWorked c known lines left g.term lines' left' end × (end ≢ []) × (miss ≡ no_instance g.line))
      ⊎ ((number : ℕ) × (stop : Stop) × IsChainHalted c known lines left g.term number stop × (miss ≡ stopped_at number stop))

  -- the chains of all goals end in 0
  abbrev pub AreGoalsZero : ℕ → ℕ → List GoalForm → Type 0
  AreGoalsZero lines left [] = Unit {0}
  AreGoalsZero lines left (g ∷ more) = (mid : ℕ) × (rest : ℕ) × IsChainWorked c known lines left g.term mid rest [] × AreGoalsZero mid rest more

  -- the first thing that is not so, where conditions come before the goals of their line
  abbrev pub IsFirstGoalMiss : Option ℕ → ℕ → ℕ → List GoalForm → Miss → Type 0
  IsFirstGoalMiss missing lines left [] miss = IsMissing missing miss
  IsFirstGoalMiss missing lines left (g ∷ more) miss =
      ((IsBefore missing g.line → ⊥) × IsMissing missing miss)
      ⊎ (IsBefore missing g.line × (IsGoalMissed lines left g miss
      ⊎ ((mid : ℕ) × (rest : ℕ) × IsChainWorked c known lines left g.term mid rest [] × IsFirstGoalMiss missing mid rest more miss)))
