-- The cited program at a citing one, as the code works it.
use Rattle.std.specs.Prelude.{◌≡◌, ℕ, suc, List, [], ◌∷◌, ◌++◌, map}
use Rattle.geo_program.specs.declared.commands.Command.{Command}
use Rattle.geo_program.specs.declared.names.Name.{Name}
use Rattle.geo_program.specs.declared.names.NameKind.TheVariants as kind
use Rattle.geo_program.specs.Spelling.{SpellsSource}
use Rattle.geo_program.specs.WellFormed.{Source}
use Rattle.geo_terms.specs.Stores.{Store}
use Rattle.geo_terms.specs.Trees.{Tree}
use Rattle.geo_lowering.specs.Counting.{counted, named}
use Rattle.geo_lowering.specs.Lowering.{layout_of, renamed}
use Rattle.geo_lowering.specs.declared.version.Version.TheVariants.{Two}
use Rattle.geo_library.specs.declared.chains.Progress.{Progress as Counted}
use Rattle.geo_library.specs.CitedGoals.{command_goals}
use Rattle.geo_library.specs.Figures.{Figure, IsFigureOf}
use Rattle.geo_library.specs.Inner.Asking.{GoalForm}
use Rattle.geo_library.specs.Inputs.{BeginsWithLog, BeginsWithNames}
use Rattle.geo_library.specs.Instances.{all_asked, statement_text}
use Rattle.geo_library.specs.Renamings.{IsRenaming, Renaming, given_names, image}
use Rattle.geo_library.specs.Working.{ArePassed, IsFirstMiss, Miss, Progress}

-- INPUTS
-- the bytes begin with the log and a line of these texts, and spell the program behind it
pub record IsInput (bytes log : List ℕ) (texts : List (List ℕ)) (q : Source) : Type 0 where
  pub rest : List ℕ
  pub written : List ℕ
  pub begins : BeginsWithLog bytes log rest
  pub named : BeginsWithNames rest texts written
  pub spelt : SpellsSource written q

-- the names are those of the cited program, with texts that give the renaming
pub record IsRenamedBy (p q : Source) (given : List Name) (r : Renaming) : Type 0 where
  pub texts : List (List ℕ)
  pub renames : IsRenaming p.names q.names texts r
  pub names : given ≡ given_names p.names texts

-- GOALS
module _ (q : Source) (r : Renaming) where
  -- the images of terms, asked at a line
  abbrev pub image_forms : ℕ → List Tree → List GoalForm
  image_forms line es = map (λ e. record { line = line; term = renamed (layout_of Two q.commands) (image r e) }) es

  -- of the goals of commands, whose points begin at x and whose lines at `line`
  abbrev pub image_forms_from : Store → ℕ → ℕ → List Command → List GoalForm
  image_forms_from nodes x line [] = []
  image_forms_from nodes x line (c ∷ cs) =
      image_forms line (command_goals nodes (record { 0 = x }) c) ++ image_forms_from nodes (counted kind.Point (named c) x) (suc line) cs

-- OUTCOMES
-- how far the citation has come
abbrev pub progress_form : Counted → Progress
progress_form now = record { lines = now.lines; left = now.budget.left }

module _ (p q : Source) (given : List Name) (r : Renaming) (now : Progress) where
  -- all that is asked is so, over a figure of the citing program, whose statement has this text
  pub record IsWorked (text : List ℕ) : Type 0 where
    pub figure : Figure
    pub drawn : IsFigureOf q figure
    pub end : Progress
    pub passed : ArePassed q figure now (all_asked given r p) end
    pub cited : text ≡ statement_text q

  -- this is the first thing that is not so
  pub record IsMissed (miss : Miss) : Type 0 where
    pub figure : Figure
    pub drawn : IsFigureOf q figure
    pub first : IsFirstMiss q figure now (all_asked given r p) miss
