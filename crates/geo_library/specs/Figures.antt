-- The citing program as the chains of a citation take it, and which of its terms they show to be 0.
use Rattle.std.specs.Prelude.{◌≡◌, ◌≢◌, ℕ, suc, ◌+◌, Bool, true, false, Contains, if◌then◌else◌, List, [], ◌∷◌, ◌++◌, length}
use Rattle.std.specs.List.{flat_map}
use Rattle.geo_poly.specs.declared.variables.Var.{Var}
use Rattle.geo_poly.specs.PolynomialVariables.{variables_of}
use Rattle.geo_terms.specs.Constructions.{Construction}
use Rattle.geo_terms.specs.Trees.{Tree}
use Rattle.geo_program.specs.WellFormed.{Source}
use Rattle.geo_lowering.specs.Conditions.{Condition, different, not_collinear}
use Rattle.geo_lowering.specs.Lowering.{IsLowered, LoweredForm, layout_of, renamed}
use Rattle.geo_lowering.specs.declared.version.Version.TheVariants.{Two}
use Rattle.geo_conditions.specs.Lists.{AreConditions, Found}
use Rattle.geo_conditions.specs.Terms.{condition_term}
use Rattle.elim_apply.specs.LemmaTable.{lemma_table}
use Rattle.geo_logs.specs.Chains.{Chain}
use Rattle.geo_logs.specs.Defined.{IsDefinedChain}
use Rattle.geo_logs.specs.Starts.{start_of}

-- the condition says that a single quantity is not 0, so that this may be divided out
abbrev pub tells_quantity : Condition → Bool
tells_quantity (different a b) = true
tells_quantity (not_collinear a b c) = true
tells_quantity _ = false

-- the variables in the starts of such conditions
abbrev pub known_variables : Source → List Found → List Var
known_variables q conditions =
    flat_map (λ f. if tells_quantity f.condition then variables_of (start_of (condition_term (layout_of Two q.commands) f.condition)) else []) conditions

-- a program's construction, and the variables that chains over it may divide by
pub record Figure : Type 0 where
  pub construction : Construction
  pub known : List Var

-- the figure is that of the program
pub record IsFigureOf (q : Source) (figure : Figure) : Type 0 where
  pub form : LoweredForm
  pub conditions : List Found
  pub lowered : IsLowered Two q form
  pub listed : AreConditions q conditions
  pub same_construction : figure.construction ≡ form.construction
  pub same_known : figure.known ≡ known_variables q conditions

-- the prover's chain of the term of the program q, with so many steps left before and after
abbrev pub IsFigureChain : Source → Figure → ℕ → Tree → Chain → ℕ → Type 0
IsFigureChain q figure left e chain left' =
    IsDefinedChain lemma_table figure.construction figure.known left (renamed (layout_of Two q.commands) e) chain left'

-- the term has a chain that ends in 0
pub record HasZeroChain (q : Source) (figure : Figure) (e : Tree) : Type 0 where
  pub left : ℕ
  pub chain : Chain
  pub after : ℕ
  pub works : IsFigureChain q figure left e chain after
  pub zero : chain.end ≡ []
