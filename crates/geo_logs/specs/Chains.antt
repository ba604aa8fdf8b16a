-- Chains: the start of a term, moves and cuts in any order, and an end without quantities of points.
use Rattle.std.specs.Prelude.{◌≡◌, ℕ, ◌-◌, ℤ, List, [], ◌∷◌, ◌++◌, map}
use Rattle.geo_poly.specs.declared.variables.Var.{Var}
use Rattle.geo_poly.specs.Cuts.{IsCut}
use Rattle.geo_logs.specs.Starts.{IsStarted, start_charge, start_of}
use Rattle.geo_poly.specs.Monomials.{Powers}
use Rattle.geo_poly.specs.Polynomials.{Summands}
use Rattle.geo_terms.specs.Constructions.{Construction}
use Rattle.geo_terms.specs.Trees.{Tree}
use Rattle.proof_log.specs.declared.log.Line.{Line}
use Rattle.proof_log.specs.declared.log.Line.TheVariants.{Start, Ratio as RatioLine, Point as PointLine, Coords as CoordsLine, Cut, End}
use Rattle.geo_logs.specs.declared.moves.Move.{Move}
use Rattle.geo_logs.specs.declared.moves.Move.TheVariants.{Ratio, Point, Coords}
use Rattle.geo_logs.specs.Moves.{Table, IsMoved, move_charge, place_of_lemma, replacement}
use Rattle.geo_poly.specs.PolynomialVariables.{AllVariables, IsPlain}

-- THE STEPS OF A CHAIN
-- a move or a cut, with the polynomial after it
pub data ChainStep : Type 0 where
  moves : Move → Summands → ChainStep
  cuts : Powers × ℤ → Summands → ChainStep

-- the steps lead from q to e: moves and cuts in any order with their exact results, none past its limits, with so many steps left at first
-- and at last
abbrev pub LeadsTo : Table → Construction → List Var → ℕ → Summands → List ChainStep → ℕ → Summands → Type 0
LeadsTo table c known left q [] left' e = (left ≡ left') × (q ≡ e)
LeadsTo table c known left q (moves move r ∷ steps) left' e =
    IsMoved (replacement table c move q) left q r
    × LeadsTo table c known (left - move_charge (replacement table c move q) q) r steps left' e
LeadsTo table c known left q (cuts f r ∷ steps) left' e = IsCut known f q r × LeadsTo table c known left r steps left' e

-- no quantity of points is left
abbrev pub IsEnd : Summands → Type 0
IsEnd q = AllVariables IsPlain q

-- a chain: its steps and the polynomial at its end
pub record Chain : Type 0 where
  pub steps : List ChainStep
  pub end : Summands

-- the chain is one of the term: the right start, moves and cuts in any order, an end
pub record IsAcceptedChain (table : Table) (c : Construction) (known : List Var) (left : ℕ) (e : Tree) (chain : Chain) (left' : ℕ)
    : Type 0 where
  pub started : IsStarted left e
  pub leads : LeadsTo table c known (left - start_charge e) (start_of e) chain.steps left' chain.end
  pub ended : IsEnd chain.end

-- THEIR LINES
-- the line of a step; that of a ratio names no point for lemma 0
abbrev pub line_of : ChainStep → Line
line_of (moves (Ratio v lemma at) r) = RatioLine v lemma (place_of_lemma lemma at) r
line_of (moves (Point at) r) = PointLine at r
line_of (moves Coords r) = CoordsLine r
line_of (cuts f r) = Cut f r

-- the header, the start, the steps, the end
abbrev pub chain_lines : Line → Tree → Chain → List Line
chain_lines header e chain = header ∷ Start (start_of e) ∷ map line_of chain.steps ++ End ∷ []
