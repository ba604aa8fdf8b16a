-- The start of a chain: the numerator of its term.
use Rattle.std.specs.Prelude.{ℕ, ◌≤◌, max}
use Rattle.fraction_poly.specs.Measures.{HasRoom, numbers_of}
use Rattle.fraction_poly.specs.MultipliedOut.{multiplied_out}
use Rattle.geo_poly.specs.Polynomials.{Summands}
use Rattle.geo_terms.specs.Trees.{Tree}
use Rattle.geo_logs.specs.Moves.{IsLineStopped, Stop}

-- the numerator of a term
abbrev pub start_of : Tree → Summands
start_of e = (multiplied_out e).0

-- the charge of a start
abbrev pub start_charge : Tree → ℕ
start_charge e = (numbers_of e).charge

-- the weight of a start, and its degree; the denominator counts too, though it is not written
abbrev pub start_weight : Tree → ℕ
start_weight e = max (numbers_of e).wn (numbers_of e).wd

abbrev pub start_degree : Tree → ℕ
start_degree e = max (numbers_of e).gn (numbers_of e).gd

-- the start is within its limits with so many steps left
pub record IsStarted (left : ℕ) (e : Tree) : Type 0 where
  pub paid : start_charge e ≤ left
  pub room : HasRoom e

-- the start is stopped: it is not paid; else its weight, and else its degree, passes its limit
abbrev pub IsStartStopped : ℕ → Tree → Stop → Type 0
IsStartStopped left e = IsLineStopped left (start_charge e) (start_weight e) (start_degree e)
