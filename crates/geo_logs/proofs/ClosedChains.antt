-- Chains to their ends, whatever stands behind them.
use Rattle.std.proofs.Common.{◌≡◌, ℕ, List, [], ◌∷◌, ◌++◌, map, append_assoc, refl, sym, ap, ap₂, ◌∙◌}
use Rattle.geo_poly.specs.declared.variables.Var.{Var}
use Rattle.geo_poly.specs.Polynomials.{Summands}
use Rattle.proof_log.specs.declared.log.Line.{Line}
use Rattle.proof_log.specs.declared.log.Line.TheVariants.{Start, End}
use Rattle.geo_logs.specs.Chains.{ChainStep, chain_lines, line_of}
use Rattle.geo_logs.specs.Logs.{Item}
use Rattle.geo_logs.specs.Starts.{start_of}
use Rattle.geo_logs.specs.WalkLaws.{Follow}
use Rattle.geo_logs.specs.Walks.{Rules, result_of}

module _ (rules : Rules) (Behind : ℕ → Summands → List Line → Type 0) where
  -- the rest of a chain behind this polynomial, its end, and what stands behind that
  pub record IsClosed (known : List Var) (left : ℕ) (q : Summands) (lines : List Line) : Type 0 where
    pub steps : List ChainStep
    pub after : ℕ
    pub last : Summands
    pub rest : List Line
    pub follow : Follow rules known left q steps after last
    pub ended : rules.ends known last
    pub split : lines ≡ map line_of steps ++ End ∷ rest
    pub behind : Behind after last rest

  -- a step before it
  pub closed_step : (known : List Var) (before left : ℕ) (q : Summands) (step : ChainStep) (line : Line) (lines : List Line)
      → rules.steps known before q step left → line ≡ line_of step → IsClosed known left (result_of step) lines
      → IsClosed known before q (line ∷ lines)
  closed_step known before left q step line lines goes same h = record {
    steps = step ∷ h.steps;
    after = h.after;
    last = h.last;
    rest = h.rest;
    follow = (left, goes, h.follow);
    ended = h.ended;
    split = ap₂ (λ (l : Line) (ls : List Line). l ∷ ls) same h.split;
    behind = h.behind;
  }

  -- the end alone
  pub closed_end : (known : List Var) (before left : ℕ) (q : Summands) (line : Line) (lines : List Line) → rules.ends known q → line ≡ End
      → left ≡ before → Behind left q lines → IsClosed known before q (line ∷ lines)
  closed_end known before left q line lines ended same spent h = record {
    steps = [];
    after = left;
    last = q;
    rest = lines;
    follow = (sym spent, refl);
    ended = ended;
    split = ap (λ (l : Line). l ∷ lines) same;
    behind = h;
  }

-- a header, a start, and the rest of a chain
pub chain_split : (header : Line) (item : Item) (lines tail rest : List Line) (steps : List ChainStep) (last : Summands)
    → lines ≡ Start (start_of item.term) ∷ tail → tail ≡ map line_of steps ++ End ∷ rest
    → header ∷ lines ≡ chain_lines header item.term (record { steps = steps; end = last }) ++ rest
chain_split header item lines tail rest steps last split more =
    ap (λ (ls : List Line). header ∷ ls)
    (split ∙ ap (λ (ls : List Line). Start (start_of item.term) ∷ ls) (more ∙ sym (append_assoc (map line_of steps) (End ∷ []) rest)))
