-- The lines of cuts and of moves.
use Rattle.std.proofs.Common.{◌≡◌, ℕ, inl, List, refl, sym, subst}
use Rattle.geo_poly.specs.declared.variables.Var.{Var}
use Rattle.geo_poly.specs.Polynomials.{Summands}
use Rattle.geo_poly.specs.PolynomialVariables.{AllVariables}
use Rattle.geo_poly.proofs.EachVariable.{of-cut}
use Rattle.geo_terms.specs.Constructions.{Construction, IsConstruction}
use Rattle.fraction_poly.specs.TableRows.{HasPointsBelow}
use Rattle.proof_log.specs.declared.log.Line.{Line}
use Rattle.geo_logs.specs.declared.moves.Move.{Move}
use Rattle.geo_logs.specs.declared.moves.Move.TheVariants.{Ratio, Point, Coords}
use Rattle.elim_apply.specs.LemmaTable.{lemma_table}
use Rattle.geo_logs.specs.Moves.{IsMoved, replacement}
use Rattle.geo_logs.specs.Chains.{cuts, line_of, moves}
use Rattle.geo_chain.specs.NextLines.{HasLinePointsBelow, IsCutLine, IsMoveDue, IsNextLine, left_after}
use Rattle.geo_chain.proofs.KeptPoints.{points_kept}

-- CUTS
pub cut_next : (c : Construction) (known : List Var) (left : ℕ) (q : Summands) (line : Line) → IsCutLine known q line → IsNextLine c known left q line left
cut_next c known left q line h = inl (record { step = cuts h.factor h.rest; next = h.rest; leads = (h.due, h.cut, (refl, refl)); is = h.is })

pub cut_points : (n : ℕ) (known : List Var) (q : Summands) (line : Line) → AllVariables (HasPointsBelow n) q → IsCutLine known q line → HasLinePointsBelow n line
cut_points n known q line points h = subst (HasLinePointsBelow n) (sym h.is) (of-cut (HasPointsBelow n) known h.factor q h.rest h.cut points)

-- MOVES
pub move_next : (c : Construction) (known : List Var) (left left' : ℕ) (q r : Summands) (move : Move) (line : Line) → IsMoveDue c known q move
    → IsMoved (replacement lemma_table c move q) left q r → left' ≡ left_after c move q left → line ≡ line_of (moves move r) → IsNextLine c known left q line left'
move_next c known left left' q r move line due moved paid is = inl (record { step = moves move r; next = r; leads = (due.no_cut, due.next, moved, (sym paid, refl)); is = is })

line_points : (n : ℕ) (move : Move) (r : Summands) → AllVariables (HasPointsBelow n) r → HasLinePointsBelow n (line_of (moves move r))
line_points n (Ratio v lemma at) r h = h
line_points n (Point at) r h = h
line_points n Coords r h = h

pub move_points : (c : Construction) → IsConstruction c → (n left : ℕ) (q r : Summands) (move : Move) (line : Line) → AllVariables (HasPointsBelow n) q
    → IsMoved (replacement lemma_table c move q) left q r → line ≡ line_of (moves move r) → HasLinePointsBelow n line
move_points c valid n left q r move line points moved is = subst (HasLinePointsBelow n) (sym is) (line_points n move r (points_kept c valid n move left q r points moved))
