-- Lines of moves and cuts in a chain.
use Rattle.std.proofs.Common.{◌≡◌, ℕ, ◌-◌, Result, Ok, Err, ℤ, Some, List, refl, sym, ◌∙◌, ap, subst, inr}
use Rattle.std.specs.Result.{IfErr, IfOk, OnOk}
use Rattle.geo_poly.specs.declared.variables.Var.{Var}
use Rattle.geo_poly.specs.Cuts.{IsCut}
use Rattle.geo_poly.specs.Monomials.{Powers}
use Rattle.geo_poly.specs.Polynomials.{Summands}
use Rattle.geo_terms.specs.Constructions.{Construction}
use Rattle.proof_log.specs.declared.log.Line.{Line}
use Rattle.proof_log.specs.declared.log.Line.TheVariants.{Cut}
use Rattle.elim_apply.specs.LemmaTable.{lemma_table}
use Rattle.geo_logs.specs.declared.moves.Move.{Move}
use Rattle.geo_logs.specs.declared.moves.Move.TheVariants.{Ratio, Point, Coords}
use Rattle.geo_logs.specs.Chains.{cuts, line_of, moves}
use Rattle.geo_logs.specs.Judging.{IsCutRefused, IsMoveRefused, IsRefused, Refusal}
use Rattle.geo_logs.specs.Moves.{IsMoved, move_charge, replacement}
use Rattle.geo_logs.specs.Places.{in_chain}
use Rattle.log_checker.specs.Inner.Lines.{IsStepLine, RefusesAt, Tells}
use Rattle.log_checker.specs.declared.stops.Stop.{Stop}
use Rattle.log_checker.proofs.DueRefusals.{tells_map}

module _ (c : Construction) (known : List Var) (left : ℕ) (q : Summands) where
  -- MOVES
  pub move_goes : (result : Result Summands Stop) (mv : Move) (poly : Summands) (line : Line) (left' : ℕ) → line ≡ line_of (moves mv poly) → IfOk result (λ r. r ≡ poly)
      → IfOk result (IsMoved (replacement lemma_table c mv q) left q) → OnOk result (left' ≡ left - move_charge (replacement lemma_table c mv q) q)
      → IfOk result (IsStepLine c known left q line left')
  move_goes (Ok r) mv poly line left' is same moved paid =
      record { step = moves mv r; leads = (moved, (sym paid, refl)); is = is ∙ ap (λ p. line_of (moves mv p)) (sym same) }
  move_goes (Err e) mv poly line left' is same moved paid = tt

  abbrev RefusesMove : Move → Summands → Refusal → Type 0
  RefusesMove mv poly = IsMoveRefused lemma_table c left q mv poly

  abbrev RefusesIn : Line → Refusal → Type 0
  RefusesIn line = IsRefused lemma_table c (in_chain known left q) (Some line)

  move_refused : (mv : Move) (poly : Summands) (stop : Stop) → Tells (RefusesMove mv poly) stop → RefusesAt c (in_chain known left q) (line_of (moves mv poly)) stop
  move_refused (Ratio v lemma at) poly stop h =
      tells_map (RefusesMove (Ratio v lemma at) poly) (RefusesIn (line_of (moves (Ratio v lemma at) poly))) (λ r g. inr (refl, (Ratio v lemma at, poly, refl, g))) stop h
  move_refused (Point at) poly stop h =
      tells_map (RefusesMove (Point at) poly) (RefusesIn (line_of (moves (Point at) poly))) (λ r g. inr (refl, (Point at, poly, refl, g))) stop h
  move_refused Coords poly stop h = tells_map (RefusesMove Coords poly) (RefusesIn (line_of (moves Coords poly))) (λ r g. inr (refl, (Coords, poly, refl, g))) stop h

  pub move_stops : (result : Result Summands Stop) (mv : Move) (poly : Summands) (line : Line) → line ≡ line_of (moves mv poly) → IfErr result (Tells (RefusesMove mv poly))
      → IfErr result (RefusesAt c (in_chain known left q) line)
  move_stops (Ok r) mv poly line is h = tt
  move_stops (Err e) mv poly line is h = subst (λ l. RefusesAt c (in_chain known left q) l e) (sym is) (move_refused mv poly e h)

  -- CUTS
  pub cut_goes : (result : Result Summands Stop) (f : Powers × ℤ) (poly : Summands) (line : Line) → line ≡ Cut f poly → IfOk result (λ r. r ≡ poly) → IfOk result (IsCut known f q)
      → IfOk result (IsStepLine c known left q line left)
  cut_goes (Ok r) f poly line is same cut = record { step = cuts f r; leads = (cut, (refl, refl)); is = is ∙ ap (λ p. Cut f p) (sym same) }
  cut_goes (Err e) f poly line is same cut = tt

  pub cut_stops : (result : Result Summands Stop) (f : Powers × ℤ) (poly : Summands) (line : Line) → line ≡ Cut f poly → IfErr result (Tells (IsCutRefused known q f poly))
      → IfErr result (RefusesAt c (in_chain known left q) line)
  cut_stops (Ok r) f poly line is h = tt
  cut_stops (Err e) f poly line is h =
      subst (λ l. RefusesAt c (in_chain known left q) l e) (sym is) (tells_map (IsCutRefused known q f poly) (RefusesIn (Cut f poly)) (λ r g. inr (refl, g)) e h)
