-- The readable proof of a log: the lines of its program, and for each later line what is reckoned there.
use Rattle.std.specs.Prelude.{ℕ, zero, suc, codes, unwrap_or, Option, List, [], ◌∷◌, ◌++◌}
use Rattle.std.specs.Fmt.{decimal}
use Rattle.std.specs.List.{flat_map}
use Rattle.geo_points.specs.declared.ids.PointId.{PointId}
use Rattle.geo_poly.specs.declared.rows.Row.{Row}
use Rattle.geo_poly.specs.declared.variables.Var.{Var}
use Rattle.geo_poly.specs.Polynomials.{Summands}
use Rattle.geo_terms.specs.Constructions.{Construction}
use Rattle.geo_logs.specs.declared.moves.Move.{Move}
use Rattle.geo_logs.specs.declared.moves.Move.TheVariants as move
use Rattle.geo_logs.specs.declared.moves.Replacement.{Replacement}
use Rattle.geo_logs.specs.Moves.{replacement}
use Rattle.elim_apply.specs.LemmaTable.{lemma_table}
use Rattle.proof_log.specs.declared.log.Line.{Line}
use Rattle.proof_log.specs.declared.log.Line.TheVariants.{Header, Program, Condition, Goal, Start, Ratio, Point, Coords, Cut}
use Rattle.proof_log.specs.declared.log.Line.TheVariants.{End, Sample, Verdict as VerdictLine, StopTooLarge, StopSpent}
use Rattle.proof_log.specs.declared.log.Verdict.{Verdict}
use Rattle.proof_log.specs.declared.log.Verdict.TheVariants.{Proved, False, Impossible}
use Rattle.proof_printer.specs.Naming.{Naming, variable_text}
use Rattle.proof_printer.specs.Polynomials.{exponent_text, factor_text, polynomial_text, value_text}

-- a line of text, with its line feed
abbrev pub ended : List ℕ → List ℕ
ended text = text ++ 10 ∷ []

-- ` / (DEN)`, with `^2` behind it where the power is 2; nothing where the power is 0
abbrev pub denominator_text : Naming → Summands → ℕ → List ℕ
denominator_text n den zero = []
denominator_text n den (suc k) = codes " / (" ++ polynomial_text n den ++ codes ")" ++ exponent_text (suc k)

-- `  NAME = (NUM) / (DEN)`
abbrev pub row_text : Naming → Summands → Row → List ℕ
row_text n den row =
    codes "  " ++ variable_text n row.var ++ codes " = (" ++ polynomial_text n row.num.poly ++ codes ")"
    ++ denominator_text n den row.power

-- the replaced variables in order, each with its row, and then what the move gives
abbrev pub replacement_lines : Naming → Replacement → Summands → List ℕ
replacement_lines n made q =
    flat_map (λ row. ended (row_text n made.den.poly row)) made.rows ++ ended (codes "  gives " ++ polynomial_text n q)

-- a move on the polynomial before, with the polynomial that it gives
abbrev pub move_lines : Naming → Construction → Summands → Move → Summands → List ℕ
move_lines n c before mv q = replacement_lines n (replacement lemma_table c mv before) q

-- the move of a ratio line; a lemma that looks at no point is given point 0, which means nothing
abbrev pub ratio_move : Var → ℕ → Option PointId → Move
ratio_move v lemma at = move.Ratio v lemma (unwrap_or at (record { 0 = 0 }))

-- what a chain ends in
abbrev pub end_text : Summands → List ℕ
end_text [] = codes "  zero"
end_text (t ∷ ts) = codes "  not zero"

-- what a log shows
abbrev pub verdict_text : Verdict → List ℕ
verdict_text Proved = codes "Proved."
verdict_text (False g) = codes "False: goal " ++ decimal g ++ codes " fails there."
verdict_text (Impossible k) = codes "Impossible: condition " ++ decimal k ++ codes " is never met."

-- what is printed of a line of the log, which stands behind this polynomial; a stop stands in no accepted log
abbrev pub lines_of : Naming → Construction → Summands → Line → List ℕ
lines_of n c before (Header version) = []
lines_of n c before (Program text) = ended text
lines_of n c before (Condition k text) = ended (codes "Condition " ++ decimal k ++ codes ": " ++ text)
lines_of n c before (Goal k text) = ended (codes "Goal " ++ decimal k ++ codes ": " ++ text)
lines_of n c before (Start q) = ended (codes "  " ++ polynomial_text n q)
lines_of n c before (Ratio v lemma at q) = move_lines n c before (ratio_move v lemma at) q
lines_of n c before (Point at q) = move_lines n c before (move.Point at) q
lines_of n c before (Coords q) = move_lines n c before move.Coords q
lines_of n c before (Cut by q) = ended (codes "  divide by " ++ factor_text n by ++ codes ": " ++ polynomial_text n q)
lines_of n c before End = ended (end_text before)
lines_of n c before (Sample values) = ended (codes "At" ++ flat_map (value_text n) values)
lines_of n c before (VerdictLine verdict) = ended (verdict_text verdict)
lines_of n c before (StopTooLarge line which) = []
lines_of n c before (StopSpent line) = []

-- the polynomial behind a line: its own, where it has one, and else the one before
abbrev pub polynomial_after : Summands → Line → Summands
polynomial_after before (Start q) = q
polynomial_after before (Ratio v lemma at q) = q
polynomial_after before (Point at q) = q
polynomial_after before (Coords q) = q
polynomial_after before (Cut by q) = q
polynomial_after before _ = before

-- the proof from here on, behind this polynomial
abbrev pub readable : Naming → Construction → Summands → List Line → List ℕ
readable n c before [] = []
readable n c before (line ∷ lines) = lines_of n c before line ++ readable n c (polynomial_after before line) lines
