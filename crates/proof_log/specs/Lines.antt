-- The text of a log: each line with its line feed.
use Rattle.std.specs.Prelude.{ℕ, cond, ◌==◌, codes, ℤ, pos, negsuc, unsigned_abs, Option, Some, None, List, [], ◌∷◌, ◌++◌, map}
use Rattle.std.specs.Fmt.{decimal, signed_decimal}
use Rattle.std.specs.List.{flat_map, join_with_byte}
use Rattle.geo_poly.specs.declared.variables.Var.{Var}
use Rattle.geo_poly.specs.declared.variables.Var.TheVariants.{R, S, P, X, Y, T}
use Rattle.geo_poly.specs.Monomials.{Powers}
use Rattle.geo_poly.specs.Polynomials.{Summands}
use Rattle.proof_log.specs.declared.log.Line.{Line}
use Rattle.geo_poly.specs.declared.limits.Which.{Which}
use Rattle.geo_poly.specs.declared.limits.Which.TheVariants.{Norm, Degree}
use Rattle.geo_points.specs.declared.ids.PointId.{PointId}
use Rattle.proof_log.specs.declared.log.Line.TheVariants.{Header, Program, Condition, Goal, Start, Ratio, Point, Coords, Cut, End, Sample, Verdict as VerdictLine, StopTooLarge, StopSpent}
use Rattle.proof_log.specs.declared.log.Verdict.{Verdict}
use Rattle.proof_log.specs.declared.log.Verdict.TheVariants.{Proved, False, Impossible}

-- numbers with a dot before each but the first
abbrev pub numbers_text : List ℕ → List ℕ
numbers_text numbers = join_with_byte 46 (map decimal numbers)

-- `S0.1.2`, `x0`, `t3` and so on
abbrev pub variable_name : Var → List ℕ
variable_name (R a b c d) = codes "R" ++ numbers_text (a.0 ∷ b.0 ∷ c.0 ∷ d.0 ∷ [])
variable_name (S a b c) = codes "S" ++ numbers_text (a.0 ∷ b.0 ∷ c.0 ∷ [])
variable_name (P a b c) = codes "P" ++ numbers_text (a.0 ∷ b.0 ∷ c.0 ∷ [])
variable_name (X a) = codes "x" ++ decimal a.0
variable_name (Y a) = codes "y" ++ decimal a.0
variable_name (T t) = codes "t" ++ decimal t.0

-- `*S0.1.2`, or with an exponent of 2 or more `*S0.1.2^2`
abbrev pub power_text : Var × ℕ → List ℕ
power_text p = codes "*" ++ variable_name p.0 ++ cond (p.1 == 1) [] (codes "^" ++ decimal p.1)

-- `-` where the number is negative, else `+`
abbrev pub sign_text : ℤ → List ℕ
sign_text (pos n) = codes "+"
sign_text (negsuc n) = codes "-"

-- the sign, the absolute coefficient and the powers
abbrev pub term_text : Powers × ℤ → List ℕ
term_text t = sign_text t.1 ++ decimal (unsigned_abs t.1) ++ flat_map power_text t.0

-- `0`, or the terms with single spaces between them
abbrev pub polynomial_text : Summands → List ℕ
polynomial_text [] = codes "0"
polynomial_text (t ∷ ts) = join_with_byte 32 (map term_text (t ∷ ts))

-- an integer, without `+`, and the powers
abbrev pub factor_text : Powers × ℤ → List ℕ
factor_text f = signed_decimal f.1 ++ flat_map power_text f.0

-- ` x0=5`
abbrev pub value_text : Var × ℤ → List ℕ
value_text v = codes " " ++ variable_name v.0 ++ codes "=" ++ signed_decimal v.1

-- `proved`, or another verdict with the number of its goal or condition
abbrev pub verdict_text : Verdict → List ℕ
verdict_text Proved = codes "proved"
verdict_text (False g) = codes "false " ++ decimal g
verdict_text (Impossible k) = codes "impossible " ++ decimal k

-- ` at 3`, the point that a lemma looks at, where it looks at one
abbrev pub place_text : Option PointId → List ℕ
place_text None = []
place_text (Some at) = codes " at " ++ decimal at.0

-- `norm` or `degree`
abbrev pub which_text : Which → List ℕ
which_text Norm = codes "norm"
which_text Degree = codes "degree"

-- a line, without its line feed
abbrev pub line_text : Line → List ℕ
line_text (Header version) = codes "geolog " ++ decimal version
line_text (Program text) = codes "| " ++ text
line_text (Condition k text) = codes "condition " ++ decimal k ++ codes " " ++ text
line_text (Goal k text) = codes "goal " ++ decimal k ++ codes " " ++ text
line_text (Start q) = codes "start : " ++ polynomial_text q
line_text (Ratio v lemma at q) =
    codes "ratio " ++ variable_name v ++ codes " by " ++ decimal lemma ++ place_text at ++ codes " : " ++ polynomial_text q
line_text (Point at q) = codes "point " ++ decimal at.0 ++ codes " : " ++ polynomial_text q
line_text (Coords q) = codes "coords : " ++ polynomial_text q
line_text (Cut by q) = codes "cut " ++ factor_text by ++ codes " : " ++ polynomial_text q
line_text End = codes "end"
line_text (Sample values) = codes "sample" ++ flat_map value_text values
line_text (VerdictLine v) = codes "verdict " ++ verdict_text v
line_text (StopTooLarge line which) = codes "stop too_large " ++ decimal line ++ codes " " ++ which_text which
line_text (StopSpent line) = codes "stop spent " ++ decimal line

-- the lines, each with its line feed
abbrev pub log_text : List Line → List ℕ
log_text lines = flat_map (λ line. line_text line ++ 10 ∷ []) lines
