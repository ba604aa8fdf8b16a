-- How lines begin, and what follows.
use Rattle.std.specs.Prelude.{◌≡◌, ◌^◌, ◌<◌, ℕ, Bool, false, codes, Option, List, [], ◌++◌}
use Rattle.std.specs.Fmt.{decimal}
use Rattle.std.specs.List.{flat_map}
use Rattle.geo_points.specs.declared.ids.PointId.{PointId}
use Rattle.geo_poly.specs.declared.limits.Which.{Which}
use Rattle.geo_poly.specs.Polynomials.{Summands}
use Rattle.proof_log.specs.declared.log.Line.{Line}
use Rattle.proof_log.specs.declared.log.Line.TheVariants.{Header, Program, Condition, Goal, Start, Ratio, Point, Coords, Cut, End, Sample, Verdict as VerdictLine, StopTooLarge, StopSpent}
use Rattle.proof_log.specs.declared.log.Verdict.TheVariants.{Proved, False, Impossible}
use Rattle.proof_log.specs.declared.leads.Lead.{Lead}
use Rattle.proof_log.specs.declared.leads.Lead.TheVariants.{Header as HeaderLead, Program as ProgramLead, Condition as ConditionLead}
use Rattle.proof_log.specs.declared.leads.Lead.TheVariants.{Goal as GoalLead, Start as StartLead, Ratio as RatioLead, Point as PointLead}
use Rattle.proof_log.specs.declared.leads.Lead.TheVariants.{Coords as CoordsLead, Cut as CutLead, End as EndLead, Sample as SampleLead}
use Rattle.proof_log.specs.declared.leads.Lead.TheVariants.{Proved as ProvedLead, False as FalseLead, Impossible as ImpossibleLead}
use Rattle.proof_log.specs.declared.leads.Lead.TheVariants.{TooLarge as TooLargeLead, Spent as SpentLead}
use Rattle.proof_log.specs.Lines.{factor_text, place_text, polynomial_text, value_text, variable_name, which_text}
use Rattle.proof_log.specs.Writable.{CanWriteHead, CanWriteLemma, CanWritePolynomial, HasNoLineFeed, IsVersion, IsWritable}
use Rattle.proof_log.specs.Inner.Reading.{Form, is_byte, is_number_byte}

-- the text of a lead
abbrev pub lead_text : Lead → List ℕ
lead_text HeaderLead = codes "geolog "
lead_text ProgramLead = codes "| "
lead_text ConditionLead = codes "condition "
lead_text GoalLead = codes "goal "
lead_text StartLead = codes "start : "
lead_text RatioLead = codes "ratio "
lead_text PointLead = codes "point "
lead_text CoordsLead = codes "coords : "
lead_text CutLead = codes "cut "
lead_text EndLead = codes "end"
lead_text SampleLead = codes "sample"
lead_text ProvedLead = codes "verdict proved"
lead_text FalseLead = codes "verdict false "
lead_text ImpossibleLead = codes "verdict impossible "
lead_text TooLargeLead = codes "stop too_large "
lead_text SpentLead = codes "stop spent "

-- no byte
abbrev pub is_no_byte : ℕ → Bool
is_no_byte b = false

-- leads, whatever follows
abbrev pub leads : Form Lead
leads = record { text = lead_text; fits = λ lead. Unit {0}; more = is_no_byte }

-- the lead of a line
abbrev pub lead_of : Line → Lead
lead_of (Header version) = HeaderLead
lead_of (Program text) = ProgramLead
lead_of (Condition k text) = ConditionLead
lead_of (Goal k text) = GoalLead
lead_of (Start q) = StartLead
lead_of (Ratio v lemma at q) = RatioLead
lead_of (Point at q) = PointLead
lead_of (Coords q) = CoordsLead
lead_of (Cut by q) = CutLead
lead_of End = EndLead
lead_of (Sample values) = SampleLead
lead_of (VerdictLine Proved) = ProvedLead
lead_of (VerdictLine (False g)) = FalseLead
lead_of (VerdictLine (Impossible k)) = ImpossibleLead
lead_of (StopTooLarge line which) = TooLargeLead
lead_of (StopSpent line) = SpentLead

-- what follows the lead of a line
abbrev pub body_text : Line → List ℕ
body_text (Header version) = decimal version
body_text (Program text) = text
body_text (Condition k text) = decimal k ++ (codes " " ++ text)
body_text (Goal k text) = decimal k ++ (codes " " ++ text)
body_text (Start q) = polynomial_text q
body_text (Ratio v lemma at q) =
    variable_name v ++ (codes " by " ++ (decimal lemma ++ (place_text at ++ (codes " : " ++ polynomial_text q))))
body_text (Point at q) = decimal at.0 ++ (codes " : " ++ polynomial_text q)
body_text (Coords q) = polynomial_text q
body_text (Cut by q) = factor_text by ++ (codes " : " ++ polynomial_text q)
body_text End = []
body_text (Sample values) = flat_map value_text values
body_text (VerdictLine Proved) = []
body_text (VerdictLine (False g)) = decimal g
body_text (VerdictLine (Impossible k)) = decimal k
body_text (StopTooLarge line which) = decimal line ++ (codes " " ++ which_text which)
body_text (StopSpent line) = decimal line

-- the line has this lead, and the bytes are what follows it
pub record IsBody (lead : Lead) (bytes : List ℕ) (l : Line) : Type 0 where
  pub writable : IsWritable l
  pub lead_is : lead_of l ≡ lead
  pub spelt : bytes ≡ body_text l

-- versions of the format, up to the end of the line
abbrev pub versions : Form ℕ
versions = record { text = decimal; fits = IsVersion; more = is_byte }

-- texts without line feeds, up to the end of the line
abbrev pub texts : Form (List ℕ)
texts = record { text = λ text. text; fits = HasNoLineFeed; more = is_byte }

-- a number, from 1, and a text behind a space
abbrev pub heads : Form (ℕ × List ℕ)
heads = record { text = λ h. decimal h.0 ++ (codes " " ++ h.1); fits = λ h. CanWriteHead h.0 h.1; more = is_byte }

-- a polynomial behind ` : `, up to the end of the line
abbrev pub results : Form Summands
results = record { text = λ q. codes " : " ++ polynomial_text q; fits = CanWritePolynomial; more = is_byte }

-- a lemma with the point that it looks at, where it looks at one
abbrev pub lemmas : Form (ℕ × Option PointId)
lemmas = record { text = λ l. decimal l.0 ++ place_text l.1; fits = λ l. CanWriteLemma l.0 l.1; more = is_number_byte }

-- a number that fits so many bits, up to the end of the line
abbrev pub last_numbers : ℕ → Form ℕ
last_numbers bits = record { text = decimal; fits = λ n. n < 2 ^ bits; more = is_byte }

-- the line of a stop and the bound that is passed
abbrev pub stops : Form (ℕ × Which)
stops = record { text = λ s. decimal s.0 ++ (codes " " ++ which_text s.1); fits = λ s. s.0 < 2 ^ 64; more = is_byte }
