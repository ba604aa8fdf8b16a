-- What the words that begin a command stand for.
use Rattle.std.specs.Prelude.{ℕ, codes, Option, Some, None, List, [], ◌∷◌}
use Rattle.geo_program.specs.declared.names.NameKind.{NameKind}
use Rattle.geo_program.specs.declared.names.NameKind.TheVariants as kind
use Rattle.geo_parser.specs.declared.command_words.CommandWord.{CommandWord}
use Rattle.geo_parser.specs.declared.command_words.CommandWord.TheVariants.{Point, Param, Pair, Triple, Inter, Direction, Intersec, Pratio, Step, Weights, Assume}
use Rattle.geo_parser.specs.declared.command_words.ConditionWord.{ConditionWord}
use Rattle.geo_parser.specs.declared.command_words.ConditionWord.TheVariants.{Different, NotCollinear, NotParallel}
use Rattle.geo_parser.specs.declared.command_words.DirectionWord.{DirectionWord}
use Rattle.geo_parser.specs.declared.command_words.DirectionWord.TheVariants.{Parallel, Perp}
use Rattle.geo_parser.specs.declared.command_words.PairWord.{PairWord}
use Rattle.geo_parser.specs.declared.command_words.PairWord.TheVariants.{Line, Med, Online, Midpoint, Symmetric, Oncircle}
use Rattle.geo_parser.specs.declared.command_words.StepWord.{StepWord}
use Rattle.geo_parser.specs.declared.command_words.StepWord.TheVariants.{Tratio, Lratio}
use Rattle.geo_parser.specs.declared.command_words.TripleWord.{TripleWord}
use Rattle.geo_parser.specs.declared.command_words.TripleWord.TheVariants.{Foot, Translate, Reflect, Circumcenter, Orthocenter, Centroid, Second, Cc, Inverse}
use Rattle.geo_parser.specs.Forms.{Slot, a_line, a_number, a_point, new_name_slot, sketch_slot}

-- the word's text, by the kind of command
abbrev pub pair_text : PairWord → List ℕ
pair_text Line = codes "line"
pair_text Med = codes "med"
pair_text Online = codes "online"
pair_text Midpoint = codes "midpoint"
pair_text Symmetric = codes "symmetric"
pair_text Oncircle = codes "oncircle"

abbrev pub triple_text : TripleWord → List ℕ
triple_text Foot = codes "foot"
triple_text Translate = codes "translate"
triple_text Reflect = codes "reflect"
triple_text Circumcenter = codes "circumcenter"
triple_text Orthocenter = codes "orthocenter"
triple_text Centroid = codes "centroid"
triple_text Second = codes "second"
triple_text Cc = codes "cc"
triple_text Inverse = codes "inverse"

abbrev pub direction_text : DirectionWord → List ℕ
direction_text Parallel = codes "parallel"
direction_text Perp = codes "perp"

abbrev pub step_text : StepWord → List ℕ
step_text Tratio = codes "tratio"
step_text Lratio = codes "lratio"

-- the text of the word of a condition
abbrev pub condition_text : ConditionWord → List ℕ
condition_text Different = codes "different"
condition_text NotCollinear = codes "not_collinear"
condition_text NotParallel = codes "not_parallel"

-- the word's text
abbrev pub command_text : CommandWord → List ℕ
command_text Point = codes "point"
command_text Param = codes "param"
command_text (Pair w) = pair_text w
command_text (Triple w) = triple_text w
command_text Inter = codes "inter"
command_text (Direction w) = direction_text w
command_text Intersec = codes "intersec"
command_text Pratio = codes "pratio"
command_text (Step w) = step_text w
command_text Weights = codes "weights"
command_text (Assume w) = codes "assume"

-- the word of the condition that is assumed
abbrev pub command_condition : CommandWord → Option (List ℕ)
command_condition (Assume w) = Some (condition_text w)
command_condition _ = None

-- what the new name names, where the command is on two points
abbrev pub pair_kind : PairWord → NameKind
pair_kind Line = kind.Line
pair_kind Med = kind.Line
pair_kind Online = kind.Point
pair_kind Midpoint = kind.Point
pair_kind Symmetric = kind.Point
pair_kind Oncircle = kind.Point

-- what the new name names, if there is one
abbrev pub command_kind : CommandWord → Option NameKind
command_kind Point = Some kind.Point
command_kind Param = Some kind.Param
command_kind (Pair w) = Some (pair_kind w)
command_kind (Triple w) = Some kind.Point
command_kind Inter = Some kind.Point
command_kind (Direction w) = Some kind.Line
command_kind Intersec = Some kind.Point
command_kind Pratio = Some kind.Point
command_kind (Step w) = Some kind.Point
command_kind Weights = Some kind.Point
command_kind (Assume w) = None

-- how many points the construction makes, by the kind of command
abbrev pub pair_points : PairWord → ℕ
pair_points Line = 0
pair_points Med = 2
pair_points Online = 1
pair_points Midpoint = 1
pair_points Symmetric = 1
pair_points Oncircle = 3

abbrev pub triple_points : TripleWord → ℕ
triple_points Foot = 1
triple_points Translate = 1
triple_points Reflect = 2
triple_points Circumcenter = 5
triple_points Orthocenter = 3
triple_points Centroid = 2
triple_points Second = 2
triple_points Cc = 2
triple_points Inverse = 1

abbrev pub direction_points : DirectionWord → ℕ
direction_points Parallel = 1
direction_points Perp = 2

-- how many points the construction makes
abbrev pub command_points : CommandWord → ℕ
command_points Point = 1
command_points Param = 0
command_points (Pair w) = pair_points w
command_points (Triple w) = triple_points w
command_points Inter = 1
command_points (Direction w) = direction_points w
command_points Intersec = 1
command_points Pratio = 1
command_points (Step w) = 1
command_points Weights = 2
command_points (Assume w) = 0

-- what is due behind the word of a condition
abbrev pub condition_slots : ConditionWord → List Slot
condition_slots Different = a_point ∷ a_point ∷ []
condition_slots NotCollinear = a_point ∷ a_point ∷ a_point ∷ []
condition_slots NotParallel = a_point ∷ a_point ∷ a_point ∷ a_point ∷ []

-- what is due behind the new name, or behind the word of the condition
abbrev pub command_slots : CommandWord → List Slot
command_slots Point = sketch_slot ∷ []
command_slots Param = []
command_slots (Pair w) = a_point ∷ a_point ∷ []
command_slots (Triple w) = a_point ∷ a_point ∷ a_point ∷ []
command_slots Inter = a_point ∷ a_point ∷ a_point ∷ a_point ∷ []
command_slots (Direction w) = a_point ∷ a_line ∷ []
command_slots Intersec = a_line ∷ a_line ∷ []
command_slots Pratio = a_point ∷ a_point ∷ a_point ∷ a_number ∷ []
command_slots (Step w) = a_point ∷ a_point ∷ a_number ∷ []
command_slots Weights = a_point ∷ a_point ∷ a_point ∷ a_number ∷ a_number ∷ []
command_slots (Assume w) = condition_slots w

-- what is due behind the word, and behind that of the condition
abbrev pub command_due : CommandWord → List Slot
command_due w = elim (command_kind w) [ None ↦ command_slots w | Some kind ↦ new_name_slot kind (command_points w) ∷ command_slots w ]
