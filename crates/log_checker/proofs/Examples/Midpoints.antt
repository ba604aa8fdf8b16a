-- `point A point B midpoint M A B prove { collinear A M B }`: the program, its lowered form, its log, line by line and as bytes, and what it proves.
use Rattle.std.proofs.Common.{◌≡◌, ◌≢◌, ℕ, zero, suc, ◌<◌, ◌^◌, Bool, true, false, Option, Some, None, inl, inr, ℤ, pos, negsuc, Contains}
use Rattle.std.proofs.Common.{IsTrue, List, [], ◌∷◌, ◌++◌, length, map, cond, ◌==◌, ◌∙◌, eq-eqb, refl, sym, ap, subst, arith, lit<, lit≤}
use Rattle.std.proofs.Common.{unsigned_abs}
use Rattle.std.specs.Prelude.{codes, slice_get}
use Rattle.std.specs.Fmt.{digits}
use Rattle.std.specs.List.{flat_map}
use Rattle.std.proofs.lemmas.List.Elements.{All-from_recursion, All-head, All-nil}
use Rattle.geo_poly.specs.declared.variables.Var.{Var}
use Rattle.geo_poly.specs.declared.variables.Var.TheVariants.{S as area, X as abscissa, Y as ordinate}
use Rattle.std.specs.Int.{◌∣◌}
use Rattle.std.proofs.lemmas.Nat.Gcd.{dvd_refl}
use Rattle.geo_poly.specs.Cuts.{IsCut}
use Rattle.geo_poly.specs.Factors.{IsFactorOf}
use Rattle.geo_poly.specs.PolynomialVariables.{IsRatio}
use Rattle.geo_poly.specs.Monomials.{Powers}
use Rattle.geo_poly.specs.Polynomials.{IsPolynomial, Summands}
use Rattle.geo_terms.specs.declared.nodes.Node.{Node}
use Rattle.geo_terms.specs.declared.nodes.Node.TheVariants as node
use Rattle.geo_terms.specs.declared.steps.Step.{Step}
use Rattle.geo_terms.specs.declared.steps.Step.TheVariants as step
use Rattle.geo_terms.specs.Constructions.{Construction, IsStep}
use Rattle.geo_terms.specs.Stores.{HasChildrenBelow, HasShortInteger, Store}
use Rattle.geo_terms.specs.Trees.{area_leaf}
use Rattle.geo_program.specs.declared.commands.Command.TheVariants as command
use Rattle.geo_program.specs.declared.names.Name.{Name}
use Rattle.geo_program.specs.declared.names.NameKind.TheVariants as kind
use Rattle.geo_program.specs.declared.statements.Statement.TheVariants as statement
use Rattle.geo_program.specs.Forms.{point_argument}
use Rattle.geo_program.specs.WellFormed.{AllDiffer, IsArgument, IsWellFormed, Source, declare, empty_scope, scope_of}
use Rattle.geo_program.specs.Words.{IsNameText}
use Rattle.geo_lowering.specs.Lowering.{IsLowered, LoweredForm}
use Rattle.geo_lowering.specs.declared.version.Version.TheVariants.{Two}
use Rattle.geo_conditions.specs.Lists.{goal_item}
use Rattle.geo_conditions.specs.Truth.{IsTrueProgram}
use Rattle.geo_sample.specs.Samples.{IsLeastValue}
use Rattle.geo_sample.specs.Tries.{IsTooLarge, single_tries, search_tries}
use Rattle.proof_log.specs.declared.log.Line.{Line}
use Rattle.proof_log.specs.declared.log.Line.TheVariants.{Header, Program as ProgramLine, Goal, Start, Point as PointLine, Cut, End, Sample, Verdict as VerdictLine, StopSpent}
use Rattle.proof_log.specs.declared.log.Verdict.TheVariants.{Proved}
use Rattle.proof_log.specs.Writable.{AllWritable, CanWritePolynomial, CanWriteValue, CanWriteValues, HasNoLineFeed, IsVariable}
use Rattle.geo_logs.specs.declared.moves.Move.TheVariants.{Point as PointMove}
use Rattle.elim_apply.specs.LemmaTable.{lemma_table}
use Rattle.geo_logs.specs.Moves.{IsMoved, replacement, spent}
use Rattle.geo_logs.specs.Places.{in_chain}
use Rattle.geo_logs.specs.Starts.{IsStarted}
use Rattle.geo_logs.specs.Chains.{Chain, IsAcceptedChain, cuts, moves}
use Rattle.geo_logs.specs.Defined.{IsCutDue, IsDefinedChain, IsHighest, IsLogOfProver, has_point}
use Rattle.geo_logs.specs.Ends.{IsDefinedLog, ends_by, ends_with}
use Rattle.geo_logs.specs.Logs.{IsAccepted, Subject}
use Rattle.geo_logs.specs.Samples.{IsAcceptedSample, IsLeastSample}
use Rattle.geo_logs.proofs.Examples.{at}
use Rattle.log_checker.specs.Accepted.{Accepts}
use Rattle.log_checker.specs.Subjects.{IsSubjectOf}
use Rattle.log_checker.proofs.AcceptedBytes.{accepted_bytes_mean}
use Rattle.log_checker.proofs.Examples.Logs.{letter_name, letter_point, letters_apart, none_in, only_in, term}
use Rattle.log_checker.proofs.Places.{below}

-- THE PROGRAM
abbrev pub midpoint_source : Source
midpoint_source = record {
  names = letter_point 65 ∷ letter_point 66 ∷ letter_point 77 ∷ [];
  nodes = [];
  commands = command.Point ∷ command.Point ∷ command.Midpoint (at 0) (at 1) ∷ [];
  statement = statement.Collinear (at 0) (at 2) (at 1);
}

midpoint_names : AllDiffer midpoint_source.names
midpoint_names = (two, (only_in (77 ∷ []) (66 ∷ []) (letters_apart 66 77 (λ e. omega (arith, e))), (none_in (77 ∷ []), tt)))
  where
    two : Contains {X = List ℕ} ((66 ∷ []) ∷ (77 ∷ []) ∷ []) (65 ∷ []) → ⊥
    two (zero, lt, is) = letters_apart 66 65 (λ e. omega (arith, e)) is
    two (suc zero, lt, is) = letters_apart 77 65 (λ e. omega (arith, e)) is
    two (suc (suc k), lt, is) = omega (arith, lt)

pub midpoint_well_formed : IsWellFormed midpoint_source
midpoint_well_formed = record {
  names = All-from_recursion (λ (n : Name). IsNameText n.text) midpoint_source.names (letter_name 65 refl, (letter_name 66 refl, (letter_name 77 refl, tt)));
  differ = midpoint_names;
  commands = (
    record { named = refl; arguments = All-nil (IsArgument empty_scope); stored = tt },
    (
      record { named = refl; arguments = All-nil (IsArgument (declare kind.Point empty_scope)); stored = tt },
      (
        record {
          named = refl;
          arguments = All-from_recursion (IsArgument (declare kind.Point (declare kind.Point empty_scope))) (point_argument (at 0) ∷ point_argument (at 1) ∷ []) (lit< tt, (lit< tt, tt));
          stored = tt;
        },
        refl,
      ),
    ),
  );
  few = lit≤ tt;
  statement = All-from_recursion (IsArgument (scope_of empty_scope midpoint_source.names))
      (point_argument (at 0) ∷ point_argument (at 2) ∷ point_argument (at 1) ∷ []) (lit< tt, (lit< tt, (lit< tt, tt)));
  sides = tt;
}

-- ITS LOWERED FORM: 1/2 stands in the store
abbrev half_nodes : Store
half_nodes = node.Int (pos 1) ∷ node.Int (pos 2) ∷ node.Div (term 0) (term 1) ∷ []

abbrev midpoint_step : Step
midpoint_step = step.Pratio (at 0) (at 0) (at 1) (term 2)

abbrev pub midpoint_construction : Construction
midpoint_construction = record { nodes = half_nodes; steps = step.Point ∷ step.Point ∷ midpoint_step ∷ []; params = 0 }

apart : {P : Type 0} (m n : Node) → (m ≡ n → ⊥) → (x : Node) → Some m ≡ Some x → Some n ≡ Some x → P
apart m n d x e f = let p : m ≡ x = cc in let q : n ≡ x = cc in absurd (d (let r : m ≡ n = cc in r))

ones : node.Int (pos 1) ≡ node.Int (pos 2) → ⊥
ones e = let q : pos 1 ≡ pos 2 = cc in let n : ◌≡◌ {A = ℕ} 1 2 = ap unsigned_abs q in omega (arith, n)

past : {P : Type 0} (x : Node) → ◌≡◌ {A = Option Node} None (Some x) → P
past x e = absurd (cc)

once : (i j : ℕ) (x : Node) → slice_get half_nodes i ≡ Some x → slice_get half_nodes j ≡ Some x → i ≡ j
once zero zero x e f = refl
once zero (suc zero) x e f = apart (node.Int (pos 1)) (node.Int (pos 2)) ones x e f
once zero (suc (suc zero)) x e f = apart (node.Int (pos 1)) (node.Div (term 0) (term 1)) (λ e. cc) x e f
once (suc zero) zero x e f = apart (node.Int (pos 1)) (node.Int (pos 2)) ones x f e
once (suc zero) (suc zero) x e f = refl
once (suc zero) (suc (suc zero)) x e f = apart (node.Int (pos 2)) (node.Div (term 0) (term 1)) (λ e. cc) x e f
once (suc (suc zero)) zero x e f = apart (node.Int (pos 1)) (node.Div (term 0) (term 1)) (λ e. cc) x f e
once (suc (suc zero)) (suc zero) x e f = apart (node.Int (pos 2)) (node.Div (term 0) (term 1)) (λ e. cc) x f e
once (suc (suc zero)) (suc (suc zero)) x e f = refl
once (suc (suc (suc i))) j x e f = past x e
once zero (suc (suc (suc j))) x e f = past x f
once (suc zero) (suc (suc (suc j))) x e f = past x f
once (suc (suc zero)) (suc (suc (suc j))) x e f = past x f

is_node : (m x : Node) → Some m ≡ Some x → m ≡ x
is_node m x e = cc

children : (k : ℕ) (x : Node) → slice_get half_nodes k ≡ Some x → HasChildrenBelow k x
children zero x e = subst (HasChildrenBelow 0) (is_node (node.Int (pos 1)) x e) tt
children (suc zero) x e = subst (HasChildrenBelow 1) (is_node (node.Int (pos 2)) x e) tt
children (suc (suc zero)) x e = subst (HasChildrenBelow 2) (is_node (node.Div (term 0) (term 1)) x e) (lit< tt, lit< tt)
children (suc (suc (suc k))) x e = past x e

integers : (k : ℕ) (x : Node) → slice_get half_nodes k ≡ Some x → HasShortInteger x
integers zero x e = subst HasShortInteger (is_node (node.Int (pos 1)) x e) (lit< tt)
integers (suc zero) x e = subst HasShortInteger (is_node (node.Int (pos 2)) x e) (lit< tt)
integers (suc (suc zero)) x e = subst HasShortInteger (is_node (node.Div (term 0) (term 1)) x e) tt
integers (suc (suc (suc k))) x e = past x e

is_step : (m x : Step) → Some m ≡ Some x → m ≡ x
is_step m x e = cc

steps : (k : ℕ) (x : Step) → slice_get midpoint_construction.steps k ≡ Some x → IsStep half_nodes k 0 x
steps zero x e = subst (IsStep half_nodes 0 0) (is_step step.Point x e) tt
steps (suc zero) x e = subst (IsStep half_nodes 1 0) (is_step step.Point x e) tt
steps (suc (suc zero)) x e = subst (IsStep half_nodes 2 0) (is_step midpoint_step x e) (lit< tt, lit< tt, lit< tt, record { stored = lit< tt; number = (tt, tt) })
steps (suc (suc (suc k))) x e = absurd (let q : ◌≡◌ {A = Option Step} None (Some x) = e in cc)

abbrev pub midpoint_form : LoweredForm
midpoint_form = record { construction = midpoint_construction; points = at 0 ∷ at 1 ∷ at 2 ∷ []; lines = []; params = []; after = 1 ∷ 2 ∷ 3 ∷ [] }

pub midpoint_lowered : IsLowered Two midpoint_source midpoint_form
midpoint_lowered = record {
  valid = record { store = record { once = once; children = children; integers = integers; few = lit≤ tt }; steps = steps; few = lit≤ tt; params_fit = lit≤ tt };
  steps = refl;
  numbers = refl;
  points = refl;
  lines = refl;
  params = refl;
  after = refl;
}

-- ITS SUBJECT: no condition, one goal
abbrev pub midpoint : Subject
midpoint = record {
  version = 2;
  program = codes "point A" ∷ codes "point B" ∷ codes "midpoint M A B" ∷ codes "prove { collinear A M B }" ∷ [];
  construction = midpoint_construction;
  conditions = [];
  goals = record { text = codes "collinear A M B"; term = area_leaf (at 0) (at 2) (at 1) } ∷ [];
}

pub midpoint_about : IsSubjectOf midpoint_source midpoint
midpoint_about = record {
  version = Two;
  form = midpoint_form;
  conditions = [];
  goals = map (goal_item Two midpoint_source) (midpoint_source.statement ∷ []);
  lowered = midpoint_lowered;
  listed_conditions = record { conditions = []; listed = refl; written = refl };
  listed_goals = record { goals = midpoint_source.statement ∷ []; listed = inr (none_in _, refl); written = refl };
  same_version = refl;
  same_program = refl;
  same_construction = refl;
  same_conditions = refl;
  same_goals = refl;
}

-- ITS LOG
abbrev pub S012 : Var
S012 = area (at 0) (at 1) (at 2)

abbrev pub times : ℤ → Summands
times z = ((S012, 1) ∷ [], z) ∷ []

abbrev pub zeros : List (Var × ℤ)
zeros = (abscissa (at 0), pos 0) ∷ (ordinate (at 0), pos 0) ∷ (abscissa (at 1), pos 0) ∷ (ordinate (at 1), pos 0) ∷ []

-- the chain of its goal, the sample and the verdict
abbrev pub midpoint_rest : List Line
midpoint_rest =
    Goal 1 (codes "collinear A M B") ∷ Start (times (negsuc 0)) ∷ Cut ([], negsuc 0) (times (pos 1)) ∷ PointLine (at 2) [] ∷ End
    ∷ Sample zeros ∷ VerdictLine Proved ∷ []

abbrev pub midpoint_lines : List Line
midpoint_lines =
    Header 2 ∷ ProgramLine (codes "point A") ∷ ProgramLine (codes "point B") ∷ ProgramLine (codes "midpoint M A B") ∷ ProgramLine (codes "prove { collinear A M B }") ∷ midpoint_rest

abbrev pub midpoint_chain : Chain
midpoint_chain = record { steps = cuts ([], negsuc 0) (times (pos 1)) ∷ moves (PointMove (at 2)) [] ∷ []; end = [] }

pub some_term : (z : ℤ) → times z ≢ []
some_term z e = let n : ◌≡◌ {A = ℕ} 1 0 = ap length e in omega (arith, n)

sole_factor : (z : ℤ) → IsFactorOf [] (times z) ([], z)
sole_factor z = record {
  divides = All-from_recursion (λ (t : Powers × ℤ). unsigned_abs z ∣ unsigned_abs t.1) (times z) (dvd_refl (unsigned_abs z), tt);
  greatest = λ d h. All-head (λ (t : Powers × ℤ). d ∣ unsigned_abs t.1) ((S012, 1) ∷ [], z) [] h;
  sign = (λ h. h, λ h. h);
  monomial = record { in_order = tt; degree_fits = lit≤ tt };
  known_variables = λ v h. absurd (none_in v h);
  other_variables = λ v h. refl;
}

pub started : IsStarted 100 (area_leaf (at 0) (at 2) (at 1))
started = record { paid = lit≤ tt; room = record { numerator_weight = lit< tt; denominator_weight = lit< tt; numerator_degree = lit≤ tt; denominator_degree = lit≤ tt } }

one_polynomial : IsPolynomial (times (pos 1))
one_polynomial = record { in_order = (refl, tt, tt); monomials = (record { in_order = (refl, tt, tt); degree_fits = lit≤ tt }, tt); norm_fits = lit< tt }

minus_one_polynomial : IsPolynomial (times (negsuc 0))
minus_one_polynomial = record { in_order = (refl, tt, tt); monomials = (record { in_order = (refl, tt, tt); degree_fits = lit≤ tt }, tt); norm_fits = lit< tt }

pub sign_cut : IsCut [] ([], negsuc 0) (times (negsuc 0)) (times (pos 1))
sign_cut = record {
  factor = record { monomial = record { in_order = tt; degree_fits = lit≤ tt }; nonzero = λ e. omega (arith, e); fits = lit< tt };
  by_known = tt;
  polynomial = one_polynomial;
  exact = refl;
}

abbrev pub elimination : (left : ℕ) → Type 0
elimination left = IsMoved (replacement lemma_table midpoint_construction (PointMove (at 2)) (times (pos 1))) left (times (pos 1)) []

-- 2 for the number 1/2, 4 (3 + 1) for the row, 2 times 3 for the monomial
pub moved : elimination 100
moved = record {
  replaces = λ e. let n : ◌≡◌ {A = ℕ} 1 0 = ap length e in omega (arith, n);
  paid = lit≤ tt;
  weight_fits = lit< tt;
  degree_fits = lit≤ tt;
  result = refl;
}

highest : IsHighest midpoint_construction (at 2) (times (pos 1))
highest = record {
  constructed = record { step = midpoint_step; made = refl; not_free = λ e. cc };
  occurs = (0, S012, lit< tt, refl, refl);
  highest = λ z made occurs. let lt : z.0 < 3 = below midpoint_construction.steps z.0 made.step made.made in omega (arith, lt);
}

no_ratio : (v : Var) → Contains (S012 ∷ []) v → IsRatio v → IsTrue (has_point (at 2) v) → ⊥
no_ratio v (zero, lt, e) r h = subst IsRatio (sym e) r
no_ratio v (suc k, lt, e) r h = omega (arith, lt)

-- the prover's chain: 24 of the 100 charges go
pub midpoint_chain_defined : IsDefinedChain lemma_table midpoint_construction [] 100 (area_leaf (at 0) (at 2) (at 1)) midpoint_chain 76
midpoint_chain_defined = record {
  started = started;
  leads = (
    record { nonzero = some_term (negsuc 0); factor = sole_factor (negsuc 0); divides = λ e. let s : negsuc 0 ≡ pos 1 = ap (λ f. f.1) e in cc },
    sign_cut,
    (λ some. sole_factor (pos 1), (highest, no_ratio), moved, (refl, refl)),
  );
  no_cut = λ some. absurd (some refl);
  ended = tt;
}

-- and a chain of an accepted log
pub midpoint_chain_accepted : IsAcceptedChain lemma_table midpoint_construction [] 100 (area_leaf (at 0) (at 2) (at 1)) midpoint_chain 76
midpoint_chain_accepted = record { started = started; leads = (sign_cut, (moved, (refl, refl))); ended = tt }

-- the sample tries 0 for each coordinate, with no polynomial listed
light_try : (v : Var) → IsTooLarge (record { variable = v; number = pos 0; polys = [] }) → ⊥
light_try v (i, q, lt, e, heavy) = omega (arith, lt)

least : (v : Var) → IsLeastValue v [] (pos 0)
least v = record { natural = refl; keeps = All-nil _; least = λ k lt h. omega (arith, lt) }

pub midpoint_sample_least : IsLeastSample midpoint_construction [] 76 zeros 76
midpoint_sample_least = record {
  least = (refl, least (abscissa (at 0)), (refl, least (ordinate (at 0)), (refl, least (abscissa (at 1)), (refl, least (ordinate (at 1)), tt))));
  made = record {
    charged = refl;
    fit = All-from_recursion (λ t. IsTooLarge t → ⊥) (search_tries zeros [])
        (light_try (abscissa (at 0)), (light_try (ordinate (at 0)), (light_try (abscissa (at 1)), (light_try (ordinate (at 1)), tt))));
  };
}

abbrev IsSmall : Var × ℤ → Type 0
IsSmall v = unsigned_abs v.1 < 2 ^ 127

pub midpoint_sample_accepted : IsAcceptedSample midpoint_construction [] 76 zeros 76
midpoint_sample_accepted = record {
  variables = refl;
  fits = All-from_recursion IsSmall zeros (lit< tt, (lit< tt, (lit< tt, (lit< tt, tt))));
  made = record {
    charged = refl;
    fit = All-from_recursion (λ t. IsTooLarge t → ⊥) (single_tries zeros [])
        (light_try (abscissa (at 0)), (light_try (ordinate (at 0)), (light_try (abscissa (at 1)), (light_try (ordinate (at 1)), tt))));
  };
  nonzero = All-nil _;
}

-- the prover's log, which leaves 76 of 100 steps
pub midpoint_log_of_prover : IsLogOfProver lemma_table midpoint 100 midpoint_lines Proved 76
midpoint_log_of_prover = record {
  rest = midpoint_rest;
  split = refl;
  worked = (
    record { chain = midpoint_chain; after = 76; rest = Sample zeros ∷ VerdictLine Proved ∷ []; split = refl; works = midpoint_chain_defined },
    inl (refl, (refl, record { values = zeros; chosen = midpoint_sample_least; split = refl })),
  );
}

pub midpoint_defined : IsDefinedLog lemma_table midpoint 100 midpoint_lines (ends_with Proved 76)
unfolding digits
midpoint_defined = (midpoint_log_of_prover, lit≤ tt)

-- it is an accepted log
pub midpoint_accepted : IsAccepted lemma_table midpoint 100 midpoint_lines Proved 76
midpoint_accepted = record {
  rest = midpoint_rest;
  split = refl;
  worked = (
    record { chain = midpoint_chain; after = 76; rest = Sample zeros ∷ VerdictLine Proved ∷ []; split = refl; works = midpoint_chain_accepted },
    inl (refl, (refl, record { values = zeros; chosen = midpoint_sample_accepted; split = refl })),
  );
}

-- WITH 23 STEPS the move is not paid: eight lines, and the stop
cut_due : IsCutDue [] (times (negsuc 0)) ([], negsuc 0)
cut_due = record { nonzero = some_term (negsuc 0); factor = sole_factor (negsuc 0); divides = λ e. let s : negsuc 0 ≡ pos 1 = ap (λ f. f.1) e in cc }

abbrev pub eight_lines : List Line
eight_lines =
    Header 2 ∷ ProgramLine (codes "point A") ∷ ProgramLine (codes "point B") ∷ ProgramLine (codes "midpoint M A B") ∷ ProgramLine (codes "prove { collinear A M B }")
    ∷ Goal 1 (codes "collinear A M B") ∷ Start (times (negsuc 0)) ∷ Cut ([], negsuc 0) (times (pos 1)) ∷ []

pub midpoint_stops : IsDefinedLog lemma_table midpoint 23 (eight_lines ++ StopSpent 9 ∷ []) (ends_by spent)
unfolding digits
midpoint_stops = (
  eight_lines,
  refl,
  (
    in_chain [] 23 (times (pos 1)),
    inr (
      Goal 1 (codes "collinear A M B") ∷ Start (times (negsuc 0)) ∷ Cut ([], negsuc 0) (times (pos 1)) ∷ [],
      refl,
      inl (inr (inr (record {
        steps = cuts ([], negsuc 0) (times (pos 1)) ∷ [];
        after = 23;
        last = times (pos 1);
        started = record { paid = lit≤ tt; room = started.room };
        leads = (cut_due, sign_cut, (refl, refl));
        split = refl;
        stands = refl;
      }))),
    ),
    (PointMove (at 2), λ some. sole_factor (pos 1), (highest, no_ratio), lit< tt),
  ),
  lit≤ tt,
)

-- ITS BYTES
abbrev pub midpoint_text : List ℕ
midpoint_text =
    flat_map (λ (line : List ℕ). line ++ 10 ∷ []) (
    codes "geolog 2" ∷ codes "| point A" ∷ codes "| point B" ∷ codes "| midpoint M A B" ∷ codes "| prove { collinear A M B }" ∷ codes "goal 1 collinear A M B"
    ∷ codes "start : -1*S0.1.2" ∷ codes "cut -1 : +1*S0.1.2" ∷ codes "point 2 : 0" ∷ codes "end" ∷ codes "sample x0=0 y0=0 x1=0 y1=0" ∷ codes "verdict proved" ∷ []
    )

-- no byte of the text is a line feed
has_feed : List ℕ → Bool
has_feed [] = false
has_feed (b ∷ bs) = cond (b == 10) true (has_feed bs)

no_feed : (bs : List ℕ) → has_feed bs ≡ false → HasNoLineFeed bs
unfolding has_feed
no_feed [] e = tt
no_feed (b ∷ bs) e = go (b == 10) refl (no_feed bs) e
  where
    go : (t : Bool) → (b == 10) ≡ t → (has_feed bs ≡ false → HasNoLineFeed bs) → cond t true (has_feed bs) ≡ false → HasNoLineFeed (b ∷ bs)
    go true f rest e = let q : true ≡ false = e in absurd (cc)
    go false f rest e = (λ same. let t : (b == 10) ≡ true = eq-eqb b 10 same in let q : true ≡ false = sym t ∙ f in cc, rest e)

area_variable : IsVariable S012
area_variable = record { sorted = (lit< tt, lit< tt); small = (lit< tt, (lit< tt, (lit< tt, tt))) }

can_write : (z : ℤ) → IsPolynomial (times z) → CanWritePolynomial (times z)
can_write z h = record { polynomial = h; variables = ((area_variable, tt), tt) }

midpoint_writable : AllWritable midpoint_lines
unfolding has_feed
midpoint_writable = (
  (lit≤ tt, lit≤ tt),
  (
    no_feed (codes "point A") refl,
    (
      no_feed (codes "point B") refl,
      (no_feed (codes "midpoint M A B") refl, (no_feed (codes "prove { collinear A M B }") refl, chain_writable)),
    ),
  ),
)
  where
    coordinate : (v : Var) → IsVariable v → CanWriteValue (v, pos 0)
    coordinate v h = record { variable = h; fits = lit< tt }

    sample_writable : CanWriteValues zeros
    sample_writable = (
      coordinate (abscissa (at 0)) (record { sorted = tt; small = (lit< tt, tt) }),
      (
        coordinate (ordinate (at 0)) (record { sorted = tt; small = (lit< tt, tt) }),
        (coordinate (abscissa (at 1)) (record { sorted = tt; small = (lit< tt, tt) }), (coordinate (ordinate (at 1)) (record { sorted = tt; small = (lit< tt, tt) }), tt)),
      ),
    )

    chain_writable : AllWritable midpoint_rest
    chain_writable = (
      record { positive = lit≤ tt; small = lit< tt; one_line = no_feed (codes "collinear A M B") refl },
      (
        can_write (negsuc 0) minus_one_polynomial,
        (
          (record { factor = sign_cut.factor; variables = tt }, can_write (pos 1) one_polynomial),
          ((lit< tt, record { polynomial = record { in_order = tt; monomials = tt; norm_fits = lit< tt }; variables = tt }), (tt, (sample_writable, (tt, tt)))),
        ),
      ),
    )

pub midpoint_accepts : Accepts midpoint_text 100 midpoint_source Proved
unfolding digits
midpoint_accepts = record {
  lines = midpoint_lines;
  writable = midpoint_writable;
  written = refl;
  accepted = record { well_formed = midpoint_well_formed; subject = midpoint; about = midpoint_about; left = 76; accepted = midpoint_accepted };
}

-- and so the program is true
pub midpoint_true : IsTrueProgram midpoint_source
midpoint_true = (accepted_bytes_mean midpoint_text 100 midpoint_source Proved midpoint_accepts).0
