-- Accepted logs, whole.
use Rattle.std.proofs.Common.{◌≡◌, ℕ, ◌<◌, ◌≤◌, ◌^◌, subst, inl, inr, ℤ, pos, negsuc, List, [], ◌∷◌, length, refl, ap, unsigned_abs, arith, lit≤, lit<}
use Rattle.std.specs.Prelude.{Any, codes}
use Rattle.std.proofs.lemmas.List.Elements.{All-cons, All-nil}
use Rattle.geo_points.specs.declared.ids.PointId.{PointId}
use Rattle.geo_poly.specs.declared.variables.Var.{Var}
use Rattle.geo_poly.specs.declared.variables.Var.TheVariants.{T}
use Rattle.geo_poly.specs.Polynomials.{Summands}
use Rattle.geo_poly.specs.Specialise.{specialised_weight}
use Rattle.geo_sample.proofs.TryEnds.{one_made}
use Rattle.geo_terms.specs.declared.steps.Step.TheVariants.{Point, Inter}
use Rattle.geo_terms.specs.Trees.{Tree, integer_leaf, parameter_leaf, area_leaf, subtraction, division}
use Rattle.proof_log.specs.declared.log.Line.{Line}
use Rattle.proof_log.specs.declared.log.Line.TheVariants.{Header, Program as ProgramLine, Condition, Goal, Start, Cut, End, Sample, Verdict as VerdictLine}
use Rattle.proof_log.specs.declared.log.Verdict.TheVariants.{False, Impossible}
use Rattle.geo_logs.specs.Chains.{cuts}
use Rattle.geo_logs.specs.Logs.{IsAccepted, Subject}
use Rattle.geo_logs.specs.Moves.{Table}

abbrev pub at : ℕ → PointId
at k = record { 0 = k }

-- TWO LINES THAT NEVER CROSS: `point A point B inter X A B A B prove { collinear A B X }`
abbrev pub twice : Subject
twice = record {
  version = 1;
  program = codes "point A" ∷ codes "point B" ∷ codes "inter X A B A B" ∷ codes "prove { collinear A B X }" ∷ [];
  construction = record { nodes = []; steps = Point ∷ Point ∷ Inter (at 0) (at 1) (at 0) (at 1) ∷ []; params = 0 };
  conditions = record { text = codes "not_parallel A B A B"; term = subtraction (area_leaf (at 0) (at 0) (at 1)) (area_leaf (at 1) (at 0) (at 1)) } ∷ [];
  goals = record { text = codes "collinear A B X"; term = area_leaf (at 0) (at 1) (at 2) } ∷ [];
}

abbrev pub twice_lines : List Line
twice_lines =
    Header 1 ∷ ProgramLine (codes "point A") ∷ ProgramLine (codes "point B") ∷ ProgramLine (codes "inter X A B A B") ∷ ProgramLine (codes "prove { collinear A B X }")
    ∷ Condition 1 (codes "not_parallel A B A B") ∷ Start [] ∷ End ∷ VerdictLine (Impossible 1) ∷ []

-- three steps pay for the start, and none is left
pub twice_accepted : (table : Table) → IsAccepted table twice 3 twice_lines (Impossible 1) 0
twice_accepted table = record {
  rest = Condition 1 (codes "not_parallel A B A B") ∷ Start [] ∷ End ∷ VerdictLine (Impossible 1) ∷ [];
  split = refl;
  worked = (
    record {
      chain = record { steps = []; end = [] };
      after = 0;
      rest = VerdictLine (Impossible 1) ∷ [];
      split = refl;
      works = record {
        started = record { paid = lit≤ tt; room = record { numerator_weight = lit< tt; denominator_weight = lit< tt; numerator_degree = lit≤ tt; denominator_degree = lit≤ tt } };
        leads = (refl, refl);
        ended = tt;
      };
    },
    inl (refl, refl, refl, refl),
  );
}

-- LEAST VALUES: `param r prove { equal { div { 1 } { r } } { div { 1 } { sub { r } { 1 } } } }`
abbrev pub r : Tree
r = parameter_leaf (record { 0 = 0 })

abbrev pub one : Tree
one = integer_leaf (pos 1)

abbrev pub t : Var
t = T (record { 0 = 0 })

abbrev pub quotients : Subject
quotients = record {
  version = 2;
  program = codes "param r" ∷ codes "prove { equal { div { 1 } { r } } { div { 1 } { sub { r } { 1 } } } }" ∷ [];
  construction = record { nodes = []; steps = []; params = 1 };
  conditions = record { text = codes "nonzero { r }"; term = r } ∷ record { text = codes "nonzero { sub { r } { 1 } }"; term = subtraction r one } ∷ [];
  goals = record { text = codes "equal { div { 1 } { r } } { div { 1 } { sub { r } { 1 } } }"; term = subtraction (division one r) (division one (subtraction r one)) } ∷ [];
}

abbrev pub whole_number : ℤ → Summands
whole_number z = ([], z) ∷ []

abbrev pub quotients_rest : List Line
quotients_rest =
    Condition 1 (codes "nonzero { r }") ∷ Start (((t, 1) ∷ [], pos 1) ∷ []) ∷ End
    ∷ Condition 2 (codes "nonzero { sub { r } { 1 } }") ∷ Start (((t, 1) ∷ [], pos 1) ∷ ([], negsuc 0) ∷ []) ∷ End
    ∷ Goal 1 (codes "equal { div { 1 } { r } } { div { 1 } { sub { r } { 1 } } }") ∷ Start (whole_number (negsuc 0)) ∷ Cut ([], negsuc 0) (whole_number (pos 1)) ∷ End
    ∷ Sample ((t, pos 2) ∷ []) ∷ VerdictLine (False 1) ∷ []

abbrev pub quotients_lines : List Line
quotients_lines =
    Header 2 ∷ ProgramLine (codes "param r") ∷ ProgramLine (codes "prove { equal { div { 1 } { r } } { div { 1 } { sub { r } { 1 } } } }") ∷ quotients_rest

abbrev IsSmall : Var × ℤ → Type 0
IsSmall v = unsigned_abs v.1 < 2 ^ 127

abbrev IsSome : Summands → Type 0
IsSome p = (p ≡ []) → ⊥

one_some : (z : ℤ) → IsSome (whole_number z)
one_some z e = let n : ◌≡◌ {A = ℕ} 1 0 = ap length e in omega (arith, n)

-- the weights of the one try
abbrev IsHeavy : Summands → Type 0
IsHeavy q = 2 ^ 127 ≤ specialised_weight t (pos 2) q

abbrev quotients_listed : List Summands
quotients_listed = (((t, 1) ∷ [], pos 1) ∷ []) ∷ (((t, 1) ∷ [], pos 1) ∷ ([], negsuc 0) ∷ []) ∷ whole_number (pos 1) ∷ []

light : (q : Summands) → specialised_weight t (pos 2) q < 2 ^ 127 → IsHeavy q → ⊥
light q fits heavy = omega (arith, fits, heavy)

not_heavy : Any IsHeavy quotients_listed → ⊥
not_heavy (i, q, lt, e, heavy) =
    subst (λ (p : Summands). IsHeavy p → ⊥) e
    (All-cons (λ q. IsHeavy q → ⊥) (((t, 1) ∷ [], pos 1) ∷ []) ((((t, 1) ∷ [], pos 1) ∷ ([], negsuc 0) ∷ []) ∷ whole_number (pos 1) ∷ []) (light (((t, 1) ∷ [], pos 1) ∷ []) (lit< tt))
    (All-cons (λ q. IsHeavy q → ⊥) (((t, 1) ∷ [], pos 1) ∷ ([], negsuc 0) ∷ []) (whole_number (pos 1) ∷ []) (light (((t, 1) ∷ [], pos 1) ∷ ([], negsuc 0) ∷ []) (lit< tt))
    (All-cons (λ q. IsHeavy q → ⊥) (whole_number (pos 1)) [] (light (whole_number (pos 1)) (lit< tt)) (All-nil (λ q. IsHeavy q → ⊥)))) i q lt) heavy

-- the starts cost 0, 3 and 13, and the one try 4
pub quotients_accepted : (table : Table) → IsAccepted table quotients 20 quotients_lines (False 1) 0
quotients_accepted table = record {
  rest = quotients_rest;
  split = refl;
  worked = (
    record {
      chain = record { steps = []; end = ((t, 1) ∷ [], pos 1) ∷ [] };
      after = 20;
      rest = Condition 2 (codes "nonzero { sub { r } { 1 } }") ∷ Start (((t, 1) ∷ [], pos 1) ∷ ([], negsuc 0) ∷ []) ∷ End
          ∷ Goal 1 (codes "equal { div { 1 } { r } } { div { 1 } { sub { r } { 1 } } }") ∷ Start (whole_number (negsuc 0)) ∷ Cut ([], negsuc 0) (whole_number (pos 1)) ∷ End
          ∷ Sample ((t, pos 2) ∷ []) ∷ VerdictLine (False 1) ∷ [];
      split = refl;
      works = record {
        started = record { paid = lit≤ tt; room = record { numerator_weight = lit< tt; denominator_weight = lit< tt; numerator_degree = lit≤ tt; denominator_degree = lit≤ tt } };
        leads = (refl, refl);
        ended = ((tt, tt), tt);
      };
    },
    inr (
      λ e. let n : ◌≡◌ {A = ℕ} 1 0 = ap length e in omega (arith, n),
      (
        record {
          chain = record { steps = []; end = ((t, 1) ∷ [], pos 1) ∷ ([], negsuc 0) ∷ [] };
          after = 17;
          rest = Goal 1 (codes "equal { div { 1 } { r } } { div { 1 } { sub { r } { 1 } } }") ∷ Start (whole_number (negsuc 0)) ∷ Cut ([], negsuc 0) (whole_number (pos 1)) ∷ End
              ∷ Sample ((t, pos 2) ∷ []) ∷ VerdictLine (False 1) ∷ [];
          split = refl;
          works = record {
            started = record { paid = lit≤ tt; room = record { numerator_weight = lit< tt; denominator_weight = lit< tt; numerator_degree = lit≤ tt; denominator_degree = lit≤ tt } };
            leads = (refl, refl);
            ended = ((tt, tt), (tt, tt));
          };
        },
        inr (
          λ e. let n : ◌≡◌ {A = ℕ} 2 0 = ap length e in omega (arith, n),
          (
            record {
              chain = record { steps = cuts ([], negsuc 0) (whole_number (pos 1)) ∷ []; end = whole_number (pos 1) };
              after = 4;
              rest = Sample ((t, pos 2) ∷ []) ∷ VerdictLine (False 1) ∷ [];
              split = refl;
              works = record {
                started = record { paid = lit≤ tt; room = record { numerator_weight = lit< tt; denominator_weight = lit< tt; numerator_degree = lit≤ tt; denominator_degree = lit≤ tt } };
                leads = (
                  record {
                    factor = record { monomial = record { in_order = tt; degree_fits = lit≤ tt }; nonzero = λ e. omega (arith, e); fits = lit< tt };
                    by_known = tt;
                    polynomial = record { in_order = (refl, tt, tt); monomials = (record { in_order = tt; degree_fits = lit≤ tt }, tt); norm_fits = lit< tt };
                    exact = refl;
                  },
                  (refl, refl),
                );
                ended = (tt, tt);
              };
            },
            inr (
              λ e. let n : ◌≡◌ {A = ℕ} 1 0 = ap length e in omega (arith, n),
              refl,
              record {
                values = (t, pos 2) ∷ [];
                chosen = record {
                  variables = refl;
                  fits = All-cons IsSmall (t, pos 2) [] (lit< tt) (All-nil IsSmall);
                  made = one_made 4 0 (record { variable = t; number = pos 2; polys = quotients_listed }) refl not_heavy;
                  nonzero = All-cons IsSome (whole_number (pos 2)) (whole_number (pos 1) ∷ whole_number (pos 1) ∷ []) (one_some (pos 2))
                      (All-cons IsSome (whole_number (pos 1)) (whole_number (pos 1) ∷ []) (one_some (pos 1)) (All-cons IsSome (whole_number (pos 1)) [] (one_some (pos 1)) (All-nil IsSome)));
                };
                split = refl;
              },
            ),
          ),
        ),
      ),
    ),
  );
}
