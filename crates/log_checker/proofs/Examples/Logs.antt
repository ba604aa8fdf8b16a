-- Two programs, from their commands to what their logs prove.
use Rattle.std.proofs.Common.{◌≡◌, ℕ, zero, suc, Bool, true, false, Option, Some, None, inr, pos, Contains, List, [], ◌∷◌, map, refl, sym, subst, arith, lit<, lit≤}
use Rattle.std.specs.Prelude.{slice_get}
use Rattle.std.specs.Fmt.{digits}
use Rattle.std.proofs.lemmas.List.Elements.{All-from_recursion, All-nil}
use Rattle.geo_points.specs.declared.ids.TermId.{TermId}
use Rattle.geo_terms.specs.Trees.{integer_leaf, parameter_leaf, subtraction}
use Rattle.geo_terms.specs.declared.nodes.Node.{Node}
use Rattle.geo_terms.specs.declared.nodes.Node.TheVariants as node
use Rattle.geo_terms.specs.declared.steps.Step.{Step}
use Rattle.geo_terms.specs.declared.steps.Step.TheVariants as step
use Rattle.geo_terms.specs.Constructions.{IsStep}
use Rattle.geo_terms.specs.Stores.{IsStore}
use Rattle.geo_program.specs.declared.commands.Command.TheVariants as command
use Rattle.geo_program.specs.declared.names.Name.{Name}
use Rattle.geo_program.specs.declared.names.NameKind.TheVariants as kind
use Rattle.geo_program.specs.declared.statements.Statement.TheVariants as statement
use Rattle.geo_program.specs.Forms.{point_argument, statement_form}
use Rattle.geo_program.specs.WellFormed.{AllDiffer, IsArgument, IsWellFormed, Source, declare, empty_scope, scope_of}
use Rattle.geo_program.specs.Words.{IsNameText, reserved_words}
use Rattle.geo_program.proofs.Standing.{IsWord-tested, is_word}
use Rattle.geo_lowering.specs.Conditions.{nonzero}
use Rattle.geo_lowering.specs.Lowering.{IsLowered, LoweredForm}
use Rattle.geo_lowering.specs.declared.version.Version.TheVariants.{One, Two}
use Rattle.geo_conditions.specs.Lists.{all_found, condition_item, goal_item}
use Rattle.geo_conditions.specs.Statements.{statement_goals}
use Rattle.geo_conditions.specs.Truth.{Breaks, IsImpossible, ProgramValues}
use Rattle.proof_log.specs.declared.log.Verdict.TheVariants.{False}
use Rattle.elim_apply.specs.LemmaTable.{lemma_table}
use Rattle.geo_logs.proofs.Examples.{at, quotients, quotients_accepted, quotients_lines, twice, twice_accepted, twice_lines}
use Rattle.log_checker.specs.Laws.{EndsWithValues}
use Rattle.log_checker.specs.Subjects.{IsSubjectOf}
use Rattle.log_checker.specs.VerdictNumbers.{FailsAt, HoldsNowhere}
use Rattle.log_checker.proofs.ThreeVerdicts.{false_breaks, impossible_is_never_met}

-- NAMES OF ONE LETTER
-- the words have two letters or more
is_long : List ℕ → Bool
is_long [] = false
is_long (b ∷ []) = false
is_long (b ∷ c ∷ w) = true

are_long : List (List ℕ) → Bool
are_long [] = true
are_long (w ∷ ws) = elim (is_long w) [ true ↦ are_long ws | false ↦ false ]

no_letter : (ws : List (List ℕ)) (b : ℕ) → are_long ws ≡ true → Contains ws (b ∷ []) → ⊥
unfolding are_long is_long
no_letter [] b e (k, lt, is) = absurd (omega (arith, lt))
no_letter ((c ∷ d ∷ w) ∷ ws) b e (zero, lt, is) = let n : ◌≡◌ {A = List ℕ} (c ∷ d ∷ w) (b ∷ []) = is in let m : ◌≡◌ {A = List ℕ} (d ∷ w) [] = cc in cc
no_letter ((c ∷ d ∷ w) ∷ ws) b e (suc k, lt, is) = no_letter ws b e (k, omega (arith, lt), is)
no_letter ([] ∷ ws) b e c = let n : false ≡ true = e in cc
no_letter ((d ∷ []) ∷ ws) b e c = let n : false ≡ true = e in cc

pub letter_name : (b : ℕ) → is_word (b ∷ []) ≡ true → IsNameText (b ∷ [])
unfolding are_long is_long
letter_name b word =
    let w = IsWord-tested (b ∷ []) word in record { first = w.first; rest = w.all; short = w.short; free = no_letter reserved_words b refl }

pub none_in : {A : Type 0} (x : A) → Contains [] x → ⊥
none_in x (k, lt, is) = omega (arith, lt)

pub only_in : {A : Type 0} (x y : A) → (y ≡ x → ⊥) → Contains (x ∷ []) y → ⊥
only_in x y d (zero, lt, is) = d (sym is)
only_in x y d (suc k, lt, is) = omega (arith, lt)

-- TWO LINES THAT NEVER CROSS
abbrev pub letter_point : ℕ → Name
letter_point b = record { text = b ∷ []; kind = kind.Point }

abbrev twice_source : Source
twice_source = record {
  names = letter_point 65 ∷ letter_point 66 ∷ letter_point 88 ∷ [];
  nodes = [];
  commands = command.Point ∷ command.Point ∷ command.Inter (at 0) (at 1) (at 0) (at 1) ∷ [];
  statement = statement.Collinear (at 0) (at 1) (at 2);
}

pub letters_apart : (a b : ℕ) → (a ≡ b → ⊥) → ◌≡◌ {A = List ℕ} (a ∷ []) (b ∷ []) → ⊥
letters_apart a b d e = d (let q : a ≡ b = cc in q)

twice_names : AllDiffer twice_source.names
twice_names = (two, (only_in (88 ∷ []) (66 ∷ []) (letters_apart 66 88 (λ e. omega (arith, e))), (none_in (88 ∷ []), tt)))
  where
    two : Contains {X = List ℕ} ((66 ∷ []) ∷ (88 ∷ []) ∷ []) (65 ∷ []) → ⊥
    two (zero, lt, is) = letters_apart 66 65 (λ e. omega (arith, e)) is
    two (suc zero, lt, is) = letters_apart 88 65 (λ e. omega (arith, e)) is
    two (suc (suc k), lt, is) = omega (arith, lt)

twice_well_formed : IsWellFormed twice_source
twice_well_formed = record {
  names = All-from_recursion (λ (n : Name). IsNameText n.text) twice_source.names (letter_name 65 refl, (letter_name 66 refl, (letter_name 88 refl, tt)));
  differ = twice_names;
  commands = (
    record { named = refl; arguments = All-nil (IsArgument empty_scope); stored = tt },
    (
      record { named = refl; arguments = All-nil (IsArgument (declare kind.Point empty_scope)); stored = tt },
      (
        record {
          named = refl;
          arguments = All-from_recursion (IsArgument (declare kind.Point (declare kind.Point empty_scope)))
              (point_argument (at 0) ∷ point_argument (at 1) ∷ point_argument (at 0) ∷ point_argument (at 1) ∷ []) (lit< tt, (lit< tt, (lit< tt, (lit< tt, tt))));
          stored = tt;
        },
        refl,
      ),
    ),
  );
  few = lit≤ tt;
  statement = All-from_recursion (IsArgument (scope_of empty_scope twice_source.names))
      (point_argument (at 0) ∷ point_argument (at 1) ∷ point_argument (at 2) ∷ []) (lit< tt, (lit< tt, (lit< tt, tt)));
  sides = tt;
}

no_node : {P : Type 0} (k : ℕ) (n : Node) → slice_get {X = Node} [] k ≡ Some n → P
no_node k n e = absurd (let q : ◌≡◌ {A = Option Node} None (Some n) = e in cc)

empty_store : IsStore []
empty_store = record { once = λ i j n e f. no_node i n e; children = λ k n e. no_node k n e; integers = λ k n e. no_node k n e; few = lit≤ tt }

twice_steps : (k : ℕ) (s : Step) → slice_get twice.construction.steps k ≡ Some s → IsStep [] k 0 s
twice_steps zero s e = let q : ◌≡◌ {A = Option Step} (Some step.Point) (Some s) = e in let r : step.Point ≡ s = cc in subst (λ x. IsStep [] 0 0 x) r tt
twice_steps (suc zero) s e = let q : ◌≡◌ {A = Option Step} (Some step.Point) (Some s) = e in let r : step.Point ≡ s = cc in subst (λ x. IsStep [] 1 0 x) r tt
twice_steps (suc (suc zero)) s e =
    let i : Step = step.Inter (at 0) (at 1) (at 0) (at 1) in
    let q : ◌≡◌ {A = Option Step} (Some i) (Some s) = e in let r : i ≡ s = cc in subst (λ x. IsStep [] 2 0 x) r (lit< tt, lit< tt, lit< tt, lit< tt)
twice_steps (suc (suc (suc k))) s e = absurd (let q : ◌≡◌ {A = Option Step} None (Some s) = e in cc)

abbrev twice_form : LoweredForm
twice_form = record { construction = twice.construction; points = at 0 ∷ at 1 ∷ at 2 ∷ []; lines = []; params = []; after = 1 ∷ 2 ∷ 3 ∷ [] }

twice_lowered : IsLowered One twice_source twice_form
twice_lowered = record {
  valid = record { store = empty_store; steps = twice_steps; few = lit≤ tt; params_fit = lit≤ tt };
  steps = refl;
  numbers = refl;
  points = refl;
  lines = refl;
  params = refl;
  after = refl;
}

twice_about : IsSubjectOf twice_source twice
twice_about = record {
  version = One;
  form = twice_form;
  conditions = map (condition_item One twice_source) (all_found twice_source);
  goals = map (goal_item One twice_source) (statement_goals [] twice_source.statement);
  lowered = twice_lowered;
  listed_conditions = record { conditions = all_found twice_source; listed = inr (none_in _, refl); written = refl };
  listed_goals = record { goals = statement_goals [] twice_source.statement; listed = inr (none_in _, refl); written = refl };
  same_version = refl;
  same_program = refl;
  same_construction = refl;
  same_conditions = refl;
  same_goals = refl;
}

-- no placement meets it, and its first condition holds nowhere
twice_impossible : IsImpossible twice_source × HoldsNowhere twice_source 1
twice_impossible =
    impossible_is_never_met twice_source 3 1 twice_lines
    (record { well_formed = twice_well_formed; subject = twice; about = twice_about; left = 0; accepted = twice_accepted lemma_table })

-- TWO QUOTIENTS THAT ARE NOT EQUAL
abbrev pub term : ℕ → TermId
term k = record { 0 = k }

abbrev quotients_source : Source
quotients_source = record {
  names = record { text = 114 ∷ []; kind = kind.Param } ∷ [];
  nodes = node.Param (record { 0 = 0 }) ∷ node.Int (pos 1) ∷ node.Div (term 1) (term 0) ∷ node.Sub (term 0) (term 1) ∷ node.Div (term 1) (term 3) ∷ [];
  commands = command.Param ∷ [];
  statement = statement.Equal (term 2) (term 4);
}

quotients_well_formed : IsWellFormed quotients_source
quotients_well_formed = record {
  names = All-from_recursion (λ (n : Name). IsNameText n.text) quotients_source.names (letter_name 114 refl, tt);
  differ = (none_in (114 ∷ []), tt);
  commands = (record { named = refl; arguments = All-nil (IsArgument empty_scope); stored = tt }, refl);
  few = lit≤ tt;
  statement = All-from_recursion (IsArgument (scope_of empty_scope quotients_source.names)) (statement_form quotients_source.nodes quotients_source.statement).arguments
      (((lit< tt, lit< tt), lit≤ tt), (((lit< tt, (lit< tt, lit< tt)), lit≤ tt), tt));
  sides = (lit< tt, lit< tt);
}

no_step : {P : Type 0} (k : ℕ) (s : Step) → slice_get {X = Step} [] k ≡ Some s → P
no_step k s e = absurd (let q : ◌≡◌ {A = Option Step} None (Some s) = e in cc)

abbrev quotients_form : LoweredForm
quotients_form = record { construction = quotients.construction; points = []; lines = []; params = record { 0 = 0 } ∷ []; after = 0 ∷ [] }

quotients_lowered : IsLowered Two quotients_source quotients_form
quotients_lowered = record {
  valid = record { store = empty_store; steps = λ k s e. no_step k s e; few = lit≤ tt; params_fit = lit≤ tt };
  steps = refl;
  numbers = refl;
  points = refl;
  lines = refl;
  params = refl;
  after = refl;
}

conditions_apart : nonzero (subtraction (parameter_leaf (record { 0 = 0 })) (integer_leaf (pos 1))) ≡ nonzero (parameter_leaf (record { 0 = 0 })) → ⊥
conditions_apart e = let q : subtraction (parameter_leaf (record { 0 = 0 })) (integer_leaf (pos 1)) ≡ parameter_leaf (record { 0 = 0 }) = cc in cc

quotients_about : IsSubjectOf quotients_source quotients
unfolding digits
quotients_about = record {
  version = Two;
  form = quotients_form;
  conditions = map (condition_item Two quotients_source) (all_found quotients_source);
  goals = map (goal_item Two quotients_source) (statement_goals quotients_source.nodes quotients_source.statement);
  lowered = quotients_lowered;
  listed_conditions = record {
    conditions = all_found quotients_source;
    listed = inr (none_in _, inr (only_in (nonzero (parameter_leaf (record { 0 = 0 }))) (nonzero (subtraction (parameter_leaf (record { 0 = 0 })) (integer_leaf (pos 1)))) conditions_apart, refl));
    written = refl;
  };
  listed_goals = record { goals = statement_goals quotients_source.nodes quotients_source.statement; listed = inr (none_in _, refl); written = refl };
  same_version = refl;
  same_program = refl;
  same_construction = refl;
  same_conditions = refl;
  same_goals = refl;
}

-- the value of its sample breaks it, by its first goal
quotients_broken : (v : ProgramValues) × EndsWithValues quotients_lines (False 1) v × Breaks quotients_source v × FailsAt quotients_source v 1
quotients_broken =
    false_breaks quotients_source 20 1 quotients_lines
    (record { well_formed = quotients_well_formed; subject = quotients; about = quotients_about; left = 0; accepted = quotients_accepted lemma_table })
