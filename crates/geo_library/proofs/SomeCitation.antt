-- An input cites, or it is refused: what is asked is decided, one thing after another.
use Rattle.std.proofs.Common.{◌≡◌, ◌≢◌, ℕ, suc, ◌+◌, ◌≤◌, ◌⊎◌, inl, inr, Bool, true, false, Contains, Some, length, map, slice_get, take, List, [], ◌∷◌, refl, sym, subst, arith}
use Rattle.std.specs.List.{AllByRecursion}
use Rattle.std.proofs.lemmas.List.Elements.{All-from_recursion}
use Rattle.geo_lexer.specs.declared.token_types.Fault.{Fault}
use Rattle.geo_poly.specs.Polynomials.{Summands}
use Rattle.geo_terms.specs.Constructions.{Construction, IsConstruction}
use Rattle.geo_terms.specs.TermBounds.{IsTermBelow}
use Rattle.geo_terms.specs.Trees.{Tree}
use Rattle.geo_program.specs.CanonicalText.{canonical_text}
use Rattle.geo_program.specs.declared.commands.Command.{Command}
use Rattle.geo_program.specs.declared.names.Name.{Name}
use Rattle.geo_program.specs.declared.names.NameKind.TheVariants as kind
use Rattle.geo_program.specs.Forms.{statement_form}
use Rattle.geo_program.specs.FormTexts.{form_text}
use Rattle.geo_program.specs.Spelling.{SpellsSource}
use Rattle.geo_program.specs.WellFormed.{IsWellFormed, Source}
use Rattle.geo_parser.specs.Refusals.{IsRefused}
use Rattle.geo_parser.proofs.ProgramReading.{spelt_short}
use Rattle.geo_parser.proofs.UnrefusedPrograms.{texts_spell_or_are_refused}
use Rattle.geo_lowering.specs.Conditions.{Condition, command_conditions}
use Rattle.geo_lowering.specs.Counting.{counted, named, points_from}
use Rattle.geo_lowering.specs.Lowering.{IsLowered, LoweredForm, layout_of, renamed}
use Rattle.geo_lowering.specs.declared.version.Version.TheVariants.{Two}
use Rattle.geo_lowering.proofs.ConditionValues.{each_append}
use Rattle.geo_lowering.proofs.Existing.{programs_have_lowered_forms}
use Rattle.geo_lowering.proofs.Exists.{params_past}
use Rattle.geo_lowering.proofs.Laying.{named_program}
use Rattle.geo_lowering.proofs.Values.{IsOver}
use Rattle.geo_conditions.specs.Statements.{statement_conditions}
use Rattle.geo_conditions.proofs.Decisions.{lists_exist}
use Rattle.proof_log.specs.declared.log.Verdict.{Verdict}
use Rattle.proof_log.specs.declared.log.Verdict.TheVariants.{False, Impossible, Proved}
use Rattle.geo_logs.specs.Judging.{Refusal, number_of, rejected, stopped}
use Rattle.geo_logs.specs.Moves.{Stop, spent, too_large}
use Rattle.log_checker.specs.Accepted.{Accepts}
use Rattle.log_checker.specs.Judged.{Refuses}
use Rattle.log_checker.proofs.JudgedWhole.{bytes_are_judged}
use Rattle.geo_library.specs.declared.errors.CiteError.{CiteError}
use Rattle.geo_library.specs.declared.errors.CiteError.TheVariants as cite
use Rattle.geo_library.specs.Citations.{HasCase, HasNoLines, HasParts, HasTheorem, IsCitation, asked_in, behind_log}
use Rattle.geo_library.specs.CitedGoals.{command_goals, has_lines}
use Rattle.geo_library.specs.Figures.{Figure, IsFigureOf, known_variables}
use Rattle.geo_library.specs.Inner.Naming.{HasNoRenaming}
use Rattle.geo_library.specs.Inputs.{BeginsWithLog, BeginsWithNames, with_line}
use Rattle.geo_library.specs.Instances.{Asked, AskedAt, all_asked, asked_at, asks_condition, asks_goal, asks_statement, command_asked, commands_asked}
use Rattle.geo_library.specs.Instances.{condition_texts, conditions_asked, statement_asked, statement_text}
use Rattle.geo_library.specs.NotRefused.{InputsCiteOrAreRefused}
use Rattle.geo_library.specs.Renamings.{IsRenaming, Renaming, given_names, image}
use Rattle.geo_library.specs.Told.{TellsRefusal}
use Rattle.geo_library.specs.Working.{ArePassed, IsFailed, IsFirstMiss, IsPassed, IsStoppedAt, Miss, Progress, counted_header, counted_lines, no_instance, stopped_at}
use Rattle.geo_library.proofs.GoalsInside.{image_inside}
use Rattle.geo_library.proofs.ImagesPlaced.{AreGoalsOver, goals_named}
use Rattle.geo_library.proofs.SomeChain.{HasChain, HasStop, some_chain}
use Rattle.geo_library.proofs.SomeInput.{NamesOrNone, has_or_not, names_or_none, renaming_or_none, same_bytes, some_log}
use Rattle.geo_library.proofs.ToldCases.{names_length, parts_length}

-- FIGURES
record HasFigure (q : Source) : Type 0 where
  figure : Figure
  drawn : IsFigureOf q figure

some_figure : (q : Source) (form : LoweredForm) → IsLowered Two q form → HasFigure q
some_figure q form low =
    let listed = lists_exist.conditions q in
    record {
      figure = record { construction = form.construction; known = known_variables q listed.0 };
      drawn = record { form = form; conditions = listed.0; lowered = low; listed = listed.1; same_construction = refl; same_known = refl };
    }

-- ONE THING AFTER ANOTHER
module _ (q : Source) (form : LoweredForm) (low : IsLowered Two q form) (figure : Figure) (same : figure.construction ≡ form.construction) where
  -- the term of a goal is over the construction
  abbrev pub Inside : Asked → Type 0
  Inside (asks_condition text) = Unit {0}
  Inside (asks_goal e) = IsTermBelow (length form.construction.steps) form.construction.params (renamed (layout_of Two q.commands) e)
  Inside (asks_statement text) = Unit {0}

  abbrev Outcome : Progress → Asked → Type 0
  Outcome now a =
      ((then : Progress) × IsPassed q figure now a then)
      ⊎ (IsFailed q figure now a ⊎ ((number : ℕ) × (stop : Stop) × IsStoppedAt q figure now a number stop))

  null_or_not : (e : Summands) → (e ≡ []) ⊎ (e ≢ [])
  null_or_not [] = inl refl
  null_or_not (t ∷ ts) = inr (λ e. cc)

  goal_outcome : (now : Progress) (e : Tree) → Inside (asks_goal e) → Outcome now (asks_goal e)
  goal_outcome now e inside = by (some_chain figure.construction valid figure.known counted_header now.left (renamed (layout_of Two q.commands) e) below)
    where
      valid : IsConstruction figure.construction
      valid = subst IsConstruction (sym same) low.valid

      below : IsTermBelow (length figure.construction.steps) figure.construction.params (renamed (layout_of Two q.commands) e)
      below = subst (λ (c : Construction). IsTermBelow (length c.steps) c.params (renamed (layout_of Two q.commands) e)) (sym same) inside

      ended : (h : HasChain figure.construction valid figure.known now.left (renamed (layout_of Two q.commands) e)) → (h.chain.end ≡ []) ⊎ (h.chain.end ≢ []) → Outcome now (asks_goal e)
      ended h (inl z) = inl (record { lines = now.lines + counted_lines q e h.chain; left = h.after }, (h.chain, h.works, z, refl))
      ended h (inr n) = inr (inl (h.chain, h.after, h.works, n))

      by : HasChain figure.construction valid figure.known now.left (renamed (layout_of Two q.commands) e)
          ⊎ HasStop figure.construction valid figure.known counted_header now.left (renamed (layout_of Two q.commands) e) → Outcome now (asks_goal e)
      by (inl h) = ended h (null_or_not h.chain.end)
      by (inr h) =
          inr (inr (suc (now.lines + length h.lines), h.stop, (h.lines, record { place = h.place; begun = h.begun; next = h.next }, refl)))

  outcome_of : (now : Progress) (a : Asked) → Inside a → Outcome now a
  outcome_of now (asks_condition text) inside = by (has_or_not (condition_texts q) text)
    where
      by : Contains (condition_texts q) text ⊎ (Contains (condition_texts q) text → ⊥) → Outcome now (asks_condition text)
      by (inl h) = inl (now, (h, refl))
      by (inr n) = inr (inl n)
  outcome_of now (asks_goal e) inside = goal_outcome now e inside
  outcome_of now (asks_statement text) inside = by (same_bytes text (statement_text q))
    where
      by : (text ≡ statement_text q) ⊎ (text ≡ statement_text q → ⊥) → Outcome now (asks_statement text)
      by (inl e) = inl (now, (e, refl))
      by (inr n) = inr (inl n)

  abbrev PassedOrMissed : Progress → List AskedAt → Type 0
  PassedOrMissed now asked = ((end : Progress) × ArePassed q figure now asked end) ⊎ ((miss : Miss) × IsFirstMiss q figure now asked miss)

  pub passed_or_missed : (now : Progress) (asked : List AskedAt) → AllByRecursion (λ a. Inside a.asked) asked → PassedOrMissed now asked
  passed_or_missed now [] h = inl (now, refl)
  passed_or_missed now (a ∷ more) h = by (outcome_of now a.asked h.0) (λ next. passed_or_missed next more h.1)
    where
      behind : (next : Progress) → IsPassed q figure now a.asked next → PassedOrMissed next more → PassedOrMissed now (a ∷ more)
      behind next p (inl (end, rest)) = inl (end, (next, p, rest))
      behind next p (inr (miss, first)) = inr (miss, inr (inr (next, p, first)))

      by : Outcome now a.asked → ((next : Progress) → PassedOrMissed next more) → PassedOrMissed now (a ∷ more)
      by (inl (next, p)) on = behind next p (on next)
      by (inr (inl f)) on = inr (no_instance a.line, inl (f, refl))
      by (inr (inr (number, stop, s))) on = inr (stopped_at number stop, inr (inl (number, stop, s, refl)))

-- WHAT IS ASKED
module _ (p q : Source) (texts : List (List ℕ)) (r : Renaming) (wp : IsWellFormed p) (wq : IsWellFormed q) (ren : IsRenaming p.names q.names texts r)
    (form : LoweredForm) (low : IsLowered Two q form) (figure : Figure) (same : figure.construction ≡ form.construction) (given : List Name) where
  abbrev In : Asked → Type 0
  In a = Inside q form low figure same a

  at_inside : (line : ℕ) (asked : List Asked) → AllByRecursion In asked → AllByRecursion (λ a. In a.asked) (asked_at line asked)
  at_inside line [] h = tt
  at_inside line (a ∷ asked) h = (h.0, at_inside line asked h.1)

  conditions_inside : (cs : List Condition) → AllByRecursion In (conditions_asked given r cs)
  conditions_inside [] = tt
  conditions_inside (c ∷ cs) = (tt, conditions_inside cs)

  goals_inside : (es : List Tree) → AllByRecursion (IsOver (points_from 0 p.commands) (params_past 0 p.commands)) es → AllByRecursion In (map (λ e. asks_goal (image r e)) es)
  goals_inside [] h = tt
  goals_inside (e ∷ es) h = (image_inside p q texts r wp wq ren form low e h.0, goals_inside es h.1)

  commands_inside : (x line : ℕ) (cs : List Command) → AreGoalsOver (points_from 0 p.commands) (params_past 0 p.commands) p.nodes x cs
      → AllByRecursion (λ a. In a.asked) (commands_asked given r p.nodes x line cs)
  commands_inside x line [] h = tt
  commands_inside x line (c ∷ cs) h =
      each_append (λ (a : AskedAt). In a.asked) (asked_at line (command_asked given r p.nodes (record { 0 = x }) c))
      (commands_asked given r p.nodes (counted kind.Point (named c) x) (suc line) cs)
      (at_inside line (command_asked given r p.nodes (record { 0 = x }) c)
      (each_append In (conditions_asked given r (command_conditions p.nodes (record { 0 = x }) c)) (map (λ e. asks_goal (image r e)) (command_goals p.nodes (record { 0 = x }) c))
      (conditions_inside (command_conditions p.nodes (record { 0 = x }) c)) (goals_inside (command_goals p.nodes (record { 0 = x }) c) h.0)))
      (commands_inside (counted kind.Point (named c) x) (suc line) cs h.1)

  pub all_inside : AllByRecursion (λ a. In a.asked) (all_asked given r p)
  all_inside =
      each_append (λ (a : AskedAt). In a.asked) (commands_asked given r p.nodes 0 1 p.commands) (asked_at (suc (length p.commands)) (statement_asked given r p.nodes p.statement))
      (commands_inside 0 1 p.commands
      (goals_named (points_from 0 p.commands) (params_past 0 p.commands) p.nodes 0 0 0 p.commands refl refl (named_program p wp)))
      (at_inside (suc (length p.commands)) (statement_asked given r p.nodes p.statement)
      (each_append In (conditions_asked given r (statement_conditions p.nodes p.statement)) (asks_statement (form_text given (statement_form p.nodes p.statement)) ∷ [])
      (conditions_inside (statement_conditions p.nodes p.statement)) (tt, tt)))

-- COMMANDS WITH LINES
record FirstLine (cs : List Command) : Type 0 where
  place : ℕ
  command : Command
  at : slice_get cs place ≡ Some command
  lines : has_lines command ≡ true
  first : AllByRecursion (λ c. has_lines c ≡ false) (take place cs)

lines_or_none : (cs : List Command) → AllByRecursion (λ c. has_lines c ≡ false) cs ⊎ FirstLine cs
lines_or_none [] = inl tt
lines_or_none (c ∷ cs) = by (has_lines c) refl (lines_or_none cs)
  where
    by : (b : Bool) → has_lines c ≡ b → AllByRecursion (λ d. has_lines d ≡ false) cs ⊎ FirstLine cs
        → AllByRecursion (λ d. has_lines d ≡ false) (c ∷ cs) ⊎ FirstLine (c ∷ cs)
    by true e d = inr (record { place = 0; command = c; at = refl; lines = e; first = tt })
    by false e (inl h) = inl (e, h)
    by false e (inr f) = inr (record { place = suc f.place; command = f.command; at = f.at; lines = f.lines; first = (e, f.first) })

-- INPUTS
module _ (bytes : List ℕ) (steps : ℕ) (few : length bytes ≤ 67108864) where
  abbrev Answer : Type 0
  Answer = ((text : List ℕ) × IsCitation bytes steps text) ⊎ ((error : CiteError) × TellsRefusal bytes steps error × (error ≡ cite.NoMemory → ⊥))

  -- both programs, and a renaming
  module _ (parts : HasParts bytes steps) where
    missed : (miss : Miss) → IsFirstMiss parts.case.program parts.figure (behind_log parts.theorem) (asked_in parts) miss → Answer
    missed (no_instance line) h = inr (cite.NotInstance line, record { parts = parts; first = h }, λ e. cc)
    missed (stopped_at number spent) h = inr (cite.Spent number, inr (record { parts = parts; first = h }), λ e. cc)
    missed (stopped_at number (too_large which)) h = inr (cite.TooLarge number which, inr (record { parts = parts; first = h }), λ e. cc)

    worked : ((end : Progress) × ArePassed parts.case.program parts.figure (behind_log parts.theorem) (asked_in parts) end)
        ⊎ ((miss : Miss) × IsFirstMiss parts.case.program parts.figure (behind_log parts.theorem) (asked_in parts) miss) → Answer
    worked (inl (end, passed)) = inl (statement_text parts.case.program, record { parts = parts; end = end; passed = passed; cited = refl })
    worked (inr (miss, first)) = missed miss first

  module _ (theorem : HasTheorem bytes steps) (none : HasNoLines theorem.program) where
    renamed_case : (case : HasCase theorem.rest) → length (canonical_text case.program) ≤ 268435456 → (r : Renaming) → IsRenaming theorem.program.names case.program.names case.texts r → Answer
    renamed_case case short r ren =
        let q = case.program in
        let lowered = programs_have_lowered_forms Two q case.spelt.well_formed short in
        let drawn = some_figure q lowered.0 lowered.1 in
        let parts : HasParts bytes steps = record {
          theorem = theorem;
          no_lines = none;
          case = case;
          renaming = r;
          renames = ren;
          figure = drawn.figure;
          drawn = drawn.drawn;
        } in
        let own = drawn.drawn in
        worked parts
        (passed_or_missed q own.form own.lowered drawn.figure own.same_construction (behind_log theorem) (asked_in parts)
        (all_inside theorem.program q case.texts r theorem.accepts.accepted.well_formed case.spelt.well_formed ren own.form own.lowered drawn.figure
        own.same_construction (given_names theorem.program.names case.texts)))

    spelt_case : (case : HasCase theorem.rest) → length (canonical_text case.program) ≤ 268435456 → Answer
    spelt_case case short = by (renaming_or_none theorem.program.names case.program.names case.texts)
      where
        by : ((r : Renaming) × IsRenaming theorem.program.names case.program.names case.texts r) ⊎ HasNoRenaming theorem.program.names case.program.names case.texts → Answer
        by (inl (r, ren)) = renamed_case case short r ren
        by (inr wrong) =
            inr (
              cite.Syntax (record { refusal = 15; place = length theorem.log }),
              inl (refl, inr (record { theorem = theorem; no_lines = none; case = case; wrong = wrong; placed = refl })),
              λ e. cc,
            )

    named_case : (texts : List (List ℕ)) (written : List ℕ) → BeginsWithNames theorem.rest texts written → Answer
    named_case texts written names = by (texts_spell_or_are_refused written)
      where
        by : ((q : Source) × SpellsSource written q) ⊎ ((fault : Fault) × IsRefused written fault) → Answer
        by (inl (q, spelt)) =
            let small = spelt_short written q spelt in
            let whole = parts_length bytes theorem.log theorem.rest theorem.begins in
            let behind = names_length theorem.rest texts written names in
            spelt_case (record { texts = texts; written = written; named = names; program = q; spelt = spelt }) (omega (arith, small, whole, behind, few))
        by (inr (fault, refused)) =
            inr (
              cite.Syntax (record { refusal = fault.refusal; place = length theorem.log + length (with_line texts) + fault.place }),
              inr (record {
                theorem = theorem;
                no_lines = none;
                texts = texts;
                written = written;
                named = names;
                fault = fault;
                refused = refused;
                told = refl;
                placed = refl;
              }),
              λ e. cc,
            )

    cited_theorem : Answer
    cited_theorem = by (names_or_none theorem.rest)
      where
        by : NamesOrNone theorem.rest → Answer
        by (inl (texts, written, names)) = named_case texts written names
        by (inr nameless) =
            inr (
              cite.Syntax (record { refusal = 15; place = length theorem.log }),
              inl (refl, inl (record { theorem = theorem; no_lines = none; none = nameless; placed = refl })),
              λ e. cc,
            )

  with_theorem : HasTheorem bytes steps → Answer
  with_theorem theorem = by (lines_or_none theorem.program.commands)
    where
      by : AllByRecursion (λ c. has_lines c ≡ false) theorem.program.commands ⊎ FirstLine theorem.program.commands → Answer
      by (inl none) = cited_theorem theorem (All-from_recursion (λ (c : Command). has_lines c ≡ false) theorem.program.commands none)
      by (inr f) =
          inr (
            cite.Rejected (f.place + 2) 34,
            inr (inr (
              refl,
              record {
                theorem = theorem;
                place = f.place;
                command = f.command;
                at = f.at;
                lines = f.lines;
                first = All-from_recursion (λ (c : Command). has_lines c ≡ false) (take f.place theorem.program.commands) f.first;
                counted = refl;
              },
            )),
            λ e. cc,
          )

  module _ (log rest : List ℕ) (begins : BeginsWithLog bytes log rest) where
    -- another verdict than Proved
    unproved : (p : Source) (verdict : Verdict) → verdict ≢ Proved → Accepts log steps p verdict → Answer
    unproved p verdict n a =
        inr (
          cite.Rejected (length a.lines) 33,
          inr (inl (refl, record { log = log; rest = rest; begins = begins; program = p; verdict = verdict; accepts = a; other = n; counted = refl })),
          λ e. cc,
        )

    accepted : (p : Source) (verdict : Verdict) → Accepts log steps p verdict → Answer
    accepted p Proved a = with_theorem (record { log = log; rest = rest; begins = begins; program = p; accepts = a })
    accepted p (False g) a = unproved p (False g) (λ e. cc) a
    accepted p (Impossible k) a = unproved p (Impossible k) (λ e. cc) a

    refused : (number : ℕ) (refusal : Refusal) → Refuses log steps number refusal → Answer
    refused number (rejected reason) h =
        inr (cite.Rejected number (number_of reason), inl (reason, refl, record { log = log; rest = rest; begins = begins; refuses = h }), λ e. cc)
    refused number (stopped spent) h = inr (cite.Spent number, inl (record { log = log; rest = rest; begins = begins; refuses = h }), λ e. cc)
    refused number (stopped (too_large which)) h =
        inr (cite.TooLarge number which, inl (record { log = log; rest = rest; begins = begins; refuses = h }), λ e. cc)

    judged : ((p : Source) × (verdict : Verdict) × Accepts log steps p verdict) ⊎ ((number : ℕ) × (refusal : Refusal) × Refuses log steps number refusal) → Answer
    judged (inl (p, verdict, a)) = accepted p verdict a
    judged (inr (number, refusal, h)) = refused number refusal h

  answered : Answer
  answered =
      let cut = some_log bytes in
      let whole = parts_length bytes cut.0 cut.1 cut.2 in
      judged cut.0 cut.1 cut.2 (bytes_are_judged cut.0 steps (omega (arith, whole, few)))

pub some_citation : InputsCiteOrAreRefused
some_citation bytes steps few = answered bytes steps few
