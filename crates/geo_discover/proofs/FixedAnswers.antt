-- What the work in the fixed frame tells, of a program's log in that frame.
use Rattle.std.proofs.Common.{◌≡◌, ℕ, suc, ◌+◌, ◌^◌, ◌<◌, inr, List, [], ◌∷◌, ◌++◌, map, length, refl, sym, ap, subst, arith}
use Rattle.std.specs.Prelude.{IfErr, IsErrAnd, Result}
use Rattle.std.proofs.lemmas.List.{length-append}
use Rattle.std.proofs.lemmas.Result.{err_from_is_err_and}
use Rattle.geo_conditions.specs.declared.problem.Problem.{Problem}
use Rattle.geo_conditions.specs.Lists.{IsProblem}
use Rattle.geo_conditions.specs.Problems.{form_of_problem}
use Rattle.geo_lowering.specs.declared.version.Version.TheVariants.{Two}
use Rattle.geo_lexer.specs.Lexemes.{Lexeme}
use Rattle.geo_program.specs.declared.commands.Command.{Command}
use Rattle.geo_program.specs.declared.names.Name.{Name}
use Rattle.geo_program.specs.CanonicalText.{commands_lexemes, line_lexemes, line_text, no_sketches, statement_lexemes}
use Rattle.geo_program.specs.Forms.{command_form}
use Rattle.geo_program.specs.WellFormed.{IsWellFormed, Source, later_names}
use Rattle.geo_terms.specs.Constructions.{Construction}
use Rattle.geo_terms.specs.Stores.{Store}
use Rattle.proof_log.specs.declared.log.Line.{Line}
use Rattle.proof_log.specs.declared.log.Line.TheVariants.{Program as ProgramLine}
use Rattle.proof_log.specs.declared.log.Verdict.{Verdict}
use Rattle.elim_apply.specs.LemmaTable.{lemma_table}
use Rattle.geo_logs.specs.Ends.{stops}
use Rattle.geo_logs.specs.Logs.{Subject}
use Rattle.geo_logs.specs.Moves.{Stop, spent, too_large}
use Rattle.geo_logs.specs.Places.{Place, before_line, before_sample, before_start, first_lines, in_chain}
use Rattle.log_checker.specs.Laws.{IsDecided}
use Rattle.log_checker.specs.Subjects.{IsSubjectOf, source_lines}
use Rattle.log_checker.specs.Checkers.{subject_of}
use Rattle.log_checker.proofs.DueProblems.{about}
use Rattle.geo_chain.specs.declared.frame.Frame.TheVariants.{Fixed}
use Rattle.geo_chain.specs.declared.size.Size.{Size}
use Rattle.geo_chain.specs.declared.size.Size.TheVariants.{Counted}
use Rattle.geo_chain.specs.FixedLogs.{IsStopInFrame}
use Rattle.geo_chain.specs.declared.errors.ProveError.{ProveError}
use Rattle.geo_chain.specs.declared.errors.ProveError.TheVariants as error
use Rattle.geo_chain.specs.Halting.{Finishes, Halts, IsStopped}
use Rattle.geo_chain.specs.InFrame.{IsNextIn}
use Rattle.geo_chain.specs.Parts.{Part}
use Rattle.geo_chain.specs.Sizes.{IsTakable}
use Rattle.geo_chain.specs.Tasks.{conditions_from}
use Rattle.geo_chain.specs.Written.{State}
use Rattle.geo_discover.specs.FixedEnds.{EndsWithVerdict, StopsAtLine}
use Rattle.geo_discover.specs.Inner.Fixing.{IsFixedStop, fixed_by}
use Rattle.geo_discover.proofs.Deciding.{fixed_verdicts_decide}

-- LINES
commands_count : (all : List Name) (nodes : Store) (names : List Name) (commands : List Command) → length (commands_lexemes all nodes names commands (no_sketches commands)) ≡ length commands
commands_count all nodes names [] = refl
commands_count all nodes names (c ∷ commands) = ap suc (commands_count all nodes (later_names (command_form nodes c) names) commands)

map_count : {A B : Type 0} (f : A → B) (xs : List A) → length (map f xs) ≡ length xs
map_count f [] = refl
map_count f (x ∷ xs) = ap suc (map_count f xs)

pub lines_count : (p : Source) → length (source_lines p) ≡ length p.commands + 1
lines_count p =
    let all : List (List Lexeme) = line_lexemes (no_sketches p.commands) p in
    let a : length (source_lines p) ≡ length all = map_count line_text all in
    let b : length all ≡ length (commands_lexemes p.names p.nodes p.names p.commands (no_sketches p.commands)) + 1 =
    length-append (commands_lexemes p.names p.nodes p.names p.commands (no_sketches p.commands)) (statement_lexemes p.names p.nodes p.statement ∷ []) in
    let d = commands_count p.names p.nodes p.names p.commands in
    omega (arith, a, b, d)

pub front_count : (p : Source) (subject : Subject) → subject.program ≡ source_lines p → length (first_lines subject) ≡ length p.commands + 2
front_count p subject is =
    let a : length (first_lines subject) ≡ suc (length subject.program) = ap suc (map_count ProgramLine subject.program) in
    let b : length subject.program ≡ length (source_lines p) = ap length is in
    let d = lines_count p in
    omega (arith, a, b, d)

-- PLACES
-- a stop in the fixed frame
stopped_at : (c : Construction) (place : Place) (stop : Stop) → IsNextIn Fixed c place (stops stop) → IsStopInFrame lemma_table c place stop
stopped_at c (before_line l) stop h = h
stopped_at c (before_start left e) stop h = h
stopped_at c (in_chain known left q) stop h = h
stopped_at c (before_sample listed left) stop h = h

-- WHERE LINES ARE COUNTED
pub counted_takes : (z : Size) (line : Line) → z ≡ Counted → IsTakable z line
counted_takes z line is = subst (λ (x : Size). IsTakable x line) (sym is) tt

-- the error that `?` hands on
pub if_err : {T E : Type 0} (P : E → Type 0) (r : Result T E) (x : E) → IsErrAnd r (λ e. e ≡ x) → P x → IfErr r P
if_err {T} {E} P r x h p =
    let q = err_from_is_err_and r h in
    let Q : Result T E → Type 0 = λ s. IfErr s P in subst Q (sym q.1) (subst P (sym q.2) p)

-- ANSWERS
module _ (p : Source) (problem : Problem) (steps : ℕ) (w : IsWellFormed p) (small : steps < 2 ^ 127) (is : IsProblem Two p (form_of_problem problem) problem.conditions problem.goals) where
  abbrev c : Construction
  c = problem.steps

  abbrev subject : Subject
  subject = subject_of (2, source_lines p) problem

  abbrev whole : Part
  whole = conditions_from Fixed problem 0 [] [] steps

  own : IsSubjectOf p subject
  own = about Two p problem is

  pub ended : (s t : State) (verdict : Verdict) (left : ℕ) → Finishes whole s t verdict left → EndsWithVerdict p steps verdict
  ended s t verdict left h = record {
    subject = subject;
    about = own;
    version = refl;
    lines = first_lines subject ++ h.lines;
    left = left;
    log = record { rest = h.lines; split = refl; worked = h.whole };
  }

  pub decided : (s t : State) (verdict : Verdict) (left : ℕ) → Finishes whole s t verdict left → IsDecided p verdict
  decided s t verdict left h =
      fixed_verdicts_decide p subject steps left (first_lines subject ++ h.lines) verdict w own (record { rest = h.lines; split = refl; worked = h.whole })

  pub stopped : (s t : State) (stop : Stop) (number : ℕ) → s.lines ≡ length p.commands + 2 → IsStopped Fixed c whole s t stop number → StopsAtLine p steps stop number
  stopped s t stop number before h = record {
    subject = subject;
    about = own;
    version = refl;
    lines = first_lines subject ++ h.lines;
    log = (h.place, inr (h.lines, refl, h.begun), stopped_at c h.place stop h.next);
    last =
        let a : number ≡ suc (s.lines + length h.lines) = h.last in
        let b : length (first_lines subject ++ h.lines) ≡ length (first_lines subject) + length h.lines = length-append (first_lines subject) h.lines in
        let d = front_count p subject refl in
        omega (arith, a, b, d, before);
  }

  -- where the work stops
  pub answered : (s t : State) → s.lines ≡ length p.commands + 2 → (e : ProveError) → Halts Fixed c whole s t e → IsFixedStop p steps (fixed_by e)
  answered s t before (error.Spent n) h = stopped s t spent n before h
  answered s t before (error.TooLarge n which) h = stopped s t (too_large which) n before h
  answered s t before error.TooLong h = tt
  answered s t before error.WriteFault h = tt
  answered s t before error.NoMemory h = tt
