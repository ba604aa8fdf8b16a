-- A candidate's log, put together from what all candidates have in common.
use Rattle.std.proofs.Common.{◌≡◌, ◌≢◌, ◌⊎◌, All, ℕ, suc, ◌+◌, ◌-◌, ◌<◌, ◌≤◌, ◌^◌, inl, inr, Some, Contains, List, [], ◌∷◌, ◌++◌, map, length}
use Rattle.std.proofs.Common.{refl, sym, ◌∙◌, ap, subst, arith}
use Rattle.std.proofs.lemmas.List.{length-append}
use Rattle.geo_conditions.specs.declared.items.Item.{Item as ListedItem}
use Rattle.geo_base.specs.Devices.{Grows, HasRisen}
use Rattle.geo_conditions.specs.Lists.{Found, IsListed, IsProblem, ItemForm, found_at, found_from, goal_item, item_form}
use Rattle.geo_conditions.specs.declared.problem.Problem.{Problem}
use Rattle.geo_conditions.specs.Problems.{form_of_problem}
use Rattle.geo_conditions.specs.Statements.{statement_conditions}
use Rattle.geo_lowering.specs.Conditions.{Condition}
use Rattle.geo_lowering.specs.Lowering.{LoweredForm}
use Rattle.geo_lowering.specs.declared.version.Version.TheVariants.{Two}
use Rattle.geo_logs.specs.Ends.{stop_line, text_length}
use Rattle.geo_logs.specs.Logs.{Item, Subject}
use Rattle.geo_logs.specs.Moves.{Stop, spent, too_large}
use Rattle.geo_logs.specs.Places.{first_lines}
use Rattle.geo_poly.specs.declared.variables.Var.{Var}
use Rattle.geo_poly.specs.Polynomials.{Summands}
use Rattle.geo_program.specs.declared.statements.Statement.{Statement}
use Rattle.geo_program.specs.Relations.{with_statement}
use Rattle.geo_program.specs.WellFormed.{IsWellFormed, Source}
use Rattle.geo_terms.specs.Constructions.{Construction}
use Rattle.geo_terms.specs.Stores.{Store}
use Rattle.proof_log.specs.declared.log.Line.{Line}
use Rattle.proof_log.specs.declared.log.Verdict.{Verdict}
use Rattle.proof_log.specs.Lines.{log_text}
use Rattle.log_checker.specs.Subjects.{IsSubjectOf, log_item, source_lines}
use Rattle.log_checker.proofs.DueProblems.{about as about_problem, map_twice}
use Rattle.log_checker.proofs.Realised.{goals_named}
use Rattle.log_checker.proofs.Verdicts.{parts_of}
use Rattle.geo_chain.specs.FirstLines.{IsBrokenOffAmong, program_lines}
use Rattle.geo_chain.specs.declared.errors.ProveError.{ProveError}
use Rattle.geo_chain.specs.declared.errors.ProveError.TheVariants as stopped
use Rattle.geo_chain.specs.declared.frame.Frame.TheVariants.{Full}
use Rattle.geo_chain.specs.declared.size.Size.{Size}
use Rattle.geo_chain.specs.declared.size.Size.TheVariants.{Written}
use Rattle.geo_chain.specs.Halting.{Finishes, Halts, IsStopped, Passes}
use Rattle.geo_chain.specs.Parts.{CanWrite, Part, goals_part, items_of, log_part}
use Rattle.geo_chain.specs.Sizes.{Fits, with_text}
use Rattle.geo_chain.specs.Tasks.{IsItemReady, conditions_from}
use Rattle.geo_chain.specs.Written.{State, Writes, first_state}
use Rattle.geo_chain.proofs.Passing.{can_write_on, finishes_on, halts_on, passes_on, text_length-append}
use Rattle.geo_chain.proofs.WholeLogs.{finished, grown, items_ready, left_out, past_program, stopped as stopped_log, too_long_among}
use Rattle.geo_discover.specs.declared.examining.Judgement.{Judgement}
use Rattle.geo_discover.specs.declared.examining.Judgement.TheVariants as judged
use Rattle.geo_discover.specs.Inner.Searching.{IsCandidate, IsJudged, judgement_by}
use Rattle.geo_discover.specs.Inner.Sharing.{AreMet, IsSaid, IsStoppedBy, IsStoppedThere, from_conditions}
use Rattle.geo_discover.proofs.FixedAnswers.{front_count}
use Rattle.geo_discover.proofs.Judging.{held_is, judged_error, judged_verdict, no_rise}
use Rattle.geo_discover.proofs.OwnLogs.{can_write, subject_with}

-- THE SUBJECT
nothing_contained : {A : Type 0} (x : A) → Contains [] x → ⊥
nothing_contained x h = omega (arith, h.1)

module _ (p : Source) (first s : Statement) (l : LoweredForm) (cs gs : List ListedItem) (a : IsCandidate p first) (b : IsCandidate p s)
    (h : IsProblem Two (with_statement p first) l cs gs) where
  -- the conditions are those of the commands
  same_conditions : found_from p.nodes 0 1 p.commands ++ found_at (suc (length p.commands)) (statement_conditions p.nodes first)
      ≡ found_from p.nodes 0 1 p.commands ++ found_at (suc (length p.commands)) (statement_conditions p.nodes s)
  same_conditions =
      ap (λ (xs : List Condition). found_from p.nodes 0 1 p.commands ++ found_at (suc (length p.commands)) xs)
      (a.unconditional ∙ sym b.unconditional)

  -- with the goal of another candidate this is its subject
  pub shared_about : (goals : List Item) → goals ≡ log_item (goal_item Two p s) ∷ []
      → IsSubjectOf (with_statement p s) (subject_with (with_statement p s) l.construction (items_of l.construction.nodes cs) goals)
  shared_about goals e = record {
    version = Two;
    form = l;
    conditions = map (item_form l.construction.nodes) cs;
    goals = goal_item Two p s ∷ [];
    lowered = record {
      valid = h.lowered.valid;
      steps = h.lowered.steps;
      numbers = h.lowered.numbers;
      points = h.lowered.points;
      lines = h.lowered.lines;
      params = h.lowered.params;
      after = h.lowered.after;
    };
    listed_conditions = record {
      conditions = h.conditions.are.conditions;
      listed = subst (λ (xs : List Found). IsListed (λ f. f.condition) [] xs h.conditions.are.conditions) same_conditions
          h.conditions.are.listed;
      written = h.conditions.are.written;
    };
    listed_goals = record {
      goals = s ∷ [];
      listed = subst (λ (xs : List Statement). IsListed (λ g. g) [] xs (s ∷ [])) (sym b.one_goal) (inr (nothing_contained s, refl));
      written = refl;
    };
    same_version = refl;
    same_program = refl;
    same_construction = refl;
    same_conditions = map_twice log_item (item_form l.construction.nodes) cs;
    same_goals = e;
  }

-- the items of a goal as a log takes them
pub goal_taken : (p : Source) (s : Statement) (nodes : Store) (items : List ListedItem) → map (item_form nodes) items ≡ goal_item Two p s ∷ []
    → items_of nodes items ≡ log_item (goal_item Two p s) ∷ []
goal_taken p s nodes items e = map_twice log_item (item_form nodes) items ∙ ap (λ (xs : List ItemForm). map log_item xs) e

-- the goal's term names what the construction has
pub goal_ready : (q : Source) (c : Construction) (conditions : List Item) (nodes : Store) (items : List ListedItem) → IsWellFormed q
    → IsSubjectOf q (subject_with q c conditions (items_of nodes items)) → All (λ x. x.term.0 < length nodes) items
    → All (IsItemReady c nodes) items
goal_ready q c conditions nodes items w about stored =
    let subject = subject_with q c conditions (items_of nodes items) in
    items_ready c nodes items stored (λ i item at. (goals_named q subject w (parts_of q subject about) i item at).0)

-- THE LOG
module _ (p : Source) (s : Statement) (c : Construction) (conditions goals : List Item) (steps : ℕ)
    (w : IsWellFormed (with_statement p s)) (small : steps < 2 ^ 127)
    (about : IsSubjectOf (with_statement p s) (subject_with (with_statement p s) c conditions goals)) where
  abbrev q : Source
  q = with_statement p s

  abbrev subject : Subject
  subject = subject_with q c conditions goals

  abbrev whole : Part
  whole = log_part Full subject steps

  -- behind the first lines and the conditions
  pub past_conditions : (known : List Var) (ends : List Summands) (text : List ℕ) (count left : ℕ) (r t u : State)
      → Writes (program_lines q) r t
      → AreMet c conditions steps known ends text count left goals
      → ((lines : List Line) → text ≡ log_text lines → count ≡ length lines → Writes lines t u)
      → Passes whole (goals_part Full c known ends 1 left goals) r u
  past_conditions known ends text count left r t u h met again =
      passes_on whole (from_conditions c conditions steps goals) (goals_part Full c known ends 1 left goals) r t u
      (past_program subject steps r t h)
      (record { lines = met.lines; continues = met.continues; written = again met.lines met.text_is met.counted })

  pub goal_writable : (part : Part) (r u : State) → r.size ≡ Written 0 → Passes whole part r u → CanWrite Full c part u.size
  goal_writable part r u none h =
      can_write_on Full c whole part r u h (can_write q subject steps w small about r.size none)

  -- ANSWERS
  module _ (r t : State) (lines_none : r.lines ≡ 0) (size_none : r.size ≡ Written 0) (faults_none : r.faults ≡ 0)
      (same : t.faults ≡ r.faults) where
    not_risen : HasRisen r.faults t.faults → ⊥
    not_risen h =
        let z : t.faults ≡ 0 = same ∙ faults_none in
        no_rise (subst (λ n. HasRisen n 0) faults_none (subst (λ n. HasRisen r.faults n) z h))

    judged_answer : (e : ProveError) → e ≢ stopped.NoMemory → Halts Full c whole r t e → IsJudged p steps s (judged.Open e)
    judged_answer e other h =
        judged_error p q s steps refl subject about refl r.held t.held e
        (λ line is. stopped_log subject steps r t size_none lines_none spent line (told (stopped.Spent line) is))
        (λ line which is. stopped_log subject steps r t size_none lines_none (too_large which) line (told (stopped.TooLarge line which) is))
        (λ is. left_out subject steps r t size_none (told stopped.TooLong is))
        (λ is. not_risen (told stopped.WriteFault is).1)
        other
      where
        told : (x : ProveError) → e ≡ x → Halts Full c whole r t x
        told x is = subst (λ y. Halts Full c whole r t y) is h

    -- one of the first lines is not written
    pub judged_among : (e : ProveError) → e ≢ stopped.NoMemory → IsBrokenOffAmong (program_lines q) r t e → IsJudged p steps s (judged.Open e)
    judged_among e other h =
        judged_error p q s steps refl subject about refl r.held t.held e
        (λ line is. absurd (told (stopped.Spent line) is))
        (λ line which is. absurd (told (stopped.TooLarge line which) is))
        (λ is. left_out subject steps r t size_none (too_long_among subject steps r t (told stopped.TooLong is)))
        (λ is. not_risen (told stopped.WriteFault is).1)
        other
      where
        told : (x : ProveError) → e ≡ x → IsBrokenOffAmong (program_lines q) r t x
        told x is = subst (λ y. IsBrokenOffAmong (program_lines q) r t y) is h

  -- what is said of the rest is what the whole log says
  module _ (r : State) (lines_none : r.lines ≡ 0) (size_none : r.size ≡ Written 0) (held_none : r.held ≡ Some []) (faults_none : r.faults ≡ 0) where
    pub said_judged : (part : Part) (u : State) (judgement : Judgement) → Passes whole part r u → u.faults ≡ r.faults
        → IsSaid c part u judgement → IsJudged p steps s judgement
    said_judged part u judgement passed sound h = go h.said
      where
        go : ((verdict : Verdict) × (left : ℕ) × (log : List ℕ) × (judgement ≡ judgement_by verdict log) × (h.after.held ≡ Some log)
            × Fits h.after.size × Finishes part u h.after verdict left)
            ⊎ ((error : ProveError) × (judgement ≡ judged.Open error) × (error ≢ stopped.NoMemory) × (h.after.faults ≡ u.faults)
            × Halts Full c part u h.after error) → IsJudged p steps s judgement
        go (inl (verdict, left, log, is, held, fits, done)) =
            let all = finishes_on whole part r u h.after verdict left passed done in
            let defined = finished subject steps r h.after size_none verdict left all fits in
            let written = grown subject steps r h.after size_none (log_text all.lines) all.written.written in
            subst (IsJudged p steps s) (sym is)
            (judged_verdict p q s steps refl all.lines verdict left log
            (record { subject = subject; about = about; version = refl; defined = defined })
            (held_is log (log_text all.lines)
            (subst (λ x. Grows (Some []) (log_text all.lines) x) held (subst (λ x. Grows x (log_text all.lines) h.after.held) held_none written))))
        go (inr (error, is, other, same, halts)) =
            subst (IsJudged p steps s) (sym is)
            (judged_answer r h.after lines_none size_none faults_none (same ∙ sound) error other
            (halts_on Full c whole part r u h.after passed error halts))

  -- LENGTHS
  -- the lines before the chains and those of the conditions, as if they were written
  abbrev pub joined : List ℕ → ℕ → State
  joined text count = record {
    lines = length (program_lines q) + count;
    size = Written (text_length (program_lines q) + length text);
    held = Some (log_text (program_lines q) ++ text);
    faults = 0;
  }

  joined_passes : (known : List Var) (ends : List Summands) (text : List ℕ) (count left : ℕ)
      → AreMet c conditions steps known ends text count left goals
      → Passes whole (goals_part Full c known ends 1 left goals) (first_state (Some []) 0) (joined text count)
  joined_passes known ends text count left met =
      let first = program_lines q in
      let t : State = record { lines = length first; size = Written (text_length first); held = Some (log_text first); faults = 0 } in
      past_conditions known ends text count left (first_state (Some []) 0) t (joined text count)
      (record {
        counted = omega arith;
        measured = let e : text_length first ≡ 0 + text_length first = omega arith in ap (λ (n : ℕ). Written n) e;
        written = refl;
        faults = refl;
      })
      met
      (λ lines is counted. record {
        counted = ap (λ (n : ℕ). length first + n) counted;
        measured = ap (λ (xs : List ℕ). Written (text_length first + length xs)) is;
        written = ap (λ (xs : List ℕ). Some (log_text first ++ xs)) is;
        faults = refl;
      })

  -- what is said of the rest by so many lines is what the whole log says
  pub lengths_judged : (known : List Var) (ends : List Summands) (text : List ℕ) (count left lines : ℕ) (judgement : Judgement)
      → AreMet c conditions steps known ends text count left goals → lines ≡ (length p.commands + 2) + count
      → IsSaid c (goals_part Full c known ends 1 left goals)
      (record {
        lines = lines;
        size = Written (text_length (program_lines q) + length text);
        held = Some (log_text (program_lines q) ++ text);
        faults = 0;
      })
      judgement
      → IsJudged p steps s judgement
  lengths_judged known ends text count left lines judgement met counted said =
      let part = goals_part Full c known ends 1 left goals in
      let k : length (program_lines q) ≡ length p.commands + 2 = front_count q (subject_with q c conditions goals) refl in
      let same : lines ≡ length (program_lines q) + count = omega (arith, counted, k) in
      said_judged (first_state (Some []) 0) refl refl refl refl part (joined text count) judgement
      (joined_passes known ends text count left met) refl
      (subst (λ (n : ℕ). IsSaid c part (record {
        lines = n;
        size = Written (text_length (program_lines q) + length text);
        held = Some (log_text (program_lines q) ++ text);
        faults = 0;
      }) judgement) same said)

  -- STOPS
  -- a stop in the conditions is one of the whole log
  module _ (bytes : ℕ) (size : Size) (room : Fits (with_text size bytes))
      (measured : size ≡ with_text (Written 0) (text_length (first_lines (subject_with q c conditions goals)))) where
    abbrev front : List Line
    front = first_lines (subject_with q c conditions goals)

    stopped_judged_at : (stop : Stop) (n : ℕ) (e : ProveError) → e ≢ stopped.NoMemory
        → ((t : State) → IsStopped Full c whole (first_state (Some []) 0) t stop n → Halts Full c whole (first_state (Some []) 0) t e)
        → IsStoppedThere c conditions steps (length p.commands + 2) bytes stop n goals → IsJudged p steps s (judged.Open e)
    stopped_judged_at stop n e other halts h =
        let all : List Line = front ++ h.lines in
        let r : State = first_state (Some []) 0 in
        let text : List ℕ = log_text (all ++ stop_line n stop ∷ []) in
        let t : State = record { lines = 0; size = Written 0; held = Some text; faults = 0 } in
        let k : length front ≡ length p.commands + 2 = front_count q (subject_with q c conditions goals) refl in
        let l : length all ≡ length front + length h.lines = length-append front h.lines in
        let last = h.last in
        let short = h.short in
        let sum : text_length all ≡ text_length front + text_length h.lines = text_length-append front h.lines in
        let there : (0 + text_length front) + bytes ≤ 67108864 = subst (λ (z : Size). Fits (with_text z bytes)) measured room in
        judged_answer r t refl refl refl refl e other
        (halts t (record {
          lines = all;
          place = h.place;
          begun = inr (h.lines, refl, h.begun);
          next = h.next;
          fits = omega (arith, sum, there, short);
          last = omega (arith, last, k, l);
          written = refl;
          faults = refl;
        }))

    pub stopped_judged : (e : ProveError) → IsStoppedBy c conditions steps (length p.commands + 2) bytes e goals
        → IsJudged p steps s (judged.Open e)
    stopped_judged (stopped.Spent n) h =
        stopped_judged_at spent n (stopped.Spent n) (λ e. let f : stopped.Spent n ≡ stopped.NoMemory = e in cc) (λ t x. x) h
    stopped_judged (stopped.TooLarge n which) h =
        stopped_judged_at (too_large which) n (stopped.TooLarge n which)
        (λ e. let f : stopped.TooLarge n which ≡ stopped.NoMemory = e in cc) (λ t x. x) h
    stopped_judged stopped.TooLong h = absurd h
    stopped_judged stopped.WriteFault h = absurd h
    stopped_judged stopped.NoMemory h = absurd h

-- A LOG FROM THE BEGINNING
module _ (p : Source) (s : Statement) (q : Source) (same : q ≡ with_statement p s) (problem : Problem) (steps : ℕ) (w : IsWellFormed q)
    (small : steps < 2 ^ 127) (is : IsProblem Two q (form_of_problem problem) problem.conditions problem.goals) where
  abbrev c : Construction
  c = problem.steps

  abbrev xs : List Item
  xs = items_of c.nodes problem.conditions

  abbrev ys : List Item
  ys = items_of c.nodes problem.goals

  formed : IsWellFormed (with_statement p s)
  formed = subst IsWellFormed same w

  own : IsSubjectOf (with_statement p s) (subject_with (with_statement p s) c xs ys)
  own =
      about_problem Two (with_statement p s) problem
      (subst (λ (x : Source). IsProblem Two x (form_of_problem problem) problem.conditions problem.goals) same is)

  -- what is said of the chains behind the first lines
  pub chains_judged : (t : State) (judgement : Judgement) → Writes (program_lines q) (first_state (Some []) 0) t
      → IsSaid c (conditions_from Full problem 0 [] [] steps) t judgement → IsJudged p steps s judgement
  chains_judged t judgement h said =
      let subject = subject_with (with_statement p s) c xs ys in
      let first = subst (λ (x : Source). Writes (program_lines x) (first_state (Some []) 0) t) same h in
      said_judged p s c xs ys steps formed small own (first_state (Some []) 0) refl refl refl refl
      (conditions_from Full problem 0 [] [] steps) t judgement (past_program subject steps (first_state (Some []) 0) t first) h.faults said

  -- one of these is not written
  pub first_judged : (t : State) (e : ProveError) → t.faults ≡ 0 → e ≢ stopped.NoMemory
      → IsBrokenOffAmong (program_lines q) (first_state (Some []) 0) t e → IsJudged p steps s (judged.Open e)
  first_judged t e sound other h =
      judged_among p s c xs ys steps formed small own (first_state (Some []) 0) t refl refl refl sound e other
      (subst (λ (x : Source). IsBrokenOffAmong (program_lines x) (first_state (Some []) 0) t e) same h)
