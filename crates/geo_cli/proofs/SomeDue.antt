-- Something is called for by each word.
use Rattle.std.proofs.Common.{◌≡◌, ℕ, ◌<◌, ◌≤◌, ◌⊎◌, Bool, true, false, List, [], map, length, Option, Some, refl, sym, subst, inl, inr, arith}
use Rattle.std.specs.Prelude.{nat_le}
use Rattle.std.proofs.lemmas.Bool.Decides.{nat_tests}
use Rattle.geo_cli.specs.declared.order.Command.{Command}
use Rattle.geo_cli.specs.declared.order.Command.TheVariants.{Bench, Check, Cite, Discover, Figure, Fixed, Place, Prove, Text}
use Rattle.geo_cli.specs.declared.order.Order.{Order}
use Rattle.proof_printer.specs.declared.status.Status.TheVariants.{Done, NotInstance, Rejected, Syntax, TooLong}
use Rattle.proof_printer.specs.Due.{Due, accepted_text}
use Rattle.proof_printer.specs.Status.{ending_status, refusal_status, verdict_status}
use Rattle.geo_cli.specs.Due.{HasInput, IsBenchDue, IsCalledFor, IsCommandCall, due_for}
use Rattle.geo_cli.specs.Due.{IsReadCall, IsRefusalDue, IsRejectionDue, TellsFixed, TellsUncited, bench_text, cited_line, fault_due, fixed_line, no_instance_line, refusal_line}
use Rattle.geo_cli.specs.Due.{rejected_line, stop_due, syntax_line, too_long_line}
use Rattle.geo_cli.specs.Input.{limit_of, log_limit, program_limit}
use Rattle.geo_cli.specs.Orders.{IsOrder}
use Rattle.geo_cli.specs.Status.{search_status}
use Rattle.geo_cli.proofs.SomeValues.{values_due}
use Rattle.geo_conditions.specs.Lists.{condition_item}
use Rattle.geo_conditions.proofs.Decisions.{lists_exist}
use Rattle.geo_discover.specs.FixedEnds.{EndsWithVerdict, StopsAtLine}
use Rattle.geo_discover.proofs.SomeFixedLog.{some_fixed_log}
use Rattle.geo_discover.proofs.SomeSearch.{some_search}
use Rattle.geo_lexer.specs.declared.token_types.Fault.{Fault}
use Rattle.geo_library.specs.declared.errors.CiteError.{CiteError}
use Rattle.geo_library.specs.declared.errors.CiteError.TheVariants as citing
use Rattle.geo_library.specs.Citations.{IsCitation}
use Rattle.geo_library.specs.Told.{TellsRefusal}
use Rattle.geo_library.proofs.SomeCitation.{some_citation}
use Rattle.geo_logs.specs.Judging.{Refusal}
use Rattle.geo_logs.specs.Moves.{Stop, spent, too_large}
use Rattle.geo_lowering.specs.declared.version.Version.TheVariants.{Two}
use Rattle.geo_lowering.proofs.Existing.{programs_have_lowered_forms}
use Rattle.geo_parser.specs.Refusals.{IsRefused}
use Rattle.geo_parser.proofs.ProgramReading.{spelt_short}
use Rattle.geo_parser.proofs.SpeltTexts.{spelt_not_refused}
use Rattle.geo_parser.proofs.UnrefusedPrograms.{spelt_program, texts_spell_or_are_refused}
use Rattle.geo_program.proofs.Propositions.{program_well_formed}
use Rattle.geo_program.specs.Programs.{source_of}
use Rattle.geo_program.specs.Spelling.{SpellsSource}
use Rattle.geo_program.specs.WellFormed.{Source}
use Rattle.geo_prover.proofs.SomeBench.{some_bench}
use Rattle.log_checker.specs.Accepted.{Accepts}
use Rattle.log_checker.specs.Checkers.{with_feeds}
use Rattle.log_checker.specs.Judged.{Refuses}
use Rattle.log_checker.proofs.AcceptedBytes.{accepted_bytes_mean, programs_have_defined_logs}
use Rattle.log_checker.proofs.JudgedWhole.{bytes_are_judged}
use Rattle.proof_log.specs.declared.log.Verdict.{Verdict}
use Rattle.proof_log.specs.Lines.{log_text}
use Rattle.proof_printer.specs.Naming.{naming_of}
use Rattle.proof_printer.specs.Readable.{readable}

-- bytes past the limit call for a line, and others for what is due for them
called_within : (limit : ℕ) (For : List ℕ → Due → Type 0) (bytes : List ℕ) → (length bytes ≤ limit → (due : Due) × For bytes due)
    → (due : Due) × IsReadCall limit For (Some bytes) due
called_within limit For bytes within = by (nat_le (length bytes) limit) refl
  where
    by : (b : Bool) → nat_le (length bytes) limit ≡ b → (due : Due) × IsReadCall limit For (Some bytes) due
    by true h =
        let few : length bytes ≤ limit = grind (arith, nat_tests) in
        let due = within few in
        (due.0, inr (few, due.1))
    by false h =
        let many : limit < length bytes = grind (arith, nat_tests) in
        (record { text = too_long_line; status = TooLong }, inl (many, refl))

-- A PROGRAM

-- the line that tells why the bytes spell none
fault_told : (bytes : List ℕ) → (fault : Fault) × IsRefused bytes fault → (due : Due) × IsRefusalDue bytes due
fault_told bytes (fault, refused) = (
  record { text = syntax_line fault; status = Syntax fault.refusal fault.place },
  record {
    fault = fault;
    no_program = record { refused = refused; spells_none = λ program spelt. spelt_not_refused bytes (source_of program) fault spelt refused };
    is = refl;
  },
)

-- the log of the program, or the line that tells the refusal
program_due : (steps : ℕ) (bytes : List ℕ) → length bytes ≤ program_limit → (due : Due) × due_for Prove steps bytes due
program_due steps bytes few = by (texts_spell_or_are_refused bytes)
  where
    by : ((p : Source) × SpellsSource bytes p) ⊎ ((fault : Fault) × IsRefused bytes fault) → (due : Due) × due_for Prove steps bytes due
    by (inl (p, spelt)) =
        let q = spelt_program bytes p (omega (arith, few)) spelt in
        let small = spelt_short bytes (source_of q.0) q.1 in
        let log = programs_have_defined_logs Two (source_of q.0) steps (record { well_formed = q.1.well_formed; short = omega (arith, small, few) }) in (
          record { text = log_text log.3.0; status = ending_status log.3.0 log.3.1 },
          inl (record {
            program = q.0;
            spelt = q.1;
            lines = log.3.0;
            ending = log.3.1;
            log = record { subject = log.0; about = log.1; version = log.2; defined = log.3.2 };
            is = refl;
          }),
        )
    by (inr refused) = let due = fault_told bytes refused in (due.0, inr due.1)

-- A LOG

-- the line that tells where it is refused
rejected_due : (steps : ℕ) (bytes : List ℕ) → (number : ℕ) × (refusal : Refusal) × Refuses bytes steps number refusal
    → (due : Due) × IsRejectionDue steps bytes due
rejected_due steps bytes (number, refusal, refused) = (
  record { text = refusal_line number refusal; status = refusal_status number refusal },
  record { number = number; refusal = refusal; refused = refused; is = refl },
)

log_due : (steps : ℕ) (bytes : List ℕ) → length bytes ≤ log_limit → (due : Due) × due_for Check steps bytes due
log_due steps bytes few = by (bytes_are_judged bytes steps (omega (arith, few)))
  where
    by : ((p : Source) × (verdict : Verdict) × Accepts bytes steps p verdict) ⊎ ((number : ℕ) × (refusal : Refusal) × Refuses bytes steps number refusal)
        → (due : Due) × due_for Check steps bytes due
    by (inl (p, verdict, accepted)) =
        let listed = lists_exist.conditions p in
        let conditions = map (condition_item Two p) listed.0 in (
          record { text = accepted_text p conditions verdict; status = verdict_status verdict },
          inl (record {
            program = p;
            verdict = verdict;
            accepted = accepted;
            conditions = conditions;
            listed = record { conditions = listed.0; listed = listed.1; written = refl };
            is = refl;
          }),
        )
    by (inr refused) = let due = rejected_due steps bytes refused in (due.0, inr due.1)

text_due : (steps : ℕ) (bytes : List ℕ) → length bytes ≤ log_limit → (due : Due) × due_for Text steps bytes due
text_due steps bytes few = by (bytes_are_judged bytes steps (omega (arith, few)))
  where
    by : ((p : Source) × (verdict : Verdict) × Accepts bytes steps p verdict) ⊎ ((number : ℕ) × (refusal : Refusal) × Refuses bytes steps number refusal)
        → (due : Due) × due_for Text steps bytes due
    by (inl (p, verdict, accepted)) =
        let about = accepted.accepted.about in
        let text = readable (naming_of about.version p) about.form.construction [] accepted.lines in (
          record { text = text; status = Done },
          inl (record {
            text = text;
            readable = record {
              program = p;
              verdict = verdict;
              accepted = accepted;
              means = accepted_bytes_mean bytes steps p verdict accepted;
              form = about.form;
              lowered = about.lowered;
              written = refl;
            };
            is = refl;
          }),
        )
    by (inr refused) = let due = rejected_due steps bytes refused in (due.0, inr due.1)

-- A CITATION
cite_due : (steps : ℕ) (bytes : List ℕ) → length bytes ≤ log_limit → (due : Due) × due_for Cite steps bytes due
cite_due steps bytes few = by (some_citation bytes steps few)
  where
    uncited : (error : CiteError) → TellsRefusal bytes steps error → (error ≡ citing.NoMemory → ⊥) → (due : Due) × TellsUncited error due
    uncited (citing.Rejected line reason) h n = (record { text = rejected_line line reason; status = Rejected line reason }, refl)
    uncited (citing.Syntax fault) h n = (fault_due fault.refusal fault.place, refl)
    uncited (citing.NotInstance line) h n = (record { text = no_instance_line line; status = NotInstance line }, refl)
    uncited (citing.TooLarge line which) h n = (stop_due line (too_large which), refl)
    uncited (citing.Spent line) h n = (stop_due line spent, refl)
    uncited citing.NoMemory h n = absurd (n refl)

    by : ((text : List ℕ) × IsCitation bytes steps text) ⊎ ((error : CiteError) × TellsRefusal bytes steps error × (error ≡ citing.NoMemory → ⊥))
        → (due : Due) × due_for Cite steps bytes due
    by (inl (text, cites)) = (record { text = cited_line text; status = Done }, inl (record { text = text; cites = cites; is = refl }))
    by (inr (error, refused, n)) =
        let told = uncited error refused n in
        (told.0, inr (record { error = error; refused = refused; is = told.1 }))

-- A SEARCH
search_due : (steps : ℕ) (bytes : List ℕ) → length bytes ≤ program_limit → (due : Due) × due_for Discover steps bytes due
search_due steps bytes few = by (texts_spell_or_are_refused bytes)
  where
    by : ((p : Source) × SpellsSource bytes p) ⊎ ((fault : Fault) × IsRefused bytes fault) → (due : Due) × due_for Discover steps bytes due
    by (inl (p, spelt)) =
        let q = spelt_program bytes p (omega (arith, few)) spelt in
        let small = spelt_short bytes (source_of q.0) q.1 in
        let search = some_search (source_of q.0) steps q.1.well_formed (omega (arith, small, few)) in (
          record { text = with_feeds search.0; status = search_status search.1 },
          inl (record { program = q.0; spelt = q.1; lines = search.0; end = search.1; searched = search.2; is = refl }),
        )
    by (inr refused) = let due = fault_told bytes refused in (due.0, inr due.1)

-- A NUMBER
bench_due : (number steps : ℕ) → 1 ≤ number → number ≤ 60 → (due : Due) × IsBenchDue number steps due
bench_due number steps some few =
    let made = some_bench number some few in
    let p = source_of made.0 in
    let short = program_well_formed made.0 in
    let form = programs_have_lowered_forms Two p short made.0.short in
    let log = programs_have_defined_logs Two p steps (record { well_formed = short; short = made.0.short }) in (
      record {
        text = bench_text number (length form.0.construction.steps) steps log.3.0 log.3.1;
        status = ending_status log.3.0 log.3.1;
      },
      record {
        program = made.0;
        made = made.1;
        form = form.0;
        lowered = form.1;
        lines = log.3.0;
        ending = log.3.1;
        log = record { subject = log.0; about = log.1; version = log.2; defined = log.3.2 };
        is = refl;
      },
    )

-- THE FIXED FRAME
fixed_due : (steps : ℕ) (bytes : List ℕ) → length bytes ≤ program_limit → (due : Due) × due_for Fixed steps bytes due
fixed_due steps bytes few = by (texts_spell_or_are_refused bytes)
  where
    told : (p : Source) → ((verdict : Verdict) × EndsWithVerdict p steps verdict) ⊎ ((stop : Stop) × (number : ℕ) × StopsAtLine p steps stop number)
        → (due : Due) × TellsFixed p steps due
    told p (inl (verdict, ends)) = (record { text = fixed_line verdict; status = verdict_status verdict }, inl (verdict, ends, refl))
    told p (inr (stop, number, stops)) = (stop_due number stop, inr (stop, number, stops, refl))

    by : ((p : Source) × SpellsSource bytes p) ⊎ ((fault : Fault) × IsRefused bytes fault) → (due : Due) × due_for Fixed steps bytes due
    by (inl (p, spelt)) =
        let q = spelt_program bytes p (omega (arith, few)) spelt in
        let small = spelt_short bytes (source_of q.0) q.1 in
        let due = told (source_of q.0) (some_fixed_log (source_of q.0) steps (record { well_formed = q.1.well_formed; short = omega (arith, small, few) })) in
        (due.0, inl (record { program = q.0; spelt = q.1; tells = due.1 }))
    by (inr refused) = let due = fault_told bytes refused in (due.0, inr due.1)

-- WHAT A COMMAND READS
abbrev ReadsInput : Command → Type 0
ReadsInput (Bench number) = ⊥
ReadsInput _ = Unit {0}

some_due : (command : Command) (steps : ℕ) (bytes : List ℕ) → ReadsInput command → length bytes ≤ limit_of command
    → (due : Due) × due_for command steps bytes due
some_due Prove steps bytes reads = program_due steps bytes
some_due Fixed steps bytes reads = fixed_due steps bytes
some_due Discover steps bytes reads = search_due steps bytes
some_due Place steps bytes reads = values_due false bytes
some_due Figure steps bytes reads = values_due true bytes
some_due Check steps bytes reads = log_due steps bytes
some_due Text steps bytes reads = text_due steps bytes
some_due Cite steps bytes reads = cite_due steps bytes
some_due (Bench number) steps bytes reads = absurd reads

-- THE WORDS
module _ (words : List (List ℕ)) (left : Option (List ℕ)) where
  abbrev Called : Type 0
  Called = (due : Due) × IsCalledFor words left due

  -- a word that reads
  called_by : (order : Order) → IsOrder words order → (limit : ℕ) (For : List ℕ → Due → Type 0) (bytes : List ℕ) → left ≡ Some bytes
      → ((due : Due) → IsReadCall limit For left due → IsCommandCall order.command order.steps left due)
      → (length bytes ≤ limit → (due : Due) × For bytes due) → Called
  called_by order given limit For bytes told own within =
      let due = called_within limit For bytes within in
      (due.0, (order, given, own due.0 (subst (λ (o : Option (List ℕ)). IsReadCall limit For o due.0) (sym told) due.1)))

  called_for : (command : Command) (steps : ℕ) → IsOrder words (record { command = command; steps = steps }) → HasInput command left → Called
  called_for (Bench number) steps given input =
      let row = given.row in
      let due = bench_due number steps row.3 row.4 in
      (due.0, (record { command = Bench number; steps = steps }, given, due.1))
  called_for command steps given input =
      called_by _ given (limit_of command) (due_for command steps) input.0 input.1 (λ due h. h) (some_due command steps input.0 tt)

  pub some_is_called : (order : Order) → IsOrder words order → HasInput order.command left → Called
  some_is_called order given input = called_for order.command order.steps given input
