-- One thing is due at most for words and for a source that tells its bytes.
use Rattle.std.proofs.Common.{◌≡◌, ℕ, zero, suc, ◌+◌, ◌*◌, ◌<◌, Bool, true, false, ℤ, inl, inr, List, [], ◌∷◌, ◌++◌, map, length}
use Rattle.std.proofs.Common.{Option, Some, None, refl, sym, ap, subst, ◌∙◌, append-nil, length-append, arith}
use Rattle.std.specs.Prelude.{Result, Ok, Err}
use Rattle.std.proofs.lemmas.List.{length-map, map-append}
use Rattle.geo_base.specs.declared.texts.Text.{Text as Written}
use Rattle.geo_cli.specs.Values.{values_line}
use Rattle.geo_cli.proofs.ValueLines.{one_line}
use Rattle.geo_conditions.specs.Truth.{ProgramValues}
use Rattle.geo_conditions.proofs.Sightings.{same_frees, same_numbers}
use Rattle.geo_discover.proofs.FixedAlike.{fixed_ends_agree}
use Rattle.geo_discover.proofs.OneSearch.{one_log, search_unique}
use Rattle.log_checker.specs.Checkers.{with_feeds}
use Rattle.geo_figure.specs.declared.errors.DrawError.{DrawError}
use Rattle.geo_figure.specs.declared.errors.DrawError.TheVariants as drawing
use Rattle.geo_figure.proofs.OneDrawing.{one_drawing}
use Rattle.geo_place.specs.declared.errors.PlaceError.{PlaceError}
use Rattle.geo_place.specs.declared.errors.PlaceError.TheVariants as placing
use Rattle.geo_place.specs.declared.placed.Placed.{Placed}
use Rattle.geo_place.specs.Placing.{AnswersValues, values_wanted}
use Rattle.geo_place.proofs.SameEvaluation.{same_answer}
use Rattle.geo_place.proofs.ValueLists.{values_once}
use Rattle.geo_program.specs.declared.program_type.Program.{Program}
use Rattle.geo_cli.specs.declared.order.Command.{Command}
use Rattle.geo_cli.specs.declared.order.Command.TheVariants.{Bench, Check, Cite, Discover, Figure, Fixed, Place, Prove, Text}
use Rattle.geo_cli.specs.declared.order.Order.{Order}
use Rattle.proof_printer.specs.declared.status.Status.TheVariants.{Done, Syntax}
use Rattle.proof_printer.specs.Due.{Due}
use Rattle.proof_printer.specs.Status.{ending_status, refusal_status, verdict_status}
use Rattle.proof_printer.proofs.OneDue.{one_accepted_due, one_log_due, one_readable_due}
use Rattle.geo_cli.specs.Due.{IsBenchDue, IsCalledFor, IsCommandCall, IsCommandDue, IsDue, due_for}
use Rattle.geo_cli.specs.Due.{IsDueForValues, IsFixedDue, IsReadCall, IsReadDue}
use Rattle.geo_cli.specs.Due.{IsRefusalDue, IsRejectionDue, IsRestDue, IsSearchDue, IsValuesDue, TellsAnswer, TellsDrawing, TellsUncited}
use Rattle.geo_cli.specs.Due.{TellsFixed, bench_text, cited_line, fault_due, fixed_line, refusal_line, stop_due, syntax_line}
use Rattle.geo_cli.specs.Input.{IsInput, IsLong, limit_of}
use Rattle.geo_cli.specs.Orders.{IsOrder}
use Rattle.geo_cli.specs.Status.{search_status}
use Rattle.geo_lowering.specs.declared.version.Version.TheVariants.{Two}
use Rattle.geo_parser.proofs.SpeltTexts.{one_refusal}
use Rattle.geo_library.specs.declared.errors.CiteError.{CiteError}
use Rattle.geo_library.specs.declared.errors.CiteError.TheVariants as citing
use Rattle.geo_library.proofs.Exactly.{cited_or_missed}
use Rattle.geo_library.proofs.NotRefused.{citations_are_not_refused}
use Rattle.geo_library.proofs.RefusedOnce.{inputs_are_refused_once}
use Rattle.geo_lowering.specs.StepForms.{step_form}
use Rattle.geo_lowering.proofs.Alike.{lowered_forms_agree, same_programs_lower_alike}
use Rattle.geo_program.specs.CanonicalText.{line_text}
use Rattle.geo_program.specs.declared.commands.Command.TheVariants.{Midpoint}
use Rattle.geo_program.specs.Forms.{command_form}
use Rattle.geo_program.specs.Programs.{source_of}
use Rattle.geo_program.specs.Spelling.{SameSource}
use Rattle.geo_program.specs.WellFormed.{IsWellFormed, Source}
use Rattle.geo_program.proofs.OneProgram.{spells_one}
use Rattle.geo_program.proofs.OneText.{same_lines}
use Rattle.geo_program.proofs.Propositions.{program_well_formed}
use Rattle.geo_prover.specs.Bench.{IsBench, bench_commands, corner, middles, quadrangle_commands}
use Rattle.log_checker.specs.Subjects.{source_lines}
use Rattle.log_checker.proofs.Judged.{accepted_bytes_are_not_refused}
use Rattle.log_checker.proofs.OneStop.{bytes_are_refused_once}
use Rattle.geo_terms.specs.Stores.{Store}

-- THE BYTES OF AN INPUT

-- the input of a source that tells its bytes is all of them
input_is_all : (limit : ℕ) (bytes input : List ℕ) (left' : Option (List ℕ)) → IsInput limit (Some bytes) input left' → input ≡ bytes
input_is_all limit bytes input None h = absurd (let no : Some bytes ≡ None = h.lost in cc)
input_is_all limit bytes input (Some rest) h =
    let told : Some bytes ≡ Some (input ++ rest) = h.lost in
    let is : bytes ≡ input ++ rest = cc in
    sym (is ∙ ap (λ xs. input ++ xs) h.ended ∙ append-nil input)

-- a source that gave more than the limit had more
long_is_longer : (limit : ℕ) (bytes : List ℕ) (left' : Option (List ℕ)) → IsLong limit (Some bytes) left' → limit < length bytes
long_is_longer limit bytes None h = absurd (let no : Some bytes ≡ None = h.lost in cc)
long_is_longer limit bytes (Some rest) h =
    let told : Some bytes ≡ Some (h.taken ++ rest) = h.lost in
    let is : bytes ≡ h.taken ++ rest = cc in
    omega (arith, ap length is, length-append h.taken rest, h.longer)

-- an input within the limit is not past it
not_past : (limit : ℕ) (bytes input : List ℕ) (left' : Option (List ℕ)) → IsInput limit (Some bytes) input left' → limit < length bytes → ⊥
not_past limit bytes input left' h long =
    let size : length input ≡ length bytes = ap length (input_is_all limit bytes input left' h) in
    omega (arith, size, h.short, long)

-- WHAT THE BYTES OF A PROGRAM CALL FOR

-- bytes call for one refusal at most
one_refusal_due : (bytes : List ℕ) (due other : Due) → IsRefusalDue bytes due → IsRefusalDue bytes other → due ≡ other
one_refusal_due bytes due other h g =
    let same : h.fault ≡ g.fault = one_refusal bytes h.fault g.fault h.no_program.refused g.no_program.refused in
    h.is ∙ (λ i. record { text = syntax_line (same i); status = Syntax (same i).refusal (same i).place }) ∙ sym g.is

-- one thing is due at most for an input
one_due_for : (steps : ℕ) (bytes : List ℕ) (due other : Due) → due_for Prove steps bytes due → due_for Prove steps bytes other → due ≡ other
one_due_for steps bytes due other (inl h) (inl g) = one_log_due steps bytes due other h g
one_due_for steps bytes due other (inl h) (inr g) = absurd (g.no_program.spells_none h.program h.spelt)
one_due_for steps bytes due other (inr h) (inl g) = absurd (h.no_program.spells_none g.program g.spelt)
one_due_for steps bytes due other (inr h) (inr g) = one_refusal_due bytes due other h g

-- WHAT THE BYTES OF A LOG CALL FOR

-- a refused log calls for one line
one_rejection_due : (steps : ℕ) (bytes : List ℕ) (due other : Due) → IsRejectionDue steps bytes due → IsRejectionDue steps bytes other → due ≡ other
one_rejection_due steps bytes due other h g =
    let same = bytes_are_refused_once bytes steps h.number g.number h.refusal g.refusal h.refused g.refused in
    h.is ∙ (λ i. record { text = refusal_line (same.0 i) (same.1 i); status = refusal_status (same.0 i) (same.1 i) }) ∙ sym g.is

-- one thing is due at most for a log
one_due_for_log : (steps : ℕ) (bytes : List ℕ) (due other : Due) → due_for Check steps bytes due → due_for Check steps bytes other → due ≡ other
one_due_for_log steps bytes due other (inl h) (inl g) = one_accepted_due steps bytes due other h g
one_due_for_log steps bytes due other (inl h) (inr g) =
    absurd (accepted_bytes_are_not_refused bytes steps g.number h.program h.verdict g.refusal h.accepted g.refused)
one_due_for_log steps bytes due other (inr h) (inl g) =
    absurd (accepted_bytes_are_not_refused bytes steps h.number g.program g.verdict h.refusal g.accepted h.refused)
one_due_for_log steps bytes due other (inr h) (inr g) = one_rejection_due steps bytes due other h g

-- one thing is due at most for a log that is to be printed
one_due_for_text : (steps : ℕ) (bytes : List ℕ) (due other : Due) → due_for Text steps bytes due → due_for Text steps bytes other → due ≡ other
one_due_for_text steps bytes due other (inl h) (inl g) = one_readable_due steps bytes due other h g
one_due_for_text steps bytes due other (inl h) (inr g) =
    let r = h.readable in absurd (accepted_bytes_are_not_refused bytes steps g.number r.program r.verdict g.refusal r.accepted g.refused)
one_due_for_text steps bytes due other (inr h) (inl g) =
    let r = g.readable in absurd (accepted_bytes_are_not_refused bytes steps h.number r.program r.verdict h.refusal r.accepted h.refused)
one_due_for_text steps bytes due other (inr h) (inr g) = one_rejection_due steps bytes due other h g

-- WHAT VALUES AND A PROGRAM CALL FOR

-- a drawing is one
one_drawing_told : (answer : Result Written DrawError) (due other : Due) → TellsDrawing answer due → TellsDrawing answer other → due ≡ other
one_drawing_told (Ok text) due other h g = h ∙ sym g
one_drawing_told (Err (drawing.TooLarge line)) due other h g = h ∙ sym g
one_drawing_told (Err drawing.NoMemory) due other h g = absurd h

-- want of memory calls for nothing
drawing_memory : (answer : Result Written DrawError) (due : Due) → TellsDrawing answer due → answer ≡ Err drawing.NoMemory → ⊥
drawing_memory answer due h e = subst (λ (a : Result Written DrawError). TellsDrawing a due) e h

answer_memory : (drawn : Bool) (answer : Result Placed PlaceError) (due : Due) → TellsAnswer drawn answer due → answer ≡ Err placing.NoMemory → ⊥
answer_memory drawn answer due h e = subst (λ (a : Result Placed PlaceError). TellsAnswer drawn a due) e h

-- an answer calls for one text
one_told : (drawn : Bool) (answer : Result Placed PlaceError) (due other : Due) → TellsAnswer drawn answer due → TellsAnswer drawn answer other → due ≡ other
one_told false (Ok placed) due other h g = h ∙ sym g
one_told true (Ok placed) due other (a, d, h) (b, e, g) =
    let same = one_drawing placed a b d e (drawing_memory a due h) (drawing_memory b other g) in
    one_drawing_told b due other (subst (λ (z : Result Written DrawError). TellsDrawing z due) same h) g
one_told drawn (Err (placing.Unmet k)) due other h g = h ∙ sym g
one_told drawn (Err (placing.TooLarge line)) due other h g = h ∙ sym g
one_told drawn (Err placing.NoMemory) due other h g = absurd h

-- values and a program call for one text
one_values : (drawn : Bool) (p q : Program) (values : List ℤ) (due other : Due) → SameSource (source_of p) (source_of q) → IsWellFormed (source_of p)
    → IsValuesDue drawn p values due → IsValuesDue drawn q values other → due ≡ other
one_values drawn p q values due other s w h g = by h g
  where
    wanted : values_wanted (source_of p) ≡ values_wanted (source_of q)
    wanted = λ i. 2 * length (same_frees (source_of p) (source_of q) s i) + same_numbers (source_of p) (source_of q) s i

    by : IsValuesDue drawn p values due → IsValuesDue drawn q values other → due ≡ other
    by (inl h) (inl g) = h.1 ∙ sym g.1
    by (inl h) (inr g) = absurd (h.0 (g.count ∙ sym wanted))
    by (inr h) (inl g) = absurd (g.0 (h.count ∙ wanted))
    by (inr h) (inr g) =
        let frees = g.frees ∙ ap length (sym (same_frees (source_of p) (source_of q) s)) in
        let v : h.v ≡ g.v = sym (values_once (source_of p) values h.v h.frees h.are) ∙ values_once (source_of p) values g.v frees g.are in
        let same = same_answer (source_of p) (source_of q) s w g.v h.answer g.answer (subst (λ (z : ProgramValues). AnswersValues (source_of p) z h.answer) v h.given) g.given
        (answer_memory drawn h.answer due h.is) (answer_memory drawn g.answer other g.is) in
        one_told drawn g.answer due other (subst (λ (a : Result Placed PlaceError). TellsAnswer drawn a due) same h.is) g.is

one_rest : (drawn : Bool) (values : List ℤ) (rest : List ℕ) (due other : Due) → IsRestDue drawn values rest due → IsRestDue drawn values rest other → due ≡ other
one_rest drawn values rest due other (inl (fault, none, is)) (inl (fault', none', is')) =
    let same : fault ≡ fault' = one_refusal rest fault fault' none.refused none'.refused in
    is ∙ (λ i. fault_due (same i).refusal (length (values_line values) + (same i).place)) ∙ sym is'
one_rest drawn values rest due other (inl (fault, none, is)) (inr (q, spelt, g)) = absurd (none.spells_none q spelt)
one_rest drawn values rest due other (inr (p, spelt, h)) (inl (fault, none, is)) = absurd (none.spells_none p spelt)
one_rest drawn values rest due other (inr (p, spelt, h)) (inr (q, spelt', g)) =
    one_values drawn p q values due other (spells_one rest (source_of p) (source_of q) spelt spelt') spelt.well_formed h g

-- one thing is due at most for values and a program
one_due_for_values : (drawn : Bool) (bytes : List ℕ) (due other : Due) → IsDueForValues drawn bytes due → IsDueForValues drawn bytes other → due ≡ other
one_due_for_values drawn bytes due other (inl h) (inl g) = h.1 ∙ sym g.1
one_due_for_values drawn bytes due other (inl h) (inr g) = absurd (h.0 g.values g.rest g.line)
one_due_for_values drawn bytes due other (inr h) (inl g) = absurd (g.0 h.values h.rest h.line)
one_due_for_values drawn bytes due other (inr h) (inr g) =
    let same = one_line bytes h.values g.values h.rest g.rest h.line g.line in
    one_rest drawn g.values g.rest due other
    (subst (λ (zs : List ℤ). IsRestDue drawn zs g.rest due) same.0 (subst (λ (r : List ℕ). IsRestDue drawn h.values r due) same.1 h.of_rest)) g.of_rest

-- WHAT A LOG, NAMES AND A PROGRAM CALL FOR

-- an error calls for one text
one_uncited : (error : CiteError) (due other : Due) → TellsUncited error due → TellsUncited error other → due ≡ other
one_uncited (citing.Rejected line reason) due other h g = h ∙ sym g
one_uncited (citing.Syntax fault) due other h g = h ∙ sym g
one_uncited (citing.NotInstance line) due other h g = h ∙ sym g
one_uncited (citing.TooLarge line which) due other h g = h ∙ sym g
one_uncited (citing.Spent line) due other h g = h ∙ sym g
one_uncited citing.NoMemory due other h g = absurd h

-- want of memory calls for nothing
uncited_memory : (error : CiteError) (due : Due) → TellsUncited error due → error ≡ citing.NoMemory → ⊥
uncited_memory error due h e = subst (λ (x : CiteError). TellsUncited x due) e h

-- one thing is due at most for a log, names and a program
one_due_for_citation : (steps : ℕ) (bytes : List ℕ) (due other : Due) → due_for Cite steps bytes due → due_for Cite steps bytes other → due ≡ other
one_due_for_citation steps bytes due other (inl h) (inl g) =
    let same : h.text ≡ g.text = cited_or_missed.cited bytes steps h.text g.text h.cites g.cites in
    h.is ∙ (λ i. record { text = cited_line (same i); status = Done }) ∙ sym g.is
one_due_for_citation steps bytes due other (inl h) (inr g) =
    absurd (uncited_memory g.error other g.is (citations_are_not_refused bytes steps h.text g.error h.cites g.refused))
one_due_for_citation steps bytes due other (inr h) (inl g) =
    absurd (uncited_memory h.error due h.is (citations_are_not_refused bytes steps g.text h.error g.cites h.refused))
one_due_for_citation steps bytes due other (inr h) (inr g) =
    let same : h.error ≡ g.error = inputs_are_refused_once bytes steps h.error g.error (uncited_memory h.error due h.is)
    (uncited_memory g.error other g.is) h.refused g.refused in
    one_uncited g.error due other (subst (λ (x : CiteError). TellsUncited x due) same h.is) g.is

-- WHAT A PROGRAM CALLS FOR WHOSE RELATIONS ARE SOUGHT

one_search_due : (steps : ℕ) (bytes : List ℕ) (due other : Due) → IsSearchDue steps bytes due → IsSearchDue steps bytes other → due ≡ other
one_search_due steps bytes due other h g =
    let p = source_of h.program in
    let q = source_of g.program in
    let same = search_unique p q steps h.lines g.lines h.end g.end h.spelt.well_formed g.spelt.well_formed
    (spells_one bytes p q h.spelt g.spelt) h.searched g.searched in
    h.is ∙ (λ i. record { text = with_feeds (same.0 i); status = search_status (same.1 i) }) ∙ sym g.is

-- one thing is due at most for a program
one_due_for_search : (steps : ℕ) (bytes : List ℕ) (due other : Due) → due_for Discover steps bytes due → due_for Discover steps bytes other
    → due ≡ other
one_due_for_search steps bytes due other (inl h) (inl g) = one_search_due steps bytes due other h g
one_due_for_search steps bytes due other (inl h) (inr g) = absurd (g.no_program.spells_none h.program h.spelt)
one_due_for_search steps bytes due other (inr h) (inl g) = absurd (h.no_program.spells_none g.program g.spelt)
one_due_for_search steps bytes due other (inr h) (inr g) = one_refusal_due bytes due other h g

-- WHAT A NUMBER CALLS FOR

-- the commands have the same forms over any store
quadrangle_forms : (np nq : Store) (n : ℕ) → map (command_form np) (quadrangle_commands n) ≡ map (command_form nq) (quadrangle_commands n)
quadrangle_forms np nq zero = refl
quadrangle_forms np nq (suc n) =
    map-append (command_form np) (quadrangle_commands n) (middles n)
    ∙ ap (λ forms. forms ++ map (command_form nq) (middles n)) (quadrangle_forms np nq n)
    ∙ sym (map-append (command_form nq) (quadrangle_commands n) (middles n))

bench_forms : (np nq : Store) (n : ℕ) → map (command_form np) (bench_commands n) ≡ map (command_form nq) (bench_commands n)
bench_forms np nq n =
    let last = Midpoint (corner 0 n) (corner 2 n) ∷ Midpoint (corner 0 1) (corner 2 1) ∷ [] in
    map-append (command_form np) (quadrangle_commands n) last
    ∙ ap (λ forms. forms ++ map (command_form nq) last) (quadrangle_forms np nq n)
    ∙ sym (map-append (command_form nq) (quadrangle_commands n) last)

-- a number has one program
one_bench : (n : ℕ) (p q : Source) → IsBench n p → IsBench n q → SameSource p q
one_bench n p q h g = record {
  names = h.names ∙ sym g.names;
  commands = ap (map (command_form p.nodes)) h.commands ∙ bench_forms p.nodes q.nodes n ∙ ap (map (command_form q.nodes)) (sym g.commands);
  statement = h.statement ∙ sym g.statement;
}

-- a number calls for one text
one_bench_due : (number steps : ℕ) (due other : Due) → IsBenchDue number steps due → IsBenchDue number steps other → due ≡ other
one_bench_due number steps due other h g =
    let p = source_of h.program in
    let q = source_of g.program in
    let same = one_bench number p q h.made g.made in
    let lines : source_lines p ≡ source_lines q = ap (map line_text) (same_lines p q same) in
    let one = one_log p q steps h.lines g.lines h.ending g.ending (program_well_formed h.program) (program_well_formed g.program) lines h.log g.log in
    let a = h.form.construction in
    let b = g.form.construction in
    let forms = lowered_forms_agree Two q h.form g.form (same_programs_lower_alike Two p q h.form same h.lowered) g.lowered in
    let points : length a.steps ≡ length b.steps =
    sym (length-map a.steps (step_form a.nodes)) ∙ ap length forms.steps ∙ length-map b.steps (step_form b.nodes) in
    h.is
    ∙ (λ i. record { text = bench_text number (points i) steps (one.0 i) (one.1 i); status = ending_status (one.0 i) (one.1 i) })
    ∙ sym g.is

-- WHAT A PROGRAM CALLS FOR IN THE FIXED FRAME

-- how the logs of programs with the same lines end calls for one line
one_fixed : (p q : Source) (steps : ℕ) (due other : Due) → IsWellFormed p → IsWellFormed q → source_lines p ≡ source_lines q
    → TellsFixed p steps due → TellsFixed q steps other → due ≡ other
one_fixed p q steps due other w v e (inl (verdict, h, is)) (inl (verdict', g, is')) =
    let same : verdict ≡ verdict' = fixed_ends_agree.verdicts p q steps w v e verdict verdict' h g in
    is ∙ (λ i. record { text = fixed_line (same i); status = verdict_status (same i) }) ∙ sym is'
one_fixed p q steps due other w v e (inl (verdict, h, is)) (inr (stop, n, g, is')) =
    absurd (fixed_ends_agree.verdict_or_stop p q steps w v e verdict stop n h g)
one_fixed p q steps due other w v e (inr (stop, n, h, is)) (inl (verdict, g, is')) =
    absurd (fixed_ends_agree.verdict_or_stop q p steps v w (sym e) verdict stop n g h)
one_fixed p q steps due other w v e (inr (stop, n, h, is)) (inr (stop', m, g, is')) =
    let same = fixed_ends_agree.stops p q steps w v e stop stop' n m h g in
    is ∙ (λ i. stop_due (same.1 i) (same.0 i)) ∙ sym is'

one_fixed_due : (steps : ℕ) (bytes : List ℕ) (due other : Due) → IsFixedDue steps bytes due → IsFixedDue steps bytes other → due ≡ other
one_fixed_due steps bytes due other h g =
    let p = source_of h.program in
    let q = source_of g.program in
    let same : source_lines p ≡ source_lines q = ap (map line_text) (same_lines p q (spells_one bytes p q h.spelt g.spelt)) in
    one_fixed p q steps due other h.spelt.well_formed g.spelt.well_formed same h.tells g.tells

-- one thing is due at most for a program
one_due_for_fixed : (steps : ℕ) (bytes : List ℕ) (due other : Due) → due_for Fixed steps bytes due → due_for Fixed steps bytes other → due ≡ other
one_due_for_fixed steps bytes due other (inl h) (inl g) = one_fixed_due steps bytes due other h g
one_due_for_fixed steps bytes due other (inl h) (inr g) = absurd (g.no_program.spells_none h.program h.spelt)
one_due_for_fixed steps bytes due other (inr h) (inl g) = absurd (h.no_program.spells_none g.program g.spelt)
one_due_for_fixed steps bytes due other (inr h) (inr g) = one_refusal_due bytes due other h g

-- one thing is due at most for what a command reads
one_due : (command : Command) (steps : ℕ) (bytes : List ℕ) (due other : Due) → due_for command steps bytes due → due_for command steps bytes other
    → due ≡ other
one_due Prove steps bytes = one_due_for steps bytes
one_due Fixed steps bytes = one_due_for_fixed steps bytes
one_due Discover steps bytes = one_due_for_search steps bytes
one_due Place steps bytes = one_due_for_values false bytes
one_due Figure steps bytes = one_due_for_values true bytes
one_due Check steps bytes = one_due_for_log steps bytes
one_due Text steps bytes = one_due_for_text steps bytes
one_due Cite steps bytes = one_due_for_citation steps bytes
one_due (Bench number) steps bytes = one_bench_due number steps

-- WHAT THE WORDS CALL FOR

-- the words give one order at most
abbrev pub GivesOne : List (List ℕ) → Type 0
GivesOne words = (a b : Order) → IsOrder words a → IsOrder words b → a ≡ b

-- where one thing is due at most for each input, what is called for is what is due
one_read : (limit : ℕ) (For : List ℕ → Due → Type 0) → ((bytes : List ℕ) (due other : Due) → For bytes due → For bytes other → due ≡ other)
    → (left left' : Option (List ℕ)) (due other : Due) → IsReadCall limit For left due → IsReadDue limit For left left' other → due ≡ other
one_read limit For one None left' due other call g = absurd call
one_read limit For one (Some bytes) left' due other (inl h) (inl g) = h.1 ∙ sym g.1
one_read limit For one (Some bytes) left' due other (inl h) (inr g) = absurd (not_past limit bytes g.0 left' g.1 h.0)
one_read limit For one (Some bytes) left' due other (inr h) (inl g) =
    let long = long_is_longer limit bytes left' g.0 in absurd (let no : ⊥ = omega (arith, h.0, long) in no)
one_read limit For one (Some bytes) left' due other (inr h) (inr g) =
    one bytes due other h.1 (subst (λ xs. For xs other) (input_is_all limit bytes g.0 left' g.1) g.2)

one_command : (command : Command) (steps : ℕ) (left left' : Option (List ℕ)) (due other : Due) → IsCommandCall command steps left due
    → IsCommandDue command steps left left' other → due ≡ other
one_command (Bench number) steps left left' due other h g = one_bench_due number steps due other h g.1
one_command command steps left left' due other h g =
    one_read (limit_of command) (due_for command steps) (one_due command steps) left left' due other h g

-- two things that a command calls for are one
one_call : (limit : ℕ) (For : List ℕ → Due → Type 0) → ((bytes : List ℕ) (due other : Due) → For bytes due → For bytes other → due ≡ other)
    → (left : Option (List ℕ)) (due other : Due) → IsReadCall limit For left due → IsReadCall limit For left other → due ≡ other
one_call limit For one None due other h g = absurd h
one_call limit For one (Some bytes) due other (inl h) (inl g) = h.1 ∙ sym g.1
one_call limit For one (Some bytes) due other (inl h) (inr g) = absurd (let no : ⊥ = omega (arith, h.0, g.0) in no)
one_call limit For one (Some bytes) due other (inr h) (inl g) = absurd (let no : ⊥ = omega (arith, h.0, g.0) in no)
one_call limit For one (Some bytes) due other (inr h) (inr g) = one bytes due other h.1 g.1

calls_one : (command : Command) (steps : ℕ) (left : Option (List ℕ)) (due other : Due) → IsCommandCall command steps left due
    → IsCommandCall command steps left other → due ≡ other
calls_one (Bench number) steps left due other h g = one_bench_due number steps due other h g
calls_one command steps left due other h g = one_call (limit_of command) (due_for command steps) (one_due command steps) left due other h g

-- two things that are called for are one
pub one_is_called : (words : List (List ℕ)) → GivesOne words → (left : Option (List ℕ)) (due other : Due) → IsCalledFor words left due
    → IsCalledFor words left other → due ≡ other
one_is_called words one left due other (order, given, call) (order', given', call') =
    let same : order' ≡ order = one order' order given' given in
    calls_one order.command order.steps left due other call (subst (λ (o : Order). IsCommandCall o.command o.steps left other) same call')

-- what is called for is what is due
pub called_is_due : (words : List (List ℕ)) → GivesOne words → (left left' : Option (List ℕ)) (due other : Due) → IsCalledFor words left due
    → IsDue words left left' other → due ≡ other
called_is_due words one left left' due other (order, given, call) (inl g) = absurd (g.no_command order given)
called_is_due words one left left' due other (order, given, call) (inr g) =
    let same : g.order ≡ order = one g.order order g.given given in
    one_command order.command order.steps left left' due other call
    (subst (λ (o : Order). IsCommandDue o.command o.steps left left' other) same g.of_command)
