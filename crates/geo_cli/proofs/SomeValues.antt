-- Something is called for where a program is to be placed, or drawn.
use Rattle.std.proofs.Common.{◌≡◌, ℕ, ◌+◌, ◌≤◌, ◌⊎◌, inl, inr, Bool, true, false, ℤ, List, length, Result, Ok, Err, refl, ap, ◌∙◌, arith}
use Rattle.std.proofs.lemmas.List.{length-append}
use Rattle.proof_printer.specs.declared.status.Status.TheVariants.{Done, Unmet as NotMet}
use Rattle.proof_printer.specs.Due.{Due}
use Rattle.geo_base.specs.declared.texts.Text.{Text}
use Rattle.geo_cli.specs.Due.{IsDueForValues, IsRestDue, IsValuesDue, TellsAnswer, TellsPoints, fault_due, large_due, unmet_line}
use Rattle.geo_cli.specs.Input.{program_limit}
use Rattle.geo_cli.specs.Values.{values_line}
use Rattle.geo_cli.proofs.SomeLine.{LineOrNone, line_or_none}
use Rattle.geo_figure.specs.declared.errors.DrawError.{DrawError}
use Rattle.geo_figure.specs.declared.errors.DrawError.TheVariants as drawing
use Rattle.geo_figure.specs.Drawing.{IsDrawn}
use Rattle.geo_figure.proofs.SomeDrawing.{some_drawing}
use Rattle.geo_lexer.specs.declared.token_types.Fault.{Fault}
use Rattle.geo_library.proofs.SomeInput.{same_byte}
use Rattle.geo_parser.specs.Refusals.{IsRefused}
use Rattle.geo_parser.proofs.ProgramReading.{spelt_short}
use Rattle.geo_parser.proofs.SpeltTexts.{spelt_not_refused}
use Rattle.geo_parser.proofs.UnrefusedPrograms.{spelt_program, texts_spell_or_are_refused}
use Rattle.geo_place.specs.declared.errors.PlaceError.{PlaceError}
use Rattle.geo_place.specs.declared.errors.PlaceError.TheVariants as placing
use Rattle.geo_place.specs.declared.placed.Placed.{Placed}
use Rattle.geo_place.specs.Placing.{points_text, values_wanted}
use Rattle.geo_place.proofs.Answered.{values_have_an_answer}
use Rattle.geo_place.proofs.ValueLists.{values_are, values_of}
use Rattle.geo_program.specs.declared.program_type.Program.{Program}
use Rattle.geo_program.specs.Programs.{Spells, source_of}
use Rattle.geo_program.specs.Spelling.{SpellsSource}
use Rattle.geo_program.specs.WellFormed.{Source}

-- WHAT IS TOLD OF AN ANSWER
points_due : (drawn : Bool) (placed : Placed) → (due : Due) × TellsPoints drawn placed due
points_due false placed = (record { text = points_text placed; status = Done }, refl)
points_due true placed = let d = some_drawing placed in by d.0 d.1 d.2
  where
    by : (answer : Result Text DrawError) → IsDrawn placed answer → (answer ≡ Err drawing.NoMemory → ⊥) → (due : Due) × TellsPoints true placed due
    by (Ok text) h n = (record { text = text; status = Done }, (Ok text, h, refl))
    by (Err (drawing.TooLarge line)) h n = (large_due line, (Err (drawing.TooLarge line), h, refl))
    by (Err drawing.NoMemory) h n = absurd (n refl)

answer_due : (drawn : Bool) (answer : Result Placed PlaceError) → (answer ≡ Err placing.NoMemory → ⊥) → (due : Due) × TellsAnswer drawn answer due
answer_due drawn (Ok placed) n = points_due drawn placed
answer_due drawn (Err (placing.Unmet k)) n = (record { text = unmet_line k; status = NotMet k }, refl)
answer_due drawn (Err (placing.TooLarge line)) n = (large_due line, refl)
answer_due drawn (Err placing.NoMemory) n = absurd (n refl)

-- A PROGRAM AT VALUES
module _ (drawn : Bool) (values : List ℤ) (rest : List ℕ) (few : length rest ≤ program_limit) where
  program_values : (program : Program) → Spells rest program → (due : Due) × IsValuesDue drawn program values due
  program_values program spelt = by (same_byte (length values) (values_wanted p))
    where
      p : Source
      p = source_of program

      by : (length values ≡ values_wanted p) ⊎ (length values ≡ values_wanted p → ⊥) → (due : Due) × IsValuesDue drawn program values due
      by (inr n) = (fault_due 14 0, inl (n, refl))
      by (inl count) =
          let v = values_of p values in
          let are = values_are p values count in
          let small = spelt_short rest p spelt in
          let a = values_have_an_answer p v spelt.well_formed (omega (arith, small, few)) are.1 are.2 in
          let told = answer_due drawn a.0 a.2 in
          (told.0, inr (record { count = count; v = v; frees = are.1; are = are.0; answer = a.0; given = a.1; is = told.1 }))

  rest_due : (due : Due) × IsRestDue drawn values rest due
  rest_due = by (texts_spell_or_are_refused rest)
    where
      by : ((p : Source) × SpellsSource rest p) ⊎ ((fault : Fault) × IsRefused rest fault) → (due : Due) × IsRestDue drawn values rest due
      by (inl (p, spelt)) =
          let q = spelt_program rest p (omega (arith, few)) spelt in
          let due = program_values q.0 q.1 in
          (due.0, inr (q.0, q.1, due.1))
      by (inr (fault, refused)) = (
        fault_due fault.refusal (length (values_line values) + fault.place),
        inl (
          fault,
          record { refused = refused; spells_none = λ program spelt. spelt_not_refused rest (source_of program) fault spelt refused },
          refl,
        ),
      )

pub values_due : (drawn : Bool) (bytes : List ℕ) → length bytes ≤ program_limit → (due : Due) × IsDueForValues drawn bytes due
values_due drawn bytes few = by (line_or_none bytes)
  where
    by : LineOrNone bytes → (due : Due) × IsDueForValues drawn bytes due
    by (inr none) = (fault_due 13 0, inl (none, refl))
    by (inl (values, rest, line)) =
        let sizes : length bytes ≡ length (values_line values) + length rest =
        ap (λ (t : List ℕ). length t) line.parts ∙ length-append (values_line values) rest in
        let due = rest_due drawn values rest (omega (arith, few, sizes)) in
        (due.0, inr (record { values = values; rest = rest; line = line; of_rest = due.1 }))
