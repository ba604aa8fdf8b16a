-- What `place` and `figure` are to write, from what the parts of the input call for.
use Rattle.std.proofs.Common.{◌≡◌, ℕ, ◌+◌, Bool, ℤ, inl, inr, List, length, Result, Ok, Err, ap, ◌∙◌, subst}
use Rattle.std.specs.Prelude.{IfOk}
use Rattle.geo_points.specs.declared.memory.NoMemory.{NoMemory}
use Rattle.geo_cli.specs.declared.reports.Report.{Report}
use Rattle.proof_printer.specs.Due.{Due, SpellsNone}
use Rattle.geo_cli.specs.Due.{IsRestDue, IsValuesDue, TellsAnswer, fault_due}
use Rattle.geo_cli.specs.Inner.Telling.{due_of}
use Rattle.geo_cli.specs.Values.{values_line}
use Rattle.geo_conditions.specs.Truth.{ProgramValues, free_points, integers_of}
use Rattle.geo_lexer.specs.declared.token_types.Fault.{Fault}
use Rattle.geo_place.specs.declared.errors.PlaceError.{PlaceError}
use Rattle.geo_place.specs.declared.placed.Placed.{Placed}
use Rattle.geo_place.specs.Placing.{AnswersValues, values_wanted}
use Rattle.geo_place.proofs.ValueLists.{values_are, values_of}
use Rattle.geo_program.specs.declared.program_type.Program.{Program}
use Rattle.geo_program.specs.Programs.{Spells, source_of}

-- a property of what is told goes over to what is called for
pub weaker : (P Q : Due → Type 0) → ((due : Due) → P due → Q due) → (r : Result Report NoMemory) → IfOk r (λ x. P (due_of x))
    → IfOk r (λ x. Q (due_of x))
weaker P Q more (Ok x) h = more (due_of x) h
weaker P Q more (Err e) h = tt

module _ (drawn : Bool) where
  module _ (values : List ℤ) (rest : List ℕ) where
    -- the rest spells a program
    pub program_told : (program : Program) → Spells rest program → (r : Result Report NoMemory)
        → IfOk r (λ x. IsValuesDue drawn program values (due_of x)) → IfOk r (λ x. IsRestDue drawn values rest (due_of x))
    program_told program spelt = weaker (IsValuesDue drawn program values) (IsRestDue drawn values rest) (λ due h. inr (program, spelt, h))

    -- it spells none
    pub fault_told : (fault : Fault) → SpellsNone rest fault → (before : ℕ) → before ≡ length (values_line values)
        → (r : Result Report NoMemory)
        → IfOk r (λ x. due_of x ≡ fault_due fault.refusal (before + fault.place)) → IfOk r (λ x. IsRestDue drawn values rest (due_of x))
    fault_told fault none before is =
        weaker (λ due. due ≡ fault_due fault.refusal (before + fault.place)) (IsRestDue drawn values rest)
        (λ due h. inl (fault, none, h ∙ ap (λ (n : ℕ). fault_due fault.refusal (n + fault.place)) is))

  module _ (program : Program) (values : List ℤ) where
    -- the program has so many values, and this is the answer
    pub answer_told : length values ≡ values_wanted (source_of program) → (got answer : Result Placed PlaceError) → got ≡ answer
        → ((v : ProgramValues) → length v.coordinates ≡ length (free_points 0 program.commands) → integers_of v ≡ values → AnswersValues (source_of program) v got)
        → (r : Result Report NoMemory) → IfOk r (λ x. TellsAnswer drawn answer (due_of x))
        → IfOk r (λ x. IsValuesDue drawn program values (due_of x))
    answer_told count got answer same gives =
        let v = values_of (source_of program) values in
        let are = values_are (source_of program) values count in
        weaker (TellsAnswer drawn answer) (IsValuesDue drawn program values)
        (λ due h. inr (record {
          count = count;
          v = v;
          frees = are.1;
          are = are.0;
          answer = answer;
          given = subst (λ (a : Result Placed PlaceError). AnswersValues (source_of program) v a) same (gives v are.1 are.0);
          is = h;
        }))
