-- Bytes call for one log, for one text that tells an accepted log, and for one readable proof, at most.
use Rattle.std.proofs.Common.{◌≡◌, ℕ, List, [], ◌∷◌, ◌++◌, map, codes, sym, ap, ◌∙◌}
use Rattle.proof_printer.specs.declared.status.Status.TheVariants.{Done}
use Rattle.proof_printer.specs.Due.{Due, IsAcceptedDue, IsLogDue, IsReadableDue, conditions_text}
use Rattle.proof_printer.specs.Status.{ending_status, verdict_status}
use Rattle.geo_lowering.specs.declared.version.Version.TheVariants.{Two}
use Rattle.geo_conditions.specs.Lists.{AreConditionItems, Found, ItemForm, all_found, condition_item}
use Rattle.geo_conditions.proofs.Listings.{listed_once}
use Rattle.geo_conditions.proofs.SamePrograms.{same_programs_mean_the_same}
use Rattle.geo_logs.specs.Ends.{Ending}
use Rattle.geo_logs.proofs.OneList.{defined_log_unique}
use Rattle.elim_apply.specs.LemmaTable.{lemma_table}
use Rattle.geo_program.specs.CanonicalText.{line_text}
use Rattle.geo_program.specs.Programs.{source_of}
use Rattle.geo_program.specs.WellFormed.{IsWellFormed, Source}
use Rattle.geo_program.proofs.OneProgram.{spells_one}
use Rattle.geo_program.proofs.OneText.{same_lines, same_text}
use Rattle.log_checker.specs.ProgramLogs.{IsLogOf}
use Rattle.log_checker.specs.Subjects.{source_lines}
use Rattle.log_checker.proofs.AcceptedBytes.{accepted_bytes_tell_programs}
use Rattle.log_checker.proofs.OneSubject.{subjects_agree}
use Rattle.proof_log.specs.declared.log.Line.{Line}
use Rattle.proof_log.specs.Lines.{log_text, verdict_text}
use Rattle.proof_printer.proofs.OneProof.{readable_proof_is_unique}

-- programs with the same lines have one defined log
one_log : (p q : Source) (steps : ℕ) (lines other : List Line) (ending ending' : Ending) → IsWellFormed p → IsWellFormed q
    → source_lines p ≡ source_lines q → IsLogOf p steps lines ending → IsLogOf q steps other ending' → (lines ≡ other) × (ending ≡ ending')
one_log p q steps lines other ending ending' v w e h g =
    defined_log_unique lemma_table g.subject steps lines other ending ending'
    (subjects_agree.defined p q h.subject g.subject v w e h.about g.about (h.version ∙ sym g.version) steps lines ending h.defined)
    g.defined

-- bytes call for one log at most
pub one_log_due : (steps : ℕ) (bytes : List ℕ) (due other : Due) → IsLogDue steps bytes due → IsLogDue steps bytes other → due ≡ other
one_log_due steps bytes due other h g =
    let p = source_of h.program in
    let q = source_of g.program in
    let same : source_lines p ≡ source_lines q = ap (map line_text) (same_lines p q (spells_one bytes p q h.spelt g.spelt)) in
    let one = one_log p q steps h.lines g.lines h.ending g.ending h.spelt.well_formed g.spelt.well_formed same h.log g.log in
    h.is ∙ (λ i. record { text = log_text (one.0 i); status = ending_status (one.0 i) (one.1 i) }) ∙ sym g.is

-- a program has one list of conditions
one_conditions : (p : Source) (one other : List ItemForm) → AreConditionItems Two p one → AreConditionItems Two p other → one ≡ other
one_conditions p one other h g =
    let same = listed_once (λ (f : Found). f.condition) (all_found p) [] h.conditions g.conditions h.listed g.listed in
    h.written ∙ ap (map (condition_item Two p)) same ∙ sym g.written

-- an accepted log calls for one text
pub one_accepted_due : (steps : ℕ) (bytes : List ℕ) (due other : Due) → IsAcceptedDue steps bytes due → IsAcceptedDue steps bytes other
    → due ≡ other
one_accepted_due steps bytes due other h g =
    let told = accepted_bytes_tell_programs bytes steps steps h.program g.program h.verdict g.verdict h.accepted g.accepted in
    let text = same_text h.program g.program told.0 in
    let means = same_programs_mean_the_same h.program g.program told.0 in
    let conditions : h.conditions ≡ g.conditions =
    one_conditions g.program h.conditions g.conditions ((means.conditions Two h.conditions).0 h.listed) g.listed in
    h.is
    ∙ (λ i. record {
      text = text i ++ conditions_text 1 (conditions i) ++ codes "accepted " ++ verdict_text (told.1 i) ++ 10 ∷ [];
      status = verdict_status (told.1 i);
    })
    ∙ sym g.is

-- an accepted log calls for one proof
pub one_readable_due : (steps : ℕ) (bytes : List ℕ) (due other : Due) → IsReadableDue steps bytes due → IsReadableDue steps bytes other
    → due ≡ other
one_readable_due steps bytes due other h g =
    let same : h.text ≡ g.text = readable_proof_is_unique bytes steps steps h.text g.text h.readable g.readable in
    h.is ∙ (λ i. record { text = same i; status = Done }) ∙ sym g.is
