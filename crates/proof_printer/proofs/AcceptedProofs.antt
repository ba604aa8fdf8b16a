-- Accepted bytes can be printed, and what is printed is their readable proof.
use Rattle.std.proofs.Common.{◌≡◌, ℕ, ◌<◌, ◌^◌, List, [], refl, sym, subst, ◌∙◌, length}
use Rattle.geo_program.specs.WellFormed.{Source}
use Rattle.geo_terms.specs.Constructions.{Construction}
use Rattle.geo_terms.specs.TermBounds.{IsTermBelow}
use Rattle.geo_lowering.specs.Lowering.{IsLowered, LoweredForm}
use Rattle.proof_log.specs.declared.log.Line.{Line}
use Rattle.proof_log.specs.declared.log.Verdict.{Verdict}
use Rattle.proof_log.proofs.NoLineFeeds.{logs_told}
use Rattle.geo_logs.specs.Logs.{IsAccepted, Item, Subject}
use Rattle.elim_apply.specs.LemmaTable.{lemma_table}
use Rattle.log_checker.specs.Accepted.{Accepts, BytesMean}
use Rattle.log_checker.specs.Laws.{IsAcceptedLog}
use Rattle.log_checker.specs.Subjects.{IsSubjectOf}
use Rattle.log_checker.proofs.OneSubject.{subjects_agree}
use Rattle.log_checker.proofs.Places.{each_of}
use Rattle.log_checker.proofs.Realised.{conditions_named, goals_named}
use Rattle.log_checker.proofs.Verdicts.{parts_of}
use Rattle.proof_printer.specs.Naming.{Naming, naming_of}
use Rattle.proof_printer.specs.Readable.{readable}
use Rattle.proof_printer.specs.Proofs.{IsReadableProof}
use Rattle.proof_printer.specs.Inner.Printing.{CanPrintAll, IsConstructionOf, IsPrintable, IsPrinted}
use Rattle.proof_printer.proofs.PrintableLogs.{log_can}

module _ (p : Source) (form : LoweredForm) where
  -- the same subject over this lowered form
  over : Subject → Subject
  over subject = record { version = subject.version; program = subject.program; construction = form.construction; conditions = subject.conditions; goals = subject.goals }

  over_about : (subject : Subject) (s : IsSubjectOf p subject) → IsLowered s.version p form → IsSubjectOf p (over subject)
  unfolding over
  over_about subject s lowered = record {
    version = s.version;
    form = form;
    conditions = s.conditions;
    goals = s.goals;
    lowered = lowered;
    listed_conditions = s.listed_conditions;
    listed_goals = s.listed_goals;
    same_version = s.same_version;
    same_program = s.same_program;
    same_construction = refl;
    same_conditions = s.same_conditions;
    same_goals = s.same_goals;
  }

  -- the lines of an accepted log of the program can be printed
  lines_can : (steps : ℕ) (lines : List Line) (verdict : Verdict) → steps < 2 ^ 128 → (a : IsAcceptedLog p steps lines verdict) → IsLowered a.about.version p form
      → CanPrintAll form.construction [] lines
  unfolding over
  lines_can steps lines verdict few a lowered =
      let other = over a.subject in
      let about = over_about a.subject a.about lowered in
      let accepted : IsAccepted lemma_table other steps lines verdict a.left =
      subjects_agree.accepted p p a.subject other a.well_formed a.well_formed refl a.about about refl steps a.left lines verdict a.accepted in
      let parts = parts_of p other about in
      let below : Item → Type 0 = λ item. IsTermBelow (length form.construction.steps) form.construction.params item.term in
      log_can form.construction lowered.valid other.version other.program other.conditions other.goals steps lines accepted.rest verdict a.left
      (each_of below other.goals (λ i item at. (goals_named p other a.well_formed parts i item at).0))
      (each_of below other.conditions (λ i item at. (conditions_named p other a.well_formed parts i item at).0)) few accepted.split accepted.worked

-- accepted bytes can be printed
pub accepted_printable : (p : Source) (c : Construction) (bytes : List ℕ) (steps : ℕ) (verdict : Verdict) (a : Accepts bytes steps p verdict) → IsConstructionOf a.accepted.about.version p c
    → steps < 2 ^ 128 → IsPrintable c bytes
accepted_printable p c bytes steps verdict a of few = record {
  lines = a.lines;
  writable = a.writable;
  written = a.written;
  can = subst (λ (c : Construction). CanPrintAll c [] a.lines) (sym of.same) (lines_can p of.form steps a.lines verdict few a.accepted of.lowered);
}

-- and what is printed is their readable proof
pub printed_is_proof : (p : Source) (c : Construction) (n : Naming) (bytes text : List ℕ) (steps : ℕ) (verdict : Verdict) (a : Accepts bytes steps p verdict)
    → IsConstructionOf a.accepted.about.version p c → n ≡ naming_of a.accepted.about.version p → BytesMean bytes p verdict → IsPrinted n c bytes text → IsReadableProof bytes steps text
printed_is_proof p c n bytes text steps verdict a of named means printed = record {
  program = p;
  verdict = verdict;
  accepted = a;
  means = means;
  form = of.form;
  lowered = of.lowered;
  written =
      let lines = logs_told printed.lines a.lines printed.writable a.writable (sym printed.written ∙ a.written) in
      printed.printed ∙ (λ i. readable (named i) (of.same i) [] (lines i));
}
