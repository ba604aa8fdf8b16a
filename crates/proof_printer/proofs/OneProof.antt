-- Bytes have one readable proof.
use Rattle.std.proofs.Common.{◌≡◌, List, [], ◌∷◌, ◌++◌, refl, sym, ap, ap₂, subst, ◌∙◌, codes}
use Rattle.geo_poly.specs.Polynomials.{Summands}
use Rattle.geo_terms.specs.Constructions.{Construction}
use Rattle.geo_program.specs.Names.{names_of}
use Rattle.geo_program.specs.Spelling.{SameSource}
use Rattle.geo_program.specs.WellFormed.{Source}
use Rattle.geo_program.specs.declared.names.NameKind.TheVariants as kind
use Rattle.geo_lowering.specs.Counting.{param_places}
use Rattle.geo_lowering.specs.Lowering.{IsLowered, LoweredForm, point_places}
use Rattle.geo_lowering.specs.declared.version.Version.{Version}
use Rattle.geo_lowering.proofs.Alike.{lowered_forms_agree, same_programs_lower_alike}
use Rattle.proof_log.specs.declared.log.Line.{Line}
use Rattle.proof_log.specs.declared.log.Line.TheVariants.{Header, Program, Condition, Goal, Start, Ratio, Point, Coords, Cut, End, Sample, Verdict, StopTooLarge, StopSpent}
use Rattle.proof_log.proofs.NoLineFeeds.{logs_told}
use Rattle.geo_logs.specs.declared.moves.Move.{Move}
use Rattle.geo_logs.specs.declared.moves.Move.TheVariants as move
use Rattle.log_checker.proofs.AcceptedBytes.{accepted_bytes_tell_programs}
use Rattle.log_checker.proofs.AlikeSteps.{AlikeConstructions, replacement_same}
use Rattle.log_checker.proofs.VersionNumbers.{one_version}
use Rattle.proof_printer.specs.Naming.{Naming, name_or_number, naming_of}
use Rattle.proof_printer.specs.Proofs.{ReadableProofIsUnique}
use Rattle.proof_printer.specs.Readable.{lines_of, move_lines, polynomial_after, ratio_move, readable, replacement_lines}

-- CONSTRUCTIONS WITH THE SAME STEPS
module _ (n : Naming) (c d : Construction) (h : AlikeConstructions c d) where
  moves_same : (before : Summands) (mv : Move) (q : Summands) → move_lines n c before mv q ≡ move_lines n d before mv q
  moves_same before mv q = ap (λ made. replacement_lines n made q) (replacement_same c d h mv before)

  line_same : (before : Summands) (line : Line) → lines_of n c before line ≡ lines_of n d before line
  line_same before (Header version) = refl
  line_same before (Program text) = refl
  line_same before (Condition k text) = refl
  line_same before (Goal k text) = refl
  line_same before (Start q) = refl
  line_same before (Ratio v lemma at q) = moves_same before (ratio_move v lemma at) q
  line_same before (Point at q) = moves_same before (move.Point at) q
  line_same before (Coords q) = moves_same before move.Coords q
  line_same before (Cut by q) = refl
  line_same before End = refl
  line_same before (Sample values) = refl
  line_same before (Verdict verdict) = refl
  line_same before (StopTooLarge line which) = refl
  line_same before (StopSpent line) = refl

  readable_same : (before : Summands) (lines : List Line) → readable n c before lines ≡ readable n d before lines
  readable_same before [] = refl
  readable_same before (line ∷ lines) = ap₂ (λ l m. l ++ m) (line_same before line) (readable_same (polynomial_after before line) lines)

-- PROGRAMS THAT ARE THE SAME
module _ (version : Version) (p q : Source) (same : SameSource p q) (form : LoweredForm) (lowered : IsLowered version p form) where
  also : IsLowered version q form
  also = same_programs_lower_alike version p q form same lowered

  naming_same : naming_of version p ≡ naming_of version q
  naming_same =
      let points : point_places version 0 p.commands ≡ point_places version 0 q.commands = sym lowered.points ∙ also.points in
      let params : param_places 0 p.commands ≡ param_places 0 q.commands = sym lowered.params ∙ also.params in
      λ i. record {
        point = name_or_number (codes "#") (points i) (names_of kind.Point (same.names i));
        param = name_or_number (codes "#t") (params i) (names_of kind.Param (same.names i));
      }

pub readable_proof_is_unique : ReadableProofIsUnique
readable_proof_is_unique bytes steps steps' text text' a b =
    let p = a.program in
    let q = b.program in
    let told = accepted_bytes_tell_programs bytes steps steps' p q a.verdict b.verdict a.accepted b.accepted in
    let same = told.0 in
    let v = a.accepted.accepted.about.version in
    let version : b.accepted.accepted.about.version ≡ v =
    one_version b.accepted.accepted.about.version v (sym b.accepted.accepted.about.same_version ∙ sym told.2 ∙ a.accepted.accepted.about.same_version) in
    let other : IsLowered v q b.form = subst (λ (x : Version). IsLowered x q b.form) version b.lowered in
    let forms = lowered_forms_agree v q a.form b.form (also v p q same a.form a.lowered) other in
    let alike : AlikeConstructions a.form.construction b.form.construction = record { steps = forms.steps; params = forms.numbers } in
    let names = naming_same v p q same a.form a.lowered in
    let lines = logs_told a.accepted.lines b.accepted.lines a.accepted.writable b.accepted.writable (sym a.accepted.written ∙ b.accepted.written) in
    a.written ∙ readable_same (naming_of v p) a.form.construction b.form.construction alike [] a.accepted.lines
    ∙ (λ i. readable (names i) b.form.construction [] (lines i))
    ∙ ap (λ (x : Version). readable (naming_of x q) b.form.construction [] b.accepted.lines) (sym version) ∙ sym b.written
