-- An input that comes to the asking has one outcome.
use Rattle.std.proofs.Common.{◌≡◌, ℕ, length, map, List, [], ◌∷◌, ◌++◌, refl, sym, ◌∙◌, ap, subst, subst₂}
use Rattle.geo_program.specs.declared.names.Name.{Name}
use Rattle.geo_program.specs.FormTexts.{form_text}
use Rattle.geo_program.specs.Spelling.{SameSource, SpellsSource}
use Rattle.geo_program.specs.WellFormed.{Source}
use Rattle.geo_program.proofs.OneProgram.{spells_one}
use Rattle.elim_apply.specs.LemmaTable.{lemma_table}
use Rattle.proof_log.specs.declared.log.Line.{Line}
use Rattle.proof_log.specs.declared.log.Line.TheVariants.{Header, Program as ProgramLine}
use Rattle.proof_log.specs.declared.log.Verdict.TheVariants.{Proved}
use Rattle.proof_log.proofs.NoLineFeeds.{logs_told}
use Rattle.geo_logs.specs.Logs.{IsAccepted}
use Rattle.log_checker.specs.Accepted.{Accepts}
use Rattle.log_checker.proofs.AcceptedBytes.{accepted_bytes_tell_programs, conditions_first, same_beginning}
use Rattle.log_checker.proofs.OneSubject.{subjects_agree}
use Rattle.geo_library.specs.Citations.{HasParts, HasTheorem, IsCitation, Misses, asked_in, behind_log}
use Rattle.geo_library.specs.Exactly.{AcceptedBytesLeaveOneNumber, CitedOrMissed}
use Rattle.geo_library.specs.Figures.{Figure, IsFigureOf}
use Rattle.geo_library.specs.Instances.{AskedAt, all_asked, statement_text}
use Rattle.geo_library.specs.Renamings.{IsRenaming, Renaming, given_names}
use Rattle.geo_library.specs.Working.{ArePassed, IsFirstMiss, Miss, Progress}
use Rattle.geo_library.proofs.AskedAlike.{same_programs_ask_the_same}
use Rattle.geo_library.proofs.Cutting.{inputs_begin_with_one_log, names_are_read_in_one_way, renamings_are_unique}
use Rattle.geo_library.proofs.FiguresAlike.{figures_agree}
use Rattle.geo_library.proofs.LemmaZero.{looks_at_no_point}
use Rattle.geo_library.proofs.OneLeft.{accepted_logs_leave_one_number}
use Rattle.geo_library.proofs.Outcomes.{one_outcome}

-- THE LOG
pub accepted_bytes_leave_one_number : AcceptedBytesLeaveOneNumber
accepted_bytes_leave_one_number bytes steps p q a b =
    let log = a.accepted.accepted in let other = b.accepted.accepted in
    let same : a.lines ≡ b.lines = logs_told a.lines b.lines a.writable b.writable (sym a.written ∙ b.written) in
    let first = conditions_first _ _ a.accepted.subject.goals [] [] 1 steps a.accepted.subject.conditions log.rest Proved a.accepted.left log.worked in
    let second = conditions_first _ _ b.accepted.subject.goals [] [] 1 steps b.accepted.subject.conditions other.rest Proved b.accepted.left other.worked in
    let whole : ◌≡◌ {A = List Line} (Header a.accepted.subject.version ∷ (map ProgramLine a.accepted.subject.program ++ log.rest))
    (Header b.accepted.subject.version ∷ (map ProgramLine b.accepted.subject.program ++ other.rest)) =
    sym log.split ∙ same ∙ other.split in
    let header : Header a.accepted.subject.version ≡ Header b.accepted.subject.version = cc in
    let version : a.accepted.subject.version ≡ b.accepted.subject.version = cc in
    let tail : map ProgramLine a.accepted.subject.program ++ log.rest ≡ map ProgramLine b.accepted.subject.program ++ other.rest = cc in
    let parts = same_beginning a.accepted.subject.program b.accepted.subject.program log.rest other.rest tail first.0 second.0 in
    let lines = sym a.accepted.about.same_program ∙ parts.0 ∙ b.accepted.about.same_program in
    let moved : IsAccepted lemma_table b.accepted.subject steps a.lines Proved a.accepted.left =
    subjects_agree.accepted p q a.accepted.subject b.accepted.subject a.accepted.well_formed b.accepted.well_formed lines a.accepted.about
    b.accepted.about version steps a.accepted.left a.lines Proved log in (
      same,
      accepted_logs_leave_one_number lemma_table b.accepted.subject steps a.accepted.left b.accepted.left b.lines Proved (looks_at_no_point b.accepted.subject.construction)
          (subst (λ (ls : List Line). IsAccepted lemma_table b.accepted.subject steps ls Proved a.accepted.left) same moved) other,
    )

-- TWO READINGS OF ONE INPUT
module _ (bytes : List ℕ) (steps : ℕ) (one other : HasParts bytes steps) where
  abbrev p : Source
  p = one.theorem.program

  abbrev p' : Source
  p' = other.theorem.program

  abbrev q : Source
  q = one.case.program

  abbrev q' : Source
  q' = other.case.program

  cut : (one.theorem.log ≡ other.theorem.log) × (one.theorem.rest ≡ other.theorem.rest)
  cut = inputs_begin_with_one_log bytes one.theorem.log one.theorem.rest other.theorem.log other.theorem.rest one.theorem.begins other.theorem.begins

  -- two acceptances, over logs that are the same
  logs_alike : (log log' : List ℕ) → log ≡ log' → (a : Accepts log steps p Proved) (b : Accepts log' steps p' Proved) → SameSource p p' × (a.lines ≡ b.lines) × (a.accepted.left ≡ b.accepted.left)
  logs_alike log log' e a b =
      let moved : Accepts log' steps p Proved = record { lines = a.lines; writable = a.writable; written = sym e ∙ a.written; accepted = a.accepted } in
      let found = accepted_bytes_leave_one_number log' steps p p' moved b in
      ((accepted_bytes_tell_programs log' steps steps p p' Proved Proved moved b).0, found.0, found.1)

  logs : SameSource p p' × (one.theorem.accepts.lines ≡ other.theorem.accepts.lines) × (one.theorem.accepts.accepted.left ≡ other.theorem.accepts.accepted.left)
  logs = logs_alike one.theorem.log other.theorem.log cut.0 one.theorem.accepts other.theorem.accepts

  now : behind_log one.theorem ≡ behind_log other.theorem
  now = λ i. record { lines = length (logs.1 i); left = logs.2 i }

  names : (one.case.texts ≡ other.case.texts) × (one.case.written ≡ other.case.written)
  names = names_are_read_in_one_way other.theorem.rest one.case.texts other.case.texts one.case.written other.case.written
      (record { words = one.case.named.words; split = sym cut.1 ∙ one.case.named.split }) other.case.named

  cases : SameSource q q'
  cases = spells_one other.case.written q q' (subst (λ (bs : List ℕ). SpellsSource bs q) names.1 one.case.spelt) other.case.spelt

  renamings : one.renaming ≡ other.renaming
  renamings =
      let moved : IsRenaming p'.names q'.names other.case.texts one.renaming =
      subst (λ (ts : List (List ℕ)). IsRenaming p'.names q'.names ts one.renaming) names.0
      (subst₂ (λ (xs ys : List Name). IsRenaming xs ys one.case.texts one.renaming) logs.0.names cases.names one.renames) in
      renamings_are_unique p'.names q'.names other.case.texts one.renaming other.renaming other.case.spelt.well_formed.differ moved other.renames

  asked : asked_in one ≡ asked_in other
  asked =
      same_programs_ask_the_same p p' one.case.texts one.renaming logs.0
      ∙ (λ i. all_asked (given_names p'.names (names.0 i)) (renamings i) p')

  texts : statement_text q ≡ statement_text q'
  texts = λ i. form_text (cases.names i) (cases.statement i)

  passed : (end : Progress) → ArePassed q one.figure (behind_log one.theorem) (asked_in one) end → ArePassed q' other.figure (behind_log other.theorem) (asked_in other) end
  passed end h =
      subst₂ (λ (n : Progress) (xs : List AskedAt). ArePassed q' other.figure n xs end) now asked
      (figures_agree.passed q q' one.figure other.figure (behind_log one.theorem) end (asked_in one) cases one.drawn other.drawn h)

  missed : (miss : Miss) → IsFirstMiss q one.figure (behind_log one.theorem) (asked_in one) miss → IsFirstMiss q' other.figure (behind_log other.theorem) (asked_in other) miss
  missed miss h =
      subst₂ (λ (n : Progress) (xs : List AskedAt). IsFirstMiss q' other.figure n xs miss) now asked
      (figures_agree.missed q q' one.figure other.figure (behind_log one.theorem) (asked_in one) miss cases one.drawn other.drawn h)

pub cited_or_missed : CitedOrMissed
cited_or_missed = record {
  cited = λ bytes steps one other a b. a.cited ∙ texts bytes steps a.parts b.parts ∙ sym b.cited;
  not_both = λ bytes steps text miss a b.
      let h = b.parts in
      one_outcome.not_both h.case.program h.figure (behind_log h.theorem) a.end (asked_in h) miss (passed bytes steps a.parts h a.end a.passed) b.first;
  missed = λ bytes steps one other a b.
      let h = b.parts in
      one_outcome.missed h.case.program h.figure (behind_log h.theorem) (asked_in h) one other (missed bytes steps a.parts h one a.first) b.first;
}
