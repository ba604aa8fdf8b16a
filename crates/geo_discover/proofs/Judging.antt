-- What a candidate's log says of it.
use Rattle.std.proofs.Common.{◌≡◌, ℕ, ◌<◌, ◌^◌, inl, inr, Option, Some, List, [], ◌∷◌, ◌++◌, map, refl, ap, subst, arith}
use Rattle.std.specs.List.{AllByRecursion}
use Rattle.geo_base.specs.Devices.{Grows, HasRisen}
use Rattle.geo_program.specs.declared.statements.Statement.{Statement}
use Rattle.geo_program.specs.Relations.{with_statement}
use Rattle.geo_program.specs.WellFormed.{IsWellFormed, Source}
use Rattle.geo_poly.specs.declared.limits.Which.{Which}
use Rattle.proof_log.specs.declared.log.Line.{Line}
use Rattle.proof_log.specs.declared.log.Verdict.{Verdict}
use Rattle.proof_log.specs.declared.log.Verdict.TheVariants.{False, Impossible, Proved}
use Rattle.proof_log.specs.Lines.{line_text, log_text}
use Rattle.proof_log.specs.Writable.{AllWritable, HasNoLineFeed}
use Rattle.proof_log.proofs.NoLineFeeds.{no_line_feed}
use Rattle.geo_logs.specs.Ends.{Ending, ends_by, ends_with, too_long}
use Rattle.geo_logs.specs.Logs.{Subject}
use Rattle.geo_logs.specs.Moves.{spent, too_large}
use Rattle.log_checker.proofs.WritableLines.{defined_logs_are_writable}
use Rattle.geo_chain.specs.declared.errors.ProveError.{ProveError}
use Rattle.geo_chain.specs.declared.errors.ProveError.TheVariants as stopped
use Rattle.log_checker.specs.ProgramLogs.{IsLogOf}
use Rattle.log_checker.specs.Subjects.{IsSubjectOf}
use Rattle.geo_chain.proofs.WholeLogs.{WritesDefined, WritesDefinedStop}
use Rattle.geo_discover.specs.declared.examining.Judgement.{Judgement}
use Rattle.geo_discover.specs.declared.examining.Judgement.TheVariants as judged
use Rattle.geo_discover.specs.FoundTexts.{Finding, IsFinding}
use Rattle.geo_discover.specs.Inner.Searching.{EndsSo, IsJudged, Tells, judgement_by}
use Rattle.log_checker.specs.Checkers.{with_feeds}

-- what a sink that was empty holds
pub held_is : (log text : List ℕ) → Grows (Some []) text (Some log) → log ≡ text
held_is log text g = let e : Some log ≡ Some text = g in cc

module _ (p q : Source) (s : Statement) (steps : ℕ) (same : q ≡ with_statement p s) where
  judged_by : (lines : List Line) (ending : Ending) (judgement : Judgement) → IsLogOf q steps lines ending
      → Tells (record { statement = s; lines = lines; ending = ending }) judgement → IsJudged p steps s judgement
  judged_by lines ending judgement log tells = record {
    finding = record { statement = s; lines = lines; ending = ending };
    own = refl;
    is = subst (λ (x : Source). IsLogOf x steps lines ending) same log;
    tells = tells;
  }

  -- the log ends with a verdict
  pub judged_verdict : (lines : List Line) (verdict : Verdict) (left : ℕ) (log : List ℕ) → IsLogOf q steps lines (ends_with verdict left)
      → log ≡ log_text lines → IsJudged p steps s (judgement_by verdict log)
  judged_verdict lines verdict left log h is = go verdict h
    where
      go : (v : Verdict) → IsLogOf q steps lines (ends_with v left) → IsJudged p steps s (judgement_by v log)
      go Proved l = judged_by lines (ends_with Proved left) (judged.Relation log) l (left, refl, is)
      go (False g) l = judged_by lines (ends_with (False g) left) judged.Fails l (g, left, refl)
      go (Impossible k) l = judged_by lines (ends_with (Impossible k) left) (judged.Impossible k) l (left, refl)

  -- or by a stop, or its text gets too long
  module _ (subject : Subject) (own : IsSubjectOf q subject) (two : subject.version ≡ 2) (h k : Option (List ℕ)) where
    opened_by : (e : ProveError) (ending : Ending) (d : WritesDefined subject steps h k ending)
        → EndsSo (record { statement = s; lines = d.lines; ending = ending }) e → IsJudged p steps s (judged.Open e)
    opened_by e ending d ends =
        judged_by d.lines ending (judged.Open e) (record { subject = subject; about = own; version = two; defined = d.defined }) ends

    pub judged_error : (e : ProveError) → ((line : ℕ) → e ≡ stopped.Spent line → WritesDefinedStop subject steps h k spent line)
        → ((line : ℕ) (which : Which) → e ≡ stopped.TooLarge line which → WritesDefinedStop subject steps h k (too_large which) line)
        → (e ≡ stopped.TooLong → WritesDefined subject steps h k too_long) → (e ≡ stopped.WriteFault → ⊥) → (e ≡ stopped.NoMemory → ⊥)
        → IsJudged p steps s (judged.Open e)
    judged_error (stopped.Spent line) a b d f n =
        let at = a line refl in opened_by (stopped.Spent line) (ends_by spent) at.whole (refl, at.last)
    judged_error (stopped.TooLarge line which) a b d f n =
        let at = b line which refl in opened_by (stopped.TooLarge line which) (ends_by (too_large which)) at.whole (refl, at.last)
    judged_error stopped.TooLong a b d f n = opened_by stopped.TooLong too_long (d refl) refl
    judged_error stopped.WriteFault a b d f n = absurd (f refl)
    judged_error stopped.NoMemory a b d f n = absurd (n refl)

-- LINES
-- the lines of a log have no line feed
pub one_line_each : (lines : List Line) → AllWritable lines → AllByRecursion HasNoLineFeed (map line_text lines)
one_line_each [] h = tt
one_line_each (l ∷ ls) h = (no_line_feed l h.0, one_line_each ls h.1)

pub finding_lines : (p : Source) (steps : ℕ) (f : Finding) → IsWellFormed (with_statement p f.statement) → steps < 2 ^ 127 → IsFinding p steps f
    → AllByRecursion HasNoLineFeed (map line_text f.lines)
finding_lines p steps f w small is =
    one_line_each f.lines
    (defined_logs_are_writable (with_statement p f.statement) is.subject steps f.lines f.ending w is.about small is.defined)

-- a log's text is that of its lines
pub log_lines : (lines : List Line) → log_text lines ≡ with_feeds (map line_text lines)
log_lines [] = refl
log_lines (l ∷ ls) = ap (λ (text : List ℕ). (line_text l ++ 10 ∷ []) ++ text) (log_lines ls)

-- a count that stays at 0 has not risen
pub no_rise : HasRisen 0 0 → ⊥
no_rise (inl h) = omega (arith, h)
no_rise (inr h) = let f : ⊥ = omega (arith, h) in f
