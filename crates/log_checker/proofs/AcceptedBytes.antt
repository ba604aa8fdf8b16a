-- Accepted logs as bytes.
use Rattle.std.proofs.Common.{◌≡◌, ℕ, suc, inl, inr, List, [], ◌∷◌, ◌++◌, map, refl, sym, ◌∙◌, ap, ap₂, subst}
use Rattle.std.specs.List.{flat_map}
use Rattle.std.proofs.lemmas.List.Folds.{flat_map-map}
use Rattle.geo_poly.specs.declared.variables.Var.{Var}
use Rattle.geo_poly.specs.Polynomials.{Summands}
use Rattle.geo_program.specs.CanonicalText.{canonical_text, line_lexemes, line_text, no_sketches}
use Rattle.geo_program.specs.Spelling.{SameSource, SpellsSource}
use Rattle.geo_program.specs.WellFormed.{IsWellFormed, Source}
use Rattle.geo_program.proofs.LinesSpelt.{well_formed_is_spelt}
use Rattle.geo_program.proofs.OneProgram.{spells_one}
use Rattle.geo_lowering.proofs.Existing.{programs_have_lowered_forms}
use Rattle.geo_conditions.specs.Lists.{condition_item, goal_item}
use Rattle.geo_conditions.proofs.Decisions.{lists_exist}
use Rattle.proof_log.specs.declared.log.Line.{Line}
use Rattle.proof_log.specs.declared.log.Line.TheVariants.{Header, Program as ProgramLine, Condition, Goal, Verdict as VerdictLine}
use Rattle.proof_log.specs.declared.log.Verdict.{Verdict}
use Rattle.proof_log.specs.declared.log.Verdict.TheVariants.{Proved, False, Impossible}
use Rattle.proof_log.proofs.NoLineFeeds.{logs_told}
use Rattle.geo_logs.specs.Chains.{chain_lines}
use Rattle.geo_logs.specs.Logs.{AreConditionsWorked, AreGoalsWorked, Chains, Item, Samples, known_by}
use Rattle.log_checker.specs.Accepted.{AcceptedBytesMean, AcceptedBytesTellPrograms, ProgramsHaveDefinedLogs, ProgramsHaveSubjects}
use Rattle.log_checker.specs.Subjects.{version_number, log_item, source_lines}
use Rattle.log_checker.proofs.PrintedValues.{accepted_values}
use Rattle.log_checker.proofs.Realised.{accepted_samples_are_met}
use Rattle.log_checker.proofs.ThreeVerdicts.{false_breaks, impossible_is_never_met, proved_is_true}
use Rattle.log_checker.proofs.Reached.{defined_log_exists}

-- WHAT THEY MEAN
pub accepted_bytes_mean : AcceptedBytesMean
accepted_bytes_mean bytes steps p Proved a =
    let met = accepted_samples_are_met p steps a.lines Proved a.accepted tt in (
      proved_is_true p steps a.lines a.accepted,
      (met.0, accepted_values bytes steps p Proved met.0 a met.1, met.2),
    )
accepted_bytes_mean bytes steps p (False g) a =
    let broken = false_breaks p steps g a.lines a.accepted in
    let breaks = broken.2 in (
      broken.0,
      accepted_values bytes steps p (False g) broken.0 a broken.1,
      record { placed = breaks.placed; has = breaks.has; meets = breaks.meets; unique = breaks.unique },
      breaks,
      broken.3,
    )
accepted_bytes_mean bytes steps p (Impossible k) a = impossible_is_never_met p steps k a.lines a.accepted

-- THE LINES OF THE PROGRAM
-- the first line is none of a program
abbrev pub NoProgramFirst : List Line → Type 0
NoProgramFirst (ProgramLine text ∷ lines) = ⊥
NoProgramFirst _ = Unit {0}

-- the last line
abbrev pub EndsIn : List Line → Line → Type 0
EndsIn [] l = ⊥
EndsIn (x ∷ []) l = x ≡ l
EndsIn (x ∷ y ∷ xs) l = EndsIn (y ∷ xs) l

one_more : (x : Line) (xs : List Line) (l : Line) → EndsIn xs l → EndsIn (x ∷ xs) l
one_more x [] l h = absurd h
one_more x (y ∷ xs) l h = h

pub in_front : (xs ys : List Line) (l : Line) → EndsIn ys l → EndsIn (xs ++ ys) l
in_front [] ys l h = h
in_front (x ∷ xs) ys l h = one_more x (xs ++ ys) l (in_front xs ys l h)

one_end : (xs : List Line) (l m : Line) → EndsIn xs l → EndsIn xs m → l ≡ m
one_end [] l m h g = absurd h
one_end (x ∷ []) l m h g = sym h ∙ g
one_end (x ∷ y ∷ xs) l m h g = one_end (y ∷ xs) l m h g

module _ (Works : Chains) (IsChosen : Samples) where
  goals_first : (known : List Var) (listed : List Summands) (k left : ℕ) (items : List Item) (lines : List Line) (verdict : Verdict) (left' : ℕ)
      → AreGoalsWorked Works IsChosen known listed k left items lines verdict left' → NoProgramFirst lines × EndsIn lines (VerdictLine verdict)
  goals_first known listed k left [] lines verdict left' h =
      (subst NoProgramFirst (sym h.1.split) tt, subst (λ ls. EndsIn ls (VerdictLine verdict)) (sym h.1.split) (ap (λ v. VerdictLine v) (sym h.0)))
  goals_first known listed k left (item ∷ items) lines verdict left' (first, inl h) =
      let rest = goals_first known listed (suc k) first.after items first.rest verdict left' h.1 in (
        subst NoProgramFirst (sym first.split) tt,
        subst (λ ls. EndsIn ls (VerdictLine verdict)) (sym first.split)
            (in_front (chain_lines (Goal k item.text) item.term first.chain) first.rest (VerdictLine verdict) rest.1),
      )
  goals_first known listed k left (item ∷ items) lines verdict left' (first, inr h) =
      let rest : EndsIn first.rest (VerdictLine verdict) = subst (λ ls. EndsIn ls (VerdictLine verdict)) (sym h.2.split) (ap (λ v. VerdictLine v) (sym h.1)) in (
        subst NoProgramFirst (sym first.split) tt,
        subst (λ ls. EndsIn ls (VerdictLine verdict)) (sym first.split)
            (in_front (chain_lines (Goal k item.text) item.term first.chain) first.rest (VerdictLine verdict) rest),
      )

  pub conditions_first : (goals : List Item) (known : List Var) (listed : List Summands) (k left : ℕ) (items : List Item) (lines : List Line) (verdict : Verdict) (left' : ℕ)
      → AreConditionsWorked Works IsChosen goals known listed k left items lines verdict left' → NoProgramFirst lines × EndsIn lines (VerdictLine verdict)
  conditions_first goals known listed k left [] lines verdict left' h = goals_first known listed 1 left goals lines verdict left' h
  conditions_first goals known listed k left (item ∷ items) lines verdict left' (first, inl h) =
      let rest : EndsIn first.rest (VerdictLine verdict) = subst (λ ls. EndsIn ls (VerdictLine verdict)) (sym h.2) (ap (λ v. VerdictLine v) (sym h.1)) in (
        subst NoProgramFirst (sym first.split) tt,
        subst (λ ls. EndsIn ls (VerdictLine verdict)) (sym first.split)
            (in_front (chain_lines (Condition k item.text) item.term first.chain) first.rest (VerdictLine verdict) rest),
      )
  conditions_first goals known listed k left (item ∷ items) lines verdict left' (first, inr h) =
      let rest = conditions_first goals (known ++ known_by (item ∷ [])) (listed ++ first.chain.end ∷ []) (suc k) first.after items first.rest verdict left' h.1 in (
        subst NoProgramFirst (sym first.split) tt,
        subst (λ ls. EndsIn ls (VerdictLine verdict)) (sym first.split)
            (in_front (chain_lines (Condition k item.text) item.term first.chain) first.rest (VerdictLine verdict) rest.1),
      )

-- two beginnings of program lines are the same where no program line follows
pub same_beginning : (xs ys : List (List ℕ)) (r s : List Line) → map ProgramLine xs ++ r ≡ map ProgramLine ys ++ s → NoProgramFirst r → NoProgramFirst s → (xs ≡ ys) × (r ≡ s)
same_beginning [] [] r s e n m = (refl, e)
same_beginning [] (y ∷ ys) r s e n m = absurd (subst NoProgramFirst e n)
same_beginning (x ∷ xs) [] r s e n m = absurd (subst NoProgramFirst (sym e) m)
same_beginning (x ∷ xs) (y ∷ ys) r s e n m =
    let q : ◌≡◌ {A = List Line} (ProgramLine x ∷ (map ProgramLine xs ++ r)) (ProgramLine y ∷ (map ProgramLine ys ++ s)) = e in
    let line : ProgramLine x ≡ ProgramLine y = cc in
    let text : x ≡ y = cc in
    let rest : map ProgramLine xs ++ r ≡ map ProgramLine ys ++ s = cc in
    let more = same_beginning xs ys r s rest n m in
    (ap₂ (λ (z : List ℕ) (zs : List (List ℕ)). z ∷ zs) text more.0, more.1)

-- ONE PROGRAM
pub text_of_lines : (p : Source) → flat_map (λ (line : List ℕ). line ++ 10 ∷ []) (source_lines p) ≡ canonical_text p
text_of_lines p = flat_map-map (λ (line : List ℕ). line ++ 10 ∷ []) line_text (line_lexemes (no_sketches p.commands) p)

pub same_lines_same_text : (p q : Source) → source_lines p ≡ source_lines q → canonical_text p ≡ canonical_text q
same_lines_same_text p q e = sym (text_of_lines p) ∙ ap (flat_map (λ (line : List ℕ). line ++ 10 ∷ [])) e ∙ text_of_lines q

pub same_lines_same_program : (p q : Source) → IsWellFormed p → IsWellFormed q → source_lines p ≡ source_lines q → SameSource p q
same_lines_same_program p q v w e =
    spells_one (canonical_text q) p q (subst (λ t. SpellsSource t p) (same_lines_same_text p q e) (well_formed_is_spelt p v)) (well_formed_is_spelt q w)

pub accepted_bytes_tell_programs : AcceptedBytesTellPrograms
accepted_bytes_tell_programs bytes steps steps' p q verdict verdict' a b =
    let log = a.accepted.accepted in
    let other = b.accepted.accepted in
    let same : a.lines ≡ b.lines = logs_told a.lines b.lines a.writable b.writable (sym a.written ∙ b.written) in
    let first = conditions_first _ _ a.accepted.subject.goals [] [] 1 steps a.accepted.subject.conditions log.rest verdict a.accepted.left log.worked in
    let second = conditions_first _ _ b.accepted.subject.goals [] [] 1 steps' b.accepted.subject.conditions other.rest verdict' b.accepted.left other.worked in
    let whole : ◌≡◌ {A = List Line} (Header a.accepted.subject.version ∷ (map ProgramLine a.accepted.subject.program ++ log.rest))
    (Header b.accepted.subject.version ∷ (map ProgramLine b.accepted.subject.program ++ other.rest)) =
    sym log.split ∙ same ∙ other.split in
    let header : Header a.accepted.subject.version ≡ Header b.accepted.subject.version = cc in
    let version : a.accepted.subject.version ≡ b.accepted.subject.version = cc in
    let tail : map ProgramLine a.accepted.subject.program ++ log.rest ≡ map ProgramLine b.accepted.subject.program ++ other.rest = cc in
    let parts = same_beginning a.accepted.subject.program b.accepted.subject.program log.rest other.rest tail first.0 second.0 in
    let lines = sym a.accepted.about.same_program ∙ parts.0 ∙ b.accepted.about.same_program in
    let last : VerdictLine verdict ≡ VerdictLine verdict' = one_end other.rest (VerdictLine verdict) (VerdictLine verdict')
    (subst (λ ls. EndsIn ls (VerdictLine verdict)) parts.1 first.1) second.1 in (
      same_lines_same_program p q a.accepted.well_formed b.accepted.well_formed lines,
      (let verdicts : verdict ≡ verdict' = cc in verdicts),
      version,
    )

-- WHAT EACH PROGRAM HAS
pub programs_have_subjects : ProgramsHaveSubjects
programs_have_subjects version p s =
    let l = programs_have_lowered_forms version p s.well_formed s.short in
    let conditions = lists_exist.conditions p in
    let goals = lists_exist.goals p in (
      record {
        version = version_number version;
        program = source_lines p;
        construction = l.0.construction;
        conditions = map log_item (map (condition_item version p) conditions.0);
        goals = map log_item (map (goal_item version p) goals.0);
      },
      record {
        version = version;
        form = l.0;
        conditions = map (condition_item version p) conditions.0;
        goals = map (goal_item version p) goals.0;
        lowered = l.1;
        listed_conditions = record { conditions = conditions.0; listed = conditions.1; written = refl };
        listed_goals = record { goals = goals.0; listed = goals.1; written = refl };
        same_version = refl;
        same_program = refl;
        same_construction = refl;
        same_conditions = refl;
        same_goals = refl;
      },
      refl,
    )

pub programs_have_defined_logs : ProgramsHaveDefinedLogs
programs_have_defined_logs version p steps s =
    let found = programs_have_subjects version p s in
    (found.0, found.1, found.2, defined_log_exists p found.0 steps s.well_formed found.1)
