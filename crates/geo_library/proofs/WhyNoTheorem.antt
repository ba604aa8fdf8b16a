-- Why the log of an input is no theorem.
use Rattle.std.proofs.Common.{◌≡◌, ◌≢◌, ℕ, zero, suc, ◌+◌, ◌<◌, true, false, All, inl, inr, length, take, slice_get, Some, List, [], ◌∷◌, refl, sym, subst, add-one, arith}
use Rattle.std.specs.Prelude.{slice_index_or}
use Rattle.std.specs.List.{AllByRecursion}
use Rattle.std.proofs.lemmas.List.Elements.{All-from_recursion, recursion_from_All}
use Rattle.geo_program.specs.declared.commands.Command.{Command}
use Rattle.geo_program.specs.declared.commands.Command.TheVariants.{Point}
use Rattle.geo_program.specs.Programs.{source_of}
use Rattle.geo_program.specs.WellFormed.{Source}
use Rattle.proof_log.specs.declared.log.Verdict.{Verdict}
use Rattle.proof_log.specs.declared.log.Verdict.TheVariants.{Proved}
use Rattle.log_checker.specs.Accepted.{Accepts}
use Rattle.log_checker.specs.Checked.{IsAnswer, TellsStop}
use Rattle.log_checker.specs.Judged.{Refuses}
use Rattle.log_checker.specs.declared.accepted.Accepted.{Accepted}
use Rattle.log_checker.specs.declared.errors.CheckError.{CheckError}
use Rattle.log_checker.specs.declared.errors.CheckError.TheVariants as check
use Rattle.geo_library.specs.declared.errors.CiteError.TheVariants as cite
use Rattle.geo_library.specs.CitedGoals.{has_lines}
use Rattle.geo_library.specs.Citations.{HasFirstLine, HasTheorem, IsLogRefused, IsUnproved}
use Rattle.geo_library.specs.Inner.Answers.{error_of_check}
use Rattle.geo_library.specs.Inputs.{BeginsWithLog}
use Rattle.geo_library.specs.Told.{TellsRefusal}

module _ (bytes log rest : List ℕ) (steps : ℕ) (b : BeginsWithLog bytes log rest) where
  -- a refusal of the checker
  pub check_told : (e : CheckError) → TellsStop (Refuses log steps) e → TellsRefusal bytes steps (error_of_check e)
  check_told (check.Rejected line reason) h = inl (h.0, h.1, record { log = log; rest = rest; begins = b; refuses = h.2 })
  check_told (check.TooLarge line which) h = inl (record { log = log; rest = rest; begins = b; refuses = h })
  check_told (check.Spent line) h = inl (record { log = log; rest = rest; begins = b; refuses = h })
  check_told check.NoMemory h = tt

  -- another verdict
  pub unproved_told : (a : Accepted) → IsAnswer log steps a → a.verdict ≢ Proved → TellsRefusal bytes steps (cite.Rejected a.lines 33)
  unproved_told a h n = inr (inl (
    refl,
    record {
      log = log;
      rest = rest;
      begins = b;
      program = source_of a.program;
      verdict = a.verdict;
      accepts = h.accepts;
      other = n;
      counted = h.counted;
    },
  ))

  abbrev theorem : (p : Source) (verdict : Verdict) → Accepts log steps p verdict → verdict ≡ Proved → HasTheorem bytes steps
  theorem p verdict a e = record { log = log; rest = rest; begins = b; program = p; accepts = subst (λ (v : Verdict). Accepts log steps p v) e a }

  -- a command that has lines
  pub line_told : (a : Accepted) (k : ℕ) (cs : List Command) → cs ≡ (source_of a.program).commands → IsAnswer log steps a → a.verdict ≡ Proved → k < length cs
      → has_lines (slice_index_or cs k Point) ≡ true → All (λ c. has_lines c ≡ false) (take k cs) → TellsRefusal bytes steps (cite.Rejected (k + 2) 34)
  line_told a k cs same h e below lines first = inr (inr (
    refl,
    record {
      theorem = theorem (source_of a.program) a.verdict h.accepts e;
      place = k;
      command = slice_index_or cs k Point;
      at = subst (λ (xs : List Command). slice_get xs k ≡ Some (slice_index_or cs k Point)) same (get_within cs k below);
      lines = lines;
      first = subst (λ (xs : List Command). All (λ c. has_lines c ≡ false) (take k xs)) same first;
      counted = refl;
    },
  ))
    where
      get_within : (cs : List Command) (k : ℕ) → k < length cs → slice_get cs k ≡ Some (slice_index_or cs k Point)
      get_within [] k below = absurd (omega (arith, below))
      get_within (c ∷ cs) zero below = refl
      get_within (c ∷ cs) (suc k) below = get_within cs k (omega (arith, below))

-- NO LINES
abbrev NoLines : List Command → Type 0
NoLines cs = AllByRecursion (λ c. has_lines c ≡ false) cs

one_more : (cs : List Command) (k : ℕ) → k < length cs → NoLines (take k cs) → has_lines (slice_index_or cs k Point) ≡ false → NoLines (take (suc k) cs)
one_more [] k b h e = absurd (omega (arith, b))
one_more (c ∷ cs) zero b h e = (e, tt)
one_more (c ∷ cs) (suc k) b h e = (h.0, one_more cs k (omega (arith, b)) h.1 e)

-- one command more has none
pub none_more : (cs : List Command) (k : ℕ) → k < length cs → All (λ c. has_lines c ≡ false) (take k cs) → has_lines (slice_index_or cs k Point) ≡ false
    → All (λ c. has_lines c ≡ false) (take (k + 1) cs)
none_more cs k b h e =
    subst (λ n. All (λ c. has_lines c ≡ false) (take n cs)) (sym (add-one k))
    (All-from_recursion (λ (c : Command). has_lines c ≡ false) (take (suc k) cs) (one_more cs k b (recursion_from_All (λ (c : Command). has_lines c ≡ false) (take k cs) h) e))
