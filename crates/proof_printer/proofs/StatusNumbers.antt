-- Verdicts are told by two numbers of their statuses.
use Rattle.std.proofs.Common.{◌≡◌, ℕ, ◌<◌, ◌≤◌, ◌^◌, List, refl, ap, arith}
use Rattle.proof_printer.specs.Status.{ending_status, refusal_status, status_at, status_number, verdict_status}
use Rattle.geo_logs.specs.Ends.{Ending, ends_by, ends_with, too_long}
use Rattle.geo_logs.specs.Judging.{Refusal, rejected, stopped}
use Rattle.geo_logs.specs.Moves.{spent, too_large}
use Rattle.geo_program.specs.WellFormed.{IsWellFormed, Source}
use Rattle.log_checker.specs.ProgramLogs.{IsLogOf}
use Rattle.log_checker.specs.Accepted.{Accepts}
use Rattle.log_checker.proofs.DefinedBytes.{defined_bytes_are_accepted}
use Rattle.proof_log.specs.declared.log.Line.{Line}
use Rattle.proof_log.specs.declared.log.Verdict.{Verdict}
use Rattle.proof_log.specs.declared.log.Verdict.TheVariants.{Proved, False, Impossible}
use Rattle.proof_log.specs.Lines.{log_text}

-- the number of a verdict is below 3
pub not_a_verdict : (v : Verdict) (n : ℕ) (P : Type 0) → n ≡ status_number (verdict_status v) → 3 ≤ n → P
not_a_verdict Proved n P is h = absurd (omega (arith, is, h))
not_a_verdict (False g) n P is h = absurd (omega (arith, is, h))
not_a_verdict (Impossible k) n P is h = absurd (omega (arith, is, h))

-- verdicts with the same numbers are the same
pub verdict_of_numbers : (v w : Verdict) → status_number (verdict_status v) ≡ status_number (verdict_status w)
    → status_at (verdict_status v) ≡ status_at (verdict_status w) → v ≡ w
verdict_of_numbers Proved Proved n at = refl
verdict_of_numbers Proved (False g) n at = absurd (omega (arith, n))
verdict_of_numbers Proved (Impossible k) n at = absurd (omega (arith, n))
verdict_of_numbers (False g) Proved n at = absurd (omega (arith, n))
verdict_of_numbers (False g) (False h) n at = ap False at
verdict_of_numbers (False g) (Impossible k) n at = absurd (omega (arith, n))
verdict_of_numbers (Impossible k) Proved n at = absurd (omega (arith, n))
verdict_of_numbers (Impossible k) (False g) n at = absurd (omega (arith, n))
verdict_of_numbers (Impossible k) (Impossible l) n at = ap Impossible at

-- an ending that is told by the numbers of a verdict is that verdict
pub ending_of_numbers : (verdict : Verdict) (lines : List Line) (ending : Ending)
    → status_number (ending_status lines ending) ≡ status_number (verdict_status verdict)
    → status_at (ending_status lines ending) ≡ status_at (verdict_status verdict) → (left : ℕ) × (ending ≡ ends_with verdict left)
ending_of_numbers verdict lines (ends_with v left) n at = (left, ap (λ x. ends_with x left) (verdict_of_numbers v verdict n at))
ending_of_numbers verdict lines (ends_by spent) n at = not_a_verdict verdict 7 _ n (omega arith)
ending_of_numbers verdict lines (ends_by (too_large which)) n at = not_a_verdict verdict 6 _ n (omega arith)
ending_of_numbers verdict lines too_long n at = not_a_verdict verdict 12 _ n (omega arith)

-- a refusal tells no verdict, and nothing that is written
pub refusal_number : (n : ℕ) (r : Refusal) → (3 ≤ status_number (refusal_status n r)) × (status_number (refusal_status n r) ≤ 12)
refusal_number n (rejected reason) = (omega arith, omega arith)
refusal_number n (stopped spent) = (omega arith, omega arith)
refusal_number n (stopped (too_large which)) = (omega arith, omega arith)

-- the text of a defined log that ends with a verdict is accepted with it
pub accepted_log : (p : Source) (steps left : ℕ) (lines : List Line) (verdict : Verdict) → IsWellFormed p → steps < 2 ^ 127
    → IsLogOf p steps lines (ends_with verdict left) → Accepts (log_text lines) steps p verdict
accepted_log p steps left lines verdict w small h =
    defined_bytes_are_accepted p h.subject steps left lines verdict w h.about small h.defined
