-- A run that answers that a line of the cited program asks what is not so.
use Rattle.std.proofs.Common.{◌≡◌, ℕ, ◌<◌, List, Option, sym, ◌∙◌, ap, subst, arith}
use Rattle.proof_printer.specs.declared.status.Status.{Status}
use Rattle.proof_printer.specs.declared.status.Status.TheVariants as status
use Rattle.proof_printer.specs.Due.{Due}
use Rattle.proof_printer.specs.Status.{status_number}
use Rattle.geo_cli.specs.Due.{TellsUncited}
use Rattle.geo_cli.specs.Input.{IsInput, log_limit}
use Rattle.geo_cli.specs.Run.{CitesNone}
use Rattle.geo_cli.specs.Words.{IsCite}
use Rattle.geo_cli.proofs.Ended.{differ}
use Rattle.geo_library.specs.declared.errors.CiteError.{CiteError}
use Rattle.geo_library.specs.declared.errors.CiteError.TheVariants as citing
use Rattle.geo_library.specs.Citations.{Misses}
use Rattle.geo_library.specs.Told.{TellsRefusal}
use Rattle.geo_library.specs.Working.{no_instance}

same_line : (j k : ℕ) → status.NotInstance j ≡ status.NotInstance k → j ≡ k
same_line j k e = ap number e
  where
    number : Status → ℕ
    number (status.NotInstance i) = i
    number other = j

-- no status of a number below 16 tells it
pub not_missed : (line : ℕ) (s : Status) (P : Type 0) → s ≡ status.NotInstance line → status_number s < 16 → P
not_missed line s P is low = differ s (status.NotInstance line) P is (λ e. omega (arith, e, low))

module _ (words : List (List ℕ)) (left left' : Option (List ℕ)) (line : ℕ) where
  low_missed : (due other : Due) (P : Type 0) → due ≡ other → due.status ≡ status.NotInstance line → status_number other.status < 16 → P
  low_missed due other P has is low = not_missed line other.status P (sym (ap (λ (d : Due). d.status) has) ∙ is) low

  -- nothing is cited
  pub uncited_missed : (steps : ℕ) → IsCite words steps → (bytes : List ℕ) → IsInput log_limit left bytes left' → (error : CiteError) (due : Due)
      → TellsRefusal bytes steps error → TellsUncited error due → due.status ≡ status.NotInstance line → CitesNone words left left' line
  uncited_missed steps given bytes input (citing.NotInstance j) due refused tells is =
      let same = same_line j line (sym (ap (λ (d : Due). d.status) tells) ∙ is) in
      record {
        steps = steps;
        command = given;
        bytes = bytes;
        input = input;
        misses = subst (λ (n : ℕ). Misses bytes steps (no_instance n)) same refused;
      }
  uncited_missed steps given bytes input (citing.Rejected j reason) due refused tells is = low_missed due _ _ tells is (omega arith)
  uncited_missed steps given bytes input (citing.Syntax fault) due refused tells is = low_missed due _ _ tells is (omega arith)
  uncited_missed steps given bytes input (citing.TooLarge j which) due refused tells is = low_missed due _ _ tells is (omega arith)
  uncited_missed steps given bytes input (citing.Spent j) due refused tells is = low_missed due _ _ tells is (omega arith)
  uncited_missed steps given bytes input citing.NoMemory due refused tells is = absurd tells
