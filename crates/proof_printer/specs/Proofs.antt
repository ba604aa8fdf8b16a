-- Readable proofs of accepted logs.
use Rattle.std.specs.Prelude.{◌≡◌, ℕ, List, []}
use Rattle.geo_program.specs.WellFormed.{Source}
use Rattle.geo_lowering.specs.Lowering.{IsLowered, LoweredForm}
use Rattle.proof_log.specs.declared.log.Verdict.{Verdict}
use Rattle.log_checker.specs.Accepted.{Accepts, BytesMean}
use Rattle.proof_printer.specs.Naming.{naming_of}
use Rattle.proof_printer.specs.Readable.{readable}

-- the bytes are an accepted log, within so many steps, and the text is its readable proof, over a lowered form of its program by its version
pub record IsReadableProof (bytes : List ℕ) (steps : ℕ) (text : List ℕ) : Type 0 where
  pub program : Source
  pub verdict : Verdict
  pub accepted : Accepts bytes steps program verdict
  pub means : BytesMean bytes program verdict
  pub form : LoweredForm
  pub lowered : IsLowered accepted.accepted.about.version program form
  pub written : text ≡ readable (naming_of accepted.accepted.about.version program) form.construction [] accepted.lines

-- bytes have one readable proof at most, whatever the steps, and over whichever lowered form
abbrev pub ReadableProofIsUnique : Type 0
ReadableProofIsUnique =
    (bytes : List ℕ) (steps steps' : ℕ) (text text' : List ℕ) → IsReadableProof bytes steps text
    → IsReadableProof bytes steps' text' → text ≡ text'
