-- Which lines can be printed, and what is printed while a log is read.
use Rattle.std.specs.Prelude.{◌≡◌, ℕ, List, [], ◌∷◌, ◌++◌}
use Rattle.geo_poly.specs.Polynomials.{Summands}
use Rattle.geo_terms.specs.Constructions.{Construction}
use Rattle.geo_program.specs.WellFormed.{Source}
use Rattle.geo_lowering.specs.Lowering.{IsLowered, LoweredForm}
use Rattle.geo_lowering.specs.declared.version.Version.{Version}
use Rattle.geo_logs.specs.declared.moves.Move.TheVariants as move
use Rattle.elim_apply.specs.Replacements.{CanMove}
use Rattle.proof_log.specs.declared.log.Line.{Line}
use Rattle.proof_log.specs.declared.log.Line.TheVariants.{Ratio, Point, Coords}
use Rattle.proof_log.specs.Lines.{log_text}
use Rattle.proof_log.specs.Writable.{AllWritable, CanWritePolynomial}
use Rattle.proof_printer.specs.Naming.{Naming}
use Rattle.proof_printer.specs.Readable.{polynomial_after, ratio_move, readable}

-- the construction is that of a lowered form of the program by this version
pub record IsConstructionOf (version : Version) (p : Source) (c : Construction) : Type 0 where
  pub form : LoweredForm
  pub lowered : IsLowered version p form
  pub same : c ≡ form.construction

-- the line can be printed behind this polynomial
abbrev pub CanPrint : Construction → Summands → Line → Type 0
CanPrint c before (Ratio v lemma at q) = CanMove c before (ratio_move v lemma at)
CanPrint c before (Point at q) = CanMove c before (move.Point at)
CanPrint c before (Coords q) = CanMove c before move.Coords
CanPrint c before _ = Unit {0}

-- the lines can be printed, one behind another
abbrev pub CanPrintAll : Construction → Summands → List Line → Type 0
CanPrintAll c before [] = Unit {0}
CanPrintAll c before (line ∷ lines) = CanPrint c before line × CanPrintAll c (polynomial_after before line) lines

-- the bytes are lines that can be printed
pub record IsPrintable (c : Construction) (bytes : List ℕ) : Type 0 where
  pub lines : List Line
  pub writable : AllWritable lines
  pub written : bytes ≡ log_text lines
  pub can : CanPrintAll c [] lines

-- the text is the readable proof of the lines in the bytes
pub record IsPrinted (n : Naming) (c : Construction) (bytes text : List ℕ) : Type 0 where
  pub lines : List Line
  pub writable : AllWritable lines
  pub written : bytes ≡ log_text lines
  pub printed : text ≡ readable n c [] lines

-- of the lines in the bytes those in `rest` are left, behind this polynomial, and `text` is printed of the others
pub record IsPrinting (n : Naming) (c : Construction) (bytes rest text : List ℕ) (before : Summands) : Type 0 where
  pub before-writable : CanWritePolynomial before
  pub lines : List Line
  pub writable : AllWritable lines
  pub written : bytes ≡ log_text lines
  pub left : List Line
  pub left-writable : AllWritable left
  pub left-written : rest ≡ log_text left
  pub left-can : CanPrintAll c before left
  pub printed : text ++ readable n c before left ≡ readable n c [] lines
