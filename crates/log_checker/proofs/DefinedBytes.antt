-- The text of a defined log that ends with a verdict is accepted.
use Rattle.std.proofs.Common.{refl}
use Rattle.geo_logs.specs.Ends.{ends_with}
use Rattle.log_checker.specs.Begun.{DefinedBytesAreAccepted}
use Rattle.log_checker.proofs.Decision.{defined_logs_are_accepted}
use Rattle.log_checker.proofs.WritableLines.{defined_logs_are_writable}

pub defined_bytes_are_accepted : DefinedBytesAreAccepted
defined_bytes_are_accepted p subject steps left lines verdict w s few d = record {
  lines = lines;
  writable = defined_logs_are_writable p subject steps lines (ends_with verdict left) w s few d;
  written = refl;
  accepted = defined_logs_are_accepted p subject steps left lines verdict w s few d;
}
