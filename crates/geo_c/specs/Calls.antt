-- What a verdict means of the bytes that were given. A buffer was `before` when the call began, and is `after` at its end.
use Rattle.std.specs.Prelude.{ℕ, List}
use Rattle.geo_c.specs.Answers.{HandsBack}
use Rattle.geo_c.specs.declared.answers.Answer.{Answer}
use Rattle.proof_printer.specs.Due.{accepted_text}
use Rattle.geo_conditions.specs.Lists.{AreConditionItems, ItemForm}
use Rattle.geo_lowering.specs.declared.version.Version.TheVariants.{Two}
use Rattle.geo_program.specs.declared.program_type.Program.{Program}
use Rattle.geo_program.specs.Programs.{Spells, source_of}
use Rattle.geo_program.specs.WellFormed.{Source}
use Rattle.log_checker.specs.Accepted.{Accepts, BytesMean}
use Rattle.proof_log.specs.declared.log.Verdict.{Verdict}
use Rattle.proof_printer.specs.Proofs.{IsReadableProof}

-- the bytes spell this program, and the buffer holds this log of it, which is accepted with these steps and this verdict; and it means: the
-- statement is true, or the printed integers break it, or no placement meets the program
pub record ProvesBytes (bytes : List ℕ) (steps : ℕ) (before after : List ℕ) (answer : Answer) (verdict : Verdict) : Type 0 where
  pub program : Program
  pub spelt : Spells bytes program
  pub log : List ℕ
  pub held : HandsBack log before after answer
  pub accepted : Accepts log steps (source_of program) verdict
  pub means : BytesMean log (source_of program) verdict

-- the bytes, whoever wrote them, are a log of this program that is accepted with these steps and this verdict; and it means that; the buffer
-- holds the program, its conditions and the verdict
pub record ChecksBytes (bytes : List ℕ) (steps : ℕ) (before after : List ℕ) (answer : Answer) (verdict : Verdict) : Type 0 where
  pub program : Source
  pub accepted : Accepts bytes steps program verdict
  pub means : BytesMean bytes program verdict
  pub conditions : List ItemForm
  pub listed : AreConditionItems Two program conditions
  pub held : HandsBack (accepted_text program conditions verdict) before after answer

-- the bytes, whoever wrote them, are an accepted log, and the buffer holds its readable proof
pub record PrintsBytes (bytes : List ℕ) (steps : ℕ) (before after : List ℕ) (answer : Answer) : Type 0 where
  pub text : List ℕ
  pub readable : IsReadableProof bytes steps text
  pub held : HandsBack text before after answer
