use Rattle.proof_printer.proofs.OneProof.{readable_proof_is_unique}
use Rattle.proof_printer.proofs.laws.readable_proof_is_unique.Goals as goal

pub returns : goal.returns
returns c = readable_proof_is_unique
