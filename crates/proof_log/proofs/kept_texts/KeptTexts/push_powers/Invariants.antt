use Rattle.std.proofs.Common.{take}
use Rattle.proof_log.specs.Inner.KeptTexts.{AreKept, IsBegun}
use Rattle.proof_log.proofs.kept_texts.KeptTexts.push_powers.Given as goal

abbrev pub invariant-loop-span : goal.invariant-loop-span
invariant-loop-span l = record {
  kept : AreKept l.names l.digits l.self;
  begun : IsBegun l.names l.digits (take l.begin l.fn.out.items) l.out.items l.word l.rest;
}

abbrev pub decreases-loop-span : goal.decreases-loop-span
decreases-loop-span l = l.rest
