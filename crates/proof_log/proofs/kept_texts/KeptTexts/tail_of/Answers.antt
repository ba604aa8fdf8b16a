use Rattle.std.proofs.Common.{◌≡◌, arith}
use Rattle.proof_log.proofs.WordTexts.{tail_of_none}
use Rattle.proof_log.proofs.kept_texts.KeptTexts.tail_of.Goals as goal

pub returns-then-word-eq0-clause-kept : goal.returns-then-word-eq0-clause-kept
returns-then-word-eq0-clause-kept c = λ names limits kept.
    let none : c.args.word ≡ 0 = omega (arith, c.if-word-eq0.true) in
    tail_of_none names limits c.args.self.now.bytes.items c.args.word none
