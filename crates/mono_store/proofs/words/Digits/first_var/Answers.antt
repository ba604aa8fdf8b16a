use Rattle.mono_store.proofs.FirstPowers.{above-known}
use Rattle.mono_store.proofs.words.Digits.first_var.Goals as goal

pub digit-requires : goal.digit-requires
digit-requires c = above-known c.args.self.now c.args.word c.loop-var.var c.requires.some c.loop-var.invariant
