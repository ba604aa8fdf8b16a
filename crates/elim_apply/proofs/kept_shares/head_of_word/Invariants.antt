use Rattle.std.proofs.Common.{◌-◌, ◌≤◌}
use Rattle.elim_apply.specs.Inner.KeptShares.{BeginWith}
use Rattle.elim_apply.proofs.kept_shares.head_of_word.Given as goal

abbrev pub invariant-loop-rest : goal.invariant-loop-rest
invariant-loop-rest l = record {
  up : l.rest ≤ l.word;
  begun : BeginWith l.known l.digits l.share (l.word - l.rest) l.rest;
}

abbrev pub decreases-loop-rest : goal.decreases-loop-rest
decreases-loop-rest l = l.rest
