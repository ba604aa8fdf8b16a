use Rattle.std.proofs.Common.{take, drop, ap, ◌∙◌, subst, sym}
use Rattle.std.specs.Prelude.{ℕ, List}
use Rattle.proof_log.specs.Inner.Reading.{Passes, StopsAt, is_plain_byte}
use Rattle.proof_log.proofs.Runs.{prefix_passes}
use Rattle.proof_log.proofs.names.before_name.Goals as goal

pub returns-clause-plain : goal.returns-clause-plain
returns-clause-plain c =
    let bytes : List ℕ = c.args.bytes.now in
    subst (Passes is_plain_byte) (sym (c.split_at.ensures.front ∙ ap (λ (n : ℕ). take n bytes) c.plain_length.ensures.run))
    (prefix_passes is_plain_byte bytes).0

pub returns-clause-stops : goal.returns-clause-stops
returns-clause-stops c =
    let bytes : List ℕ = c.args.bytes.now in
    subst (StopsAt is_plain_byte) (sym (c.split_at.ensures.back ∙ ap (λ (n : ℕ). drop n bytes) c.plain_length.ensures.run))
    (prefix_passes is_plain_byte bytes).1
