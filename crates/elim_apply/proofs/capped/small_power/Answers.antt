use Rattle.std.proofs.Common.{ℕ, ◌^◌, ap}
use Rattle.elim_apply.proofs.SmallNumbers.{if_it_fits}
use Rattle.elim_apply.proofs.capped.small_power.Goals as goal

pub returns : goal.returns
returns c = if_it_fits c.checked_pow.result _ _ (c.args.base ^ c.args.exponent) c.checked_pow.ensures (ap (λ (b : ℕ). b ^ c.args.exponent) c.in_ok-small.ensures)
