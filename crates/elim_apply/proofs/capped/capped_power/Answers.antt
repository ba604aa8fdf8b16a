use Rattle.std.proofs.Common.{◌≡◌, ℕ, ◌*◌, ◌^◌, ap, ◌∙◌, arith}
use Rattle.std.proofs.Math.Nat.{pow-suc, pow-zero}
use Rattle.elim_apply.proofs.capped.capped_power.Goals as goal

pub returns-in-1 : goal.returns-in-1
returns-in-1 c =
    let base = c.args.base in
    let once : base ^ c.args.exponent ≡ base ^ 1 = ap (λ (e : ℕ). base ^ e) c.in-1.is in
    let one : base ^ 1 ≡ 1 * base = pow-suc base 0 ∙ ap (λ (y : ℕ). y * base) (pow-zero base) in
    omega (arith, once, one, c.ranges.base.fits)
