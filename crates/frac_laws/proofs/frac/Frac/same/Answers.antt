use Rattle.std.proofs.Common.{rules, ◌≡◌, ◌*ℤ◌, sym}
use Rattle.frac_laws.proofs.Sums.{same_number}
use Rattle.frac_laws.proofs.frac.Frac.same.Goals as goal

pub returns-then-self-other : goal.returns-then-self-other
returns-then-self-other c =
    let f = c.args.self.now in
    let h = c.args.other.now in
    let num : f.num ≡ h.num = search rules in (
      λ t. let den : f.den ≡ h.den = search (rules, t) in (λ i. num i *ℤ sym den i),
      λ e. let den : f.den ≡ h.den = (same_number f h e).1 in search (rules, den),
    )

pub returns-else-self-other : goal.returns-else-self-other
returns-else-self-other c =
    let f = c.args.self.now in
    let h = c.args.other.now in
    (λ t. search (rules, t), λ e. let num : f.num ≡ h.num = (same_number f h e).0 in search (rules, num))
