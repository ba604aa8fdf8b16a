use Rattle.std.proofs.Common.{ℕ, List, ◌+◌, ◌++◌, ◌∷◌, [], sym, ap, ◌∙◌, arith, rules}
use Rattle.std.proofs.lemmas.Fmt.{decimal_digit}
use Rattle.geo_base.proofs.decimals.push_digit.Goals as goal

pub returns-clause-ok : goal.returns-clause-ok
returns-clause-ok c =
    c.in_ok-push.ensures.items ∙ ap (λ (ds : List ℕ). c.args.out.now.items ++ ds) (sym (decimal_digit c.args.n c.requires))
