use Rattle.std.proofs.lemmas.Result.{IfErr-at_err}
use Rattle.geo_discover.proofs.fixing.fixed.Goals as goal

pub returns-clause-spent : goal.returns-clause-spent
returns-clause-spent c = λ line e. IfErr-at_err _ e c.fixed_all.ensures.err

pub returns-clause-too_large : goal.returns-clause-too_large
returns-clause-too_large c = λ line which e. IfErr-at_err _ e c.fixed_all.ensures.err
