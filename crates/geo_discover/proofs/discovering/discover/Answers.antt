use Rattle.std.proofs.lemmas.Result.{IfErr-at_err}
use Rattle.geo_discover.proofs.discovering.discover.Goals as goal

pub returns-clause-impossible : goal.returns-clause-impossible
returns-clause-impossible g c = λ k e. IfErr-at_err _ e c.discover_all.ensures.err

pub returns-clause-spent : goal.returns-clause-spent
returns-clause-spent g c = λ line e. IfErr-at_err _ e c.discover_all.ensures.err

pub returns-clause-too_large : goal.returns-clause-too_large
returns-clause-too_large g c = λ line which e. IfErr-at_err _ e c.discover_all.ensures.err

pub returns-clause-too_long : goal.returns-clause-too_long
returns-clause-too_long g c = λ e. IfErr-at_err _ e c.discover_all.ensures.err

pub returns-clause-write_fault : goal.returns-clause-write_fault
returns-clause-write_fault g c = λ e. IfErr-at_err _ e c.discover_all.ensures.err

pub returns-clause-memory : goal.returns-clause-memory
returns-clause-memory g c = λ e. IfErr-at_err _ e c.discover_all.ensures.err
