use Rattle.std.proofs.Common.{◌≡◌, [], List, sym, subst}
use Rattle.std.proofs.lemmas.Option.{MatchOption-at_none}
use Rattle.geo_program.specs.declared.statements.Statement.{Statement}
use Rattle.geo_program.specs.Programs.{source_of}
use Rattle.geo_discover.specs.Inner.Searching.{Examines, progress}
use Rattle.geo_discover.specs.Inner.Walks.{candidates_left}
use Rattle.geo_discover.proofs.Putting.{if_err}
use Rattle.geo_discover.proofs.SearchSteps.{examines_none, is_none, none_broken}
use Rattle.geo_discover.proofs.discovering.examine_all.Goals as goal

pub returns-in_default-clause-ok : goal.returns-in_default-clause-ok
returns-in_default-clause-ok g c =
    let s = progress c.args.search.now (g.K.Sink.held c.args.sink.now) in
    let none : candidates_left c.args.all ≡ [] = (MatchOption-at_none _ _ (is_none c.next.result c.in_default.not-Some) c.next.ensures).0 in
    subst (λ (xs : List Statement). Examines (source_of c.args.program.now) c.args.steps xs s s) (sym none)
    (examines_none (source_of c.args.program.now) c.args.steps s c.args.search.now.text.within)

pub returns-in_err-figure-clause-err : goal.returns-in_err-figure-clause-err
returns-in_err-figure-clause-err g c =
    if_err _ _ _ c.from_residual.ensures.1 (none_broken _ _ _ _ _ _ c.args.search.now.text.within)

pub returns-in_err-printer-clause-err : goal.returns-in_err-printer-clause-err
returns-in_err-printer-clause-err g c =
    if_err _ _ _ c.from_residual-in_err-printer.ensures.1 (none_broken _ _ _ _ _ _ c.args.search.now.text.within)
