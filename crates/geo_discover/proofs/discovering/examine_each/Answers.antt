use Rattle.std.proofs.Common.{◌≡◌, ◌∙◌, List, refl, ap, subst, arith, length, rules}
use Rattle.std.specs.List.{AllByRecursion}
use Rattle.geo_program.specs.declared.statements.Statement.{Statement}
use Rattle.geo_program.specs.Programs.{source_of}
use Rattle.geo_discover.specs.Inner.Searching.{IsCandidate, progress}
use Rattle.geo_discover.specs.Inner.Walks.{candidates_left}
use Rattle.geo_discover.proofs.Putting.{if_err}
use Rattle.geo_discover.proofs.SearchSteps.{breaks_with, examines_with, walk_begins, walk_breaks, walk_ends, walk_on}
use Rattle.geo_discover.proofs.discovering.examine_each.Goals as goal

pub loop-statement-init : goal.loop-statement-init
loop-statement-init g c = (
  walk_begins (source_of c.args.program.now) c.args.figure.now.steps (candidates_left c.args.all)
      (progress c.args.search.now (g.K.Sink.held c.args.sink.now)) c.args.search.now.text.within,
  omega arith,
  refl,
  c.requires.figure,
  c.requires.candidates,
)

pub examine-requires-clause-candidate : goal.examine-requires-clause-candidate
examine-requires-clause-candidate g c =
    (subst (AllByRecursion (IsCandidate (source_of c.args.program.now))) c.in-Some.ensures c.loop-statement.invariant.4).0

pub loop-statement-preserved : goal.loop-statement-preserved
loop-statement-preserved g c = (
  walk_on (source_of c.args.program.now) c.args.figure.now.steps (candidates_left c.args.all) (candidates_left c.loop-statement.left)
      (candidates_left c.next.new.self) c.in-Some.statement _ _ _ c.in-Some.ensures c.loop-statement.invariant.0
      (let examined = examines_with c.loop-statement.invariant.2 c.in_ok-examine.ensures.ok in examined),
  (let kept : g.K.Sink.faults c.examine.new.sink ≡ g.K.Sink.faults c.loop-statement.sink = search rules in
      omega (arith, c.loop-statement.invariant.1, kept)),
  c.examine.ensures.steps ∙ c.loop-statement.invariant.2,
  c.in_ok-examine.ensures.figure,
  (subst (AllByRecursion (IsCandidate (source_of c.args.program.now))) c.in-Some.ensures c.loop-statement.invariant.4).1,
)

pub loop-statement-smaller : goal.loop-statement-smaller
loop-statement-smaller g c = let n = ap (λ (xs : List Statement). length xs) c.in-Some.ensures in omega (arith, n)

pub returns-in_err-examine-clause-err : goal.returns-in_err-examine-clause-err
returns-in_err-examine-clause-err g c =
    let broken = breaks_with c.loop-statement.invariant.2 c.in_err-examine.ensures.err in
    if_err _ _ c.in_err-examine.field-0.0 c.from_residual.ensures.1
    (walk_breaks (source_of c.args.program.now) c.args.figure.now.steps (candidates_left c.args.all) (candidates_left c.loop-statement.left)
    (candidates_left c.next.new.self) c.in-Some.statement _ _ _ _ _ _ c.in_err-examine.field-0.0 c.in-Some.ensures
    c.loop-statement.invariant.0 (omega (arith, c.loop-statement.invariant.1)) broken)

pub returns-clause-ok : goal.returns-clause-ok
returns-clause-ok g c =
    walk_ends (source_of c.args.program.now) c.args.figure.now.steps (candidates_left c.args.all) (candidates_left c.loop-statement.left) _ _
    c.in_default.ensures.0 c.loop-statement.invariant.0
