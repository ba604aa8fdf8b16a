use Rattle.std.proofs.Common.{sym, subst}
use Rattle.std.specs.List.{AllByRecursion}
use Rattle.std.proofs.lemmas.List.Elements.{recursion_from_All}
use Rattle.std.proofs.lemmas.Result.{IfErr-weaker, IfOk-weaker}
use Rattle.geo_program.specs.Programs.{source_of}
use Rattle.geo_program.proofs.Propositions.{program_well_formed}
use Rattle.geo_discover.specs.Candidates.{candidates}
use Rattle.geo_discover.specs.Inner.Searching.{BreaksSearch, Examines, IsCandidate, progress}
use Rattle.geo_discover.proofs.CandidateForms.{candidates_are_relations, candidates_are_stated}
use Rattle.geo_discover.proofs.CandidateLaws.{candidates_are_well_formed}
use Rattle.geo_discover.proofs.Putting.{if_err}
use Rattle.geo_discover.proofs.SearchEnds.{all_settled, nothing_written, stops_so, unsettled_so}
use Rattle.geo_discover.proofs.discovering.discover_all.Goals as goal

pub returns-in_err-all-clause-err : goal.returns-in_err-all-clause-err
returns-in_err-all-clause-err g c =
    let p = source_of c.args.program.now in
    let w = program_well_formed c.args.program.now in
    let held = g.K.Sink.held c.args.sink.now in
    let faults = g.K.Sink.faults c.args.sink.now in
    if_err _ _ _ c.from_residual.ensures.1
    (nothing_written p c.args.steps held faults faults w c.requires.short (candidates_are_relations p) (candidates_are_well_formed p w))

pub examine_all-requires-clause-candidates : goal.examine_all-requires-clause-candidates
examine_all-requires-clause-candidates g c =
    let p = source_of c.args.program.now in
    subst (AllByRecursion (IsCandidate p)) (sym c.in_ok-all.ensures)
    (recursion_from_All (IsCandidate p) (candidates p) (candidates_are_stated p (program_well_formed c.args.program.now)))

pub returns-in_err-examine_all-clause-err : goal.returns-in_err-examine_all-clause-err
returns-in_err-examine_all-clause-err g c =
    let p = source_of c.args.program.now in
    let w = program_well_formed c.args.program.now in
    let s = progress c.new-search.result (g.K.Sink.held c.args.sink.now) in
    let e = c.in_err-examine_all.field-0.0 in
    let held = g.K.Sink.held c.examine_all.new.sink in
    let before = g.K.Sink.faults c.args.sink.now in
    let after = g.K.Sink.faults c.examine_all.new.sink in
    if_err _ _ e c.from_residual-in_err-examine_all.ensures.1
    (stops_so p c.args.steps w c.requires.short (candidates_are_relations p) (candidates_are_well_formed p w) s c.new-search.ensures.examined
    c.new-search.ensures.bytes c.new-search.ensures.relations c.new-search.ensures.open_ones c.new-search.ensures.first
    held before after e
    (subst (λ ss. BreaksSearch p c.args.steps ss s held before after e) c.in_ok-all.ensures c.in_err-examine_all.ensures.err))

pub returns-clause-ok : goal.returns-clause-ok
returns-clause-ok g c =
    let p = source_of c.args.program.now in
    let w = program_well_formed c.args.program.now in
    let s = progress c.new-search.result (g.K.Sink.held c.args.sink.now) in
    let t = progress c.examine_all.new.search (g.K.Sink.held c.examine_all.new.sink) in
    IfOk-weaker c.conclude.result _ _
    (λ found h. all_settled p c.args.steps w c.requires.short (candidates_are_relations p) (candidates_are_well_formed p w) s
    c.new-search.ensures.examined c.new-search.ensures.bytes c.new-search.ensures.relations c.new-search.ensures.open_ones
    c.new-search.ensures.first t
    (subst (λ ss. Examines p c.args.steps ss s t) c.in_ok-all.ensures c.in_ok-examine_all.ensures.ok)
    h.2 _ _ h.0 h.1 h.3)
    c.conclude.ensures.ok

pub returns-clause-err : goal.returns-clause-err
returns-clause-err g c =
    let p = source_of c.args.program.now in
    let w = program_well_formed c.args.program.now in
    let s = progress c.new-search.result (g.K.Sink.held c.args.sink.now) in
    let t = progress c.examine_all.new.search (g.K.Sink.held c.examine_all.new.sink) in
    IfErr-weaker c.conclude.result _ _
    (λ e h. unsettled_so p c.args.steps w c.requires.short (candidates_are_relations p) (candidates_are_well_formed p w) s
    c.new-search.ensures.examined c.new-search.ensures.bytes c.new-search.ensures.relations c.new-search.ensures.open_ones
    c.new-search.ensures.first t
    (subst (λ ss. Examines p c.args.steps ss s t) c.in_ok-all.ensures c.in_ok-examine_all.ensures.ok)
    _ _ _ _ e c.examine_all.ensures.faults h)
    c.conclude.ensures.err
