use Rattle.std.proofs.Common.{◌≡◌, ◌+◌, ℕ, List, [], ◌∷◌, take, sym, subst, rules}
use Rattle.std.proofs.lemmas.List.{take_rest}
use Rattle.proof_log.specs.declared.log.Line.TheVariants.{Program as ProgramLine}
use Rattle.proof_log.specs.Writable.{HasNoLineFeed}
use Rattle.geo_chain.specs.declared.errors.ProveError.TheVariants.{NoMemory}
use Rattle.geo_chain.specs.Written.{IsUnwritten, Writes, state}
use Rattle.geo_chain.proofs.FirstLines.{IsBetween, at_last, first_feed, memory_between, one_more, piece_breaks}
use Rattle.geo_chain.proofs.Handing.{if_err}
use Rattle.geo_chain.proofs.Sizing.{takable_of}
use Rattle.geo_chain.proofs.program_lines.write_pieces.Goals as goal

pub returns-in_err-bytes-clause-err : goal.returns-in_err-bytes-clause-err
returns-in_err-bytes-clause-err g c =
    if_err _ _ NoMemory c.from_residual.ensures.1 (λ lines e h. memory_between lines c.loop-end.rest.now _ _
    (c.loop-end.invariant lines e h) c.loop-end.log.within)

pub write-requires : goal.write-requires
write-requires g c =
    let same : c.in_ok-bytes.bytes.items ≡ take c.in-Some.end c.loop-end.rest.now = search rules in
    takable_of _ (ProgramLine c.in_ok-bytes.bytes.items)
    (subst HasNoLineFeed (sym same) (first_feed c.loop-end.rest.now c.in-Some.end (sym c.in-Some.ensures)).clean)

pub returns-in_err-write-clause-err : goal.returns-in_err-write-clause-err
returns-in_err-write-clause-err g c =
    let same : c.in_ok-bytes.bytes.items ≡ take c.in-Some.end c.loop-end.rest.now = search rules in
    let s = state c.loop-end.log (g.K.Sink.held c.loop-end.sink) (g.K.Sink.faults c.loop-end.sink) in
    let t = state c.write.new.self (g.K.Sink.held c.write.new.sink) (g.K.Sink.faults c.write.new.sink) in
    if_err _ _ c.in_err-write.field-0.0 c.from_residual-in_err-write.ensures.1
    (λ lines e h. piece_breaks lines c.loop-end.rest.now _ s t c.in-Some.end c.in_err-write.field-0.0
    (c.loop-end.invariant lines e h) c.loop-end.log.within (sym c.in-Some.ensures)
    (subst (λ (x : List ℕ). IsUnwritten (ProgramLine x) s t c.in_err-write.field-0.0) same c.in_err-write.ensures.err))

pub loop-end-preserved : goal.loop-end-preserved
loop-end-preserved g c = λ lines e h.
    let same : c.in_ok-bytes.bytes.items ≡ take c.in-Some.end c.loop-end.rest.now = search rules in
    let s = state c.loop-end.log (g.K.Sink.held c.loop-end.sink) (g.K.Sink.faults c.loop-end.sink) in
    let t = state c.write.new.self (g.K.Sink.held c.write.new.sink) (g.K.Sink.faults c.write.new.sink) in
    let r = state c.args.log.now (g.K.Sink.held c.args.sink.now) (g.K.Sink.faults c.args.sink.now) in
    subst (λ (xs : List ℕ). IsBetween lines xs r t) (sym (take_rest c.loop-end.rest.now (c.in-Some.end + 1)))
    (one_more lines c.loop-end.rest.now r s (c.loop-end.invariant lines e h) c.in-Some.end t (sym c.in-Some.ensures)
    (subst (λ (x : List ℕ). Writes (ProgramLine x ∷ []) s t) same c.in_ok-write.ensures.ok))

pub returns-clause-ok : goal.returns-clause-ok
returns-clause-ok g c = λ lines e h. at_last lines c.loop-end.rest.now _ _ (c.loop-end.invariant lines e h) (sym c.in_default.ensures)
