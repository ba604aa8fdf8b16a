use Rattle.std.proofs.Common.{◌≡◌, [], ◌∷◌, ◌++◌, rules}
use Rattle.std.proofs.lemmas.Result.{IfErr-weaker, on_ok_weaker}
use Rattle.geo_program.specs.Programs.{source_of}
use Rattle.geo_discover.specs.FoundTexts.{candidate_text}
use Rattle.geo_discover.proofs.Putting.{if_err, no_memory}
use Rattle.geo_discover.proofs.found_lines.put_candidate.Goals as goal

pub returns-in_err-line-clause-err : goal.returns-in_err-line-clause-err
returns-in_err-line-clause-err g c = if_err _ _ _ c.from_residual.ensures.1 (no_memory _ _ _ _ _ c.args.text.now.within)

pub returns-clause-ok : goal.returns-clause-ok
returns-clause-ok g c =
    let same : c.deref.result.now ≡ (c.args.word.now ++ candidate_text (source_of c.args.program.now) c.args.statement) ++ 10 ∷ [] = search rules in
    on_ok_weaker c.put.result (λ h. h ((c.args.word.now ++ candidate_text (source_of c.args.program.now) c.args.statement)) same) c.put.ensures.ok

pub returns-clause-err : goal.returns-clause-err
returns-clause-err g c =
    let same : c.deref.result.now ≡ (c.args.word.now ++ candidate_text (source_of c.args.program.now) c.args.statement) ++ 10 ∷ [] = search rules in
    IfErr-weaker c.put.result _ _ (λ e h. h ((c.args.word.now ++ candidate_text (source_of c.args.program.now) c.args.statement)) same) c.put.ensures.err
