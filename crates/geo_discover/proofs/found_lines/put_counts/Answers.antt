use Rattle.std.proofs.Common.{◌≡◌, [], ◌∷◌, ◌++◌, rules}
use Rattle.std.proofs.lemmas.Result.{IfErr-weaker, on_ok_weaker}
use Rattle.geo_discover.specs.Inner.Searching.{counts_line}
use Rattle.geo_discover.proofs.Putting.{if_err, no_memory}
use Rattle.geo_discover.proofs.found_lines.put_counts.Goals as goal

pub returns-in_err-bytes-clause-err : goal.returns-in_err-bytes-clause-err
returns-in_err-bytes-clause-err g c = if_err _ _ _ c.from_residual.ensures.1 (no_memory _ _ _ _ _ c.args.text.now.within)

pub returns-clause-ok : goal.returns-clause-ok
returns-clause-ok g c =
    let same : c.deref.result.now ≡ counts_line c.args.relations c.args.open_ones ++ 10 ∷ [] = search rules in
    on_ok_weaker c.put.result (λ h. h (counts_line c.args.relations c.args.open_ones) same) c.put.ensures.ok

pub returns-clause-err : goal.returns-clause-err
returns-clause-err g c =
    let same : c.deref.result.now ≡ counts_line c.args.relations c.args.open_ones ++ 10 ∷ [] = search rules in
    IfErr-weaker c.put.result _ _ (λ e h. h (counts_line c.args.relations c.args.open_ones) same) c.put.ensures.err
