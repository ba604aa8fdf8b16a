use Rattle.std.proofs.Common.{[], ◌∷◌, ◌++◌, append_assoc, sym, ap, ◌∙◌}
use Rattle.geo_poly.specs.declared.variables.Var.TheVariants.{T}
use Rattle.geo_logs.specs.Samples.{coordinates_from, parameters_from}
use Rattle.log_checker.proofs.SampleNames.{parameters_more}
use Rattle.log_checker.proofs.sampling.sample_variables.Goals as goal

pub loop-t-preserved : goal.loop-t-preserved
loop-t-preserved c =
    let front = coordinates_from 0 c.args.steps.now.steps in
    let last = T (record { 0 = c.loop-t.t }) ∷ [] in
    c.in_ok-push.ensures.items
    ∙ ap (λ vs. vs ++ last) c.loop-t.invariant
    ∙ append_assoc front (parameters_from 0 c.loop-t.t) last
    ∙ ap (λ vs. front ++ vs) (sym (parameters_more c.loop-t.t))
