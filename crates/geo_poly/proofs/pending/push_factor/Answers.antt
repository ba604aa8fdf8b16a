use Rattle.std.proofs.Common.{List, ℕ, [], ◌∷◌, ◌++◌, append_assoc, replicate, sym, ap, ◌∙◌}
use Rattle.std.proofs.lemmas.List.{append-nil, replicate_more}
use Rattle.geo_poly.proofs.pending.push_factor.Goals as goal

pub loop-k-init : goal.loop-k-init
loop-k-init c = sym (append-nil c.args.factors.now.items)

pub loop-k-preserved : goal.loop-k-preserved
loop-k-preserved c =
    let old = c.args.factors.now.items in
    let x = c.args.factor in
    c.in_ok-push.ensures.items ∙ ap (λ (xs : List ℕ). xs ++ x ∷ []) c.loop-k.invariant ∙ append_assoc old (replicate c.loop-k._k x) (x ∷ [])
    ∙ ap (λ (xs : List ℕ). old ++ xs) (replicate_more c.loop-k._k x)
