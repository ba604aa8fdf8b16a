use Rattle.std.proofs.Common.{Bool, true, false, sym, ◌∙◌, true≢false, subst}
use Rattle.geo_place.specs.Formulas.{rise_of, run_of}
use Rattle.geo_place.specs.Reckonings.{HasResult, ◌⊘◌}
use Rattle.geo_place.proofs.RatioLaws.{level, tilted}
use Rattle.geo_place.proofs.quantities.ratio.Goals as goal

pub returns-then-same : goal.returns-then-same
returns-then-same c = λ A B C D ha hb hc hd.
    subst (λ (b : Bool). HasResult (elim b [ true ↦ rise_of A B ⊘ rise_of C D | false ↦ run_of A B ⊘ run_of C D ]) c.quotient_of.result)
    (sym (level c.args.c.now.x c.args.d.now.x C D hc.x hd.x (c.same.ensures.0 c.if-same.true)))
    (c.quotient_of.ensures (rise_of A B) (rise_of C D) (c.rise.ensures A B ha hb) (c.rise-then-same.ensures C D hc hd))

pub returns-else-same : goal.returns-else-same
returns-else-same c = λ A B C D ha hb hc hd.
    subst (λ (b : Bool). HasResult (elim b [ true ↦ rise_of A B ⊘ rise_of C D | false ↦ run_of A B ⊘ run_of C D ]) c.quotient_of-else-same.result)
    (sym (tilted c.args.c.now.x c.args.d.now.x C D hc.x hd.x (λ h. true≢false (sym (c.same.ensures.1 h) ∙ c.if-same.false))))
    (c.quotient_of-else-same.ensures (run_of A B) (run_of C D) (c.run.ensures A B ha hb) (c.run-else-same.ensures C D hc hd))
