use Rattle.std.proofs.Common.{subst}
use Rattle.std.specs.Prelude.{IfNone, IfSome}
use Rattle.geo_poly.specs.Polynomials.{Summands}
use Rattle.geo_logs.specs.Chains.{IsEnd}
use Rattle.geo_logs.specs.Defined.{IsNextMove}
use Rattle.elim_apply.specs.LemmaTable.{lemma_table}
use Rattle.geo_chain.proofs.Moves.{none_at_end}
use Rattle.geo_chain.proofs.choosing.next_move.Goals as goal

pub returns-clause-some : goal.returns-clause-some
returns-clause-some c = subst (λ (q : Summands). IfSome c.move_among.result (IsNextMove lemma_table c.args.steps.now q)) c.shared.ensures.terms c.move_among.ensures.some

pub returns-clause-none : goal.returns-clause-none
returns-clause-none c = subst (λ (q : Summands). IfNone c.move_among.result (IsEnd q)) c.shared.ensures.terms c.move_among.ensures.none

pub returns-clause-end : goal.returns-clause-end
returns-clause-end c = none_at_end c.args.steps.now c.args.p.now c.move_among.result
    (subst (λ (q : Summands). IfSome c.move_among.result (IsNextMove lemma_table c.args.steps.now q)) c.shared.ensures.terms c.move_among.ensures.some)
