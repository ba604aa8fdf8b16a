use Rattle.std.proofs.Common.{sym, subst}
use Rattle.geo_poly.specs.Shared.{told}
use Rattle.geo_logs.specs.Defined.{IsNextMove}
use Rattle.elim_apply.specs.LemmaTable.{lemma_table}
use Rattle.geo_chain.proofs.HighestPoints.{below_steps}
use Rattle.geo_chain.proofs.Moves.{point_next, ratio_next}
use Rattle.geo_chain.proofs.choosing.move_at.Goals as goal

pub ratio_move-requires : goal.ratio_move-requires
ratio_move-requires c = below_steps c.args.steps.now c.args.y c.requires.highest.constructed

pub returns-in-Some : goal.returns-in-Some
returns-in-Some c =
    subst (IsNextMove lemma_table c.args.steps.now (told c.args.p.now)) (sym c.ratio_move.ensures)
    (ratio_next (told c.args.p.now) c.args.steps.now c.args.y c.in-Some.var c.requires.highest c.in-Some.ensures.some)

pub returns-in-None : goal.returns-in-None
returns-in-None c = point_next (told c.args.p.now) c.args.steps.now c.args.y c.requires.highest c.in-None.ensures.none
