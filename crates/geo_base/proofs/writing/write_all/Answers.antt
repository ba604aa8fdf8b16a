use Rattle.std.proofs.Common.{rules}
use Rattle.geo_base.proofs.DeviceLemmas.{Grows-take}
use Rattle.geo_base.proofs.writing.write_all.Goals as goal

-- the bytes written before this turn and those of this turn are the first bytes together
pub loop-written-preserved : goal.loop-written-preserved
loop-written-preserved g c = record {
  within = search rules;
  grown = Grows-take _ _ _ c.args.bytes.now c.loop-written.written c.in_ok-written.field-0 c.loop-written.invariant.grown c.in_ok-written.ensures.grown;
  still = search rules;
}
