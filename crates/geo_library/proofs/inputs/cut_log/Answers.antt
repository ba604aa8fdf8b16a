use Rattle.std.proofs.Common.{refl}
use Rattle.geo_library.proofs.CuttingLogs.{cut_there, rest_short}
use Rattle.geo_library.proofs.inputs.cut_log.Goals as goal

pub overflow_sub-end : goal.overflow_sub-end
overflow_sub-end c = rest_short c.args.bytes.now c.behind_log-rest.result.now c.behind_log-rest.ensures

pub returns : goal.returns
returns c =
    cut_there c.args.bytes.now c.behind_log-rest.result.now c.split_at.result.0.now c.split_at.result.1.now _ c.behind_log-rest.ensures refl c.split_at.ensures.front c.split_at.ensures.back
