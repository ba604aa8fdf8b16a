use Rattle.std.proofs.Common.{◌≡◌, ◌++◌, drop}
use Rattle.std.specs.Prelude.{filter}
use Rattle.geo_chain.specs.InFrame.{is_in_frame}
use Rattle.geo_chain.proofs.sample_variables.open_variables.Given as goal

-- what is there, and what is still to come, is the whole
abbrev pub invariant-loop-v : goal.invariant-loop-v
invariant-loop-v l = l.items.items ++ filter (is_in_frame l.frame) (drop l.v-index l.vars) ≡ filter (is_in_frame l.frame) l.vars
