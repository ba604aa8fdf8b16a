use Rattle.std.proofs.Common.{◌≡◌, take}
use Rattle.geo_program.proofs.names.copied_names.Given as goal

-- the first names
abbrev pub invariant-loop-name : goal.invariant-loop-name
invariant-loop-name l = l.items.items ≡ take l.name-index l.names
