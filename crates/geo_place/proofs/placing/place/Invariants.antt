use Rattle.geo_program.specs.Programs.{source_of}
use Rattle.geo_conditions.proofs.Decisions.{lists_exist}
use Rattle.geo_place.proofs.Existence.{reckoned_placement}
use Rattle.geo_place.proofs.ValueLists.{values_of}
use Rattle.geo_place.proofs.placing.place.Given as goal

abbrev pub ghost-evaluate : goal.ghost-evaluate
ghost-evaluate a =
    let p = source_of a.program.now in
    let v = values_of p a.values.now in
    record { program = p; values = v; placed = reckoned_placement p v; conditions = (lists_exist.conditions p).0 }
