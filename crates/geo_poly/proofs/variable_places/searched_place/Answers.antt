use Rattle.geo_poly.proofs.Naming.{searchable}
use Rattle.geo_poly.proofs.Places.{not_found}
use Rattle.geo_poly.proofs.variable_places.searched_place.Goals as goal

pub returns-in-Err : goal.returns-in-Err
returns-in-Err c = λ known. not_found c.args.vars.now c.args.v c.in-Err.field-0 known (c.in-Err.ensures.position (searchable c.args.vars.now c.args.v c.requires))
