-- What the struct of a program's problem stands for.
use Rattle.geo_conditions.specs.declared.problem.Problem.{Problem}
use Rattle.geo_lowering.specs.Lowering.{LoweredForm}

-- the lowered form in it
abbrev pub form_of_problem : Problem → LoweredForm
form_of_problem q = record { construction = q.steps; points = q.points; lines = q.lines; params = q.params; after = q.after }
