use Rattle.std.proofs.Common.{subst}
use Rattle.geo_poly.specs.declared.roles.Role.{Role}
use Rattle.geo_poly.specs.Inner.Roles.{IsRole}
use Rattle.geo_poly.proofs.roles.Role.row_place.Goals as goal

pub returns-in-Replaced-clause-within : goal.returns-in-Replaced-clause-within
returns-in-Replaced-clause-within c = λ rows vars v h. (subst (λ (r : Role). IsRole rows vars v r) c.in-Replaced.is h).0

pub returns-in-Replaced-clause-row : goal.returns-in-Replaced-clause-row
returns-in-Replaced-clause-row c = λ rows vars v h. (subst (λ (r : Role). IsRole rows vars v r) c.in-Replaced.is h).1

pub returns-in-Kept-clause-none : goal.returns-in-Kept-clause-none
returns-in-Kept-clause-none c = λ rows vars v h. (subst (λ (r : Role). IsRole rows vars v r) c.in-Kept.is h).0

pub returns-in-Absent-clause-none : goal.returns-in-Absent-clause-none
returns-in-Absent-clause-none c = λ rows vars v h. (subst (λ (r : Role). IsRole rows vars v r) c.in-Absent.is h).0
