use Rattle.std.proofs.Common.{◌≡◌, ◌+◌, ◌-◌, ℕ, length}
use Rattle.geo_poly.specs.declared.variables.Var.{Var}
use Rattle.geo_poly.specs.Inner.Limits.{AreLimits}
use Rattle.geo_poly.specs.Replace.{denominators}
use Rattle.geo_poly.specs.Shared.{IsIndexOf, told_powers}
use Rattle.geo_poly.proofs.TermLimits.{AreLeft}
use Rattle.geo_poly.proofs.term_limits.add_powers.Given as goal

abbrev pub invariant-loop-first : goal.invariant-loop-first
invariant-loop-first l = record {
  index : IsIndexOf l.p l.rest;
  whole : length l.limits ≡ length l.vars;
  missing : l.missing ≡ denominators l.rows (told_powers l.p l.rest) + (l.top - denominators l.rows (told_powers l.p l.fn.id));
  left : (bound : Var → ℕ) → AreLimits l.vars bound l.initial.limits
      → AreLeft l.vars l.rows (told_powers l.p l.fn.id) (told_powers l.p l.rest) bound l.limits;
}

abbrev pub decreases-loop-first : goal.decreases-loop-first
decreases-loop-first l = l.rest.0
