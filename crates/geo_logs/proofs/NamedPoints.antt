-- Variables that name points and numbers of a construction have their points below its length.
use Rattle.std.proofs.Common.{ℕ, Contains, length}
use Rattle.fraction_poly.specs.TableRows.{HasPointsBelow}
use Rattle.geo_poly.specs.declared.variables.Var.{Var}
use Rattle.geo_poly.specs.declared.variables.Var.TheVariants.{R, S, P, X, Y, T}
use Rattle.geo_poly.specs.Polynomials.{Summands}
use Rattle.geo_poly.specs.PolynomialVariables.{AllVariables, variables_of}
use Rattle.geo_poly.proofs.EachVariable.{each-contained, each-variables, of-both}
use Rattle.geo_terms.specs.Constructions.{Construction}
use Rattle.geo_terms.specs.TermBounds.{IsTermBelow}
use Rattle.geo_terms.specs.Trees.{Tree}
use Rattle.geo_logs.specs.Naming.{IsNamed}
use Rattle.geo_logs.specs.Starts.{start_of}
use Rattle.geo_logs.proofs.TermVariables.{term_sound}

module _ (c : Construction) (n : ℕ) where
  pub variable_points : (v : Var) → IsNamed c n v → HasPointsBelow n v
  variable_points (R a b d e) h = h
  variable_points (S a b d) h = h
  variable_points (P a b d) h = h
  variable_points (X a) h = h.0
  variable_points (Y a) h = h.0
  variable_points (T t) h = tt

  pub named_points : (q : Summands) → AllVariables (IsNamed c n) q → AllVariables (HasPointsBelow n) q
  named_points q h = of-both (IsNamed c n) (IsNamed c n) (HasPointsBelow n) (λ v a b. variable_points v a) q h h

  -- so does each variable that occurs
  pub occurring_points : (q : Summands) → AllVariables (IsNamed c n) q → (v : Var) → Contains (variables_of q) v → HasPointsBelow n v
  occurring_points q h v stands = variable_points v (each-contained (IsNamed c n) (variables_of q) v (each-variables (IsNamed c n) q h) stands)

-- the start of a term names points of the construction
pub start_points : (c : Construction) (e : Tree) → IsTermBelow (length c.steps) c.params e → AllVariables (HasPointsBelow (length c.steps)) (start_of e)
start_points c e h = named_points c (length c.steps) (start_of e) ((term_sound c e).named (length c.steps) h)
