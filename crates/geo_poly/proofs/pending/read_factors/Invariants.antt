use Rattle.std.specs.Prelude.{IfSome}
use Rattle.geo_poly.specs.Inner.TermKeys.{AddsUp}
use Rattle.geo_poly.specs.Monomials.{IsMonomial}
use Rattle.geo_poly.specs.Shared.{IsIndexOf, told_powers}
use Rattle.geo_poly.proofs.FactorWalks.{Walked}
use Rattle.geo_poly.proofs.ZeroFactors.{Seen}
use Rattle.geo_poly.proofs.pending.read_factors.Given as goal

abbrev pub invariant-loop-first : goal.invariant-loop-first
invariant-loop-first g l = record {
  index : IsIndexOf l.p l.rest;
  seen : Seen l.setting.rows.now l.setting.top (told_powers l.p l.fn.id) (told_powers l.p l.rest) l.missing;
  walked : Walked l.setting (told_powers l.p l.fn.id) (told_powers l.p l.rest) l.numerators.items;
  monomial : IsMonomial (told_powers l.p l.rest);
  key : IfSome l.key (AddsUp l.p l.setting.rows.now l.setting.vars.now (g.K.MonomialKeys.keys l.keys) l.fn.id l.rest);
}

abbrev pub decreases-loop-first : goal.decreases-loop-first
decreases-loop-first g l = l.rest.0
