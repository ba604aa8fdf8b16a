use Rattle.std.proofs.Common.{◌≡◌, length, take}
use Rattle.std.specs.Prelude.{All}
use Rattle.geo_poly.specs.Inner.Factored.{numbered_terms}
use Rattle.geo_poly.specs.Inner.TermKeys.{IsKeyed}
use Rattle.geo_poly.specs.Shared.{told}
use Rattle.geo_poly.proofs.NumberedTerms.{counted}
use Rattle.geo_poly.proofs.PendingTerms.{Made}
use Rattle.geo_poly.proofs.pending.listed_terms.Given as goal

abbrev pub invariant-loop-term : goal.invariant-loop-term
invariant-loop-term g l = record {
  made : Made l.setting l.p (take l.term-index (told l.p)) (numbered_terms l.factors.items l.terms.items);
  counted : counted l.terms.items ≡ length l.factors.items;
  keyed : All (IsKeyed l.p l.setting.rows.now l.setting.vars.now (g.K.MonomialKeys.keys l.keys)) l.terms.items;
}
