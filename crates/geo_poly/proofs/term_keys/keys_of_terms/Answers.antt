use Rattle.std.proofs.Common.{List, subst, sym}
use Rattle.std.specs.Prelude.{All}
use Rattle.geo_poly.specs.declared.pending.Listed.{Listed}
use Rattle.geo_poly.specs.Inner.TermKeys.{IsKeyed}
use Rattle.geo_poly.proofs.term_keys.keys_of_terms.Goals as goal

pub returns-then-listing-clause-table : goal.returns-then-listing-clause-table
returns-then-listing-clause-table g c =
    let setting = c.args.setting.now in
    let p = c.args.p.now in
    let keys = g.K.MonomialKeys.keys c.args.keys.now in
    record {
      listed = subst (λ (ts : List Listed). All (IsKeyed p setting.rows.now setting.vars.now keys) ts) (sym c.as_slice-listed.ensures.value) c.requires.keyed;
      moved = c.none-moved.ensures p setting.rows.now setting.vars.now keys c.requires.parts;
    }
