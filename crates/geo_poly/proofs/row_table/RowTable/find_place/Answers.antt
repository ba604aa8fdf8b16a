use Rattle.std.proofs.Common.{◌≡◌, List, slice_get, ap, subst, ◌∙◌, rules}
use Rattle.std.specs.Option.{option_and_then}
use Rattle.std.proofs.lemmas.Option.{IfSome_then}
use Rattle.geo_poly.specs.declared.rows.Row.{Row}
use Rattle.geo_poly.specs.Inner.RowTables.{IsKnown}
use Rattle.geo_poly.specs.Replace.{row_of}
use Rattle.geo_poly.proofs.row_table.RowTable.find_place.Goals as goal

pub returns-in-Some-clause-row : goal.returns-in-Some-clause-row
returns-in-Some-clause-row c =
    let rows = c.self.inside.rows.now in
    let same : c.self.inside.rows.now ≡ c.args.self.now = search rules in
    let there : IsKnown c.self.inside.rows.now c.in-Some.known.now = search rules in
    let is : c.in-Some.known.now.var ≡ c.args.v = search rules in
    let known : option_and_then (slice_get c.self.inside.rows.now) c.in-Some.known.now.place ≡ row_of c.self.inside.rows.now c.args.v = there ∙ ap (row_of rows) is in
    IfSome_then c.place_in.result c.place_in.ensures.row (λ i e. subst (λ (rs : List Row). slice_get rs i ≡ row_of rs c.args.v) same (e ∙ known))
