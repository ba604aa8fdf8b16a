use Rattle.std.proofs.Common.{◌≡◌, ◌∷◌, [], suc, codes, ap, ap₂, ◌∙◌, add-one, arith}
use Rattle.std.proofs.lemmas.Option.{slice_get_within}
use Rattle.geo_points.specs.declared.ids.PointId.{PointId}
use Rattle.geo_program.specs.Forms.{AreSidesStored, side_argument, statement_form}
use Rattle.geo_program.specs.declared.statements.Statement.TheVariants.{Equal}
use Rattle.geo_terms.specs.Stores.{node_tree, tree_of}
use Rattle.geo_terms.specs.Trees.{Tree}
use Rattle.geo_terms.specs.declared.nodes.Node.TheVariants.{S}
use Rattle.geo_prover.specs.Bench.{bench_statement, corner, x_area, y_area}
use Rattle.geo_prover.proofs.BenchSpelt.{bench_short, bench_spelt}
use Rattle.geo_prover.proofs.bench.bench_program.Goals as goal

pub invariant_of-result : goal.invariant_of-result
invariant_of-result c =
    let n = c.args.number in
    let nodes = c.intern-2.new.self in
    let e = c.in_ok-e.e in
    let f = c.in_ok-f.f in
    let statement = Equal e f in
    let over = λ (p : PointId). S (corner 0 0) p (corner 1 0) in
    let within = slice_get_within c.intern.new.self e.0 _ c.in_ok-e.ensures.node in
    let x : c.area_with.result ≡ over (corner 0 (suc n)) = c.area_with.ensures ∙ ap over (c.corner.ensures ∙ ap (corner 0) (add-one n)) in
    let y : c.area_with-2.result ≡ over (corner 1 (suc n)) = c.area_with-2.ensures ∙ ap over (c.corner-2.ensures ∙ ap (corner 1) (add-one n)) in
    let x_tree : tree_of nodes e ≡ x_area n = c.in_ok-f.ensures.others e within ∙ c.in_ok-e.ensures.tree ∙ ap (node_tree _) x in
    let y_tree : tree_of nodes f ≡ y_area n = c.in_ok-f.ensures.tree ∙ ap (node_tree _) y in
    let form : statement_form nodes statement ≡ bench_statement n =
    ap₂ (λ (t u : Tree). record { word = codes "equal"; arguments = side_argument t ∷ side_argument u ∷ [] }) x_tree y_tree in
    let sides : AreSidesStored nodes statement = (omega (arith, within, c.in_ok-f.ensures.longer), slice_get_within nodes f.0 _ c.in_ok-f.ensures.node) in
    record {
      spelt = ∣ bench_spelt n c.requires.first c.requires.last nodes statement form sides _ _ c.in_ok-names.ensures c.in_ok-commands.ensures ∣₁;
      short = bench_short n c.requires.first c.requires.last nodes statement form sides _ _ c.in_ok-names.ensures c.in_ok-commands.ensures;
    }
