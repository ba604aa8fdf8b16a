use Rattle.std.proofs.Common.{◌≡◌, ◌∙◌, codes, map, rules}
use Rattle.geo_program.specs.Names.{names_of}
use Rattle.geo_program.specs.declared.names.NameKind.TheVariants as kind
use Rattle.geo_lowering.specs.Counting.{param_places}
use Rattle.geo_lowering.specs.Lowering.{point_places}
use Rattle.proof_printer.specs.Inner.Names.{name_in}
use Rattle.proof_printer.specs.Naming.{name_or_number}
use Rattle.proof_printer.proofs.namer.Namer.new.Goals as goal

pub returns : goal.returns
returns c = λ version lowered.
    let p = c.args.program.now in
    let point_names : map (λ n. n.now) c.deref-4.result.now ≡ names_of kind.Point p.names = search rules in
    let param_names : map (λ n. n.now) c.deref-6.result.now ≡ names_of kind.Param p.names = search rules in
    let point_numbers : c.deref-3.result.now ≡ map (λ a. a.0) c.args.lowered.now.points = search rules in
    let param_numbers : c.deref-5.result.now ≡ map (λ t. t.0) c.args.lowered.now.params = search rules in
    let points : name_in c.in_ok-new.field-0 ≡ name_or_number (codes "#") c.deref-3.result.now (map (λ n. n.now) c.deref-4.result.now) = c.in_ok-new.ensures in
    let params : name_in c.in_ok-new-2.field-0 ≡ name_or_number (codes "#t") c.deref-5.result.now (map (λ n. n.now) c.deref-6.result.now) = c.in_ok-new-2.ensures in
    let points_are = point_numbers ∙ lowered.points in
    let params_are = param_numbers ∙ lowered.params in
    let all_points : name_in c.in_ok-new.field-0 ≡ name_or_number (codes "#") (point_places version 0 p.commands) (names_of kind.Point p.names) =
    points ∙ (λ i. name_or_number (codes "#") (points_are i) (point_names i)) in
    let all_params : name_in c.in_ok-new-2.field-0 ≡ name_or_number (codes "#t") (param_places 0 p.commands) (names_of kind.Param p.names) =
    params ∙ (λ i. name_or_number (codes "#t") (params_are i) (param_names i)) in
    λ i. record { point = all_points i; param = all_params i }
