use Rattle.std.proofs.Common.{◌≡◌, List, length, ap, ◌∙◌, arith}
use Rattle.std.specs.List.{filter}
use Rattle.geo_program.specs.declared.commands.Command.{Command}
use Rattle.geo_lowering.specs.Counting.{has_number}
use Rattle.geo_lowering.proofs.Small.{program_commands}
use Rattle.geo_conditions.specs.Truth.{is_free}
use Rattle.geo_place.proofs.ValueLists.{filter_few, frees_counted, numbers_counted}
use Rattle.geo_place.proofs.values.wanted.Goals as goal

pub overflow_mul-result : goal.overflow_mul-result
overflow_mul-result c =
    let cs = c.args.program.now.commands in
    let few = program_commands c.args.program.now in
    let e : c.free_points.result ≡ length (filter is_free cs) = c.free_points.ensures ∙ ap (λ (ds : List Command). length (filter is_free ds)) c.as_slice-commands.ensures in
    omega (arith, few, e, filter_few is_free cs)

pub overflow_add-result : goal.overflow_add-result
overflow_add-result c =
    let cs = c.args.program.now.commands in
    let few = program_commands c.args.program.now in
    let e : c.free_points.result ≡ length (filter is_free cs) = c.free_points.ensures ∙ ap (λ (ds : List Command). length (filter is_free ds)) c.as_slice-commands.ensures in
    let f : c.numbers.result ≡ length (filter has_number cs) = c.numbers.ensures ∙ ap (λ (ds : List Command). length (filter has_number ds)) c.as_slice-commands.ensures in
    omega (arith, few, e, f, filter_few is_free cs, filter_few has_number cs)

pub returns : goal.returns
returns c =
    let cs = c.args.program.now.commands in
    let e : c.free_points.result ≡ length (filter is_free cs) = c.free_points.ensures ∙ ap (λ (ds : List Command). length (filter is_free ds)) c.as_slice-commands.ensures in
    let f : c.numbers.result ≡ length (filter has_number cs) = c.numbers.ensures ∙ ap (λ (ds : List Command). length (filter has_number ds)) c.as_slice-commands.ensures in
    omega (arith, e, f, frees_counted 0 cs, numbers_counted 0 cs)
