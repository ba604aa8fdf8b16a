use Rattle.std.proofs.Common.{◌≡◌, ◌-◌, ◌++◌, drop, length, map, take, sym, ap, ap₂, subst, ◌∙◌, rules, arith}
use Rattle.std.specs.Ordering.{nat_cmp}
use Rattle.std.specs.Prelude.{slice_range}
use Rattle.std.proofs.lemmas.List.{length-drop, length-take-le, take-append-le, take-take}
use Rattle.sparse_lists.specs.Coefficients.{sum_of}
use Rattle.term_runs.specs.Runs.{IsRun, norm_of}
use Rattle.term_runs.proofs.Parts.{range_rest}
use Rattle.term_runs.proofs.room.join_parts.Goals as goal

pub merge_at-requires-clause-right : goal.merge_at-requires-clause-right
merge_at-requires-clause-right g c =
    let f = g.T.Term.pair in
    let items = c.args.items.now.items in
    let copied : c.as_slice.result.now ≡ slice_range items c.args.base c.args.middle = search rules in
    let whole : c.as_mut_slice.result.now ≡ items = search rules in
    let long : length c.as_slice.result.now ≡ c.args.middle - c.args.base =
    ap length copied ∙ length-take-le (c.args.middle - c.args.base) (drop c.args.base items)
    (omega (arith, length-drop c.args.base items, c.requires.middle, c.requires.end)) in
    let rest : drop (length c.as_slice.result.now) (slice_range c.as_mut_slice.result.now c.args.base c.args.end) ≡ slice_range items c.args.middle c.args.end =
    ap₂ (λ n xs. drop n (slice_range xs c.args.base c.args.end)) long whole ∙ range_rest items c.args.base c.args.middle c.args.end c.requires.base c.requires.middle in
    subst IsRun (sym (ap (map f) rest)) c.requires.right

pub merge_at-requires-clause-fits : goal.merge_at-requires-clause-fits
merge_at-requires-clause-fits g c =
    let f = g.T.Term.pair in
    let items = c.args.items.now.items in
    let copied : c.as_slice.result.now ≡ slice_range items c.args.base c.args.middle = search rules in
    let whole : c.as_mut_slice.result.now ≡ items = search rules in
    let long : length c.as_slice.result.now ≡ c.args.middle - c.args.base =
    ap length copied ∙ length-take-le (c.args.middle - c.args.base) (drop c.args.base items)
    (omega (arith, length-drop c.args.base items, c.requires.middle, c.requires.end)) in
    let rest : drop (length c.as_slice.result.now) (slice_range c.as_mut_slice.result.now c.args.base c.args.end) ≡ slice_range items c.args.middle c.args.end =
    ap₂ (λ n xs. drop n (slice_range xs c.args.base c.args.end)) long whole ∙ range_rest items c.args.base c.args.middle c.args.end c.requires.base c.requires.middle in
    omega (arith, ap (λ xs. norm_of (map f xs)) copied, ap (λ xs. norm_of (map f xs)) rest, c.requires.fits)

pub returns-clause-sum : goal.returns-clause-sum
returns-clause-sum g c =
    let f = g.T.Term.pair in
    let items = c.args.items.now.items in
    let copied : c.as_slice.result.now ≡ slice_range items c.args.base c.args.middle = search rules in
    let whole : c.as_mut_slice.result.now ≡ items = search rules in
    let long : length c.as_slice.result.now ≡ c.args.middle - c.args.base =
    ap length copied ∙ length-take-le (c.args.middle - c.args.base) (drop c.args.base items)
    (omega (arith, length-drop c.args.base items, c.requires.middle, c.requires.end)) in
    let rest : drop (length c.as_slice.result.now) (slice_range c.as_mut_slice.result.now c.args.base c.args.end) ≡ slice_range items c.args.middle c.args.end =
    ap₂ (λ n xs. drop n (slice_range xs c.args.base c.args.end)) long whole ∙ range_rest items c.args.base c.args.middle c.args.end c.requires.base c.requires.middle in
    let n = c.merge_at.result in
    let room = c.merge_at.new.items in
    let size : c.args.items.now.len ≡ length items = search rules in
    let same : length room ≡ length items = c.merge_at.ensures.len ∙ ap length whole in
    let kept : take n (take c.args.items.now.len (room ++ drop (length room) items)) ≡ take n room =
    take-take n c.args.items.now.len (room ++ drop (length room) items) (omega (arith, size, c.merge_at.ensures.within, c.requires.end))
    ∙ take-append-le n room (drop (length room) items) (omega (arith, same, c.merge_at.ensures.within, c.requires.end)) in
    ap (map f) kept ∙ c.merge_at.ensures.sum
    ∙ ap₂ (λ left right. left ++ right) (ap (λ xs. map f (take c.args.base xs)) whole) (ap₂ (sum_of nat_cmp) (ap (map f) copied) (ap (map f) rest))
