use Rattle.std.proofs.Common.{◌++◌, ℕ, List, take, ap, ◌∙◌, arith}
use Rattle.std.proofs.lemmas.List.{length-take-le}
use Rattle.proof_log.proofs.WordFronts.{first_known}
use Rattle.proof_log.proofs.WordTexts.{begun_since, begun_step, begun_whole}
use Rattle.proof_log.proofs.kept_texts.KeptTexts.push_powers.Goals as goal

pub returns-in-Some-clause-text : goal.returns-in-Some-clause-text
returns-in-Some-clause-text c =
    let names = c.args.names.now in
    let limits = c.args.digits.now in
    let now = c.loop-span.out.items in
    let tail = c.in-Some.ensures.kept names limits c.loop-span.invariant.kept in
    let text = c.text.ensures _ tail in
    c.in_ok-extend_from_slice.ensures.items ∙ ap (λ (l : List ℕ). now ++ l) text
    ∙ begun_whole names limits (take c.args.begin c.args.out.now.items) now c.args.word c.loop-span.rest c.loop-span.invariant.begun

pub push_numbered-requires : goal.push_numbered-requires
push_numbered-requires c =
    let power = c.first_power-power.result in
    let known = first_known c.args.digits.now c.loop-span.rest power.var power.exp _ c.first_power-power.ensures.powers in
    omega (arith, known, c.requires.names)

pub loop-span-preserved : goal.loop-span-preserved
loop-span-preserved c =
    let names = c.args.names.now in
    let limits = c.args.digits.now in
    let old = take c.args.begin c.args.out.now.items in
    let power = c.first_power-power.result in
    let new = c.push_numbered.new.out.items in
    let begun = begun_step names limits old c.loop-span.out.items c.args.word c.loop-span.rest c.loop-span.invariant.begun new power.var power.exp power.rest
    c.requires.word c.first_power-power.ensures.powers c.first_power-power.ensures.rest c.in_ok-push_numbered.ensures in
    let start = length-take-le c.args.begin c.args.out.now.items c.requires.begin in
    let since = begun_since names limits old new c.args.word power.rest begun c.deref.result.now c.args.begin c.deref.ensures.value start in
    record {
      kept = c.in_ok-keep_head.ensures names limits c.loop-span.invariant.kept since;
      begun = begun;
    }
