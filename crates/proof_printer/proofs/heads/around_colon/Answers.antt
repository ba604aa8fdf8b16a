use Rattle.std.proofs.Common.{◌≡◌, ◌++◌, drop, take, ap, rules, subst, sym, ◌∙◌}
use Rattle.std.specs.Prelude.{ℕ, List}
use Rattle.proof_log.specs.Inner.Reading.{Passes, StopsAt}
use Rattle.proof_log.proofs.Runs.{prefix_passes}
use Rattle.proof_printer.specs.Inner.Colons.{is_before_colon}
use Rattle.proof_printer.proofs.HeadTexts.{at_colon}
use Rattle.proof_printer.proofs.heads.around_colon.Goals as goal

pub returns : goal.returns
returns c = λ front behind passes split.
    let bytes : List ℕ = c.args.piece.now in
    let one = subst (Passes is_before_colon) (sym (c.split_at.ensures.front ∙ ap (λ (n : ℕ). take n bytes) c.before_colon.ensures.run)) (prefix_passes is_before_colon bytes).0 in
    let stops = subst (StopsAt is_before_colon) (sym (c.split_at.ensures.back ∙ ap (λ (n : ℕ). drop n bytes) c.before_colon.ensures.run)) (prefix_passes is_before_colon bytes).1 in
    let whole : bytes ≡ c.split_at.result.0.now ++ c.split_at.result.1.now = search rules in
    let found = at_colon bytes front behind c.split_at.result.0.now c.split_at.result.1.now split passes whole one stops in
    (found.0, c.behind_two.ensures 58 32 behind found.1)
