use Rattle.std.proofs.Common.{◌∙◌, length, ap, sym}
use Rattle.std.specs.Prelude.{vec_len}
use Rattle.proof_log.specs.Lines.{line_text}
use Rattle.log_checker.proofs.ByText.{feed_off}
use Rattle.log_checker.proofs.by_text.is_text_of.Goals as goal

pub returns : goal.returns
returns c = λ same.
    let written = c.text.view_is ∙ c.in_ok-text.ensures in
    let left = c.as_slice.ensures.value in
    let off =
    feed_off (line_text c.args.line.now) c.pop-feed.new.self.items 10 c.pop-feed.result (vec_len c.pop-feed.new.self) (vec_len c.text.inside.bytes)
    (sym written ∙ c.pop-feed.ensures.items) (sym (ap length left) ∙ c.as_slice.ensures.len) c.pop-feed.ensures.cases in
    off ∙ sym left ∙ c.is_same.ensures same
