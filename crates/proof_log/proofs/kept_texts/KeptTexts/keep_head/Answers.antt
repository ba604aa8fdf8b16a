use Rattle.std.proofs.Common.{List, sym, subst}
use Rattle.std.specs.List.{All}
use Rattle.proof_log.specs.declared.kept_texts.Head.{Head}
use Rattle.proof_log.specs.Inner.KeptTexts.{IsHead}
use Rattle.proof_log.proofs.WordTexts.{heads_more}
use Rattle.proof_log.proofs.kept_texts.KeptTexts.keep_head.Goals as goal

pub returns : goal.returns
returns c = λ names limits kept begin.
    let now = c.in_ok-text.ensures.kept names limits kept in
    let bytes = c.keep.new.self.bytes.items in
    let head : Head = record { word = c.args.word; room = c.args.room; text = c.in_ok-text.text } in
    let is : IsHead names limits bytes head = record { text = c.args.text.now; span = c.in_ok-text.ensures.span; begin = begin } in
    record {
      heads = subst (λ (hs : List Head). All (IsHead names limits bytes) hs) (sym c.in_ok-push.ensures.items)
          (heads_more names limits bytes c.keep.new.self.heads.items head is now.heads);
      tails = now.tails;
    }
