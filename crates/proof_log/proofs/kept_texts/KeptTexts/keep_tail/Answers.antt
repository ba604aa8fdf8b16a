use Rattle.std.proofs.Common.{◌-◌, List, ℕ, drop, length, subst, ◌∙◌, arith}
use Rattle.std.proofs.lemmas.List.{length-drop, take_all}
use Rattle.std.proofs.lemmas.List.Elements.{All-set}
use Rattle.proof_log.specs.declared.kept_texts.Tail.{Tail}
use Rattle.proof_log.specs.Inner.KeptTexts.{IsSpan, IsTail}
use Rattle.proof_log.proofs.kept_texts.KeptTexts.keep_tail.Goals as goal

pub returns : goal.returns
returns c = λ names limits kept is.
    let now = c.in_ok-text.ensures.kept names limits kept in
    let bytes = c.keep.new.self.bytes.items in
    let tail : Tail = record { word = c.args.word; text = c.in_ok-text.text } in
    let out = c.args.out.now in
    let all = take_all (length out - c.args.start) (drop c.args.start out) (omega (arith, length-drop c.args.start out)) in
    let span = subst (λ (l : List ℕ). IsSpan bytes c.in_ok-text.text l) (all ∙ is) c.in_ok-text.ensures.span in
    record {
      heads = now.heads;
      tails = All-set (IsTail names limits bytes) c.keep.new.self.tails.items c.place-place.result tail span now.tails;
    }
