use Rattle.std.proofs.Common.{List, refl, sym, subst}
use Rattle.std.specs.List.{All}
use Rattle.std.proofs.lemmas.List.Elements.{All-append, All-nil, All-replicate, All-take}
use Rattle.proof_log.specs.declared.kept_texts.Head.{Head}
use Rattle.proof_log.specs.declared.kept_texts.Tail.{Tail}
use Rattle.proof_log.specs.Inner.KeptTexts.{IsHead, IsTail}
use Rattle.proof_log.proofs.WordTexts.{tail_of_none}
use Rattle.proof_log.proofs.kept_texts.KeptTexts.new.Goals as goal

pub returns : goal.returns
returns c = λ names limits.
    let none : Tail = record { word = 0; text = record { start = 0; end = 0 } } in
    let heads = IsHead names limits c.new.result.items in
    let tails = IsTail names limits c.new.result.items in
    let before = subst (λ (ts : List Tail). All tails ts) (sym c.new-tails.ensures.items) (All-nil tails) in
    record {
      heads = subst (λ (hs : List Head). All heads hs) (sym c.new-2.ensures.items) (All-nil heads);
      tails = subst (λ (ts : List Tail). All tails ts) (sym c.in_ok-resize.ensures.items)
          (All-append tails _ _ (All-take tails c.places_for.result c.new-tails.result.items before)
          (All-replicate tails _ none (tail_of_none names limits c.new.result.items 0 refl)));
    }
