use Rattle.std.proofs.Common.{List, refl, sym, subst}
use Rattle.std.specs.List.{All}
use Rattle.std.proofs.lemmas.List.Elements.{All-append, All-nil, All-replicate, All-take}
use Rattle.elim_apply.specs.declared.kept_shares.Tail.{Tail}
use Rattle.elim_apply.specs.Inner.KeptShares.{IsTail}
use Rattle.elim_apply.proofs.KeptShares.{begin_none, tail_none}
use Rattle.elim_apply.proofs.kept_shares.KeptShares.new.Goals as goal

pub returns : goal.returns
returns c = λ known limits.
    let none : Tail = record { word = 0; share = c.of_one-share.result } in
    let tails = IsTail known limits in
    let before = subst (λ (ts : List Tail). All tails ts) (sym c.new-tails.ensures.items) (All-nil tails) in
    record {
      head = begin_none known limits c.of_one-share.result 0 0 c.of_one-share.ensures refl;
      tails = subst (λ (ts : List Tail). All tails ts) (sym c.in_ok-resize.ensures.items)
          (All-append tails _ _ (All-take tails c.min.result c.new-tails.result.items before)
          (All-replicate tails _ none (tail_none known limits c.of_one-share.result c.of_one-share.ensures)));
    }
