use Rattle.std.proofs.Common.{sym, subst}
use Rattle.std.specs.Prelude.{All}
use Rattle.std.proofs.lemmas.List.Elements.{All-nil}
use Rattle.elim_apply.specs.Kept.{IsKept}
use Rattle.elim_apply.proofs.kept_rows.KnownRows.new.Goals as goal

pub returns : goal.returns
returns c = λ k. record {
  numbers = c.in_ok-new.ensures k.nodes;
  rows = subst (All (IsKept k)) (sym c.new-2.ensures.items) (All-nil (IsKept k));
}
