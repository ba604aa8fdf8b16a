use Rattle.std.proofs.Common.{sym, subst}
use Rattle.std.specs.Prelude.{All}
use Rattle.std.proofs.lemmas.List.Elements.{All-push}
use Rattle.elim_apply.specs.Kept.{IsKept}
use Rattle.elim_apply.proofs.kept_rows.KnownRows.keep.Goals as goal

pub returns : goal.returns
returns c = λ k known kept. record {
  numbers = known.numbers;
  rows = subst (All (IsKept k)) (sym c.in_ok-push.ensures.items) (All-push (IsKept k) c.args.self.now.rows.items c.args.row known.rows kept);
}
