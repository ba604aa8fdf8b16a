use Rattle.std.proofs.Common.{◌≡◌, Some, sym, subst, ◌∙◌}
use Rattle.std.proofs.lemmas.List.Elements.{All-set}
use Rattle.std.proofs.lemmas.Option.{get_or_from_slice_get}
use Rattle.elim_apply.specs.declared.kept_row.KeptRow.{KeptRow}
use Rattle.elim_apply.specs.Kept.{IsKept}
use Rattle.elim_apply.proofs.KeptLemmas.{its_row, kept_at, with_made}
use Rattle.elim_apply.proofs.kept_rows.KnownRows.put_row.Goals as goal

pub returns : goal.returns
returns c = λ k known own.
    let rows = c.args.self.now.rows.items in
    let i = c.in-Some.i in
    let found = c.in-Some.ensures in
    let kept = found.0 in
    let here = kept_at k rows i kept found.1 known.rows in
    let is : c.index_mut.result.now ≡ kept = c.index_mut.ensures.value ∙ get_or_from_slice_get rows i kept c.index_mut.result.now found.1 in
    record {
      numbers = known.numbers;
      rows = All-set (IsKept k) rows i _
          (subst (λ (x : KeptRow). IsKept k (record { mv = x.mv; var = x.var; draft = x.draft; numbers = x.numbers; made = Some c.args.row; den = x.den })) (sym is)
          (with_made k kept here (Some c.args.row) (its_row k kept here c.args.mv.now c.args.row.var (Some c.args.row) found.2 found.3 own))) known.rows;
    }
