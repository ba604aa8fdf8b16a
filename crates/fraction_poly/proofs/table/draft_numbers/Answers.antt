use Rattle.std.proofs.Common.{Some, ap, ◌∙◌}
use Rattle.fraction_poly.specs.declared.table.RowNumbers.{RowNumbers}
use Rattle.fraction_poly.specs.Inner.Drafts.{row_of_draft}
use Rattle.fraction_poly.specs.TableRows.{row_numbers}
use Rattle.geo_terms.specs.Stores.{Store}
use Rattle.fraction_poly.proofs.table.draft_numbers.Goals as goal

pub returns-in_ok-numbers-in-Some : goal.returns-in_ok-numbers-in-Some
returns-in_ok-numbers-in-Some c =
    let row = c.in-Some.row in
    rw c.in-Some.is
    (ap (λ (n : RowNumbers). Some n) (c.in_ok-numbers-in-Some.ensures.numbers ∙ ap (λ (nodes : Store). row_numbers (row_of_draft nodes row)) c.look.ensures))
