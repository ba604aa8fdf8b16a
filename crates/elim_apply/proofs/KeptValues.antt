-- What a move by the lemma table does to the value of a polynomial.
use Rattle.fraction_poly.specs.Laws.{polynomial_value}
use Rattle.elim_apply.specs.LemmaTable.{lemma_table}
use Rattle.elim_apply.specs.Multiples.{MoveKeepsValue}
use Rattle.elim_apply.proofs.MoveRows.{lemma_table_sound}
use Rattle.geo_logs.proofs.MoveValues.{move_kept}

pub value_kept : MoveKeepsValue
value_kept c valid move left p q moved placed met has =
    let kept = move_kept placed lemma_table c (lemma_table_sound c valid) move left p q met has moved in
    record {
      factor = polynomial_value placed (lemma_table.denominator c move).poly;
      exponent = kept.exponent;
      nonzero = kept.nonzero;
      value = kept.value;
      defined = kept.defined;
    }
