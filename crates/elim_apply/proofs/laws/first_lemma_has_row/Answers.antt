use Rattle.elim_apply.proofs.FirstRows as First
use Rattle.elim_apply.proofs.laws.first_lemma_has_row.Goals as goal

pub returns : goal.returns
returns c = First.first_lemma_has_row
