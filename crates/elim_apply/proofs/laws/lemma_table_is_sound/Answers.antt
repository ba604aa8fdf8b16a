use Rattle.elim_apply.proofs.MoveRows.{lemma_table_sound}
use Rattle.elim_apply.proofs.laws.lemma_table_is_sound.Goals as goal

pub returns : goal.returns
returns c = lemma_table_sound
