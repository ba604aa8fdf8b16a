-- The three meanings exclude each other.
use Rattle.log_checker.specs.Laws.{MeaningsExclude}

pub meanings_exclude : MeaningsExclude
meanings_exclude = record {
  true_or_refuted = λ p t r. r.fails (t.holds r.placed r.meets);
  true_or_impossible = λ p t i. i t.placed t.meets;
  refuted_or_impossible = λ p r i. i r.placed r.meets;
}
