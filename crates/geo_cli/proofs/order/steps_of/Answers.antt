use Rattle.std.proofs.Common.{◌∷◌, [], ◌∙◌, sym, ap, codes, Some, rules}
use Rattle.std.specs.String.{string_bytes}
use Rattle.std.proofs.lemmas.Bool.Decides.{Decides-eqb}
use Rattle.std.proofs.lemmas.Slice.Eq.{strip_prefix_is}
use Rattle.geo_cli.specs.Words.{bytes_of_words}
use Rattle.geo_cli.proofs.OrderLemmas.{option_words}
use Rattle.geo_cli.proofs.order.steps_of.Goals as goal

pub returns-then-eq-clause-told : goal.returns-then-eq-clause-told
returns-then-eq-clause-told c = record {
  option = string_bytes c.in-Some.word.now ∷ c.as_bytes.result.now ∷ [];
  joined = option_words _ _ _ _ _ _ c.in-Some.ensures.cases.0 c.in_ok-text.ensures.cases.0 c.as_bytes.ensures.value;
  told = (search rules, (c.in_ok-number_of.ensures.written, c.in_ok-number_of.ensures.least, c.in_ok-number_of.ensures.most));
  all = λ none. cc;
}

pub returns-clause-told : goal.returns-clause-told
returns-clause-told c = record {
  option = string_bytes c.in-Some.word.now ∷ [];
  joined = ap bytes_of_words c.in-Some.ensures.cases.0;
  told = (
    c.in_ok-text-2.text.now,
    sym c.as_bytes-2.ensures.value ∙ strip_prefix_is Decides-eqb _ (codes "--steps=") (Some c.in_ok-text-2.text) c.in_ok-text-2.ensures.cases,
    (c.in_ok-number_of-2.ensures.written, c.in_ok-number_of-2.ensures.least, c.in_ok-number_of-2.ensures.most),
  );
  all = λ none. cc;
}
