use Rattle.std.proofs.Common.{sym, ◌∙◌}
use Rattle.std.specs.BTreeMap.{get_by}
use Rattle.std.specs.Cmp.Lexicographic.{slice_cmp}
use Rattle.std.specs.Ordering.{nat_cmp}
use Rattle.geo_parser.proofs.DictionaryLemmas.{not_new_declared, told, told_none}
use Rattle.geo_parser.proofs.dictionary.Dictionary.check_new.Goals as goal

pub returns-in-Some-clause-refused : goal.returns-in-Some-clause-refused
returns-in-Some-clause-refused c =
    not_new_declared c.args.self.now c.args.word.now c.in-Some.field-0.now
    (told c.self.inside.names.items
    (λ w. get_by (λ key. slice_cmp nat_cmp w key.now) c.self.inside.meanings) c.self.inside.counts c.args.self.now c.self.view_is
    c.self.invariant c.args.word.now c.get.result c.get.ensures.value c.in-Some.field-0 c.in-Some.is)

pub returns-in-None-clause-new : goal.returns-in-None-clause-new
returns-in-None-clause-new c = record {
  free = sym c.is_reserved.ensures ∙ c.if-is_reserved.false;
  undeclared =
      told_none c.self.inside.names.items
      (λ w. get_by (λ key. slice_cmp nat_cmp w key.now) c.self.inside.meanings) c.self.inside.counts c.args.self.now c.self.view_is c.self.invariant
      c.args.word.now c.get.result c.get.ensures.value c.in-None.is;
}
