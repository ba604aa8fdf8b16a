use Rattle.std.proofs.Common.{◌≡◌, true, false, sym, ◌∙◌}
use Rattle.std.specs.BTreeMap.{get_by}
use Rattle.std.specs.Cmp.Lexicographic.{slice_cmp}
use Rattle.std.specs.Ordering.{nat_cmp}
use Rattle.geo_program.proofs.NameLemmas.{same_kind}
use Rattle.geo_program.specs.Names.{is_kind}
use Rattle.geo_parser.proofs.DictionaryLemmas.{misused_kind, misused_unknown, numbered, same_kind_test, told, told_none}
use Rattle.geo_parser.proofs.dictionary.Dictionary.number.Goals as goal

pub returns-in-Some-clause-number : goal.returns-in-Some-clause-number
returns-in-Some-clause-number c =
    let meant = told c.self.inside.names.items
    (λ w. get_by (λ key. slice_cmp nat_cmp w key.now) c.self.inside.meanings) c.self.inside.counts c.args.self.now c.self.view_is
    c.self.invariant c.args.word.now c.get.result c.get.ensures.value c.in-Some.meaning c.in-Some.is in
    let kinds : is_kind c.in-Some.meaning.now.kind c.args.kind ≡ true = sym (same_kind_test c.in-Some.meaning.now.kind c.args.kind) ∙ sym c.eq.ensures ∙ c.if-eq.true in
    numbered c.args.self.now c.args.kind c.args.word.now c.in-Some.meaning.now meant (same_kind _ _ kinds)

pub returns-in-Some-2-clause-refused : goal.returns-in-Some-2-clause-refused
returns-in-Some-2-clause-refused c =
    let meant = told c.self.inside.names.items
    (λ w. get_by (λ key. slice_cmp nat_cmp w key.now) c.self.inside.meanings) c.self.inside.counts c.args.self.now c.self.view_is
    c.self.invariant c.args.word.now c.get.result c.get.ensures.value c.in-Some.meaning c.in-Some.is in
    let kinds : is_kind c.in-Some.meaning.now.kind c.args.kind ≡ false = sym (same_kind_test c.in-Some.meaning.now.kind c.args.kind) ∙ sym c.eq.ensures ∙ c.if-eq.false in
    misused_kind c.args.self.now c.args.kind c.args.word.now c.in-Some.meaning.now meant kinds

pub returns-in-None-2-clause-refused : goal.returns-in-None-2-clause-refused
returns-in-None-2-clause-refused c =
    let none = told_none c.self.inside.names.items
    (λ w. get_by (λ key. slice_cmp nat_cmp w key.now) c.self.inside.meanings) c.self.inside.counts c.args.self.now c.self.view_is
    c.self.invariant c.args.word.now c.get.result c.get.ensures.value c.in-None-2.is in
    misused_unknown c.args.self.now c.args.kind c.args.word.now (sym c.is_reserved.ensures ∙ c.if-is_reserved.false) none
