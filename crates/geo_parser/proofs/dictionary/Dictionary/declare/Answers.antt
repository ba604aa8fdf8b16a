use Rattle.std.proofs.Common.{◌≡◌, ℕ, ◌++◌, ◌∷◌, [], List, sym, ap, subst, ◌∙◌, arith, length}
use Rattle.std.specs.BTreeMap.{get_by}
use Rattle.std.specs.Cmp.Lexicographic.{slice_cmp}
use Rattle.std.specs.Ordering.{nat_cmp}
use Rattle.std.proofs.lemmas.Map.Text.{btree_map_updates_str}
use Rattle.geo_program.specs.declared.names.Name.{Name}
use Rattle.geo_program.specs.declared.names.NameKind.{NameKind}
use Rattle.geo_parser.specs.Inner.Dictionaries.{IsDictionary, IsNew, counted}
use Rattle.geo_parser.proofs.DictionaryLemmas.{IsDictionary-declare, IsDictionary-same, count_of-dictionary, length-names_of, longer, new_name}
use Rattle.geo_parser.proofs.dictionary.Dictionary.declare.Goals as goal

pub with-self-inside-requires : goal.with-self-inside-requires
with-self-inside-requires c =
    let names = c.self.inside.names.items in
    omega (
      arith,
      count_of-dictionary names
          (λ w. get_by (λ key. slice_cmp nat_cmp w key.now) c.self.inside.meanings) c.self.inside.counts c.args.kind c.self.invariant,
      length-names_of c.args.kind names,
      ap length c.self.view_is,
      c.requires.room,
    )

pub invariant_of-self-2 : goal.invariant_of-self-2
invariant_of-self-2 c =
    let names : List Name = c.self.inside.names.items in
    let word : List ℕ = c.args.word.now in
    let kind : NameKind = c.args.kind in
    let look_up = λ (w : List ℕ). get_by (λ key. slice_cmp nat_cmp w key.now) c.self.inside.meanings in
    let look_up_new = λ (w : List ℕ). get_by (λ key. slice_cmp nat_cmp w key.now) c.insert.new.self in
    let items : c.push.new.self.items ≡ names ++ new_name names word kind ∷ [] =
    c.in_ok-push.ensures.items ∙ ap (λ ns. ns ++ (record { text = c.in_ok-bytes.bytes.items; kind = kind }) ∷ []) c.in_ok-reserve.ensures.items
    ∙ ap (λ t. names ++ (record { text = t; kind = kind }) ∷ []) c.in_ok-bytes.ensures.items in
    let new : IsNew names word = subst (λ ns. IsNew ns word) (sym c.self.view_is) c.requires.new in
    let valid = IsDictionary-declare names word kind look_up c.self.inside.counts c.of-number.result c.self.invariant new c.of-number.ensures in
    let same : (q : List ℕ) → look_up_new q ≡ longer names word kind look_up c.of-number.result q =
    btree_map_updates_str word c.self.inside.meanings c.insert.new.self _ c.in_ok-insert.ensures.updates in
    subst (λ k. IsDictionary c.push.new.self.items look_up_new k) (sym c.with-self-inside.ensures)
    (subst (λ ns. IsDictionary ns look_up_new (counted c.self.inside.counts kind)) (sym items)
    (IsDictionary-same _ _ look_up_new _ same valid))
