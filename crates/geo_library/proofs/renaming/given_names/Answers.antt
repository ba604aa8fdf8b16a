use Rattle.std.proofs.Common.{ℕ, ◌+◌, drop, List, length, map, subst, sym, ◌<◌, ◌≤◌, ◌∙◌, ap, Vec, Global, ◌∷◌, ◌≡◌, ◌++◌, [], slice_index_or}
use Rattle.std.proofs.lemmas.List.{length-map}
use Rattle.geo_program.specs.declared.names.Name.{Name}
use Rattle.geo_library.specs.Renamings.{given_names}
use Rattle.geo_library.proofs.NamesGiven.{name_more, name_past}
use Rattle.geo_library.proofs.renaming.given_names.Goals as goal
use Rattle.geo_library.proofs.renaming.given_names.Goals.{then-k-texts+in_ok-name_with+in_ok-push, else-k-texts}

pub loop-k-preserved : goal.loop-k-preserved
loop-k-preserved c =
    let cited = c.args.cited.now in
    let texts = map (λ t. t.now) c.args.texts.now in
    let k = c.loop-k.k in
    let name = c.index-cited-k.result in
    let names = c.loop-k.names.items in
    let long = sym (length-map c.args.texts.now (λ t. t.now)) in
    elim c.if-k-texts.branch [
      | then-k-texts+in_ok-name_with+in_ok-push w ↦
          name_more cited texts k name c.loop-k-test.true c.index-cited-k.is (given_names cited texts) names c.loop-k.invariant
          (subst (λ (n : ℕ). k < n) long w.if-k-texts.true) w.in_ok-name_with.field-0
          (w.in_ok-name_with.ensures ∙ ap (λ (t : List ℕ). record { text = t; kind = name.kind }) w.text_at.ensures)
          c.if-k-texts.names.items (ap (λ (v : Vec Name Global). v.items) w.names-is ∙ w.in_ok-push.ensures.items)
      | else-k-texts w ↦
          subst (λ (ns : Vec Name Global). given_names cited texts ≡ ns.items ++ given_names (drop (k + 1) cited) (drop (k + 1) texts)) (sym w.names-is)
          (name_past cited texts k name c.loop-k-test.true c.index-cited-k.is (given_names cited texts) names c.loop-k.invariant
          (subst (λ (n : ℕ). n ≤ k) long w.if-k-texts.false))
    ]
