use Rattle.std.proofs.Common.{map, [], ℕ, ◌+◌, ◌≡◌, sym, ◌∙◌, ap, subst, slice_index_or, Vec, Global, rules}
use Rattle.std.proofs.lemmas.List.{length-map}
use Rattle.geo_program.specs.Names.{names_of}
use Rattle.geo_library.specs.Renamings.{given_names}
use Rattle.geo_library.proofs.NamesGiven.{AreNumbersSoFar, left_at, left_here, left_other, not_named, one_more, same_left}
use Rattle.geo_library.proofs.renaming.numbers_of.Goals as goal
use Rattle.geo_library.proofs.renaming.numbers_of.Goals.{then-eq+in-Some+in_ok-push, else-eq}

pub returns-in_default : goal.returns-in_default
returns-in_default c =
    let kind = c.args.kind in
    let cited = c.args.cited.now in
    let texts = map (λ t. t.now) c.args.texts.now in
    let k = c.loop-k.k in
    let name = c.index-cited-k.result in
    let same : name.kind ≡ kind = search rules in
    not_named kind c.args.citing.now (names_of kind (given_names cited texts)) (left_at kind cited texts k) c.loop-k.numbers.items c.loop-k.invariant
    (slice_index_or texts k []) (left_at kind cited texts (k + 1))
    (left_here kind cited texts k name c.loop-k-test.true (length-map c.args.texts.now (λ t. t.now) ∙ c.requires) c.index-cited-k.is same)
    (λ n b e. c.in_default.ensures.none (names_of kind c.args.citing.now) c.in_ok-known.ensures n b (e ∙ sym c.text_at.ensures))

pub loop-k-preserved : goal.loop-k-preserved
loop-k-preserved c =
    let kind = c.args.kind in
    let cited = c.args.cited.now in
    let citing = c.args.citing.now in
    let texts = map (λ t. t.now) c.args.texts.now in
    let k = c.loop-k.k in
    let name = c.index-cited-k.result in
    let all = names_of kind (given_names cited texts) in
    let numbers = c.loop-k.numbers.items in
    let long = length-map c.args.texts.now (λ t. t.now) ∙ c.requires in
    elim c.if-eq.branch [
      | then-eq+in-Some+in_ok-push w ↦
          let same : name.kind ≡ kind = search rules in
          one_more kind citing all (left_at kind cited texts k) numbers c.loop-k.invariant (slice_index_or texts k []) (left_at kind cited texts (k + 1)) w.in-Some.number c.if-eq.numbers.items
          (left_here kind cited texts k name c.loop-k-test.true long c.index-cited-k.is same)
          (w.in-Some.ensures.declared (names_of kind citing) c.in_ok-known.ensures) (w.in-Some.ensures.named (names_of kind citing) c.in_ok-known.ensures ∙ w.text_at.ensures)
          (ap (λ (v : Vec ℕ Global). v.items) w.numbers-is ∙ w.in_ok-push.ensures.items)
      | else-eq w ↦
          let other : name.kind ≡ kind → ⊥ = search rules in
          subst (λ (v : Vec ℕ Global). AreNumbersSoFar kind citing all (left_at kind cited texts (k + 1)) v.items) (sym w.numbers-is)
          (same_left kind citing all (left_at kind cited texts k) numbers c.loop-k.invariant (left_at kind cited texts (k + 1))
          (left_other kind cited texts k name c.loop-k-test.true long c.index-cited-k.is other))
    ]
