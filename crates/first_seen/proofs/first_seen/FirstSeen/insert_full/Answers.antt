use Rattle.std.proofs.Common.{◌≡◌, ◌<◌, ◌++◌, ◌∷◌, [], true, false, Some, eqb, length, not, slice_get, sym, ap, subst, ◌∙◌, rules}
use Rattle.std.proofs.lemmas.Cmp.{eq_by_cmp_equiv}
use Rattle.std.proofs.lemmas.Option.{slice_get_within}
use Rattle.std.specs.BTreeMap.{get}
use Rattle.std.specs.List.{list_any}
use Rattle.std.specs.Ordering.{eq_by_cmp}
use Rattle.first_seen.specs.Inner.{ArePlaces}
use Rattle.first_seen.specs.Keys.{with_key}
use Rattle.first_seen.proofs.Places.{ArePlaces_push, known_there, last_push, none_there, told, with_known, with_new}
use Rattle.first_seen.proofs.first_seen.FirstSeen.insert_full.Goals as goal

pub invariant_of-self-in-Continue-branch-3 : goal.invariant_of-self-in-Continue-branch-3
invariant_of-self-in-Continue-branch-3 g c =
    let eq = eq_by_cmp g.K.Ord.cmp in
    let keys = c.self.inside.keys.items in
    let items : c.push.new.self.items ≡ keys ++ c.args.key ∷ [] =
    c.in_ok-push.ensures.items ∙ ap (λ ks. ks ++ c.args.key ∷ []) c.in_ok-reserve.ensures.items in
    let last : c.in_ok-place.place ≡ length keys = search rules in
    subst (λ ks. ArePlaces eq ks (get g.K.Ord.cmp c.place_of.new.places)) (sym items)
    (ArePlaces_push eq (eq_by_cmp_equiv g.met.K.Ord.total) keys c.args.key c.in_ok-place.place
    (get g.K.Ord.cmp c.self.inside.places) (get g.K.Ord.cmp c.place_of.new.places) last c.in_ok-place.ensures.updates c.self.invariant)

pub returns-in_ok-push-clause-keys : goal.returns-in_ok-push-clause-keys
returns-in_ok-push-clause-keys g c =
    let eq = eq_by_cmp g.K.Ord.cmp in
    let keys = c.self.inside.keys.items in
    let none = none_there eq keys c.args.key (get g.K.Ord.cmp c.self.inside.places c.args.key) c.in_ok-place.place c.len-next.result (c.self.invariant c.args.key)
    (search rules) c.in_ok-place.ensures.place (search rules) in
    c.in_ok-push.ensures.items ∙ ap (λ ks. ks ++ c.args.key ∷ []) c.in_ok-reserve.ensures.items
    ∙ with_new eq keys c.args.key none ∙ ap (λ ks. with_key eq ks c.args.key) c.self.view_is

pub returns-in_ok-push-clause-added : goal.returns-in_ok-push-clause-added
returns-in_ok-push-clause-added g c =
    let eq = eq_by_cmp g.K.Ord.cmp in
    let keys = c.self.inside.keys.items in
    let none = none_there eq keys c.args.key (get g.K.Ord.cmp c.self.inside.places c.args.key) c.in_ok-place.place c.len-next.result (c.self.invariant c.args.key)
    (search rules) c.in_ok-place.ensures.place (search rules) in
    let is : eqb c.in_ok-place.place c.len-next.result ≡ true = search rules in
    is ∙ ap not (sym none ∙ ap (λ ks. list_any (eq c.args.key) ks) c.self.view_is)

pub returns-in_ok-push-clause-stored : goal.returns-in_ok-push-clause-stored
returns-in_ok-push-clause-stored g c =
    let keys = c.self.inside.keys.items in
    let items : c.push.new.self.items ≡ keys ++ c.args.key ∷ [] =
    c.in_ok-push.ensures.items ∙ ap (λ ks. ks ++ c.args.key ∷ []) c.in_ok-reserve.ensures.items in
    let last : c.in_ok-place.place ≡ length keys = search rules in
    let there : slice_get (keys ++ c.args.key ∷ []) c.in_ok-place.place ≡ Some c.args.key =
    subst (λ n. slice_get (keys ++ c.args.key ∷ []) n ≡ Some c.args.key) (sym last) (last_push keys c.args.key) in
    (c.args.key, subst (λ ks. slice_get ks c.in_ok-place.place ≡ Some c.args.key) (sym items) there, (eq_by_cmp_equiv g.met.K.Ord.total).refl c.args.key)

pub returns-else-added-clause-keys : goal.returns-else-added-clause-keys
returns-else-added-clause-keys g c =
    let eq = eq_by_cmp g.K.Ord.cmp in
    let keys = c.self.inside.keys.items in
    let known = known_there eq keys c.args.key (get g.K.Ord.cmp c.self.inside.places c.args.key) c.in_ok-place.place c.len-next.result (c.self.invariant c.args.key)
    (search rules) c.in_ok-place.ensures.place (search rules) in
    c.in_ok-reserve.ensures.items ∙ with_known eq keys c.args.key c.in_ok-place.place known ∙ ap (λ ks. with_key eq ks c.args.key) c.self.view_is

pub returns-else-added-clause-added : goal.returns-else-added-clause-added
returns-else-added-clause-added g c =
    let eq = eq_by_cmp g.K.Ord.cmp in
    let keys = c.self.inside.keys.items in
    let known = known_there eq keys c.args.key (get g.K.Ord.cmp c.self.inside.places c.args.key) c.in_ok-place.place c.len-next.result (c.self.invariant c.args.key)
    (search rules) c.in_ok-place.ensures.place (search rules) in
    let is : eqb c.in_ok-place.place c.len-next.result ≡ false = search rules in
    is ∙ ap not (sym (told eq keys c.args.key (Some c.in_ok-place.place) known) ∙ ap (λ ks. list_any (eq c.args.key) ks) c.self.view_is)

pub returns-else-added-clause-within : goal.returns-else-added-clause-within
returns-else-added-clause-within g c =
    let eq = eq_by_cmp g.K.Ord.cmp in
    let keys = c.self.inside.keys.items in
    let known = known_there eq keys c.args.key (get g.K.Ord.cmp c.self.inside.places c.args.key) c.in_ok-place.place c.len-next.result (c.self.invariant c.args.key)
    (search rules) c.in_ok-place.ensures.place (search rules) in
    subst (λ ks. c.in_ok-place.place < length ks) (sym c.in_ok-reserve.ensures.items) (slice_get_within keys c.in_ok-place.place known.0 known.1)
