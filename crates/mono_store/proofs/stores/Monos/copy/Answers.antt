use Rattle.std.proofs.Common.{◌≡◌, sym, ap₂, subst, ◌∙◌}
use Rattle.std.proofs.lemmas.List.Elements.{same_from_all_zip}
use Rattle.mono_store.specs.Stores.{IsStore, store_of}
use Rattle.mono_store.proofs.stores.Monos.copy.Goals as goal
use Rattle.mono_store.proofs.stores.Monos.copy.Goals.{After-new}

same : (c : After-new) → store_of c.in_ok-copy.field-0 c.in_ok-clone.field-0.keys ≡ c.args.self.now
same c =
    ap₂ store_of c.in_ok-copy.ensures
    (same_from_all_zip _ c.self.inside.links.keys c.in_ok-clone.field-0.keys c.in_ok-clone.ensures.cases (λ x y e. e))
    ∙ c.self.view_is

pub returns : goal.returns
returns c = same c

pub invariant_of-result : goal.invariant_of-result
invariant_of-result c = subst IsStore (sym (same c)) (subst IsStore c.self.view_is c.self.invariant)
