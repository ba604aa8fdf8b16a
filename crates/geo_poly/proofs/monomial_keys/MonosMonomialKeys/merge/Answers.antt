use Rattle.std.proofs.Common.{◌<◌, sym, subst}
use Rattle.sparse_lists.specs.SparseLists.{AllKeys}
use Rattle.mono_store.specs.Stores.{Store, count}
use Rattle.poly_arena.specs.Chains.{pairs_of}
use Rattle.poly_arena.specs.Orders.{IsFalling}
use Rattle.geo_poly.specs.StoreOrder.{index_cmp}
use Rattle.geo_poly.proofs.monomial_keys.MonosMonomialKeys.merge.Goals as goal

pub merge_into-requires-clause-kept_falls : goal.merge_into-requires-clause-kept_falls
merge_into-requires-clause-kept_falls c =
    subst (λ (store : Store). IsFalling (index_cmp store) (pairs_of c.args.arena.now c.args.kept.now)) (sym c.new.ensures) c.requires.kept_falls

pub merge_into-requires-clause-spent_falls : goal.merge_into-requires-clause-spent_falls
merge_into-requires-clause-spent_falls c =
    subst (λ (store : Store). IsFalling (index_cmp store) (pairs_of c.args.arena.now c.args.spent)) (sym c.new.ensures) c.requires.spent_falls

pub merge_into-requires-clause-kept_keys : goal.merge_into-requires-clause-kept_keys
merge_into-requires-clause-kept_keys c =
    subst (λ (store : Store). AllKeys (λ k. k < count store) (pairs_of c.args.arena.now c.args.kept.now)) (sym c.new.ensures) c.requires.kept_keys

pub merge_into-requires-clause-spent_keys : goal.merge_into-requires-clause-spent_keys
merge_into-requires-clause-spent_keys c =
    subst (λ (store : Store). AllKeys (λ k. k < count store) (pairs_of c.args.arena.now c.args.spent)) (sym c.new.ensures) c.requires.spent_keys
