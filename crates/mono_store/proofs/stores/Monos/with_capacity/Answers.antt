use Rattle.std.proofs.Common.{[], sym, ap₂, subst, arith}
use Rattle.mono_store.specs.Stores.{IsStore, store_of}
use Rattle.mono_store.proofs.Interning.{IsStore-words}
use Rattle.mono_store.proofs.stores.Monos.with_capacity.Goals as goal

pub invariant_of-result : goal.invariant_of-result
invariant_of-result c =
    subst IsStore (sym (ap₂ store_of c.none.ensures c.in_ok-with_capacity.ensures.empty)) (IsStore-words [] (omega arith))
