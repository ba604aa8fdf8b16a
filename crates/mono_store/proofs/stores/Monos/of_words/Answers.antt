use Rattle.std.proofs.Common.{List, sym, subst}
use Rattle.mono_store.specs.declared.links.Link.{Link}
use Rattle.mono_store.specs.Stores.{IsStore, store_of}
use Rattle.mono_store.proofs.Interning.{IsStore-words}
use Rattle.mono_store.proofs.stores.Monos.of_words.Goals as goal

pub invariant_of-result : goal.invariant_of-result
invariant_of-result c =
    subst (λ (links : List Link). IsStore (store_of c.args.words links)) (sym c.new.ensures.empty)
    (IsStore-words c.args.words c.words-words.ensures.degree)
