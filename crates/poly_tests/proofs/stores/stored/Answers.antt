use Rattle.std.proofs.Common.{◌≡◌, ℕ, ◌+◌, ◌-◌, ◌<◌, ◌≤◌, [], ◌∷◌, ◌∙◌, drop, length, slice_index_or, sym, ap, subst, arith}
use Rattle.std.proofs.lemmas.List.{append-nil}
use Rattle.sparse_lists.proofs.Merging.{drop_at, get_or_any}
use Rattle.mono_store.specs.Monomials.{Powers, IsMonomial}
use Rattle.mono_store.specs.Stores.{monomial_of}
use Rattle.mono_store.proofs.Products.{IsMonomial-drop, IsPowerBefore, IsPowerBefore-head}
use Rattle.poly_tests.proofs.stores.stored.Goals as goal

fits : (powers m : Powers) (i : ℕ) → 0 < i → i ≤ length powers → IsMonomial powers → m ≡ drop i powers
    → IsPowerBefore (slice_index_or powers (i - 1) (0, 0)).0 (slice_index_or powers (i - 1) (0, 0)).1 m
fits powers m i positive within h is =
    let x = slice_index_or powers (i - 1) (0, 0) in
    let below : i - 1 < length powers = omega arith in
    let one_more : i - 1 + 1 ≡ i = omega arith in
    let next : drop (i - 1) powers ≡ x ∷ drop i powers = drop_at powers (i - 1) x below (get_or_any powers (i - 1) (0, 0) x below) ∙ ap (λ k. x ∷ drop k powers) one_more in
    let dropped : IsMonomial (drop (i - 1) powers) =
    subst IsMonomial (append-nil (drop (i - 1) powers)) (IsMonomial-drop (i - 1) powers [] (subst IsMonomial (sym (append-nil powers)) h)) in
    subst (IsPowerBefore x.0 x.1) (sym is) (IsPowerBefore-head x.0 x.1 (drop i powers) (subst IsMonomial next dropped))

pub mono-requires-clause-exponent : goal.mono-requires-clause-exponent
mono-requires-clause-exponent c =
    (fits c.args.powers.now (monomial_of c.loop-i.store c.loop-i.id) c.loop-i.i c.loop-i-test.true c.loop-i.invariant.left c.requires
    c.loop-i.invariant.monomial).exponent

pub mono-requires-clause-first : goal.mono-requires-clause-first
mono-requires-clause-first c = (fits c.args.powers.now (monomial_of c.loop-i.store c.loop-i.id) c.loop-i.i c.loop-i-test.true c.loop-i.invariant.left c.requires c.loop-i.invariant.monomial).first

pub mono-requires-clause-degree : goal.mono-requires-clause-degree
mono-requires-clause-degree c = (fits c.args.powers.now (monomial_of c.loop-i.store c.loop-i.id) c.loop-i.i c.loop-i-test.true c.loop-i.invariant.left c.requires c.loop-i.invariant.monomial).degree
