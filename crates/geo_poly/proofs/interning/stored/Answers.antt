use Rattle.std.proofs.Common.{rules, ◌≡◌, ℕ, ◌+◌, ◌-◌, ◌<◌, ◌≤◌, List, ◌∷◌, ◌∙◌, drop, length, slice_index_or, sym, ap, ap₂, subst, arith}
use Rattle.std.specs.List.Sorted.{IsStrictlySortedBy}
use Rattle.sparse_lists.proofs.Sums.{AllKeys-at}
use Rattle.sparse_lists.proofs.Merging.{drop_at, get_or_any}
use Rattle.mono_store.specs.Monomials.{Powers as NumberedPowers}
use Rattle.mono_store.specs.Stores.{monomial_of}
use Rattle.mono_store.proofs.Products.{IsPowerBefore}
use Rattle.geo_poly.specs.declared.variables.Var.{Var}
use Rattle.geo_poly.specs.declared.variables.Var.TheVariants.{R}
use Rattle.geo_poly.specs.Monomials.{Powers, IsMonomial}
use Rattle.geo_poly.specs.Shared.{AllPlaces, named, var_at}
use Rattle.geo_poly.specs.Variables.{var_cmp}
use Rattle.std.specs.Prelude.{Contains}
use Rattle.geo_poly.proofs.Naming.{IsMonomial-drop, IsPowerBefore-named}
use Rattle.geo_poly.proofs.interning.stored.Goals as goal

abbrev none : Var × ℕ
none = (R (record { 0 = 0 }) (record { 0 = 0 }) (record { 0 = 0 }) (record { 0 = 0 }), 0)

next : (powers : Powers) (i : ℕ) → 0 < i → i ≤ length powers → drop (i - 1) powers ≡ slice_index_or powers (i - 1) none ∷ drop i powers
next powers i positive within =
    let x = slice_index_or powers (i - 1) none in
    let below : i - 1 < length powers = omega arith in
    let one_more : i - 1 + 1 ≡ i = omega arith in
    drop_at powers (i - 1) x below (get_or_any powers (i - 1) none x below) ∙ ap (λ k. x ∷ drop k powers) one_more

fits : (vars : List Var) (powers : Powers) (m : NumberedPowers) (i k : ℕ) → IsStrictlySortedBy var_cmp vars → 0 < i → i ≤ length powers → IsMonomial powers
    → named vars m ≡ drop i powers → AllPlaces (length vars) m → k < length vars → var_at vars k ≡ (slice_index_or powers (i - 1) none).0
    → IsPowerBefore k (slice_index_or powers (i - 1) none).1 m
fits vars powers m i k rising positive within h is places k_in k_is =
    let x = slice_index_or powers (i - 1) none in
    let whole : drop (i - 1) powers ≡ (var_at vars k, x.1) ∷ named vars m =
    next powers i positive within ∙ ap₂ (λ (v : Var) (rest : Powers). (v, x.1) ∷ rest) (sym k_is) (sym is) in
    IsPowerBefore-named vars rising k x.1 m k_in places (subst IsMonomial whole (IsMonomial-drop (i - 1) powers h))

pub place_near-place-requires-clause-known : goal.place_near-place-requires-clause-known
place_near-place-requires-clause-known c =
    let powers = c.args.powers.now in
    let i = c.loop-i.i - 1 in
    let below : c.loop-i.i - 1 < length c.args.powers.now = omega (arith, c.loop-i.invariant.left, c.loop-i-test.true) in
    AllKeys-at (Contains c.args.vars.now) powers i (slice_index_or powers i none) below (get_or_any powers i none (slice_index_or powers i none) below) c.requires.known

before : (c : goal.After-mono-arg-1) → IsPowerBefore c.place_near-place.result (slice_index_or c.args.powers.now (c.loop-i.i - 1) none).1 (monomial_of c.loop-i.store c.loop-i.id)
before c =
    fits c.args.vars.now c.args.powers.now
    (monomial_of c.loop-i.store c.loop-i.id) c.loop-i.i c.place_near-place.result c.requires.rising c.loop-i-test.true
    c.loop-i.invariant.left c.requires.monomial
    c.loop-i.invariant.powers c.loop-i.invariant.index.places c.place_near-place.ensures.within c.place_near-place.ensures.variable

pub mono-requires-clause-exponent : goal.mono-requires-clause-exponent
mono-requires-clause-exponent c = (before c).exponent

pub mono-requires-clause-first : goal.mono-requires-clause-first
mono-requires-clause-first c = (before c).first

pub mono-requires-clause-degree : goal.mono-requires-clause-degree
mono-requires-clause-degree c = (before c).degree

module _ (vars : List Var) (powers : Powers) (m : NumberedPowers) (i k : ℕ) (positive : 0 < i) (within : i ≤ length powers)
    (is : named vars m ≡ drop i powers) (k_is : var_at vars k ≡ (slice_index_or powers (i - 1) none).0) where
  one_more : (var_at vars k, (slice_index_or powers (i - 1) none).1) ∷ named vars m ≡ drop (i - 1) powers
  one_more =
      ap₂ (λ (v : Var) (rest : Powers). (v, (slice_index_or powers (i - 1) none).1) ∷ rest) k_is is
      ∙ sym (next powers i positive within)

pub loop-i-preserved : goal.loop-i-preserved
loop-i-preserved c = record {
  kept = search rules;
  index = search rules;
  left = search rules;
  powers =
      ap (named c.args.vars.now) c.in_ok-id.ensures.monomial
      ∙ one_more c.args.vars.now c.args.powers.now (monomial_of c.loop-i.store c.loop-i.id) c.loop-i.i c.place_near-place.result
      c.loop-i-test.true c.loop-i.invariant.left c.loop-i.invariant.powers c.place_near-place.ensures.variable;
}
