use Rattle.std.proofs.Common.{◌≡◌, [], ℕ, ◌+◌, ◌-◌, ◌<◌, ◌≤◌, None, List, ◌∷◌, ◌∙◌, drop, length, slice_index_or, sym, ap, ap₂, subst, arith}
use Rattle.std.specs.Prelude.{Contains}
use Rattle.std.specs.List.Sorted.{IsStrictlySortedBy}
use Rattle.sparse_lists.proofs.Sums.{AllKeys-at}
use Rattle.sparse_lists.proofs.Merging.{drop_at, drop_past, get_or_any}
use Rattle.mono_store.specs.Monomials.{Powers as NumberedPowers}
use Rattle.mono_store.proofs.Products.{IsPowerBefore}
use Rattle.geo_poly.specs.declared.rows.Row.{Row}
use Rattle.geo_poly.specs.declared.variables.Var.{Var}
use Rattle.geo_poly.specs.declared.variables.Var.TheVariants.{R}
use Rattle.geo_poly.specs.Monomials.{Powers, IsMonomial, exponent}
use Rattle.geo_poly.specs.Replace.{others, row_of}
use Rattle.geo_poly.specs.Shared.{AllPlaces, named, var_at}
use Rattle.geo_poly.specs.Variables.{var_cmp}
use Rattle.geo_poly.proofs.Naming.{IsMonomial-drop, IsPowerBefore-named}
use Rattle.geo_poly.proofs.ReplaceTerms.{IsMonomial-others, others-none}
use Rattle.geo_poly.proofs.OthersLeft.{stays_least}
use Rattle.geo_poly.proofs.InReach.{room_for}
use Rattle.geo_poly.proofs.KeysKept.{KeepsKeys-refl, KeepsKeys-trans}
use Rattle.geo_poly.proofs.moving.stored_others.Goals as goal

abbrev none : Var × ℕ
none = (R (record { 0 = 0 }) (record { 0 = 0 }) (record { 0 = 0 }) (record { 0 = 0 }), 0)

next : (powers : Powers) (i : ℕ) → 0 < i → i ≤ length powers → drop (i - 1) powers ≡ slice_index_or powers (i - 1) none ∷ drop i powers
next powers i positive within =
    let x = slice_index_or powers (i - 1) none in
    let below : i - 1 < length powers = omega arith in
    let one_more : i - 1 + 1 ≡ i = omega arith in
    drop_at powers (i - 1) x below (get_or_any powers (i - 1) none x below) ∙ ap (λ k. x ∷ drop k powers) one_more

stays : (rows : List Row) (powers : Powers) (i : ℕ) → 0 < i → i ≤ length powers → row_of rows (slice_index_or powers (i - 1) none).0 ≡ None
    → others rows (drop (i - 1) powers) ≡ slice_index_or powers (i - 1) none ∷ others rows (drop i powers)
stays rows powers i positive within e =
    ap (others rows) (next powers i positive within) ∙ others-none rows (slice_index_or powers (i - 1) none) (drop i powers) e

fits : (vars : List Var) (rows : List Row) (powers : Powers) (m : NumberedPowers) (i k : ℕ) → IsStrictlySortedBy var_cmp vars → 0 < i → i ≤ length powers → IsMonomial powers
    → row_of rows (slice_index_or powers (i - 1) none).0 ≡ None → named vars m ≡ others rows (drop i powers) → AllPlaces (length vars) m → k < length vars
    → var_at vars k ≡ (slice_index_or powers (i - 1) none).0 → IsPowerBefore k (slice_index_or powers (i - 1) none).1 m
fits vars rows powers m i k rising positive within h e is places k_in k_is =
    let x = slice_index_or powers (i - 1) none in
    let whole : others rows (drop (i - 1) powers) ≡ (var_at vars k, x.1) ∷ named vars m =
    stays rows powers i positive within e ∙ ap₂ (λ (v : Var) (rest : Powers). (v, x.1) ∷ rest) (sym k_is) (sym is) in
    IsPowerBefore-named vars rising k x.1 m k_in places (subst IsMonomial whole (IsMonomial-others rows (drop (i - 1) powers) (IsMonomial-drop (i - 1) powers h)))

pub loop-i-init : goal.loop-i-init
loop-i-init g c =
    let keys = g.K.MonomialKeys.keys c.args.keys.now in
    let powers = c.args.powers.now in
    let first : keys.powers c.one-key.result ≡ [] = ap keys.powers c.one-key.ensures.is ∙ g.met.K.MonomialKeys.first c.args.keys.now in
    record {
      kept = KeepsKeys-refl keys;
      index = record {
        within = omega (arith, c.one-key.ensures.is, c.one-key.ensures.within);
        places = subst (AllPlaces (length c.args.vars.now)) (sym first) tt;
      };
      left = omega arith;
      powers = ap (named c.args.vars.now) first ∙ ap (others c.args.rows.now) (sym (drop_past powers (length powers) (omega arith)));
    }

pub place_near-requires-clause-known : goal.place_near-requires-clause-known
place_near-requires-clause-known g c =
    let powers = c.args.powers.now in
    let i = c.loop-i.i - 1 in
    let below : c.loop-i.i - 1 < length c.args.powers.now = omega (arith, c.loop-i.invariant.left, c.loop-i-test.true) in
    AllKeys-at (Contains c.args.vars.now) powers i (slice_index_or powers i none) below (get_or_any powers i none (slice_index_or powers i none) below) c.requires.known

pub power_before-requires-clause-exponent : goal.power_before-requires-clause-exponent
power_before-requires-clause-exponent g c =
    (fits c.args.vars.now c.args.rows.now c.args.powers.now
    ((g.K.MonomialKeys.keys c.loop-i.keys).powers c.loop-i.key) c.loop-i.i c.place_near.result c.requires.rising c.loop-i-test.true c.loop-i.invariant.left
    c.requires.monomial
    (sym c.in-None.ensures) c.loop-i.invariant.powers c.loop-i.invariant.index.places c.place_near.ensures.within c.place_near.ensures.variable).exponent

pub power_before-requires-clause-first : goal.power_before-requires-clause-first
power_before-requires-clause-first g c =
    (fits c.args.vars.now c.args.rows.now c.args.powers.now
    ((g.K.MonomialKeys.keys c.loop-i.keys).powers c.loop-i.key) c.loop-i.i c.place_near.result c.requires.rising c.loop-i-test.true c.loop-i.invariant.left
    c.requires.monomial
    (sym c.in-None.ensures) c.loop-i.invariant.powers c.loop-i.invariant.index.places c.place_near.ensures.within c.place_near.ensures.variable).first

pub power_before-requires-clause-degree : goal.power_before-requires-clause-degree
power_before-requires-clause-degree g c =
    (fits c.args.vars.now c.args.rows.now c.args.powers.now
    ((g.K.MonomialKeys.keys c.loop-i.keys).powers c.loop-i.key) c.loop-i.i c.place_near.result c.requires.rising c.loop-i-test.true c.loop-i.invariant.left
    c.requires.monomial
    (sym c.in-None.ensures) c.loop-i.invariant.powers c.loop-i.invariant.index.places c.place_near.ensures.within c.place_near.ensures.variable).degree

pub power_before-requires-clause-reach : goal.power_before-requires-clause-reach
power_before-requires-clause-reach g c =
    let vars = c.args.vars.now in
    let rows = c.args.rows.now in
    let powers = c.args.powers.now in
    let x = slice_index_or powers (c.loop-i.i - 1) none in
    room_for vars (g.K.MonomialKeys.keys c.args.keys.now) (g.K.MonomialKeys.keys c.loop-i.keys)
    (others rows powers) c.place_near.result x.1 c.place_near.ensures.within c.loop-i.invariant.kept.limits
    (subst (λ (v : Var). x.1 ≤ exponent v (others rows powers)) (sym c.place_near.ensures.variable)
    (stays_least rows powers (c.loop-i.i - 1) x (drop c.loop-i.i powers) (next powers c.loop-i.i c.loop-i-test.true c.loop-i.invariant.left) (sym c.in-None.ensures)))
    c.requires.reach

pub loop-i-preserved : goal.loop-i-preserved
loop-i-preserved g c =
    let vars = c.args.vars.now in
    let rows = c.args.rows.now in
    let powers = c.args.powers.now in
    let x = slice_index_or powers (c.loop-i.i - 1) none in
    let made = c.in_ok-key-in-None.ensures in
    record {
      kept = KeepsKeys-trans (g.K.MonomialKeys.keys c.args.keys.now) (g.K.MonomialKeys.keys c.loop-i.keys) (g.K.MonomialKeys.keys c.power_before.new.self) c.loop-i.invariant.kept made.kept;
      index = record {
        within = made.within;
        places = subst (AllPlaces (length vars)) (sym made.powers) (c.place_near.ensures.within, c.loop-i.invariant.index.places);
      };
      left = omega (arith, c.loop-i.invariant.left);
      powers =
          ap (named vars) made.powers
          ∙ ap₂ (λ (v : Var) (rest : Powers). (v, x.1) ∷ rest) c.place_near.ensures.variable c.loop-i.invariant.powers
          ∙ sym (stays rows powers c.loop-i.i c.loop-i-test.true c.loop-i.invariant.left (sym c.in-None.ensures));
    }
