-- The variables of several polynomials in one list.
use Rattle.std.proofs.Common.{◌≡◌, true, ℕ, ◌+◌, ◌<◌, Some, List, [], ◌∷◌, inl, inr, length, slice_index_or, sym, ap, subst, ◌∙◌, arith}
use Rattle.std.specs.Prelude.{Contains}
use Rattle.std.specs.BTreeSet.{insert_key}
use Rattle.std.specs.Cmp.{Equal-is}
use Rattle.std.specs.Cmp.Lexicographic.{pointwise, pointwise_decides}
use Rattle.std.specs.List.{fold}
use Rattle.std.specs.Ordering.{eq_by_cmp}
use Rattle.sparse_lists.specs.SparseLists.{AllKeys}
use Rattle.sparse_lists.proofs.Merging.{get_or_any}
use Rattle.mono_store.specs.Monomials.{Powers as NumberedPowers}
use Rattle.mono_store.specs.Stores.{Keeps, Store, monomial_of}
use Rattle.geo_poly.specs.declared.rows.Row.{Row}
use Rattle.geo_poly.specs.declared.variables.Var.{Var}
use Rattle.geo_poly.specs.declared.variables.Var.TheVariants.{R}
use Rattle.geo_poly.specs.Inner.Moved.{IsPlaceOf}
use Rattle.geo_poly.specs.KeptVariables.{AllNumerators}
use Rattle.geo_poly.specs.PolynomialVariables.{AllVariables}
use Rattle.geo_poly.specs.Polynomials.{Summands}
use Rattle.geo_poly.specs.declared.shared.Shared.{Shared}
use Rattle.geo_poly.specs.Shared.{AllPlaces, AreParts, Indices, IsIndex, named, terms_of, told, var_at}
use Rattle.geo_poly.specs.Variables.{var_cmp}
use Rattle.geo_poly.proofs.ChainSteps.{same_or}
use Rattle.geo_poly.proofs.EachVariable.{each-contained, each_of, of-both, of-fold}
use Rattle.geo_poly.proofs.Orders.{var_order}
use Rattle.geo_poly.proofs.Told.{indices-kept, terms_of-kept}

-- inserting more keeps what stands there, and has what is inserted
pub fold_keeps : (us ws : List Var) (v : Var) → Contains us v → Contains (fold (insert_key var_cmp) us ws) v
fold_keeps us ws v stands =
    let whole = fold (insert_key var_cmp) us ws in
    each-contained (Contains whole) us v (of-fold (Contains whole) us ws (each_of (Contains whole) whole (λ w c. c))).0 stands

pub fold_has : (us ws : List Var) (v : Var) → Contains ws v → Contains (fold (insert_key var_cmp) us ws) v
fold_has us ws v stands =
    let whole = fold (insert_key var_cmp) us ws in
    each-contained (Contains whole) ws v (of-fold (Contains whole) us ws (each_of (Contains whole) whole (λ w c. c))).1 stands

-- the variables of named monomials are in the list
known_powers : (vars : List Var) (m : NumberedPowers) → AllPlaces (length vars) m → AllKeys (Contains vars) (named vars m)
known_powers vars [] h = tt
known_powers vars (p ∷ m) h =
    ((p.0, h.0, get_or_any vars p.0 (var_at vars p.0) (R (record { 0 = 0 }) (record { 0 = 0 }) (record { 0 = 0 }) (record { 0 = 0 })) h.0), known_powers vars m h.1)

pub known_variables : (vars : List Var) (store : Store) (list : Indices) → AllKeys (IsIndex vars store) list → AllVariables (Contains vars) (terms_of vars store list)
known_variables vars store [] h = tt
known_variables vars store (t ∷ list) h = (known_powers vars (monomial_of store t.0) h.0.places, known_variables vars store list h.1)

-- the variables of a polynomial are in its list
pub parts_known : (p : Shared) → AreParts p → AllVariables (Contains p.vars.now) (told p)
parts_known p parts = known_variables p.vars.now p.monos.now p.list.now parts.indices

-- lists of variables that `==` finds the same are the same
pub same_variables : (vs ws : List Var) → pointwise (eq_by_cmp var_cmp) vs ws ≡ true → vs ≡ ws
same_variables vs ws =
    (pointwise_decides (λ v w. (
      λ e. var_order.exact v w ((Equal-is (var_cmp v w)).0 e),
      λ e. subst (λ (u : Var). eq_by_cmp var_cmp v u ≡ true) e ((Equal-is (var_cmp v v)).1 (var_order.self v)),
    )) vs ws).0

-- a variable with a place stands in the list
pub placed : (list : List Var) (v : Var) (k : ℕ) → IsPlaceOf list v (Some k) → Contains list v
placed list v k h =
    subst (Contains list) h.1
    (k, h.0, get_or_any list k (var_at list k) (R (record { 0 = 0 }) (record { 0 = 0 }) (record { 0 = 0 }) (record { 0 = 0 })) h.0)

-- one more of the others stands in the list
pub known_more : (list others : List Var) (i : ℕ) (x : Var) → i < length others → x ≡ slice_index_or others i x → Contains list x
    → ((k : ℕ) (d : Var) → k < i → Contains list (slice_index_or others k d)) → (k : ℕ) (d : Var) → k < i + 1 → Contains list (slice_index_or others k d)
known_more list others i x within is has before k d below = elim (same_or k i) [
  | inl e ↦ subst (λ (j : ℕ). Contains list (slice_index_or others j d)) (sym e) (subst (Contains list) (is ∙ get_or_any others i x d within) has)
  | inr n ↦ before k d (omega (arith, below, n))
]

-- a longer list has them too
pub AllVariables-longer : (old new : List Var) (q : Summands) → ((v : Var) → Contains old v → Contains new v) → AllVariables (Contains old) q → AllVariables (Contains new) q
AllVariables-longer old new q more h = of-both (Contains old) (Contains old) (Contains new) (λ v a b. more v a) q h h

pub AllNumerators-longer : (old new : List Var) (rows : List Row) → ((v : Var) → Contains old v → Contains new v) → AllNumerators (Contains old) rows → AllNumerators (Contains new) rows
AllNumerators-longer old new [] more h = tt
AllNumerators-longer old new (r ∷ rows) more h = (AllVariables-longer old new r.num.poly more h.0, AllNumerators-longer old new rows more h.1)

-- the list of a polynomial, over a copy of its store that has grown
module _ (p : Shared) (parts : AreParts p) (copy grown : Store) (same : copy ≡ p.monos.now) (kept : Keeps copy grown) where
  own_kept : Keeps p.monos.now grown
  own_kept = subst (λ (store : Store). Keeps store grown) same kept

  pub own_indices : AllKeys (IsIndex p.vars.now grown) p.list.now
  own_indices = indices-kept p.vars.now p.monos.now grown p.list.now own_kept parts.indices

  pub own_terms : terms_of p.vars.now grown p.list.now ≡ told p
  own_terms = terms_of-kept p.vars.now p.monos.now grown p.list.now own_kept parts.indices

-- the list of a polynomial, over a store that has its indices, of another with the same variables
module _ (p q : Shared) (parts : AreParts q) (copy : Store) (same : copy ≡ p.monos.now) (vars : p.vars.now ≡ q.vars.now)
    (kept : Keeps q.monos.now p.monos.now) where
  other_kept : Keeps q.monos.now copy
  other_kept = subst (λ (store : Store). Keeps q.monos.now store) (sym same) kept

  pub other_indices : AllKeys (IsIndex p.vars.now copy) q.list.now
  other_indices =
      subst (λ (vs : List Var). AllKeys (IsIndex vs copy) q.list.now) (sym vars)
      (indices-kept q.vars.now q.monos.now copy q.list.now other_kept parts.indices)

  pub other_terms : terms_of p.vars.now copy q.list.now ≡ told q
  other_terms =
      ap (λ (vs : List Var). terms_of vs copy q.list.now) vars
      ∙ terms_of-kept q.vars.now q.monos.now copy q.list.now other_kept parts.indices
