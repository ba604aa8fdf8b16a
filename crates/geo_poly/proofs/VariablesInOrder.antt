-- The list of the variables of a polynomial: it rises strictly, and it has exactly the variables that have an exponent.
use Rattle.std.proofs.Common.{◌≡◌, zero, suc, ℤ, List, [], ◌∷◌, map, refl, sym, ap, ◌∙◌, arith}
use Rattle.std.specs.Prelude.{◌↔◌, Contains}
use Rattle.std.specs.BTreeSet.{insert_key}
use Rattle.std.specs.List.{AllByRecursion, flat_map, fold}
use Rattle.std.specs.List.Sorted.{IsStrictlySortedBy}
use Rattle.std.specs.Ordering.{match_ordering}
use Rattle.std.specs.declared.cmp.Ordering.{Ordering}
use Rattle.std.specs.declared.cmp.Ordering.TheVariants.{Less, Equal, Greater}
use Rattle.sparse_lists.specs.SparseLists.{AllKeys}
use Rattle.geo_poly.specs.declared.variables.Var.{Var}
use Rattle.geo_poly.specs.Monomials.{Powers, IsMonomial, exponent}
use Rattle.geo_poly.specs.Polynomials.{Summands, IsPolynomial}
use Rattle.geo_poly.specs.Variables.{var_cmp}
use Rattle.geo_poly.specs.PolynomialVariables.{AllVariables, HasVariable, variables_of}
use Rattle.geo_poly.proofs.EachVariable.{all_variables, each-contained, each-variables, from_exponents, of-exponent}
use Rattle.geo_poly.proofs.Orders.{var_order}

-- ORDER
pub none_rise : IsStrictlySortedBy var_cmp []
unfolding IsStrictlySortedBy
none_rise = tt

pub one_rises : (v : Var) → IsStrictlySortedBy var_cmp (v ∷ [])
unfolding IsStrictlySortedBy
one_rises v = (tt, tt)

-- u is below each of the variables
abbrev pub IsBelow : Var → List Var → Type 0
IsBelow u vs = AllByRecursion (λ w. var_cmp u w ≡ Less) vs

pub below_trans : (u v : Var) (ws : List Var) → var_cmp u v ≡ Less → IsBelow v ws → IsBelow u ws
below_trans u v [] e h = tt
below_trans u v (w ∷ ws) e h = (var_order.trans u v w e h.0, below_trans u v ws e h.1)

below-insert_key : (u : Var) (ws : List Var) (v : Var) → var_cmp u v ≡ Less → IsBelow u ws → IsBelow u (insert_key var_cmp ws v)
below-insert_key u [] v e h = (e, tt)
below-insert_key u (w ∷ ws) v e h = go (var_cmp v w) (below-insert_key u ws v e h.1)
  where
    go : (o : Ordering) → IsBelow u (insert_key var_cmp ws v) → IsBelow u (match_ordering o (v ∷ w ∷ ws) (w ∷ ws) (w ∷ insert_key var_cmp ws v))
    go Less rest = (e, h)
    go Equal rest = h
    go Greater rest = (h.0, rest)

pub sorted-insert_key : (ws : List Var) (v : Var) → IsStrictlySortedBy var_cmp ws → IsStrictlySortedBy var_cmp (insert_key var_cmp ws v)
unfolding IsStrictlySortedBy
sorted-insert_key [] v s = (tt, tt)
sorted-insert_key (w ∷ ws) v s = go (var_cmp v w) refl (sorted-insert_key ws v s.1)
  where
    go : (o : Ordering) → var_cmp v w ≡ o → IsStrictlySortedBy var_cmp (insert_key var_cmp ws v)
        → IsStrictlySortedBy var_cmp (match_ordering o (v ∷ w ∷ ws) (w ∷ ws) (w ∷ insert_key var_cmp ws v))
    go Less e rest = ((e, below_trans v w ws e s.0), s)
    go Equal e rest = s
    go Greater e rest = (below-insert_key w ws v (var_order.flip_back v w e) s.0, rest)

pub sorted-fold : (us vs : List Var) → IsStrictlySortedBy var_cmp us → IsStrictlySortedBy var_cmp (fold (insert_key var_cmp) us vs)
sorted-fold us [] s = s
sorted-fold us (v ∷ vs) s = sorted-fold (insert_key var_cmp us v) vs (sorted-insert_key us v s)

pub variables_in_order : (q : Summands) → IsStrictlySortedBy var_cmp (variables_of q)
unfolding IsStrictlySortedBy
variables_in_order q = sorted-fold [] (flat_map (λ t. map (λ p. p.0) t.0) q) tt

-- MEMBERS
have_each : (Holds : Var → Type 0) (ts : Summands) → ((v : Var) → HasVariable v ts → Holds v) → AllKeys IsMonomial ts → AllVariables Holds ts
have_each Holds [] each m = tt
have_each Holds (t ∷ ts) each m = (
  from_exponents Holds t.0 m.0.in_order (λ v n. each v (0, t, omega arith, refl, n)),
  have_each Holds ts (λ v h. each v (suc h.0, h.1, (let l = h.2 in omega (arith, l)), h.3, h.4)) m.1,
)

pub has_contained : (q : Summands) (v : Var) → AllKeys IsMonomial q → Contains (variables_of q) v → HasVariable v q
has_contained q v m stands =
    each-contained (λ w. HasVariable w q) (variables_of q) v (each-variables (λ w. HasVariable w q) q (have_each (λ w. HasVariable w q) q (λ w h. h) m)) stands

of_has : (Holds : Var → Type 0) (ts : Summands) (v : Var) → AllVariables Holds ts → HasVariable v ts → Holds v
of_has Holds [] v h (k, t, lt, e, n) = absurd (omega arith)
of_has Holds (t ∷ ts) v h (zero, u, lt, e, n) = of-exponent Holds t.0 v h.0 (λ z. n (ap (λ (x : Powers × ℤ). exponent v x.0) (sym e) ∙ z))
of_has Holds (t ∷ ts) v h (suc k, u, lt, e, n) = of_has Holds ts v h.1 (k, u, omega arith, e, n)

pub contained_has : (q : Summands) (v : Var) → HasVariable v q → Contains (variables_of q) v
contained_has q v has = of_has (Contains (variables_of q)) q v (all_variables (Contains (variables_of q)) q (λ w stands. stands)) has

pub variables_exact : (q : Summands) → IsPolynomial q → (v : Var) → Contains (variables_of q) v ↔ HasVariable v q
variables_exact q valid v = (has_contained q v valid.monomials, contained_has q v)
