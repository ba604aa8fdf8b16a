-- The variables of a sample, one after another.
use Rattle.std.proofs.Common.{◌≡◌, ℕ, zero, suc, ◌+◌, ◌<◌, ℤ, List, [], ◌∷◌, ◌++◌, map, take, length, ◌⊎◌, inl, inr, append_assoc, add-one}
use Rattle.std.proofs.Common.{Option, Some, Bool, IsTrue, ◌↔◌, ◌^◌, All, unsigned_abs, refl, sym, ◌∙◌, ap, subst, arith}
use Rattle.geo_poly.specs.declared.variables.Var.{Var}
use Rattle.geo_poly.specs.declared.variables.Var.TheVariants.{X, Y, T}
use Rattle.geo_terms.specs.declared.steps.Step.{Step}
use Rattle.geo_terms.specs.declared.steps.Step.TheVariants.{Point}
use Rattle.geo_logs.specs.Samples.{coordinates_from, parameters_from}
use Rattle.std.specs.Prelude.{slice_get}
use Rattle.std.specs.Ordering.{eq_by_cmp, is_eq}
use Rattle.std.specs.declared.cmp.Ordering.{Ordering}
use Rattle.std.specs.declared.cmp.Ordering.TheVariants.{Less, Equal, Greater}
use Rattle.std.proofs.lemmas.List.Elements.{All-cons, All-nil}
use Rattle.geo_poly.specs.Variables.{var_cmp}
use Rattle.geo_poly.proofs.Orders.{var_order}
use Rattle.proof_log.specs.Writable.{CanWriteValues}
use Rattle.log_checker.proofs.KeysInTurn.{false_not, same_or_below}
use Rattle.log_checker.proofs.Places.{At, first, none}

abbrev coordinates_of : Step → ℕ → List Var
coordinates_of Point j = X (record { 0 = j }) ∷ Y (record { 0 = j }) ∷ []
coordinates_of _ j = []

one_step : (j : ℕ) (s : Step) (xs : List Step) → coordinates_from j (s ∷ xs) ≡ coordinates_of s j ++ coordinates_from (suc j) xs
one_step j Point xs = refl
one_step j s xs = refl

coordinates_on : (xs : List Step) (j k n : ℕ) (step : Step) → n ≡ j + k → At xs k step
    → coordinates_from j (take (suc k) xs) ≡ coordinates_from j (take k xs) ++ coordinates_from n (step ∷ [])
coordinates_on [] j k n step is at = none k step at
coordinates_on (s ∷ xs) j zero n step is at =
    let same : n ≡ j = omega (arith, is) in
    ap (λ z. coordinates_from j (z ∷ [])) (first s step xs at) ∙ ap (λ m. coordinates_from m (step ∷ [])) (sym same)
coordinates_on (s ∷ xs) j (suc k) n step is at =
    let more = coordinates_on xs (suc j) k n step (omega (arith, is)) at in
    one_step j s (take (suc k) xs) ∙ ap (λ vs. coordinates_of s j ++ vs) more
    ∙ sym (append_assoc (coordinates_of s j) (coordinates_from (suc j) (take k xs)) (coordinates_from n (step ∷ [])))
    ∙ ap (λ vs. vs ++ coordinates_from n (step ∷ [])) (sym (one_step j s (take k xs)))

pub coordinates_more : (xs : List Step) (k : ℕ) (step : Step) → At xs k step → coordinates_from 0 (take (k + 1) xs) ≡ coordinates_from 0 (take k xs) ++ coordinates_from k (step ∷ [])
coordinates_more xs k step at =
    ap (λ n. coordinates_from 0 (take n xs)) (add-one k) ∙ coordinates_on xs 0 k k step (omega arith) at

parameters_on : (j t n : ℕ) → n ≡ j + t → parameters_from j (suc t) ≡ parameters_from j t ++ T (record { 0 = n }) ∷ []
parameters_on j zero n is = let same : n ≡ j = omega (arith, is) in ap (λ m. T (record { 0 = m }) ∷ []) (sym same)
parameters_on j (suc t) n is = ap (λ vs. T (record { 0 = j }) ∷ vs) (parameters_on (suc j) t n (omega (arith, is)))

pub parameters_more : (t : ℕ) → parameters_from 0 (t + 1) ≡ parameters_from 0 t ++ T (record { 0 = t }) ∷ []
parameters_more t = ap (λ n. parameters_from 0 n) (add-one t) ∙ parameters_on 0 t t (omega arith)

-- LISTS BY PLACES
-- lists of one length with the same items at each place are the same
pub lists_same : (xs ys : List Var) → length xs ≡ length ys → ((k : ℕ) → k < length xs → slice_get xs k ≡ slice_get ys k) → xs ≡ ys
lists_same [] [] e h = refl
lists_same [] (y ∷ ys) e h = absurd (omega (arith, e))
lists_same (x ∷ xs) [] e h = absurd (omega (arith, e))
lists_same (x ∷ xs) (y ∷ ys) e h =
    let q : ◌≡◌ {A = Option Var} (Some x) (Some y) = h 0 (omega arith) in
    let head : x ≡ y = cc in
    let rest = lists_same xs ys (omega (arith, e)) (λ k l. h (suc k) (omega (arith, l))) in
    λ i. head i ∷ rest i

pub names_length : (values : List (Var × ℤ)) → length (map (λ (v : Var × ℤ). v.0) values) ≡ length values
names_length [] = refl
names_length (v ∷ values) = ap suc (names_length values)

-- the same at one place more
pub one_more_place : (xs ys : List Var) (i : ℕ) → slice_get xs i ≡ slice_get ys i → ((k : ℕ) → k < i → slice_get xs k ≡ slice_get ys k)
    → (k : ℕ) → k < i + 1 → slice_get xs k ≡ slice_get ys k
one_more_place xs ys i e h k l = go (same_or_below k i l)
  where
    go : (k < i) ⊎ (k ≡ i) → slice_get xs k ≡ slice_get ys k
    go (inl lt) = h k lt
    go (inr same) = subst (λ n. slice_get xs n ≡ slice_get ys n) (sym same) e

-- VARIABLES
is_equal : (o : Ordering) → IsTrue (is_eq o) → o ≡ Equal
is_equal Less h = absurd (false_not h)
is_equal Equal h = refl
is_equal Greater h = absurd (false_not h)

-- the test of variables by their order
pub same_by_cmp : (b : Bool) (v w : Var) → b ≡ eq_by_cmp var_cmp v w → IsTrue b ↔ (v ≡ w)
same_by_cmp b v w e = (
  (λ h. var_order.exact v w (is_equal (var_cmp v w) (sym e ∙ h))),
  (λ s. e ∙ ap (λ u. is_eq (var_cmp v u)) (sym s) ∙ ap is_eq (var_order.self v)),
)

-- values that can be written fit
pub all_fit : (values : List (Var × ℤ)) → CanWriteValues values → All (λ (v : Var × ℤ). unsigned_abs v.1 < 2 ^ 127) values
all_fit [] h = All-nil (λ (v : Var × ℤ). unsigned_abs v.1 < 2 ^ 127)
all_fit (v ∷ values) h = All-cons (λ (w : Var × ℤ). unsigned_abs w.1 < 2 ^ 127) v values h.0.fits (all_fit values h.1)

-- items at the same place of the same lists
pub same_item : (xs ys : List Var) (i : ℕ) (v w : Var) → slice_get xs i ≡ Some v → slice_get ys i ≡ Some w → xs ≡ ys → v ≡ w
same_item xs ys i v w at there e =
    let q : ◌≡◌ {A = Option Var} (Some v) (Some w) = sym at ∙ ap (λ (zs : List Var). slice_get zs i) e ∙ there in cc
