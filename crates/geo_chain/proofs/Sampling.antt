-- The coordinates and the parameters, one after another.
use Rattle.std.proofs.Common.{◌≡◌, ℕ, suc, ◌+◌, ◌-◌, ◌<◌, Some, List, [], ◌∷◌, ◌++◌, drop, append_assoc, add-one, refl, sym, ◌∙◌, ap, arith}
use Rattle.std.specs.Prelude.{slice_get}
use Rattle.geo_poly.specs.declared.variables.Var.{Var}
use Rattle.geo_poly.specs.declared.variables.Var.TheVariants.{X, Y, T}
use Rattle.geo_terms.specs.declared.steps.Step.{Step}
use Rattle.geo_terms.specs.declared.steps.Step.TheVariants.{Point, Inter, Foot, Pratio, Tratio, Weights}
use Rattle.geo_logs.specs.Samples.{coordinates_from, parameters_from}
use Rattle.geo_chain.proofs.Listing.{at_drop}

-- one or two variables more
pub one_more : (whole xs ys rest : List Var) (v : Var) (more : List Var) → xs ++ rest ≡ whole → rest ≡ v ∷ more → ys ≡ xs ++ v ∷ []
    → ys ++ more ≡ whole
one_more whole xs ys rest v more h r y = ap (λ zs. zs ++ more) y ∙ append_assoc xs (v ∷ []) more ∙ ap (λ zs. xs ++ zs) (sym r) ∙ h

pub two_more : (whole xs ys zs rest : List Var) (v w : Var) (more : List Var) → xs ++ rest ≡ whole → rest ≡ v ∷ w ∷ more → ys ≡ xs ++ v ∷ []
    → zs ≡ ys ++ w ∷ [] → zs ++ more ≡ whole
two_more whole xs ys zs rest v w more h r y z = one_more whole ys zs (w ∷ more) w more (one_more whole xs ys rest v (w ∷ more) h r y) refl z

-- none more
pub kept : (whole xs ys rest more : List Var) → xs ++ rest ≡ whole → rest ≡ more → ys ≡ xs → ys ++ more ≡ whole
kept whole xs ys rest more h r y = ap (λ zs. zs ++ more) y ∙ ap (λ zs. xs ++ zs) (sym r) ∙ h

coordinates_at : (steps : List Step) (k : ℕ) (step : Step) → slice_get steps k ≡ Some step
    → coordinates_from k (drop k steps) ≡ coordinates_from k (step ∷ drop (k + 1) steps)
coordinates_at steps k step at = ap (λ xs. coordinates_from k xs) (at_drop steps k step at) ∙ ap
    (λ n. coordinates_from k (step ∷ drop n steps)) (sym (add-one k))

-- a free point
pub at_free : (steps : List Step) (k : ℕ) (step : Step) → slice_get steps k ≡ Some step → step ≡ Point
    → coordinates_from k (drop k steps) ≡ X (record { 0 = k }) ∷ Y (record { 0 = k }) ∷ coordinates_from (k + 1) (drop (k + 1) steps)
at_free steps k step at is =
    coordinates_at steps k step at ∙ ap (λ s. coordinates_from k (s ∷ drop (k + 1) steps)) is
    ∙ ap (λ n. X (record { 0 = k }) ∷ Y (record { 0 = k }) ∷ coordinates_from n (drop (k + 1) steps)) (sym (add-one k))

not_free : (k : ℕ) (step : Step) (steps : List Step) → (step ≡ Point → ⊥)
    → coordinates_from k (step ∷ steps) ≡ coordinates_from (k + 1) steps
not_free k Point steps h = absurd (h refl)
not_free k (Inter u v p q) steps h = ap (λ n. coordinates_from n steps) (sym (add-one k))
not_free k (Foot p u v) steps h = ap (λ n. coordinates_from n steps) (sym (add-one k))
not_free k (Pratio w u v r) steps h = ap (λ n. coordinates_from n steps) (sym (add-one k))
not_free k (Tratio u v r) steps h = ap (λ n. coordinates_from n steps) (sym (add-one k))
not_free k (Weights o u v r t) steps h = ap (λ n. coordinates_from n steps) (sym (add-one k))

-- another point
pub at_made : (steps : List Step) (k : ℕ) (step : Step) → slice_get steps k ≡ Some step → (step ≡ Point → ⊥)
    → coordinates_from k (drop k steps) ≡ coordinates_from (k + 1) (drop (k + 1) steps)
at_made steps k step at h = coordinates_at steps k step at ∙ not_free k step (drop (k + 1) steps) h

-- a parameter
pub at_parameter : (k n : ℕ) → k < n → parameters_from k (n - k) ≡ T (record { 0 = k }) ∷ parameters_from (k + 1) (n - (k + 1))
at_parameter k n lt =
    let e : n - k ≡ suc (n - (k + 1)) = omega (arith, lt) in
    ap (λ m. parameters_from k m) e ∙ ap (λ j. T (record { 0 = k }) ∷ parameters_from j (n - (k + 1))) (sym (add-one k))
