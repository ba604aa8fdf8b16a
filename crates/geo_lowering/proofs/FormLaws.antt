-- Steps over the same points: what is met stays met, and a point that is made is fixed.
use Rattle.std.proofs.Common.{◌≡◌, ℕ, suc, ◌<◌, ◌≤◌, ⊎_elim, List, [], ◌∷◌, ◌++◌, refl, subst, sym, arith}
use Rattle.std.proofs.Math.Nat.{eq-or-lt_of_le}
use Rattle.geo_points.specs.Placements.{Placement, SamePoint}
use Rattle.geo_terms.specs.Trees.{IsStepNumber}
use Rattle.geo_lowering.specs.StepForms.{StepForm, free, crossing_of, foot_of, along, turned_along, weighted, IsFormMet, AreFormsMet}
use Rattle.geo_points.proofs.Placed.{along_unique}
use Rattle.geo_points.proofs.Making.{crossing_unique, foot_unique, turned_unique}
use Rattle.geo_points.proofs.Same.{self_point, crossing-same, foot-same, along-same, turned-same, weighted-same}
use Rattle.geo_points.proofs.Weighted.{weighted_unique}
use Rattle.geo_lowering.proofs.Values.{AgreeBelow, over_number, value-same}

-- the step names points below n and numbers below m alone
abbrev pub IsFormOver : ℕ → ℕ → StepForm → Type 0
IsFormOver n m free = Unit {0}
IsFormOver n m (crossing_of u v p q) = (u < n) × (v < n) × (p < n) × (q < n)
IsFormOver n m (foot_of p u v) = (p < n) × (u < n) × (v < n)
IsFormOver n m (along w u v r) = (w < n) × (u < n) × (v < n) × IsStepNumber n m r
IsFormOver n m (turned_along u v r) = (u < n) × (v < n) × IsStepNumber n m r
IsFormOver n m (weighted o u v r s) = (o < n) × (u < n) × (v < n) × IsStepNumber n m r × IsStepNumber n m s

-- each of the steps of the points n, n + 1 and so on is over the points before it
abbrev pub AreFormsOver : ℕ → ℕ → List StepForm → Type 0
AreFormsOver n m [] = Unit {0}
AreFormsOver n m (f ∷ fs) = IsFormOver n m f × AreFormsOver (suc n) m fs

-- the number after the points of the steps
abbrev pub past : ℕ → List StepForm → ℕ
past n [] = n
past n (f ∷ fs) = past (suc n) fs

pub past-up : (n : ℕ) (fs : List StepForm) → n ≤ past n fs
past-up n [] = omega arith
past-up n (f ∷ fs) = let h : suc n ≤ past (suc n) fs = past-up (suc n) fs in omega arith

pub past-append : (n : ℕ) (fs gs : List StepForm) → past n (fs ++ gs) ≡ past (past n fs) gs
past-append n [] gs = refl
past-append n (f ∷ fs) gs = past-append (suc n) fs gs

pub met_front : (p : Placement) (n : ℕ) (fs gs : List StepForm) → AreFormsMet p n (fs ++ gs) → AreFormsMet p n fs
met_front p n [] gs h = tt
met_front p n (f ∷ fs) gs h = (h.0, met_front p (suc n) fs gs h.1)

pub met_back : (p : Placement) (n : ℕ) (fs gs : List StepForm) → AreFormsMet p n (fs ++ gs) → AreFormsMet p (past n fs) gs
met_back p n [] gs h = h
met_back p n (f ∷ fs) gs h = met_back p (suc n) fs gs h.1

pub met_append : (p : Placement) (n : ℕ) (fs gs : List StepForm) → AreFormsMet p n fs → AreFormsMet p (past n fs) gs → AreFormsMet p n (fs ++ gs)
met_append p n [] gs h k = k
met_append p n (f ∷ fs) gs h k = (h.0, met_append p (suc n) fs gs h.1 k)

pub over_append : (n m : ℕ) (fs gs : List StepForm) → AreFormsOver n m fs → AreFormsOver (past n fs) m gs → AreFormsOver n m (fs ++ gs)
over_append n m [] gs h k = k
over_append n m (f ∷ fs) gs h k = (h.0, over_append (suc n) m fs gs h.1 k)

-- a step holds at the same points
pub form-same : (n m k : ℕ) (p p' : Placement) → AgreeBelow n m p p' → SamePoint (p.point k) (p'.point k) → (f : StepForm) → IsFormOver n m f → IsFormMet p k f → IsFormMet p' k f
form-same n m k p p' g y free b h = tt
form-same n m k p p' g y (crossing_of u v a c) b h = crossing-same _ _ _ _ _ _ _ _ _ _ (g.points u b.0) (g.points v b.1) (g.points a b.2) (g.points c b.3) y h
form-same n m k p p' g y (foot_of a u v) b h = foot-same _ _ _ _ _ _ _ _ (g.points a b.0) (g.points u b.1) (g.points v b.2) y h
form-same n m k p p' g y (along w u v r) b h =
    let e = value-same n m p p' g r (over_number n m r b.3) h.0 in (e.0, along-same _ _ _ _ _ _ _ _ _ _ (g.points w b.0) (g.points u b.1) (g.points v b.2) e.1 y h.1)
form-same n m k p p' g y (turned_along u v r) b h =
    let e = value-same n m p p' g r (over_number n m r b.2) h.0 in (e.0, turned-same _ _ _ _ _ _ _ _ (g.points u b.0) (g.points v b.1) e.1 y h.1)
form-same n m k p p' g y (weighted o u v r s) b h =
    let e = value-same n m p p' g r (over_number n m r b.3) h.0 in
    let f = value-same n m p p' g s (over_number n m s b.4) h.1 in
    (e.0, f.0, weighted-same _ _ _ _ _ _ _ _ _ _ _ _ (g.points o b.0) (g.points u b.1) (g.points v b.2) e.1 f.1 y h.2)

fewer : (n n' m : ℕ) (p p' : Placement) → n ≤ n' → AgreeBelow n' m p p' → AgreeBelow n m p p'
fewer n n' m p p' l g = record { points = λ k c. g.points k (omega arith); numbers = g.numbers }

-- steps hold at the same points
pub forms-same : (n m : ℕ) (p p' : Placement) (fs : List StepForm) → AgreeBelow (past n fs) m p p' → AreFormsOver n m fs → AreFormsMet p n fs → AreFormsMet p' n fs
forms-same n m p p' [] g b h = tt
forms-same n m p p' (f ∷ fs) g b h =
    let u : suc n ≤ past (suc n) fs = past-up (suc n) fs in (
      form-same n m n p p' (fewer n (past (suc n) fs) m p p' (omega arith) g) (g.points n (omega arith)) f b.0 h.0,
      forms-same (suc n) m p p' fs g b.1 h.1,
    )

-- a point that is made is fixed by those before it
pub form_unique : (n m : ℕ) (p p' : Placement) → AgreeBelow n m p p' → (f : StepForm) → IsFormOver n m f → (f ≡ free → SamePoint (p.point n) (p'.point n))
    → IsFormMet p n f → IsFormMet p' n f → SamePoint (p.point n) (p'.point n)
form_unique n m p p' g free b e h k = e refl
form_unique n m p p' g (crossing_of u v a c) b e h k =
    crossing_unique _ _ _ _ _ _ (crossing-same _ _ _ _ _ _ _ _ _ _ (g.points u b.0) (g.points v b.1) (g.points a b.2) (g.points c b.3) (self_point (p.point n)) h) k
form_unique n m p p' g (foot_of a u v) b e h k =
    foot_unique _ _ _ _ _ (foot-same _ _ _ _ _ _ _ _ (g.points a b.0) (g.points u b.1) (g.points v b.2) (self_point (p.point n)) h) k
form_unique n m p p' g (along w u v r) b e h k =
    let d = value-same n m p p' g r (over_number n m r b.3) h.0 in
    along_unique _ _ _ _ _ _ (along-same _ _ _ _ _ _ _ _ _ _ (g.points w b.0) (g.points u b.1) (g.points v b.2) d.1 (self_point (p.point n)) h.1) k.1
form_unique n m p p' g (turned_along u v r) b e h k =
    let d = value-same n m p p' g r (over_number n m r b.2) h.0 in
    turned_unique _ _ _ _ _ (turned-same _ _ _ _ _ _ _ _ (g.points u b.0) (g.points v b.1) d.1 (self_point (p.point n)) h.1) k.1
form_unique n m p p' g (weighted o u v r s) b e h k =
    let d = value-same n m p p' g r (over_number n m r b.3) h.0 in
    let f = value-same n m p p' g s (over_number n m s b.4) h.1 in
    weighted_unique _ _ _ _ _ _ _ (weighted-same _ _ _ _ _ _ _ _ _ _ _ _ (g.points o b.0) (g.points u b.1) (g.points v b.2) d.1 f.1 (self_point (p.point n)) h.2) k.2

-- the placements agree at the free points among n, n + 1 and so on
abbrev pub FreesAgree : Placement → Placement → ℕ → List StepForm → Type 0
FreesAgree p p' n [] = Unit {0}
FreesAgree p p' n (f ∷ fs) = (f ≡ free → SamePoint (p.point n) (p'.point n)) × FreesAgree p p' (suc n) fs

one_more : (n m : ℕ) (p p' : Placement) → AgreeBelow n m p p' → SamePoint (p.point n) (p'.point n) → AgreeBelow (suc n) m p p'
one_more n m p p' g y = record {
  points = λ k b. ⊎_elim (λ (e : k ≡ n). subst (λ i. SamePoint (p.point i) (p'.point i)) (sym e) y) (λ (c : k < n). g.points k c) (eq-or-lt_of_le (omega arith));
  numbers = g.numbers;
}

-- the steps fix all points
pub forms_unique : (n m : ℕ) (p p' : Placement) (fs : List StepForm) → AgreeBelow n m p p' → AreFormsOver n m fs → FreesAgree p p' n fs
    → AreFormsMet p n fs → AreFormsMet p' n fs → AgreeBelow (past n fs) m p p'
forms_unique n m p p' [] g b e h k = g
forms_unique n m p p' (f ∷ fs) g b e h k =
    forms_unique (suc n) m p p' fs (one_more n m p p' g (form_unique n m p p' g f b.0 e.0 h.0 k.0)) b.1 e.1 h.1 k.1
