-- The variables of a sample: each that an end may have, and no two the same.
use Rattle.std.proofs.Common.{◌≡◌, ℕ, zero, suc, ◌+◌, ◌<◌, ◌≤◌, cond, Contains, map, ℤ, All, Option, Some, None, List, [], ◌∷◌, ◌++◌, refl, sym, ap, subst, arith}
use Rattle.std.specs.Prelude.{slice_get}
use Rattle.std.specs.Ordering.{is_eq}
use Rattle.std.specs.declared.cmp.Ordering.{Ordering}
use Rattle.std.specs.declared.cmp.Ordering.TheVariants.{Less, Equal, Greater}
use Rattle.std.proofs.lemmas.List.Elements.{All-cons, All-nil}
use Rattle.ring_laws.specs.Fraction.{Same, whole}
use Rattle.geo_poly.specs.declared.variables.Var.{Var}
use Rattle.geo_poly.specs.declared.variables.Var.TheVariants.{R, S, P, X, Y, T}
use Rattle.geo_poly.specs.Variables.{var_cmp}
use Rattle.geo_poly.proofs.Orders.{var_order}
use Rattle.geo_terms.specs.declared.steps.Step.{Step}
use Rattle.geo_terms.specs.declared.steps.Step.TheVariants.{Point, Inter, Foot, Pratio, Tratio, Weights}
use Rattle.geo_terms.specs.Constructions.{Construction}
use Rattle.fraction_poly.proofs.PolynomialValues.{self}
use Rattle.geo_logs.specs.Naming.{IsNamed}
use Rattle.geo_logs.specs.Samples.{coordinates_from, parameters_from, sample_variables, value_in}
use Rattle.geo_poly.specs.PolynomialVariables.{IsPlain}
use Rattle.geo_poly.proofs.EachVariable.{EachIn}

-- EACH VARIABLE OF AN END
contains-more : {A : Type 0} (y : A) (xs : List A) (x : A) → Contains xs x → Contains (y ∷ xs) x
contains-more y xs x (k, lt, e) = (suc k, omega arith, e)

contains-left : {A : Type 0} (xs ys : List A) (x : A) → Contains xs x → Contains (xs ++ ys) x
contains-left [] ys x (k, lt, e) = absurd (omega arith)
contains-left (y ∷ xs) ys x (zero, lt, e) = (0, omega arith, e)
contains-left (y ∷ xs) ys x (suc k, lt, e) = contains-more y (xs ++ ys) x (contains-left xs ys x (k, omega arith, e))

contains-right : {A : Type 0} (xs ys : List A) (x : A) → Contains ys x → Contains (xs ++ ys) x
contains-right [] ys x h = h
contains-right (y ∷ xs) ys x h = contains-more y (xs ++ ys) x (contains-right xs ys x h)

-- both coordinates of a free point
abbrev HasCoordinates : List Var → ℕ → Type 0
HasCoordinates vs j = Contains vs (X (record { 0 = j })) × Contains vs (Y (record { 0 = j }))

free_coordinates : (k : ℕ) (steps : List Step) (i : ℕ) → slice_get steps i ≡ Some Point → HasCoordinates (coordinates_from k steps) (k + i)
free_coordinates k [] i e = absurd (let q : ◌≡◌ {A = Option Step} None (Some Point) = e in cc)
free_coordinates k (Point ∷ steps) zero e =
    let here : k ≡ k + 0 = omega arith in
    subst (HasCoordinates (coordinates_from k (Point ∷ steps))) here ((0, omega arith, refl), (1, omega arith, refl))
free_coordinates k (Point ∷ steps) (suc i) e =
    let there : suc k + i ≡ k + suc i = omega arith in
    let rest = free_coordinates (suc k) steps i e in
    let more : (v : Var) → Contains (coordinates_from (suc k) steps) v → Contains (coordinates_from k (Point ∷ steps)) v =
    λ v h. contains-more (X (record { 0 = k })) (Y (record { 0 = k }) ∷ coordinates_from (suc k) steps) v (contains-more (Y (record { 0 = k })) (coordinates_from (suc k) steps) v h) in
    subst (HasCoordinates (coordinates_from k (Point ∷ steps))) there (more _ rest.0, more _ rest.1)
free_coordinates k (Inter u v p q ∷ steps) zero e = absurd (let q : ◌≡◌ {A = Option Step} (Some (Inter u v p q)) (Some Point) = e in cc)
free_coordinates k (Foot p u v ∷ steps) zero e = absurd (let q : ◌≡◌ {A = Option Step} (Some (Foot p u v)) (Some Point) = e in cc)
free_coordinates k (Pratio w u v r ∷ steps) zero e = absurd (let q : ◌≡◌ {A = Option Step} (Some (Pratio w u v r)) (Some Point) = e in cc)
free_coordinates k (Tratio u v r ∷ steps) zero e = absurd (let q : ◌≡◌ {A = Option Step} (Some (Tratio u v r)) (Some Point) = e in cc)
free_coordinates k (Weights o u v r t ∷ steps) zero e = absurd (let q : ◌≡◌ {A = Option Step} (Some (Weights o u v r t)) (Some Point) = e in cc)
free_coordinates k (Inter u v p q ∷ steps) (suc i) e = let there : suc k + i ≡ k + suc i = omega arith in
    subst (HasCoordinates (coordinates_from (suc k) steps)) there (free_coordinates (suc k) steps i e)
free_coordinates k (Foot p u v ∷ steps) (suc i) e = let there : suc k + i ≡ k + suc i = omega arith in
    subst (HasCoordinates (coordinates_from (suc k) steps)) there (free_coordinates (suc k) steps i e)
free_coordinates k (Pratio w u v r ∷ steps) (suc i) e = let there : suc k + i ≡ k + suc i = omega arith in
    subst (HasCoordinates (coordinates_from (suc k) steps)) there (free_coordinates (suc k) steps i e)
free_coordinates k (Tratio u v r ∷ steps) (suc i) e = let there : suc k + i ≡ k + suc i = omega arith in
    subst (HasCoordinates (coordinates_from (suc k) steps)) there (free_coordinates (suc k) steps i e)
free_coordinates k (Weights o u v r t ∷ steps) (suc i) e = let there : suc k + i ≡ k + suc i = omega arith in
    subst (HasCoordinates (coordinates_from (suc k) steps)) there (free_coordinates (suc k) steps i e)

each_parameter : (k n i : ℕ) → i < n → Contains (parameters_from k n) (T (record { 0 = k + i }))
each_parameter k zero i lt = absurd (omega arith)
each_parameter k (suc n) zero lt =
    let here : k ≡ k + 0 = omega arith in
    subst (λ j. Contains (parameters_from k (suc n)) (T (record { 0 = j }))) here (0, omega arith, refl)
each_parameter k (suc n) (suc i) lt =
    let there : suc k + i ≡ k + suc i = omega arith in
    contains-more (T (record { 0 = k })) (parameters_from (suc k) n) (T (record { 0 = k + suc i }))
    (subst (λ j. Contains (parameters_from (suc k) n) (T (record { 0 = j }))) there (each_parameter (suc k) n i (omega arith)))

-- a coordinate of a free point or a parameter is one of a sample
pub plain_contained : (c : Construction) (n : ℕ) (v : Var) → IsPlain v → IsNamed c n v → Contains (sample_variables c) v
plain_contained c n (R a b d e) plain named = absurd plain
plain_contained c n (S a b d) plain named = absurd plain
plain_contained c n (P a b d) plain named = absurd plain
plain_contained c n (X a) plain named = contains-left (coordinates_from 0 c.steps) (parameters_from 0 c.params) (X a) (at_zero (free_coordinates 0 c.steps a.0 named.1)).0
  where
    at_zero : HasCoordinates (coordinates_from 0 c.steps) (0 + a.0) → HasCoordinates (coordinates_from 0 c.steps) a.0
    at_zero h = let same : 0 + a.0 ≡ a.0 = omega arith in subst (HasCoordinates (coordinates_from 0 c.steps)) same h
plain_contained c n (Y a) plain named = contains-left (coordinates_from 0 c.steps) (parameters_from 0 c.params) (Y a) (at_zero (free_coordinates 0 c.steps a.0 named.1)).1
  where
    at_zero : HasCoordinates (coordinates_from 0 c.steps) (0 + a.0) → HasCoordinates (coordinates_from 0 c.steps) a.0
    at_zero h = let same : 0 + a.0 ≡ a.0 = omega arith in subst (HasCoordinates (coordinates_from 0 c.steps)) same h
plain_contained c n (T t) plain named =
    let same : 0 + t.0 ≡ t.0 = omega arith in
    contains-right (coordinates_from 0 c.steps) (parameters_from 0 c.params) (T t)
    (subst (λ j. Contains (parameters_from 0 c.params) (T (record { 0 = j }))) same (each_parameter 0 c.params t.0 named))

-- NO TWO THE SAME
-- no variable stands twice
abbrev pub IsDistinct : List Var → Type 0
IsDistinct [] = Unit {0}
IsDistinct (v ∷ vs) = EachIn (λ w. (w ≡ v) → ⊥) vs × IsDistinct vs

weaker : (Holds Other : Var → Type 0) → ((v : Var) → Holds v → Other v) → (vs : List Var) → EachIn Holds vs → EachIn Other vs
weaker Holds Other f [] h = tt
weaker Holds Other f (v ∷ vs) h = (f v h.0, weaker Holds Other f vs h.1)

-- a coordinate of the point k or a later one, or a parameter
abbrev IsPast : ℕ → Var → Type 0
IsPast k (X a) = k ≤ a.0
IsPast k (Y a) = k ≤ a.0
IsPast k (T t) = Unit {0}
IsPast k _ = ⊥

-- a parameter of the number k or a later one
abbrev IsParameterPast : ℕ → Var → Type 0
IsParameterPast k (T t) = k ≤ t.0
IsParameterPast k _ = ⊥

further : (k : ℕ) (v : Var) → IsPast (suc k) v → IsPast k v
further k (X a) h = omega (arith, h)
further k (Y a) h = omega (arith, h)
further k (T t) h = tt
further k (R a b d e) h = absurd h
further k (S a b d) h = absurd h
further k (P a b d) h = absurd h

parameter_past : (k : ℕ) (v : Var) → IsParameterPast 0 v → IsPast k v
parameter_past k (T t) h = tt
parameter_past k (X a) h = absurd h
parameter_past k (Y a) h = absurd h
parameter_past k (R a b d e) h = absurd h
parameter_past k (S a b d) h = absurd h
parameter_past k (P a b d) h = absurd h

later_parameter : (k : ℕ) (v : Var) → IsParameterPast (suc k) v → IsParameterPast k v
later_parameter k (T t) h = omega (arith, h)
later_parameter k (X a) h = absurd h
later_parameter k (Y a) h = absurd h
later_parameter k (R a b d e) h = absurd h
later_parameter k (S a b d) h = absurd h
later_parameter k (P a b d) h = absurd h

parameters_past : (k n : ℕ) → EachIn (IsParameterPast k) (parameters_from k n)
parameters_past k zero = tt
parameters_past k (suc n) = (omega arith, weaker (IsParameterPast (suc k)) (IsParameterPast k) (later_parameter k) (parameters_from (suc k) n) (parameters_past (suc k) n))

other_parameter : (k : ℕ) (v : Var) → IsParameterPast (suc k) v → (v ≡ T (record { 0 = k })) → ⊥
other_parameter k v h e = let no : suc k ≤ k = subst (IsParameterPast (suc k)) e h in omega (arith, no)

parameters_distinct : (k n : ℕ) → IsDistinct (parameters_from k n)
parameters_distinct k zero = tt
parameters_distinct k (suc n) =
    (weaker (IsParameterPast (suc k)) (λ v. (v ≡ T (record { 0 = k })) → ⊥) (other_parameter k) (parameters_from (suc k) n) (parameters_past (suc k) n), parameters_distinct (suc k) n)

other_x : (k : ℕ) (v : Var) → IsPast (suc k) v → (v ≡ X (record { 0 = k })) → ⊥
other_x k v h e = let no : suc k ≤ k = subst (IsPast (suc k)) e h in omega (arith, no)

other_y : (k : ℕ) (v : Var) → IsPast (suc k) v → (v ≡ Y (record { 0 = k })) → ⊥
other_y k v h e = let no : suc k ≤ k = subst (IsPast (suc k)) e h in omega (arith, no)

module _ (parameters : List Var) (only : EachIn (IsParameterPast 0) parameters) where
  past_later : (k : ℕ) (vs : List Var) → EachIn (IsPast (suc k)) vs → EachIn (IsPast k) vs
  past_later k vs h = weaker (IsPast (suc k)) (IsPast k) (further k) vs h

  coordinates_past : (k : ℕ) (steps : List Step) → EachIn (IsPast k) (coordinates_from k steps ++ parameters)
  coordinates_past k [] = weaker (IsParameterPast 0) (IsPast k) (parameter_past k) parameters only
  coordinates_past k (Point ∷ steps) = (omega arith, (omega arith, past_later k (coordinates_from (suc k) steps ++ parameters) (coordinates_past (suc k) steps)))
  coordinates_past k (Inter u v p q ∷ steps) = past_later k (coordinates_from (suc k) steps ++ parameters) (coordinates_past (suc k) steps)
  coordinates_past k (Foot p u v ∷ steps) = past_later k (coordinates_from (suc k) steps ++ parameters) (coordinates_past (suc k) steps)
  coordinates_past k (Pratio w u v r ∷ steps) = past_later k (coordinates_from (suc k) steps ++ parameters) (coordinates_past (suc k) steps)
  coordinates_past k (Tratio u v r ∷ steps) = past_later k (coordinates_from (suc k) steps ++ parameters) (coordinates_past (suc k) steps)
  coordinates_past k (Weights o u v r t ∷ steps) = past_later k (coordinates_from (suc k) steps ++ parameters) (coordinates_past (suc k) steps)

  coordinates_distinct : IsDistinct parameters → (k : ℕ) (steps : List Step) → IsDistinct (coordinates_from k steps ++ parameters)
  coordinates_distinct apart k [] = apart
  coordinates_distinct apart k (Point ∷ steps) =
      let rest : List Var = coordinates_from (suc k) steps ++ parameters in
      let past = coordinates_past (suc k) steps in (
        (λ e. let q : Y (record { 0 = k }) ≡ X (record { 0 = k }) = e in absurd (cc), weaker (IsPast (suc k)) (λ v. (v ≡ X (record { 0 = k })) → ⊥) (other_x k) rest past),
        (weaker (IsPast (suc k)) (λ v. (v ≡ Y (record { 0 = k })) → ⊥) (other_y k) rest past, coordinates_distinct apart (suc k) steps),
      )
  coordinates_distinct apart k (Inter u v p q ∷ steps) = coordinates_distinct apart (suc k) steps
  coordinates_distinct apart k (Foot p u v ∷ steps) = coordinates_distinct apart (suc k) steps
  coordinates_distinct apart k (Pratio w u v r ∷ steps) = coordinates_distinct apart (suc k) steps
  coordinates_distinct apart k (Tratio u v r ∷ steps) = coordinates_distinct apart (suc k) steps
  coordinates_distinct apart k (Weights o u v r t ∷ steps) = coordinates_distinct apart (suc k) steps

-- no variable of a sample stands twice
pub sample_distinct : (c : Construction) → IsDistinct (sample_variables c)
sample_distinct c = coordinates_distinct (parameters_from 0 c.params) (parameters_past 0 c.params) (parameters_distinct 0 c.params) 0 c.steps

-- VALUES
abbrev pub EachValue : (Var × ℤ → Type 0) → List (Var × ℤ) → Type 0
EachValue Holds [] = Unit {0}
EachValue Holds (y ∷ ys) = Holds y × EachValue Holds ys

all_values : (Holds : Var × ℤ → Type 0) (ys : List (Var × ℤ)) → EachValue Holds ys → All Holds ys
all_values Holds [] h = All-nil Holds
all_values Holds (y ∷ ys) h = All-cons Holds y ys h.0 (all_values Holds ys h.1)

-- the list tells the value of the variable
abbrev pub IsOwn : List (Var × ℤ) → Var × ℤ → Type 0
IsOwn ws y = value_in ws y.0 ≡ y.1

first_own : (w : Var × ℤ) (ws : List (Var × ℤ)) → IsOwn (w ∷ ws) w
first_own w ws = ap (λ (o : Ordering). cond (is_eq o) w.1 (value_in ws w.0)) (var_order.self w.0)

behind : (w : Var × ℤ) (ws ys : List (Var × ℤ)) → EachIn (λ u. (u ≡ w.0) → ⊥) (map (λ (y : Var × ℤ). y.0) ys) → EachValue (IsOwn ws) ys → EachValue (IsOwn (w ∷ ws)) ys
behind w ws [] others h = tt
behind w ws (y ∷ ys) others h = (go (var_cmp w.0 y.0) refl, behind w ws ys others.1 h.1)
  where
    go : (o : Ordering) → var_cmp w.0 y.0 ≡ o → cond (is_eq o) w.1 (value_in ws y.0) ≡ y.1
    go Less e = h.0
    go Greater e = h.0
    go Equal e = absurd (others.0 (sym (var_order.exact w.0 y.0 e)))

pub each_own : (ws : List (Var × ℤ)) → IsDistinct (map (λ (y : Var × ℤ). y.0) ws) → EachValue (IsOwn ws) ws
each_own [] h = tt
each_own (w ∷ ws) h = (first_own w ws, behind w ws ws h.0 (each_own ws h.1))

-- where no variable stands twice, each has its own value
pub own_values : (ws : List (Var × ℤ)) → IsDistinct (map (λ (y : Var × ℤ). y.0) ws) → All (λ (y : Var × ℤ). Same (whole (value_in ws y.0)) (whole y.1)) ws
own_values ws h = all_values (λ (y : Var × ℤ). Same (whole (value_in ws y.0)) (whole y.1)) ws (go ws (each_own ws h))
  where
    go : (ys : List (Var × ℤ)) → EachValue (IsOwn ws) ys → EachValue (λ (y : Var × ℤ). Same (whole (value_in ws y.0)) (whole y.1)) ys
    go [] h = tt
    go (y ∷ ys) h = (subst (λ z. Same (whole (value_in ws y.0)) (whole z)) h.0 self, go ys h.1)
