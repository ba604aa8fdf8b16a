-- Whole numbers at which no numerator of some terms over numbers is 0.
use Rattle.std.proofs.Common.{◌≡◌, ℕ, zero, suc, ◌+◌, ◌≤◌, All, Contains, cond, ℤ, pos, map, List, [], ◌∷◌, refl, sym, subst, arith}
use Rattle.std.specs.Ordering.{is_eq}
use Rattle.std.specs.declared.cmp.Ordering.{Ordering}
use Rattle.std.specs.declared.cmp.Ordering.TheVariants.{Less, Equal, Greater}
use Rattle.std.proofs.lemmas.List.Elements.{All-cons, All-head, All-map, All-nil, All-tail, All-weaker}
use Rattle.ring_laws.specs.Fraction.{IsNonzero, Same, whole}
use Rattle.ring_laws.proofs.Fractions.{fractions}
use Rattle.sparse_lists.specs.SparseLists.{AllKeys}
use Rattle.fraction_poly.specs.Laws.{polynomial_value}
use Rattle.geo_points.specs.Placements.{Placement}
use Rattle.geo_conditions.specs.Truth.{whole_point}
use Rattle.geo_poly.specs.declared.variables.Var.{Var}
use Rattle.geo_poly.specs.declared.variables.Var.TheVariants.{R, S, P, X, Y, T}
use Rattle.geo_poly.specs.Monomials.{Powers, exponent}
use Rattle.geo_poly.specs.PolynomialVariables.{AllVariables}
use Rattle.geo_poly.specs.Polynomials.{Summands}
use Rattle.geo_poly.specs.Specialise.{IsCollected, NoneZero, degree_in}
use Rattle.geo_poly.specs.Values.{value, variable_value}
use Rattle.geo_poly.specs.Variables.{var_cmp}
use Rattle.geo_poly.proofs.EachVariable.{of-both}
use Rattle.geo_poly.proofs.Orders.{var_order}
use Rattle.geo_poly.proofs.SpecialisedLaws.{degree_in-from_keys}
use Rattle.geo_sample.proofs.LeastSamples.{sample_keeps, some_sample}
use Rattle.geo_sample.proofs.ValueLaws.{not_zero}
use Rattle.geo_terms.specs.Constructions.{Construction}
use Rattle.geo_terms.specs.TermBounds.{IsTermBelow}
use Rattle.geo_terms.specs.Trees.{Tree}
use Rattle.geo_logs.specs.Naming.{IsNamed}
use Rattle.geo_logs.specs.Samples.{parameters_from, sample_variables, value_in}
use Rattle.geo_logs.specs.Starts.{start_of}
use Rattle.geo_logs.proofs.SampleVariables.{EachValue, IsDistinct, IsOwn, each_own, plain_contained, sample_distinct}
use Rattle.geo_logs.proofs.TermVariables.{term_sound}
use Rattle.geo_library.proofs.CollectedStarts.{collected_start}

-- so many numbers, and no point
abbrev pub numbers_alone : ℕ → Construction
numbers_alone M = record { nodes = []; steps = []; params = M }

-- the numbers of a sample
abbrev pub sampled : List (Var × ℤ) → Placement
sampled xs = record { point = λ a. whole_point (pos 0, pos 0); number = λ t. whole (value_in xs (T (record { 0 = t }))) }

module _ (v : Var) (vs : List Var) (lacks : Contains vs v → ⊥) where
  lacking_power : (p : Var × ℕ) (m : Powers) → Contains vs p.0 → exponent v m ≤ 0 → exponent v (p ∷ m) ≤ 0
  lacking_power p m here rest = other (var_cmp v p.0) refl
    where
      other : (o : Ordering) → var_cmp v p.0 ≡ o → cond (is_eq o) p.1 0 + exponent v m ≤ 0
      other Less e = omega (arith, rest)
      other Greater e = omega (arith, rest)
      other Equal e = absurd (lacks (subst (λ w. Contains vs w) (sym (var_order.exact v p.0 e)) here))

  lacking_powers : (m : Powers) → AllKeys (λ w. Contains vs w) m → exponent v m ≤ 0
  lacking_powers [] h = omega arith
  lacking_powers (p ∷ m) h = lacking_power p m h.0 (lacking_powers m h.1)

  lacking_terms : (q : Summands) → AllVariables (λ w. Contains vs w) q → AllKeys (λ m. exponent v m ≤ 0) q
  lacking_terms [] h = tt
  lacking_terms (t ∷ ts) h = (lacking_powers t.0 h.0, lacking_terms ts h.1)

  lacking : (q : Summands) → AllVariables (λ w. Contains vs w) q → degree_in v q ≡ 0
  lacking q h = let le : degree_in v q ≤ 0 = degree_in-from_keys v 0 q (lacking_terms q h) in omega (arith, le)

-- a variable of numbers alone is one of them
listed : (M : ℕ) (v : Var) → IsNamed (numbers_alone M) 0 v → Contains (sample_variables (numbers_alone M)) v
listed M (R a b d e) n = absurd (omega (arith, n.0))
listed M (S a b d) n = absurd (omega (arith, n.0))
listed M (P a b d) n = absurd (omega (arith, n.0))
listed M (X a) n = absurd (omega (arith, n.0))
listed M (Y a) n = absurd (omega (arith, n.0))
listed M (T t) n = plain_contained (numbers_alone M) 0 (T t) tt n

variables_listed : (M : ℕ) (e : Tree) → IsTermBelow 0 M e → AllVariables (λ w. Contains (sample_variables (numbers_alone M)) w) (start_of e)
variables_listed M e h =
    let named = (term_sound (numbers_alone M) e).named 0 h in
    of-both (IsNamed (numbers_alone M) 0) (IsNamed (numbers_alone M) 0) (λ w. Contains (sample_variables (numbers_alone M)) w) (λ v n again. listed M v n) (start_of e) named named

-- each number has its value
module _ (ws : List (Var × ℤ)) where
  abbrev HasOwn : Var × ℤ → Type 0
  HasOwn y = Same (variable_value (sampled ws).point (sampled ws).number y.0) (whole y.1)

  each_number : (k n : ℕ) (ys : List (Var × ℤ)) → map (λ (y : Var × ℤ). y.0) ys ≡ parameters_from k n → EachValue (IsOwn ws) ys → EachValue HasOwn ys
  each_number k n [] e h = tt
  each_number k zero (y ∷ ys) e h = let q : ◌≡◌ {A = List Var} (y.0 ∷ map (λ (y : Var × ℤ). y.0) ys) [] = e in absurd (cc)
  each_number k (suc n) (y ∷ ys) e h =
      let q : ◌≡◌ {A = List Var} (y.0 ∷ map (λ (y : Var × ℤ). y.0) ys) (T (record { 0 = k }) ∷ parameters_from (suc k) n) = e in
      let head : y.0 ≡ T (record { 0 = k }) = cc in
      let tail : map (λ (y : Var × ℤ). y.0) ys ≡ parameters_from (suc k) n = cc in
      let own : value_in ws (T (record { 0 = k })) ≡ y.1 = subst (λ v. value_in ws v ≡ y.1) head h.0 in
      let here : Same (variable_value (sampled ws).point (sampled ws).number (T (record { 0 = k }))) (whole y.1) =
      subst (λ z. Same (whole (value_in ws (T (record { 0 = k })))) (whole z)) own (fractions.same_refl (whole (value_in ws (T (record { 0 = k }))))) in
      (subst (λ v. Same (variable_value (sampled ws).point (sampled ws).number v) (whole y.1)) (sym head) here, each_number (suc k) n ys tail h.1)

  all_numbers : (ys : List (Var × ℤ)) → EachValue HasOwn ys → All HasOwn ys
  all_numbers [] h = All-nil HasOwn
  all_numbers (y ∷ ys) h = All-cons HasOwn y ys h.0 (all_numbers ys h.1)

pub All-from_map : {A B : Type 0} (Holds : B → Type 0) (f : A → B) (xs : List A) → All Holds (map f xs) → All (λ x. Holds (f x)) xs
All-from_map Holds f [] h = All-nil (λ x. Holds (f x))
All-from_map Holds f (x ∷ xs) h = All-cons (λ x. Holds (f x)) x xs (All-head Holds (f x) (map f xs) h) (All-from_map Holds f xs (All-tail Holds (f x) (map f xs) h))

-- some numbers make none of the numerators 0
pub common : (M : ℕ) (es : List Tree) → All (IsTermBelow 0 M) es → All (λ e. start_of e ≡ [] → ⊥) es
    → (xs : List (Var × ℤ)) × All (λ e. IsNonzero (polynomial_value (sampled xs) (start_of e))) es
common M es below some =
    let vs = sample_variables (numbers_alone M) in
    let ps : List Summands = map start_of es in
    let ordered : All IsCollected ps = All-map IsCollected start_of es (All-weaker (IsTermBelow 0 M) (λ e. IsCollected (start_of e)) (λ e h. collected_start e) es below) in
    let none : NoneZero ps = All-map (λ (p : Summands). p ≡ [] → ⊥) start_of es some in
    let found = some_sample vs ps ordered none in
    let xs = found.0 in
    let is = sample_keeps vs ps xs none found.1 in
    let only : All (λ (p : Summands). (v : Var) → (Contains (map (λ (y : Var × ℤ). y.0) xs) v → ⊥) → degree_in v p ≡ 0) ps =
    All-map (λ (p : Summands). (v : Var) → (Contains (map (λ (y : Var × ℤ). y.0) xs) v → ⊥) → degree_in v p ≡ 0) start_of es
    (All-weaker (IsTermBelow 0 M) (λ e. (v : Var) → (Contains (map (λ (y : Var × ℤ). y.0) xs) v → ⊥) → degree_in v (start_of e) ≡ 0)
    (λ e h v lacks. lacking v (map (λ (y : Var × ℤ). y.0) xs) lacks (start_of e)
    (subst (λ (us : List Var). AllVariables (λ w. Contains us w) (start_of e)) (sym is.variables) (variables_listed M e h))) es below) in
    let distinct : IsDistinct (map (λ (y : Var × ℤ). y.0) xs) = subst IsDistinct (sym is.variables) (sample_distinct (numbers_alone M)) in
    let same = all_numbers xs xs (each_number xs 0 M xs is.variables (each_own xs distinct)) in
    let x = variable_value (sampled xs).point (sampled xs).number in
    (xs, All-from_map (λ (p : Summands). IsNonzero (value fractions x p)) start_of es (not_zero xs ps x ordered only is.keeps same))
