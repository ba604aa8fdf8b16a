-- The value of a polynomial without quantities in a placement that has the values of a sample.
use Rattle.std.proofs.Common.{◌≡◌, ℕ, zero, suc, ◌+◌, ◌≤◌, cond, All, Contains, map, ℤ, pos, negsuc, ◌+ℤ◌, ◌*ℤ◌, neg_ℤ, List, [], ◌∷◌, refl, sym, ap, subst, arith}
use Rattle.std.specs.Ordering.{is_eq}
use Rattle.std.specs.declared.cmp.Ordering.{Ordering}
use Rattle.std.specs.declared.cmp.Ordering.TheVariants.{Less, Equal, Greater}
use Rattle.std.proofs.lemmas.List.Elements.{All-cons, All-head, All-nil, All-tail, All-weaker}
use Rattle.ring_laws.specs.Powers.{power}
use Rattle.ring_laws.specs.Solver.{variable, numeral, ◌⊞◌, ◌⊠◌, entry_at}
use Rattle.ring_laws.proofs.Integers.{integers}
use Rattle.ring_laws.proofs.Sound.{agree}
use Rattle.ring_laws.proofs.WholeValues.{value-is}
use Rattle.sparse_lists.specs.SparseLists.{AllKeys}
use Rattle.fraction_poly.proofs.PolynomialValues.{◌∘◌, flip, self, products, sums, integer_is}
use Rattle.ring_laws.specs.Fraction.{Fraction, IsNonzero, Same, whole, plus, times}
use Rattle.geo_points.specs.Placements.{Placement}
use Rattle.ring_laws.proofs.Fractions.{fractions}
use Rattle.geo_poly.specs.declared.variables.Var.{Var}
use Rattle.geo_poly.specs.declared.variables.Var.TheVariants.{R, S, P, X, Y, T}
use Rattle.geo_poly.specs.Monomials.{Powers, exponent}
use Rattle.geo_poly.specs.Polynomials.{IsPolynomial, Summands}
use Rattle.geo_poly.specs.Specialise.{IsCollected, NoneZero, degree_in, specialised}
use Rattle.geo_poly.specs.Variables.{var_cmp}
use Rattle.geo_poly.proofs.Orders.{var_order}
use Rattle.geo_poly.proofs.SpecialisedLaws.{IsCollected-polynomial, degree_in-from_keys}
use Rattle.geo_sample.specs.Samples.{specialised_by}
use Rattle.geo_sample.specs.Tries.{all_specialised}
use Rattle.geo_sample.proofs.ValueLaws.{not_zero}
use Rattle.geo_poly.specs.Values.{integer, monomial_value, value}
use Rattle.geo_terms.specs.Constructions.{Construction}
use Rattle.geo_logs.specs.Chains.{IsEnd}
use Rattle.geo_logs.specs.Placements.{HasValuesBelow}
use Rattle.geo_logs.specs.Naming.{IsNamed}
use Rattle.geo_logs.specs.Samples.{sample_variables, value_in}
use Rattle.geo_poly.specs.PolynomialVariables.{AllVariables, IsPlain}
use Rattle.geo_poly.proofs.EachVariable.{of-both}
use Rattle.geo_logs.proofs.MoveValues.{IsApart, apart, at_placement, at_variable}
use Rattle.geo_logs.proofs.SampleVariables.{IsDistinct, own_values, plain_contained, sample_distinct}

-- WHOLE NUMBERS AS FRACTIONS
whole-plus : (a b : ℤ) → Same (plus (whole a) (whole b)) (whole (a +ℤ b))
unfolding whole plus
whole-plus a b =
    let x = variable 0 in let y = variable 1 in
    record { crossed = agree integers (entry_at integers (a ∷ b ∷ [])) ((x ⊠ numeral 1 ⊞ y ⊠ numeral 1) ⊠ numeral 1) ((x ⊞ y) ⊠ numeral 1) tt }

whole-times : (a b : ℤ) → Same (times (whole a) (whole b)) (whole (a *ℤ b))
unfolding whole times
whole-times a b =
    let x = variable 0 in let y = variable 1 in
    record { crossed = agree integers (entry_at integers (a ∷ b ∷ [])) ((x ⊠ y) ⊠ numeral 1) ((x ⊠ y) ⊠ numeral 1) tt }

whole-power : (a : Fraction) (z : ℤ) (k : ℕ) → Same a (whole z) → Same (power fractions a k) (whole (power integers z k))
whole-power a z zero h = self
whole-power a z (suc k) h = products (whole-power a z k h) h ∘ whole-times (power integers z k) z

integer-self : (z : ℤ) → integer integers z ≡ z
integer-self (pos n) = value-is (λ x. pos 0) (numeral n)
integer-self (negsuc n) = ap neg_ℤ (value-is (λ x. pos 0) (numeral (suc n)))

whole-integer : (z : ℤ) → Same (integer fractions z) (whole (integer integers z))
whole-integer z = subst (λ (y : ℤ). Same (integer fractions z) (whole y)) (sym (integer-self z)) (integer_is z)

module _ (x : Var → Fraction) (y : Var → ℤ) where
  abbrev IsWhole : Var → Type 0
  IsWhole v = Same (x v) (whole (y v))

  whole-monomial : (m : Powers) → AllKeys IsWhole m → Same (monomial_value fractions x m) (whole (monomial_value integers y m))
  whole-monomial [] h = self
  whole-monomial (p ∷ m) h =
      products (whole-power (x p.0) (y p.0) p.1 h.0) (whole-monomial m h.1) ∘ whole-times (power integers (y p.0) p.1) (monomial_value integers y m)

  whole-value : (q : Summands) → AllVariables IsWhole q → Same (value fractions x q) (whole (value integers y q))
  whole-value [] h = self
  whole-value (t ∷ ts) h =
      sums (products (whole-integer t.1) (whole-monomial t.0 h.0) ∘ whole-times (integer integers t.1) (monomial_value integers y t.0)) (whole-value ts h.1)
      ∘ whole-plus (integer integers t.1 *ℤ monomial_value integers y t.0) (value integers y ts)

-- ENDS
plain_value : (placed : Placement) (c : Construction) (n : ℕ) (values : List (Var × ℤ)) → HasValuesBelow placed c n values
    → (v : Var) → IsPlain v → IsNamed c n v → Same (at_variable placed v) (whole (value_in values v))
plain_value placed c n values h (R a b d e) plain named = absurd plain
plain_value placed c n values h (S a b d) plain named = absurd plain
plain_value placed c n values h (P a b d) plain named = absurd plain
plain_value placed c n values h (X a) plain named = h.by_x a named.0 named.1
plain_value placed c n values h (Y a) plain named = h.by_y a named.0 named.1
plain_value placed c n values h (T t) plain named = h.by_number t named

All-from_map : {A B : Type 0} (Holds : B → Type 0) (f : A → B) (xs : List A) → All Holds (map f xs) → All (λ x. Holds (f x)) xs
All-from_map Holds f [] h = All-nil (λ x. Holds (f x))
All-from_map Holds f (x ∷ xs) h = All-cons (λ x. Holds (f x)) x xs (All-head Holds (f x) (map f xs) h) (All-from_map Holds f xs (All-tail Holds (f x) (map f xs) h))

of-any : (Holds : Var → Type 0) → ((v : Var) → Holds v) → (q : Summands) → AllVariables Holds q
of-any Holds each [] = tt
of-any Holds each (t ∷ ts) = (powers t.0, of-any Holds each ts)
  where
    powers : (m : Powers) → AllKeys Holds m
    powers [] = tt
    powers (p ∷ m) = (each p.0, powers m)

-- the polynomial is not 0 with all values put in
abbrev pub IsNonzeroAt : List (Var × ℤ) → Summands → Type 0
IsNonzeroAt values q = NoneZero (specialised_by values (q ∷ []))

pub each_nonzero : (values : List (Var × ℤ)) (listed : List Summands) → NoneZero (specialised_by values listed) → All (IsNonzeroAt values) listed
each_nonzero [] listed h =
    All-weaker (λ (q : Summands). (q ≡ []) → ⊥) (IsNonzeroAt []) (λ q some. All-cons (λ (p : Summands). (p ≡ []) → ⊥) q [] some (All-nil (λ (p : Summands). (p ≡ []) → ⊥))) listed h
each_nonzero (value ∷ values) listed h =
    All-from_map (IsNonzeroAt values) (specialised value.0 value.1) listed (each_nonzero values (all_specialised value.0 value.1 listed) h)

module _ (v : Var) (vs : List Var) (lacks : Contains vs v → ⊥) where
  lacking_power : (p : Var × ℕ) (m : Powers) → Contains vs p.0 → exponent v m ≤ 0 → exponent v (p ∷ m) ≤ 0
  lacking_power p m here rest = other (var_cmp v p.0) refl
    where
      other : (o : Ordering) → var_cmp v p.0 ≡ o → cond (is_eq o) p.1 0 + exponent v m ≤ 0
      other Less e = omega (arith, rest)
      other Greater e = omega (arith, rest)
      other Equal e = absurd (lacks (subst (λ w. Contains vs w) (sym (var_order.exact v p.0 e)) here))

  lacking_powers : (m : Powers) → AllKeys (λ w. Contains vs w) m → exponent v m ≤ 0
  lacking_powers [] h = omega arith
  lacking_powers (p ∷ m) h = lacking_power p m h.0 (lacking_powers m h.1)

  lacking_terms : (q : Summands) → AllVariables (λ w. Contains vs w) q → AllKeys (λ m. exponent v m ≤ 0) q
  lacking_terms [] h = tt
  lacking_terms (t ∷ ts) h = (lacking_powers t.0 h.0, lacking_terms ts h.1)

  lacking : (q : Summands) → AllVariables (λ w. Contains vs w) q → degree_in v q ≡ 0
  lacking q h = let le : degree_in v q ≤ 0 = degree_in-from_keys v 0 q (lacking_terms q h) in omega (arith, le)

-- an end that is not 0 at a sample is not 0 in a placement with its values
pub end_apart : (placed : Placement) (c : Construction) (n : ℕ) (values : List (Var × ℤ)) → map (λ v. v.0) values ≡ sample_variables c → HasValuesBelow placed c n values
    → (e : Summands) → IsPolynomial e → IsEnd e → AllVariables (IsNamed c n) e → IsNonzeroAt values e → IsApart (at_placement placed e)
end_apart placed c n values ordered h e valid plain named some z =
    let at_sample : Var → Fraction = λ v. whole (value_in values v) in
    let here : Same (at_placement placed e) (whole (value integers (value_in values) e)) =
    whole-value (at_variable placed) (value_in values) e
    (of-both IsPlain (IsNamed c n) (λ v. Same (at_variable placed v) (whole (value_in values v)))
    (plain_value placed c n values h) e plain named) in
    let there : Same (value fractions at_sample e) (whole (value integers (value_in values) e)) = whole-value at_sample (value_in values) e
    (of-any (λ v. Same (at_sample v) (whole (value_in values v))) (λ v. self) e) in
    let contained : AllVariables (λ v. Contains (map (λ (y : Var × ℤ). y.0) values) v) e =
    subst (λ (vs : List Var). AllVariables (λ v. Contains vs v) e) (sym ordered) (of-both IsPlain (IsNamed c n) (λ v. Contains (sample_variables c) v) (plain_contained c n) e plain named) in
    let apart_there = not_zero values (e ∷ []) at_sample
    (All-cons IsCollected e [] (IsCollected-polynomial e valid) (All-nil IsCollected))
    (All-cons (λ (q : Summands). (v : Var) → (Contains (map (λ (y : Var × ℤ). y.0) values) v → ⊥) → degree_in v q ≡ 0) e [] (λ v lacks. lacking v (map (λ (y : Var × ℤ). y.0) values) lacks e contained)
    (All-nil (λ (q : Summands). (v : Var) → (Contains (map (λ (y : Var × ℤ). y.0) values) v → ⊥) → degree_in v q ≡ 0)))
    some (own_values values (subst IsDistinct (sym ordered) (sample_distinct c))) in
    apart (value fractions at_sample e) (All-head (λ (q : Summands). IsNonzero (value fractions at_sample q)) e [] apart_there) (there ∘ flip here ∘ z)
