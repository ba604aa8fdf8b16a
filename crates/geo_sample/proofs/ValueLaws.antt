-- Where no polynomial is zero at values of all variables, none has the value 0.
use Rattle.std.proofs.Common.{◌≡◌, zero, suc, ◌≤◌, eqb, true, false, ℤ, pos, List, [], ◌∷◌, get_or, map, All, Contains, unsigned_abs, refl, sym, ap, subst, ◌∙◌, arith}
use Rattle.std.specs.declared.cmp.Ordering.{Ordering}
use Rattle.std.specs.declared.cmp.Ordering.TheVariants.{Less, Equal, Greater}
use Rattle.std.proofs.lemmas.Bool.Decides.{nat_tests}
use Rattle.std.proofs.lemmas.List.Elements.{All-nil, All-cons, All-head, All-tail, All-map, All-weaker}
use Rattle.ring_laws.specs.Fraction.{Fraction, Same, whole, IsNonzero}
use Rattle.ring_laws.proofs.Fractions.{fractions}
use Rattle.ring_laws.proofs.Quotients.{zero_of_same, same_of_zero}
use Rattle.sparse_lists.specs.SparseLists.{IsCanonical}
use Rattle.sparse_lists.proofs.Canonical.{amount-head}
use Rattle.geo_poly.specs.declared.variables.Var.{Var}
use Rattle.geo_poly.specs.Variables.{var_cmp}
use Rattle.geo_poly.specs.Monomials.{Powers, exponents, exponent}
use Rattle.geo_poly.specs.Polynomials.{Summands, term_cmp}
use Rattle.geo_poly.specs.Specialise.{specialised, degree_in, IsCollected, NoneZero}
use Rattle.geo_poly.specs.Values.{integer, value}
use Rattle.geo_poly.proofs.Orders.{var_order, exponents_add, term_order}
use Rattle.geo_poly.proofs.SpecialisedLaws.{degree_in-specialised_self, degree_in-specialised-le, value-specialised}
use Rattle.geo_poly.proofs.WholeValues.{whole-integer}
use Rattle.geo_sample.specs.Tries.{all_specialised}
use Rattle.geo_sample.specs.Samples.{specialised_by}
use Rattle.geo_sample.proofs.LeastSamples.{collected}

-- WITHOUT VARIABLES
-- a monomial without variables is that of the constant
no_powers : (m : Powers) → IsCanonical var_cmp exponents m → ((v : Var) → exponent v m ≡ 0) → m ≡ []
no_powers [] h none = refl
no_powers (p ∷ m) h none =
    let some : eqb p.1 0 ≡ false = h.0 in
    let nothing : p.1 ≡ 0 = sym (amount-head var_cmp exponents var_order exponents_add p m h.1) ∙ none p.0 in
    absurd (grind (arith, nat_tests))

-- the polynomial has no variable
abbrev LacksAll : Summands → Type 0
LacksAll p = (v : Var) → degree_in v p ≡ 0

first_lacks : (t : Powers × ℤ) (ts : Summands) → LacksAll (t ∷ ts) → (v : Var) → exponent v t.0 ≡ 0
first_lacks t ts h v = omega (arith, h v)

rest_lacks : (t : Powers × ℤ) (ts : Summands) → LacksAll (t ∷ ts) → LacksAll ts
rest_lacks t ts h v = omega (arith, h v)

one_only : (t : Powers × ℤ) (ts : Summands) → IsCollected (t ∷ ts) → LacksAll (t ∷ ts) → ts ≡ []
one_only t [] h none = refl
one_only t (u ∷ us) h none =
    let first : t.0 ≡ [] = no_powers t.0 h.monomials.0 (first_lacks t (u ∷ us) none) in
    let next : u.0 ≡ [] = no_powers u.0 h.monomials.1.0 (first_lacks u us (rest_lacks t (u ∷ us) none)) in
    let less : term_cmp t.0 u.0 ≡ Less = h.in_order.1.0 in
    let twice : Less ≡ Equal = sym less ∙ ap (λ (m : Powers). term_cmp m u.0) (first ∙ sym next) ∙ term_order.self u.0 in
    absurd (cc)

nonzero_whole : (z : ℤ) → (z ≡ pos 0 → ⊥) → (a : Fraction) → Same a (whole z) → IsNonzero a
unfolding whole
nonzero_whole z n a h e =
    n (zero_of_same (whole z) (fractions.same_trans _ _ _ (fractions.same_sym _ _ h) (same_of_zero a e)))

nonzero_constant : (x : Var → Fraction) (p : Summands) → IsCollected p → (p ≡ [] → ⊥) → LacksAll p → IsNonzero (value fractions x p)
nonzero_constant x [] h some none = absurd (some refl)
nonzero_constant x (t ∷ ts) h some none =
    let first : t.0 ≡ [] = no_powers t.0 h.monomials.0 (first_lacks t ts none) in
    let alone : ts ≡ [] = one_only t ts h none in
    let number : t.1 ≡ pos 0 → ⊥ = λ e. nonzero e h.in_order.0 in
    subst (λ (m : Powers). IsNonzero (value fractions x ((m, t.1) ∷ ts))) (sym first)
    (subst (λ (us : Summands). IsNonzero (value fractions x (([], t.1) ∷ us))) (sym alone)
    (nonzero_whole t.1 number (value fractions x (([], t.1) ∷ [])) (worth t.1)))
  where
    nonzero : t.1 ≡ pos 0 → eqb (unsigned_abs t.1) 0 ≡ false → ⊥
    nonzero e some = let is : true ≡ false = sym (ap (λ (z : ℤ). eqb (unsigned_abs z) 0) e) ∙ some in absurd (cc)

    worth : (z : ℤ) → Same (value fractions x (([], z) ∷ [])) (whole z)
    worth z =
        fractions.same_trans _ _ _ (fractions.add-zero (fractions.mul (integer fractions z) fractions.one))
        (fractions.same_trans _ _ _ (fractions.mul-one (integer fractions z)) (fractions.same_sym _ _ (whole-integer z)))

-- VALUES PUT IN
-- the polynomial has no other variables than those of the list
abbrev HasOnly : List Var → Summands → Type 0
HasOnly vs p = (v : Var) → (Contains vs v → ⊥) → degree_in v p ≡ 0

not_in_tail : (w v : Var) (vs : List Var) → (v ≡ w → ⊥) → (Contains vs v → ⊥) → Contains (w ∷ vs) v → ⊥
not_in_tail w v vs n h (zero, lt, at) = n (sym at)
not_in_tail w v vs n h (suc i, lt, at) = h (i, omega (arith, lt), at)

fewer : (w : Var) (z : ℤ) (vs : List Var) (p : Summands) → HasOnly (w ∷ vs) p → HasOnly vs (specialised w z p)
fewer w z vs p h v out = go (var_cmp v w) refl
  where
    other : (v ≡ w → ⊥) → degree_in v (specialised w z p) ≡ 0
    other n =
        let none : degree_in v p ≡ 0 = h v (not_in_tail w v vs n out) in
        let le : degree_in v (specialised w z p) ≤ degree_in v p = degree_in-specialised-le w z v p in
        omega (arith, none, le)

    differ : (o : Ordering) → (o ≡ Equal → ⊥) → var_cmp v w ≡ o → v ≡ w → ⊥
    differ o n e same = n (sym e ∙ ap (λ (u : Var). var_cmp u w) same ∙ var_order.self w)

    go : (o : Ordering) → var_cmp v w ≡ o → degree_in v (specialised w z p) ≡ 0
    go Less e = other (differ Less (λ q. let f : Less ≡ Equal = q in cc) e)
    go Greater e = other (differ Greater (λ q. let f : Greater ≡ Equal = q in cc) e)
    go Equal e = subst (λ (u : Var). degree_in u (specialised w z p) ≡ 0) (sym (var_order.exact v w e)) (degree_in-specialised_self w z p)

All-from_map : {X Y : Type 0} (P : X → Type 0) (f : Y → X) (ys : List Y) → All P (map f ys) → All (λ y. P (f y)) ys
All-from_map P f [] h = All-nil (λ y. P (f y))
All-from_map P f (y ∷ ys) h = All-cons (λ y. P (f y)) y ys (All-head P (f y) (map f ys) h) (All-from_map P f ys (All-tail P (f y) (map f ys) h))

-- three facts of each element
All-both : {X : Type 0} (P Q R : X → Type 0) → ((x : X) → P x → Q x → R x) → (xs : List X) → All P xs → All Q xs → All R xs
All-both P Q R f xs h g k d lt = f (get_or xs k d) (h k d lt) (g k d lt)

moved : (a b : Fraction) → Same a b → IsNonzero a → IsNonzero b
moved a b h n e = n (zero_of_same a (fractions.same_trans _ _ _ h (same_of_zero b e)))

pub not_zero : (xs : List (Var × ℤ)) (ps : List Summands) (x : Var → Fraction) → All IsCollected ps → All (HasOnly (map (λ y. y.0) xs)) ps
    → NoneZero (specialised_by xs ps) → All (λ y. Same (x y.0) (whole y.1)) xs
    → All (λ p. IsNonzero (value fractions x p)) ps
not_zero [] ps x h only some at =
    All-both (λ p. IsCollected p × (p ≡ [] → ⊥)) (HasOnly []) (λ p. IsNonzero (value fractions x p))
    (λ p g has. nonzero_constant x p g.0 g.1 (λ v. has v nowhere)) ps
    (All-both IsCollected (λ p. p ≡ [] → ⊥) (λ p. IsCollected p × (p ≡ [] → ⊥)) (λ p a b. (a, b)) ps h some) only
  where
    nowhere : {v : Var} → Contains [] v → ⊥
    nowhere (i, lt, e) = absurd (omega (arith, lt))
not_zero (y ∷ xs) ps x h only some at =
    let here : Same (x y.0) (whole y.1) = All-head (λ (y : Var × ℤ). Same (x y.0) (whole y.1)) y xs at in
    let rest = not_zero xs (all_specialised y.0 y.1 ps) x (collected y.0 y.1 ps h)
    (All-map (HasOnly (map (λ y. y.0) xs)) (specialised y.0 y.1) ps
    (All-weaker (HasOnly (y.0 ∷ map (λ y. y.0) xs)) (λ p. HasOnly (map (λ y. y.0) xs) (specialised y.0 y.1 p))
    (λ p has. fewer y.0 y.1 (map (λ y. y.0) xs) p has) ps only))
    some (All-tail (λ (y : Var × ℤ). Same (x y.0) (whole y.1)) y xs at) in
    All-weaker (λ p. IsNonzero (value fractions x (specialised y.0 y.1 p))) (λ p. IsNonzero (value fractions x p))
    (λ p n. moved (value fractions x (specialised y.0 y.1 p)) (value fractions x p) (value-specialised fractions x y.0 y.1 (fractions.same_trans _ _ _ here (whole-integer y.1)) p) n) ps
    (All-from_map (λ q. IsNonzero (value fractions x q)) (specialised y.0 y.1) ps rest)
