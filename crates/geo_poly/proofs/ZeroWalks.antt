-- The number 0 put for a variable: walks over a monomial by the numbers of its variables, and lists of terms that lack the variable.
use Rattle.std.proofs.Common.{◌≡◌, ℕ, zero, suc, ◌+◌, ◌^◌, ◌<◌, ◌≤◌, pos, unsigned_abs, eqb, Bool, true, false, cond, ℤ, List, [], ◌∷◌}
use Rattle.std.proofs.Common.{◌++◌, Some, filter, length, take, drop, get_or, slice_get, refl, sym, ap, subst, ◌∙◌, arith}
use Rattle.std.specs.Prelude.{◌↔◌, Contains, IsTrue}
use Rattle.std.specs.List.Sorted.{IsStrictlySortedBy}
use Rattle.std.specs.Ordering.{is_eq}
use Rattle.std.specs.declared.cmp.Ordering.{Ordering}
use Rattle.std.specs.declared.cmp.Ordering.TheVariants.{Less, Greater}
use Rattle.std.proofs.lemmas.Bool.{false≢true}
use Rattle.std.proofs.lemmas.Bool.Decides.{nat_tests}
use Rattle.std.proofs.lemmas.List.{get_or-drop, get_or-map, length-append, take-append-drop}
use Rattle.std.proofs.lemmas.List.Elements.{filter-append}
use Rattle.std.proofs.lemmas.Option.{get_or_from_slice_get, slice_get_within}
use Rattle.sparse_lists.specs.SparseLists.{AllKeys, IsCanonical}
use Rattle.sparse_lists.proofs.Canonical.{IsBefore_trans, amount-before, amount-head}
use Rattle.sparse_lists.proofs.Sums.{AllKeys-at}
use Rattle.mono_store.specs.declared.links.MonoId.{MonoId}
use Rattle.mono_store.specs.Stores.{Store}
use Rattle.geo_poly.specs.declared.variables.Var.{Var}
use Rattle.geo_poly.specs.declared.variables.Var.TheVariants.{R}
use Rattle.geo_poly.specs.Variables.{var_cmp}
use Rattle.geo_poly.specs.Inner.Parts.{lacks}
use Rattle.geo_poly.specs.Monomials.{IsMonomial, Powers, exponent, exponents}
use Rattle.geo_poly.specs.PolynomialVariables.{AllVariables}
use Rattle.geo_poly.specs.Polynomials.{IsPolynomial, Summands}
use Rattle.geo_poly.specs.Shared.{Indices, IsIndex, IsShared, powers_at, term_of, terms_of, var_at}
use Rattle.geo_poly.specs.Specialise.{degree_in, specialised, specialised_weight}
use Rattle.geo_poly.proofs.EachVariable.{of-exponent}
use Rattle.geo_poly.proofs.Naming.{rising_at}
use Rattle.geo_poly.proofs.Orders.{exponents_add, var_order}
use Rattle.geo_poly.proofs.SpecialisedLaws.{IsPolynomial-specialised, small_weight}
use Rattle.geo_poly.proofs.Told.{length-terms_of}
use Rattle.geo_poly.proofs.Unions.{known_variables}
use Rattle.geo_poly.proofs.ZeroPut.{specialised-zero}

abbrev none : Var
none = R (record { 0 = 0 }) (record { 0 = 0 }) (record { 0 = 0 }) (record { 0 = 0 })

-- A POWER BEFORE OTHERS
-- the first variable stands at place j, and the one that is looked for at place k
module _ (vars : List Var) (rising : IsStrictlySortedBy var_cmp vars) (j k e : ℕ) (v : Var) (rest : Powers) (within : k < length vars) (is : slice_get vars j ≡ Some v) where
  here : var_at vars j ≡ v
  here = get_or_from_slice_get vars j v none is

  -- the walk has not come to it
  pub before : j < k → exponent (var_at vars k) rest ≡ exponent (var_at vars k) ((v, e) ∷ rest)
  before lt =
      let greater : var_cmp (var_at vars k) v ≡ Greater = subst (λ (w : Var). var_cmp (var_at vars k) w ≡ Greater) here
      (var_order.flip (var_at vars j) (var_at vars k) (rising_at vars j k rising lt within)) in
      let whole : exponent (var_at vars k) ((v, e) ∷ rest) ≡ 0 + exponent (var_at vars k) rest = ap (λ (o : Ordering). cond (is_eq o) e 0 + exponent (var_at vars k) rest) greater in
      omega (arith, whole)

  -- it is past it
  pub past : k < j → IsCanonical var_cmp exponents ((v, e) ∷ rest) → exponent (var_at vars k) ((v, e) ∷ rest) ≡ 0
  past lt h =
      let less : var_cmp (var_at vars k) v ≡ Less = subst (λ (w : Var). var_cmp (var_at vars k) w ≡ Less) here (rising_at vars k j rising lt (slice_get_within vars j v is)) in
      amount-before var_cmp exponents var_order exponents_add (var_at vars k) ((v, e) ∷ rest) (less, IsBefore_trans var_cmp exponents var_order exponents_add (var_at vars k) v rest less h.1)

  -- it stands here
  pub found : j ≡ k → IsCanonical var_cmp exponents ((v, e) ∷ rest) → exponent (var_at vars k) ((v, e) ∷ rest) ≡ 0 → ⊥
  found same h gone =
      let name : v ≡ var_at vars k = sym here ∙ ap (var_at vars) same in
      let head : exponent v ((v, e) ∷ rest) ≡ e = amount-head var_cmp exponents var_order exponents_add (v, e) rest h.1 in
      let nothing : e ≡ 0 = sym head ∙ ap (λ (w : Var). exponent w ((v, e) ∷ rest)) name ∙ gone in
      let passed : eqb e 0 ≡ true = grind (arith, nat_tests, nothing) in
      let both : true ≡ false = sym passed ∙ h.0 in cc

  -- what the test there tells of the whole monomial, which has the same exponent
  pub tells : k ≤ j → IsCanonical var_cmp exponents ((v, e) ∷ rest) → (n : ℕ) → exponent (var_at vars k) ((v, e) ∷ rest) ≡ n → IsTrue (eqb j k) ↔ (n ≡ 0 → ⊥)
  tells le h n whole =
      elim (eqb j k) as (λ b. eqb j k ≡ b → IsTrue b ↔ (n ≡ 0 → ⊥)) [
        | true ↦ λ t. let same : j ≡ k = grind (arith, nat_tests, t) in (λ _. λ z. found same h (whole ∙ z), λ _. refl)
        | false ↦ λ t.
            let other : j ≡ k → ⊥ = grind (arith, nat_tests, t) in
            let later : k < j = omega (arith, le, other) in
            (λ f. absurd (let both : false ≡ true = f in cc), λ some. absurd (some (sym whole ∙ past later h)))
      ] refl

-- the test of a term
pub lacks_it : (v : Var) (t : Powers × ℤ) (r : Bool) → IsTrue r ↔ (exponent v t.0 ≡ 0 → ⊥) → r ≡ false → lacks v t ≡ true
lacks_it v t r told f =
    elim (eqb (exponent v t.0) 0) as (λ b. eqb (exponent v t.0) 0 ≡ b → b ≡ true) [
      | true ↦ λ e. refl
      | false ↦ λ e. let some : exponent v t.0 ≡ 0 → ⊥ = grind (arith, nat_tests, e) in absurd (false≢true (sym f ∙ told.1 some))
    ] refl

pub has_it : (v : Var) (t : Powers × ℤ) (r : Bool) → IsTrue r ↔ (exponent v t.0 ≡ 0 → ⊥) → r ≡ true → lacks v t ≡ false
has_it v t r told f =
    elim (eqb (exponent v t.0) 0) as (λ b. eqb (exponent v t.0) 0 ≡ b → b ≡ false) [
      | true ↦ λ e. let nothing : exponent v t.0 ≡ 0 = grind (arith, nat_tests, e) in absurd (told.0 f nothing)
      | false ↦ λ e. refl
    ] refl

-- TERMS
module _ (f : Powers × ℤ → Bool) (p : Summands) (i : ℕ) (t : Powers × ℤ) (at : drop i p ≡ t ∷ drop (i + 1) p) where
  -- a term that passes is kept
  pub kept_one : f t ≡ true → filter f p ≡ [] → ⊥
  kept_one passes empty =
      let rest = filter f (drop (i + 1) p) in
      let last : filter f (drop i p) ≡ t ∷ rest = ap (filter f) at ∙ ap (λ (b : Bool). cond b (t ∷ rest) rest) passes in
      let whole : filter f (take i p) ++ (t ∷ rest) ≡ [] =
      ap (λ (ts : Summands). filter f (take i p) ++ ts) (sym last) ∙ sym (filter-append f (take i p) (drop i p)) ∙ ap (filter f) (take-append-drop i p) ∙ empty in
      omega (arith, length-append (filter f (take i p)) (t ∷ rest), ap length whole)

  -- one that does not is not
  pub left_out : f t ≡ false → filter f (drop (i + 1) p) ≡ [] → filter f (drop i p) ≡ []
  left_out fails empty = let rest = filter f (drop (i + 1) p) in ap (filter f) at ∙ ap (λ (b : Bool). cond b (t ∷ rest) rest) fails ∙ empty

-- THEIR INDICES
pub terms_of-filter : (vars : List Var) (store : Store) (f : Powers × ℤ → Bool) (list : Indices)
    → terms_of vars store (filter (λ t. f (term_of vars store t)) list) ≡ filter f (terms_of vars store list)
terms_of-filter vars store f [] = refl
terms_of-filter vars store f (t ∷ ts) =
    elim (f (term_of vars store t)) as
    (λ b. terms_of vars store (cond b (t ∷ filter (λ u. f (term_of vars store u)) ts)
    (filter (λ u. f (term_of vars store u)) ts)) ≡ cond b (term_of vars store t ∷ filter f (terms_of vars store ts))
    (filter f (terms_of vars store ts))) [
      | true ↦ ap (λ (us : Summands). term_of vars store t ∷ us) (terms_of-filter vars store f ts)
      | false ↦ terms_of-filter vars store f ts
    ]

pub AllKeys-filter : (P : MonoId → Type 0) (f : MonoId × ℤ → Bool) (list : Indices) → AllKeys P list → AllKeys P (filter f list)
AllKeys-filter P f [] h = tt
AllKeys-filter P f (t ∷ ts) h =
    elim (f t) as (λ b. AllKeys P (cond b (t ∷ filter f ts) (filter f ts))) [
      | true ↦ (h.0, AllKeys-filter P f ts h.1)
      | false ↦ AllKeys-filter P f ts h.1
    ]

-- an entry of a list of which the rest is as it was
pub same_behind : (xs ys : Indices) (i : ℕ) (t : MonoId × ℤ) → drop i ys ≡ drop i xs → t ≡ get_or ys i t → t ≡ get_or xs i t
same_behind xs ys i t e at =
    let here : i + 0 ≡ i = omega arith in
    at ∙ ap (λ n. get_or ys n t) (sym here) ∙ sym (get_or-drop i ys 0 t) ∙ ap (λ (l : Indices). get_or l 0 t) e ∙ get_or-drop i xs 0 t ∙ ap (λ n. get_or xs n t) here

pub index_in : (vars : List Var) (store : Store) (list : Indices) (i : ℕ) (t : MonoId × ℤ) → i < length list → t ≡ get_or list i t → IsShared vars store list → IsIndex vars store t.0
index_in vars store list i t within at h = AllKeys-at (IsIndex vars store) list i t within at h.indices

pub monomial_in : (vars : List Var) (store : Store) (list : Indices) (i : ℕ) (t : MonoId × ℤ) → i < length list → t ≡ get_or list i t → IsShared vars store list → IsMonomial (powers_at vars store t.0)
monomial_in vars store list i t within at h =
    AllKeys-at IsMonomial (terms_of vars store list) i (term_of vars store t) (omega (arith, within, length-terms_of vars store list))
    (ap (term_of vars store) at ∙ sym (get_or-map (term_of vars store) list i t (term_of vars store t) within)) h.polynomial.monomials

-- the terms that are kept
pub kept_terms : (vars : List Var) (store : Store) (list : Indices) (v : Var) → IsShared vars store list
    → terms_of vars store (filter (λ t. lacks v (term_of vars store t)) list) ≡ specialised v (pos 0) (terms_of vars store list)
kept_terms vars store list v h = terms_of-filter vars store (lacks v) list ∙ sym (specialised-zero v (terms_of vars store list) h.polynomial.in_order h.polynomial.monomials)

pub kept_shared : (vars : List Var) (store : Store) (list : Indices) (v : Var) → IsShared vars store list → IsShared vars store (filter (λ t. lacks v (term_of vars store t)) list)
kept_shared vars store list v h =
    let small : unsigned_abs (pos 0) ≤ 1 = omega arith in
    let light : specialised_weight v (pos 0) (terms_of vars store list) < 2 ^ 127 = omega (arith, small_weight v (pos 0) (terms_of vars store list) small, h.polynomial.norm_fits) in
    record {
      rising = h.rising;
      indices = AllKeys-filter (IsIndex vars store) (λ t. lacks v (term_of vars store t)) list h.indices;
      polynomial = subst IsPolynomial (sym (kept_terms vars store list v h)) (IsPolynomial-specialised v (pos 0) (terms_of vars store list) h.polynomial.monomials light);
    }

-- A VARIABLE THAT DOES NOT STAND IN THE LIST
zero_or : (n : ℕ) → ((n ≡ 0 → ⊥) → ⊥) → n ≡ 0
zero_or zero h = refl
zero_or (suc n) h = absurd (h (λ e. omega (arith, e)))

no_degree : (vars : List Var) (v : Var) (p : Summands) → (Contains vars v → ⊥) → AllVariables (Contains vars) p → degree_in v p ≡ 0
no_degree vars v [] out h = refl
no_degree vars v (t ∷ ts) out h =
    let head : exponent v t.0 ≡ 0 = zero_or (exponent v t.0) (λ n. out (of-exponent (Contains vars) t.0 v h.0 n)) in
    omega (arith, head, no_degree vars v ts out h.1)

-- stands in no monomial
pub absent : (vars : List Var) (store : Store) (list : Indices) (v : Var) → (Contains vars v → ⊥) → AllKeys (IsIndex vars store) list → degree_in v (terms_of vars store list) ≡ 0
absent vars store list v out h = no_degree vars v (terms_of vars store list) out (known_variables vars store list h)
