-- Variables in place of their numbers: products and the order of monomials are those of the numbers.
use Rattle.std.proofs.Common.{◌≡◌, ℕ, zero, suc, ◌+◌, ◌<◌, ◌≤◌, eqb, true, false, cond, List, [], ◌∷◌, ◌++◌, length, map, get_or, take, drop, inl, inr, refl, sym, ap, ap₂, subst, ◌∙◌, arith}
use Rattle.std.specs.List.{AllByRecursion}
use Rattle.std.specs.List.Sorted.{IsNonDecreasingBy, IsStrictlySortedBy}
use Rattle.std.specs.Ordering.{is_eq, nat_cmp, ordering_index, ordering_then}
use Rattle.std.specs.declared.cmp.Ordering.{Ordering}
use Rattle.std.specs.declared.cmp.Ordering.TheVariants.{Less, Equal, Greater}
use Rattle.std.proofs.lemmas.Cmp.{ranked}
use Rattle.std.proofs.lemmas.Bool.{cases_lt}
use Rattle.std.proofs.lemmas.Bool.Decides.{nat_tests}
use Rattle.std.proofs.lemmas.List.{map-append, take-append-drop}
use Rattle.std.proofs.lemmas.List.Sums.{sum_by-append, sum_by-cons}
use Rattle.sparse_lists.specs.SparseLists.{Amounts, AllKeys, IsBefore, amount, canonical, insert, insert_at, put}
use Rattle.sparse_lists.proofs.Sums.{AllKeys-append, AllKeys-canonical}
use Rattle.sparse_lists.proofs.Merging.{IsCanonical-drop, get_or_any}
use Rattle.mono_store.specs.Monomials.{Powers as NumberedPowers, ComesFirst, degree_of as numbered_degree, monomial_cmp as numbered_cmp, product as numbered_product}
use Rattle.mono_store.proofs.Numbers.{is_below}
use Rattle.mono_store.proofs.Products.{IsPowerBefore}
use Rattle.geo_poly.specs.declared.variables.Var.{Var}
use Rattle.geo_poly.specs.declared.variables.Var.TheVariants.{R}
use Rattle.geo_poly.specs.Variables.{var_cmp}
use Rattle.geo_poly.specs.Monomials.{IsMonomial, Powers, degree_of, exponents, monomial_cmp, product}
use Rattle.geo_poly.specs.Shared.{AllPlaces, named, var_at}
use Rattle.geo_poly.proofs.Orders.{exponents_add, var_order}

-- A MAP OF THE KEYS THAT KEEPS THEIR ORDER

module _ {J K V : Type 0} (cmp : J → J → Ordering) (other_cmp : K → K → Ordering) (A : Amounts V) (f : J → K) (P : J → Type 0)
    (keeps : (i j : J) → P i → P j → other_cmp (f i) (f j) ≡ cmp i j) where
  abbrev rename : List (J × V) → List (K × V)
  rename ts = map (λ t. (f t.0, t.1)) ts

  put-rename : (k : J) (a : V) (ts : List (J × V)) → put A (f k) a (rename ts) ≡ rename (put A k a ts)
  put-rename k a ts = elim (A.is_zero a) as (λ z. cond z (rename ts) ((f k, a) ∷ rename ts) ≡ rename (cond z ts ((k, a) ∷ ts))) [ true ↦ refl | false ↦ refl ]

  insert-rename : (k : J) (a : V) (ts : List (J × V)) → P k → AllKeys P ts → insert other_cmp A (f k) a (rename ts) ≡ rename (insert cmp A k a ts)
  insert-rename k a [] h g = put-rename k a []
  insert-rename k a (t ∷ ts) h g =
      ap (λ (o : Ordering). insert_at A o (f k) a (f t.0, t.1) (rename ts) (insert other_cmp A (f k) a (rename ts))) (keeps k t.0 h g.0)
      ∙ by (cmp k t.0) (insert-rename k a ts h g.1)
    where
      by : (o : Ordering) → insert other_cmp A (f k) a (rename ts) ≡ rename (insert cmp A k a ts)
          → insert_at A o (f k) a (f t.0, t.1) (rename ts) (insert other_cmp A (f k) a (rename ts)) ≡ rename (insert_at A o k a t ts (insert cmp A k a ts))
      by Less rest = put-rename k a (t ∷ ts)
      by Equal rest = put-rename k (A.add a t.1) ts
      by Greater rest = ap (λ xs. (f t.0, t.1) ∷ xs) rest

  -- the canonical list of the renamed list is the renamed canonical list
  pub canonical-rename : (ts : List (J × V)) → AllKeys P ts → canonical other_cmp A (rename ts) ≡ rename (canonical cmp A ts)
  canonical-rename [] g = refl
  canonical-rename (t ∷ ts) g =
      ap (insert other_cmp A (f t.0) t.1) (canonical-rename ts g.1) ∙ insert-rename t.0 t.1 (canonical cmp A ts) g.0 (AllKeys-canonical cmp A P ts g.1)

  -- the amount at a renamed key is that at the key
  pub amount-rename : (k : J) (ts : List (J × V)) → P k → AllKeys P ts → amount other_cmp A (f k) (rename ts) ≡ amount cmp A k ts
  amount-rename k [] h g = refl
  amount-rename k (t ∷ ts) h g =
      ap₂ (λ (o : Ordering) (rest : V). A.add (cond (is_eq o) t.1 A.zero) rest) (keeps k t.0 h g.0) (amount-rename k ts h g.1)

-- VARIABLES

abbrev none : Var
none = R (record { 0 = 0 }) (record { 0 = 0 }) (record { 0 = 0 }) (record { 0 = 0 })

below_at : (v : Var) (vars : List Var) (k : ℕ) → AllByRecursion (λ w. var_cmp v w ≡ Less) vars → k < length vars → var_cmp v (var_at vars k) ≡ Less
below_at v [] k h within = absurd (omega arith)
below_at v (w ∷ vars) zero h within = h.0
below_at v (w ∷ vars) (suc k) h within = below_at v vars k h.1 (omega arith)

-- each variable comes before the later ones
pub rising_at : (vars : List Var) (i j : ℕ) → IsStrictlySortedBy var_cmp vars → i < j → j < length vars → var_cmp (var_at vars i) (var_at vars j) ≡ Less
unfolding IsStrictlySortedBy
rising_at [] i j h before within = absurd (omega arith)
rising_at (v ∷ vars) zero zero h before within = absurd (omega arith)
rising_at (v ∷ vars) zero (suc j) h before within = below_at v vars j h.0 (omega arith)
rising_at (v ∷ vars) (suc i) zero h before within = absurd (omega arith)
rising_at (v ∷ vars) (suc i) (suc j) h before within = rising_at vars i j h.1 (omega arith) (omega arith)

pub degree_of-named : (vars : List Var) (m : NumberedPowers) → degree_of (named vars m) ≡ numbered_degree m
degree_of-named vars [] = refl
degree_of-named vars (p ∷ m) =
    omega (arith, sum_by-cons (λ (q : ℕ × ℕ). q.1) p m, sum_by-cons (λ (q : Var × ℕ). q.1) (var_at vars p.0, p.1) (named vars m), degree_of-named vars m)

module _ (vars : List Var) (rising : IsStrictlySortedBy var_cmp vars) where
  -- the order of variables is that of their places
  pub var_at-keeps : (i j : ℕ) → i < length vars → j < length vars → var_cmp (var_at vars i) (var_at vars j) ≡ nat_cmp i j
  var_at-keeps i j h g = go (nat_cmp i j) refl
    where
      go : (o : Ordering) → nat_cmp i j ≡ o → var_cmp (var_at vars i) (var_at vars j) ≡ o
      go Less e = rising_at vars i j rising (ranked i j Less (sym e)) g
      go Equal e = let same : i ≡ j = ranked i j Equal (sym e) in ap (λ k. var_cmp (var_at vars i) (var_at vars k)) (sym same) ∙ var_order.self (var_at vars i)
      go Greater e = var_order.flip (var_at vars j) (var_at vars i) (rising_at vars j i rising (ranked i j Greater (sym e)) h)

  -- a product of named monomials is the named product
  pub product-named : (m n : NumberedPowers) → AllPlaces (length vars) m → AllPlaces (length vars) n → product (named vars m) (named vars n) ≡ named vars (numbered_product m n)
  product-named m n h g =
      ap (canonical var_cmp exponents) (sym (map-append (λ p. (var_at vars p.0, p.1)) m n))
      ∙ canonical-rename nat_cmp var_cmp exponents (var_at vars) (λ k. k < length vars) var_at-keeps (m ++ n) (AllKeys-append (λ k. k < length vars) m n h g)

  -- the order of named monomials is that of the numbered ones
  pub cmp-named : (m n : NumberedPowers) → AllPlaces (length vars) m → AllPlaces (length vars) n → monomial_cmp (named vars m) (named vars n) ≡ numbered_cmp m n
  cmp-named [] [] h g = refl
  cmp-named [] (q ∷ n) h g = refl
  cmp-named (p ∷ m) [] h g = refl
  cmp-named (p ∷ m) (q ∷ n) h g =
      ap₂ (λ (o r : Ordering). ordering_then (ordering_then o (nat_cmp p.1 q.1)) r) (var_at-keeps q.0 p.0 g.0 h.0) (cmp-named m n h.1 g.1)

  pub places-product : (m n : NumberedPowers) → AllPlaces (length vars) m → AllPlaces (length vars) n → AllPlaces (length vars) (numbered_product m n)
  places-product m n h g = AllKeys-canonical nat_cmp exponents (λ k. k < length vars) (m ++ n) (AllKeys-append (λ k. k < length vars) m n h g)

  -- where a power may stand before the named monomial, its number may stand before the monomial
  pub IsPowerBefore-named : (k e : ℕ) (m : NumberedPowers) → k < length vars → AllPlaces (length vars) m → IsMonomial ((var_at vars k, e) ∷ named vars m) → IsPowerBefore k e m
  IsPowerBefore-named k e m within places h = record {
    exponent = positive e h.in_order.0;
    first = first m places h.in_order.1;
    degree = omega (arith, sum_by-cons (λ (p : Var × ℕ). p.1) (var_at vars k, e) (named vars m), degree_of-named vars m, h.degree_fits);
  }
    where
      positive : (e : ℕ) → eqb e 0 ≡ false → 1 ≤ e
      positive e h = grind (arith, nat_tests)

      first : (m : NumberedPowers) → AllPlaces (length vars) m → IsBefore var_cmp (var_at vars k) (named vars m) → ComesFirst k m
      first [] places h = tt
      first (p ∷ m) places h = is_below k p.0 (sym (var_at-keeps k p.0 within places.0) ∙ h.0)

-- a search for a variable goes by its order
pub searchable : (vars : List Var) (v : Var) → IsStrictlySortedBy var_cmp vars → IsNonDecreasingBy (λ y. ordering_index (var_cmp y v)) vars
searchable vars v rising i j d before within =
    elim (cases_lt i j) [
      | inl lt ↦ later (get_or vars i d) (get_or vars j d) (subst₂ vars i j d (omega arith) within (rising_at vars i j rising lt within)) (var_cmp (get_or vars j d) v) refl
      | inr le ↦ let same : i ≡ j = omega arith in subst (λ k. ordering_index (var_cmp (get_or vars i d) v) ≤ ordering_index (var_cmp (get_or vars k d) v)) same (omega arith)
    ]
  where
    subst₂ : (vars : List Var) (i j : ℕ) (d : Var) → i < length vars → j < length vars → var_cmp (var_at vars i) (var_at vars j) ≡ Less → var_cmp (get_or vars i d) (get_or vars j d) ≡ Less
    subst₂ vars i j d i_in j_in e = ap₂ var_cmp (get_or_any vars i d none i_in) (get_or_any vars j d none j_in) ∙ e

    at_most : (a b o : Ordering) → a ≡ o → b ≡ o → ordering_index a ≤ ordering_index b
    at_most a b o e f = let same : ordering_index a ≡ ordering_index b = ap ordering_index (e ∙ sym f) in omega (arith, same)

    at_most_two : (o : Ordering) → ordering_index o ≤ 2
    at_most_two Less = omega arith
    at_most_two Equal = omega arith
    at_most_two Greater = omega arith

    later : (u w : Var) → var_cmp u w ≡ Less → (o : Ordering) → var_cmp w v ≡ o → ordering_index (var_cmp u v) ≤ ordering_index (var_cmp w v)
    later u w e Less f = at_most (var_cmp u v) (var_cmp w v) Less (var_order.trans u w v e f) f
    later u w e Equal f =
        let less : var_cmp u v ≡ Less = ap (var_cmp u) (sym (var_order.exact w v f)) ∙ e in
        let first : ordering_index (var_cmp u v) ≡ 0 = ap ordering_index less in
        omega (arith, first)
    later u w e Greater f =
        let last : ordering_index (var_cmp w v) ≡ 2 = ap ordering_index f in
        omega (arith, last, at_most_two (var_cmp u v))

pub IsMonomial-drop : (i : ℕ) (m : Powers) → IsMonomial m → IsMonomial (drop i m)
IsMonomial-drop i m h = record {
  in_order = IsCanonical-drop var_cmp exponents var_order exponents_add m i h.in_order;
  degree_fits =
      let whole : degree_of (take i m) + degree_of (drop i m) ≡ degree_of m = sym (sum_by-append (λ (p : Var × ℕ). p.1) (take i m) (drop i m)) ∙ ap degree_of (take-append-drop i m) in
      omega (arith, whole, h.degree_fits);
}
