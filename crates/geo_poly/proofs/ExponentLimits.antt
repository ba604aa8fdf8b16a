-- Limits of exponents: what is added to them, what digits have room for them, and what they bound.
use Rattle.std.proofs.Common.{◌≡◌, ◌≢◌, ℕ, zero, suc, ◌+◌, ◌-◌, ◌*◌, ◌^◌, ◌<◌, ◌≤◌, max, min, false, cond, Bool, true, inl, inr, ◌⊎◌, ℤ}
use Rattle.std.proofs.Common.{List, [], ◌∷◌, ◌++◌, length}
use Rattle.std.proofs.Common.{Option, Some, None, drop, get_or, take, refl, sym, ap, subst, ◌∙◌, arith}
use Rattle.std.specs.Prelude.{Contains, IfSome, slice_get, slice_index_or}
use Rattle.std.specs.List.Sorted.{IsStrictlySortedBy}
use Rattle.std.specs.Ordering.{is_eq, nat_cmp}
use Rattle.std.specs.declared.cmp.Ordering.{Ordering}
use Rattle.std.specs.declared.cmp.Ordering.TheVariants.{Less, Equal, Greater}
use Rattle.std.proofs.Math.Nat.{mul-le-mul_left, mul-le-mul_right}
use Rattle.std.proofs.lemmas.Bool.{cases_lt}
use Rattle.std.proofs.lemmas.Cmp.{ranked}
use Rattle.std.proofs.lemmas.List.{drop_more}
use Rattle.std.proofs.lemmas.Option.{get_or_from_slice_get, slice_get_within}
use Rattle.sparse_lists.specs.SparseLists.{AllKeys, IsCanonical}
use Rattle.sparse_lists.proofs.Canonical.{amount-append, amount-before}
use Rattle.sparse_lists.proofs.Merging.{get_or_any}
use Rattle.sparse_lists.proofs.NaturalAmounts.{natural_order}
use Rattle.mono_store.specs.Monomials.{Powers as NumberedPowers}
use Rattle.mono_store.specs.Stores.{Store, monomial_of}
use Rattle.mono_store.proofs.Numbers.{is_below}
use Rattle.geo_poly.specs.declared.rows.Piece.{Piece}
use Rattle.geo_poly.specs.declared.rows.Row.{Row}
use Rattle.geo_poly.specs.declared.variables.Var.{Var}
use Rattle.geo_poly.specs.Inner.Keyed.{greatest_exponent, greatest_of_rows}
use Rattle.geo_poly.specs.Inner.Limits.{AreBounds, AreGreatest, AreLimits, HaveRoom, IsBelow, exponent_anywhere, exponents_of_rows}
use Rattle.geo_poly.specs.Inner.ReplacedExponents.{exponent_bound, exponent_in_row, exponent_in_rows, term_exponent}
use Rattle.geo_poly.specs.Monomials.{Powers, exponent, exponents}
use Rattle.geo_poly.specs.Polynomials.{Summands}
use Rattle.geo_poly.specs.Replace.{denominators, kept, others, row_of}
use Rattle.geo_poly.specs.Shared.{AllPlaces, Indices, IsIndex, named, powers_at, terms_of, var_at}
use Rattle.geo_poly.specs.Variables.{var_cmp}
use Rattle.geo_poly.proofs.Naming.{var_at-keeps}
use Rattle.geo_poly.proofs.Orders.{exponents_add, var_order}
use Rattle.geo_poly.proofs.Told.{take_more}

-- LIMITS

-- what is bounded by something smaller is bounded
pub AreLimits-less : (vars : List Var) (b c : Var → ℕ) (limits : List ℕ) → ((v : Var) → c v ≤ b v) → AreLimits vars b limits
    → AreLimits vars c limits
AreLimits-less vars b c limits le h = record { whole = h.whole; each = λ i known. omega (arith, h.each i known, le (var_at vars i)) }

-- digits of the limits have room, where no limit is the greatest number
pub HaveRoom-limits : (vars : List Var) (bound : Var → ℕ) (limits : List ℕ)
    → ((i : ℕ) → i < length limits → slice_index_or limits i 0 < 2 ^ 32 - 1) → AreLimits vars bound limits → HaveRoom vars limits bound
HaveRoom-limits vars bound limits small h =
    record { whole = h.whole; each = λ i known. omega (arith, h.each i known, small i (omega (arith, known, h.whole))) }

-- ADDED EXPONENTS

-- the exponent of a variable in one power
abbrev pub exponent_of : Var → Var → ℕ → ℕ
exponent_of v w e = cond (is_eq (var_cmp v w)) e 0

pub exponent-more : (v w : Var) (e : ℕ) (ps : Powers) → exponent v (ps ++ (w, e) ∷ []) ≡ exponent v ps + exponent_of v w e
exponent-more v w e ps = amount-append var_cmp exponents var_order exponents_add v ps ((w, e) ∷ []) ∙ omega arith

module _ (vars : List Var) (rising : IsStrictlySortedBy var_cmp vars) (w : Var) (e times : ℕ) (bound : Var → ℕ) where
  -- the bound with the exponent of one variable, so many times
  abbrev more : Var → ℕ
  more v = bound v + exponent_of v w e * times

  -- the limit of the variable is raised
  pub AreLimits-at : (old new : List ℕ) (place added : ℕ) → place < length vars → var_at vars place ≡ w
      → added ≡ min (e * times) (2 ^ 32 - 1)
      → slice_index_or new place 0 ≡ min (slice_index_or old place 0 + added) (2 ^ 32 - 1)
      → ((i : ℕ) → i ≢ place → slice_index_or new i 0 ≡ slice_index_or old i 0) → length new ≡ length old → AreLimits vars bound old
      → AreLimits vars more new
  AreLimits-at old new place added known at sum here others whole h = record { whole = whole ∙ h.whole; each = each }
    where
      each : (i : ℕ) → i < length vars → min (more (var_at vars i)) (2 ^ 32 - 1) ≤ slice_index_or new i 0
      each i i_in = go (nat_cmp i place) refl
        where
          order : var_cmp (var_at vars i) w ≡ nat_cmp i place
          order = ap (var_cmp (var_at vars i)) (sym at) ∙ var_at-keeps vars rising i place i_in known

          other : i ≢ place → exponent_of (var_at vars i) w e ≡ 0 → min (more (var_at vars i)) (2 ^ 32 - 1) ≤ slice_index_or new i 0
          other differ none = omega (arith, others i differ, h.each i i_in, ap (λ (k : ℕ). k * times) none)

          go : (o : Ordering) → nat_cmp i place ≡ o → min (more (var_at vars i)) (2 ^ 32 - 1) ≤ slice_index_or new i 0
          go Less a = other (λ same. omega (arith, same, is_below i place a)) (ap (λ (o : Ordering). cond (is_eq o) e 0) (order ∙ a))
          go Greater a =
              other (λ same. omega (arith, same, ranked i place Greater (sym a))) (ap (λ (o : Ordering). cond (is_eq o) e 0) (order ∙ a))
          go Equal a =
              let same : i ≡ place = natural_order.exact i place a in
              let now : slice_index_or new i 0 ≡ min (slice_index_or old i 0 + added) (2 ^ 32 - 1) =
              subst (λ (k : ℕ). slice_index_or new k 0 ≡ min (slice_index_or old k 0 + added) (2 ^ 32 - 1)) (sym same) here in
              let is : exponent_of (var_at vars i) w e ≡ e = ap (λ (o : Ordering). cond (is_eq o) e 0) (order ∙ a) in
              omega (arith, now, sum, h.each i i_in, ap (λ (k : ℕ). k * times) is)

  -- a variable that has no place raises no limit
  pub AreLimits-none : (limits : List ℕ) → (Contains vars w → ⊥) → AreLimits vars bound limits → AreLimits vars more limits
  AreLimits-none limits none h = record { whole = h.whole; each = each }
    where
      each : (i : ℕ) → i < length vars → min (more (var_at vars i)) (2 ^ 32 - 1) ≤ slice_index_or limits i 0
      each i i_in = go (var_cmp (var_at vars i) w) refl
        where
          nothing : exponent_of (var_at vars i) w e ≡ 0 → min (more (var_at vars i)) (2 ^ 32 - 1) ≤ slice_index_or limits i 0
          nothing is = omega (arith, h.each i i_in, ap (λ (k : ℕ). k * times) is)

          go : (o : Ordering) → var_cmp (var_at vars i) w ≡ o → min (more (var_at vars i)) (2 ^ 32 - 1) ≤ slice_index_or limits i 0
          go Less a = nothing (ap (λ (o : Ordering). cond (is_eq o) e 0) a)
          go Greater a = nothing (ap (λ (o : Ordering). cond (is_eq o) e 0) a)
          go Equal a =
              let same : var_at vars i ≡ w = var_order.exact (var_at vars i) w a in
              absurd (none (i, i_in, get_or_any vars i w _ i_in ∙ same))

-- a power of a list, and one that says nothing past its end
abbrev pub power_at : Powers → ℕ → Var × ℕ
power_at ps i = slice_index_or ps i (var_at [] 0, 0)

-- NUMBERED EXPONENTS

pub AreGreatest-none : (vars : List Var) (numbers : List ℕ) → AreGreatest vars numbers []
AreGreatest-none vars numbers = record { each = λ i known. omega arith }

greatest-more : (v : Var) (p : Summands) (t : Powers × ℤ) → greatest_exponent v (p ++ t ∷ []) ≡ max (greatest_exponent v p) (exponent v t.0)
greatest-more v [] t = omega arith
greatest-more v (u ∷ us) t = omega (arith, greatest-more v us t)

-- one more term, where no number gets lower
pub AreGreatest-more : (vars : List Var) (old new : List ℕ) (p : Summands) (t : Powers × ℤ)
    → ((i : ℕ) → slice_index_or old i 0 ≤ slice_index_or new i 0) → IsBelow vars new t.0 → AreGreatest vars old p
    → AreGreatest vars new (p ++ t ∷ [])
AreGreatest-more vars old new p t kept below h = record {
  each = λ i known. omega (arith, h.each i known, kept i, below.each i known, greatest-more (var_at vars i) p t);
}

-- no exponent of the monomial is above the number at the place of its variable, but for the rest, which is not seen yet
pub record IsRaised (vars : List Var) (numbers : List ℕ) (rest m : Powers) : Type 0 where
  pub each : (i : ℕ) → i < length vars → exponent (var_at vars i) m ≤ max (slice_index_or numbers i 0) (exponent (var_at vars i) rest)

pub IsRaised-none : (vars : List Var) (numbers : List ℕ) (m : Powers) → IsRaised vars numbers m m
IsRaised-none vars numbers m = record { each = λ i known. omega arith }

-- one power is seen, whose exponent is not above the number at the place of its variable
pub IsRaised-next : (vars : List Var) (old new : List ℕ) (j e : ℕ) (w : Var) (rest m : Powers) → IsStrictlySortedBy var_cmp vars
    → slice_get vars j ≡ Some w → IsCanonical var_cmp exponents ((w, e) ∷ rest) → (j < length vars → e ≤ slice_index_or new j 0)
    → ((i : ℕ) → slice_index_or old i 0 ≤ slice_index_or new i 0) → IsRaised vars old ((w, e) ∷ rest) m → IsRaised vars new rest m
IsRaised-next vars old new j e w rest m rising at whole least kept h = record { each = λ i known. go i known (nat_cmp i j) refl }
  where
    within : j < length vars
    within = slice_get_within vars j w at

    named_so : var_at vars j ≡ w
    named_so = get_or_from_slice_get vars j w _ at

    order : (i : ℕ) → i < length vars → var_cmp (var_at vars i) w ≡ nat_cmp i j
    order i known = ap (var_cmp (var_at vars i)) (sym named_so) ∙ var_at-keeps vars rising i j known within

    go : (i : ℕ) → i < length vars → (o : Ordering) → nat_cmp i j ≡ o
        → exponent (var_at vars i) m ≤ max (slice_index_or new i 0) (exponent (var_at vars i) rest)
    go i known Less a =
        let is : exponent (var_at vars i) ((w, e) ∷ rest) ≡ 0 + exponent (var_at vars i) rest =
        ap (λ (o : Ordering). cond (is_eq o) e 0 + exponent (var_at vars i) rest) (order i known ∙ a) in
        omega (arith, is, h.each i known, kept i)
    go i known Greater a =
        let is : exponent (var_at vars i) ((w, e) ∷ rest) ≡ 0 + exponent (var_at vars i) rest =
        ap (λ (o : Ordering). cond (is_eq o) e 0 + exponent (var_at vars i) rest) (order i known ∙ a) in
        omega (arith, is, h.each i known, kept i)
    go i known Equal a =
        let same : i ≡ j = natural_order.exact i j a in
        let is : exponent (var_at vars i) ((w, e) ∷ rest) ≡ e + exponent (var_at vars i) rest =
        ap (λ (o : Ordering). cond (is_eq o) e 0 + exponent (var_at vars i) rest) (order i known ∙ a) in
        let none : exponent (var_at vars i) rest ≡ 0 =
        ap (λ (u : Var). exponent u rest) (ap (var_at vars) same ∙ named_so)
        ∙ amount-before var_cmp exponents var_order exponents_add w rest whole.1 in
        let most : e ≤ slice_index_or new i 0 = subst (λ (u : ℕ). e ≤ slice_index_or new u 0) (sym same) (least within) in
        omega (arith, is, none, most, h.each i known, kept i)

pub IsRaised-all : (vars : List Var) (numbers : List ℕ) (rest m : Powers) → rest ≡ [] → IsRaised vars numbers rest m → IsBelow vars numbers m
IsRaised-all vars numbers rest m none h = record { each = λ i known. omega (arith, h.each i known, ap (exponent (var_at vars i)) none) }

-- NAMED EXPONENTS

-- the numbers of the first variables are among the exponents
pub record AreNamed (vars : List Var) (numbers : List ℕ) (n : ℕ) (bounds : Powers) : Type 0 where
  pub each : (i : ℕ) → i < n → slice_index_or numbers i 0 ≤ exponent (var_at vars i) bounds

pub AreNamed-none : (vars : List Var) (numbers : List ℕ) → AreNamed vars numbers 0 []
AreNamed-none vars numbers = record { each = λ i none. omega (arith, none) }

pub AreNamed-more : (vars : List Var) (numbers : List ℕ) (n : ℕ) (v : Var) (e : ℕ) (bounds : Powers) → v ≡ var_at vars n
    → e ≡ slice_index_or numbers n 0 → AreNamed vars numbers n bounds → AreNamed vars numbers (n + 1) (bounds ++ (v, e) ∷ [])
AreNamed-more vars numbers n v e bounds at is h = record { each = each }
  where
    self : exponent_of (var_at vars n) v e ≡ e
    self = ap (λ (w : Var). exponent_of (var_at vars n) w e) at ∙ ap (λ (o : Ordering). cond (is_eq o) e 0) (var_order.self (var_at vars n))

    each : (i : ℕ) → i < n + 1 → slice_index_or numbers i 0 ≤ exponent (var_at vars i) (bounds ++ (v, e) ∷ [])
    each i within =
        elim (cases_lt i n) [
          | inl before ↦ omega (arith, h.each i before, exponent-more (var_at vars i) v e bounds)
          | inr last ↦
              let same : i ≡ n = omega (arith, within, last) in
              let here : slice_index_or numbers n 0 ≤ exponent (var_at vars n) (bounds ++ (v, e) ∷ []) =
              omega (arith, is, self, exponent-more (var_at vars n) v e bounds) in
              subst (λ (k : ℕ). slice_index_or numbers k 0 ≤ exponent (var_at vars k) (bounds ++ (v, e) ∷ [])) (sym same) here
        ]

module _ (vars : List Var) (rising : IsStrictlySortedBy var_cmp vars) where
  -- a variable of a named monomial has a place
  place_or_none : (v : Var) (m : NumberedPowers) → AllPlaces (length vars) m
      → (exponent v (named vars m) ≡ 0) ⊎ ((j : ℕ) × (j < length vars) × (v ≡ var_at vars j))
  place_or_none v [] places = inl refl
  place_or_none v (p ∷ m) places = go (var_cmp v (var_at vars p.0)) refl (place_or_none v m places.1)
    where
      skip : exponent_of v (var_at vars p.0) p.1 ≡ 0 → (exponent v (named vars m) ≡ 0) ⊎ ((j : ℕ) × (j < length vars) × (v ≡ var_at vars j))
          → (exponent v (named vars (p ∷ m)) ≡ 0) ⊎ ((j : ℕ) × (j < length vars) × (v ≡ var_at vars j))
      skip none (inl is) = inl (omega (arith, none, is))
      skip none (inr found) = inr found

      go : (o : Ordering) → var_cmp v (var_at vars p.0) ≡ o
          → (exponent v (named vars m) ≡ 0) ⊎ ((j : ℕ) × (j < length vars) × (v ≡ var_at vars j))
          → (exponent v (named vars (p ∷ m)) ≡ 0) ⊎ ((j : ℕ) × (j < length vars) × (v ≡ var_at vars j))
      go Less a rec = skip (ap (λ (o : Ordering). cond (is_eq o) p.1 0) a) rec
      go Greater a rec = skip (ap (λ (o : Ordering). cond (is_eq o) p.1 0) a) rec
      go Equal a rec = inr (p.0, places.0, var_order.exact v (var_at vars p.0) a)

  module _ (numbers : List ℕ) (bounds : Powers) (names : AreNamed vars numbers (length vars) bounds) where
    monomial-bounded : (v : Var) (m : NumberedPowers) → AllPlaces (length vars) m → IsBelow vars numbers (named vars m)
        → exponent v (named vars m) ≤ exponent v bounds
    monomial-bounded v m places below = go (place_or_none v m places)
      where
        go : (exponent v (named vars m) ≡ 0) ⊎ ((j : ℕ) × (j < length vars) × (v ≡ var_at vars j))
            → exponent v (named vars m) ≤ exponent v bounds
        go (inl none) = omega (arith, none)
        go (inr found) =
            let j = found.0 in
            let known = found.1 in
            let here : exponent (var_at vars j) (named vars m) ≤ exponent (var_at vars j) bounds =
            omega (arith, below.each j known, names.each j known) in
            subst (λ (w : Var). exponent w (named vars m) ≤ exponent w bounds) (sym found.2) here

    terms-bounded : (store : Store) (v : Var) (list : Indices) → AllKeys (IsIndex vars store) list
        → AreGreatest vars numbers (terms_of vars store list) → greatest_exponent v (terms_of vars store list) ≤ exponent v bounds
    terms-bounded store v [] h greatest = omega arith
    terms-bounded store v (t ∷ list) h greatest =
        let most = greatest.each in
        let first : IsBelow vars numbers (powers_at vars store t.0) = record { each = λ i known. omega (arith, most i known) } in
        let others : AreGreatest vars numbers (terms_of vars store list) = record { each = λ i known. omega (arith, most i known) } in
        omega (arith, monomial-bounded v (monomial_of store t.0) h.0.places first, terms-bounded store v list h.1 others)

    pub AreBounds-named : (store : Store) (list : Indices) → AllKeys (IsIndex vars store) list
        → AreGreatest vars numbers (terms_of vars store list) → AreBounds (terms_of vars store list) bounds
    AreBounds-named store list h greatest = record { each = λ v. terms-bounded store v list h greatest }

-- VARIABLES WITHOUT ROWS

-- what stays of the exponent of a variable
abbrev stays : Option Row → ℕ → ℕ
stays None e = e
stays (Some r) e = 0

exponent-others : (v : Var) (rows : List Row) (m : Powers) → exponent v (others rows m) ≡ stays (row_of rows v) (exponent v m)
exponent-others v rows [] = go (row_of rows v)
  where
    go : (o : Option Row) → exponent v [] ≡ stays o (exponent v [])
    go None = refl
    go (Some r) = refl
exponent-others v rows (p ∷ m) = go (var_cmp v p.0) refl (row_of rows p.0) refl (exponent-others v rows m)
  where
    after : (o : Option Row) (e f : ℕ) → e ≡ f → stays o e ≡ stays o f
    after o e f same = ap (stays o) same

    differ : exponent_of v p.0 p.1 ≡ 0 → (o : Option Row) → exponent v (others rows m) ≡ stays (row_of rows v) (exponent v m)
        → exponent v (kept o p (others rows m)) ≡ stays (row_of rows v) (exponent v (p ∷ m))
    differ none None rec =
        let first : exponent v (p ∷ others rows m) ≡ exponent v (others rows m) = omega (arith, none) in
        let second : exponent v m ≡ exponent v (p ∷ m) = omega (arith, none) in
        first ∙ rec ∙ after (row_of rows v) (exponent v m) (exponent v (p ∷ m)) second
    differ none (Some r) rec =
        let second : exponent v m ≡ exponent v (p ∷ m) = omega (arith, none) in
        rec ∙ after (row_of rows v) (exponent v m) (exponent v (p ∷ m)) second

    same_row : v ≡ p.0 → (o : Option Row) → row_of rows p.0 ≡ o → row_of rows v ≡ o
    same_row same o is = ap (row_of rows) same ∙ is

    go : (o : Ordering) → var_cmp v p.0 ≡ o → (r : Option Row) → row_of rows p.0 ≡ r
        → exponent v (others rows m) ≡ stays (row_of rows v) (exponent v m)
        → exponent v (kept r p (others rows m)) ≡ stays (row_of rows v) (exponent v (p ∷ m))
    go Less a r is rec = differ (ap (λ (o : Ordering). cond (is_eq o) p.1 0) a) r rec
    go Greater a r is rec = differ (ap (λ (o : Ordering). cond (is_eq o) p.1 0) a) r rec
    go Equal a None is rec =
        let row = same_row (var_order.exact v p.0 a) None is in
        let left : exponent v (others rows m) ≡ exponent v m = rec ∙ ap (λ (o : Option Row). stays o (exponent v m)) row in
        ap (λ (k : ℕ). exponent_of v p.0 p.1 + k) left ∙ sym (ap (λ (o : Option Row). stays o (exponent v (p ∷ m))) row)
    go Equal a (Some r) is rec =
        let row = same_row (var_order.exact v p.0 a) (Some r) is in
        rec ∙ ap (λ (o : Option Row). stays o (exponent v m)) row ∙ sym (ap (λ (o : Option Row). stays o (exponent v (p ∷ m))) row)

others-le : (v : Var) (rows : List Row) (m own : Powers) → exponent v m ≤ exponent v own → exponent v (others rows m) ≤ exponent v (others rows own)
others-le v rows m own le = go (row_of rows v) (exponent-others v rows m) (exponent-others v rows own)
  where
    go : (o : Option Row) → exponent v (others rows m) ≡ stays o (exponent v m) → exponent v (others rows own) ≡ stays o (exponent v own)
        → exponent v (others rows m) ≤ exponent v (others rows own)
    go None a b = omega (arith, a, b, le)
    go (Some r) a b = omega (arith, a, b)

-- NUMERATORS

-- what is there before the numerators add up stays
pub rows-plus : (v : Var) (rows : List Row) (m : Powers) (e : ℕ) → exponent_in_rows v rows m e ≡ e + exponent_in_rows v rows m 0
rows-plus v rows [] e = omega arith
rows-plus v rows (p ∷ m) e = go (row_of rows p.0) (rows-plus v rows m)
  where
    go : (o : Option Row) → ((e : ℕ) → exponent_in_rows v rows m e ≡ e + exponent_in_rows v rows m 0)
        → exponent_in_rows v rows m (exponent_in_row v o p.1 e) ≡ e + exponent_in_rows v rows m (exponent_in_row v o p.1 0)
    go None rec = rec e
    go (Some r) rec =
        omega (arith, rec (e + greatest_exponent v r.num.poly * p.1), rec (0 + greatest_exponent v r.num.poly * p.1))

no_rows : (v : Var) (m : Powers) → exponent_in_rows v [] m 0 ≡ 0
no_rows v [] = refl
no_rows v (p ∷ m) = no_rows v m

-- the first row adds at most its exponent as often as its variable is there
rows-first : (v : Var) (r : Row) (rs : List Row) (m : Powers)
    → exponent_in_rows v (r ∷ rs) m 0 ≤ greatest_exponent v r.num.poly * exponent r.var m + exponent_in_rows v rs m 0
rows-first v r rs [] = omega arith
rows-first v r rs (p ∷ m) = go (is_eq (var_cmp r.var p.0)) (row_of rs p.0) (rows-first v r rs m)
  where
    go : (z : Bool) (o : Option Row)
        → exponent_in_rows v (r ∷ rs) m 0 ≤ greatest_exponent v r.num.poly * exponent r.var m + exponent_in_rows v rs m 0
        → exponent_in_rows v (r ∷ rs) m (exponent_in_row v (cond z (Some r) o) p.1 0)
        ≤ greatest_exponent v r.num.poly * (cond z p.1 0 + exponent r.var m) + exponent_in_rows v rs m (exponent_in_row v o p.1 0)
    go true o rec =
        omega (
          arith,
          rec,
          rows-plus v (r ∷ rs) m (exponent_in_row v (Some r) p.1 0),
          rows-plus v rs m (exponent_in_row v o p.1 0),
        )
    go false o rec =
        omega (
          arith,
          rec,
          rows-plus v (r ∷ rs) m (exponent_in_row v o p.1 0),
          rows-plus v rs m (exponent_in_row v o p.1 0),
        )

numerators-le : (v : Var) (rows : List Row) (m own : Powers) → ((u : Var) → exponent u m ≤ exponent u own)
    → exponent_in_rows v rows m 0 ≤ exponents_of_rows v rows own
numerators-le v [] m own le = omega (arith, no_rows v m)
numerators-le v (r ∷ rs) m own le =
    let few : exponent r.var m ≤ max 1 (exponent r.var own) = omega (arith, le r.var) in
    omega (
      arith,
      rows-first v r rs m,
      mul-le-mul_left (greatest_exponent v r.num.poly) few,
      numerators-le v rs m own le,
    )

rows-within : (v : Var) (rows : List Row) (own : Powers) → greatest_of_rows v rows ≤ exponents_of_rows v rows own
rows-within v [] own = omega arith
rows-within v (r ∷ rs) own =
    let once : 1 ≤ max 1 (exponent r.var own) = omega arith in
    omega (arith, mul-le-mul_left (greatest_exponent v r.num.poly) once, rows-within v rs own)

-- REPLACEMENTS

module _ (v : Var) (rows : List Row) (den : Piece) (top : ℕ) (own : Powers) where
  -- what stays, the denominators and the numerators
  abbrev pub replaced_limit : ℕ
  replaced_limit =
      0 + exponent v (others rows own) * 1 + greatest_exponent v den.poly * max top 1 + exponents_of_rows v rows own

  den_times : (k : ℕ) → greatest_exponent v den.poly * (top - k) ≤ greatest_exponent v den.poly * max top 1
  den_times k = mul-le-mul_left (greatest_exponent v den.poly) (let few : top - k ≤ max top 1 = omega arith in few)

  term-le : (t : Powers × ℤ) → ((u : Var) → exponent u t.0 ≤ exponent u own) → term_exponent v rows den top t ≤ replaced_limit
  term-le t le =
      omega (
        arith,
        rows-plus v rows t.0 (exponent v (others rows t.0)),
        others-le v rows t.0 own (le v),
        numerators-le v rows t.0 own le,
        den_times (denominators rows t.0),
      )

  terms-le : (p : Summands) → ((u : Var) → greatest_exponent u p ≤ exponent u own) → exponent_bound v rows den top p ≤ replaced_limit
  terms-le [] le = omega arith
  terms-le (t ∷ ts) le =
      omega (
        arith,
        term-le t (λ u. let most : greatest_exponent u (t ∷ ts) ≤ exponent u own = le u in omega (arith, most)),
        terms-le ts (λ u. let most : greatest_exponent u (t ∷ ts) ≤ exponent u own = le u in omega (arith, most)),
      )

  pub replaced-le : (p : Summands) → AreBounds p own
      → exponent_anywhere v rows den top p ≤ replaced_limit
  replaced-le p h =
      let once : 1 ≤ max top 1 = omega arith in
      omega (
        arith,
        terms-le p h.each,
        rows-within v rows own,
        mul-le-mul_left (greatest_exponent v den.poly) once,
      )

-- the rows, and one more
pub exponents_of_rows-take : (v : Var) (rows : List Row) (own : Powers) (i : ℕ) (r : Row) → i < length rows → r ≡ get_or rows i r
    → exponents_of_rows v (take (i + 1) rows) own
    ≡ exponents_of_rows v (take i rows) own + greatest_exponent v r.num.poly * max 1 (exponent r.var own)
exponents_of_rows-take v rows own i r within at =
    ap (λ (rs : List Row). exponents_of_rows v rs own) (take_more rows i r within at) ∙ joined (take i rows)
  where
    joined : (rs : List Row) → exponents_of_rows v (rs ++ r ∷ []) own
        ≡ exponents_of_rows v rs own + greatest_exponent v r.num.poly * max 1 (exponent r.var own)
    joined [] = omega arith
    joined (s ∷ rs) = omega (arith, joined rs)

-- a multiplier that is capped makes no difference where the sum is
pub capped_times : (b g e t : ℕ) → t ≡ max (min e (2 ^ 32 - 1)) 1
    → min (b + g * max 1 e) (2 ^ 32 - 1) ≤ min (b + g * t) (2 ^ 32 - 1)
capped_times b g e t is =
    elim (cases_lt (2 ^ 32 - 1) e) [
      | inl big ↦ by_g big g
      | inr small ↦
          let same : t ≡ max 1 e = omega (arith, is, small) in
          omega (arith, ap (λ (k : ℕ). g * k) same)
    ]
  where
    by_g : 2 ^ 32 - 1 < e → (g : ℕ) → min (b + g * max 1 e) (2 ^ 32 - 1) ≤ min (b + g * t) (2 ^ 32 - 1)
    by_g big zero = omega arith
    by_g big (suc g) =
        let most : 2 ^ 32 - 1 ≤ t = omega (arith, is, big) in
        let once : 1 * t ≤ suc g * t = mul-le-mul_right t (let one : 1 ≤ suc g = omega arith in one) in
        omega (arith, most, once)

-- limits to which exponents were added, a capped number of times
pub AreLimits-capped : (vars : List Var) (bound g total : Var → ℕ) (e t : ℕ) (limits : List ℕ)
    → ((v : Var) → total v ≡ bound v + g v * max 1 e) → t ≡ max (min e (2 ^ 32 - 1)) 1 → AreLimits vars (λ v. bound v + g v * t) limits
    → AreLimits vars total limits
AreLimits-capped vars bound g total e t limits is capped h = record {
  whole = h.whole;
  each = λ i known.
      let v = var_at vars i in
      omega (arith, is v, capped_times (bound v) (g v) e t capped, h.each i known);
}

-- others of a list, and one more power
pub others-append : (rows : List Row) (ps qs : Powers) → others rows (ps ++ qs) ≡ others rows ps ++ others rows qs
others-append rows [] qs = refl
others-append rows (p ∷ ps) qs = go (row_of rows p.0) (others-append rows ps qs)
  where
    go : (o : Option Row) → others rows (ps ++ qs) ≡ others rows ps ++ others rows qs
        → kept o p (others rows (ps ++ qs)) ≡ kept o p (others rows ps) ++ others rows qs
    go None rec = ap (λ (rs : Powers). p ∷ rs) rec
    go (Some r) rec = rec

pub others-take : (rows : List Row) (ps : Powers) (i : ℕ) → i < length ps
    → others rows (take (i + 1) ps) ≡ others rows (take i ps) ++ kept (row_of rows (power_at ps i).0) (power_at ps i) []
others-take rows ps i within =
    let p = power_at ps i in
    ap (others rows) (take_more ps i p within (get_or_any ps i (var_at [] 0, 0) p within)) ∙ others-append rows (take i ps) (p ∷ [])

-- what is so of whatever an option has
pub some_weaker : {X : Type 0} (o : Option X) (P Q : X → Type 0) → ((x : X) → P x → Q x) → IfSome o P → IfSome o Q
some_weaker None P Q f h = tt
some_weaker (Some x) P Q f h = f x h

-- the exponents that stay of the first powers, and of one more, which is kept or not
pub others-more : (v : Var) (rows : List Row) (ps : Powers) (i : ℕ) (o : Option Row) → i < length ps → o ≡ row_of rows (power_at ps i).0
    → exponent v (others rows (take (i + 1) ps)) ≡ exponent v (others rows (take i ps)) + exponent v (kept o (power_at ps i) [])
others-more v rows ps i o within found =
    let stay = others rows (take i ps) in
    let p = power_at ps i in
    ap (exponent v) (others-take rows ps i within)
    ∙ amount-append var_cmp exponents var_order exponents_add v stay (kept (row_of rows p.0) p [])
    ∙ ap (λ (r : Option Row). exponent v stay + exponent v (kept r p [])) (sym found)

-- the exponents from a place on, by the power there
exponent-drop : (v : Var) (ps : Powers) (i : ℕ) (p : Var × ℕ) → i < length ps
    → exponent v (drop i ps) ≡ exponent_of v (slice_index_or ps i p).0 (slice_index_or ps i p).1 + exponent v (drop (i + 1) ps)
exponent-drop v ps i p within = ap (exponent v) (drop_more ps i p within)

-- the exponent that a power has of a variable, by whether they are equal
exponent-ordered : (v w : Var) (e : ℕ) (o : Ordering) → var_cmp w v ≡ o → exponent_of v w e ≡ cond (is_eq o) e 0
exponent-ordered v w e Less a = ap (λ (o : Ordering). cond (is_eq o) e 0) (var_order.flip w v a)
exponent-ordered v w e Greater a = ap (λ (o : Ordering). cond (is_eq o) e 0) (var_order.flip_back w v a)
exponent-ordered v w e Equal a =
    ap (λ (x : Var). cond (is_eq (var_cmp v x)) e 0) (var_order.exact w v a) ∙ ap (λ (o : Ordering). cond (is_eq o) e 0) (var_order.self v)

-- the sum of the exponents from a place on, by the test of the power there
pub exponent-step : (v : Var) (ps : Powers) (i total : ℕ) (p : Var × ℕ) (b : Bool) → i < length ps → p ≡ slice_index_or ps i p
    → b ≡ is_eq (var_cmp p.0 v) → min (total + exponent v (drop i ps)) (2 ^ 32 - 1)
    ≡ min (cond b (min (total + p.1) (2 ^ 32 - 1)) total + exponent v (drop (i + 1) ps)) (2 ^ 32 - 1)
exponent-step v ps i total p b within at is = go b (ap (λ (c : Bool). cond c p.1 0) (sym is))
  where
    whole : exponent v (drop i ps) ≡ exponent_of v p.0 p.1 + exponent v (drop (i + 1) ps)
    whole = ap (exponent v) (drop_more ps i p within)
        ∙ ap (λ (x : Var × ℕ). exponent_of v x.0 x.1 + exponent v (drop (i + 1) ps)) (sym at)

    here : exponent_of v p.0 p.1 ≡ cond (is_eq (var_cmp p.0 v)) p.1 0
    here = exponent-ordered v p.0 p.1 (var_cmp p.0 v) refl

    go : (b : Bool) → cond (is_eq (var_cmp p.0 v)) p.1 0 ≡ cond b p.1 0
        → min (total + exponent v (drop i ps)) (2 ^ 32 - 1)
        ≡ min (cond b (min (total + p.1) (2 ^ 32 - 1)) total + exponent v (drop (i + 1) ps)) (2 ^ 32 - 1)
    go true e = omega (arith, whole, here, e)
    go false e = omega (arith, whole, here, e)
