-- The greatest divisor of the coefficients, and the least exponents of known variables.
use Rattle.std.proofs.Common.{◌≡◌, ℕ, zero, suc, ◌+◌, ◌<◌, ◌≤◌, min, eqb, Bool, true, false, cond, ◌⊎◌, inl, inr, ℤ, List, [], ◌∷◌, ◌++◌}
use Rattle.std.proofs.Common.{drop, take, length, get_or, refl, sym, ap, subst, ◌∙◌, append_assoc, unsigned_abs, All, Any, Contains, arith}
use Rattle.std.specs.Int.{◌∣◌, IsGcd}
use Rattle.std.specs.Ordering.{is_eq}
use Rattle.std.specs.declared.cmp.Ordering.{Ordering}
use Rattle.std.specs.declared.cmp.Ordering.TheVariants.{Less, Equal, Greater}
use Rattle.std.proofs.lemmas.Bool.Decides.{nat_tests}
use Rattle.std.proofs.lemmas.List.{take_more}
use Rattle.std.proofs.lemmas.List.Elements.{All-head, All-tail, All-cons, All-nil, All-weaker, All-more}
use Rattle.std.proofs.lemmas.List.Sums.{sum_by-cons}
use Rattle.std.proofs.lemmas.Nat.Gcd.{dvd_trans}
use Rattle.geo_poly.specs.declared.variables.Var.{Var}
use Rattle.geo_poly.specs.Variables.{var_cmp}
use Rattle.sparse_lists.specs.SparseLists.{AllKeys, IsBefore, IsCanonical, put}
use Rattle.geo_poly.specs.Monomials.{Powers, exponents, exponent, degree_of, IsMonomial}
use Rattle.geo_poly.specs.Polynomials.{Summands}
use Rattle.geo_poly.specs.Factors.{DividesAll, IsLeastExponent}
use Rattle.geo_poly.proofs.Orders.{var_order, exponents_add}
use Rattle.sparse_lists.proofs.Canonical.{amount-put, amount-before, amount-head, IsBefore-put, IsCanonical-put}
use Rattle.geo_poly.proofs.ReplaceTerms.{IsMonomial_front}

-- PARTS OF A LIST
pub All-front : {X : Type 0} (P : X → Type 0) (xs ys : List X) → All P (xs ++ ys) → All P xs
All-front P [] ys h = All-nil P
All-front P (x ∷ xs) ys h = All-cons P x xs (All-head P x (xs ++ ys) h) (All-front P xs ys (All-tail P x (xs ++ ys) h))

pub All-last : {X : Type 0} (P : X → Type 0) (xs : List X) (y : X) → All P (xs ++ y ∷ []) → P y
All-last P [] y h = All-head P y [] h
All-last P (x ∷ xs) y h = All-last P xs y (All-tail P x (xs ++ y ∷ []) h)

-- THE DIVISOR OF THE COEFFICIENTS
-- one more coefficient
pub more_divides : (p : Summands) (i : ℕ) (t : Powers × ℤ) (x a b g : ℕ) → i < length p → t ≡ get_or p i t → IsGcd b a g → a ≡ x
    → b ≡ unsigned_abs t.1 → DividesAll x (take i p) → DividesAll g (take (i + 1) p)
more_divides p i t x a b g h at gcd a-is b-is divides =
    let left : g ∣ x = subst (λ n. g ∣ n) a-is gcd.1 in
    let right : g ∣ unsigned_abs t.1 = subst (λ n. g ∣ n) b-is gcd.0 in
    All-more (λ (t : Powers × ℤ). g ∣ unsigned_abs t.1) p i t h
    (All-weaker (λ (t : Powers × ℤ). x ∣ unsigned_abs t.1) (λ (t : Powers × ℤ). g ∣ unsigned_abs t.1) (λ u d. dvd_trans g left d) (take i p) divides)
    (subst (λ (u : Powers × ℤ). g ∣ unsigned_abs u.1) at right)

pub more_greatest : (p : Summands) (i : ℕ) (t : Powers × ℤ) (x a b g : ℕ) → i < length p → t ≡ get_or p i t → IsGcd b a g → a ≡ x
    → b ≡ unsigned_abs t.1 → ((d : ℕ) → DividesAll d (take i p) → d ∣ x) → (d : ℕ) → DividesAll d (take (i + 1) p) → d ∣ g
more_greatest p i t x a b g h at gcd a-is b-is greatest d all =
    let P : Powers × ℤ → Type 0 = λ t. d ∣ unsigned_abs t.1 in
    let parts : All P (take i p ++ get_or p i t ∷ []) = subst (λ (q : Summands). DividesAll d q) (take_more p i t h) all in
    let left : d ∣ x = greatest d (All-front P (take i p) (get_or p i t ∷ []) parts) in
    let right : d ∣ unsigned_abs t.1 = subst P (sym at) (All-last P (take i p) (get_or p i t) parts) in
    gcd.2 d (subst (λ n. d ∣ n) (sym b-is) right) (subst (λ n. d ∣ n) (sym a-is) left)

-- THE LEAST EXPONENT
-- one more monomial, from the last one on
pub at_most_before : (v : Var) (p : Summands) (i : ℕ) (t : Powers × ℤ) (least next : ℕ) → drop i p ≡ t ∷ drop (i + 1) p
    → next ≤ least → next ≤ exponent v t.0 → All (λ (u : Powers × ℤ). least ≤ exponent v u.0) (drop (i + 1) p)
    → All (λ (u : Powers × ℤ). next ≤ exponent v u.0) (drop i p)
at_most_before v p i t least next at less here all =
    let P : Powers × ℤ → Type 0 = λ u. next ≤ exponent v u.0 in
    subst (All P) (sym at)
    (All-cons P t (drop (i + 1) p) here
    (All-weaker (λ (u : Powers × ℤ). least ≤ exponent v u.0) P (λ u le. omega (arith, le, less)) (drop (i + 1) p) all))

pub more_reached : (v : Var) (p : Summands) (i : ℕ) (t : Powers × ℤ) (least next : ℕ) → i < length p → t ≡ get_or p i t
    → next ≡ min least (exponent v t.0) → Any (λ (u : Powers × ℤ). exponent v u.0 ≡ least) p
    → Any (λ (u : Powers × ℤ). exponent v u.0 ≡ next) p
more_reached v p i t least next h at next-is any = elim (either least (exponent v t.0)) [
  | inl e ↦ subst (λ n. Any (λ (u : Powers × ℤ). exponent v u.0 ≡ n) p) (sym (next-is ∙ e)) any
  | inr e ↦ (i, t, h, sym at, sym (next-is ∙ e))
]
  where
    either : (a b : ℕ) → (min a b ≡ a) ⊎ (min a b ≡ b)
    either a b = grind (arith, nat_tests)

pub same_least : (v : Var) (p : Summands) (e f : ℕ) → IsLeastExponent v p e → IsLeastExponent v p f → e ≡ f
same_least v p e f h g =
    let below : e ≤ f = under e f h.at_most g.reached in
    let above : f ≤ e = under f e g.at_most h.reached in
    omega (arith, below, above)
  where
    under : (e f : ℕ) → All (λ (t : Powers × ℤ). e ≤ exponent v t.0) p → Any (λ (t : Powers × ℤ). exponent v t.0 ≡ f) p → e ≤ f
    under e f all (k, t, lt, at, is) =
        let le : e ≤ exponent v t.0 = subst (λ (u : Powers × ℤ). e ≤ exponent v u.0) at (all k t lt) in
        omega (arith, le, is)

-- SOME VARIABLES OF A MONOMIAL, WITH OTHER EXPONENTS
-- the variables of the monomial, each with the exponent that f gives
module _ (f : Var → ℕ) where
  abbrev pub reduced : Powers → Powers
  reduced [] = []
  reduced (p ∷ m) = put exponents p.0 (f p.0) (reduced m)

  -- f gives no variable a greater exponent
  abbrev pub IsAbove : Powers → Type 0
  IsAbove [] = Unit {0}
  IsAbove (p ∷ m) = (f p.0 ≤ p.1) × IsAbove m

  IsBefore-reduced : (v : Var) (m : Powers) → IsBefore var_cmp v m → IsBefore var_cmp v (reduced m)
  IsBefore-reduced v [] h = tt
  IsBefore-reduced v (p ∷ m) h = IsBefore-put var_cmp exponents var_order exponents_add v p.0 (f p.0) (reduced m) h.0 (IsBefore-reduced v m h.1)

  IsCanonical-reduced : (m : Powers) → IsCanonical var_cmp exponents m → IsCanonical var_cmp exponents (reduced m)
  IsCanonical-reduced [] h = tt
  IsCanonical-reduced (p ∷ m) h =
      IsCanonical-put var_cmp exponents var_order exponents_add p.0 (f p.0) (reduced m) (IsBefore-reduced p.0 m h.1) (IsCanonical-reduced m h.2)

  degree_of-put-le : (v : Var) (e : ℕ) (m : Powers) → degree_of (put exponents v e m) ≤ e + degree_of m
  degree_of-put-le v e m = elim (eqb e 0) as (λ z. degree_of (cond z m ((v, e) ∷ m)) ≤ e + degree_of m) [ true ↦ omega arith | false ↦ omega (arith, sum_by-cons (λ (p : Var × ℕ). p.1) (v, e) m) ]

  degree_of-reduced-le : (m : Powers) → IsAbove m → degree_of (reduced m) ≤ degree_of m
  degree_of-reduced-le [] h = omega arith
  degree_of-reduced-le (p ∷ m) h =
      omega (arith, degree_of-put-le p.0 (f p.0) (reduced m), degree_of-reduced-le m h.1, h.0, sum_by-cons (λ (p : Var × ℕ). p.1) p m)

  pub IsMonomial-reduced : (m : Powers) → IsMonomial m → IsAbove m → IsMonomial (reduced m)
  IsMonomial-reduced m h above = record {
    in_order = IsCanonical-reduced m h.in_order;
    degree_fits = omega (arith, degree_of-reduced-le m above, h.degree_fits);
  }

  pub exponent-reduced : (v : Var) (m : Powers) → IsCanonical var_cmp exponents m → f v ≤ exponent v m → exponent v (reduced m) ≡ f v
  exponent-reduced v [] h le = omega (arith, le)
  exponent-reduced v (p ∷ m) h le =
      amount-put var_cmp exponents var_order exponents_add v p.0 (f p.0) (reduced m) ∙ go (var_cmp v p.0) refl (exponent-reduced v m h.2) le
    where
      go : (o : Ordering) → var_cmp v p.0 ≡ o → (f v ≤ exponent v m → exponent v (reduced m) ≡ f v)
          → f v ≤ cond (is_eq o) p.1 0 + exponent v m → cond (is_eq o) (f p.0) 0 + exponent v (reduced m) ≡ f v
      go Less e rest le = omega (arith, rest (omega (arith, le)))
      go Greater e rest le = omega (arith, rest (omega (arith, le)))
      go Equal e rest le =
          let same : v ≡ p.0 = var_order.exact v p.0 e in
          let none : exponent v (reduced m) ≡ 0 = amount-before var_cmp exponents var_order exponents_add v (reduced m)
          (subst (λ (w : Var). IsBefore var_cmp w (reduced m)) (sym same) (IsBefore-reduced p.0 m h.1)) in
          let at : f p.0 ≡ f v = ap f (sym same) in
          omega (arith, none, at)

  -- where f is at most the exponents
  pub IsAbove-from_exponents : (m : Powers) → IsCanonical var_cmp exponents m → ((v : Var) → 0 < exponent v m → f v ≤ exponent v m) → IsAbove m
  IsAbove-from_exponents [] h le = tt
  IsAbove-from_exponents (p ∷ m) h le =
      let head : exponent p.0 (p ∷ m) ≡ p.1 = amount-head var_cmp exponents var_order exponents_add p m h.1 in
      (omega (arith, head, le p.0 (omega (arith, head, positive p.1 h.0))), IsAbove-from_exponents m h.2 (λ v some. go v (var_cmp v p.0) refl some (le v)))
    where
      positive : (e : ℕ) → eqb e 0 ≡ false → 0 < e
      positive e h = grind (arith, nat_tests)

      go : (v : Var) (o : Ordering) → var_cmp v p.0 ≡ o → 0 < exponent v m → (0 < cond (is_eq o) p.1 0 + exponent v m → f v ≤ cond (is_eq o) p.1 0 + exponent v m) → f v ≤ exponent v m
      go v Less e some le = omega (arith, some, le (omega (arith, some)))
      go v Greater e some le = omega (arith, some, le (omega (arith, some)))
      go v Equal e some le =
          let same : v ≡ p.0 = var_order.exact v p.0 e in
          let none : exponent v m ≡ 0 = amount-before var_cmp exponents var_order exponents_add v m (subst (λ (w : Var). IsBefore var_cmp w m) (sym same) h.1) in
          absurd (omega (arith, none, some))

  -- the next variable
  pub next_reduced : (m done : Powers) (p : Var × ℕ) (left : Powers) → IsMonomial m → IsAbove m → eqb (f p.0) 0 ≡ false
      → done ++ reduced (p ∷ left) ≡ reduced m → IsMonomial (done ++ (p.0, f p.0) ∷ [])
  next_reduced m done p left h above e same =
      IsMonomial_front (done ++ (p.0, f p.0) ∷ []) (reduced left)
      (subst IsMonomial (sym same ∙ ap (λ x. done ++ x) (ap (λ (b : Bool). cond b (reduced left) ((p.0, f p.0) ∷ reduced left)) e) ∙ sym (append_assoc done ((p.0, f p.0) ∷ []) (reduced left)))
      (IsMonomial-reduced m h above))

  pub next_put : (m done : Powers) (p : Var × ℕ) (left : Powers) → eqb (f p.0) 0 ≡ false → done ++ reduced (p ∷ left) ≡ reduced m → (done ++ (p.0, f p.0) ∷ []) ++ reduced left ≡ reduced m
  next_put m done p left e same =
      append_assoc done ((p.0, f p.0) ∷ []) (reduced left) ∙ ap (λ x. done ++ x) (sym (ap (λ (b : Bool). cond b (reduced left) ((p.0, f p.0) ∷ reduced left)) e)) ∙ same

  pub next_left_out : (m done : Powers) (p : Var × ℕ) (left : Powers) → f p.0 ≡ 0 → done ++ reduced (p ∷ left) ≡ reduced m → done ++ reduced left ≡ reduced m
  next_left_out m done p left e same =
      ap (λ x. done ++ x) (sym (ap (λ (n : ℕ). cond (eqb n 0) (reduced left) ((p.0, n) ∷ reduced left)) e)) ∙ same

-- THE KNOWN VARIABLES
abbrev pub is_in : List Var → Var → Bool
is_in [] v = false
is_in (k ∷ ks) v = cond (is_eq (var_cmp k v)) true (is_in ks v)

pub Contains-from_is_in : (ks : List Var) (v : Var) → is_in ks v ≡ true → Contains ks v
Contains-from_is_in [] v e = absurd (let q : false ≡ true = e in cc)
Contains-from_is_in (k ∷ ks) v e = go (var_cmp k v) refl e (Contains-from_is_in ks v)
  where
    later : Contains ks v → Contains (k ∷ ks) v
    later (i, h, at) = (suc i, omega arith, at)

    go : (o : Ordering) → var_cmp k v ≡ o → cond (is_eq o) true (is_in ks v) ≡ true → (is_in ks v ≡ true → Contains ks v) → Contains (k ∷ ks) v
    go Less f e rest = later (rest e)
    go Greater f e rest = later (rest e)
    go Equal f e rest = (0, omega arith, var_order.exact k v f)

pub is_in_from_Contains : (ks : List Var) (v : Var) → Contains ks v → is_in ks v ≡ true
is_in_from_Contains [] v (i, h, at) = absurd (omega arith)
is_in_from_Contains (k ∷ ks) v (zero, h, at) = ap (λ (o : Ordering). cond (is_eq o) true (is_in ks v)) (ap (λ (w : Var). var_cmp w v) at ∙ var_order.self v)
is_in_from_Contains (k ∷ ks) v (suc i, h, at) = go (var_cmp k v) (is_in_from_Contains ks v (i, omega arith, at))
  where
    go : (o : Ordering) → is_in ks v ≡ true → cond (is_eq o) true (is_in ks v) ≡ true
    go Less e = e
    go Greater e = e
    go Equal e = refl

-- the least of e and of the exponents of v
abbrev pub least_under : Var → ℕ → Summands → ℕ
least_under v e [] = e
least_under v e (t ∷ ts) = min (exponent v t.0) (least_under v e ts)

abbrev pub least_of : Var → Summands → ℕ
least_of v [] = 0
least_of v (t ∷ ts) = least_under v (exponent v t.0) ts

under_all : (v : Var) (e : ℕ) (p : Summands) → (least_under v e p ≤ e) × All (λ (t : Powers × ℤ). least_under v e p ≤ exponent v t.0) p
under_all v e [] = (omega arith, All-nil (λ (t : Powers × ℤ). e ≤ exponent v t.0))
under_all v e (t ∷ ts) =
    let rest = under_all v e ts in
    let here : least_under v e (t ∷ ts) ≤ exponent v t.0 = omega arith in (
      omega (arith, rest.0),
      All-cons (λ (u : Powers × ℤ). least_under v e (t ∷ ts) ≤ exponent v u.0) t ts here
          (All-weaker (λ (u : Powers × ℤ). least_under v e ts ≤ exponent v u.0) (λ (u : Powers × ℤ). least_under v e (t ∷ ts) ≤ exponent v u.0) (λ u le. omega (arith, le)) ts rest.1),
    )

Any-cons : {X : Type 0} (P : X → Type 0) (x : X) (xs : List X) → Any P xs → Any P (x ∷ xs)
Any-cons P x xs (i, y, h, at, p) = (suc i, y, omega arith, at, p)

under_reached : (v : Var) (e : ℕ) (p : Summands) → (least_under v e p ≡ e) ⊎ Any (λ (t : Powers × ℤ). exponent v t.0 ≡ least_under v e p) p
under_reached v e [] = inl refl
under_reached v e (t ∷ ts) = go (least_under v e ts) (either (exponent v t.0) (least_under v e ts)) (under_reached v e ts)
  where
    either : (a b : ℕ) → (min a b ≡ a) ⊎ (min a b ≡ b)
    either a b = grind (arith, nat_tests)

    go : (n : ℕ) → (min (exponent v t.0) n ≡ exponent v t.0) ⊎ (min (exponent v t.0) n ≡ n) → (n ≡ e)
        ⊎ Any (λ (u : Powers × ℤ). exponent v u.0 ≡ n) ts → (min (exponent v t.0) n ≡ e)
        ⊎ Any (λ (u : Powers × ℤ). exponent v u.0 ≡ min (exponent v t.0) n) (t ∷ ts)
    go n (inl q) rest = inr (0, t, omega arith, refl, sym q)
    go n (inr q) (inl r) = inl (q ∙ r)
    go n (inr q) (inr any) = inr (subst (λ k. Any (λ (u : Powers × ℤ). exponent v u.0 ≡ k) (t ∷ ts)) (sym q) (Any-cons (λ (u : Powers × ℤ). exponent v u.0 ≡ n) t ts any))

pub IsLeastExponent-least_of : (v : Var) (p : Summands) → 0 < length p → IsLeastExponent v p (least_of v p)
IsLeastExponent-least_of v [] h = absurd (omega arith)
IsLeastExponent-least_of v (t ∷ ts) h = record {
  at_most =
      let all = under_all v (exponent v t.0) ts in
      All-cons (λ (u : Powers × ℤ). least_of v (t ∷ ts) ≤ exponent v u.0) t ts all.0 all.1;
  reached = elim (under_reached v (exponent v t.0) ts) [
    | inl e ↦ (0, t, omega arith, refl, sym e)
    | inr any ↦ Any-cons (λ (u : Powers × ℤ). exponent v u.0 ≡ least_of v (t ∷ ts)) t ts any
  ];
}

-- the exponent of a variable in the factor
abbrev pub common_exponent : List Var → Summands → Var → ℕ
common_exponent ks p v = cond (is_in ks v) (least_of v p) 0

pub common_exponent-known : (ks : List Var) (p : Summands) (v : Var) → Contains ks v → common_exponent ks p v ≡ least_of v p
common_exponent-known ks p v h = ap (λ (b : Bool). cond b (least_of v p) 0) (is_in_from_Contains ks v h)

pub common_exponent-other : (ks : List Var) (p : Summands) (v : Var) → (Contains ks v → ⊥) → common_exponent ks p v ≡ 0
common_exponent-other ks p v n = go (is_in ks v) refl
  where
    go : (b : Bool) → is_in ks v ≡ b → cond b (least_of v p) 0 ≡ 0
    go true e = absurd (n (Contains-from_is_in ks v e))
    go false e = refl

-- it is at most the exponent in the first monomial
pub common_exponent-le : (ks : List Var) (p : Summands) (t : Powers × ℤ) (v : Var) → 0 < length p → t ≡ get_or p 0 t → common_exponent ks p v ≤ exponent v t.0
common_exponent-le ks p t v h at =
    let le : least_of v p ≤ exponent v t.0 = subst (λ (u : Powers × ℤ). least_of v p ≤ exponent v u.0) (sym at) ((IsLeastExponent-least_of v p h).at_most 0 t h) in
    go (is_in ks v) le
  where
    go : (b : Bool) → least_of v p ≤ exponent v t.0 → cond b (least_of v p) 0 ≤ exponent v t.0
    go true le = le
    go false le = omega arith

pub IsMonomial-first : (p : Summands) (t : Powers × ℤ) → 0 < length p → t ≡ get_or p 0 t → AllKeys IsMonomial p → IsMonomial t.0
IsMonomial-first [] t h at all = absurd (omega arith)
IsMonomial-first (u ∷ us) t h at all = subst (λ (x : Powers × ℤ). IsMonomial x.0) (sym at) all.0

-- the exponents in the factor are at most those of the first monomial
pub IsAbove-first : (ks : List Var) (p : Summands) (t : Powers × ℤ) → 0 < length p → t ≡ get_or p 0 t → IsMonomial t.0 → IsAbove (common_exponent ks p) t.0
IsAbove-first ks p t h at monomial = IsAbove-from_exponents (common_exponent ks p) t.0 monomial.in_order (λ v some. common_exponent-le ks p t v h at)

-- the exponent that the code finds
pub found_exponent : (ks : List Var) (p : Summands) (v : Var) (e : ℕ) → 0 < length p → Contains ks v → IsLeastExponent v p e → e ≡ common_exponent ks p v
found_exponent ks p v e some h least = same_least v p e (least_of v p) least (IsLeastExponent-least_of v p some) ∙ sym (common_exponent-known ks p v h)

-- what the reduced monomial is, known variable by known variable
pub known_in_reduced : (ks : List Var) (p : Summands) (t : Powers × ℤ) (v : Var) → 0 < length p → t ≡ get_or p 0 t → IsMonomial t.0
    → Contains ks v → IsLeastExponent v p (exponent v (reduced (common_exponent ks p) t.0))
known_in_reduced ks p t v some at monomial h =
    subst (IsLeastExponent v p)
    (sym (exponent-reduced (common_exponent ks p) v t.0 monomial.in_order (common_exponent-le ks p t v some at) ∙ common_exponent-known ks p v h))
    (IsLeastExponent-least_of v p some)

pub other_in_reduced : (ks : List Var) (p : Summands) (t : Powers × ℤ) (v : Var) → 0 < length p → t ≡ get_or p 0 t → IsMonomial t.0
    → (Contains ks v → ⊥) → exponent v (reduced (common_exponent ks p) t.0) ≡ 0
other_in_reduced ks p t v some at monomial n =
    exponent-reduced (common_exponent ks p) v t.0 monomial.in_order (common_exponent-le ks p t v some at) ∙ common_exponent-other ks p v n
