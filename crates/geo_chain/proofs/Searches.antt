-- Searches by an order, one after the other, and what they come to.
use Rattle.std.proofs.Common.{◌≡◌, ◌⊎◌, inl, inr, ⊎_elim, ℤ, ℕ, ◌+◌, ◌<◌, ◌≤◌, zero, suc, List, [], ◌∷◌, Option, Some, None, Contains, length, get_or, drop, refl, sym, subst, ◌∙◌, arith}
use Rattle.std.proofs.lemmas.List.{at_drop_all, at_drop_more}
use Rattle.sparse_lists.specs.SparseLists.{AllKeys}
use Rattle.geo_poly.specs.declared.variables.Var.{Var}
use Rattle.geo_poly.specs.Monomials.{Powers}
use Rattle.geo_poly.specs.Polynomials.{Summands}
use Rattle.geo_poly.specs.PolynomialVariables.{AllVariables, variables_of}
use Rattle.geo_poly.proofs.EachVariable.{all_variables, each-contained, each-variables}
use Rattle.geo_chain.specs.Inner.Searches.{AnyAmong, AnyIn, AnyOf, Improves, Reaches}

-- what is found is as good as itself, and as what it is better than
pub record IsGrade {A : Type 0} (AsGood : A → A → Type 0) : Type 0 where
  pub self : (a : A) → AsGood a a
  pub trans : (a b c : A) → AsGood a b → AsGood b c → AsGood a c

-- what a search finds in the rest, a search from the start finds in the whole
abbrev pub GoesOn : {A : Type 0} → (A → A → Type 0) → (A → Type 0) → (A → Type 0) → Option A → Option A → Type 0
GoesOn {A} AsGood Whole Rest start now = (after : Option A) → Improves AsGood Rest now after → Improves AsGood Whole start after

-- what is found at one of the variables
abbrev pub InList : {A : Type 0} → (Var → A → Type 0) → List Var → A → Type 0
InList Finds vs a = AnyOf (λ v. Finds v a) vs

abbrev pub InMonomial : {A : Type 0} → (Var → A → Type 0) → Powers → A → Type 0
InMonomial Finds m a = AnyAmong (λ v. Finds v a) m

abbrev pub InTerms : {A : Type 0} → (Var → A → Type 0) → Summands → A → Type 0
InTerms Finds q a = AnyIn (λ v. Finds v a) q

module _ {A : Type 0} (AsGood : A → A → Type 0) (grade : IsGrade AsGood) where
  -- what is as good as a is as good as what a is as good as
  pub further : (x : Option A) (a b : A) → Reaches AsGood x a → AsGood a b → Reaches AsGood x b
  further None a b h g = h
  further (Some c) a b h g = grade.trans c a b h g

  still : (x y : Option A) (a : A) → Reaches AsGood x a → ((b : A) → x ≡ Some b → Reaches AsGood y b) → Reaches AsGood y a
  still None y a h k = absurd h
  still (Some b) y a h k = further y b a (k b refl) h

  reached : (x : Option A) (a : A) → x ≡ Some a → Reaches AsGood x a
  reached x a e = subst (λ (o : Option A). Reaches AsGood o a) (sym e) (grade.self a)

  -- two searches
  pub both : (First Second Third : A → Type 0) (x y z : Option A)
      → ((a : A) → First a → Third a) → ((a : A) → Second a → Third a) → ((a : A) → Third a → First a ⊎ Second a)
      → Improves AsGood First x y → Improves AsGood Second y z → Improves AsGood Third x z
  both First Second Third x y z one two parts h g = record {
    from = ⊎_elim (λ (e : z ≡ y). ⊎_elim (λ (d : y ≡ x). let r : (z ≡ x) ⊎ ((a : A) × (z ≡ Some a) × Third a) = inl (e ∙ d) in r)
        (λ (f : (a : A) × (y ≡ Some a) × First a). inr (f.0, e ∙ f.1, one f.0 f.2)) h.from)
        (λ (f : (a : A) × (z ≡ Some a) × Second a). inr (f.0, f.1, two f.0 f.2)) g.from;
    keeps = λ a e. still y z a (h.keeps a e) g.keeps;
    reaches = λ a t. ⊎_elim (λ (f : First a). still y z a (h.reaches a f) g.keeps) (λ (s : Second a). g.reaches a s) (parts a t);
  }

  pub first_and_rest : (First Rest : A → Type 0) (x y z : Option A) → Improves AsGood First x y → Improves AsGood Rest y z → Improves AsGood (λ a. First a ⊎ Rest a) x z
  first_and_rest First Rest x y z h g = both First Rest (λ a. First a ⊎ Rest a) x y z (λ a f. inl f) (λ a r. inr r) (λ a t. t) h g

  -- what is found where nothing was there is good
  pub found : (Good : A → Type 0) (x : A) → Improves AsGood Good None (Some x) → Good x
  found Good x h = ⊎_elim (λ (e : ◌≡◌ {A = Option A} (Some x) None). absurd (cc))
      (λ (f : (a : A) × (◌≡◌ {A = Option A} (Some x) (Some a)) × Good a). let n = f.1 in let t : f.0 ≡ x = cc in subst Good t f.2) h.from

  -- where nothing better is left, what is found stays
  pub stays : (Good : A → Type 0) (x : Option A) → ((a : A) → Good a → Reaches AsGood x a) → Improves AsGood Good x x
  stays Good x h = record { from = inl refl; keeps = reached x; reaches = h }

  -- LISTS
  module _ (Finds : Var → A → Type 0) where
    pub next_listed : (vs : List Var) (i : ℕ) (d : Var) (start x y : Option A) → i < length vs → Improves AsGood (Finds (get_or vs i d)) x y
        → GoesOn AsGood (InList Finds vs) (InList Finds (drop i vs)) start x → GoesOn AsGood (InList Finds vs) (InList Finds (drop (i + 1) vs)) start y
    next_listed vs i d start x y within step goes after rest =
        goes after (subst (λ (ws : List Var). Improves AsGood (InList Finds ws) x after) (sym (at_drop_more (λ (ws : List Var). ws) vs i d within))
        (first_and_rest (Finds (get_or vs i d)) (InList Finds (drop (i + 1) vs)) x y after step rest))

    pub last_listed : (vs : List Var) (i : ℕ) (start x : Option A) → length vs ≤ i → GoesOn AsGood (InList Finds vs) (InList Finds (drop i vs)) start x → Improves AsGood (InList Finds vs) start x
    last_listed vs i start x past goes =
        goes x (subst (λ (ws : List Var). Improves AsGood (InList Finds ws) x x) (sym (at_drop_all (λ (ws : List Var). ws) vs i past)) (stays (InList Finds []) x (λ a none. absurd none)))

    pub next_power : (whole m rest : Powers) (v : Var) (e : ℕ) (start x y : Option A) → m ≡ (v, e) ∷ rest → Improves AsGood (Finds v) x y
        → GoesOn AsGood (InMonomial Finds whole) (InMonomial Finds m) start x → GoesOn AsGood (InMonomial Finds whole) (InMonomial Finds rest) start y
    next_power whole m rest v e start x y is step goes after left =
        goes after (subst (λ (n : Powers). Improves AsGood (InMonomial Finds n) x after) (sym is) (first_and_rest (Finds v) (InMonomial Finds rest) x y after step left))

    pub last_power : (whole m : Powers) (start x : Option A) → m ≡ [] → GoesOn AsGood (InMonomial Finds whole) (InMonomial Finds m) start x → Improves AsGood (InMonomial Finds whole) start x
    last_power whole m start x none goes =
        goes x (subst (λ (n : Powers). Improves AsGood (InMonomial Finds n) x x) (sym none) (stays (InMonomial Finds []) x (λ a no. absurd no)))

    pub next_term : (whole q rest : Summands) (t : Powers × ℤ) (start x y : Option A) → q ≡ t ∷ rest → Improves AsGood (InMonomial Finds t.0) x y
        → GoesOn AsGood (InTerms Finds whole) (InTerms Finds q) start x → GoesOn AsGood (InTerms Finds whole) (InTerms Finds rest) start y
    next_term whole q rest t start x y is step goes after left =
        goes after (subst (λ (r : Summands). Improves AsGood (InTerms Finds r) x after) (sym is) (first_and_rest (InMonomial Finds t.0) (InTerms Finds rest) x y after step left))

    pub last_term : (whole q : Summands) (start x : Option A) → q ≡ [] → GoesOn AsGood (InTerms Finds whole) (InTerms Finds q) start x → Improves AsGood (InTerms Finds whole) start x
    last_term whole q start x none goes =
        goes x (subst (λ (r : Summands). Improves AsGood (InTerms Finds r) x x) (sym none) (stays (InTerms Finds []) x (λ a no. absurd no)))

-- WHERE THEY STAND
-- a variable that is contained is one of the list
pub contained_of : (Holds : Var → Type 0) (vs : List Var) (v : Var) → Contains vs v → Holds v → AnyOf Holds vs
contained_of Holds [] v (k, lt, e) h = absurd (omega arith)
contained_of Holds (w ∷ vs) v (zero, lt, e) h = inl (subst Holds (sym e) h)
contained_of Holds (w ∷ vs) v (suc k, lt, e) h = inr (contained_of Holds vs v (k, omega arith, e) h)

-- one of what is left of the polynomial is one of it
pub dropped_in : (Holds : Var → Type 0) (q : Summands) (i : ℕ) → AnyIn Holds (drop i q) → AnyIn Holds q
dropped_in Holds q zero h = h
dropped_in Holds [] (suc i) h = h
dropped_in Holds (t ∷ q) (suc i) h = inr (dropped_in Holds q i h)

module _ (Holds Other : Var → Type 0) where
  among : (m : Powers) → AnyAmong Holds m → AllKeys Other m → (v : Var) × Other v × Holds v
  among [] h g = absurd h
  among (p ∷ m) (inl h) g = (p.0, g.0, h)
  among (p ∷ m) (inr h) g = among m h g.1

  -- one variable has both properties
  pub one_with : (q : Summands) → AnyIn Holds q → AllVariables Other q → (v : Var) × Other v × Holds v
  one_with [] h g = absurd h
  one_with (t ∷ q) (inl h) g = among t.0 h g.0
  one_with (t ∷ q) (inr h) g = one_with q h g.1

module _ (Holds : Var → Type 0) (C : Type 0) where
  each_power : (m : Powers) → (AnyAmong Holds m → C) → AllKeys (λ v. Holds v → C) m
  each_power [] f = tt
  each_power (p ∷ m) f = (λ h. f (inl h), each_power m (λ h. f (inr h)))

  each_term : (q : Summands) → (AnyIn Holds q → C) → AllVariables (λ v. Holds v → C) q
  each_term [] f = tt
  each_term (t ∷ q) f = (each_power t.0 (λ h. f (inl h)), each_term q (λ h. f (inr h)))

-- a variable that is contained is one of the polynomial, and the other way round
pub contained_in : (Holds : Var → Type 0) (q : Summands) (v : Var) → Contains (variables_of q) v → Holds v → AnyIn Holds q
contained_in Holds q v stands =
    each-contained (λ w. Holds w → AnyIn Holds q) (variables_of q) v
    (each-variables (λ w. Holds w → AnyIn Holds q) q (each_term Holds (AnyIn Holds q) q (λ h. h))) stands

pub in_contained : (Holds : Var → Type 0) (q : Summands) → AnyIn Holds q → (v : Var) × Contains (variables_of q) v × Holds v
in_contained Holds q h = one_with Holds (Contains (variables_of q)) q h (all_variables (Contains (variables_of q)) q (λ v stands. stands))
