-- What holds of each variable of a polynomial: it is kept by products, by replacements and by cuts.
use Rattle.std.proofs.Common.{◌≡◌, ℕ, zero, suc, ◌+◌, ◌-◌, Bool, true, false, cond, eqb, Option, Some, None, List, [], ◌∷◌, ◌++◌, map, refl, sym, ap, subst, ◌∙◌, ℤ, arith}
use Rattle.std.specs.Prelude.{Contains}
use Rattle.std.specs.BTreeSet.{insert_key}
use Rattle.std.specs.List.{cons_option, filter_map, flat_map, fold}
use Rattle.std.specs.Ordering.{is_eq, match_ordering}
use Rattle.std.specs.declared.cmp.Ordering.{Ordering}
use Rattle.std.specs.declared.cmp.Ordering.TheVariants.{Less, Equal, Greater}
use Rattle.std.proofs.lemmas.Bool.Decides.{nat_tests}
use Rattle.sparse_lists.specs.SparseLists.{AllKeys, IsCanonical}
use Rattle.sparse_lists.proofs.Sums.{AllKeys-canonical, AllKeys-append}
use Rattle.geo_poly.specs.declared.rows.Row.{Row}
use Rattle.geo_poly.specs.declared.variables.Var.{Var}
use Rattle.geo_poly.specs.Monomials.{Powers, IsMonomial, exponent, exponents, product}
use Rattle.sparse_lists.specs.Coefficients.{coefficients}
use Rattle.geo_poly.specs.Polynomials.{Summands, term_cmp, polynomial_of, multiples, products, product_of}
use Rattle.geo_poly.specs.Replace.{denominators, kept, most_denominators, numerator_power, numerators, others, power_of}
use Rattle.geo_poly.specs.Replace.{replaced_by, replaced_term, replaced_terms, row_of}
use Rattle.geo_poly.specs.Variables.{var_cmp}
use Rattle.geo_poly.proofs.FactorLaws.{multiples-product}
use Rattle.geo_poly.proofs.MonomialOrder.{exponent-product}
use Rattle.geo_poly.proofs.Orders.{var_order}
use Rattle.geo_poly.specs.Cuts.{IsCut}
use Rattle.geo_poly.specs.PolynomialVariables.{AllVariables, variables_of}

module _ (Holds : Var → Type 0) where
  -- each variable of a monomial
  abbrev OfMonomial : Powers → Type 0
  OfMonomial m = AllKeys Holds m

  -- PRODUCTS
  of-product : (m n : Powers) → OfMonomial m → OfMonomial n → OfMonomial (product m n)
  of-product m n h g = AllKeys-canonical var_cmp exponents Holds (m ++ n) (AllKeys-append Holds m n h g)

  pub of-polynomial_of : (p : Summands) → AllVariables Holds p → AllVariables Holds (polynomial_of p)
  of-polynomial_of p h = AllKeys-canonical term_cmp coefficients (λ m. AllKeys Holds m) p h

  pub of-append : (p q : Summands) → AllVariables Holds p → AllVariables Holds q → AllVariables Holds (p ++ q)
  of-append p q h g = AllKeys-append (λ m. AllKeys Holds m) p q h g

  of-multiples : (t : Powers × ℤ) (q : Summands) → OfMonomial t.0 → AllVariables Holds q → AllVariables Holds (multiples t q)
  of-multiples t [] h g = tt
  of-multiples t (u ∷ us) h g = (of-product t.0 u.0 h g.0, of-multiples t us h g.1)

  of-products : (p q : Summands) → AllVariables Holds p → AllVariables Holds q → AllVariables Holds (products p q)
  of-products [] q h g = tt
  of-products (t ∷ ts) q h g = of-append (multiples t q) (products ts q) (of-multiples t q h.0 g) (of-products ts q h.1 g)

  pub of-product_of : (p q : Summands) → AllVariables Holds p → AllVariables Holds q → AllVariables Holds (product_of p q)
  of-product_of p q h g = of-polynomial_of (products p q) (of-products p q h g)

  -- REPLACEMENTS
  of-power_of : (q : Summands) (n : ℕ) → AllVariables Holds q → AllVariables Holds (power_of q n)
  of-power_of q zero h = (tt, tt)
  of-power_of q (suc n) h = of-product_of q (power_of q n) h (of-power_of q n h)

  -- each variable of each numerator
  abbrev pub OfNumerators : List Row → Type 0
  OfNumerators [] = Unit {0}
  OfNumerators (r ∷ rs) = AllVariables Holds r.num.poly × OfNumerators rs

  abbrev OfNumerator : Option Row → Type 0
  OfNumerator None = Unit {0}
  OfNumerator (Some r) = AllVariables Holds r.num.poly

  of-row : (rows : List Row) (v : Var) → OfNumerators rows → OfNumerator (row_of rows v)
  of-row [] v h = tt
  of-row (r ∷ rs) v h = go (is_eq (var_cmp r.var v)) (of-row rs v h.1)
    where
      go : (b : Bool) → OfNumerator (row_of rs v) → OfNumerator (cond b (Some r) (row_of rs v))
      go true rest = h.0
      go false rest = rest

  of-numerator_power : (o : Option Row) (n : ℕ) → OfNumerator o → AllVariables Holds (numerator_power o n)
  of-numerator_power None n h = (tt, tt)
  of-numerator_power (Some r) n h = of-power_of r.num.poly n h

  of-numerators : (rows : List Row) (m : Powers) → OfNumerators rows → AllVariables Holds (numerators rows m)
  of-numerators rows [] h = (tt, tt)
  of-numerators rows (v ∷ m) h =
      let o = row_of rows v.0 in
      of-product_of (numerator_power o v.1) (numerators rows m) (of-numerator_power o v.1 (of-row rows v.0 h)) (of-numerators rows m h)

  pub of-term : (rows : List Row) (den : Summands) (top : ℕ) (t : Powers × ℤ) → OfNumerators rows → AllVariables Holds den
      → OfMonomial (others rows t.0) → AllVariables Holds (replaced_term rows den top t)
  of-term rows den top t g d h =
      let start = (others rows t.0, t.1) ∷ [] in
      let nums = numerators rows t.0 in
      let lacking = top - denominators rows t.0 in
      let front = of-product_of start nums (h, tt) (of-numerators rows t.0 g) in
      of-product_of (product_of start nums) (power_of den lacking) front (of-power_of den lacking d)

  of-others : (rows : List Row) (m : Powers) → OfMonomial m → OfMonomial (others rows m)
  of-others rows [] h = tt
  of-others rows (v ∷ m) h = go (row_of rows v.0) (of-others rows m h.1)
    where
      go : (o : Option Row) → OfMonomial (others rows m) → OfMonomial (kept o v (others rows m))
      go None rest = (h.0, rest)
      go (Some r) rest = rest

  of-replaced_terms : (rows : List Row) (den : Summands) (top : ℕ) (q : Summands) → OfNumerators rows → AllVariables Holds den → AllVariables Holds q
      → AllVariables Holds (replaced_terms rows den top q)
  of-replaced_terms rows den top [] g d h = tt
  of-replaced_terms rows den top (t ∷ ts) g d h =
      of-append (replaced_term rows den top t) (replaced_terms rows den top ts)
      (of-term rows den top t g d (of-others rows t.0 h.0)) (of-replaced_terms rows den top ts g d h.1)

  pub of-replaced_by : (rows : List Row) (den q : Summands) → OfNumerators rows → AllVariables Holds den → AllVariables Holds q
      → AllVariables Holds (replaced_by rows den q)
  of-replaced_by rows den q g d h =
      of-polynomial_of (replaced_terms rows den (most_denominators rows q) q) (of-replaced_terms rows den (most_denominators rows q) q g d h)

  -- CUTS
  -- a variable with an exponent stands in the monomial
  pub of-exponent : (m : Powers) (v : Var) → OfMonomial m → (exponent v m ≡ 0 → ⊥) → Holds v
  of-exponent [] v h n = absurd (n refl)
  of-exponent (p ∷ m) v h n = go (var_cmp v p.0) refl (of-exponent m v h.1)
    where
      go : (o : Ordering) → var_cmp v p.0 ≡ o → ((exponent v m ≡ 0 → ⊥) → Holds v) → Holds v
      go Less e rest = rest (λ z. n (let here : exponent v (p ∷ m) ≡ 0 + exponent v m = ap (λ (x : Ordering). cond (is_eq x) p.1 0 + exponent v m) e in omega (arith, here, z)))
      go Greater e rest = rest (λ z. n (let here : exponent v (p ∷ m) ≡ 0 + exponent v m = ap (λ (x : Ordering). cond (is_eq x) p.1 0 + exponent v m) e in omega (arith, here, z)))
      go Equal e rest = subst Holds (sym (var_order.exact v p.0 e)) h.0

  some_exponent : (p : Var × ℕ) (m : Powers) → (eqb p.1 0 ≡ false) → exponent p.0 (p ∷ m) ≡ 0 → ⊥
  some_exponent p m e z =
      let here : cond (is_eq (var_cmp p.0 p.0)) p.1 0 ≡ p.1 = ap (λ (o : Ordering). cond (is_eq o) p.1 0) (var_order.self p.0) in
      let none : p.1 ≡ 0 = omega (arith, here, z) in
      grind (arith, nat_tests)

  -- where each variable with an exponent has the property, each variable has it
  pub from_exponents : (m : Powers) → IsCanonical var_cmp exponents m → ((v : Var) → (exponent v m ≡ 0 → ⊥) → Holds v) → OfMonomial m
  from_exponents [] c h = tt
  from_exponents (p ∷ m) c h = (
    h p.0 (some_exponent p m c.0),
    from_exponents m c.2 (λ v n. h v (λ z. n (omega (arith, z)))),
  )

  of-second : (k m : Powers) → IsMonomial m → OfMonomial (product k m) → OfMonomial m
  of-second k m valid h =
      from_exponents m valid.in_order (λ v n. of-exponent (product k m) v h (λ z. n (omega (arith, z, exponent-product v k m))))

  of-multiplied : (f : Powers × ℤ) (r : Summands) → AllKeys IsMonomial r → AllVariables Holds (multiples f r) → AllVariables Holds r
  of-multiplied f [] valid h = tt
  of-multiplied f (t ∷ ts) valid h = (of-second f.0 t.0 valid.0 h.0, of-multiplied f ts valid.1 h.1)

  -- a quotient has no other variables
  pub of-cut : (known : List Var) (f : Powers × ℤ) (q r : Summands) → IsCut known f q r → AllVariables Holds q → AllVariables Holds r
  of-cut known f q r cut h =
      let whole : multiples f r ≡ q = multiples-product f r cut.factor.nonzero cut.polynomial.monomials cut.polynomial.in_order ∙ cut.exact in
      of-multiplied f r cut.polynomial.monomials (subst (AllVariables Holds) (sym whole) h)

  -- LISTS OF VARIABLES
  -- each variable of a list
  abbrev pub EachIn : List Var → Type 0
  EachIn [] = Unit {0}
  EachIn (v ∷ vs) = Holds v × EachIn vs

  pub each-append : (vs ws : List Var) → EachIn vs → EachIn ws → EachIn (vs ++ ws)
  each-append [] ws h g = g
  each-append (v ∷ vs) ws h g = (h.0, each-append vs ws h.1 g)

  each-powers : (m : Powers) → OfMonomial m → EachIn (map (λ p. p.0) m)
  each-powers [] h = tt
  each-powers (p ∷ m) h = (h.0, each-powers m h.1)

  each-terms : (q : Summands) → AllVariables Holds q → EachIn (flat_map (λ t. map (λ p. p.0) t.0) q)
  each-terms [] h = tt
  each-terms (t ∷ ts) h = each-append (map (λ p. p.0) t.0) (flat_map (λ t. map (λ p. p.0) t.0) ts) (each-powers t.0 h.0) (each-terms ts h.1)

  -- a variable put in its place
  each-insert_key : (vs : List Var) (v : Var) → EachIn vs → Holds v → EachIn (insert_key var_cmp vs v)
  each-insert_key [] v h g = (g, tt)
  each-insert_key (w ∷ ws) v h g = go (var_cmp v w) (each-insert_key ws v h.1 g)
    where
      go : (o : Ordering) → EachIn (insert_key var_cmp ws v) → EachIn (match_ordering o (v ∷ w ∷ ws) (w ∷ ws) (w ∷ insert_key var_cmp ws v))
      go Less rest = (g, h)
      go Equal rest = h
      go Greater rest = (h.0, rest)

  of-insert_key : (vs : List Var) (v : Var) → EachIn (insert_key var_cmp vs v) → EachIn vs × Holds v
  of-insert_key [] v h = (tt, h.0)
  of-insert_key (w ∷ ws) v h = go (var_cmp v w) refl (of-insert_key ws v) h
    where
      go : (o : Ordering) → var_cmp v w ≡ o → (EachIn (insert_key var_cmp ws v) → EachIn ws × Holds v)
          → EachIn (match_ordering o (v ∷ w ∷ ws) (w ∷ ws) (w ∷ insert_key var_cmp ws v)) → EachIn (w ∷ ws) × Holds v
      go Less e rest h = (h.1, h.0)
      go Equal e rest h = (h, subst Holds (sym (var_order.exact v w e)) h.0)
      go Greater e rest h = ((h.0, (rest h.1).0), (rest h.1).1)

  each-fold : (us vs : List Var) → EachIn us → EachIn vs → EachIn (fold (insert_key var_cmp) us vs)
  each-fold us [] h g = h
  each-fold us (v ∷ vs) h g = each-fold (insert_key var_cmp us v) vs (each-insert_key us v h g.0) g.1

  pub of-fold : (us vs : List Var) → EachIn (fold (insert_key var_cmp) us vs) → EachIn us × EachIn vs
  of-fold us [] h = (h, tt)
  of-fold us (v ∷ vs) h =
      let both = of-fold (insert_key var_cmp us v) vs h in
      let first = of-insert_key us v both.0 in
      (first.0, (first.1, both.1))

  pub each-variables : (q : Summands) → AllVariables Holds q → EachIn (variables_of q)
  each-variables q h = each-fold [] (flat_map (λ t. map (λ p. p.0) t.0) q) tt (each-terms q h)

  front_in : (vs ws : List Var) → EachIn (vs ++ ws) → EachIn vs
  front_in [] ws h = tt
  front_in (v ∷ vs) ws h = (h.0, front_in vs ws h.1)

  back_in : (vs ws : List Var) → EachIn (vs ++ ws) → EachIn ws
  back_in [] ws h = h
  back_in (v ∷ vs) ws h = back_in vs ws h.1

  of_powers : (m : Powers) → EachIn (map (λ p. p.0) m) → OfMonomial m
  of_powers [] h = tt
  of_powers (p ∷ m) h = (h.0, of_powers m h.1)

  of_terms : (q : Summands) → EachIn (flat_map (λ t. map (λ p. p.0) t.0) q) → AllVariables Holds q
  of_terms [] h = tt
  of_terms (t ∷ ts) h =
      let here = map (λ p. p.0) t.0 in let rest = flat_map (λ (u : Powers × ℤ). map (λ p. p.0) u.0) ts in
      (of_powers t.0 (front_in here rest h), of_terms ts (back_in here rest h))

  pub each_of : (vs : List Var) → ((v : Var) → Contains vs v → Holds v) → EachIn vs
  each_of [] h = tt
  each_of (v ∷ vs) h = (h v (0, omega arith, refl), each_of vs (λ w c. h w (suc c.0, (let l = c.1 in omega (arith, l)), c.2)))

  -- what holds of each variable in the list of variables holds of each variable
  pub all_variables : (q : Summands) → ((v : Var) → Contains (variables_of q) v → Holds v) → AllVariables Holds q
  all_variables q h = of_terms q (of-fold [] (flat_map (λ t. map (λ p. p.0) t.0) q) (each_of (variables_of q) h)).1

  -- where rows are taken for some variables, one of them has a row
  pub some_row : (row : Var → Option Row) (vs : List Var) → EachIn vs → (filter_map row vs ≡ [] → ⊥) → (v : Var) × (r : Row) × (row v ≡ Some r) × Holds v
  some_row row [] h n = absurd (n refl)
  some_row row (v ∷ vs) h n = go (row v) refl (some_row row vs h.1)
    where
      go : (o : Option Row) → row v ≡ o → ((filter_map row vs ≡ [] → ⊥) → (v : Var) × (r : Row) × (row v ≡ Some r) × Holds v)
          → (v : Var) × (r : Row) × (row v ≡ Some r) × Holds v
      go None e rest = rest (λ z. n (ap (λ (o : Option Row). cons_option o (filter_map row vs)) e ∙ z))
      go (Some r) e rest = (v, r, e, h.0)

  -- the numerators of rows whose variables have another property
  pub of-rows : (row : Var → Option Row) (vs : List Var) → ((v : Var) (r : Row) → row v ≡ Some r → Holds v → AllVariables Holds r.num.poly) → EachIn vs
      → OfNumerators (filter_map row vs)
  of-rows row [] each h = tt
  of-rows row (v ∷ vs) each h = go (row v) refl (of-rows row vs each h.1)
    where
      go : (o : Option Row) → row v ≡ o → OfNumerators (filter_map row vs) → OfNumerators (cons_option o (filter_map row vs))
      go None e rest = rest
      go (Some r) e rest = (each v r e h.0, rest)

-- two properties together
pub of-both : (First Second Third : Var → Type 0) → ((v : Var) → First v → Second v → Third v) → (q : Summands) → AllVariables First q → AllVariables Second q → AllVariables Third q
of-both First Second Third both [] h g = tt
of-both First Second Third both (t ∷ ts) h g = (monomial t.0 h.0 g.0, of-both First Second Third both ts h.1 g.1)
  where
    monomial : (m : Powers) → AllKeys First m → AllKeys Second m → AllKeys Third m
    monomial [] h g = tt
    monomial (p ∷ m) h g = (both p.0 h.0 g.0, monomial m h.1 g.1)

-- what holds of each element holds of those that the list contains
pub each-contained : (Holds : Var → Type 0) (vs : List Var) (v : Var) → EachIn Holds vs → Contains vs v → Holds v
each-contained Holds [] v h (k, lt, e) = absurd (omega arith)
each-contained Holds (w ∷ vs) v h (zero, lt, e) = subst Holds e h.0
each-contained Holds (w ∷ vs) v h (suc k, lt, e) = each-contained Holds vs v h.1 (k, omega arith, e)
