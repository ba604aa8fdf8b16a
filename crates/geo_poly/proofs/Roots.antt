-- A polynomial that is not zero becomes zero at few numbers put for a variable.
use Rattle.std.proofs.Common.{◌≡◌, ℕ, zero, suc, ◌+◌, ◌<◌, ◌≤◌, max, eqb, ltb, unsigned_abs, Bool, true, false, cond, ℤ, pos, ◌+ℤ◌, ◌*ℤ◌}
use Rattle.std.proofs.Common.{neg_ℤ, List, [], ◌∷◌, length, map, get_or, refl, sym, ap, ap₂, subst, ◌∙◌, arith}
use Rattle.std.specs.Int.{int_pow}
use Rattle.std.specs.Ordering.{is_eq}
use Rattle.std.specs.declared.cmp.Ordering.{Ordering}
use Rattle.std.specs.declared.cmp.Ordering.TheVariants.{Less, Equal, Greater}
use Rattle.std.proofs.lemmas.Int.{ints}
use Rattle.std.proofs.lemmas.Bool.Decides.{nat_tests}
use Rattle.ring_laws.specs.Solver.{variable, numeral, ◌⊞◌, ◌⊟◌, ◌⊠◌, opposite, entry_at, given}
use Rattle.ring_laws.proofs.Integers.{integers}
use Rattle.ring_laws.proofs.Sound.{agree}
use Rattle.ring_laws.proofs.Combination.{by_combination}
use Rattle.ring_laws.proofs.Quotients.{cancel_factor}
use Rattle.sparse_lists.specs.SparseLists.{AllKeys, IsBefore, IsCanonical, amount}
use Rattle.sparse_lists.proofs.Canonical.{amount-canonical, same_list}
use Rattle.geo_poly.specs.declared.variables.Var.{Var}
use Rattle.geo_poly.specs.Variables.{var_cmp}
use Rattle.geo_poly.specs.Monomials.{Powers, exponents, exponent}
use Rattle.sparse_lists.specs.Coefficients.{coefficients}
use Rattle.geo_poly.specs.Polynomials.{Summands, term_cmp}
use Rattle.geo_poly.specs.Specialise.{without, specialised_term, specialised, degree_in, IsCollected}
use Rattle.geo_poly.proofs.Orders.{var_order, exponents_add, term_order}
use Rattle.sparse_lists.proofs.Coefficients.{coefficients_add}
use Rattle.geo_poly.proofs.SpecialisedLaws.{exponent-without_other}
use Rattle.geo_poly.proofs.WholePowers.{int_pow-zero, int_pow-suc}

-- LISTS OF COEFFICIENTS, THAT OF THE POWER 0 FIRST
-- the value at a number
abbrev pub at_number : List ℤ → ℤ → ℤ
at_number [] z = pos 0
at_number (c ∷ cs) z = c +ℤ z *ℤ at_number cs z

abbrev pub AllNull : List ℤ → Type 0
AllNull [] = Unit {0}
AllNull (c ∷ cs) = (c ≡ pos 0) × AllNull cs

-- a is a root of cs, and each of the list is one that differs from those after it
abbrev pub AreRoots : List ℤ → List ℤ → Type 0
AreRoots cs [] = Unit {0}
AreRoots cs (a ∷ rs) = (at_number cs a ≡ pos 0) × AreRoots cs rs

abbrev pub AllDiffer : ℤ → List ℤ → Type 0
AllDiffer a [] = Unit {0}
AllDiffer a (b ∷ rs) = (a ≡ b → ⊥) × AllDiffer a rs

abbrev pub AreApart : List ℤ → Type 0
AreApart [] = Unit {0}
AreApart (a ∷ rs) = AllDiffer a rs × AreApart rs

-- the values at a of the list and of its tails: the quotient of z cs(z) - a cs(a) by z - a
abbrev pub quotient_by : ℤ → List ℤ → List ℤ
quotient_by a [] = []
quotient_by a (c ∷ cs) = (c +ℤ a *ℤ at_number cs a) ∷ quotient_by a cs

length-quotient_by : (a : ℤ) (cs : List ℤ) → length (quotient_by a cs) ≡ length cs
length-quotient_by a [] = refl
length-quotient_by a (c ∷ cs) = omega (arith, length-quotient_by a cs)

divided : (a z : ℤ) (cs : List ℤ) → z *ℤ at_number cs z +ℤ neg_ℤ (a *ℤ at_number cs a) ≡ (z +ℤ neg_ℤ a) *ℤ at_number (quotient_by a cs) z
divided a z [] =
    let x = variable 0 in let y = variable 1 in
    agree integers (entry_at integers (a ∷ z ∷ [])) (y ⊠ numeral 0 ⊟ x ⊠ numeral 0) ((y ⊟ x) ⊠ numeral 0) tt
divided a z (c ∷ cs) =
    let x = variable 0 in let y = variable 1 in let k = variable 2 in let at_x = variable 3 in let at_y = variable 4 in let q = variable 5 in
    by_combination integers (entry_at integers (a ∷ z ∷ c ∷ at_number cs a ∷ at_number cs z ∷ at_number (quotient_by a cs) z ∷ []))
    (given y (y ⊠ at_y ⊟ x ⊠ at_x) ((y ⊟ x) ⊠ q) ∷ [])
    (y ⊠ (k ⊞ y ⊠ at_y) ⊟ x ⊠ (k ⊞ x ⊠ at_x)) ((y ⊟ x) ⊠ (k ⊞ x ⊠ at_x ⊞ y ⊠ q)) (divided a z cs, tt) tt

-- a product is 0 where one factor is
null_factor : (a b : ℤ) → (a ≡ pos 0 → ⊥) → a *ℤ b ≡ pos 0 → b ≡ pos 0
null_factor a b n e =
    let x = variable 0 in let y = variable 1 in
    cancel_factor b (pos 0) a n
    (by_combination integers (entry_at integers (a ∷ b ∷ [])) (given (numeral 1) (x ⊠ y) (numeral 0) ∷ []) (y ⊠ x) (numeral 0 ⊠ x) (e, tt) tt)

-- another root is one of the quotient
root_of_quotient : (a z c : ℤ) (cs : List ℤ) → at_number (c ∷ cs) a ≡ pos 0 → at_number (c ∷ cs) z ≡ pos 0 → (a ≡ z → ⊥) → at_number (quotient_by a cs) z ≡ pos 0
root_of_quotient a z c cs h g n =
    let x = variable 0 in let y = variable 1 in let k = variable 2 in let at_x = variable 3 in let at_y = variable 4 in let q = variable 5 in
    null_factor (z +ℤ neg_ℤ a) (at_number (quotient_by a cs) z)
    (λ e. n (sym (by_combination integers (entry_at integers (a ∷ z ∷ [])) (given (numeral 1) (y ⊟ x) (numeral 0) ∷ []) y x (e, tt) tt)))
    (by_combination integers (entry_at integers (a ∷ z ∷ c ∷ at_number cs a ∷ at_number cs z ∷ at_number (quotient_by a cs) z ∷ []))
    (given (opposite (numeral 1)) (k ⊞ x ⊠ at_x) (numeral 0) ∷ given (numeral 1) (k ⊞ y ⊠ at_y) (numeral 0) ∷ given (opposite (numeral 1)) (y ⊠ at_y ⊟ x ⊠ at_x) ((y ⊟ x) ⊠ q) ∷ [])
    ((y ⊟ x) ⊠ q) (numeral 0) (h, (g, (divided a z cs, tt))) tt)

roots_of_quotient : (a c : ℤ) (cs rs : List ℤ) → at_number (c ∷ cs) a ≡ pos 0 → AllDiffer a rs → AreRoots (c ∷ cs) rs → AreRoots (quotient_by a cs) rs
roots_of_quotient a c cs [] h d g = tt
roots_of_quotient a c cs (z ∷ rs) h d g = (root_of_quotient a z c cs h g.0 d.0, roots_of_quotient a c cs rs h d.1 g.1)

at_number-null : (cs : List ℤ) (z : ℤ) → AllNull cs → at_number cs z ≡ pos 0
at_number-null [] z h = refl
at_number-null (c ∷ cs) z h =
    let x = variable 0 in let k = variable 1 in let r = variable 2 in
    by_combination integers (entry_at integers (z ∷ c ∷ at_number cs z ∷ [])) (given (numeral 1) k (numeral 0) ∷ given x r (numeral 0) ∷ [])
    (k ⊞ x ⊠ r) (numeral 0) (h.0, (at_number-null cs z h.1, tt)) tt

first_null : (a c v : ℤ) → v ≡ pos 0 → c +ℤ a *ℤ v ≡ pos 0 → c ≡ pos 0
first_null a c v e h =
    let x = variable 0 in let k = variable 1 in let r = variable 2 in
    by_combination integers (entry_at integers (a ∷ c ∷ v ∷ [])) (given (numeral 1) (k ⊞ x ⊠ r) (numeral 0) ∷ given (opposite x) r (numeral 0) ∷ []) k (numeral 0) (h, (e, tt)) tt

AllNull-from_quotient : (a : ℤ) (cs : List ℤ) → AllNull (quotient_by a cs) → AllNull cs
AllNull-from_quotient a [] h = tt
AllNull-from_quotient a (c ∷ cs) h =
    let rest : AllNull cs = AllNull-from_quotient a cs h.1 in
    (first_null a c (at_number cs a) (at_number-null cs a rest) h.0, rest)

-- with as many roots as coefficients, each coefficient is 0
pub AllNull-from_roots : (rs cs : List ℤ) → length cs ≤ length rs → AreApart rs → AreRoots cs rs → AllNull cs
AllNull-from_roots [] [] le apart h = tt
AllNull-from_roots [] (c ∷ cs) le apart h = absurd (omega arith)
AllNull-from_roots (a ∷ rs) [] le apart h = tt
AllNull-from_roots (a ∷ rs) (c ∷ cs) le apart h =
    let rest : AllNull cs = AllNull-from_quotient a cs (AllNull-from_roots rs (quotient_by a cs) (omega (arith, length-quotient_by a cs, le)) apart.1 (roots_of_quotient a c cs rs h.0 apart.0 h.1)) in
    (first_null a c (at_number cs a) (at_number-null cs a rest) h.0, rest)

-- A COEFFICIENT ADDED AT A POWER
abbrev pub add_at : ℕ → ℤ → List ℤ → List ℤ
add_at zero c [] = c ∷ []
add_at zero c (x ∷ xs) = (c +ℤ x) ∷ xs
add_at (suc i) c [] = pos 0 ∷ add_at i c []
add_at (suc i) c (x ∷ xs) = x ∷ add_at i c xs

length-add_at-le : (i : ℕ) (c : ℤ) (cs : List ℤ) → length (add_at i c cs) ≤ max (i + 1) (length cs)
length-add_at-le zero c [] = omega arith
length-add_at-le zero c (x ∷ xs) = omega arith
length-add_at-le (suc i) c [] = omega (arith, length-add_at-le i c [])
length-add_at-le (suc i) c (x ∷ xs) = omega (arith, length-add_at-le i c xs)

at_number-add_at : (i : ℕ) (c : ℤ) (cs : List ℤ) (z : ℤ) → at_number (add_at i c cs) z ≡ c *ℤ int_pow z i +ℤ at_number cs z
at_number-add_at zero c [] z =
    let x = variable 0 in let k = variable 1 in let p = variable 2 in
    by_combination integers (entry_at integers (z ∷ c ∷ int_pow z 0 ∷ [])) (given (opposite k) p (numeral 1) ∷ []) (k ⊞ x ⊠ numeral 0) (k ⊠ p ⊞ numeral 0) (int_pow-zero z, tt) tt
at_number-add_at zero c (y ∷ ys) z =
    let x = variable 0 in let k = variable 1 in let p = variable 2 in let l = variable 3 in let r = variable 4 in
    by_combination integers (entry_at integers (z ∷ c ∷ int_pow z 0 ∷ y ∷ at_number ys z ∷ [])) (given (opposite k) p (numeral 1) ∷ []) (k ⊞ l ⊞ x ⊠ r) (k ⊠ p ⊞ (l ⊞ x ⊠ r)) (int_pow-zero z, tt) tt
at_number-add_at (suc i) c [] z =
    let x = variable 0 in let k = variable 1 in let p = variable 2 in let q = variable 3 in let r = variable 4 in
    by_combination integers (entry_at integers (z ∷ c ∷ int_pow z i ∷ int_pow z (suc i) ∷ at_number (add_at i c []) z ∷ []))
    (given (opposite k) q (p ⊠ x) ∷ given x r (k ⊠ p ⊞ numeral 0) ∷ [])
    (numeral 0 ⊞ x ⊠ r) (k ⊠ q ⊞ numeral 0) (int_pow-suc z i, (at_number-add_at i c [] z, tt)) tt
at_number-add_at (suc i) c (y ∷ ys) z =
    let x = variable 0 in let k = variable 1 in let p = variable 2 in let q = variable 3 in let r = variable 4 in let l = variable 5 in let s = variable 6 in
    by_combination integers (entry_at integers (z ∷ c ∷ int_pow z i ∷ int_pow z (suc i) ∷ at_number (add_at i c ys) z ∷ y ∷ at_number ys z ∷ []))
    (given (opposite k) q (p ⊠ x) ∷ given x r (k ⊠ p ⊞ s) ∷ [])
    (l ⊞ x ⊠ r) (k ⊠ q ⊞ (l ⊞ x ⊠ s)) (int_pow-suc z i, (at_number-add_at i c ys z, tt)) tt

add_at_same : (i : ℕ) (c : ℤ) (cs : List ℤ) → get_or (add_at i c cs) i (pos 0) ≡ c +ℤ get_or cs i (pos 0)
add_at_same zero c [] = omega (arith, ints)
add_at_same zero c (x ∷ xs) = refl
add_at_same (suc i) c [] = add_at_same i c []
add_at_same (suc i) c (x ∷ xs) = add_at_same i c xs

add_at_other : (i j : ℕ) (c : ℤ) (cs : List ℤ) → (i ≡ j → ⊥) → get_or (add_at i c cs) j (pos 0) ≡ get_or cs j (pos 0)
add_at_other zero zero c cs n = absurd (n refl)
add_at_other zero (suc j) c [] n = refl
add_at_other zero (suc j) c (x ∷ xs) n = refl
add_at_other (suc i) zero c [] n = refl
add_at_other (suc i) zero c (x ∷ xs) n = refl
add_at_other (suc i) (suc j) c [] n = add_at_other i j c [] (λ e. n (ap suc e))
add_at_other (suc i) (suc j) c (x ∷ xs) n = add_at_other i j c xs (λ e. n (ap suc e))

get_or-null : (cs : List ℤ) (i : ℕ) → AllNull cs → get_or cs i (pos 0) ≡ pos 0
get_or-null [] i h = refl
get_or-null (c ∷ cs) zero h = h.0
get_or-null (c ∷ cs) (suc i) h = get_or-null cs i h.1

-- THE COEFFICIENTS OF n TIMES THE POWERS OF v
module _ (n : Powers) (v : Var) where
  -- the coefficient of a term that is n times a power of v
  abbrev part : Powers × ℤ → ℤ
  part t = cond (is_eq (term_cmp n (without v t.0))) t.1 (pos 0)

  abbrev pub parts : Summands → List ℤ
  parts [] = []
  parts (t ∷ ts) = add_at (exponent v t.0) (part t) (parts ts)

  length-parts-le : (p : Summands) → length (parts p) ≤ degree_in v p + 1
  length-parts-le [] = omega arith
  length-parts-le (t ∷ ts) = omega (arith, length-add_at-le (exponent v t.0) (part t) (parts ts), length-parts-le ts)

  cond_times : (b : Bool) (c w : ℤ) → cond b (c *ℤ w) (pos 0) ≡ cond b c (pos 0) *ℤ w
  cond_times true c w = refl
  cond_times false c w = let x = variable 0 in agree integers (entry_at integers (w ∷ [])) (numeral 0) (numeral 0 ⊠ x) tt

  -- the coefficient of n in what becomes of the terms with z for v
  amount-parts : (z : ℤ) (p : Summands) → amount term_cmp coefficients n (map (specialised_term v z) p) ≡ at_number (parts p) z
  amount-parts z [] = refl
  amount-parts z (t ∷ ts) =
      ap₂ (λ a b. a +ℤ b) (cond_times (is_eq (term_cmp n (without v t.0))) t.1 (int_pow z (exponent v t.0))) (amount-parts z ts)
      ∙ sym (at_number-add_at (exponent v t.0) (part t) (parts ts) z)

  root_of_parts : (z : ℤ) (p : Summands) → specialised v z p ≡ [] → at_number (parts p) z ≡ pos 0
  root_of_parts z p e =
      sym (amount-parts z p) ∙ sym (amount-canonical term_cmp coefficients term_order coefficients_add n (map (specialised_term v z) p))
      ∙ ap (amount term_cmp coefficients n) e

-- a monomial is told by its exponent of v and its other powers
same_monomial : (v : Var) (m n : Powers) → IsCanonical var_cmp exponents m → IsCanonical var_cmp exponents n → without v m ≡ without v n → exponent v m ≡ exponent v n → m ≡ n
same_monomial v m n h g rest e = same_list var_cmp exponents var_order exponents_add m n h g (λ w. go w (var_cmp w v) refl)
  where
    go : (w : Var) (o : Ordering) → var_cmp w v ≡ o → exponent w m ≡ exponent w n
    go w Less f = let n' : var_cmp w v ≡ Equal → ⊥ = λ q. let f' : Less ≡ Equal = sym f ∙ q in cc in sym (exponent-without_other v w m n') ∙ ap (exponent w) rest ∙ exponent-without_other v w n n'
    go w Greater f = let n' : var_cmp w v ≡ Equal → ⊥ = λ q. let f' : Greater ≡ Equal = sym f ∙ q in cc in
        sym (exponent-without_other v w m n') ∙ ap (exponent w) rest ∙ exponent-without_other v w n n'
    go w Equal f = subst (λ (u : Var). exponent u m ≡ exponent u n) (sym (var_order.exact w v f)) e

-- no later term has the same place
no_other : (v : Var) (m : Powers) (ts : Summands) → IsCanonical var_cmp exponents m → AllKeys (IsCanonical var_cmp exponents) ts → IsBefore term_cmp m ts → get_or (parts (without v m) v ts) (exponent v m) (pos 0) ≡ pos 0
no_other v m [] h g b = refl
no_other v m (t ∷ ts) h g b = go (eqb (exponent v t.0) (exponent v m)) refl (no_other v m ts h g.1 b.1)
  where
    n : Powers
    n = without v m

    different : exponent v t.0 ≡ exponent v m → (o : Ordering) → term_cmp (without v m) (without v t.0) ≡ o → cond (is_eq o) t.1 (pos 0) ≡ pos 0
    different e Less f = refl
    different e Greater f = refl
    different e Equal f =
        let same : m ≡ t.0 = same_monomial v m t.0 h g.0 (term_order.exact (without v m) (without v t.0) f) (sym e) in
        let twice : Less ≡ Equal = sym b.0 ∙ ap (λ (k : Powers). term_cmp m k) (sym same) ∙ term_order.self m in
        absurd (cc)

    go : (z : Bool) → eqb (exponent v t.0) (exponent v m) ≡ z → get_or (parts (without v m) v ts) (exponent v m) (pos 0) ≡ pos 0
        → get_or (add_at (exponent v t.0) (part (without v m) v t) (parts (without v m) v ts)) (exponent v m) (pos 0) ≡ pos 0
    go false f rest =
        let other : exponent v t.0 ≡ exponent v m → ⊥ = λ e. absurd (grind (arith, nat_tests)) in
        add_at_other (exponent v t.0) (exponent v m) (part (without v m) v t) (parts (without v m) v ts) other ∙ rest
    go true f rest =
        let e : exponent v t.0 ≡ exponent v m = grind (arith, nat_tests) in
        ap (λ (j : ℕ). get_or (add_at (exponent v t.0) (part (without v m) v t) (parts (without v m) v ts)) j (pos 0)) (sym e)
        ∙ add_at_same (exponent v t.0) (part (without v m) v t) (parts (without v m) v ts)
        ∙ ap₂ (λ a b. a +ℤ b) (different e (term_cmp (without v m) (without v t.0)) refl) (ap (λ (j : ℕ). get_or (parts (without v m) v ts) j (pos 0)) e ∙ rest)

-- the first coefficient stands at its place
first_part : (v : Var) (t : Powers × ℤ) (ts : Summands) → IsCollected (t ∷ ts) → get_or (parts (without v t.0) v (t ∷ ts)) (exponent v t.0) (pos 0) ≡ t.1
first_part v t ts h =
    add_at_same (exponent v t.0) (part (without v t.0) v t) (parts (without v t.0) v ts)
    ∙ ap₂ (λ a b. a +ℤ b) (ap (λ (o : Ordering). cond (is_eq o) t.1 (pos 0)) (term_order.self (without v t.0))) (no_other v t.0 ts h.monomials.0 h.monomials.1 h.in_order.1)
    ∙ (let add_zero : t.1 +ℤ pos 0 ≡ t.1 = omega (arith, ints) in add_zero)

-- zs are numbers at which p becomes zero
abbrev pub AreZeros : Var → Summands → List ℤ → Type 0
AreZeros v p [] = Unit {0}
AreZeros v p (z ∷ zs) = (specialised v z p ≡ []) × AreZeros v p zs

roots_of_zeros : (n : Powers) (v : Var) (p : Summands) (zs : List ℤ) → AreZeros v p zs → AreRoots (parts n v p) zs
roots_of_zeros n v p [] h = tt
roots_of_zeros n v p (z ∷ zs) h = (root_of_parts n v z p h.0, roots_of_zeros n v p zs h.1)

-- THE ROOT BOUND
pub zeros_are_few : (v : Var) (p : Summands) (zs : List ℤ) → IsCollected p → (p ≡ [] → ⊥) → AreApart zs → AreZeros v p zs → length zs ≤ degree_in v p
zeros_are_few v [] zs h n apart zeros = absurd (n refl)
zeros_are_few v (t ∷ ts) zs h n apart zeros = go (ltb (degree_in v (t ∷ ts)) (length zs)) refl
  where
    go : (b : Bool) → ltb (degree_in v (t ∷ ts)) (length zs) ≡ b → length zs ≤ degree_in v (t ∷ ts)
    go false e = grind (arith, nat_tests)
    go true e =
        let more : degree_in v (t ∷ ts) < length zs = grind (arith, nat_tests) in
        let null : AllNull (parts (without v t.0) v (t ∷ ts)) =
        AllNull-from_roots zs (parts (without v t.0) v (t ∷ ts)) (omega (arith, more, length-parts-le (without v t.0) v (t ∷ ts))) apart (roots_of_zeros (without v t.0) v (t ∷ ts) zs zeros) in
        let nothing : t.1 ≡ pos 0 = sym (first_part v t ts h) ∙ get_or-null (parts (without v t.0) v (t ∷ ts)) (exponent v t.0) null in
        let is_zero : eqb (unsigned_abs t.1) 0 ≡ true = ap (λ (z : ℤ). eqb (unsigned_abs z) 0) nothing in
        let contradiction : true ≡ false = sym is_zero ∙ h.in_order.0 in
        absurd (cc)
