-- A replacement multiplies the value by a power of the denominator.
use Rattle.std.proofs.Common.{◌≡◌, ℕ, zero as zeroₙ, suc, ◌+◌ as ◌+ₙ◌, ◌*◌ as ◌*ₙ◌, ◌-◌ as ◌-ₙ◌, ◌≤◌, Bool, true, false, cond, ℤ, pos, Option, Some, None, List, [], ◌∷◌, refl, subst, sym, arith}
use Rattle.std.specs.Ordering.{is_eq}
use Rattle.std.specs.declared.cmp.Ordering.{Ordering}
use Rattle.std.specs.declared.cmp.Ordering.TheVariants.{Less, Equal, Greater}
use Rattle.ring_laws.specs.Ring.{Ring}
use Rattle.ring_laws.specs.Solver.{variable, ◌⊠◌, entry_at}
use Rattle.ring_laws.specs.Powers.{power}
use Rattle.ring_laws.proofs.Laws as Laws
use Rattle.ring_laws.proofs.Sound.{agree}
use Rattle.ring_laws.proofs.Powers.{power-add, power-times, power-power, power-same}
use Rattle.geo_poly.specs.declared.variables.Var.{Var}
use Rattle.geo_poly.specs.declared.rows.Row.{Row}
use Rattle.geo_poly.specs.Variables.{var_cmp}
use Rattle.geo_poly.specs.Monomials.{Powers}
use Rattle.geo_poly.specs.Polynomials.{Summands, constant_of, product_of}
use Rattle.geo_poly.specs.Values.{integer, monomial_value, value}
use Rattle.ring_laws.proofs.Fractions.{fractions}
use Rattle.ring_laws.specs.Fraction.{Fraction}
use Rattle.geo_poly.specs.ReplacementLaws.{ReplacementHasTheValue, RowsTell}
use Rattle.geo_poly.specs.Replace.{row_of, power_in, denominators, most_denominators, kept, others, power_of}
use Rattle.geo_poly.specs.Replace.{numerator_power, numerators, replaced_term, replaced_terms, replaced_by}
use Rattle.geo_poly.proofs.Orders.{var_order}
use Rattle.geo_poly.proofs.Values.{value-append, value-polynomial_of, value-product_of}

module _ (R : Ring) (x : Var → R.carrier) where
  open R use {carrier, same as ◌≈◌, add as ◌+◌, mul as ◌*◌, neg, zero, one}

  infix 4 ◌≈◌
  infixl 6 ◌+◌
  infixl 7 ◌*◌
  infixr 3 ◌∘◌
  ◌∘◌ : {a b c : carrier} → a ≈ b → b ≈ c → a ≈ c
  ◌∘◌ p q = R.same_trans _ _ _ p q

  flip : {a b : carrier} → a ≈ b → b ≈ a
  flip p = R.same_sym _ _ p

  self : {a : carrier} → a ≈ a
  self {a} = R.same_refl a

  times : {a b c d : carrier} → a ≈ b → c ≈ d → a * c ≈ b * d
  times p q = R.mul-same _ _ _ _ p q

  val : Summands → carrier
  val = value R x

  value-one : value R x (constant_of (pos 1)) ≈ one
  value-one = R.add-zero _ ∘ R.mul-one _ ∘ Laws.zero-add R one

  value-power_of : (q : Summands) (n : ℕ) → value R x (power_of q n) ≈ power R (value R x q) n
  value-power_of q zeroₙ = value-one
  value-power_of q (suc n) =
      value-product_of R x q (power_of q n) ∘ R.mul_comm (value R x q) (value R x (power_of q n)) ∘ times (value-power_of q n) self

  -- each row tells the value of its variable, over the denominator
  abbrev pub RowsHold : carrier → List Row → Type 0
  RowsHold d [] = Unit {0}
  RowsHold d (r ∷ rs) = (x r.var * power R d r.power ≈ value R x r.num.poly) × RowsHold d rs

  module _ (exact : (v w : Var) → is_eq (var_cmp v w) ≡ true → v ≡ w) (d : carrier) where
    -- what the row of a variable says
    row_holds : (rows : List Row) (v : Var) → RowsHold d rows → (r : Row) → row_of rows v ≡ Some r → x v * power R d r.power ≈ value R x r.num.poly
    row_holds [] v h r e = absurd (let q : ◌≡◌ {A = Option Row} None (Some r) = e in cc)
    row_holds (s ∷ rows) v h r e = go (is_eq (var_cmp s.var v)) refl e (row_holds rows v h.1 r)
      where
        go : (b : Bool) → is_eq (var_cmp s.var v) ≡ b → cond b (Some s) (row_of rows v) ≡ Some r
            → (row_of rows v ≡ Some r → x v * power R d r.power ≈ value R x r.num.poly) → x v * power R d r.power ≈ value R x r.num.poly
        go true b e rest =
            let which : s ≡ r = cc in
            subst (λ (r : Row). x v * power R d r.power ≈ value R x r.num.poly) which
            (subst (λ (w : Var). x w * power R d s.power ≈ value R x s.num.poly) (exact s.var v b) h.0)
        go false b e rest = rest e

    -- a replaced power times its denominators is its numerator to the exponent
    one_row : (v : Var) (r : Row) (n : ℕ) → x v * power R d r.power ≈ value R x r.num.poly → power R (x v) n * power R d (r.power *ₙ n) ≈ power R (value R x r.num.poly) n
    one_row v r n h = times self (flip (power-power R d r.power n)) ∘ flip (power-times R (x v) (power R d r.power) n) ∘ power-same R _ _ n h

    row_value : Option Row → ℕ → carrier
    row_value None n = one
    row_value (Some r) n = power R (value R x r.num.poly) n

    rows_value : List Row → Powers → carrier
    rows_value rows [] = one
    rows_value rows (v ∷ m) = row_value (row_of rows v.0) v.1 * rows_value rows m

    value-numerator_power : (o : Option Row) (n : ℕ) → value R x (numerator_power o n) ≈ row_value o n
    unfolding row_value
    value-numerator_power None n = value-one
    value-numerator_power (Some r) n = value-power_of r.num.poly n

    value-numerators : (rows : List Row) (m : Powers) → value R x (numerators rows m) ≈ rows_value rows m
    unfolding rows_value
    value-numerators rows [] = value-one
    value-numerators rows (v ∷ m) =
        value-product_of R x (numerator_power (row_of rows v.0) v.1) (numerators rows m)
        ∘ times (value-numerator_power (row_of rows v.0) v.1) (value-numerators rows m)

    -- the other variables and the numerators are the monomial and its denominators
    value-others : (rows : List Row) (m : Powers) → RowsHold d rows → monomial_value R x (others rows m) * rows_value rows m ≈ monomial_value R x m * power R d (denominators rows m)
    unfolding rows_value row_value
    value-others rows [] h = self
    value-others rows (v ∷ m) h = go (row_of rows v.0) refl (value-others rows m h)
      where
        go : (o : Option Row) → row_of rows v.0 ≡ o
            → monomial_value R x (others rows m) * rows_value rows m ≈ monomial_value R x m * power R d (denominators rows m)
            → monomial_value R x (kept o v (others rows m)) * (row_value o v.1 * rows_value rows m)
            ≈ power R (x v.0) v.1 * monomial_value R x m * power R d (power_in o *ₙ v.1 +ₙ denominators rows m)
        go None o rest =
            let a = variable 0 in let b = variable 1 in let c = variable 2 in
            let none : 0 *ₙ v.1 +ₙ denominators rows m ≡ denominators rows m = omega arith in
            subst (λ k. power R (x v.0) v.1 * monomial_value R x (others rows m) * (one * rows_value rows m) ≈ power R (x v.0) v.1 * monomial_value R x m * power R d k) (sym none)
            (times self (R.mul_comm one (rows_value rows m) ∘ R.mul-one (rows_value rows m))
            ∘ R.mul_assoc (power R (x v.0) v.1) (monomial_value R x (others rows m)) (rows_value rows m) ∘ times self rest
            ∘ flip (R.mul_assoc (power R (x v.0) v.1) (monomial_value R x m) (power R d (denominators rows m))))
        go (Some r) o rest =
            let a = variable 0 in let b = variable 1 in let c = variable 2 in let e = variable 3 in
            let p = power R (x v.0) v.1 in
            let n = power R (value R x r.num.poly) v.1 in
            let k = power R d (r.power *ₙ v.1) in
            agree R (entry_at R (monomial_value R x (others rows m) ∷ n ∷ rows_value rows m ∷ [])) (a ⊠ (b ⊠ c)) (b ⊠ (a ⊠ c)) tt
            ∘ times (flip (one_row v.0 r v.1 (row_holds rows v.0 h r o))) rest
            ∘ agree R (entry_at R (p ∷ k ∷ monomial_value R x m ∷ power R d (denominators rows m) ∷ [])) (a ⊠ b ⊠ (c ⊠ e)) (a ⊠ c ⊠ (b ⊠ e)) tt
            ∘ times self (flip (power-add R d (r.power *ₙ v.1) (denominators rows m)))

    value-replaced_term : (rows : List Row) (den : Summands) (top : ℕ) (t : Powers × ℤ) → RowsHold d rows → value R x den ≈ d → denominators rows t.0 ≤ top
        → value R x (replaced_term rows den top t) ≈ (integer R t.1 * monomial_value R x t.0) * power R d top
    value-replaced_term rows den top t h den-is le =
        let a = variable 0 in let b = variable 1 in let c = variable 2 in let e = variable 3 in
        let k = denominators rows t.0 in
        let i = integer R t.1 in
        let m = monomial_value R x t.0 in
        let o = monomial_value R x (others rows t.0) in
        let n = rows_value rows t.0 in
        let start : Summands = (others rows t.0, t.1) ∷ [] in
        let all : k +ₙ (top -ₙ k) ≡ top = omega (arith, le) in
        value-product_of R x (product_of start (numerators rows t.0)) (power_of den (top -ₙ k))
        ∘ times (value-product_of R x start (numerators rows t.0) ∘ times (R.add-zero (i * o)) (value-numerators rows t.0) ∘ R.mul_assoc i o n
        ∘ times self (value-others rows t.0 h)) (value-power_of den (top -ₙ k) ∘ power-same R _ _ (top -ₙ k) den-is)
        ∘ agree R (entry_at R (i ∷ m ∷ power R d k ∷ power R d (top -ₙ k) ∷ [])) (a ⊠ (b ⊠ c) ⊠ e) (a ⊠ b ⊠ (c ⊠ e)) tt
        ∘ times self (flip (power-add R d k (top -ₙ k)) ∘ subst (λ j. power R d j ≈ power R d top) (sym all) self)

    value-replaced_terms : (rows : List Row) (den : Summands) (top : ℕ) (p : Summands) → RowsHold d rows → value R x den ≈ d → most_denominators rows p ≤ top
        → value R x (replaced_terms rows den top p) ≈ value R x p * power R d top
    value-replaced_terms rows den top [] h den-is le = flip (R.mul_comm zero (power R d top) ∘ Laws.mul-zero R (power R d top))
    value-replaced_terms rows den top (t ∷ ts) h den-is le =
        value-append R x (replaced_term rows den top t) (replaced_terms rows den top ts)
        ∘ R.add-same _ _ _ _ (value-replaced_term rows den top t h den-is (omega (arith, le))) (value-replaced_terms rows den top ts h den-is (omega (arith, le)))
        ∘ flip (Laws.add-mul R (integer R t.1 * monomial_value R x t.0) (value R x ts) (power R d top))

    -- THE LAW OF A MOVE
    pub value-replaced_by : (rows : List Row) (den p : Summands) → RowsHold d rows → value R x den ≈ d
        → value R x (replaced_by rows den p) ≈ value R x p * power R d (most_denominators rows p)
    value-replaced_by rows den p h den-is =
        let top = most_denominators rows p in
        value-polynomial_of R x (replaced_terms rows den top p) ∘ value-replaced_terms rows den top p h den-is (omega arith)

-- over fractions, with the value of the denominator for d
rows_hold : (x : Var → Fraction) (d : Fraction) (rows : List Row) → RowsTell x d rows → RowsHold fractions x d rows
rows_hold x d [] h = tt
rows_hold x d (r ∷ rs) h = (h.0, rows_hold x d rs h.1)

pub replacement_value : ReplacementHasTheValue
replacement_value x rows den p h =
    value-replaced_by fractions x (λ v w e. var_order.exact v w (equal (var_cmp v w) e)) (value fractions x den) rows den p
    (rows_hold x (value fractions x den) rows h) (fractions.same_refl (value fractions x den))
  where
    equal : (o : Ordering) → is_eq o ≡ true → o ≡ Equal
    equal Equal e = refl
    equal Less e = absurd (cc)
    equal Greater e = absurd (cc)
