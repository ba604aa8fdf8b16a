-- A polynomial that is not 0 has a factor, and is cut by it where it is not 1.
use Rattle.std.proofs.Common.{◌≡◌, ◌≢◌, ℕ, zero, suc, ◌%◌, ◌+◌, ◌^◌, eqb, Bool, true, false, cond, ◌<◌, ◌≤◌, ◌⊎◌, inl, inr, ⊎_elim}
use Rattle.std.proofs.Common.{Contains, unsigned_abs, ℤ, pos, negsuc, neg_ℤ, List, [], ◌∷◌, length, refl, subst, arith}
use Rattle.std.specs.Int.{◌∣◌, IsGcd}
use Rattle.std.proofs.Math.Nat.{mod-lt}
use Rattle.std.proofs.lemmas.Nat.Gcd.{IsGcd-from_mod, IsGcd-from_zero, dvd-zero, dvd_trans, le_of_dvd}
use Rattle.std.proofs.lemmas.List.Elements.{All-cons, All-head, All-nil, All-tail, All-weaker}
use Rattle.geo_poly.specs.declared.variables.Var.{Var}
use Rattle.geo_poly.specs.Factors.{DividesAll, IsFactor, IsFactorOf}
use Rattle.geo_poly.specs.Monomials.{Powers, IsMonomial, exponents}
use Rattle.geo_poly.specs.Polynomials.{IsPolynomial, Summands, norm_of}
use Rattle.geo_poly.proofs.Cuts.{IsAbove-first, IsMonomial-reduced, common_exponent, Contains-from_is_in, is_in, known_in_reduced, least_of, other_in_reduced, reduced}
use Rattle.std.proofs.lemmas.Int.{ints}
use Rattle.std.proofs.lemmas.Bool.Decides.{nat_tests}
use Rattle.std.proofs.lemmas.List.Sums.{sum_by-cons}
use Rattle.sparse_lists.specs.SparseLists.{AllKeys, put}
use Rattle.geo_poly.proofs.FactorDivision.{factor_quotient}
use Rattle.geo_poly.specs.Cuts.{IsCut}
use Rattle.geo_logs.specs.Defined.{IsCutDue, NoCutDue}
use Rattle.geo_poly.proofs.SignedContent.{IsFactor-signed, IsFactorOf-signed, IsSigned}

-- GREATEST COMMON DIVISORS
gcd_exists : (fuel a b : ℕ) → b ≤ fuel → (g : ℕ) × IsGcd a b g
gcd_exists zero a b h = (a, IsGcd-from_zero a b (omega (arith, h)))
gcd_exists (suc fuel) a zero h = (a, IsGcd-from_zero a 0 refl)
gcd_exists (suc fuel) a (suc b) h =
    let less : a % suc b < suc b = mod-lt a (omega arith) in
    let g = gcd_exists fuel (suc b) (a % suc b) (omega (arith, h, less)) in (g.0, IsGcd-from_mod a (suc b) g.0 g.1)

-- the greatest divisor of all coefficients
pub record HasContent (p : Summands) : Type 0 where
  pub content : ℕ
  pub divides : DividesAll content p
  pub greatest : (d : ℕ) → DividesAll d p → d ∣ content

content_of : (p : Summands) → HasContent p
content_of [] = record { content = 0; divides = All-nil (λ t. 0 ∣ unsigned_abs t.1); greatest = λ d h. dvd-zero d }
content_of (t ∷ ts) =
    let rest = content_of ts in
    let g = gcd_exists rest.content (unsigned_abs t.1) rest.content (omega arith) in
    record {
      content = g.0;
      divides = All-cons (λ (u : Powers × ℤ). g.0 ∣ unsigned_abs u.1) t ts g.1.0
          (All-weaker (λ (u : Powers × ℤ). rest.content ∣ unsigned_abs u.1) (λ (u : Powers × ℤ). g.0 ∣ unsigned_abs u.1) (λ u d. dvd_trans g.0 g.1.1 d) ts rest.divides);
      greatest = λ d h. g.1.2 d (All-head (λ (u : Powers × ℤ). d ∣ unsigned_abs u.1) t ts h) (rest.greatest d (All-tail (λ (u : Powers × ℤ). d ∣ unsigned_abs u.1) t ts h));
    }

-- FACTORS
-- a size with the sign of another number
signed : (c : ℤ) (g : ℕ) → (z : ℤ) × IsSigned c (pos g) z
signed (pos n) g = (pos g, record { choice = inr (λ h. omega (arith, ints, h), refl) })
signed (negsuc n) g = (neg_ℤ (pos g), record { choice = inl (omega (arith, ints), refl) })

keys_of_put : (P : Var → Type 0) (v : Var) (k : ℕ) (m : Powers) → P v → AllKeys P m → AllKeys P (put exponents v k m)
keys_of_put P v k m h rest = go (eqb k 0)
  where
    go : (b : Bool) → AllKeys P (cond b m ((v, k) ∷ m))
    go true = rest
    go false = (h, rest)

keys_known : (known : List Var) (p : Summands) (m : Powers) → AllKeys (λ v. Contains known v) (reduced (common_exponent known p) m)
keys_known known p [] = tt
keys_known known p (u ∷ m) = go (is_in known u.0) refl (keys_known known p m)
  where
    go : (b : Bool) → is_in known u.0 ≡ b → AllKeys (λ v. Contains known v) (reduced (common_exponent known p) m)
        → AllKeys (λ v. Contains known v) (put exponents u.0 (cond b (least_of u.0 p) 0) (reduced (common_exponent known p) m))
    go true e rest = keys_of_put (λ v. Contains known v) u.0 (least_of u.0 p) (reduced (common_exponent known p) m) (Contains-from_is_in known u.0 e) rest
    go false e rest = rest

-- the factor of a polynomial, and that it may be cut by
pub record HasFactor (known : List Var) (q : Summands) : Type 0 where
  pub factor : Powers × ℤ
  pub is : IsFactorOf known q factor
  pub fits : IsFactor factor
  pub by_known : AllKeys (λ v. Contains known v) factor.0

factor_exists : (known : List Var) (t : Powers × ℤ) (ts : Summands) → IsPolynomial (t ∷ ts) → HasFactor known (t ∷ ts)
factor_exists known t ts h =
    let p : Summands = t ∷ ts in
    let some : 0 < length p = omega arith in
    let c = content_of p in
    let z = signed t.1 c.content in
    let monomial : IsMonomial t.0 = h.monomials.0 in
    let m = reduced (common_exponent known p) t.0 in
    let valid = IsMonomial-reduced (common_exponent known p) t.0 monomial (IsAbove-first known p t some refl monomial) in
    let divides : DividesAll c.content p = c.divides in
    let size : 0 < unsigned_abs t.1 = let e : eqb (unsigned_abs t.1) 0 ≡ false = h.in_order.0 in grind (arith, nat_tests) in
    let small : c.content ≤ unsigned_abs t.1 = le_of_dvd size (All-head (λ (u : Powers × ℤ). c.content ∣ unsigned_abs u.1) t ts divides) in
    let sum : norm_of p ≡ unsigned_abs t.1 + norm_of ts = sum_by-cons (λ (u : Powers × ℤ). unsigned_abs u.1) t ts in
    let fits : c.content < 2 ^ 127 = let n = h.norm_fits in omega (arith, small, sum, n) in
    record {
      factor = (m, z.0);
      is = IsFactorOf-signed known p m (pos c.content) z.0 h some refl divides c.greatest z.1 valid
          (λ v k. known_in_reduced known p t v some refl monomial k) (λ v k. other_in_reduced known p t v some refl monomial k);
      fits = IsFactor-signed p m (pos c.content) z.0 h some divides fits z.1 valid;
      by_known = keys_known known p t.0;
    }

-- CUTS
is_one : (f : Powers × ℤ) → (f ≡ ([], pos 1)) ⊎ (f ≢ ([], pos 1))
is_one ([], pos (suc zero)) = inl refl
is_one ([], pos zero) = inr (λ e. let n : pos 0 ≡ pos 1 = λ i. (e i).1 in omega (arith, ints, n))
is_one ([], pos (suc (suc k))) = inr (λ e. let n : pos (suc (suc k)) ≡ pos 1 = λ i. (e i).1 in omega (arith, ints, n))
is_one ([], negsuc k) = inr (λ e. let n : negsuc k ≡ pos 1 = λ i. (e i).1 in omega (arith, ints, n))
is_one (u ∷ m, z) = inr (λ e. let n : ◌≡◌ {A = Powers} (u ∷ m) [] = λ i. (e i).0 in cc)

-- a cut is due, or none is
pub cut_or_none : (known : List Var) (q : Summands) → IsPolynomial q → NoCutDue known q ⊎ ((f : Powers × ℤ) × (r : Summands) × IsCutDue known q f × IsCut known f q r)
cut_or_none known [] h = inl (λ n. absurd (n refl))
cut_or_none known (t ∷ ts) h =
    let q : Summands = t ∷ ts in
    let some : q ≢ [] = λ e. let n : ◌≡◌ {A = Summands} (t ∷ ts) [] = e in cc in
    let f = factor_exists known t ts h in
    let r = factor_quotient known q f.factor h some f.is in
    ⊎_elim (λ (e : f.factor ≡ ([], pos 1)). inl (λ n. subst (λ g. IsFactorOf known q g) e f.is))
    (λ (e : f.factor ≢ ([], pos 1)).
    inr (f.factor, r.0, record { nonzero = some; factor = f.is; divides = e }, record { factor = f.fits; by_known = f.by_known; polynomial = r.1; exact = r.2 })) (is_one f.factor)
