-- The triple of a position with the least denominator: the least common multiple of the denominators of its coordinates.
use Rattle.std.proofs.lemmas.Bool.{cases_lt}
use Rattle.std.proofs.Common.{◌≡◌, ℕ, zero, suc, ◌+◌, ◌*◌, ◌^◌, ◌<◌, ◌≤◌, Bool, true, false, ℤ, pos, negsuc, ◌*ℤ◌, unsigned_abs, ◌⊎◌, inl}
use Rattle.std.proofs.Common.{inr, ⊎_elim, [], ◌∷◌, refl, sym, ◌∙◌, ap, subst, mul-pos, arith}
use Rattle.std.specs.Prelude.{◌/◌, IfOk, IsErr, Result, Ok, Err}
use Rattle.frac_laws.specs.declared.frac.FracTooLarge.{FracTooLarge}
use Rattle.std.specs.Int.{◌∣◌, IsGcd}
use Rattle.std.proofs.lemmas.Nat.Gcd.{IsGcd-swap, le_of_dvd}
use Rattle.std.proofs.Math.Nat.{div-mul_cancel, dvd-mul_left, eq_of_mul-eq-mul_right, mul_comm, mul_assoc, le_antisymm}
use Rattle.ring_laws.specs.Solver.{variable, ◌⊠◌, opposite, entry_at, given}
use Rattle.ring_laws.proofs.Combination.{by_combination}
use Rattle.ring_laws.proofs.Fractions.{cancel}
use Rattle.ring_laws.proofs.Integers.{integers}
use Rattle.ring_laws.proofs.Sound.{agree}
use Rattle.frac_laws.specs.Lowest.{IsLowest, IsPast, signed_by}
use Rattle.frac_laws.proofs.Coprime.{divided, divisor_some, euclid, quotient_some, scaled}
use Rattle.frac_laws.proofs.LowestTerms.{denominator_divides}
use Rattle.geo_points.specs.Placements.{SamePoint}
use Rattle.geo_points.specs.Points.{Point}
use Rattle.geo_points.proofs.Same.{flip_point, point_trans}
use Rattle.geo_place.specs.declared.positions.Position.{Position}
use Rattle.geo_place.specs.declared.triples.Triple.{Triple}
use Rattle.geo_place.specs.Evaluation.{IsLeast, IsTriplePast}
use Rattle.geo_place.specs.Inner.{IsTripleOf, point_at}

-- with g the greatest common divisor of b and d, b (d / g) divides all that both divide
common_multiple : (b d g n : ℕ) → 0 < g → IsGcd b d g → b ∣ n → d ∣ n → b * (d / g) ∣ n
common_multiple b d g n some h p q =
    let u = d / g in let v = b / g in let s = n / b in let t = n / d in
    let bs : s * b ≡ n = div-mul_cancel b p in
    let dt : t * d ≡ n = div-mul_cancel d q in
    let vg : v * g ≡ b = div-mul_cancel g h.0 in
    let ug : u * g ≡ d = div-mul_cancel g h.1 in
    let same : t * u * g ≡ v * s * g =
    (let a : t * u * g ≡ t * (u * g) = mul_assoc t u g in let c : s * v * g ≡ s * (v * g) = mul_assoc s v g in
    a ∙ ap (λ (i : ℕ). t * i) ug ∙ dt ∙ sym bs ∙ ap (λ (i : ℕ). s * i) (sym vg) ∙ sym c ∙ ap (λ (i : ℕ). i * g) (mul_comm s v)) in
    let e : t * u ≡ v * s = eq_of_mul-eq-mul_right g some (t * u) (v * s) same in
    let k : u ∣ s = euclid u v s (IsGcd-swap v u 1 (divided b d g some h)) (subst (λ (i : ℕ). u ∣ i) e (dvd-mul_left u t)) in
    let w : s / u * u ≡ s = div-mul_cancel u k in
    let all : s / u * (b * u) ≡ n = ap (λ (i : ℕ). s / u * i) (mul_comm b u) ∙ sym (mul_assoc (s / u) u b) ∙ ap (λ (i : ℕ). i * b) w ∙ bs in
    subst (λ (i : ℕ). b * u ∣ i) all (dvd-mul_left (b * u) (s / u))

-- LOWEST TERMS
-- some lowest terms of x / w
pub record LowestTerms (x : ℤ) (w : ℕ) : Type 0 where
  pub top : ℤ
  pub bottom : ℕ
  pub positive : 0 < bottom
  pub lowest : IsLowest top bottom
  pub same : top *ℤ pos w ≡ x *ℤ pos bottom

-- there is a greatest common divisor
pub divisor_exists : (a b : ℕ) → (g : ℕ) × IsGcd a b g
divisor_exists a b = let s = scaled (a + b) a b 1 (omega arith) in (s.divisor, s.greatest)

signed_times : (b : Bool) (n g : ℕ) → signed_by b n *ℤ pos g ≡ signed_by b (n * g)
signed_times true n g = agree integers (entry_at integers (pos n ∷ pos g ∷ [])) (opposite (variable 0) ⊠ variable 1) (opposite (variable 0 ⊠ variable 1)) tt
signed_times false n g = refl

size_of : (b : Bool) (n : ℕ) → unsigned_abs (signed_by b n) ≡ n
size_of true zero = refl
size_of true (suc n) = refl
size_of false n = refl

lowest_of : (b : Bool) (n w : ℕ) → 0 < w → LowestTerms (signed_by b n) w
lowest_of b n w some =
    let d = divisor_exists n w in
    let g = d.0 in
    let gs : 0 < g = divisor_some g w some d.1.1 in
    let ng : n / g * g ≡ n = div-mul_cancel g d.1.0 in
    let wg : w / g * g ≡ w = div-mul_cancel g d.1.1 in
    let a = signed_by b (n / g) in
    let back : a *ℤ pos g ≡ signed_by b n = signed_times b (n / g) g ∙ ap (λ (i : ℕ). signed_by b i) ng in
    record {
      top = a;
      bottom = w / g;
      positive = quotient_some g w some d.1.1;
      lowest = subst (λ (i : ℕ). IsGcd i (w / g) 1) (sym (size_of b (n / g))) (divided n w g gs d.1);
      same = ap (λ (i : ℕ). a *ℤ pos i) (sym wg)
          ∙ agree integers (entry_at integers (a ∷ pos (w / g) ∷ pos g ∷ [])) (variable 0 ⊠ (variable 1 ⊠ variable 2)) (variable 0 ⊠ variable 2 ⊠ variable 1) tt
          ∙ ap (λ (z : ℤ). z *ℤ pos (w / g)) back;
    }

pub lowest_terms : (x : ℤ) (w : ℕ) → 0 < w → LowestTerms x w
lowest_terms (pos n) w some = lowest_of false n w some
lowest_terms (negsuc n) w some = lowest_of true (suc n) w some

-- LEAST TRIPLES
-- of the point (a / B, c / D), both in lowest terms
module _ (a c : ℤ) (B D g : ℕ) (pB : 0 < B) (pD : 0 < D) (low_a : IsLowest a B) (low_c : IsLowest c D) (h : IsGcd B D g) where
  abbrev U : ℕ
  U = D / g

  abbrev V : ℕ
  V = B / g

  abbrev pub over_product : Point
  over_product = record { x = a *ℤ pos D; y = c *ℤ pos B; w = B * D; positive = mul-pos pB pD }

  some : 0 < g
  some = divisor_some g B pB h.0

  abbrev pub told : Point
  told = record { x = a *ℤ pos U; y = c *ℤ pos V; w = B * U; positive = mul-pos pB (quotient_some g D pD h.1) }

  cross : V * D ≡ B * U
  cross =
      let vg : V * g ≡ B = div-mul_cancel g h.0 in let ug : U * g ≡ D = div-mul_cancel g h.1 in
      ap (λ (i : ℕ). V * i) (sym ug ∙ mul_comm U g) ∙ sym (mul_assoc V g U) ∙ ap (λ (i : ℕ). i * U) vg

  pub told_same : SamePoint told over_product
  told_same =
      let v = variable in
      record {
        by_x = record { crossed = agree integers (entry_at integers (a ∷ pos U ∷ pos B ∷ pos D ∷ [])) (v 0 ⊠ v 1 ⊠ (v 2 ⊠ v 3)) (v 0 ⊠ v 3 ⊠ (v 2 ⊠ v 1)) tt };
        by_y = record {
          crossed = by_combination integers (entry_at integers (c ∷ pos U ∷ pos B ∷ pos D ∷ pos V ∷ [])) (given (v 0 ⊠ v 2) (v 4 ⊠ v 3) (v 2 ⊠ v 1) ∷ [])
              (v 0 ⊠ v 4 ⊠ (v 2 ⊠ v 3)) (v 0 ⊠ v 2 ⊠ (v 2 ⊠ v 1)) (ap pos cross, tt) tt;
        };
      }

  pub told_least : IsLeast told
  told_least = record {
    least = λ A s.
        let q = point_trans A told over_product s told_same in
        let v = variable in
        let x : a *ℤ pos A.w ≡ A.x *ℤ pos B = cancel (a *ℤ pos A.w) (A.x *ℤ pos B) D pD
        (agree integers (entry_at integers (a ∷ pos A.w ∷ pos D ∷ [])) (v 0 ⊠ v 1 ⊠ v 2) (v 0 ⊠ v 2 ⊠ v 1) tt ∙ sym q.by_x.crossed
        ∙ agree integers (entry_at integers (A.x ∷ pos B ∷ pos D ∷ [])) (v 0 ⊠ (v 1 ⊠ v 2)) (v 0 ⊠ v 1 ⊠ v 2) tt) in
        let y : c *ℤ pos A.w ≡ A.y *ℤ pos D = cancel (c *ℤ pos A.w) (A.y *ℤ pos D) B pB
        (agree integers (entry_at integers (c ∷ pos A.w ∷ pos B ∷ [])) (v 0 ⊠ v 1 ⊠ v 2) (v 0 ⊠ v 2 ⊠ v 1) tt ∙ sym q.by_y.crossed
        ∙ agree integers (entry_at integers (A.y ∷ pos B ∷ pos D ∷ [])) (v 0 ⊠ (v 1 ⊠ v 2)) (v 0 ⊠ v 2 ⊠ v 1) tt) in
        le_of_dvd A.positive (common_multiple B D g A.w some h (denominator_divides a A.x B A.w low_a x) (denominator_divides c A.y D A.w low_c y));
  }

-- each point has a least triple
pub least_exists : (A : Point) → (T : Point) × SamePoint T A × IsLeast T
least_exists A =
    let p = lowest_terms A.x A.w A.positive in
    let q = lowest_terms A.y A.w A.positive in
    let d = divisor_exists p.bottom q.bottom in
    let v = variable in
    let T = told p.top q.top p.bottom q.bottom d.0 p.positive q.positive p.lowest q.lowest d.1 in
    let O = over_product p.top q.top p.bottom q.bottom d.0 p.positive q.positive p.lowest q.lowest d.1 in
    let same : SamePoint O A = record {
      by_x = record {
        crossed = by_combination integers (entry_at integers (p.top ∷ pos p.bottom ∷ pos q.bottom ∷ pos A.w ∷ A.x ∷ [])) (given (v 2) (v 0 ⊠ v 3) (v 4 ⊠ v 1) ∷ [])
            (v 0 ⊠ v 2 ⊠ v 3) (v 4 ⊠ (v 1 ⊠ v 2)) (p.same, tt) tt;
      };
      by_y = record {
        crossed = by_combination integers (entry_at integers (q.top ∷ pos p.bottom ∷ pos q.bottom ∷ pos A.w ∷ A.y ∷ [])) (given (v 1) (v 0 ⊠ v 3) (v 4 ⊠ v 2) ∷ [])
            (v 0 ⊠ v 1 ⊠ v 3) (v 4 ⊠ (v 1 ⊠ v 2)) (q.same, tt) tt;
      };
    } in (
      T,
      point_trans T O A (told_same p.top q.top p.bottom q.bottom d.0 p.positive q.positive p.lowest q.lowest d.1) same,
      told_least p.top q.top p.bottom q.bottom d.0 p.positive q.positive p.lowest q.lowest d.1,
    )

-- and one alone
pub record SameTriple (S T : Point) : Type 0 where
  pub x : S.x ≡ T.x
  pub y : S.y ≡ T.y
  pub w : S.w ≡ T.w

pub least_once : (S T : Point) → IsLeast S → IsLeast T → SamePoint S T → SameTriple S T
least_once S T h k same =
    let w : S.w ≡ T.w = le_antisymm (h.least T (flip_point _ _ same)) (k.least S same) in
    record {
      x = cancel S.x T.x T.w T.positive (subst (λ (i : ℕ). S.x *ℤ pos T.w ≡ T.x *ℤ pos i) w same.by_x.crossed);
      y = cancel S.y T.y T.w T.positive (subst (λ (i : ℕ). S.y *ℤ pos T.w ≡ T.y *ℤ pos i) w same.by_y.crossed);
      w = w;
    }

-- POSITIONS
module _ (at : Position) (g : ℕ) (h : IsGcd (unsigned_abs at.x.den) (unsigned_abs at.y.den) g) where
  abbrev B' : ℕ
  B' = unsigned_abs at.x.den

  abbrev D' : ℕ
  D' = unsigned_abs at.y.den

  abbrev pub least_at : Point
  least_at = told at.x.num at.y.num B' D' g at.x.nonzero at.y.nonzero at.x.lowest at.y.lowest h

  least_at_least : IsLeast least_at
  least_at_least = told_least at.x.num at.y.num B' D' g at.x.nonzero at.y.nonzero at.x.lowest at.y.lowest h

  least_at_same : SamePoint least_at (point_at at)
  least_at_same =
      let s = told_same at.x.num at.y.num B' D' g at.x.nonzero at.y.nonzero at.x.lowest at.y.lowest h in
      record {
        by_x = record { crossed = subst (λ z. at.x.num *ℤ pos (D' / g) *ℤ pos (B' * D') ≡ at.x.num *ℤ z *ℤ pos (B' * (D' / g))) (sym at.y.positive) s.by_x.crossed };
        by_y = record { crossed = subst (λ z. at.y.num *ℤ pos (B' / g) *ℤ pos (B' * D') ≡ at.y.num *ℤ z *ℤ pos (B' * (D' / g))) (sym at.x.positive) s.by_y.crossed };
      }

  -- the triple that is made of the three products
  pub is_triple : (t : Triple) → t.x ≡ at.x.num *ℤ pos (D' / g) → t.y ≡ at.y.num *ℤ pos (B' / g) → t.w ≡ pos B' *ℤ pos (D' / g) → (IsPast t.x → ⊥) → (IsPast t.y → ⊥) → IsTripleOf t (point_at at)
  is_triple t a b c d e = record { told = least_at; x = a; y = b; w = c; least = least_at_least; same = least_at_same; short_x = not_past_fits t.x d; short_y = not_past_fits t.y e }
    where
      not_past_fits : (z : ℤ) → (IsPast z → ⊥) → unsigned_abs z < 2 ^ 127
      not_past_fits z h = ⊎_elim (λ (l : unsigned_abs z < 2 ^ 127). l) (λ (l : 2 ^ 127 ≤ unsigned_abs z). absurd (h l)) (cases_lt (unsigned_abs z) (2 ^ 127))

  pub is_past : IsPast (at.x.num *ℤ pos (D' / g)) ⊎ (IsPast (at.y.num *ℤ pos (B' / g)) ⊎ IsPast (pos B' *ℤ pos (D' / g))) → IsTriplePast (point_at at)
  is_past p = (least_at, least_at_least, least_at_same, p)

  pub not_past : (IsPast (at.x.num *ℤ pos (D' / g)) → ⊥) → (IsPast (at.y.num *ℤ pos (B' / g)) → ⊥) → (IsPast (pos B' *ℤ pos (D' / g)) → ⊥) → IsTriplePast (point_at at) → ⊥
  not_past a b c p =
      let T = p.0 in
      let s = least_once T least_at p.1 least_at_least (point_trans T (point_at at) least_at p.2 (flip_point _ _ least_at_same)) in
      ⊎_elim (λ q. a (subst IsPast s.x q))
      (λ (r : IsPast T.y ⊎ IsPast (pos T.w)). ⊎_elim (λ q. b (subst IsPast s.y q)) (λ q. c (subst (λ (i : ℕ). IsPast (pos i)) s.w q)) r) p.3

  abbrev Past : ℤ → ℤ → ℤ → Type 0
  Past x y w = IsPast x ⊎ (IsPast y ⊎ IsPast w)

  pub record Answers (r : Result Triple FracTooLarge) : Type 0 where
    pub triple : IfOk r (λ t. IsTripleOf t (point_at at))
    pub fits : IfOk r (λ t. IsTriplePast (point_at at) → ⊥)
    pub past : IsErr r → IsTriplePast (point_at at)

  -- what comes of the three products
  pub triple_result : (r : Result Triple FracTooLarge) (left right : ℤ) → left ≡ pos (D' / g) → right ≡ pos (B' / g)
      → IfOk r (λ t. (t.x ≡ at.x.num *ℤ left) × (t.y ≡ at.y.num *ℤ right) × (t.w ≡ at.x.den *ℤ left))
      → IfOk r (λ t. IsPast (at.x.num *ℤ left) ⊎ (IsPast (at.y.num *ℤ right) ⊎ IsPast (at.x.den *ℤ left)) → ⊥)
      → (IsErr r → IsPast (at.x.num *ℤ left) ⊎ (IsPast (at.y.num *ℤ right) ⊎ IsPast (at.x.den *ℤ left))) → Answers r
  triple_result r left right a b made fits past =
      let wide : at.x.den *ℤ left ≡ pos B' *ℤ pos (D' / g) = ap (λ (z : ℤ). z *ℤ left) at.x.positive ∙ ap (λ (z : ℤ). pos B' *ℤ z) a in
      let X : at.x.num *ℤ left ≡ at.x.num *ℤ pos (D' / g) = ap (λ (z : ℤ). at.x.num *ℤ z) a in
      let Y : at.y.num *ℤ right ≡ at.y.num *ℤ pos (B' / g) = ap (λ (z : ℤ). at.y.num *ℤ z) b in
      go r made fits past wide X Y
    where
      go : (r : Result Triple FracTooLarge) → IfOk r (λ t. (t.x ≡ at.x.num *ℤ left) × (t.y ≡ at.y.num *ℤ right) × (t.w ≡ at.x.den *ℤ left))
          → IfOk r (λ t. Past (at.x.num *ℤ left) (at.y.num *ℤ right) (at.x.den *ℤ left) → ⊥) → (IsErr r → Past (at.x.num *ℤ left) (at.y.num *ℤ right) (at.x.den *ℤ left))
          → at.x.den *ℤ left ≡ pos B' *ℤ pos (D' / g) → at.x.num *ℤ left ≡ at.x.num *ℤ pos (D' / g) → at.y.num *ℤ right ≡ at.y.num *ℤ pos (B' / g) → Answers r
      go (Ok t) made fits past wide X Y = record {
        triple = is_triple t (made.0 ∙ X) (made.1 ∙ Y) (made.2 ∙ wide) (λ q. fits (inl (subst IsPast made.0 q))) (λ q. fits (inr (inl (subst IsPast made.1 q))));
        fits = not_past (λ q. fits (inl (subst IsPast (sym X) q))) (λ q. fits (inr (inl (subst IsPast (sym Y) q)))) (λ q. fits (inr (inr (subst IsPast (sym wide) q))));
        past = λ q. let z : false ≡ true = q in cc;
      }
      go (Err e) made fits past wide X Y = record {
        triple = tt;
        fits = tt;
        past = λ q. is_past (⊎_elim (λ z. inl (subst IsPast X z))
            (λ (z : IsPast (at.y.num *ℤ right) ⊎ IsPast (at.x.den *ℤ left)). inr
            (⊎_elim (λ y. inl (subst IsPast Y y)) (λ y. inr (subst IsPast wide y)) z)) (past q));
      }

-- what comes of the products, at other numbers that are the same
abbrev pub Times : Result Triple FracTooLarge → ℤ → ℤ → ℤ → ℤ → ℤ → Type 0
Times r x y w left right =
    IfOk r (λ t. (t.x ≡ x *ℤ left) × (t.y ≡ y *ℤ right) × (t.w ≡ w *ℤ left))
    × IfOk r (λ t. IsPast (x *ℤ left) ⊎ (IsPast (y *ℤ right) ⊎ IsPast (w *ℤ left)) → ⊥)
    × (IsErr r → IsPast (x *ℤ left) ⊎ (IsPast (y *ℤ right) ⊎ IsPast (w *ℤ left)))

pub times_moved : (r : Result Triple FracTooLarge) (x x' y y' w w' l l' k k' : ℤ) → x ≡ x' → y ≡ y' → w ≡ w' → l ≡ l' → k ≡ k' → Times r x y w l k → Times r x' y' w' l' k'
times_moved r x x' y y' w w' l l' k k' a b c d e h =
    subst (λ (z : ℤ). Times r x' y' w' l' z) e
    (subst (λ (z : ℤ). Times r x' y' w' z k) d (subst (λ (z : ℤ). Times r x' y' z l k) c (subst (λ (z : ℤ). Times r x' z w l k) b (subst (λ (z : ℤ). Times r z y w l k) a h))))
