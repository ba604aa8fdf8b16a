-- Sizes of texts that grow.
use Rattle.std.proofs.Common.{◌≡◌, ℕ, ◌+◌, ◌≤◌, Option, List, [], ◌++◌, refl, sym, ap, subst, arith}
use Rattle.geo_base.proofs.DeviceLemmas.{Grows-append, Grows-nothing}
use Rattle.proof_log.specs.declared.log.Line.{Line}
use Rattle.proof_log.specs.Writable.{IsWritable}
use Rattle.geo_chain.specs.declared.size.Size.{Size}
use Rattle.geo_chain.specs.declared.size.Size.TheVariants.{Written, Counted, Bounded}
use Rattle.geo_chain.specs.Sizes.{Fits, HoldsText, IsPastLimit, IsSizeAfter, IsTakable, with_text}

pub with_both : (z : Size) (m n : ℕ) → with_text (with_text z m) n ≡ with_text z (m + n)
with_both (Written bytes) m n = ap (λ (k : ℕ). Written k) (let e : (bytes + m) + n ≡ bytes + (m + n) = omega arith in e)
with_both Counted m n = refl
with_both (Bounded bytes) m n = ap (λ (k : ℕ). Bounded k) (let e : (bytes + m) + n ≡ bytes + (m + n) = omega arith in e)

pub with_none : (z : Size) → with_text z 0 ≡ z
with_none (Written bytes) = ap (λ (k : ℕ). Written k) (let e : bytes + 0 ≡ bytes = omega arith in e)
with_none Counted = refl
with_none (Bounded bytes) = ap (λ (k : ℕ). Bounded k) (let e : bytes + 0 ≡ bytes = omega arith in e)

pub holds_nothing : (z : Size) (held : Option (List ℕ)) → HoldsText z held [] held
holds_nothing (Written bytes) held = Grows-nothing held
holds_nothing Counted held = refl
holds_nothing (Bounded bytes) held = refl

-- no text
pub size_none : (z : Size) → IsSizeAfter z 0 z
size_none (Written bytes) = sym (with_none (Written bytes))
size_none Counted = refl
size_none (Bounded bytes) = (bytes, refl, omega arith)

-- a text and then another
module _ (z : Size) (m : ℕ) (y : Size) (h : IsSizeAfter z m y) where
  pub size_more : (n : ℕ) (x : Size) → IsSizeAfter y n x → IsSizeAfter z (m + n) x
  size_more n x g = go z h
    where
      go : (k : Size) → IsSizeAfter k m y → IsSizeAfter k (m + n) x
      go (Written bytes) e =
          let f : x ≡ Written ((bytes + m) + n) = subst (λ (k : Size). IsSizeAfter k n x) e g in
          subst (λ (k : ℕ). x ≡ Written k) (let e : (bytes + m) + n ≡ bytes + (m + n) = omega arith in e) f
      go Counted e = subst (λ (k : Size). IsSizeAfter k n x) e g
      go (Bounded bytes) (bound, e, more) =
          let f : IsSizeAfter (Bounded bound) n x = subst (λ (k : Size). IsSizeAfter k n x) e g in
          let all = f.2 in (f.0, f.1, omega (arith, more, all))

  pub size_fits : (n : ℕ) → Fits (with_text y n) → Fits (with_text z (m + n))
  size_fits n g = go z h
    where
      go : (k : Size) → IsSizeAfter k m y → Fits (with_text k (m + n))
      go (Written bytes) e =
          let f : (bytes + m) + n ≤ 67108864 = subst (λ (k : Size). Fits (with_text k n)) e g in omega (arith, f)
      go Counted e = omega arith
      go (Bounded bytes) (bound, e, more) =
          let f : bound + n ≤ 67108864 = subst (λ (k : Size). Fits (with_text k n)) e g in omega (arith, more, f)

  pub size_past : (n : ℕ) → IsPastLimit (with_text y n) → IsPastLimit (with_text z (m + n))
  size_past n g = go z h
    where
      go : (k : Size) → IsSizeAfter k m y → IsPastLimit (with_text k (m + n))
      go (Written bytes) e =
          subst (λ (k : ℕ). IsPastLimit (Written k)) (let e : (bytes + m) + n ≡ bytes + (m + n) = omega arith in e)
          (subst (λ (k : Size). IsPastLimit (with_text k n)) e g)
      go Counted e = subst (λ (k : Size). IsPastLimit (with_text k n)) e g
      go (Bounded bytes) (bound, e, more) = subst (λ (k : Size). IsPastLimit (with_text k n)) e g

  pub size_holds : (a b d : Option (List ℕ)) (xs ys : List ℕ) → HoldsText z a xs b → HoldsText y b ys d → HoldsText z a (xs ++ ys) d
  size_holds a b d xs ys first g = go z h first
    where
      go : (k : Size) → IsSizeAfter k m y → HoldsText k a xs b → HoldsText k a (xs ++ ys) d
      go (Written bytes) e f = Grows-append a b d xs ys f (subst (λ (k : Size). HoldsText k b ys d) e g)
      go Counted e f =
          let e1 : d ≡ b = subst (λ (k : Size). HoldsText k b ys d) e g in let e2 : b ≡ a = f in cc
      go (Bounded bytes) (bound, e, more) f =
          let e1 : d ≡ b = subst (λ (k : Size). HoldsText k b ys d) e g in let e2 : b ≡ a = f in cc

  -- what may be taken does not change
  pub size_takes : (line : Line) → IsTakable z line → IsTakable y line
  size_takes line f = go z h f
    where
      go : (k : Size) → IsSizeAfter k m y → IsTakable k line → IsTakable y line
      go (Written bytes) e l = subst (λ (k : Size). IsTakable k line) (sym e) l
      go Counted e l = subst (λ (k : Size). IsTakable k line) (sym e) tt
      go (Bounded bytes) (bound, e, more) l = subst (λ (k : Size). IsTakable k line) (sym e) tt

pub takable_of : (z : Size) (line : Line) → IsWritable line → IsTakable z line
takable_of (Written bytes) line h = h
takable_of Counted line h = tt
takable_of (Bounded bytes) line h = tt

-- no more text is within the limit where some is
pub fits_none : (z : Size) → Fits z → Fits (with_text z 0)
fits_none z fits = subst Fits (sym (with_none z)) fits
