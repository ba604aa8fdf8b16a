-- The whole numbers are a ring.
use lib.IntN as IntN
use borrow.Author.Differences.{up, down, same_in, product_is, sum_is_lem}
use Rattle.std.proofs.Common.{◌≡◌, ◌+◌, ◌*◌, ℤ, pos, ◌+ℤ◌, ◌*ℤ◌, neg_ℤ, refl, sym, ◌∙◌, ap, ap₂, arith}
use Rattle.std.proofs.lemmas.Int.{ints}
use Rattle.ring_laws.specs.Ring.{Ring}

-- a whole number is read as `up` less `down`; these are the two parts of a product of three
up_triple : (a b c : ℤ) → up (a *ℤ b *ℤ c) ≡ (up a * up b + down a * down b) * up c + (up a * down b + down a * up b) * down c
up_triple a b c = (product_is (a *ℤ b) c).0 ∙ ap₂ (λ x y. x * up c + y * down c) (product_is a b).0 (product_is a b).1

down_triple : (a b c : ℤ) → down (a *ℤ b *ℤ c) ≡ (up a * up b + down a * down b) * down c + (up a * down b + down a * up b) * up c
down_triple a b c = (product_is (a *ℤ b) c).1 ∙ ap₂ (λ x y. x * down c + y * up c) (product_is a b).0 (product_is a b).1

pub mul_assoc : (a b c : ℤ) → a *ℤ b *ℤ c ≡ a *ℤ (b *ℤ c)
mul_assoc a b c =
    let right : a *ℤ (b *ℤ c) ≡ b *ℤ c *ℤ a = IntN.*ℤ_comm a (b *ℤ c) in
    same_in (a *ℤ b *ℤ c) (b *ℤ c *ℤ a) (omega (arith, up_triple a b c, down_triple a b c, up_triple b c a, down_triple b c a)) ∙ sym right

pub mul-add : (a b c : ℤ) → a *ℤ (b +ℤ c) ≡ a *ℤ b +ℤ a *ℤ c
mul-add a b c =
    same_in (a *ℤ (b +ℤ c)) (a *ℤ b +ℤ a *ℤ c)
    (omega (arith, product_is a (b +ℤ c), product_is a b, product_is a c, sum_is_lem (a *ℤ b) (a *ℤ c), ap (λ k. up a * k) (sum_is_lem b c), ap (λ k. down a * k) (sum_is_lem b c)))

-- the ring of the whole numbers, in which `same` is equality
abbrev pub integers : Ring
integers = record {
  carrier = ℤ;
  same = λ a b. a ≡ b;
  zero = pos 0;
  one = pos 1;
  add = ◌+ℤ◌;
  mul = ◌*ℤ◌;
  neg = neg_ℤ;
  same_refl = λ a. refl;
  same_sym = λ a b p. sym p;
  same_trans = λ a b c p q. p ∙ q;
  add-same = λ a b c d p q. ap₂ ◌+ℤ◌ p q;
  mul-same = λ a b c d p q. ap₂ ◌*ℤ◌ p q;
  neg-same = λ a b p. ap neg_ℤ p;
  add_comm = IntN.+ℤ_comm;
  add_assoc = IntN.+ℤ_assoc;
  add-zero = IntN.+ℤ_idr;
  add-neg = IntN.+ℤ_invr;
  mul_comm = IntN.*ℤ_comm;
  mul_assoc = mul_assoc;
  mul-one = λ a. omega (arith, ints);
  mul-add = mul-add;
}
