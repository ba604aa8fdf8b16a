-- Runs of bytes that pass a test, and the digits of numbers.
use Rattle.std.proofs.Common.{◌≡◌, ℕ, ◌+◌, ◌<◌, ◌≤◌, ◌^◌, Bool, true, false, cond, ◌&&◌, List, [], ◌∷◌, ◌++◌, take, drop, refl, sym, ap, ◌∙◌, subst, arith, suc, lit≤}
use Rattle.std.specs.Prelude.{ℤ, pos, negsuc, unsigned_abs}
use Rattle.std.specs.List.{list_all, prefix_len}
use Rattle.std.specs.Char.{is_ascii_digit}
use Rattle.std.specs.Fmt.{decimal, signed_decimal}
use Rattle.std.proofs.lemmas.Fmt.{decimal_is_IsNumeral_wide}
use Rattle.geo_base.proofs.DigitLemmas.{list_all-from_AllDigits}
use Rattle.geo_base.proofs.DecimalLemmas.{signed_decimal_writes}
use Rattle.geo_base.specs.Decimals.{decimal_value}
use Rattle.proof_log.specs.Inner.Reading.{Begins, Form, Passes, StopsAt, integers, is_number_byte, naturals}

-- two things stand at the beginning of bytes only where they are the same
abbrev pub Unique : {T : Type 0} → Form T → Type 0
Unique {T} form = (bytes : List ℕ) (x y : T) (r s : List ℕ) → Begins form bytes x r → Begins form bytes y s → (x ≡ y) × (r ≡ s)

not_both : (b : Bool) → b ≡ true → b ≡ false → ⊥
not_both b t f = let e : true ≡ false = sym t ∙ f in cc

first_of_both : (test : ℕ → Bool) (b : ℕ) (bs r : List ℕ) → test b ≡ true → StopsAt test r → r ≡ b ∷ bs → ⊥
first_of_both test b bs r t stops e = let at : StopsAt test (b ∷ bs) = subst (StopsAt test) e stops in not_both (test b) t at

-- a run ends at one place
pub same_run : (test : ℕ → Bool) (xs ys r s : List ℕ) → Passes test xs → Passes test ys → StopsAt test r → StopsAt test s → xs ++ r ≡ ys ++ s → (xs ≡ ys) × (r ≡ s)
same_run test [] [] r s p q h k e = (refl, e)
same_run test [] (y ∷ ys) r s p q h k e = absurd (first_of_both test y (ys ++ s) r q.0 h e)
same_run test (x ∷ xs) [] r s p q h k e = absurd (first_of_both test x (xs ++ r) s p.0 k (sym e))
same_run test (x ∷ xs) (y ∷ ys) r s p q h k e =
    let head : x ≡ y = cc in
    let tail : xs ++ r ≡ ys ++ s = cc in
    let rest = same_run test xs ys r s p.1 q.1 h k tail in
    let whole : (x ∷ xs) ≡ (y ∷ ys) = cc in
    (whole, rest.1)

-- the longest front that passes, and what stops it
pub prefix_passes : (test : ℕ → Bool) (xs : List ℕ) → Passes test (take (prefix_len test xs) xs) × StopsAt test (drop (prefix_len test xs) xs)
prefix_passes test [] = (tt, tt)
prefix_passes test (x ∷ xs) =
    elim (test x) as (λ b. test x ≡ b → Passes test (take (cond b (1 + prefix_len test xs) 0) (x ∷ xs)) × StopsAt test (drop (cond b (1 + prefix_len test xs) 0) (x ∷ xs))) [
      | true ↦ λ e. let rest = prefix_passes test xs in
          let P : ℕ → Type 0 = λ n. Passes test (take n (x ∷ xs)) × StopsAt test (drop n (x ∷ xs)) in
          let n : suc (prefix_len test xs) ≡ 1 + prefix_len test xs = omega arith in
          subst P n ((e, rest.0), rest.1)
      | false ↦ λ e. (tt, e)
    ] refl

both : (x y : Bool) → (x && y) ≡ true → (x ≡ true) × (y ≡ true)
both true y e = (refl, e)
both false y e = absurd (let f : false ≡ true = e in cc)

number_byte : (b : ℕ) → is_ascii_digit b ≡ true → is_number_byte b ≡ true
number_byte b e = grind (arith, e)

digits_pass : (bs : List ℕ) → list_all is_ascii_digit bs ≡ true → Passes is_number_byte bs
digits_pass [] e = tt
digits_pass (b ∷ bs) e = let parts = both (is_ascii_digit b) (list_all is_ascii_digit bs) e in (number_byte b parts.0, digits_pass bs parts.1)

pub decimal_passes : (n : ℕ) → n < 10 ^ 64 → Passes is_number_byte (decimal n)
decimal_passes n h = digits_pass (decimal n) (list_all-from_AllDigits (decimal n) (decimal_is_IsNumeral_wide n h).0.1)

pub integer_passes : (z : ℤ) → unsigned_abs z < 10 ^ 64 → Passes is_number_byte (signed_decimal z)
integer_passes (pos n) h = decimal_passes n h
integer_passes (negsuc n) h = (refl, decimal_passes (suc n) h)

pub wide : (n : ℕ) → n < 2 ^ 127 → n < 10 ^ 64
wide n h = let lt : 2 ^ 127 ≤ 10 ^ 64 = lit≤ tt in omega arith

-- a whole number has one text, and it ends at one place
pub integers_unique : Unique integers
integers_unique bytes x y r s h k =
    let run = same_run is_number_byte (signed_decimal x) (signed_decimal y) r s (integer_passes x (wide _ h.fits)) (integer_passes y (wide _ k.fits)) h.stops k.stops (sym h.spelt ∙ k.spelt) in
    (sym (signed_decimal_writes x (wide _ h.fits)).value ∙ ap decimal_value run.0 ∙ (signed_decimal_writes y (wide _ k.fits)).value, run.1)

-- a natural number is a whole number
pub natural_integer : (bits : ℕ) (bytes : List ℕ) (n : ℕ) (r : List ℕ) → 2 ^ bits ≤ 2 ^ 64 → Begins (naturals bits) bytes n r → Begins integers bytes (pos n) r
natural_integer bits bytes n r small h = record {
  spelt = h.spelt;
  fits = let lt : 2 ^ 64 ≤ 2 ^ 127 = lit≤ tt in let fits : n < 2 ^ bits = h.fits in omega arith;
  stops = h.stops;
}

pub naturals_unique : (bits : ℕ) → 2 ^ bits ≤ 2 ^ 64 → Unique (naturals bits)
naturals_unique bits small bytes x y r s h k =
    let both = integers_unique bytes (pos x) (pos y) r s (natural_integer bits bytes x r small h) (natural_integer bits bytes y s small k) in
    let same : pos x ≡ pos y = both.0 in
    let value : x ≡ y = cc in
    (value, both.1)
