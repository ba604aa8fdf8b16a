-- A word over the word of a power: where the digit of the variable holds as much, it is the word of the quotient.
use Rattle.std.proofs.Common.{◌≡◌, ℕ, zero, suc, ◌+◌, ◌*◌, ◌/◌, ◌%◌, ◌^◌, ◌<◌, ◌≤◌, cond, inl, inr, [], ◌∷◌, ◌++◌, drop, length}
use Rattle.std.proofs.Common.{refl, sym, ap, subst, ◌∙◌, arith}
use Rattle.std.specs.Ordering.{is_eq, nat_cmp}
use Rattle.std.specs.Prelude.{sum}
use Rattle.std.specs.declared.cmp.Ordering.{Ordering}
use Rattle.std.specs.declared.cmp.Ordering.TheVariants.{Less, Equal, Greater}
use Rattle.std.proofs.Math.Arith.{mod-mul}
use Rattle.std.proofs.Math.Nat.{mul-le-mul_right}
use Rattle.std.proofs.lemmas.Bool.{cases_lt}
use Rattle.sparse_lists.proofs.Canonical.{IsCanonical-canonical, amount-before, amount-put}
use Rattle.sparse_lists.proofs.NaturalAmounts.{natural_order}
use Rattle.mono_store.specs.declared.links.MonoId.{MonoId}
use Rattle.mono_store.specs.Monomials.{Powers as NumberedPowers, exponent, exponents, product as numbered_product}
use Rattle.mono_store.specs.Stores.{monomial_of}
use Rattle.mono_store.specs.Words.{Limits, count_from, limit, powers_from, powers_of_word, word, word_count}
use Rattle.mono_store.proofs.DigitLists.{powers_from-step}
use Rattle.mono_store.proofs.Numbers.{exponents_add}
use Rattle.mono_store.proofs.Unfolding.{monomial_of-word}
use Rattle.mono_store.proofs.WordDigits.{FitsLimits-powers_of_word, FitsLimits-product, IsBefore-powers_from, IsMonomial-powers_of_word}
use Rattle.mono_store.proofs.WordDigits.{powers_of_word-word, word-powers_of_word, word-product}
use Rattle.mono_store.proofs.WordOrder.{count_from-le, count_from-some, count_from-step, in_digit, word-cons}
use Rattle.geo_poly.specs.declared.shared.Shared.{Shared}
use Rattle.geo_poly.specs.declared.word_division.WordDivisor.{WordDivisor}
use Rattle.geo_poly.specs.Inner.WordDivisors.{IsWordDivisor, divisor_powers}
use Rattle.geo_poly.specs.Monomials.{IsMonomial, product}
use Rattle.geo_poly.specs.Shared.{AllPlaces, AreParts, IsIndexOf, named, told_powers}
use Rattle.geo_poly.proofs.DigitVariables.{all_digits, digit_known}
use Rattle.geo_poly.proofs.Moved.{IsMonomial-named}
use Rattle.geo_poly.proofs.Naming.{product-named}

-- A DIGIT
module _ (limits : Limits) (w v : ℕ) where
  abbrev digit : ℕ → ℕ
  digit k = w / count_from limits (k + 1) % (limit limits k + 1)

  -- the exponent of a variable is its digit
  exponent_from : (n u : ℕ) → u + n ≡ v → v < length limits → exponent v (powers_from u (drop u limits) w) ≡ digit v
  exponent_from zero u e known =
      let rest = powers_from (u + 1) (drop (u + 1) limits) w in
      let same : u ≡ v = omega (arith, e) in
      let none : exponent v (powers_from (u + 1) (drop (u + 1) limits) w) ≡ 0 =
      amount-before nat_cmp exponents natural_order exponents_add v rest (IsBefore-powers_from v (u + 1) (drop (u + 1) limits) w (omega (arith, same))) in
      ap (exponent v) (powers_from-step limits u w (omega (arith, same, known)))
      ∙ amount-put nat_cmp exponents natural_order exponents_add v u (digit u) rest
      ∙ ap (λ k. cond (is_eq (nat_cmp v k)) (digit k) 0 + exponent v rest) same
      ∙ ap (λ (o : Ordering). cond (is_eq o) (digit v) 0 + exponent v rest) (natural_order.self v)
      ∙ omega (arith, none)
  exponent_from (suc n) u e known =
      let rest = powers_from (u + 1) (drop (u + 1) limits) w in
      ap (exponent v) (powers_from-step limits u w (omega (arith, e, known)))
      ∙ amount-put nat_cmp exponents natural_order exponents_add v u (digit u) rest
      ∙ later (nat_cmp v u) refl
      ∙ exponent_from n (u + 1) (omega (arith, e)) known
    where
      later : (o : Ordering) → nat_cmp v u ≡ o → cond (is_eq o) (digit u) 0 + exponent v (powers_from (u + 1) (drop (u + 1) limits) w)
          ≡ exponent v (powers_from (u + 1) (drop (u + 1) limits) w)
      later Less is = omega arith
      later Greater is = omega arith
      later Equal is = let same : v ≡ u = natural_order.exact v u is in absurd (omega (arith, same, e))

  exponent_is : v < length limits → exponent v (powers_of_word limits w) ≡ digit v
  exponent_is known = exponent_from v 0 (omega arith) known

  -- the digit has room for so much more
  module _ (e : ℕ) (known : v < length limits) (fits : e * count_from limits (v + 1) + w % count_from limits v < count_from limits v) where
    room : exponent v (powers_of_word limits w) + e ≤ limit limits v
    room =
        let unit = count_from limits (v + 1) in
        let split : w % ((limit limits v + 1) * count_from limits (v + 1)) ≡ digit v * count_from limits (v + 1) + w % count_from limits (v + 1) =
        mod-mul w (let some : 0 < limit limits v + 1 = omega arith in some) (count_from-some limits (v + 1)) in
        let whole : e * count_from limits (v + 1) + w % ((limit limits v + 1) * count_from limits (v + 1)) < (limit limits v + 1) * count_from limits (v + 1) =
        subst (λ (k : ℕ). e * unit + w % k < k) (count_from-step limits v) fits in
        let is : exponent v (powers_of_word limits w) ≡ digit v = exponent_is known in
        let small : digit v + e ≤ limit limits v = elim (cases_lt (limit limits v) (digit v + e)) [
          | inl over ↦
              let more : limit limits v + 1 ≤ digit v + e = omega (arith, over) in
              let big : (limit limits v + 1) * count_from limits (v + 1) ≤ (digit v + e) * count_from limits (v + 1) = mul-le-mul_right unit more in
              let parts : (digit v + e) * count_from limits (v + 1) ≡ digit v * count_from limits (v + 1) + e * count_from limits (v + 1) = omega arith in
              absurd (omega (arith, big, parts, split, whole))
          | inr le ↦ le
        ] in
        omega (arith, is, small)

    power : NumberedPowers
    power = (v, e) ∷ []

    rest : NumberedPowers
    rest = powers_of_word limits w

    fits_each : (k : ℕ) → exponent k ((v, e) ∷ []) + exponent k (powers_of_word limits w) ≤ limit limits k
    fits_each k = go (nat_cmp k v) refl
      where
        go : (o : Ordering) → nat_cmp k v ≡ o → cond (is_eq o) e 0 + 0 + exponent k (powers_of_word limits w) ≤ limit limits k
        go Less is = omega (arith, (FitsLimits-powers_of_word limits w).exponents k)
        go Greater is = omega (arith, (FitsLimits-powers_of_word limits w).exponents k)
        go Equal is =
            let same : k ≡ v = natural_order.exact k v is in
            subst (λ (j : ℕ). e + 0 + exponent j (powers_of_word limits w) ≤ limit limits j) (sym same) (omega (arith, room))

    pub word_product : w < word_count limits
        → powers_of_word limits (w + e * count_from limits (v + 1)) ≡ numbered_product ((v, e) ∷ []) (powers_of_word limits w)
    word_product within =
        let whole = numbered_product ((v, e) ∷ []) (powers_of_word limits w) in
        let word_is : word limits (numbered_product ((v, e) ∷ []) (powers_of_word limits w)) ≡ w + e * count_from limits (v + 1) =
        omega (arith, word-product limits ((v, e) ∷ []) (powers_of_word limits w), word-cons limits (v, e) [], word-powers_of_word limits w within) in
        ap (powers_of_word limits) (sym word_is)
        ∙ powers_of_word-word limits whole (IsCanonical-canonical nat_cmp exponents natural_order exponents_add (((v, e) ∷ []) ++ powers_of_word limits w))
        (FitsLimits-product limits ((v, e) ∷ []) (powers_of_word limits w) fits_each)

-- A DIVISOR
pub divisor_is : (p : Shared) (d : WordDivisor) (digits : Limits) → digits ≡ p.monos.now.limits → length p.monos.now.links ≡ 0
    → length digits ≤ length p.vars.now → sum digits ≤ 65535 → word_count digits ≤ 2 ^ 63 → d.number < length digits → d.exponent ≤ limit digits d.number
    → d.amount ≡ word digits ((d.number, d.exponent) ∷ []) → d.above ≡ count_from digits d.number → IsWordDivisor p d
divisor_is p d digits same none places degree few known room amount above =
    let limits = p.monos.now.limits in
    let amount_is : d.amount ≡ word p.monos.now.limits ((d.number, d.exponent) ∷ []) =
    subst (λ (ls : Limits). d.amount ≡ word ls ((d.number, d.exponent) ∷ [])) same amount in
    let above_is : d.above ≡ count_from p.monos.now.limits d.number = subst (λ (ls : Limits). d.above ≡ count_from ls d.number) same above in
    let fits : d.exponent ≤ limit p.monos.now.limits d.number = subst (λ (ls : Limits). d.exponent ≤ limit ls d.number) same room in
    let bound : word_count p.monos.now.limits ≤ 2 ^ 63 = subst (λ (ls : Limits). word_count ls ≤ 2 ^ 63) same few in
    let one = word-cons limits (d.number, d.exponent) [] in
    record {
      words = none;
      places = subst (λ (ls : Limits). length ls ≤ length p.vars.now) same places;
      degree = subst (λ (ls : Limits). sum ls ≤ 65535) same degree;
      known = subst (λ (ls : Limits). d.number < length ls) same known;
      amount-is = omega (arith, amount_is, one);
      above-is = above_is;
      amount_fits = omega (arith, amount_is, one, above_is, in_digit limits d.number d.exponent 0 fits (omega (arith, count_from-some limits (d.number + 1))));
      above_fits = omega (arith, above_is, bound, count_from-le limits 0 d.number (omega arith));
    }

-- AN INDEX
module _ (p : Shared) (d : WordDivisor) (parts : AreParts p) (is : IsWordDivisor p d) (id : MonoId) (w : ℕ) (index : IsIndexOf p id)
    (whole : w + d.amount ≡ id.0) (fits : d.amount + w % d.above < d.above) where
  abbrev limits : Limits
  limits = p.monos.now.limits

  abbrev over : MonoId
  over = record { 0 = w }

  whole_within : id.0 < word_count p.monos.now.limits
  whole_within = omega (arith, index.within, is.words)

  within : w < word_count p.monos.now.limits
  within = omega (arith, whole_within, whole)

  over_is : monomial_of p.monos.now over ≡ powers_of_word p.monos.now.limits w
  over_is = monomial_of-word p.monos.now over within

  places : AllPlaces (length p.vars.now) (powers_of_word p.monos.now.limits w)
  places = all_digits limits w (λ k. k < length p.vars.now) (λ k has. omega (arith, digit_known limits w k has, is.places))

  pub over_index : IsIndexOf p over
  over_index = record { within = omega (arith, within, is.words); places = subst (AllPlaces (length p.vars.now)) (sym over_is) places }

  pub over_monomial : IsMonomial (told_powers p over)
  over_monomial =
      subst (λ (m : NumberedPowers). IsMonomial (named p.vars.now m)) (sym over_is)
      (IsMonomial-named p.vars.now (powers_of_word limits w) parts.rising places (IsMonomial-powers_of_word limits w is.degree))

  pub over_product : product (divisor_powers p d) (told_powers p over) ≡ told_powers p id
  over_product =
      let power : NumberedPowers = (d.number, d.exponent) ∷ [] in
      let numbered : d.number < length p.vars.now = omega (arith, is.known, is.places) in
      let room : d.exponent * count_from p.monos.now.limits (d.number + 1) + w % count_from p.monos.now.limits d.number < count_from p.monos.now.limits d.number =
      subst (λ (a : ℕ). d.exponent * count_from p.monos.now.limits (d.number + 1) + w % a < a) is.above-is
      (subst (λ (a : ℕ). a + w % d.above < d.above) is.amount-is fits) in
      let word_is : w + d.exponent * count_from p.monos.now.limits (d.number + 1) ≡ id.0 = omega (arith, whole, is.amount-is) in
      ap (λ (m : NumberedPowers). product (divisor_powers p d) (named p.vars.now m)) over_is
      ∙ product-named p.vars.now parts.rising power (powers_of_word limits w) (numbered, tt) places
      ∙ ap (named p.vars.now)
      (sym (word_product limits w d.number d.exponent is.known room within) ∙ ap (powers_of_word limits) word_is
      ∙ sym (monomial_of-word p.monos.now id whole_within))
