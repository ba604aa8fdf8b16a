-- Words that begin with the same power: the one that has it alone, and those after it as far as they are below the next.
use Rattle.std.proofs.Common.{◌≡◌, ℕ, zero, suc, ◌+◌, ◌-◌, ◌*◌, ◌<◌, ◌≤◌, eqb, false, [], ◌∷◌, drop, length, sym, ap, subst, ◌∙◌, arith}
use Rattle.std.specs.Ordering.{nat_cmp}
use Rattle.sparse_lists.specs.SparseLists.{IsBefore, IsCanonical}
use Rattle.mono_store.specs.Monomials.{ComesFirst, Powers, exponents}
use Rattle.mono_store.specs.Words.{FitsLimits, Limits, count_from, limit, powers_of_word, word, word_count}
use Rattle.mono_store.proofs.DigitLists.{ComesFirst-powers_from}
use Rattle.mono_store.proofs.FirstPowers.{powers_of_word-low}
use Rattle.mono_store.proofs.Numbers.{is_below}
use Rattle.mono_store.proofs.WordDigits.{FitsLimits-powers_of_word, IsCanonical-powers_from, word-powers_of_word}
use Rattle.mono_store.proofs.WordOrder.{FitsLimits-first, StartsAt, word-below, word-cons}
use Rattle.mono_store.proofs.WordPowers.{known-fits, power_before-powers}

some_of : (e : ℕ) → eqb e 0 ≡ false → 1 ≤ e
some_of zero h = cc
some_of (suc e) h = omega arith

starts : (v : ℕ) (m : Powers) → IsBefore nat_cmp v m → StartsAt (v + 1) m
starts v [] h = tt
starts v (p ∷ m) h = omega (arith, is_below v p.0 h.0)

-- the first variable of a word has a digit
pub first_known : (limits : Limits) (w v e : ℕ) (m : Powers) → powers_of_word limits w ≡ (v, e) ∷ m → v < length limits
first_known limits w v e m is =
    let in_order = subst (λ (n : Powers). IsCanonical nat_cmp exponents n) is (IsCanonical-powers_from 0 limits w) in
    known-fits limits v e (some_of e in_order.0)
    (FitsLimits-first (subst (λ (n : Powers). FitsLimits limits n) is (FitsLimits-powers_of_word limits w)))

module _ (limits : Limits) (w rest v e : ℕ) (within : w < word_count limits) (behind : rest < word_count limits)
    (is : powers_of_word limits w ≡ (v, e) ∷ powers_of_word limits rest) where
  abbrev others : Powers
  others = powers_of_word limits rest

  in_order : IsCanonical nat_cmp exponents ((v, e) ∷ others)
  in_order = subst (λ (m : Powers). IsCanonical nat_cmp exponents m) is (IsCanonical-powers_from 0 limits w)

  fits : e ≤ limit limits v
  fits = FitsLimits-first (subst (λ (m : Powers). FitsLimits limits m) is (FitsLimits-powers_of_word limits w))

  -- the word is the power's and the rest
  parts : w ≡ e * count_from limits (v + 1) + rest
  parts =
      sym (word-powers_of_word limits w within) ∙ ap (word limits) is ∙ word-cons limits (v, e) others
      ∙ ap (λ (k : ℕ). e * count_from limits (v + 1) + k) (word-powers_of_word limits rest behind)

  low : rest < count_from limits (v + 1)
  low =
      subst (λ (k : ℕ). k < count_from limits (v + 1)) (word-powers_of_word limits rest behind)
      (word-below limits (v + 1) others in_order.2 (starts v others in_order.1) (FitsLimits-powers_of_word limits rest))

  -- what is not after the rest may stand behind the power too
  pub same_front : (r : ℕ) → r ≤ rest → powers_of_word limits (w - rest + r) ≡ (v, e) ∷ powers_of_word limits r
  same_front r up =
      let some = some_of e in_order.0 in
      let known = known-fits limits v e some fits in
      let first : ComesFirst v (powers_of_word limits r) =
      subst (λ (m : Powers). ComesFirst v m) (sym (powers_of_word-low limits (v + 1) r (omega (arith, known)) (omega (arith, low, up))))
      (ComesFirst-powers_from v (drop (v + 1) limits) r) in
      let front : word limits ((v, e) ∷ []) ≡ e * count_from limits (v + 1) = omega (arith, word-cons limits (v, e) []) in
      let same : w - rest + r ≡ r + word limits ((v, e) ∷ []) = omega (arith, parts, front) in
      ap (powers_of_word limits) same ∙ power_before-powers limits v e r (omega (arith, behind, up)) some first fits
