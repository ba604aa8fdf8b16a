-- A power put before a word.
use Rattle.std.proofs.Common.{◌≡◌, ℕ, ◌+◌, ◌<◌, ◌≤◌, cond, [], ◌∷◌, inl, inr, length, refl, sym, ap, subst, ◌∙◌, arith}
use Rattle.std.specs.Ordering.{is_eq, nat_cmp}
use Rattle.std.specs.declared.cmp.Ordering.{Ordering}
use Rattle.std.specs.declared.cmp.Ordering.TheVariants.{Less, Equal, Greater}
use Rattle.std.proofs.lemmas.Bool.{cases_lt}
use Rattle.std.proofs.lemmas.List.{get_or_past}
use Rattle.sparse_lists.specs.SparseLists.{IsBefore, IsCanonical}
use Rattle.sparse_lists.proofs.Canonical.{amount-before}
use Rattle.sparse_lists.proofs.NaturalAmounts.{natural_order}
use Rattle.mono_store.specs.Monomials.{ComesFirst, Powers, exponent, exponents}
use Rattle.mono_store.specs.Words.{FitsLimits, Limits, limit, powers_of_word, word, word_count}
use Rattle.mono_store.proofs.Numbers.{exponents_add, nonzero}
use Rattle.mono_store.proofs.Products.{IsBefore-first}
use Rattle.mono_store.proofs.WordDigits.{FitsLimits-powers_of_word, IsCanonical-powers_from, powers_of_word-word, word-below_all}
use Rattle.mono_store.proofs.WordDigits.{word-powers_of_word}
use Rattle.mono_store.proofs.WordOrder.{word-cons}

module _ (limits : Limits) (v e w : ℕ) (within : w < word_count limits) (some : 1 ≤ e) (first : ComesFirst v (powers_of_word limits w))
    (fits : e ≤ limit limits v) where
  abbrev rest : Powers
  rest = powers_of_word limits w

  abbrev whole : Powers
  whole = (v, e) ∷ rest

  before : IsBefore nat_cmp v rest
  before = IsBefore-first v rest first (IsCanonical-powers_from 0 limits w)

  in_order : IsCanonical nat_cmp exponents whole
  in_order = (nonzero e some, before, IsCanonical-powers_from 0 limits w)

  whole_fits : FitsLimits limits whole
  whole_fits = record { exponents = λ u. go u (nat_cmp u v) refl }
    where
      go : (u : ℕ) (o : Ordering) → nat_cmp u v ≡ o → exponent u whole ≤ limit limits u
      go u Less a =
          let here = ap (λ (o : Ordering). cond (is_eq o) e 0 + exponent u rest) a in
          omega (arith, here, (FitsLimits-powers_of_word limits w).exponents u)
      go u Greater a =
          let here = ap (λ (o : Ordering). cond (is_eq o) e 0 + exponent u rest) a in
          omega (arith, here, (FitsLimits-powers_of_word limits w).exponents u)
      go u Equal a =
          let same : u ≡ v = natural_order.exact u v a in
          let here = ap (λ (o : Ordering). cond (is_eq o) e 0 + exponent u rest) a in
          let none : exponent u rest ≡ 0 =
          ap (λ (x : ℕ). exponent x rest) same ∙ amount-before nat_cmp exponents natural_order exponents_add v rest before in
          let room : e ≤ limit limits u = subst (λ (x : ℕ). e ≤ limit limits x) (sym same) fits in
          omega (arith, here, none, room)

  word_is : word limits whole ≡ w + word limits ((v, e) ∷ [])
  word_is = omega (arith, word-cons limits (v, e) rest, word-cons limits (v, e) [], word-powers_of_word limits w within)

  pub power_before-below : w + word limits ((v, e) ∷ []) < word_count limits
  power_before-below = omega (arith, word_is, word-below_all limits whole in_order whole_fits)

  pub power_before-powers : powers_of_word limits (w + word limits ((v, e) ∷ [])) ≡ (v, e) ∷ powers_of_word limits w
  power_before-powers = ap (powers_of_word limits) (sym word_is) ∙ powers_of_word-word limits whole in_order whole_fits

-- a variable that has room for a power has a digit
pub known-fits : (limits : Limits) (v e : ℕ) → 1 ≤ e → e ≤ limit limits v → v < length limits
known-fits limits v e some fits =
    elim (cases_lt v (length limits)) [
      | inl known ↦ known
      | inr past ↦ absurd (omega (arith, some, fits, get_or_past limits v 0 past))
    ]
