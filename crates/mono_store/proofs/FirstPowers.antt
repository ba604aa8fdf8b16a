-- The first power of a word: the highest digit that is not 0, and what is below that digit.
use Rattle.std.proofs.Common.{◌≡◌, ℕ, zero, suc, ◌+◌, ◌/◌, ◌%◌, ◌<◌, ◌≤◌, inl, inr, [], ◌∷◌, drop, length}
use Rattle.std.proofs.Common.{refl, sym, ap, subst, ◌∙◌, arith}
use Rattle.std.proofs.Math.Nat.{div-eq_of_lt, zero-mod}
use Rattle.std.proofs.lemmas.Bool.{cases_lt}
use Rattle.std.proofs.lemmas.List.{drop_all}
use Rattle.std.proofs.lemmas.Nat.{div-add-mod', div_below, le-div, mod_below}
use Rattle.sparse_lists.specs.SparseLists.{put}
use Rattle.mono_store.specs.Monomials.{ComesFirst, exponents}
use Rattle.mono_store.specs.Words.{Limits, count_from, limit, powers_from, powers_of_word, word, word_count}
use Rattle.mono_store.proofs.DigitLists.{ComesFirst-powers_from, powers_from-step}
use Rattle.mono_store.proofs.WordPowers.{power_before-powers}
use Rattle.mono_store.proofs.WordOrder.{count_from-le, count_from-some, count_from-step, word-cons}

-- LOW WORDS

-- no variable up to the one has a power in a word that is below its digit
powers_from-low : (limits : Limits) (v w : ℕ) → v < length limits → w < count_from limits (v + 1)
    → powers_from v (drop v limits) w ≡ powers_from (v + 1) (drop (v + 1) limits) w
powers_from-low limits v w known low =
    let rest = powers_from (v + 1) (drop (v + 1) limits) w in
    let none : w / count_from limits (v + 1) % (limit limits v + 1) ≡ 0 =
    ap (λ (k : ℕ). k % (limit limits v + 1)) (div-eq_of_lt low) ∙ zero-mod (limit limits v + 1) in
    powers_from-step limits v w known ∙ ap (λ (k : ℕ). put exponents v k rest) none

pub powers_of_word-low : (limits : Limits) (v w : ℕ) → v ≤ length limits → w < count_from limits v
    → powers_of_word limits w ≡ powers_from v (drop v limits) w
powers_of_word-low limits zero w known low = refl
powers_of_word-low limits (suc v) w known low =
    let next : suc v ≡ v + 1 = omega arith in
    powers_of_word-low limits v w (omega arith) (omega (arith, count_from-le limits v (suc v) (omega arith), low))
    ∙ powers_from-low limits v w (omega arith) (subst (λ (k : ℕ). w < count_from limits k) next low)
    ∙ ap (λ (k : ℕ). powers_from k (drop k limits) w) (sym next)

-- THE FIRST POWER

-- the first digit of a word that is not 0 is one of the digits
pub above-known : (limits : Limits) (w v : ℕ) → 0 < w → w < count_from limits v → v < length limits
above-known limits w v some above =
    elim (cases_lt v (length limits)) [
      | inl known ↦ known
      | inr past ↦
          let none : count_from limits v ≡ 1 = ap word_count (drop_all v limits past) in
          absurd (omega (arith, above, some, none))
    ]

module _ (limits : Limits) (w v : ℕ) (above : w < count_from limits v) (here : count_from limits (v + 1) ≤ w) where
  pub first-known : v < length limits
  first-known = above-known limits w v (omega (arith, here, count_from-some limits (v + 1))) above

  pub first-fits : w / count_from limits (v + 1) ≤ limit limits v
  first-fits =
      let below : w / count_from limits (v + 1) < limit limits v + 1 =
      div_below w (count_from limits (v + 1)) (limit limits v + 1) (count_from-some limits (v + 1)) (omega (arith, above, count_from-step limits v)) in
      omega arith

  pub first-some : 1 ≤ w / count_from limits (v + 1)
  first-some = le-div 1 w (count_from limits (v + 1)) (count_from-some limits (v + 1)) (omega (arith, here))

  low : w % count_from limits (v + 1) < count_from limits (v + 1)
  low = mod_below w (count_from limits (v + 1)) (count_from-some limits (v + 1))

  pub first-rest : w % count_from limits (v + 1) < w
  first-rest = omega (arith, low, here)

  comes_first : ComesFirst v (powers_of_word limits (w % count_from limits (v + 1)))
  comes_first =
      subst (ComesFirst v)
      (sym (powers_of_word-low limits (v + 1) (w % count_from limits (v + 1)) (omega (arith, first-known)) low))
      (ComesFirst-powers_from v (drop (v + 1) limits) (w % count_from limits (v + 1)))

  parts : w ≡ w % count_from limits (v + 1) + word limits ((v, w / count_from limits (v + 1)) ∷ [])
  parts = omega (arith, div-add-mod' w (count_from limits (v + 1)), word-cons limits (v, w / count_from limits (v + 1)) [])

  pub first-powers : w < word_count limits
      → powers_of_word limits w ≡ (v, w / count_from limits (v + 1)) ∷ powers_of_word limits (w % count_from limits (v + 1))
  first-powers within =
      ap (powers_of_word limits) parts
      ∙ power_before-powers limits v (w / count_from limits (v + 1)) (w % count_from limits (v + 1)) (omega (arith, first-rest, within))
      first-some comes_first first-fits
