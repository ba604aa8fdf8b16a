-- What words promise as keys of chains: products within limits, and merges in the order of words.
use Rattle.std.proofs.Common.{◌≡◌, ℕ, ◌+◌, ◌^◌, ◌<◌, ◌≤◌, ℤ, [], ◌∷◌, ◌++◌, map, refl, sym, ap}
use Rattle.std.proofs.Common.{◌∙◌, arith}
use Rattle.std.specs.Ordering.{flip_args, nat_cmp}
use Rattle.sparse_lists.specs.SparseLists.{AllKeys, IsBefore, canonical}
use Rattle.sparse_lists.proofs.Canonical.{IsCanonical-canonical}
use Rattle.sparse_lists.proofs.NaturalAmounts.{natural_order}
use Rattle.sparse_lists.proofs.Sums.{AllKeys-append}
use Rattle.mono_store.specs.Monomials.{exponents, product}
use Rattle.mono_store.proofs.Numbers.{exponents_add}
use Rattle.sparse_lists.specs.Coefficients.{coefficients, Pairs, sum_of}
use Rattle.poly_arena.specs.Orders.{IsFalling}
use Rattle.geo_poly.specs.Inner.Keyed.{IsInReach, key_cmp}
use Rattle.mono_store.specs.Words.{FitsLimits, Limits, powers_of_word, word_count}
use Rattle.geo_poly.specs.Inner.Words.{word_keys}
use Rattle.geo_poly.proofs.Naming.{canonical-rename}
use Rattle.mono_store.proofs.WordDigits.{FitsLimits-product, word-below_all}
use Rattle.mono_store.proofs.WordDigits.{monomial_cmp-powers_of_word, word-powers_of_word, word-product}
use Rattle.geo_poly.proofs.WordKeys.{powers_of_word-add}

-- PRODUCTS

module _ (limits : Limits) (a b : ℕ) (a_in : a < word_count limits) (b_in : b < word_count limits)
    (reach : IsInReach (word_keys limits) (powers_of_word limits a) (powers_of_word limits b)) where
  product_fits : FitsLimits limits (product (powers_of_word limits a) (powers_of_word limits b))
  product_fits =
      FitsLimits-product limits (powers_of_word limits a) (powers_of_word limits b)
      reach

  pub times-below : a + b < word_count limits
  times-below =
      let m = powers_of_word limits a in
      let n = powers_of_word limits b in
      let in_order = IsCanonical-canonical nat_cmp exponents natural_order exponents_add (m ++ n) in
      omega (
        arith,
        word-below_all limits (product m n) in_order product_fits,
        word-product limits m n,
        word-powers_of_word limits a a_in,
        word-powers_of_word limits b b_in,
      )

  pub times-powers : powers_of_word limits (a + b) ≡ product (powers_of_word limits a) (powers_of_word limits b)
  times-powers = powers_of_word-add limits a b a_in b_in product_fits

-- MERGES

module _ (limits : Limits) where
  -- the number is a word of these limits
  abbrev Within : ℕ → Type 0
  Within k = k < word_count limits

  same_cmp : (a b : ℕ) → Within a → Within b → key_cmp (word_keys limits) a b ≡ nat_cmp a b
  same_cmp a b h g = monomial_cmp-powers_of_word limits a b h g

  falls_before : (k : ℕ) (ts : Pairs) → Within k → AllKeys Within ts → IsBefore (flip_args (key_cmp (word_keys limits))) k ts
      → IsBefore (flip_args nat_cmp) k ts
  falls_before k [] h g b = tt
  falls_before k (t ∷ ts) h g b = (sym (same_cmp t.0 k g.0 h) ∙ b.0, falls_before k ts h g.1 b.1)

  -- words that fall as monomials fall as numbers
  pub words-fall : (ts : Pairs) → AllKeys Within ts → IsFalling (key_cmp (word_keys limits)) ts → IsFalling nat_cmp ts
  words-fall [] g f = tt
  words-fall (t ∷ ts) g f = (falls_before t.0 ts g.0 g.1 f.0, words-fall ts g.1 f.1)

  -- words are below 2 ^ 64
  pub words-below : word_count limits ≤ 2 ^ 63 → (ts : Pairs) → AllKeys Within ts → AllKeys (λ k. k < 2 ^ 64) ts
  words-below all [] g = tt
  words-below all (t ∷ ts) g = (omega (arith, all, g.0), words-below all ts g.1)

  unchanged : (ts : Pairs) → map (λ (t : ℕ × ℤ). (t.0, t.1)) ts ≡ ts
  unchanged [] = refl
  unchanged (t ∷ ts) = ap (λ (us : Pairs). t ∷ us) (unchanged ts)

  -- the merged sum in the order of words is that in the order of monomials
  pub words-sum : (xs ys : Pairs) → AllKeys Within xs → AllKeys Within ys
      → sum_of nat_cmp xs ys ≡ sum_of (key_cmp (word_keys limits)) xs ys
  words-sum xs ys h g =
      let flipped : (i j : ℕ) → Within i → Within j → flip_args (key_cmp (word_keys limits)) i j ≡ flip_args nat_cmp i j =
      λ i j i_in j_in. same_cmp j i j_in i_in in
      let renamed = canonical-rename (flip_args nat_cmp) (flip_args (key_cmp (word_keys limits))) coefficients (λ k. k) Within flipped (xs ++ ys)
      (AllKeys-append Within xs ys h g) in
      sym (unchanged (sum_of nat_cmp xs ys)) ∙ sym renamed ∙ ap (canonical (flip_args (key_cmp (word_keys limits))) coefficients) (unchanged (xs ++ ys))
