-- Chains whose keys are words: their sums and multiples stand for those of polynomials. What is said of sums holds for all keys that stand
-- for monomials in their order.
use Rattle.std.proofs.Common.{◌≡◌, ℕ, zero, suc, ◌+◌, ◌^◌, ◌<◌, ◌≤◌, ℤ, ◌*ℤ◌, unsigned_abs, List, [], ◌∷◌, ◌++◌, get_or, length, map, refl}
use Rattle.std.proofs.Common.{sym}
use Rattle.std.proofs.Common.{ap, ap₂, subst, ◌∙◌, arith}
use Rattle.std.specs.List.Sorted.{IsStrictlySortedBy}
use Rattle.std.specs.Ordering.{flip_args, nat_cmp}
use Rattle.std.specs.declared.cmp.Ordering.{Ordering}
use Rattle.std.proofs.lemmas.List.{map-append}
use Rattle.std.proofs.lemmas.List.Sums.{sum_by-cons}
use Rattle.sparse_lists.specs.SparseLists.{AllKeys, IsBefore, IsCanonical, canonical}
use Rattle.sparse_lists.proofs.Canonical.{IsCanonical-canonical}
use Rattle.sparse_lists.proofs.NaturalAmounts.{natural_order}
use Rattle.sparse_lists.proofs.Sums.{AllKeys-append, AllKeys-canonical}
use Rattle.mono_store.specs.Monomials.{Powers as NumberedPowers, exponents, monomial_cmp as numbered_cmp, product as numbered_product}
use Rattle.mono_store.proofs.Numbers.{exponents_add}
use Rattle.sparse_lists.specs.Coefficients.{coefficients, Pairs, sum_of as chain_sum}
use Rattle.poly_arena.specs.Orders.{IsFalling, SumsFit}
use Rattle.geo_poly.specs.declared.variables.Var.{Var}
use Rattle.mono_store.specs.Words.{FitsLimits, Limits, limit, powers_of_word, word, word_count}
use Rattle.geo_poly.specs.Monomials.{Powers, exponent, product}
use Rattle.geo_poly.specs.Polynomials.{Summands, multiples, norm_of, sum_of, term_cmp}
use Rattle.geo_poly.specs.Shared.{AllPlaces, named, var_at}
use Rattle.geo_poly.specs.Variables.{var_cmp}
use Rattle.geo_poly.proofs.Gradings.{exponent_grading, top_grade}
use Rattle.geo_poly.proofs.Naming.{canonical-rename, cmp-named, places-product, product-named}
use Rattle.geo_poly.proofs.PolynomialLaws.{unsigned_abs-add-le}
use Rattle.mono_store.proofs.WordDigits.{FitsLimits-powers_of_word, IsCanonical-powers_from, word-below_all, word-powers_of_word}
use Rattle.mono_store.proofs.WordDigits.{monomial_cmp-powers_of_word, word-product}
use Rattle.geo_poly.proofs.WordKeys.{AllPlaces-fits, FitsLimits-named, powers_of_word-add}

-- KEYS THAT STAND FOR MONOMIALS

-- the term that a key with a coefficient stands for
abbrev pub term_by : List Var → (ℕ → NumberedPowers) → ℕ × ℤ → Powers × ℤ
term_by vars powers t = (named vars (powers t.0), t.1)

-- the terms that a list of them stands for
abbrev pub terms_by : List Var → (ℕ → NumberedPowers) → Pairs → Summands
terms_by vars powers pairs = map (term_by vars powers) pairs

-- keys stand for monomials in the variables, in their order
pub record AreKeys (vars : List Var) (powers : ℕ → NumberedPowers) (cmp : ℕ → ℕ → Ordering) (IsKey : ℕ → Type 0) : Type 0 where
  pub places : (k : ℕ) → IsKey k → AllPlaces (length vars) (powers k)
  pub order : (i j : ℕ) → IsKey i → IsKey j → numbered_cmp (powers i) (powers j) ≡ cmp i j

module _ (vars : List Var) (rising : IsStrictlySortedBy var_cmp vars) (powers : ℕ → NumberedPowers) (cmp : ℕ → ℕ → Ordering)
    (IsKey : ℕ → Type 0) (keys : AreKeys vars powers cmp IsKey) where
  same_order : (i j : ℕ) → IsKey i → IsKey j → term_cmp (named vars (powers i)) (named vars (powers j)) ≡ flip_args cmp i j
  same_order i j h g = cmp-named vars rising (powers j) (powers i) (keys.places j g) (keys.places i h) ∙ keys.order j i g h

  before_keys : (k : ℕ) (ts : Pairs) → IsKey k → AllKeys IsKey ts → IsBefore term_cmp (named vars (powers k)) (terms_by vars powers ts)
      → IsBefore (flip_args cmp) k ts
  before_keys k [] h g b = tt
  before_keys k (u ∷ us) h g b = (sym (same_order k u.0 h g.0) ∙ b.0, before_keys k us h g.1 b.1)

  -- the keys of a polynomial fall
  pub falls-terms_by : (ts : Pairs) → AllKeys IsKey ts → IsCanonical term_cmp coefficients (terms_by vars powers ts) → IsFalling cmp ts
  falls-terms_by [] g c = tt
  falls-terms_by (t ∷ ts) g c = (before_keys t.0 ts g.0 g.1 c.1, falls-terms_by ts g.1 c.2)

  -- the merged sum of two chains stands for the sum of what they stand for
  pub terms_by-chain_sum : (xs ys : Pairs) → AllKeys IsKey xs → AllKeys IsKey ys
      → terms_by vars powers (chain_sum cmp xs ys) ≡ sum_of (terms_by vars powers xs) (terms_by vars powers ys)
  terms_by-chain_sum xs ys h g =
      sym (canonical-rename (flip_args cmp) term_cmp coefficients (λ k. named vars (powers k)) IsKey same_order (xs ++ ys)
      (AllKeys-append IsKey xs ys h g))
      ∙ ap (canonical term_cmp coefficients) (map-append (term_by vars powers) xs ys)

  pub keys-chain_sum_by : (xs ys : Pairs) → AllKeys IsKey xs → AllKeys IsKey ys → AllKeys IsKey (chain_sum cmp xs ys)
  keys-chain_sum_by xs ys h g = AllKeys-canonical (flip_args cmp) coefficients IsKey (xs ++ ys) (AllKeys-append IsKey xs ys h g)

module _ (vars : List Var) (powers : ℕ → NumberedPowers) where
  contained-le : (ts : Pairs) (t : ℕ × ℤ) (k : ℕ) → k < length ts → get_or ts k t ≡ t
      → unsigned_abs t.1 ≤ norm_of (terms_by vars powers ts)
  contained-le [] t k within e = absurd (omega arith)
  contained-le (u ∷ us) t zero within e =
      let same : unsigned_abs u.1 ≡ unsigned_abs t.1 = ap (λ (x : ℕ × ℤ). unsigned_abs x.1) e in
      omega (arith, same, sum_by-cons (λ (x : Powers × ℤ). unsigned_abs x.1) (term_by vars powers u) (terms_by vars powers us))
  contained-le (u ∷ us) t (suc k) within e =
      omega (
        arith,
        contained-le us t k (omega arith) e,
        sum_by-cons (λ (x : Powers × ℤ). unsigned_abs x.1) (term_by vars powers u) (terms_by vars powers us),
      )

  -- the norms bound the sums of coefficients
  pub sums_fit_by : (xs ys : Pairs) → norm_of (terms_by vars powers xs) + norm_of (terms_by vars powers ys) < 2 ^ 127 → SumsFit xs ys
  sums_fit_by xs ys fits = λ key a b left right.
      omega (
        arith,
        unsigned_abs-add-le a b,
        contained-le xs (key, a) left.0 left.1 left.2,
        contained-le ys (key, b) right.0 right.1 right.2,
        fits,
      )

-- WORDS

-- the number is below the number of words
pub record IsWord (limits : Limits) (w : ℕ) : Type 0 where
  pub below : w < word_count limits

pub places_of_words : (vars : List Var) (limits : Limits) → length limits ≡ length vars → (w : ℕ)
    → AllPlaces (length vars) (powers_of_word limits w)
places_of_words vars limits same w =
    subst (λ (n : ℕ). AllPlaces n (powers_of_word limits w)) same
    (AllPlaces-fits limits (powers_of_word limits w) (IsCanonical-powers_from 0 limits w) (FitsLimits-powers_of_word limits w))

pub words_are_keys : (vars : List Var) (limits : Limits) → length limits ≡ length vars
    → AreKeys vars (powers_of_word limits) nat_cmp (IsWord limits)
words_are_keys vars limits same = record {
  places = λ w h. places_of_words vars limits same w;
  order = λ a b h g. monomial_cmp-powers_of_word limits a b h.below g.below;
}

module _ (vars : List Var) (rising : IsStrictlySortedBy var_cmp vars) (limits : Limits) (same : length limits ≡ length vars) where
  -- the exponents of a variable in what a word stands for
  abbrev exponent_in : ℕ → ℕ → ℕ
  exponent_in v w = exponent (var_at vars v) (named vars (powers_of_word limits w))

  -- the product of what two words stand for fits, where the sums of the exponents do
  pub FitsLimits-times : (a b : ℕ) → ((v : ℕ) → v < length vars → exponent_in v a + exponent_in v b ≤ limit limits v)
      → FitsLimits limits (numbered_product (powers_of_word limits a) (powers_of_word limits b))
  FitsLimits-times a b fits = FitsLimits-named vars rising limits (numbered_product m n) (places-product vars rising m n at_a at_b) each
    where
      m : NumberedPowers
      m = powers_of_word limits a

      n : NumberedPowers
      n = powers_of_word limits b

      at_a : AllPlaces (length vars) m
      at_a = places_of_words vars limits same a

      at_b : AllPlaces (length vars) n
      at_b = places_of_words vars limits same b

      each : (v : ℕ) → v < length vars → exponent (var_at vars v) (named vars (numbered_product m n)) ≤ limit limits v
      each v known =
          let whole = ap (exponent (var_at vars v)) (sym (product-named vars rising m n at_a at_b)) in
          omega (arith, whole, (exponent_grading (var_at vars v)).adds (named vars m) (named vars n), fits v known)

  -- the sum of two words stands for the product
  pub named-times : (a b : ℕ) → IsWord limits a → IsWord limits b
      → ((v : ℕ) → v < length vars → exponent_in v a + exponent_in v b ≤ limit limits v)
      → named vars (powers_of_word limits (a + b)) ≡ product (named vars (powers_of_word limits a)) (named vars (powers_of_word limits b))
  named-times a b h g fits =
      ap (named vars) (powers_of_word-add limits a b h.below g.below (FitsLimits-times a b fits))
      ∙ sym (product-named vars rising (powers_of_word limits a) (powers_of_word limits b) (places_of_words vars limits same a)
      (places_of_words vars limits same b))

  pub IsWord-times : (a b : ℕ) → IsWord limits a → IsWord limits b
      → ((v : ℕ) → v < length vars → exponent_in v a + exponent_in v b ≤ limit limits v) → IsWord limits (a + b)
  IsWord-times a b h g fits =
      let m = powers_of_word limits a in
      let n = powers_of_word limits b in
      let canonical_product = IsCanonical-canonical nat_cmp exponents natural_order exponents_add (m ++ n) in
      let below : word limits (numbered_product m n) < word_count limits =
      word-below_all limits (numbered_product m n) canonical_product (FitsLimits-times a b fits) in
      record {
        below = omega (arith, below, word-product limits m n, word-powers_of_word limits a h.below, word-powers_of_word limits b g.below);
      }

  -- each word with its coefficient times the one
  abbrev pub word_multiples : ℕ × ℤ → Pairs → Pairs
  word_multiples t us = map (λ u. (t.0 + u.0, t.1 *ℤ u.1)) us

  -- the exponents of the one and of each of the others have room together
  pub record HaveRoom (t : ℕ × ℤ) (us : Pairs) : Type 0 where
    pub exponents : (v : ℕ) → v < length vars
        → exponent_in v t.0 + top_grade (exponent (var_at vars v)) (terms_by vars (powers_of_word limits) us) ≤ limit limits v

  HaveRoom-first : (t u : ℕ × ℤ) (us : Pairs) → HaveRoom t (u ∷ us)
      → (v : ℕ) → v < length vars → exponent_in v t.0 + exponent_in v u.0 ≤ limit limits v
  HaveRoom-first t u us room v known = omega (arith, room.exponents v known)

  HaveRoom-rest : (t u : ℕ × ℤ) (us : Pairs) → HaveRoom t (u ∷ us) → HaveRoom t us
  HaveRoom-rest t u us room = record { exponents = λ v known. omega (arith, room.exponents v known) }

  -- they stand for the multiples of the terms
  pub terms_by-multiples : (t : ℕ × ℤ) (us : Pairs) → IsWord limits t.0 → AllKeys (IsWord limits) us → HaveRoom t us
      → terms_by vars (powers_of_word limits) (word_multiples t us)
      ≡ multiples (term_by vars (powers_of_word limits) t) (terms_by vars (powers_of_word limits) us)
  terms_by-multiples t [] h g room = refl
  terms_by-multiples t (u ∷ us) h g room =
      ap₂ (λ (m : Powers) (rest : Summands). (m, t.1 *ℤ u.1) ∷ rest) (named-times t.0 u.0 h g.0 (HaveRoom-first t u us room))
      (terms_by-multiples t us h g.1 (HaveRoom-rest t u us room))

  pub words-multiples : (t : ℕ × ℤ) (us : Pairs) → IsWord limits t.0 → AllKeys (IsWord limits) us → HaveRoom t us
      → AllKeys (IsWord limits) (word_multiples t us)
  words-multiples t [] h g room = tt
  words-multiples t (u ∷ us) h g room =
      (IsWord-times t.0 u.0 h g.0 (HaveRoom-first t u us room), words-multiples t us h g.1 (HaveRoom-rest t u us room))
