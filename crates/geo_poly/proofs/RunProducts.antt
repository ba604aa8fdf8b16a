-- Products of lists of words as products of runs.
use Rattle.std.proofs.Common.{◌≡◌, ℕ, ◌+◌, ◌*◌, ◌<◌, ◌≤◌, ℤ, ◌*ℤ◌, List, [], ◌∷◌, ◌++◌, map, refl, sym, ap, ap₂, subst, ◌∙◌, unsigned_abs, arith}
use Rattle.std.specs.List.Sorted.{IsStrictlySortedBy}
use Rattle.std.specs.Ordering.{flip_args, nat_cmp}
use Rattle.std.proofs.lemmas.List.Sums.{sum_by-cons}
use Rattle.sparse_lists.specs.SparseLists.{AllKeys, IsBefore, IsCanonical}
use Rattle.sparse_lists.proofs.Sums.{AllKeys-canonical}
use Rattle.mono_store.specs.declared.links.MonoId.{MonoId}
use Rattle.mono_store.specs.Words.{Limits, word_count}
use Rattle.mono_store.proofs.WordDigits.{monomial_cmp-powers_of_word}
use Rattle.sparse_lists.specs.Coefficients.{coefficients, Pairs, scaled}
use Rattle.geo_poly.specs.declared.variables.Var.{Var}
use Rattle.geo_poly.specs.Chained.{indexed_pair}
use Rattle.geo_poly.specs.Inner.Keyed.{AreInReach, IsIndexUnder, term_under, terms_under}
use Rattle.geo_poly.specs.Inner.Words.{word_keys}
use Rattle.geo_poly.specs.Inner.WordSums.{word_multiples, word_products}
use Rattle.geo_poly.specs.Keys.{IsKeyUnder, Keys}
use Rattle.geo_poly.specs.Monomials.{Powers}
use Rattle.geo_poly.specs.Polynomials.{norm_of, polynomial_of, product_of, term_cmp}
use Rattle.geo_poly.specs.Shared.{Indices, named}
use Rattle.geo_poly.specs.Variables.{var_cmp}
use Rattle.geo_poly.proofs.KeyedChains.{chain_indices, chain_terms}
use Rattle.geo_poly.proofs.Naming.{cmp-named}
use Rattle.term_runs.specs.declared.keyed.Keyed.{Keyed}
use Rattle.term_runs.specs.Runs.{IsRun, KeysFit, products, run_of}
use Rattle.term_runs.specs.Runs as runs
use Rattle.geo_poly.proofs.WordProducts.{are_keys, are_products, products_within, terms-canonical}

-- the word and the coefficient of a term
abbrev pub worded : MonoId × ℤ → ℕ × ℤ
worded t = (t.0.0, t.1)

-- THE SAME PRODUCTS
multiples-same : (t : MonoId × ℤ) (us : Indices) → word_multiples t us ≡ scaled t.0.0 t.1 (map worded us)
multiples-same t [] = refl
multiples-same t (u ∷ us) = ap (λ (ps : Pairs). worded (record { 0 = t.0.0 + u.0.0 }, t.1 *ℤ u.1) ∷ ps) (multiples-same t us)

pub products-same : (ts us : Indices) → word_products ts us ≡ products (map worded ts) (map worded us)
products-same [] us = refl
products-same (t ∷ ts) us = ap₂ (λ (ps qs : Pairs). ps ++ qs) (multiples-same t us) (products-same ts us)

pub indexed-worded : (ps : Pairs) → map worded (map indexed_pair ps) ≡ ps
indexed-worded [] = refl
indexed-worded (p ∷ ps) = ap (λ (qs : Pairs). p ∷ qs) (indexed-worded ps)

-- KEYS
keys_front : (P : ℕ → Type 0) (ps qs : Pairs) → AllKeys P (ps ++ qs) → AllKeys P ps
keys_front P [] qs h = tt
keys_front P (p ∷ ps) qs h = (h.0, keys_front P ps qs h.1)

keys_back : (P : ℕ → Type 0) (ps qs : Pairs) → AllKeys P (ps ++ qs) → AllKeys P qs
keys_back P [] qs h = h
keys_back P (p ∷ ps) qs h = keys_back P ps qs h.1

multiple_keys : (n m : ℕ) (p : ℕ × ℤ) (qs : Pairs) → n ≤ m → AllKeys (λ w. w < n) (scaled p.0 p.1 qs) → AllKeys (λ j. p.0 + j < m) qs
multiple_keys n m p [] few h = tt
multiple_keys n m p (q ∷ qs) few h = (omega (arith, h.0, few), multiple_keys n m p qs few h.1)

pub product_keys : (n m : ℕ) (ps qs : Pairs) → n ≤ m → AllKeys (λ w. w < n) (products ps qs) → KeysFit m ps qs
product_keys n m [] qs few h = tt
product_keys n m (p ∷ ps) qs few h = (
  multiple_keys n m p qs few (keys_front (λ w. w < n) (scaled p.0 p.1 qs) (products ps qs) h),
  product_keys n m ps qs few (keys_back (λ w. w < n) (scaled p.0 p.1 qs) (products ps qs) h),
)

module _ (vars : List Var) (rising : IsStrictlySortedBy var_cmp vars) (limits : Limits) where
  abbrev keys : Keys
  keys = word_keys limits

  same_order : (i j : ℕ) → IsKeyUnder vars keys i → IsKeyUnder vars keys j
      → term_cmp (named vars (keys.powers i)) (named vars (keys.powers j)) ≡ flip_args nat_cmp i j
  same_order i j i_in j_in =
      cmp-named vars rising (keys.powers j) (keys.powers i) j_in.places i_in.places ∙ monomial_cmp-powers_of_word limits j i j_in.within i_in.within

  before_words : (t : MonoId × ℤ) (us : Indices) → IsIndexUnder vars keys t.0 → AllKeys (IsIndexUnder vars keys) us
      → IsBefore term_cmp (term_under vars keys t).0 (terms_under vars keys us) → IsBefore (flip_args nat_cmp) t.0.0 (map worded us)
  before_words t [] t_in us_in h = tt
  before_words t (u ∷ us) t_in us_in h = (sym (same_order t.0.0 u.0.0 t_in us_in.0) ∙ h.0, before_words t us t_in us_in.1 h.1)

  pub words_run : (ts : Indices) → AllKeys (IsIndexUnder vars keys) ts → IsCanonical term_cmp coefficients (terms_under vars keys ts) → IsRun (map worded ts)
  words_run [] ts_in h = tt
  words_run (t ∷ ts) ts_in h = (h.0, before_words t ts ts_in.0 ts_in.1 h.1, words_run ts ts_in.1 h.2)

  pub words_norm : (ts : Indices) → runs.norm_of (map worded ts) ≡ norm_of (terms_under vars keys ts)
  words_norm [] = refl
  words_norm (t ∷ ts) =
      omega (
        arith,
        sum_by-cons (λ (x : ℕ × ℤ). unsigned_abs x.1) (worded t) (map worded ts),
        sum_by-cons (λ (x : Powers × ℤ). unsigned_abs x.1) (term_under vars keys t) (terms_under vars keys ts),
        words_norm ts,
      )

  module _ (left right : Indices) (left_in : AllKeys (IsIndexUnder vars keys) left) (right_in : AllKeys (IsIndexUnder vars keys) right)
      (reach : AreInReach vars keys (terms_under vars keys left) (terms_under vars keys right)) where
    pub words_fit : (n m : ℕ) → n ≡ word_count limits → n ≤ m → KeysFit m (map worded left) (map worded right)
    words_fit n m n-is few =
        product_keys n m (map worded left) (map worded right) few
        (subst (AllKeys (λ w. w < n)) (products-same left right) (products_within vars rising limits left right left_in right_in reach n n-is))

    pub norms_fit : (size : ℕ) → norm_of (terms_under vars keys left) * norm_of (terms_under vars keys right) < size
        → runs.norm_of (map worded left) * runs.norm_of (map worded right) < size
    norms_fit size h = omega (arith, ap₂ (λ (a b : ℕ). a * b) (words_norm left) (words_norm right), h)

    module _ (list : Indices) (is : list ≡ map indexed_pair (run_of (products (map worded left) (map worded right)))) where
      abbrev sorted : Pairs
      sorted = run_of (word_products left right)

      listed : list ≡ map indexed_pair sorted
      listed = is ∙ ap (λ (ps : Pairs). map indexed_pair (run_of ps)) (sym (products-same left right))

      pub run_indices : AllKeys (IsIndexUnder vars keys) list
      run_indices =
          chain_indices vars keys list sorted listed
          (AllKeys-canonical (flip_args nat_cmp) coefficients (IsKeyUnder vars keys) (word_products left right) (are_keys vars rising limits left right left_in right_in reach))

      pub run_terms : terms_under vars keys list ≡ product_of (terms_under vars keys left) (terms_under vars keys right)
      run_terms =
          chain_terms vars keys list sorted listed
          ∙ terms-canonical vars rising limits (word_products left right) (are_keys vars rising limits left right left_in right_in reach)
          ∙ ap polynomial_of (are_products vars rising limits left right left_in right_in reach)

-- TERMS OF RUNS
abbrev pub pair_of : Keyed ℕ ℤ → ℕ × ℤ
pair_of t = (t.key, t.coefficient)

abbrev pub keyed_of : MonoId × ℤ → Keyed ℕ ℤ
keyed_of t = record { key = t.0.0; coefficient = t.1 }

abbrev pub indexed_of : Keyed ℕ ℤ → MonoId × ℤ
indexed_of t = (record { 0 = t.key }, t.coefficient)

pub keyed-worded : (ts : Indices) → map pair_of (map keyed_of ts) ≡ map worded ts
keyed-worded [] = refl
keyed-worded (t ∷ ts) = ap (λ (ps : Pairs). worded t ∷ ps) (keyed-worded ts)

pub indexed-pairs : (ks : List (Keyed ℕ ℤ)) → map indexed_of ks ≡ map indexed_pair (map pair_of ks)
indexed-pairs [] = refl
indexed-pairs (k ∷ ks) = ap (λ (is : Indices). indexed_of k ∷ is) (indexed-pairs ks)
