-- Products of lists of words: they stand for the products of the terms, also part by part.
use Rattle.std.proofs.Common.{◌≡◌, ℕ, ◌+◌, ◌^◌, ◌<◌, ◌≤◌, ℤ, pos, ◌+ℤ◌, ◌*ℤ◌, List, [], ◌∷◌, ◌++◌, append_assoc, get_or, length, map, take, drop}
use Rattle.std.proofs.Common.{refl, sym, ap, ap₂, subst, ◌∙◌, unsigned_abs, arith}
use Rattle.std.specs.List.Sorted.{IsStrictlySortedBy}
use Rattle.std.specs.Ordering.{flip_args, nat_cmp}
use Rattle.std.proofs.lemmas.List.{append-nil, map-append, take-append-drop}
use Rattle.std.proofs.lemmas.List.Sums.{sum_by-append, sum_by-cons}
use Rattle.sparse_lists.specs.SparseLists.{AllKeys, canonical}
use Rattle.sparse_lists.proofs.Merging.{get_or_any}
use Rattle.sparse_lists.proofs.Sums.{AllKeys-append, AllKeys-canonical}
use Rattle.mono_store.specs.declared.links.MonoId.{MonoId}
use Rattle.mono_store.specs.Monomials.{Powers as NumberedPowers, product as numbered_product}
use Rattle.mono_store.specs.Words.{Limits, powers_of_word, word_count}
use Rattle.mono_store.proofs.WordDigits.{monomial_cmp-powers_of_word}
use Rattle.sparse_lists.specs.Coefficients.{coefficients, Pairs}
use Rattle.geo_poly.specs.declared.variables.Var.{Var}
use Rattle.geo_poly.specs.Chained.{indexed_pair, keyed_term_under, keyed_terms_under}
use Rattle.geo_poly.specs.Inner.Keyed.{AreInReach, IsInReach, IsIndexUnder, greatest_exponent, term_under, terms_under}
use Rattle.geo_poly.specs.Inner.Words.{word_keys}
use Rattle.geo_poly.specs.Inner.WordSums.{AreSums, nonzero_below, size_of, sum_at, word_multiples, word_products}
use Rattle.geo_poly.specs.Keys.{IsKeyUnder, Keys}
use Rattle.geo_poly.specs.Monomials.{Powers, exponent, product}
use Rattle.geo_poly.specs.Polynomials.{CanMultiply, Summands, multiples, norm_of, polynomial_of, product_of, products, term_cmp}
use Rattle.geo_poly.specs.Shared.{AllPlaces, Indices, named}
use Rattle.geo_poly.specs.Variables.{var_cmp}
use Rattle.geo_poly.proofs.InReach.{in_reach}
use Rattle.geo_poly.proofs.KeyedChains.{chain_indices, chain_terms}
use Rattle.geo_poly.proofs.Naming.{canonical-rename, cmp-named, places-product, product-named}
use Rattle.geo_poly.proofs.ProductLaws.{norm_of-products}
use Rattle.geo_poly.proofs.Told.{item, take_more}
use Rattle.geo_poly.proofs.WordInstance.{times-below, times-powers}
use Rattle.geo_poly.proofs.WordSums.{nonzero_sums, sum_at-append, sum_at-le}

-- PART BY PART

word_products-append : (xs ys right : Indices) → word_products (xs ++ ys) right ≡ word_products xs right ++ word_products ys right
word_products-append [] ys right = refl
word_products-append (x ∷ xs) ys right =
    ap (λ (ps : Pairs). word_multiples x right ++ ps) (word_products-append xs ys right)
    ∙ sym (append_assoc (word_multiples x right) (word_products xs right) (word_products ys right))

AllKeys-front : (P : ℕ → Type 0) (ps qs : Pairs) → AllKeys P (ps ++ qs) → AllKeys P ps
AllKeys-front P [] qs h = tt
AllKeys-front P (p ∷ ps) qs h = (h.0, AllKeys-front P ps qs h.1)

AllKeys-back : (P : ℕ → Type 0) (ps qs : Pairs) → AllKeys P (ps ++ qs) → AllKeys P qs
AllKeys-back P [] qs h = h
AllKeys-back P (p ∷ ps) qs h = AllKeys-back P ps qs h.1

module _ (left right : Indices) (i : ℕ) (within : i < length left) where
  abbrev t : MonoId × ℤ
  t = item left i

  products-more : word_products (take (i + 1) left) right ≡ word_products (take i left) right ++ word_multiples (item left i) right
  products-more =
      ap (λ (xs : Indices). word_products xs right) (take_more left i t within (get_or_any left i (record { 0 = 0 }, pos 0) t within))
      ∙ word_products-append (take i left) (t ∷ []) right
      ∙ ap (λ (ps : Pairs). word_products (take i left) right ++ ps) (append-nil (word_multiples t right))

  whole : word_products left right ≡ (word_products (take i left) right ++ word_multiples t right) ++ word_products (drop (i + 1) left) right
  whole =
      ap (λ (xs : Indices). word_products xs right) (sym (take-append-drop (i + 1) left))
      ∙ word_products-append (take (i + 1) left) (drop (i + 1) left) right
      ∙ ap (λ (ps : Pairs). ps ++ word_products (drop (i + 1) left) right) products-more

  pub multiples_within : (P : ℕ → Type 0) → AllKeys P (word_products left right) → AllKeys P (word_multiples (item left i) right)
  multiples_within P h =
      AllKeys-back P (word_products (take i left) right) (word_multiples t right)
      (AllKeys-front P (word_products (take i left) right ++ word_multiples t right) (word_products (drop (i + 1) left) right)
      (subst (λ (ps : Pairs). AllKeys P ps) whole h))

  sizes-le : size_of (word_products (take i left) right) + size_of (word_multiples (item left i) right) ≤ size_of (word_products left right)
  sizes-le =
      let size : ℕ × ℤ → ℕ = λ p. unsigned_abs p.1 in
      omega (
        arith,
        ap size_of whole,
        sum_by-append size (word_products (take i left) right ++ word_multiples t right) (word_products (drop (i + 1) left) right),
        sum_by-append size (word_products (take i left) right) (word_multiples t right),
      )

  -- the sums have room for one list of multiples more, and have them then
  module _ (sums : List ℤ) (are : AreSums (word_products (take i left) right) sums) where
    pub room_for : size_of (word_products left right) < 2 ^ 127 → (w : ℕ) → w < length sums
        → unsigned_abs (get_or sums w (pos 0)) + size_of (word_multiples (item left i) right) < 2 ^ 127
    room_for fits w inside = omega (arith, ap unsigned_abs (are.each w inside), sum_at-le w (word_products (take i left) right), sizes-le, fits)

    pub sums_next : (new : List ℤ) → length new ≡ length sums
        → ((w : ℕ) → w < length sums → get_or new w (pos 0) ≡ get_or sums w (pos 0) +ℤ sum_at w (word_multiples (item left i) right))
        → AreSums (word_products (take (i + 1) left) right) new
    sums_next new long added = record {
      each = λ w inside.
          (let within = subst (λ (n : ℕ). w < n) long inside in
          added w within
          ∙ ap (λ (x : ℤ). x +ℤ sum_at w (word_multiples t right)) (are.each w within)
          ∙ sym (sum_at-append w (word_products (take i left) right) (word_multiples t right))
          ∙ ap (sum_at w) (sym products-more));
    }

-- WHAT THEY STAND FOR

module _ (vars : List Var) (rising : IsStrictlySortedBy var_cmp vars) (limits : Limits) where
  abbrev keys : Keys
  keys = word_keys limits

  abbrev power : MonoId → NumberedPowers
  power id = powers_of_word limits id.0

  module _ (p q : Summands) (reach : AreInReach vars keys p q) where
    -- no exponent of the terms is above the greatest of p and of q
    abbrev IsLeft : Summands → Type 0
    IsLeft ts = (v : Var) → greatest_exponent v ts ≤ greatest_exponent v p

    abbrev IsRight : Summands → Type 0
    IsRight us = (v : Var) → greatest_exponent v us ≤ greatest_exponent v q

    module _ (t u : MonoId) (t_in : IsIndexUnder vars keys t) (u_in : IsIndexUnder vars keys u) (t_le : (v : Var) → exponent v (named vars (power t)) ≤ greatest_exponent v p)
        (u_le : (v : Var) → exponent v (named vars (power u)) ≤ greatest_exponent v q) where
      reaches : IsInReach keys (power t) (power u)
      reaches = in_reach vars keys p q reach rising (power t) (power u) t_in.places u_in.places t_le u_le

      powers-is : powers_of_word limits (t.0 + u.0) ≡ numbered_product (power t) (power u)
      powers-is = times-powers limits t.0 u.0 t_in.within u_in.within reaches

      is_key : IsKeyUnder vars keys (t.0 + u.0)
      is_key = record {
        within = times-below limits t.0 u.0 t_in.within u_in.within reaches;
        places = subst (AllPlaces (length vars)) (sym powers-is) (places-product vars rising (power t) (power u) t_in.places u_in.places);
      }

      named-is : named vars (powers_of_word limits (t.0 + u.0)) ≡ product (named vars (power t)) (named vars (power u))
      named-is = ap (named vars) powers-is ∙ sym (product-named vars rising (power t) (power u) t_in.places u_in.places)

    keys-multiples : (t : MonoId × ℤ) (us : Indices) → IsIndexUnder vars keys t.0 → AllKeys (IsIndexUnder vars keys) us
        → ((v : Var) → exponent v (named vars (power t.0)) ≤ greatest_exponent v p) → IsRight (terms_under vars keys us) → AllKeys (IsKeyUnder vars keys) (word_multiples t us)
    keys-multiples t [] h g t_le le = tt
    keys-multiples t (u ∷ us) h g t_le le =
        (is_key t.0 u.0 h g.0 t_le (λ v. omega (arith, le v)), keys-multiples t us h g.1 t_le (λ v. omega (arith, le v)))

    terms-multiples : (t : MonoId × ℤ) (us : Indices) → IsIndexUnder vars keys t.0 → AllKeys (IsIndexUnder vars keys) us
        → ((v : Var) → exponent v (named vars (power t.0)) ≤ greatest_exponent v p) → IsRight (terms_under vars keys us)
        → keyed_terms_under vars keys (word_multiples t us) ≡ multiples (term_under vars keys t) (terms_under vars keys us)
    terms-multiples t [] h g t_le le = refl
    terms-multiples t (u ∷ us) h g t_le le =
        ap₂ (λ (m : Powers) (ts : Summands). (m, t.1 *ℤ u.1) ∷ ts) (named-is t.0 u.0 h g.0 t_le (λ v. omega (arith, le v)))
        (terms-multiples t us h g.1 t_le (λ v. omega (arith, le v)))

    module _ (right : Indices) (right_in : AllKeys (IsIndexUnder vars keys) right) (right_le : IsRight (terms_under vars keys right)) where
      keys-products : (left : Indices) → AllKeys (IsIndexUnder vars keys) left → IsLeft (terms_under vars keys left) → AllKeys (IsKeyUnder vars keys) (word_products left right)
      keys-products [] h le = tt
      keys-products (t ∷ left) h le =
          AllKeys-append (IsKeyUnder vars keys) (word_multiples t right) (word_products left right)
          (keys-multiples t right h.0 right_in (λ v. omega (arith, le v)) right_le) (keys-products left h.1 (λ v. omega (arith, le v)))

      terms-products : (left : Indices) → AllKeys (IsIndexUnder vars keys) left → IsLeft (terms_under vars keys left)
          → keyed_terms_under vars keys (word_products left right) ≡ products (terms_under vars keys left) (terms_under vars keys right)
      terms-products [] h le = refl
      terms-products (t ∷ left) h le =
          map-append (keyed_term_under vars keys) (word_multiples t right) (word_products left right)
          ∙ ap₂ (λ (xs ys : Summands). xs ++ ys) (terms-multiples t right h.0 right_in (λ v. omega (arith, le v)) right_le)
          (terms-products left h.1 (λ v. omega (arith, le v)))

  size_of-terms : (ps : Pairs) → size_of ps ≡ norm_of (keyed_terms_under vars keys ps)
  size_of-terms [] = refl
  size_of-terms (p ∷ ps) =
      omega (
        arith,
        sum_by-cons (λ (t : ℕ × ℤ). unsigned_abs t.1) p ps,
        sum_by-cons (λ (t : Powers × ℤ). unsigned_abs t.1) (keyed_term_under vars keys p) (keyed_terms_under vars keys ps),
        size_of-terms ps,
      )

  -- the canonical list of words stands for the polynomial
  pub terms-canonical : (ps : Pairs) → AllKeys (IsKeyUnder vars keys) ps
      → keyed_terms_under vars keys (canonical (flip_args nat_cmp) coefficients ps) ≡ polynomial_of (keyed_terms_under vars keys ps)
  terms-canonical ps h =
      sym (canonical-rename (flip_args nat_cmp) term_cmp coefficients (λ k. named vars (keys.powers k)) (IsKeyUnder vars keys)
      (λ i j i_in j_in. cmp-named vars rising (keys.powers j) (keys.powers i) j_in.places i_in.places
      ∙ monomial_cmp-powers_of_word limits j i j_in.within i_in.within)
      ps h)

  module _ (left right : Indices) (left_in : AllKeys (IsIndexUnder vars (word_keys limits)) left) (right_in : AllKeys (IsIndexUnder vars (word_keys limits)) right)
      (reach : AreInReach vars (word_keys limits) (terms_under vars (word_keys limits) left) (terms_under vars (word_keys limits) right)) where
    abbrev p : Summands
    p = terms_under vars keys left

    abbrev q : Summands
    q = terms_under vars keys right

    pub are_keys : AllKeys (IsKeyUnder vars keys) (word_products left right)
    are_keys = keys-products p q reach right right_in (λ v. omega arith) left left_in (λ v. omega arith)

    pub are_products : keyed_terms_under vars keys (word_products left right) ≡ products p q
    are_products = terms-products p q reach right right_in (λ v. omega arith) left left_in (λ v. omega arith)

    pub products_within : (n : ℕ) → n ≡ word_count limits → AllKeys (λ w. w < n) (word_products left right)
    products_within n e = go (word_products left right) are_keys
      where
        go : (ps : Pairs) → AllKeys (IsKeyUnder vars keys) ps → AllKeys (λ w. w < n) ps
        go [] h = tt
        go (t ∷ ts) h = (subst (λ (m : ℕ). t.0 < m) (sym e) h.0.within, go ts h.1)

    pub products_fit : CanMultiply (terms_under vars (word_keys limits) left) (terms_under vars (word_keys limits) right) → size_of (word_products left right) < 2 ^ 127
    products_fit fits = omega (arith, size_of-terms (word_products left right), ap norm_of are_products, norm_of-products p q, fits.norm_fits)

    -- the list of the sums that are not 0
    module _ (sums : List ℤ) (list : Indices) (n : ℕ) (n-is : n ≡ word_count limits) (long : length sums ≡ n) (are : AreSums (word_products left right) sums)
        (list-is : list ≡ map indexed_pair (nonzero_below sums (length sums))) where
      abbrev sorted : Pairs
      sorted = canonical (flip_args nat_cmp) coefficients (word_products left right)

      listed : list ≡ map indexed_pair sorted
      listed = list-is ∙ ap (λ (ps : Pairs). map indexed_pair ps) (nonzero_sums sums (word_products left right) are (products_within (length sums) (long ∙ n-is)))

      pub sums_indices : AllKeys (IsIndexUnder vars (word_keys limits)) list
      sums_indices = chain_indices vars keys list sorted listed (AllKeys-canonical (flip_args nat_cmp) coefficients (IsKeyUnder vars keys) (word_products left right) are_keys)

      pub sums_terms : terms_under vars (word_keys limits) list ≡ product_of (terms_under vars (word_keys limits) left) (terms_under vars (word_keys limits) right)
      sums_terms = chain_terms vars keys list sorted listed ∙ terms-canonical (word_products left right) are_keys ∙ ap polynomial_of are_products
