-- The multiples of a list of words, added to the sums one by one.
use Rattle.std.proofs.Common.{◌≡◌, ◌≢◌, ℕ, ◌+◌, ◌^◌, ◌<◌, ◌≤◌, ℤ, pos, ◌+ℤ◌, ◌*ℤ◌, List, [], ◌∷◌, ◌++◌, get_or, length, map, take}
use Rattle.std.proofs.Common.{refl, sym, ap, subst, ◌∙◌, unsigned_abs, FitsSigned, arith}
use Rattle.std.specs.Int.{w128}
use Rattle.std.specs.Ordering.{nat_cmp}
use Rattle.std.specs.declared.cmp.Ordering.{Ordering}
use Rattle.std.specs.declared.cmp.Ordering.TheVariants.{Less, Equal, Greater}
use Rattle.std.proofs.lemmas.Int.{fits_signed_from_abs}
use Rattle.std.proofs.lemmas.List.{get_or-map, length-map, map-append, take-map}
use Rattle.std.proofs.lemmas.List.Sums.{sum_by_more_le}
use Rattle.sparse_lists.specs.SparseLists.{AllKeys}
use Rattle.sparse_lists.proofs.Merging.{get_or_any}
use Rattle.sparse_lists.proofs.NaturalAmounts.{natural_order}
use Rattle.sparse_lists.proofs.Sums.{AllKeys-at}
use Rattle.mono_store.specs.declared.links.MonoId.{MonoId}
use Rattle.geo_poly.specs.Inner.WordSums.{size_of, sum_at, word_multiples}
use Rattle.geo_poly.specs.Shared.{Indices}
use Rattle.sparse_lists.proofs.Coefficients.{coefficients_add}
use Rattle.geo_poly.proofs.PolynomialLaws.{unsigned_abs-add-le}
use Rattle.geo_poly.proofs.Told.{item, take_more}
use Rattle.geo_poly.proofs.WordSums.{sum_at-append, sum_at-here, sum_at-le, sum_at-other}

module _ (t : MonoId × ℤ) (list : Indices) (i : ℕ) (within : i < length list) where
  abbrev times : MonoId × ℤ → ℕ × ℤ
  times u = (t.0.0 + u.0.0, t.1 *ℤ u.1)

  abbrev u : MonoId × ℤ
  u = item list i

  abbrev size : ℕ × ℤ → ℕ
  size p = unsigned_abs p.1

  at : u ≡ get_or list i u
  at = get_or_any list i (record { 0 = 0 }, pos 0) u within

  stands : times u ≡ get_or (map times list) i (times u)
  stands = ap times at ∙ sym (get_or-map times list i u (times u) within)

  long : i < length (map times list)
  long = omega (arith, length-map {B = ℕ × ℤ} list times)

  more : word_multiples t (take (i + 1) list) ≡ word_multiples t (take i list) ++ times u ∷ []
  more = ap (map times) (take_more list i u within at) ∙ map-append times (take i list) (u ∷ [])

  sizes-le : size_of (word_multiples t (take i list)) + unsigned_abs (t.1 *ℤ (item list i).1) ≤ size_of (word_multiples t list)
  sizes-le =
      let part = ap size_of (take-map times i list) in
      omega (arith, part, ap size stands, sum_by_more_le size (map times list) i (times u) long)

  pub word_within : (n : ℕ) → AllKeys (λ w. w < n) (word_multiples t list) → t.0.0 + (item list i).0.0 < n
  word_within n h = AllKeys-at (λ w. w < n) (map times list) i (times u) long stands h

  module _ (first : List ℤ) (room : (w : ℕ) → w < length first → unsigned_abs (get_or first w (pos 0)) + size_of (word_multiples t list) < 2 ^ 127)
      (words : AllKeys (λ w. w < length first) (word_multiples t list)) where
    abbrev k : ℕ
    k = t.0.0 + (item list i).0.0

    pub product_fits : FitsSigned w128 (t.1 *ℤ (item list i).1)
    product_fits = fits_signed_from_abs w128 (t.1 *ℤ u.1) (omega (arith, sizes-le, room k (word_within (length first) words)))

    module _ (now : List ℤ) (sums : (w : ℕ) → w < length first → get_or now w (pos 0) ≡ get_or first w (pos 0) +ℤ sum_at w (word_multiples t (take i list)))
        (z : ℤ) (z-is : z ≡ t.1 *ℤ (item list i).1) where
      pub sum_fits : unsigned_abs (get_or now (t.0.0 + (item list i).0.0) (pos 0)) + unsigned_abs z < 2 ^ 127
      sum_fits =
          let inside = word_within (length first) words in
          omega (
            arith,
            ap unsigned_abs z-is,
            ap unsigned_abs (sums k inside),
            unsigned_abs-add-le (get_or first k (pos 0)) (sum_at k (word_multiples t (take i list))),
            sum_at-le k (word_multiples t (take i list)),
            sizes-le,
            room k inside,
          )

      module _ (new : List ℤ) (place : get_or new (t.0.0 + (item list i).0.0) (pos 0) ≡ get_or now (t.0.0 + (item list i).0.0) (pos 0) +ℤ z)
          (others : (w : ℕ) → w ≢ t.0.0 + (item list i).0.0 → get_or new w (pos 0) ≡ get_or now w (pos 0)) where
        pub sums_more : (w : ℕ) → w < length first → get_or new w (pos 0) ≡ get_or first w (pos 0) +ℤ sum_at w (word_multiples t (take (i + 1) list))
        sums_more w inside =
            one ∙ coefficients_add.assoc (get_or first w (pos 0)) (sum_at w (word_multiples t (take i list))) (sum_at w (times u ∷ []))
            ∙ ap (λ (x : ℤ). get_or first w (pos 0) +ℤ x) (sym (ap (sum_at w) more ∙ sum_at-append w (word_multiples t (take i list)) (times u ∷ [])))
          where
            here : get_or new k (pos 0) ≡ get_or now k (pos 0) +ℤ sum_at k (times u ∷ [])
            here = place ∙ ap (λ (x : ℤ). get_or now k (pos 0) +ℤ x) (z-is ∙ sym (sum_at-here k (t.1 *ℤ u.1)))

            elsewhere : w ≢ k → get_or new w (pos 0) ≡ get_or now w (pos 0) +ℤ sum_at w (times u ∷ [])
            elsewhere other =
                others w other ∙ sym (coefficients_add.zero-add (get_or now w (pos 0))) ∙ coefficients_add.comm (pos 0) (get_or now w (pos 0))
                ∙ ap (λ (x : ℤ). get_or now w (pos 0) +ℤ x) (sym (sum_at-other w k (t.1 *ℤ u.1) other))

            by : (o : Ordering) → nat_cmp w k ≡ o → get_or new w (pos 0) ≡ get_or now w (pos 0) +ℤ sum_at w (times u ∷ [])
            by Less e = elsewhere (λ same. (let self : Equal ≡ Less = sym (natural_order.self w) ∙ ap (nat_cmp w) same ∙ e in absurd (cc)))
            by Equal e =
                subst (λ (v : ℕ). get_or new v (pos 0) ≡ get_or now v (pos 0) +ℤ sum_at v (times u ∷ [])) (sym (natural_order.exact w k e)) here
            by Greater e = elsewhere (λ same. (let self : Equal ≡ Greater = sym (natural_order.self w) ∙ ap (nat_cmp w) same ∙ e in absurd (cc)))

            one : get_or new w (pos 0) ≡ (get_or first w (pos 0) +ℤ sum_at w (word_multiples t (take i list))) +ℤ sum_at w (times u ∷ [])
            one = by (nat_cmp w k) refl ∙ ap (λ (x : ℤ). x +ℤ sum_at w (times u ∷ [])) (sums w inside)
