-- Numbers that are told up to a greatest one.
use Rattle.std.proofs.Common.{◌≡◌, ℕ, ◌+◌, ◌*◌, ◌-◌, ◌^◌, ◌<◌, suc, pos, inl, inr, List, [], ◌∷◌, ◌++◌, length, slice_get, Some, option_map, refl, sym, ap, ap₂, ◌∙◌, arith}
use Rattle.std.proofs.lemmas.List.{length-map, length_push}
use Rattle.std.proofs.lemmas.Option.{slice_get-get_or, slice_get-map, slice_get_within}
use Rattle.geo_points.specs.declared.ids.TermId.{TermId}
use Rattle.geo_terms.specs.Stores.{Store, tree_at, trees_of}
use Rattle.geo_terms.specs.Trees.{Tree, integer_leaf}
use Rattle.geo_terms.proofs.Trees.{length-trees_of}
use Rattle.geo_poly.proofs.Capped.{cap_left, cap_right}
use Rattle.fraction_poly.specs.declared.numbers.Numbers.{Numbers}
use Rattle.fraction_poly.specs.Inner.Parts.{AreNumbersOf}
use Rattle.fraction_poly.proofs.Places.{place_cases, slice_get-end, slice_get-front}
use Rattle.fraction_poly.specs.Measures.{numbers_of, capped_number, capped, store_numbers, sum_numbers, product_numbers}

abbrev most : ℕ
most = 2 ^ 128 - 1

pub capped-times : (a b : ℕ) → capped_number (capped_number a * capped_number b) ≡ capped_number (a * b)
capped-times a b = cap_right (capped_number a) b most ∙ cap_left a b most

pub capped-plus : (a b : ℕ) → capped_number (capped_number a + capped_number b) ≡ capped_number (a + b)
capped-plus a b = omega arith

-- sums of products, of capped numbers
pub capped-crossed : (a d b c : ℕ) → capped_number (capped_number a * capped_number d + capped_number b * capped_number c) ≡ capped_number (a * d + b * c)
capped-crossed a d b c =
    sym (capped-plus (capped_number a * capped_number d) (capped_number b * capped_number c))
    ∙ ap₂ (λ x y. capped_number (x + y)) (capped-times a d) (capped-times b c)
    ∙ capped-plus (a * d) (b * c)

-- numbers are the same where each of them is
same_numbers : (a b : Numbers) → a.wn ≡ b.wn → a.wd ≡ b.wd → a.kn ≡ b.kn → a.kd ≡ b.kd → a.gn ≡ b.gn → a.gd ≡ b.gd → a.charge ≡ b.charge → a ≡ b
same_numbers a b wn wd kn kd gn gd charge = λ i. record { wn = wn i; wd = wd i; kn = kn i; kd = kd i; gn = gn i; gd = gd i; charge = charge i }

pub capped-sum : (a b : Numbers) → capped (sum_numbers (capped a) (capped b)) ≡ capped (sum_numbers a b)
capped-sum a b =
    same_numbers (capped (sum_numbers (capped a) (capped b))) (capped (sum_numbers a b))
    (capped-crossed a.wn b.wd b.wn a.wd)
    (capped-times a.wd b.wd)
    (capped-crossed a.kn b.kd b.kn a.kd)
    (capped-times a.kd b.kd)
    (omega arith)
    (omega arith)
    (omega (arith, capped-times a.kn b.kd, capped-times b.kn a.kd, capped-times a.kd b.kd))

pub capped-product : (a b : Numbers) → capped (product_numbers (capped a) (capped b)) ≡ capped (product_numbers a b)
capped-product a b =
    same_numbers (capped (product_numbers (capped a) (capped b))) (capped (product_numbers a b))
    (capped-times a.wn b.wn)
    (capped-times a.wd b.wd)
    (capped-times a.kn b.kn)
    (capped-times a.kd b.kd)
    (omega arith)
    (omega arith)
    (omega (arith, capped-times a.kn b.kn, capped-times a.kd b.kd))

-- the numbers at an index are those of its tree
pub numbers_at : (trees : List Tree) (parts : List Numbers) (e : TermId) (n : Numbers) → AreNumbersOf trees parts → slice_get parts e.0 ≡ Some n → n ≡ capped (numbers_of (tree_at trees e))
numbers_at trees parts e n h at =
    let is : slice_get parts e.0 ≡ Some (capped (numbers_of (tree_at trees e))) = h.each e (slice_get_within parts e.0 n at) in cc

-- the numbers of one tree more
pub AreNumbersOf-push : (trees : List Tree) (parts : List Numbers) (n : Numbers) → AreNumbersOf trees parts
    → n ≡ capped (numbers_of (tree_at trees (record { 0 = length parts }))) → AreNumbersOf trees (parts ++ n ∷ [])
AreNumbersOf-push trees parts n h is = record { each = each }
  where
    each : (e : TermId) → e.0 < length (parts ++ n ∷ []) → slice_get (parts ++ n ∷ []) e.0 ≡ Some (capped (numbers_of (tree_at trees e)))
    each e within =
        elim (place_cases e.0 (length parts) (omega (arith, length_push parts n))) [
          | inl below ↦ slice_get-front parts (n ∷ []) e.0 below ∙ h.each e below
          | inr same ↦ slice_get-end parts n e.0 same ∙ ap Some is ∙ ap (λ k. Some (capped (numbers_of (tree_at trees (record { 0 = k }))))) (sym same)
        ]

same_list : {X : Type 0} (xs ys : List X) → length xs ≡ length ys → ((k : ℕ) → k < length xs → slice_get xs k ≡ slice_get ys k) → xs ≡ ys
same_list [] [] e h = refl
same_list [] (y ∷ ys) e h = absurd (omega (arith, e))
same_list (x ∷ xs) [] e h = absurd (omega (arith, e))
same_list (x ∷ xs) (y ∷ ys) e h =
    let first : x ≡ y = let both : slice_get (x ∷ xs) 0 ≡ slice_get (y ∷ ys) 0 = h 0 (omega arith) in cc in
    ap₂ (λ z zs. z ∷ zs) first (same_list xs ys (omega (arith, e)) (λ k within. h (suc k) (omega (arith, within))))

-- the numbers of all trees of a store
pub numbers_are_all : (nodes : Store) (numbers : List Numbers) → AreNumbersOf (trees_of nodes) numbers → length numbers ≡ length nodes → numbers ≡ store_numbers nodes
numbers_are_all nodes numbers h count =
    let trees = trees_of nodes in
    let measured : Tree → Numbers = λ e. capped (numbers_of e) in
    same_list numbers (store_numbers nodes) (count ∙ sym (length-trees_of nodes) ∙ sym (length-map trees measured))
    (λ k within.
    h.each (record { 0 = k }) within
    ∙ sym (slice_get-map measured trees k ∙ ap (option_map measured) (slice_get-get_or trees k (integer_leaf (pos 0)) (omega (arith, within, count, length-trees_of nodes)))))
