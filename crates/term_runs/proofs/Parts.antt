-- Parts of a list, and what a list of terms says of its parts.
use Rattle.std.proofs.Common.{◌≡◌, ℕ, suc, ◌+◌, ◌-◌, ◌<◌, ◌≤◌, List, [], ◌∷◌, ◌++◌, length, get_or, map, take, drop, zero-add, refl, sym, ap, ap₂, ◌∙◌, arith}
use Rattle.std.specs.Prelude.{slice_range}
use Rattle.std.proofs.lemmas.List.{drop-drop, drop-map, drop-take, length-map, length-append, length-take-le, drop_at, take-append-le, take-map, take-take, take_at}
use Rattle.std.proofs.lemmas.Slice.{between_is}

take_past : {X : Type 0} (p q : List X) (n : ℕ) → take (length p + n) (p ++ q) ≡ p ++ take n q
take_past [] q n = ap (λ m. take m q) (zero-add n)
take_past (x ∷ p) q n =
    let e : suc (length p) + n ≡ suc (length p + n) = omega arith in
    ap (λ m. take m (x ∷ (p ++ q))) e ∙ ap (λ (l : List _). x ∷ l) (take_past p q n)

-- the front of a list, where a part of it was written anew
pub put_front : {X : Type 0} (xs ys post : List X) (a c : ℕ) → a ≤ length xs → c ≤ length ys → take (a + c) (take a xs ++ (ys ++ post)) ≡ take a xs ++ take c ys
put_front xs ys post a c h g =
    ap (λ m. take (m + c) (take a xs ++ (ys ++ post))) (sym (length-take-le a xs h)) ∙ take_past (take a xs) (ys ++ post) c
    ∙ ap (λ (l : List _). take a xs ++ l) (take-append-le c ys post g)

-- what is left of a part behind its beginning
pub range_rest : {X : Type 0} (xs : List X) (b m e : ℕ) → b ≤ m → m ≤ e → drop (m - b) (slice_range xs b e) ≡ slice_range xs m e
range_rest xs b m e h g =
    let whole : e - b ≡ (m - b) + (e - m) = omega arith in
    let place : b + (m - b) ≡ m = omega arith in
    ap (λ n. drop (m - b) (take n (drop b xs))) whole ∙ drop-take (m - b) (e - m) (drop b xs)
    ∙ ap (take (e - m)) (drop-drop (m - b) b xs ∙ ap (λ n. drop n xs) place)

module _ {X Y : Type 0} (f : X → Y) (xs : List X) where
  pub view_take : (b n : ℕ) → b ≤ n → take b (map f (take n xs)) ≡ map f (take b xs)
  view_take b n h = take-map f b (take n xs) ∙ ap (map f) (take-take b n xs h)

  pub view_drop : (m n : ℕ) → drop m (map f (take n xs)) ≡ map f (slice_range xs m n)
  view_drop m n = drop-map f m (take n xs) ∙ ap (map f) (sym (between_is xs m n))

  pub view_range : (b m n : ℕ) → m ≤ n → slice_range (map f (take n xs)) b m ≡ map f (slice_range xs b m)
  view_range b m n h =
      between_is (map f (take n xs)) b m ∙ ap (drop b) (view_take m n h) ∙ drop-map f b (take m xs) ∙ ap (map f) (sym (between_is xs b m))

  pub view_length : (n : ℕ) → n ≤ length xs → length (map f (take n xs)) ≡ n
  view_length n h = length-map (take n xs) f ∙ length-take-le n xs h

  -- the same of a list that is seen as these terms
  module _ (seen : List Y) (n : ℕ) (is : map f (take n xs) ≡ seen) where
    pub seen_take : (b : ℕ) → b ≤ n → take b seen ≡ map f (take b xs)
    seen_take b h = ap (take b) (sym is) ∙ view_take b n h

    pub seen_drop : (m : ℕ) → drop m seen ≡ map f (slice_range xs m n)
    seen_drop m = ap (drop m) (sym is) ∙ view_drop m n

    pub seen_range : (b m : ℕ) → m ≤ n → slice_range seen b m ≡ map f (slice_range xs b m)
    seen_range b m h = ap (λ (ys : List Y). slice_range ys b m) (sym is) ∙ view_range b m n h

-- two lists behind a third, by their places
module _ {Y : Type 0} (front left right : List Y) where
  pub parted_take : take (length front) ((front ++ left) ++ right) ≡ front
  parted_take = take-append-le (length front) (front ++ left) right (omega (arith, length-append front left)) ∙ take_at front left (length front) refl

  pub parted_range : slice_range ((front ++ left) ++ right) (length front) (length (front ++ left)) ≡ left
  parted_range =
      between_is ((front ++ left) ++ right) (length front) (length (front ++ left))
      ∙ ap (drop (length front)) (take_at (front ++ left) right (length (front ++ left)) refl) ∙ drop_at front left (length front) refl

  pub parted_drop : drop (length (front ++ left)) ((front ++ left) ++ right) ≡ right
  parted_drop = drop_at (front ++ left) right (length (front ++ left)) refl

pub one_item : {X : Type 0} (xs : List X) (x : X) → 1 ≤ length xs → length xs < 2 → x ≡ get_or xs 0 x → xs ≡ x ∷ []
one_item [] x some few is = absurd (omega (arith, some))
one_item (y ∷ []) x some few is = ap (λ (z : _). z ∷ []) (sym is)
one_item (y ∷ z ∷ zs) x some few is = absurd (omega (arith, few))

pub two_items : {X : Type 0} (xs : List X) (x y : X) → 2 ≤ length xs → length xs < 3 → x ≡ get_or xs 0 x → y ≡ get_or xs 1 y → xs ≡ x ∷ y ∷ []
two_items [] x y some few is second = absurd (omega (arith, some))
two_items (a ∷ []) x y some few is second = absurd (omega (arith, some))
two_items (a ∷ b ∷ []) x y some few is second = ap₂ (λ (p q : _). p ∷ q ∷ []) (sym is) (sym second)
two_items (a ∷ b ∷ c ∷ zs) x y some few is second = absurd (omega (arith, few))
