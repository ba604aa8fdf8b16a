-- The points of one quantity, one after the other.
use Rattle.std.proofs.Common.{◌≡◌, ◌||◌, ◌⊎◌, inl, inr, ⊎_elim, IsTrue, Bool, true, false, Option, refl}
use Rattle.geo_points.specs.declared.ids.PointId.{PointId}
use Rattle.geo_terms.specs.Constructions.{Construction}
use Rattle.geo_logs.specs.Defined.{IsConstructed, is_point}
use Rattle.geo_chain.specs.Inner.Searches.{Improves, IsAsHigh}
use Rattle.geo_chain.proofs.HighestPoints.{by_height}
use Rattle.geo_chain.proofs.Searches.{both}

no_true : {P : Type 0} → IsTrue false → P
no_true h = let q : false ≡ true = h in absurd (cc)

part2 : (i j : Bool) → IsTrue (i || j) → IsTrue j ⊎ IsTrue i
part2 true j h = inr refl
part2 false j h = inl h

rest2 : (i j : Bool) → IsTrue j → IsTrue (i || j)
rest2 true j h = refl
rest2 false j h = h

first2 : (i j : Bool) → IsTrue i → IsTrue (i || j)
first2 true j h = refl
first2 false j h = no_true h

part3 : (i j k : Bool) → IsTrue (i || j || k) → IsTrue (j || k) ⊎ IsTrue i
part3 true j k h = inr refl
part3 false j k h = inl h

rest3 : (i j k : Bool) → IsTrue (j || k) → IsTrue (i || j || k)
rest3 true j k h = refl
rest3 false j k h = h

first3 : (i j k : Bool) → IsTrue i → IsTrue (i || j || k)
first3 true j k h = refl
first3 false j k h = no_true h

part4 : (i j k l : Bool) → IsTrue (i || j || k || l) → IsTrue (j || k || l) ⊎ IsTrue i
part4 true j k l h = inr refl
part4 false j k l h = inl h

rest4 : (i j k l : Bool) → IsTrue (j || k || l) → IsTrue (i || j || k || l)
rest4 true j k l h = refl
rest4 false j k l h = h

first4 : (i j k l : Bool) → IsTrue i → IsTrue (i || j || k || l)
first4 true j k l h = refl
first4 false j k l h = no_true h

module _ (s : Construction) where
  -- a search over the constructed points with the property
  abbrev Over : (PointId → Bool) → Option PointId → Option PointId → Type 0
  Over is x y = Improves IsAsHigh (λ z. IsConstructed s z × IsTrue (is z)) x y

  more : (one rest all : PointId → Bool) (x y z : Option PointId) → ((p : PointId) → IsTrue (all p) → IsTrue (rest p) ⊎ IsTrue (one p))
      → ((p : PointId) → IsTrue (rest p) → IsTrue (all p)) → ((p : PointId) → IsTrue (one p) → IsTrue (all p))
      → Over rest x y → Over one y z → Over all x z
  more one rest all x y z part back there h g =
      both IsAsHigh by_height (λ p. IsConstructed s p × IsTrue (rest p)) (λ p. IsConstructed s p × IsTrue (one p)) (λ p. IsConstructed s p × IsTrue (all p)) x y z
      (λ p k. (k.0, back p k.1)) (λ p k. (k.0, there p k.1))
      (λ p k. ⊎_elim (λ (t : IsTrue (rest p)). let r : (IsConstructed s p × IsTrue (rest p))
      ⊎ (IsConstructed s p × IsTrue (one p)) = inl (k.0, t) in r) (λ (t : IsTrue (one p)). inr (k.0, t)) (part p k.1)) h g

  pub of_three : (a b c : PointId) (x y z w : Option PointId) → Over (is_point c) x y → Over (is_point b) y z → Over (is_point a) z w
      → Over (λ p. is_point a p || is_point b p || is_point c p) x w
  of_three a b c x y z w h g k =
      more (is_point a) (λ p. is_point b p || is_point c p) (λ p. is_point a p || is_point b p || is_point c p) x z w
      (λ p. part3 (is_point a p) (is_point b p) (is_point c p)) (λ p. rest3 (is_point a p) (is_point b p) (is_point c p)) (λ p. first3 (is_point a p) (is_point b p) (is_point c p))
      (more (is_point b) (is_point c) (λ p. is_point b p || is_point c p) x y z
      (λ p. part2 (is_point b p) (is_point c p)) (λ p. rest2 (is_point b p) (is_point c p)) (λ p. first2 (is_point b p) (is_point c p)) h g) k

  pub of_four : (a b c d : PointId) (x y z w u : Option PointId) → Over (is_point d) x y → Over (is_point c) y z → Over (is_point b) z w → Over (is_point a) w u
      → Over (λ p. is_point a p || is_point b p || is_point c p || is_point d p) x u
  of_four a b c d x y z w u h g k l =
      more (is_point a) (λ p. is_point b p || is_point c p || is_point d p) (λ p. is_point a p || is_point b p || is_point c p || is_point d p) x w u
      (λ p. part4 (is_point a p) (is_point b p) (is_point c p) (is_point d p)) (λ p. rest4 (is_point a p) (is_point b p) (is_point c p) (is_point d p))
      (λ p. first4 (is_point a p) (is_point b p) (is_point c p) (is_point d p)) (of_three b c d x y z w h g k) l
