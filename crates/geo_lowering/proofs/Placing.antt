-- Points are put in so that the steps of one command are met.
use Rattle.std.proofs.Common.{ℕ, suc, ◌<◌, List, [], ◌∷◌}
use Rattle.ring_laws.specs.Fraction.{Fraction, Same}
use Rattle.geo_points.specs.Placements.{Placement, SamePoint}
use Rattle.geo_points.specs.Points.{Point}
use Rattle.geo_points.specs.Steps.{IsAlong, IsTurned, IsFoot, IsCrossing}
use Rattle.geo_points.proofs.Expressions.{half}
use Rattle.ring_laws.proofs.Fractions.{fractions}
use Rattle.geo_terms.specs.Trees.{Tree, parameter_leaf}
use Rattle.geo_terms.specs.Values.{HasTreeValue, tree_value}
use Rattle.geo_lowering.specs.Lowering.{one_tree, half_tree, two_thirds_tree}
use Rattle.geo_lowering.specs.Relations.{one, two_thirds}
use Rattle.geo_lowering.specs.StepForms.{crossing_of, foot_of, along, turned_along, AreFormsMet}
use Rattle.geo_points.proofs.Same.{crossing-same, foot-same, along-same, turned-same}
use Rattle.geo_lowering.proofs.Puts.{put, puts, kept, first_of, second_of, third_of}
use Rattle.geo_lowering.proofs.Numbers.{half-is, two_thirds-is, three_nonzero}
use Rattle.geo_lowering.proofs.Standing.{two_nonzero}

module _ (n : ℕ) (at : ℕ → Point) (number : ℕ → Fraction) where
  -- the placement with the points of the list at n, n + 1 and so on
  abbrev pub made : List Point → Placement
  made As = record { point = puts at n As; number = number }

  -- A is the point of a number below n
  pub record Near (k : ℕ) (A : Point) : Type 0 where
    pub below : k < n
    pub same : SamePoint A (at k)

  pub near : (As : List Point) (k : ℕ) (A : Point) → Near k A → SamePoint A (puts at n As k)
  near As k A h = kept at n As k A h.below h.same

  -- the term stands for the number, whatever points are put in
  abbrev pub StandsFor : Tree → Fraction → Type 0
  StandsFor e r = (As : List Point) → HasTreeValue (made As) e × Same r (tree_value (made As) e)

  pub one_stands : StandsFor one_tree one
  one_stands As = (tt, fractions.same_refl _)

  pub half_stands : StandsFor half_tree half
  half_stands As = ((tt, tt, two_nonzero), half-is)

  pub two_thirds_stands : StandsFor two_thirds_tree two_thirds
  two_thirds_stands As = ((tt, tt, three_nonzero), two_thirds-is)

  pub number_stands : (k : ℕ) → StandsFor (parameter_leaf (record { 0 = k })) (number k)
  number_stands k As = (tt, fractions.same_refl _)

  -- ---- the shapes of the steps of a command
  pub place_along : (w u v : ℕ) (e : Tree) (W U V : Point) (r : Fraction) (Y : Point) → Near w W → Near u U → Near v V → StandsFor e r → IsAlong W U V r Y
      → AreFormsMet (made (Y ∷ [])) n (along w u v e ∷ [])
  place_along w u v e W U V r Y a b c s h =
      let As = Y ∷ [] in ((((s As).0, along-same _ _ _ _ _ _ _ _ _ _ (near As w W a) (near As u U b) (near As v V c) (s As).1 (first_of at n Y []) h)), tt)

  pub place_turned : (u v : ℕ) (e : Tree) (U V : Point) (r : Fraction) (Y : Point) → Near u U → Near v V → StandsFor e r → IsTurned U V r Y
      → AreFormsMet (made (Y ∷ [])) n (turned_along u v e ∷ [])
  place_turned u v e U V r Y b c s h =
      let As = Y ∷ [] in (((s As).0, turned-same _ _ _ _ _ _ _ _ (near As u U b) (near As v V c) (s As).1 (first_of at n Y []) h), tt)

  pub place_crossing : (u v p q : ℕ) (U V P Q Y : Point) → Near u U → Near v V → Near p P → Near q Q → IsCrossing U V P Q Y
      → AreFormsMet (made (Y ∷ [])) n (crossing_of u v p q ∷ [])
  place_crossing u v p q U V P Q Y a b c d h =
      let As = Y ∷ [] in (crossing-same _ _ _ _ _ _ _ _ _ _ (near As u U a) (near As v V b) (near As p P c) (near As q Q d) (first_of at n Y []) h, tt)

  pub place_foot : (p u v : ℕ) (P U V Y : Point) → Near p P → Near u U → Near v V → IsFoot P U V Y → AreFormsMet (made (Y ∷ [])) n (foot_of p u v ∷ [])
  place_foot p u v P U V Y a b c h =
      let As = Y ∷ [] in (foot-same _ _ _ _ _ _ _ _ (near As p P a) (near As u U b) (near As v V c) (first_of at n Y []) h, tt)

  -- a foot M, and A turned about it
  pub place_reflection : (p u v a : ℕ) (P U V A M Y : Point) → Near p P → Near u U → Near v V → Near a A → IsFoot P U V M → IsAlong M A M one Y
      → AreFormsMet (made (M ∷ Y ∷ [])) n (foot_of p u v ∷ along n a n one_tree ∷ [])
  place_reflection p u v a P U V A M Y h i j k f g =
      let As = M ∷ Y ∷ [] in
      let m = first_of at n M (Y ∷ []) in (
        foot-same _ _ _ _ _ _ _ _ (near As p P h) (near As u U i) (near As v V j) m f,
        ((tt, along-same _ _ _ _ _ _ _ _ _ _ m (near As a A k) m (fractions.same_refl _) (second_of at n M Y []) g), tt),
      )

  -- a point D along, and one turned about it
  pub place_bisector : (a b : ℕ) (A B D E : Point) → Near a A → Near b B → IsAlong A A B half D → IsTurned D B one E
      → AreFormsMet (made (D ∷ E ∷ [])) n (along a a b half_tree ∷ turned_along n b one_tree ∷ [])
  place_bisector a b A B D E h i f g =
      let As = D ∷ E ∷ [] in
      let d = first_of at n D (E ∷ []) in let s = half_stands As in (
        (s.0, along-same _ _ _ _ _ _ _ _ _ _ (near As a A h) (near As a A h) (near As b B i) s.1 d f),
        ((tt, turned-same _ _ _ _ _ _ _ _ d (near As b B i) (fractions.same_refl _) (second_of at n D E []) g), tt),
      )

  -- a point E along from P, and one turned about P
  pub place_upright : (p c d : ℕ) (P C D E G : Point) → Near p P → Near c C → Near d D → IsAlong P C D one E → IsTurned P E one G
      → AreFormsMet (made (E ∷ G ∷ [])) n (along p c d one_tree ∷ turned_along p n one_tree ∷ [])
  place_upright p c d P C D E G h i j f g =
      let As = E ∷ G ∷ [] in
      let e = first_of at n E (G ∷ []) in (
        (tt, along-same _ _ _ _ _ _ _ _ _ _ (near As p P h) (near As c C i) (near As d D j) (fractions.same_refl _) e f),
        ((tt, turned-same _ _ _ _ _ _ _ _ (near As p P h) e (fractions.same_refl _) (second_of at n E G []) g), tt),
      )

  pub place_centroid : (a b c : ℕ) (A B C G Y : Point) → Near a A → Near b B → Near c C → IsAlong B B C half G → IsAlong A A G two_thirds Y
      → AreFormsMet (made (G ∷ Y ∷ [])) n (along b b c half_tree ∷ along a a n two_thirds_tree ∷ [])
  place_centroid a b c A B C G Y h i j f g =
      let As = G ∷ Y ∷ [] in
      let m = first_of at n G (Y ∷ []) in let s = half_stands As in let t = two_thirds_stands As in (
        (s.0, along-same _ _ _ _ _ _ _ _ _ _ (near As b B i) (near As b B i) (near As c C j) s.1 m f),
        ((t.0, along-same _ _ _ _ _ _ _ _ _ _ (near As a A h) (near As a A h) m t.1 (second_of at n G Y []) g), tt),
      )

  pub place_orthocenter : (a b c : ℕ) (A B C D E Y : Point) → Near a A → Near b B → Near c C → IsFoot A B C D → IsFoot B A C E → IsCrossing A D B E Y
      → AreFormsMet (made (D ∷ E ∷ Y ∷ [])) n (foot_of a b c ∷ foot_of b a c ∷ crossing_of a n b (suc n) ∷ [])
  place_orthocenter a b c A B C D E Y h i j f g k =
      let As = D ∷ E ∷ Y ∷ [] in
      let d = first_of at n D (E ∷ Y ∷ []) in let e = second_of at n D E (Y ∷ []) in (
        foot-same _ _ _ _ _ _ _ _ (near As a A h) (near As b B i) (near As c C j) d f,
        (
          foot-same _ _ _ _ _ _ _ _ (near As b B i) (near As a A h) (near As c C j) e g,
          (crossing-same _ _ _ _ _ _ _ _ _ _ (near As a A h) d (near As b B i) e (third_of at n D E Y []) k, tt),
        ),
      )

  -- T turned about O, the foot M of O on the line AT, and A turned about it
  pub place_oncircle : (o a m : ℕ) (O A T M Y : Point) → Near o O → Near a A → IsTurned O A (number m) T → IsFoot O A T M → IsAlong M A M one Y
      → AreFormsMet (made (T ∷ M ∷ Y ∷ [])) n (turned_along o a (parameter_leaf (record { 0 = m })) ∷ foot_of o a n ∷ along (suc n) a (suc n) one_tree ∷ [])
  place_oncircle o a m O A T M Y h i f g k =
      let As = T ∷ M ∷ Y ∷ [] in
      let t = first_of at n T (M ∷ Y ∷ []) in let e = second_of at n T M (Y ∷ []) in (
        (tt, turned-same _ _ _ _ _ _ _ _ (near As o O h) (near As a A i) (fractions.same_refl _) t f),
        (
          foot-same _ _ _ _ _ _ _ _ (near As o O h) (near As a A i) t e g,
          ((tt, along-same _ _ _ _ _ _ _ _ _ _ e (near As a A i) e (fractions.same_refl _) (third_of at n T M Y []) k), tt),
        ),
      )

  -- two bisectors and where they cross
  pub place_circumcenter : (a b c : ℕ) (A B C D E F G Y : Point) → Near a A → Near b B → Near c C
      → IsAlong A A B half D → IsTurned D B one E → IsAlong A A C half F → IsTurned F C one G → IsCrossing D E F G Y
      → AreFormsMet (made (D ∷ E ∷ F ∷ G ∷ Y ∷ [])) n
      (along a a b half_tree ∷ turned_along n b one_tree ∷ along a a c half_tree ∷ turned_along (suc (suc n)) c one_tree ∷ crossing_of n (suc n) (suc (suc n)) (suc (suc (suc n))) ∷ [])
  place_circumcenter a b c A B C D E F G Y h i j d' e' f' g' k =
      let As = D ∷ E ∷ F ∷ G ∷ Y ∷ [] in
      let d = first_of at n D (E ∷ F ∷ G ∷ Y ∷ []) in
      let e = second_of at n D E (F ∷ G ∷ Y ∷ []) in
      let f = third_of at n D E F (G ∷ Y ∷ []) in
      let g = third_of (put at n D) (suc n) E F G (Y ∷ []) in
      let y = third_of (put (put at n D) (suc n) E) (suc (suc n)) F G Y [] in
      let s = half_stands As in (
        (s.0, along-same _ _ _ _ _ _ _ _ _ _ (near As a A h) (near As a A h) (near As b B i) s.1 d d'),
        (
          (tt, turned-same _ _ _ _ _ _ _ _ d (near As b B i) (fractions.same_refl _) e e'),
          (
            (s.0, along-same _ _ _ _ _ _ _ _ _ _ (near As a A h) (near As a A h) (near As c C j) s.1 f f'),
            (
              (tt, turned-same _ _ _ _ _ _ _ _ f (near As c C j) (fractions.same_refl _) g g'),
              (crossing-same _ _ _ _ _ _ _ _ _ _ d e f g y k, tt),
            ),
          ),
        ),
      )
