-- The placement of a sketch: its points and numbers, and what a further point adds.
use Rattle.std.proofs.Common.{◌≡◌, ℕ, ℤ, pos, ◌*ℤ◌, unsigned_abs, [], ◌∷◌, sym, ap, subst, lit<}
use Rattle.std.specs.Prelude.{Option, Some, None, slice_get}
use Rattle.ring_laws.specs.Solver.{variable, ◌⊠◌, entry_at}
use Rattle.ring_laws.specs.Fraction.{Fraction, Same, whole}
use Rattle.ring_laws.proofs.Fractions.{fractions}
use Rattle.ring_laws.proofs.Integers.{integers}
use Rattle.ring_laws.proofs.Sound.{agree}
use Rattle.frac_laws.specs.declared.frac.Frac.{Frac}
use Rattle.frac_laws.specs.Numbers.{IsNumber, fraction_of}
use Rattle.geo_points.specs.Placements.{SamePoint}
use Rattle.geo_points.specs.Points.{Point, x_coordinate, y_coordinate}
use Rattle.geo_place.specs.declared.positions.Position.{Position}
use Rattle.geo_place.specs.declared.sketch.Sketch.{Sketch}
use Rattle.geo_place.specs.Inner.{IsPosition, placement_of, point_at}
use Rattle.geo_place.proofs.ResultLaws.{same_of, of_same}

-- POSITIONS
coordinate : (a b c d e : ℤ) → b ≡ d → c ≡ e → a *ℤ (b *ℤ c) ≡ a *ℤ e *ℤ d
coordinate a b c d e h k =
    subst (λ z. a *ℤ (b *ℤ c) ≡ a *ℤ z *ℤ d) k (subst (λ z. a *ℤ (b *ℤ c) ≡ a *ℤ c *ℤ z) h
    (agree integers (entry_at integers (a ∷ b ∷ c ∷ [])) (variable 0 ⊠ (variable 1 ⊠ variable 2)) (variable 0 ⊠ variable 2 ⊠ variable 1) tt))

coordinate' : (a b c d e : ℤ) → b ≡ d → c ≡ e → a *ℤ (b *ℤ c) ≡ a *ℤ d *ℤ e
coordinate' a b c d e h k =
    subst (λ z. a *ℤ (b *ℤ c) ≡ a *ℤ d *ℤ z) k (subst (λ z. a *ℤ (b *ℤ c) ≡ a *ℤ z *ℤ c) h
    (agree integers (entry_at integers (a ∷ b ∷ c ∷ [])) (variable 0 ⊠ (variable 1 ⊠ variable 2)) (variable 0 ⊠ variable 1 ⊠ variable 2) tt))

-- a position is that of its point
pub own_position : (s : Position) → IsPosition s (point_at s)
own_position s = record {
  x = record { crossed = coordinate s.x.num (pos (unsigned_abs s.x.den)) (pos (unsigned_abs s.y.den)) s.x.den s.y.den (sym s.x.positive) (sym s.y.positive) };
  y = record { crossed = coordinate' s.y.num (pos (unsigned_abs s.x.den)) (pos (unsigned_abs s.y.den)) s.x.den s.y.den (sym s.x.positive) (sym s.y.positive) };
}

pub number_same : (r : Frac) (a b : Fraction) → IsNumber r a → IsNumber r b → Same a b
number_same r a b h k = fractions.same_trans _ _ _ (fractions.same_sym _ _ (same_of r a h)) (same_of r b k)

-- two points at one position are the same
pub position_same : (s : Position) (A B : Point) → IsPosition s A → IsPosition s B → SamePoint A B
position_same s A B h k = record { by_x = number_same s.x (x_coordinate A) (x_coordinate B) h.x k.x; by_y = number_same s.y (y_coordinate A) (y_coordinate B) h.y k.y }

own_number : (r : Frac) → IsNumber r (fraction_of r)
own_number r = of_same r (fraction_of r) (fractions.same_refl (fraction_of r))

-- POINTS AND NUMBERS OF A SKETCH
pub point_found : (sketch : Sketch) (k : ℕ) (s : Position) → slice_get sketch.points.items k ≡ Some s → (placement_of sketch).point k ≡ point_at s
unfolding placement_of
point_found sketch k s e = go (slice_get sketch.points.items k) e
  where
    go : (o : Option Position) → o ≡ Some s → elim o [ None ↦ record { x = pos 0; y = pos 0; w = 1; positive = lit< tt } | Some t ↦ point_at t ] ≡ point_at s
    go None q = cc
    go (Some t) q = ap (λ (u : Option Position). elim u [ None ↦ point_at t | Some v ↦ point_at v ]) q

pub position_found : (sketch : Sketch) (k : ℕ) (s : Position) → slice_get sketch.points.items k ≡ Some s → IsPosition s ((placement_of sketch).point k)
position_found sketch k s e = subst (λ A. IsPosition s A) (sym (point_found sketch k s e)) (own_position s)

pub position_past : (sketch : Sketch) (k : ℕ) (s : Position) → slice_get sketch.points.items k ≡ None → IsNumber s.x (whole (pos 0)) → IsNumber s.y (whole (pos 0))
    → IsPosition s ((placement_of sketch).point k)
unfolding placement_of whole
position_past sketch k s e h v = go (slice_get sketch.points.items k) e
  where
    go : (o : Option Position) → o ≡ None → IsPosition s (elim o [ None ↦ record { x = pos 0; y = pos 0; w = 1; positive = lit< tt } | Some t ↦ point_at t ])
    go None q = record { x = record { crossed = h.crossed }; y = record { crossed = v.crossed } }
    go (Some t) q = cc

pub number_found : (sketch : Sketch) (k : ℕ) (r : Frac) → slice_get sketch.numbers.items k ≡ Some r → IsNumber r ((placement_of sketch).number k)
unfolding placement_of
number_found sketch k r e = go (slice_get sketch.numbers.items k) e
  where
    go : (o : Option Frac) → o ≡ Some r → IsNumber r (elim o [ None ↦ whole (pos 0) | Some t ↦ fraction_of t ])
    go None q = cc
    go (Some t) q = let same : t ≡ r = ap (λ (u : Option Frac). elim u [ None ↦ t | Some v ↦ v ]) q in subst (λ u. IsNumber r (fraction_of u)) (sym same) (own_number r)

pub number_past : (sketch : Sketch) (k : ℕ) (r : Frac) → slice_get sketch.numbers.items k ≡ None → IsNumber r (whole (pos 0)) → IsNumber r ((placement_of sketch).number k)
unfolding placement_of
number_past sketch k r e h = go (slice_get sketch.numbers.items k) e
  where
    go : (o : Option Frac) → o ≡ None → IsNumber r (elim o [ None ↦ whole (pos 0) | Some t ↦ fraction_of t ])
    go None q = h
    go (Some t) q = cc
