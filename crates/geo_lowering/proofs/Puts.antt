-- Points put at the numbers n, n + 1 and so on.
use Rattle.std.proofs.Common.{◌≡◌, ℕ, suc, ◌<◌, Bool, true, false, T, eqb, eqb→eq, List, [], ◌∷◌, refl, sym, ◌∙◌, subst, arith}
use Rattle.std.proofs.Math.Dec.{eqb_refl}
use Rattle.geo_points.specs.Points.{Point}
use Rattle.geo_points.specs.Placements.{SamePoint}
use Rattle.geo_points.proofs.Same.{self_point, point_trans}

-- f, but for A at n
unfoldable pub put : (ℕ → Point) → ℕ → Point → ℕ → Point
put f n A m = elim (eqb m n) [ true ↦ A | false ↦ f m ]

pub put_here : (f : ℕ → Point) (n : ℕ) (A : Point) → put f n A n ≡ A
unfolding put
put_here f n A = go (eqb n n) (eqb_refl n)
  where
    go : (b : Bool) → T b → elim b [ true ↦ A | false ↦ f n ] ≡ A
    go true t = refl
    go false t = absurd t

pub put_other : (f : ℕ → Point) (n : ℕ) (A : Point) (m : ℕ) → (m ≡ n → ⊥) → put f n A m ≡ f m
unfolding put
put_other f n A m d = go (eqb m n) (eqb→eq m n)
  where
    go : (b : Bool) → (T b → m ≡ n) → elim b [ true ↦ A | false ↦ f m ] ≡ f m
    go true e = absurd (d (e tt))
    go false e = refl

-- f, but for the points of the list at n, n + 1 and so on
abbrev pub puts : (ℕ → Point) → ℕ → List Point → ℕ → Point
puts f n [] = f
puts f n (A ∷ As) = puts (put f n A) (suc n) As

pub puts_below : (f : ℕ → Point) (n : ℕ) (As : List Point) (m : ℕ) → m < n → puts f n As m ≡ f m
puts_below f n [] m l = refl
puts_below f n (A ∷ As) m l = puts_below (put f n A) (suc n) As m (omega arith) ∙ put_other f n A m (λ e. omega arith)

pub puts_here : (f : ℕ → Point) (n : ℕ) (A : Point) (As : List Point) → puts f n (A ∷ As) n ≡ A
puts_here f n A As = puts_below (put f n A) (suc n) As n (omega arith) ∙ put_here f n A

pub of_path : {A B : Point} → A ≡ B → SamePoint A B
of_path {A} {B} p = subst (λ C. SamePoint A C) p (self_point A)

-- a point below n is the same after the points are put
pub kept : (f : ℕ → Point) (n : ℕ) (As : List Point) (k : ℕ) (A : Point) → k < n → SamePoint A (f k) → SamePoint A (puts f n As k)
kept f n As k A l h = point_trans _ _ _ h (of_path (sym (puts_below f n As k l)))

-- the first points that are put
pub first_of : (f : ℕ → Point) (n : ℕ) (A : Point) (As : List Point) → SamePoint A (puts f n (A ∷ As) n)
first_of f n A As = of_path (sym (puts_here f n A As))

pub second_of : (f : ℕ → Point) (n : ℕ) (A B : Point) (As : List Point) → SamePoint B (puts f n (A ∷ B ∷ As) (suc n))
second_of f n A B As = first_of (put f n A) (suc n) B As

pub third_of : (f : ℕ → Point) (n : ℕ) (A B C : Point) (As : List Point) → SamePoint C (puts f n (A ∷ B ∷ C ∷ As) (suc (suc n)))
third_of f n A B C As = second_of (put f n A) (suc n) B C As
